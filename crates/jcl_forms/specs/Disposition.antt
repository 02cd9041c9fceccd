-- DISP.
use Rattle.std.specs.Prelude.{ℕ, ◌==◌, ◌||◌, if◌then◌else◌, List, codes, length, Option, Some, None, option_map, option_and_then}
use Rattle.jcl_forms.specs.Parts.{is_text, before, others, items}
use Rattle.jcl_forms.specs.declared.disposition.DdStatus.{DdStatus}
use Rattle.jcl_forms.specs.declared.disposition.DdStatus.TheVariants.{New, Old, Shr, Mod}
use Rattle.jcl_forms.specs.declared.disposition.DdAfter.{DdAfter}
use Rattle.jcl_forms.specs.declared.disposition.DdAfter.TheVariants.{Delete, Keep, Catlg, Uncatlg}

-- NEW where it is missing
unfoldable pub status_of : List ℕ → Option DdStatus
status_of word =
    if (length word == 0) || is_text (codes "NEW") word then Some New
    else (if is_text (codes "OLD") word then Some Old
    else (if is_text (codes "SHR") word then Some Shr
    else (if is_text (codes "MOD") word then Some Mod
    else None)))

-- DELETE for NEW and KEEP otherwise
abbrev pub default_after : DdStatus → DdAfter
default_after New = Delete
default_after Old = Keep
default_after Shr = Keep
default_after Mod = Keep

unfoldable pub named_after : List ℕ → Option DdAfter
named_after word =
    if is_text (codes "DELETE") word then Some Delete
    else (if is_text (codes "KEEP") word then Some Keep
    else (if is_text (codes "CATLG") word then Some Catlg
    else (if is_text (codes "UNCATLG") word then Some Uncatlg
    else None)))

-- the default where it is missing
unfoldable pub after_of : DdStatus → List ℕ → Option DdAfter
after_of status word = if length word == 0 then Some (default_after status) else named_after word

-- the status that a value of DISP gives, and what becomes of the set after the step
unfoldable pub disposition_of : List ℕ → Option (DdStatus × DdAfter)
disposition_of text =
    if length text == 0 then None
    else option_and_then (λ status. option_map (λ after. (status, after)) (after_of status (others (items text)))) (status_of (before 44 (items text)))
