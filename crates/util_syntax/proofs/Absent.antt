-- A piece that others follow is not absent.
use Rattle.std.proofs.Common.{◌≡◌, Bool, false, List, ap}
use Rattle.std.specs.List.{slice_split}
use Rattle.card_text.specs.declared.nesting.Mark.{Mark}
use Rattle.card_text.specs.Nesting.{is_separator}
use Rattle.util_syntax.specs.Operands.{is_absent}
use Rattle.card_text.proofs.Lists.{parts_of_any}

pub not_absent : (missing : Bool) (text rest : List Mark) → is_absent missing text (slice_split (is_separator 0) rest) ≡ false
not_absent missing text rest = ap (is_absent missing text) (parts_of_any (is_separator 0) rest).2
