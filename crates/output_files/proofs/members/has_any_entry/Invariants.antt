use Rattle.std.proofs.Common.{◌≡◌, List, length, Ok}
use Rattle.std.specs.List.{list_any}
use Rattle.ebcdic_names.specs.declared.names.Name8.{Name8}
use Rattle.vol_model.specs.declared.contents.Entry.{Entry}
use Rattle.vol_model.specs.declared.contents.Shelf.{Shelf}
use Rattle.vol_model.specs.Reading.{entries_in}
use Rattle.vol_model.specs.Shelf.{has_member}
use Rattle.vol_model.specs.Writing.{body_on}
use Rattle.util_steps.specs.Taking.{Reads}
use Rattle.output_files.proofs.members.has_any_entry.Given as goal

abbrev pub invariant-loop-parts : goal.invariant-loop-parts
invariant-loop-parts g l = record {
  read : Reads {T = Unit {0}} g.M.Machine (λ (shelf : Shelf) u. (es : List Entry) → entries_in (body_on shelf l.set.v l.set.dsn.bytes) ≡ Ok es → list_any (λ (a : Name8). has_member a.bytes es) l.names ≡ list_any (λ (a : Name8). has_member a.bytes es) l.rest) l.fn.machine l.machine (Ok tt);
}

abbrev pub decreases-loop-parts : goal.decreases-loop-parts
decreases-loop-parts g l = length l.rest
