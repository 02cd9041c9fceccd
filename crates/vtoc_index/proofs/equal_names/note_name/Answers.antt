-- A new name is noted, and the others stay.
use Rattle.std.proofs.Common.{Bool, cond, Some, sym, ap, ◌∙◌}
use Rattle.std.specs.BTreeMap.{get}
use Rattle.std.specs.Cmp.Lexicographic.{slice_cmp}
use Rattle.std.specs.Ordering.{nat_cmp}
use Rattle.std.proofs.lemmas.Map.Text.{is_eq-slice_cmp}
use Rattle.vtoc_index.proofs.NameFaults.{named_by}
use Rattle.vtoc_index.proofs.equal_names.note_name.Goals as goal

pub returns-in_ok-insert-in-Some-clause-noted : goal.returns-in_ok-insert-in-Some-clause-noted
returns-in_ok-insert-in-Some-clause-noted c same name =
    c.in_ok-insert-in-Some.ensures.updates.0 name
    ∙ ap (λ (b : Bool). cond b (Some c.args.number) (get (slice_cmp nat_cmp) c.args.lowest.now name)) (is_eq-slice_cmp c.in-Some.name name ∙ sym (named_by c.in-Some.name name c.args.slot.now.content c.in-Some.ensures))
