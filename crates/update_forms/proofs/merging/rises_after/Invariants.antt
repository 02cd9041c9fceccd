use Rattle.std.proofs.Common.{◌≡◌, drop}
use Rattle.update_forms.specs.Editing.{rises_after}
use Rattle.update_forms.specs.Records.{records_in}
use Rattle.update_forms.proofs.merging.rises_after.Given as goal

-- whether all rise is whether those that are left rise after the last one
abbrev pub invariant-loop-next : goal.invariant-loop-next
invariant-loop-next l = rises_after l.card.bytes (records_in l.others) ≡ rises_after l.last.bytes (records_in (drop l.next-index l.others))
