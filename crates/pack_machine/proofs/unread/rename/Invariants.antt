use Rattle.std.proofs.Common.{◌≡◌, ◌++◌, map}
use Rattle.std.specs.Prelude.{drop, take}
use Rattle.pack_machine.specs.Unread.{renamed_in}
use Rattle.pack_machine.proofs.unread.rename.Given as goal

abbrev pub invariant-loop-entry : goal.invariant-loop-entry
invariant-loop-entry l = l.entry-items ≡ map (renamed_in l.fn.old.bytes l.fn.new) (take l.entry-index l.initial.entry-items) ++ drop l.entry-index l.initial.entry-items
