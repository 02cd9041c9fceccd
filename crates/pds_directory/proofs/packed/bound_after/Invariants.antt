use Rattle.std.proofs.Common.{◌≡◌, ◌++◌, List, drop}
use Rattle.pack_spec.specs.Directories.{rise_from}
use Rattle.vol_model.specs.declared.contents.Entry.{Entry}
use Rattle.pds_directory.proofs.packed.bound_after.Given as goal

abbrev pub invariant-loop-entry : goal.invariant-loop-entry
invariant-loop-entry l = (more : List Entry) → rise_from l.fn.bound (l.entries ++ more) ≡ rise_from l.next (drop l.entry-index l.entries ++ more)
