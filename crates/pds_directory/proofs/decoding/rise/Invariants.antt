use Rattle.std.proofs.Common.{◌≡◌, drop}
use Rattle.pack_spec.specs.Directories.{rise_from}
use Rattle.pds_directory.proofs.decoding.rise.Given as goal

abbrev pub invariant-loop-entry : goal.invariant-loop-entry
invariant-loop-entry l = rise_from 0 l.entries ≡ rise_from l.bound (drop l.entry-index l.entries)
