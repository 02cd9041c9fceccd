use Rattle.std.proofs.Common.{◌≡◌, false, take}
use Rattle.std.specs.List.{list_any}
use Rattle.pack_spec.specs.Directories.{is_end_record}
use Rattle.pds_directory.proofs.ends.reached_in.Given as goal

abbrev pub invariant-loop-before : goal.invariant-loop-before
invariant-loop-before l = list_any is_end_record (take l.before l.buf.records) ≡ false
