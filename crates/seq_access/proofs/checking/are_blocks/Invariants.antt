use Rattle.std.proofs.Common.{◌≡◌, true, take}
use Rattle.std.specs.List.{list_all}
use Rattle.pack_spec.specs.Blocks.{is_block}
use Rattle.seq_access.proofs.checking.are_blocks.Given as goal

abbrev pub invariant-loop-passed : goal.invariant-loop-passed
invariant-loop-passed l = list_all is_block (take l.passed l.buf.records) ≡ true
