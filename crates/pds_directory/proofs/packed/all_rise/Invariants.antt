use Rattle.std.proofs.Common.{◌≡◌, drop, map, vec_items}
use Rattle.chain_spec.specs.Kept.{joined}
use Rattle.pack_spec.specs.Directories.{rise_from}
use Rattle.pds_directory.proofs.packed.all_rise.Given as goal

abbrev pub invariant-loop-block : goal.invariant-loop-block
invariant-loop-block l = rise_from 0 (joined (map vec_items l.blocks)) ≡ rise_from l.bound (joined (map vec_items (drop l.block-index l.blocks)))
