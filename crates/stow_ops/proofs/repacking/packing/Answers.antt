use Rattle.std.proofs.Common.{◌≡◌, ◌∙◌, length, map, vec_items, ap, arith}
use Rattle.chain_spec.specs.Kept.{joined, kept}
use Rattle.pack_spec.specs.Directories.{name_number}
use Rattle.pds_directory.specs.Directories.{entries_read}
use Rattle.stow_ops.proofs.ReadLists.{kept_for}
use Rattle.stow_ops.proofs.repacking.packing.Goals as goal

pub plan-requires-clause-few_new : goal.plan-requires-clause-few_new
plan-requires-clause-few_new c =
    let list : c.in_ok-entries.entries.items ≡ kept name_number (joined (entries_read c.args.dir)) = c.in_ok-entries.ensures ∙ ap (λ bs. kept name_number (joined (map vec_items bs))) c.deref.ensures.value in
    omega (arith, (kept_for c.args.dir c.requires c.in_ok-entries.entries.items list).few, ap length c.deref-3.ensures.value)
