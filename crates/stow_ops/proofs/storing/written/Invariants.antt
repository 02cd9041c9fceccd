use Rattle.std.proofs.Common.{◌≡◌, ◌<◌, ℕ, List, length, map}
use Rattle.std.specs.Prelude.{vec_items}
use Rattle.std.specs.List.{AllByRecursion}
use Rattle.std.specs.Vec.Iter.{into_iter_items, into_iter_len}
use Rattle.sorted_chain.specs.Plan.{write_of}
use Rattle.vol_model.specs.declared.contents.Entry.{Entry}
use Rattle.stow_ops.specs.Stores.{with_writes}
use Rattle.stow_ops.proofs.storing.written.Given as goal

abbrev pub invariant-loop-at : goal.invariant-loop-at
invariant-loop-at l =
    (with_writes (map write_of (into_iter_items l.at-iterator)) (map vec_items l.blocks.items)
    ≡ with_writes (map write_of (into_iter_items l.initial.at-iterator)) (map vec_items l.initial.blocks.items))
    × AllByRecursion (λ (w : ℕ × List Entry). w.0 < length l.blocks.items) (map write_of (into_iter_items l.at-iterator))
    × (into_iter_len l.at-iterator ≡ length (into_iter_items l.at-iterator))
