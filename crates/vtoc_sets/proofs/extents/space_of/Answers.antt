use Rattle.std.proofs.Common.{◌+◌, ◌∙◌, ℕ, arith, subst, sym}
use Rattle.vtoc_sets.specs.declared.extents.Space.{Space}
use Rattle.vtoc_sets.proofs.CountedSpace.{IsCounted, counted_all, counted_none, counted_some}
use Rattle.vtoc_sets.proofs.extents.space_of.Goals.{in-Some, in_default}
use Rattle.vtoc_sets.proofs.extents.space_of.Goals as goal

pub loop-k-preserved : goal.loop-k-preserved
loop-k-preserved c =
    elim c.match-run_at.branch [
      | in-Some w ↦ subst (λ (s : Space). IsCounted c.args.vol.now c.args.set.now (c.loop-k.k + 1) s.extents s.tracks) (sym w.space-is)
          (subst (λ (n : ℕ). IsCounted c.args.vol.now c.args.set.now (c.loop-k.k + 1) (c.loop-k.space.extents + 1) (c.loop-k.space.tracks + n)) (sym w.from.ensures)
          (counted_some c.args.vol.now c.args.set.now c.loop-k.k c.loop-k.space.extents c.loop-k.space.tracks c.loop-k.invariant w.in-Some.run' (omega arith) (λ image set. sym w.in-Some.is ∙ c.run_at.ensures image set)))
      | in_default w ↦ subst (λ (s : Space). IsCounted c.args.vol.now c.args.set.now (c.loop-k.k + 1) s.extents s.tracks) (sym w.space-is)
          (counted_none c.args.vol.now c.args.set.now c.loop-k.k c.loop-k.space.extents c.loop-k.space.tracks c.loop-k.invariant (λ image set. sym w.in_default.is ∙ c.run_at.ensures image set))
    ]

pub returns-clause-extents : goal.returns-clause-extents
returns-clause-extents c image set = (counted_all c.args.vol.now c.args.set.now c.loop-k.k c.loop-k.space.extents c.loop-k.space.tracks (omega arith) c.loop-k.invariant image set).0

pub returns-clause-tracks : goal.returns-clause-tracks
returns-clause-tracks c image set = (counted_all c.args.vol.now c.args.set.now c.loop-k.k c.loop-k.space.extents c.loop-k.space.tracks (omega arith) c.loop-k.invariant image set).1
