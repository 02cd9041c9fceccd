use Rattle.std.proofs.Common.{◌≡◌, ◌∙◌, ℕ, List, ap, length, subst, sym, take}
use Rattle.space_alloc.specs.Units.{listed}
use Rattle.vol_model.specs.declared.contents.Run.{Run}
use Rattle.vol_model.specs.Space.{EndBy}
use Rattle.dadsm_ops.specs.Allocating.{cut_by}
use Rattle.dadsm_ops.proofs.CutRuns.{cut_by_without, extents_within}
use Rattle.dadsm_ops.proofs.NewPlans.{free_within}
use Rattle.dadsm_ops.proofs.planning.runs_left.Goals as goal

pub count_without-requires-clause-within : goal.count_without-requires-clause-within
count_without-requires-clause-within c = subst (EndBy 65535) (sym c.deref.ensures.value) (free_within c.args.vol.now c.requires.unit)

pub count_without-requires-clause-taken_within : goal.count_without-requires-clause-taken_within
count_without-requires-clause-taken_within c = rw c.from.ensures (extents_within (listed c.args.extents.now) c.requires.written)

pub returns : goal.returns
returns c =
    let e = c.args.extents.now in
    let runs = listed e in
    let free = c.args.vol.now.free.items in
    let many : c.count_without.result ≡ length (cut_by runs free) = c.count_without.ensures ∙ ap (λ (n : ℕ). length (cut_by (take n e.runs) c.deref.result.now)) c.from.ensures ∙ ap (λ (l : List Run). length (cut_by runs l)) c.deref.ensures.value in
    (cut_by runs free, cut_by_without runs free c.requires.written c.requires.unit.1.free.0, many)
