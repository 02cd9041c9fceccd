use Rattle.std.proofs.Common.{◌+◌, ◌∙◌, ◌≡◌, ℕ, List, ap, arith, subst, sym}
use Rattle.std.specs.Prelude.{slice_set}
use Rattle.std.proofs.lemmas.List.{length-set}
use Rattle.pack_spec.specs.Slots.{slots_of_vtoc}
use Rattle.vol_model.specs.declared.contents.Run.{Run}
use Rattle.vtoc_sets.specs.Sets.{extents_in}
use Rattle.dadsm_ops.proofs.FreedLists.{AreRead, HaveFirst, first_all, first_more, first_none, first_set, read_more, read_none, read_set}
use Rattle.dadsm_ops.proofs.scratching.runs_of.Goals.{in-Some, in_default}
use Rattle.dadsm_ops.proofs.scratching.runs_of.Goals as goal

pub loop-k-init : goal.loop-k-init
loop-k-init c = record { read = read_none; first = λ image set. first_none (extents_in image c.args.vol.now c.args.set.now) }

pub loop-k-preserved : goal.loop-k-preserved
loop-k-preserved c =
    let runs = c.loop-k.runs in
    let k = c.loop-k.k in
    elim c.match-run_at.branch [
      | in-Some w ↦
          let same : c.match-run_at.runs ≡ slice_set runs k w.in-Some.run' = w.runs-is ∙ ap (λ (n : ℕ). slice_set runs n w.in-Some.run') w.from.ensures in
          record {
            read = subst (λ (rs : List Run). AreRead rs (k + 1)) (sym same) (read_set runs k w.in-Some.run' c.loop-k-test.true (length-set runs k w.in-Some.run') c.loop-k.invariant.read);
            first = λ image set. subst (λ (rs : List Run). HaveFirst rs (k + 1) (extents_in image c.args.vol.now c.args.set.now)) (sym same)
                (first_set runs k w.in-Some.run' (extents_in image c.args.vol.now c.args.set.now) c.loop-k-test.true c.loop-k.invariant.read (sym w.in-Some.is ∙ c.run_at.ensures image set) (c.loop-k.invariant.first image set));
          }
      | in_default w ↦ record {
        read = subst (λ (rs : List Run). AreRead rs (k + 1)) (sym w.runs-is) (read_more runs k c.loop-k.invariant.read);
        first = λ image set. subst (λ (rs : List Run). HaveFirst rs (k + 1) (extents_in image c.args.vol.now c.args.set.now)) (sym w.runs-is)
            (first_more runs k (extents_in image c.args.vol.now c.args.set.now) (sym w.in_default.is ∙ c.run_at.ensures image set) (c.loop-k.invariant.first image set));
      }
    ]

pub returns : goal.returns
returns c image set =
    let v = c.args.vol.now in
    let all : c.loop-k.k ≡ 16 = omega (arith, c.loop-k-test.false, c.loop-k.auto.k-end) in
    first_all v.geometry (slots_of_vtoc image v.geometry v.vtoc) c.args.set.now c.loop-k.runs set.extents
    (subst (λ (n : ℕ). HaveFirst c.loop-k.runs n (extents_in image v c.args.set.now)) all (c.loop-k.invariant.first image set))
