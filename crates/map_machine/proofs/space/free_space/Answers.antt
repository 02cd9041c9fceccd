-- The counts stay within the tracks so far, and each track is counted.
use Rattle.std.proofs.Common.{◌≡◌, ◌+◌, ◌-◌, ◌*◌, ◌<◌, sym, subst, arith, ◌∙◌}
use Rattle.ckd_image.specs.Device.{row_of}
use Rattle.vol_model.specs.Space.{is_unowned, usable_cylinders}
use Rattle.map_machine.proofs.FreeSpaceLemmas.{IsCounted, skip_counted}
use Rattle.map_machine.proofs.space.free_space.Goals as goal

pub overflow_add-space : goal.overflow_add-space
overflow_add-space c =
    omega (arith, c.loop-track.invariant.few, c.loop-track.invariant.inside, c.usable_tracks-track.ensures.bound, c.usable_tracks-track.ensures.tracks, c.loop-track-test.true)

pub overflow_add-space-then-not-is_next_free : goal.overflow_add-space-then-not-is_next_free
overflow_add-space-then-not-is_next_free c =
    omega (arith, c.loop-track.invariant.few, c.loop-track.invariant.fewer, c.loop-track.invariant.inside, c.usable_tracks-track.ensures.bound, c.usable_tracks-track.ensures.tracks, c.loop-track-test.true)

pub loop-track-preserved : goal.loop-track-preserved
loop-track-preserved c =
    let has = is_unowned c.args.volume.now in
    let limit = usable_cylinders c.args.volume.now.geometry * (row_of c.args.volume.now.geometry.device).heads in
    let now = c.loop-track in
    let t = now.track - 1 in
    let back : now.track ≡ t + 1 = omega (arith, c.loop-track-test.true) in
    let inside : t < limit = omega (arith, now.invariant.inside, c.loop-track-test.true) in
    let counted = subst (λ k. IsCounted has limit k now.space.tracks now.space.runs now.is_next_free) back now.invariant in
    subst (λ b. IsCounted has limit t now.space.tracks now.space.runs b) (sym c.if-is_free.false)
    (skip_counted has limit t now.space.tracks now.space.runs now.is_next_free inside counted (sym c.is_unowned-is_free.ensures ∙ c.if-is_free.false))
