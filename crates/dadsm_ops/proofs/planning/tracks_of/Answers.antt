use Rattle.std.proofs.Common.{◌≤◌, ◌*◌, ℕ, length, take, ap, ◌∙◌, arith, length-take}
use Rattle.space_alloc.specs.Units.{listed}
use Rattle.vol_model.specs.Places.{tracks_in}
use Rattle.dadsm_ops.proofs.ChosenTracks.{tracks_few}
use Rattle.dadsm_ops.proofs.planning.tracks_of.Goals as goal

pub tracks_in-requires : goal.tracks_in-requires
tracks_in-requires c =
    let e = c.args.extents.now in
    let few : tracks_in (listed e) ≤ 65535 * length (listed e) = tracks_few (listed e) c.requires.written.each in
    rw c.from.ensures (omega (arith, few, length-take e.n e.runs, c.requires.few))

pub returns : goal.returns
returns c = c.tracks_in.ensures ∙ ap (λ (n : ℕ). tracks_in (take n c.args.extents.now.runs)) c.from.ensures
