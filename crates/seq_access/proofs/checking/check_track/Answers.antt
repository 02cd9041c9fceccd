use Rattle.std.proofs.Common.{refl, sym, ap, ◌∙◌, subst}
use Rattle.std.specs.Prelude.{Err, Result}
use Rattle.std.proofs.lemmas.Result.{err_from_is_err_and}
use Rattle.hall_core.specs.Images.{image_in}
use Rattle.pack_spec.specs.Blocks.{blocks_at}
use Rattle.vol_model.specs.declared.answers.CheckErr.{CheckErr}
use Rattle.seq_access.specs.Bodies.{ChecksTrack, data_in, owned_in}
use Rattle.seq_access.proofs.Checked.{blocks_read, no_records, not_blocks, unread_track}
use Rattle.seq_access.proofs.checking.check_track.Goals as goal

pub returns-in_err-count-clause-track : goal.returns-in_err-count-clause-track
returns-in_err-count-clause-track g c told =
    let v = c.args.vol.now in
    let f = c.args.set.now in
    let image = image_in (g.H.Hall.meaning c.args.hall.now) (g.H.Hall.facts c.args.hall.now) v.unit in
    let p = err_from_is_err_and c.from_residual.result c.from_residual.ensures.1 in
    subst (λ (r : Result (Unit {0}) CheckErr). ChecksTrack r c.args.k (blocks_at v.geometry (data_in image v) (owned_in image v f) c.args.last c.args.k)) (sym (p.1 ∙ ap Err p.2))
    (unread_track c.in_err-count.field-0.0 c.args.k _ _ _ (c.in_err-count.ensures.records told) (no_records image v f c.args.last c.args.k))

pub returns-then-are_blocks-clause-track : goal.returns-then-are_blocks-clause-track
returns-then-are_blocks-clause-track g c told =
    let image = image_in (g.H.Hall.meaning c.args.hall.now) (g.H.Hall.facts c.args.hall.now) c.args.vol.now.unit in
    blocks_read image c.args.vol.now c.args.set.now c.args.last c.args.k c.read_track.new.vol.buf.records (c.in_ok-count.ensures.records told) c.if-are_blocks.ensures

pub returns-else-are_blocks-clause-track : goal.returns-else-are_blocks-clause-track
returns-else-are_blocks-clause-track g c told =
    let image = image_in (g.H.Hall.meaning c.args.hall.now) (g.H.Hall.facts c.args.hall.now) c.args.vol.now.unit in
    (refl, not_blocks image c.args.vol.now c.args.set.now c.args.last c.args.k c.read_track.new.vol.buf.records (c.in_ok-count.ensures.records told) c.if-are_blocks.ensures)
