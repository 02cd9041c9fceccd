use Rattle.std.proofs.Common.{◌≡◌, ℕ, Bool, List, length, take, refl, sym, ap, ◌∙◌, subst, arith}
use Rattle.std.specs.Prelude.{Err, Result}
use Rattle.std.specs.List.{enumerate_from, list_all}
use Rattle.std.proofs.lemmas.List.{take_all}
use Rattle.std.proofs.lemmas.Result.{err_from_is_err_and}
use Rattle.ckd_image.specs.Track.{Record}
use Rattle.hall_core.specs.Images.{image_in}
use Rattle.pack_spec.specs.Directories.{may_stand, part_at}
use Rattle.vol_model.specs.declared.answers.CheckErr.{CheckErr}
use Rattle.vol_model.specs.declared.contents.Place.{Place}
use Rattle.seq_access.specs.Bodies.{ChecksTrack, data_in, owned_in}
use Rattle.seq_access.proofs.Checked.{no_part, not_part, part_read, unread_track}
use Rattle.seq_access.proofs.checking.check_part_track.Goals as goal

-- so many are all records of a buffer that has so many
all_stand : (end : Place) (k n : ℕ) (xs : List Record) (b : Bool) → length xs ≡ n → b ≡ list_all (may_stand end k) (enumerate_from 1 (take n xs)) → b ≡ list_all (may_stand end k) (enumerate_from 1 xs)
all_stand end k n xs b count is = is ∙ ap (λ (ys : List Record). list_all (may_stand end k) (enumerate_from 1 ys)) (take_all n xs (omega (arith, count)))

pub returns-in_err-count-clause-track : goal.returns-in_err-count-clause-track
returns-in_err-count-clause-track g c told =
    let v = c.args.vol.now in
    let f = c.args.set.now in
    let image = image_in (g.H.Hall.meaning c.args.hall.now) (g.H.Hall.facts c.args.hall.now) v.unit in
    let p = err_from_is_err_and c.from_residual.result c.from_residual.ensures.1 in
    subst (λ (r : Result (Unit {0}) CheckErr). ChecksTrack r c.args.k (part_at v.geometry (data_in image v) (owned_in image v f) c.args.end c.args.to c.args.k)) (sym (p.1 ∙ ap Err p.2))
    (unread_track c.in_err-count.field-0.0 c.args.k _ _ _ (c.in_err-count.ensures.records told) (no_part image v f c.args.to c.args.k c.args.end))

pub returns-then-may_all_stand-clause-track : goal.returns-then-may_all_stand-clause-track
returns-then-may_all_stand-clause-track g c told =
    let image = image_in (g.H.Hall.meaning c.args.hall.now) (g.H.Hall.facts c.args.hall.now) c.args.vol.now.unit in
    part_read image c.args.vol.now c.args.set.now c.args.to c.args.k c.args.end c.read_track.new.vol.buf.records (c.in_ok-count.ensures.records told)
    (all_stand c.args.end c.args.k c.in_ok-count.count c.read_track.new.vol.buf.records _ c.in_ok-count.ensures.count c.if-may_all_stand.ensures)

pub returns-else-may_all_stand-clause-track : goal.returns-else-may_all_stand-clause-track
returns-else-may_all_stand-clause-track g c told =
    let image = image_in (g.H.Hall.meaning c.args.hall.now) (g.H.Hall.facts c.args.hall.now) c.args.vol.now.unit in (
      refl,
      not_part image c.args.vol.now c.args.set.now c.args.to c.args.k c.args.end c.read_track.new.vol.buf.records (c.in_ok-count.ensures.records told)
          (all_stand c.args.end c.args.k c.in_ok-count.count c.read_track.new.vol.buf.records _ c.in_ok-count.ensures.count c.if-may_all_stand.ensures),
    )
