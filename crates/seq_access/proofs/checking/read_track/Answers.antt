use Rattle.std.proofs.Common.{Some, None, refl, sym, subst}
use Rattle.hall_core.specs.Images.{image_in}
use Rattle.track_records.specs.Reads.{IsBroken}
use Rattle.track_records.specs.declared.error.TrackErr.{TrackErr}
use Rattle.track_records.specs.declared.error.TrackErr.TheVariants as errors
use Rattle.vtoc_index.proofs.HeldLemmas.{broken_none}
use Rattle.seq_access.proofs.Checked.{read_as, upto_0, upto_none, upto_read}
use Rattle.seq_access.proofs.checking.read_track.Goals as goal

pub returns-in_default-clause-records : goal.returns-in_default-clause-records
returns-in_default-clause-records g c told =
    let set = c.requires.set told in
    (refl, upto_none _ c.args.vol.now c.args.set.now c.args.to c.args.k (sym (c.in_default.ensures.track _ set.set)))

pub returns-then-is_record_0-clause-records : goal.returns-then-is_record_0-clause-records
returns-then-is_record_0-clause-records g c told =
    (refl, upto_0 _ c.args.vol.now c.args.set.now c.args.to c.args.k (sym c.if-is_record_0.ensures))

pub returns-in-Ok-clause-records : goal.returns-in-Ok-clause-records
returns-in-Ok-clause-records g c told =
    let set = c.requires.set told in
    let image = image_in (g.H.Hall.meaning c.args.hall.now) (g.H.Hall.facts c.args.hall.now) c.args.vol.now.unit in
    let read = read_as image _ _ _ _ c.in-Some.track _ c.requires.unit.buffer.0 c.upto_last.ensures (c.in-Ok.ensures.read told) in
    upto_read image c.args.vol.now c.args.set.now c.args.to c.args.k set c.in-Some.track (sym (c.in-Some.ensures.track _ set.set)) c.in-Some.ensures.inside (sym c.if-is_record_0.ensures) (Some c.read_records.new.buf.records) read

pub returns-in-Err-BadCount-clause-records : goal.returns-in-Err-BadCount-clause-records
returns-in-Err-BadCount-clause-records g c told =
    let set = c.requires.set told in
    let image = image_in (g.H.Hall.meaning c.args.hall.now) (g.H.Hall.facts c.args.hall.now) c.args.vol.now.unit in
    let at : IsBroken image c.args.vol.now.buf.geometry c.upto_last.result c.in-Some.track (errors.BadCount c.in-Err-BadCount.field-0-0) =
    subst (λ (e : TrackErr). IsBroken image c.args.vol.now.buf.geometry c.upto_last.result c.in-Some.track e) c.in-Err-BadCount.field-0-is (c.in-Err-BadCount.ensures.broken told) in
    let none = read_as image _ _ _ _ c.in-Some.track _ c.requires.unit.buffer.0 c.upto_last.ensures (broken_none image c.args.vol.now.buf.geometry c.upto_last.result c.in-Some.track c.in-Err-BadCount.field-0-0 at) in
    (refl, upto_read image c.args.vol.now c.args.set.now c.args.to c.args.k set c.in-Some.track (sym (c.in-Some.ensures.track _ set.set)) c.in-Some.ensures.inside (sym c.if-is_record_0.ensures) None none)
