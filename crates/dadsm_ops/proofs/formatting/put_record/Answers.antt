-- One write after the records of a buffer.
use Rattle.std.proofs.Common.{sym, ap}
use Rattle.hall_core.specs.Facts.{name_in}
use Rattle.track_records.specs.Buffers.{Buffer}
use Rattle.dadsm_ops.proofs.FormattedTracks.{pack_there, writes_as, writes_done, writes_not, writes_one}
use Rattle.dadsm_ops.proofs.formatting.put_record.Goals as goal

pub returns-in_err-append-clause-files : goal.returns-in_err-append-clause-files
returns-in_err-append-clause-files g c told =
    let h = c.args.hall.now in
    let b : Buffer = c.args.buf.now in
    let m = g.H.Hall.meaning h in
    let has = pack_there m.state (g.H.Hall.facts h).units b.unit b.geometry b.track (g.met.H.Hall.whole h told) c.requires.track in
    writes_not c.from_residual.result c.from_residual.ensures.0
    (writes_one (name_in (g.H.Hall.facts h) b.unit) b c.args.key.now c.args.payload.now m (g.met.H.Hall.leaves_state h) has c.requires.track.inside c.requires.room (g.H.Hall.meaning c.append.new.hall) c.append.result (c.append.ensures.files told) (c.requires.all told) (c.append.ensures.pending told))

pub returns-clause-files : goal.returns-clause-files
returns-clause-files g c told =
    let h = c.args.hall.now in
    let b : Buffer = c.args.buf.now in
    let m = g.H.Hall.meaning h in
    let has = pack_there m.state (g.H.Hall.facts h).units b.unit b.geometry b.track (g.met.H.Hall.whole h told) c.requires.track in
    let wrote =
    writes_one (name_in (g.H.Hall.facts h) b.unit) b c.args.key.now c.args.payload.now m (g.met.H.Hall.leaves_state h) has c.requires.track.inside c.requires.room (g.H.Hall.meaning c.append.new.hall) _ (c.in_ok-append.ensures.files told) (c.requires.all told) (c.append.ensures.pending told) in
    writes_as _ _ (sym (ap (λ (x : Buffer). x.records) c.append.ensures.buffer)) (writes_done tt wrote)
