-- The records of a new directory on one track.
use Rattle.std.proofs.Common.{◌≡◌, true, [], sym, ap, ◌∙◌, subst, arith}
use Rattle.ckd_image.specs.Header.{is_track_size}
use Rattle.track_records.specs.Buffers.{Buffer}
use Rattle.dadsm_ops.proofs.DirectoryTracks.{few_on_track, track_room}
use Rattle.dadsm_ops.proofs.FormattedTracks.{writes_at, writes_by, writes_done, writes_not, writes_then}
use Rattle.dadsm_ops.proofs.NewBlocks.{blocks_take}
use Rattle.dadsm_ops.proofs.formatting.format_track.Goals as goal

pub put_record-requires-clause-few : goal.put_record-requires-clause-few
put_record-requires-clause-few g c =
    let take = blocks_take _ _ _ c.in_ok-put_blocks.ensures.contents in
    let few = few_on_track c.args.device in
    omega (arith, take.0, few, c.blocks_on-first.ensures.few)

pub put_record-requires-clause-room : goal.put_record-requires-clause-room
put_record-requires-clause-room g c =
    let take = blocks_take _ _ _ c.in_ok-put_blocks.ensures.contents in
    let lawful : is_track_size c.args.device c.args.buf.now.geometry.track_size ≡ true = subst (λ d. is_track_size d c.args.buf.now.geometry.track_size ≡ true) (sym c.requires.device) c.requires.track.whole.track_size in
    let room = track_room c.args.device c.args.buf.now.geometry.track_size c.blocks_on-first.result.1 lawful c.blocks_on-first.ensures.few in
    let size = ap (λ (b : Buffer). b.geometry.track_size) c.put_blocks.ensures.buffer ∙ ap (λ (b : Buffer). b.geometry.track_size) c.clear.ensures in
    omega (arith, take.1, room, size)

pub returns-in_err-put_record-clause-files : goal.returns-in_err-put_record-clause-files
returns-in_err-put_record-clause-files g c told =
    let f0 = g.H.Hall.facts c.args.hall.now in
    let empty : Buffer = record (c.args.buf.now) { unit = c.args.unit; track = c.args.track; records = [] } in
    writes_not c.from_residual-in_err-put_record.result c.from_residual-in_err-put_record.ensures.0
    (writes_at f0 empty c.clear.new.self c.clear.ensures
    (writes_then (c.in_ok-put_blocks.ensures.files told) (writes_by f0 (g.H.Hall.facts c.put_blocks.new.hall) c.clear.new.self c.put_blocks.new.buf c.in_ok-put_blocks.ensures.faults.units c.put_blocks.ensures.buffer (c.put_record.ensures.files told))))

pub returns-in_ok-put_record-clause-files : goal.returns-in_ok-put_record-clause-files
returns-in_ok-put_record-clause-files g c told =
    let f0 = g.H.Hall.facts c.args.hall.now in
    let empty : Buffer = record (c.args.buf.now) { unit = c.args.unit; track = c.args.track; records = [] } in
    writes_at f0 empty c.clear.new.self c.clear.ensures
    (writes_done tt (writes_then (c.in_ok-put_blocks.ensures.files told) (writes_by f0 (g.H.Hall.facts c.put_blocks.new.hall) c.clear.new.self c.put_blocks.new.buf c.in_ok-put_blocks.ensures.faults.units c.put_blocks.ensures.buffer (c.in_ok-put_record.ensures.files told))))

pub returns-else-directory_end-k-clause-files : goal.returns-else-directory_end-k-clause-files
returns-else-directory_end-k-clause-files g c told =
    let empty : Buffer = record (c.args.buf.now) { unit = c.args.unit; track = c.args.track; records = [] } in
    writes_at (g.H.Hall.facts c.args.hall.now) empty c.clear.new.self c.clear.ensures (writes_done tt (c.in_ok-put_blocks.ensures.files told))
