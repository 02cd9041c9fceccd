-- Blocks of a new directory, one after the other.
use Rattle.std.proofs.Common.{◌+◌, ℕ, List, length, ap, ap₂, ◌∙◌, arith}
use Rattle.track_records.specs.Buffers.{Buffer}
use Rattle.pack_spec.specs.Directories.{new_block}
use Rattle.dadsm_ops.proofs.FormattedTracks.{writes_by, writes_done, writes_not, writes_then}
use Rattle.free_rebuild.proofs.WriteLemmas.{device_then}
use Rattle.dadsm_ops.proofs.NewBlocks.{block_lengths, blocks_more, blocks_take}
use Rattle.dadsm_ops.proofs.formatting.put_blocks.Goals as goal

pub put_record-requires-clause-few : goal.put_record-requires-clause-few
put_record-requires-clause-few g c = let take = blocks_take _ _ _ c.loop-i.invariant.contents in omega (arith, take.0)

pub put_record-requires-clause-room : goal.put_record-requires-clause-room
put_record-requires-clause-room g c =
    let inv = c.loop-i.invariant in
    let take = blocks_take _ _ _ inv.contents in
    let long = block_lengths (c.args.first + c.from.result) in
    let geometry = ap (λ (b : Buffer). b.geometry.track_size) inv.buffer in
    omega (arith, take.1, long.0, long.1, ap length c.block_key.ensures, ap length c.block_data.ensures, geometry, c.loop-i-test.true)

pub returns-in_err-put_record-clause-files : goal.returns-in_err-put_record-clause-files
returns-in_err-put_record-clause-files g c told =
    let inv = c.loop-i.invariant in
    writes_not c.from_residual.result c.from_residual.ensures.0
    (writes_then (inv.files told) (writes_by (g.H.Hall.facts c.args.hall.now) (g.H.Hall.facts c.loop-i.hall) c.args.buf.now c.loop-i.buf inv.faults.units inv.buffer (c.put_record.ensures.files told)))

pub loop-i-preserved : goal.loop-i-preserved
loop-i-preserved g c =
    let inv = c.loop-i.invariant in
    let number = ap (λ (i : ℕ). new_block (c.args.first + i)) c.from.ensures in
    record {
      buffer = c.put_record.ensures.buffer ∙ ap (λ (b : Buffer). let x : Buffer = record b { records = c.put_record.new.buf.records } in x) inv.buffer;
      contents = c.put_record.ensures.contents ∙ blocks_more _ _ _ _ inv.contents (ap₂ (λ (k d : List ℕ). (k, d)) c.block_key.ensures c.block_data.ensures ∙ number);
      faults = device_then inv.faults c.in_ok-put_record.ensures.faults;
      files = λ told. writes_done tt (writes_then (inv.files told) (writes_by (g.H.Hall.facts c.args.hall.now) (g.H.Hall.facts c.loop-i.hall) c.args.buf.now c.loop-i.buf inv.faults.units inv.buffer (c.in_ok-put_record.ensures.files told)));
    }
