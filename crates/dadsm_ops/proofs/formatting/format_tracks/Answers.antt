-- A new directory, track by track.
use Rattle.std.proofs.Common.{◌≤◌, ap, ◌∙◌, subst, arith}
use Rattle.ckd_image.specs.declared.device.DiskType.{DiskType}
use Rattle.pack_spec.specs.Directories.{new_records}
use Rattle.vol_model.specs.declared.contents.Place.{Place}
use Rattle.vol_model.specs.Places.{directory_end}
use Rattle.free_rebuild.proofs.WriteLemmas.{device_then}
use Rattle.dadsm_ops.proofs.FormattedRuns.{formats_not, formats_then}
use Rattle.dadsm_ops.proofs.FormattedTracks.{same_unit, writes_in}
use Rattle.dadsm_ops.proofs.formatting.format_tracks.Goals as goal

pub returns-in_err-format_track-clause-files : goal.returns-in_err-format_track-clause-files
returns-in_err-format_track-clause-files g c told =
    let inv = c.loop-k.invariant in
    formats_not c.from_residual.result c.from_residual.ensures.0 (inv.files told) c.track_at-track.ensures
    (writes_in (g.H.Hall.facts c.args.hall.now) (g.H.Hall.facts c.loop-k.hall) c.args.unit c.args.buf.now c.loop-k.buf inv.faults.units inv.buffer (c.format_track.ensures.files told))

pub loop-k-preserved : goal.loop-k-preserved
loop-k-preserved g c =
    let inv = c.loop-k.invariant in
    let low : c.loop-k.k ≤ (directory_end c.args.device c.args.dir).tt = omega (arith, c.loop-k-test.true, ap (λ (p : Place). p.tt) c.directory_end-end.ensures.place) in
    let low' : c.loop-k.k ≤ (directory_end c.args.buf.now.geometry.device c.args.dir).tt = subst (λ (d : DiskType). c.loop-k.k ≤ (directory_end d c.args.dir).tt) c.requires.device low in
    let holds = c.in_ok-format_track.ensures.contents ∙ ap (λ (d : DiskType). new_records d c.args.dir c.loop-k.k) c.requires.device in
    record {
      buffer = same_unit c.args.buf.now c.loop-k.buf c.format_track.new.buf c.args.unit c.track_at-track.result c.requires.unit inv.buffer c.format_track.ensures.buffer;
      faults = device_then inv.faults c.in_ok-format_track.ensures.faults;
      files = λ told. formats_then (inv.files told) c.track_at-track.ensures c.requires.apart c.requires.some low' (writes_in (g.H.Hall.facts c.args.hall.now) (g.H.Hall.facts c.loop-k.hall) c.args.unit c.args.buf.now c.loop-k.buf inv.faults.units inv.buffer (c.in_ok-format_track.ensures.files told)) holds;
    }
