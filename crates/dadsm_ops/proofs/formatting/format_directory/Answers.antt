-- A new directory, written and made durable.
use Rattle.std.proofs.Common.{ℕ, take, ap}
use Rattle.hall_core.specs.Facts.{unit_of}
use Rattle.space_alloc.specs.Units.{listed}
use Rattle.dadsm_ops.proofs.FormattedRuns.{formats_as}
use Rattle.dadsm_ops.proofs.FormattedSets.{set_formats, set_formats_not}
use Rattle.dadsm_ops.proofs.formatting.format_directory.Goals as goal

pub returns-in_err-format_tracks-clause-files : goal.returns-in_err-format_tracks-clause-files
returns-in_err-format_tracks-clause-files g c told =
    let v = c.args.vol.now in
    let h = c.args.hall.now in
    set_formats_not (unit_of (g.H.Hall.facts h).units v.unit).name v (listed c.args.extents.now) c.args.dir (g.H.Hall.meaning h) (c.requires.mounted told) (c.requires.marked told) (λ volume stands. c.requires.spare volume stands told) (c.requires.durable told)
    (g.H.Hall.meaning c.format_tracks.new.hall) c.format_tracks.new.buf c.format_tracks.result c.from_residual.result c.from_residual.ensures.0 (formats_as v.geometry v.buf.geometry (listed c.args.extents.now) _ c.requires.unit.buffer.0 (ap (λ (k : ℕ). take k c.args.extents.now.runs) c.from.ensures) (c.format_tracks.ensures.files told))

pub returns-clause-files : goal.returns-clause-files
returns-clause-files g c told =
    let v = c.args.vol.now in
    let h = c.args.hall.now in
    set_formats (unit_of (g.H.Hall.facts h).units v.unit).name v (listed c.args.extents.now) c.args.dir (g.H.Hall.meaning h) (c.requires.mounted told) (c.requires.marked told) (λ volume stands. c.requires.spare volume stands told) (c.requires.durable told)
    (g.H.Hall.meaning c.format_tracks.new.hall) (g.H.Hall.meaning c.make_durable.new.hall) c.format_tracks.new.buf _ c.make_durable.result c.in_ok-format_tracks.ensures.empty (g.met.H.Hall.leaves_state c.format_tracks.new.hall) (formats_as v.geometry v.buf.geometry (listed c.args.extents.now) _ c.requires.unit.buffer.0 (ap (λ (k : ℕ). take k c.args.extents.now.runs) c.from.ensures) (c.in_ok-format_tracks.ensures.files told)) (c.make_durable.ensures.files told)
