use Rattle.std.proofs.Common.{◌∙◌, ap, sym, Some, ℕ}
use Rattle.std.specs.Prelude.{Err}
use Rattle.ckd_image.specs.declared.header.Geometry.{Geometry}
use Rattle.hall_core.specs.Images.{image_of}
use Rattle.pack_spec.specs.Label.{records_on}
use Rattle.pack_spec.specs.declared.MountErr.TheVariants.{VtocTrack}
use Rattle.pack_spec.specs.Vtoc.{vtoc_on}
use Rattle.vtoc_index.proofs.CallsMade.{broken_none}
use Rattle.vtoc_index.proofs.FirstSlots.{extent_one, extent_none}
use Rattle.vtoc_index.proofs.Reasons.{refuses, extent_refused}
use Rattle.vtoc_index.proofs.TracksRead.{first_broken}
use Rattle.vtoc_index.proofs.read.why_broken.Goals as goal

pub returns-in-Ok-extent_held-clause-refused : goal.returns-in-Ok-extent_held-clause-refused
returns-in-Ok-extent_held-clause-refused g c told none =
    let image = image_of (g.H.Hall.meaning c.args.hall.now).state (g.H.Hall.facts c.args.hall.now) c.args.unit in
    let read = ap (λ (x : Geometry). records_on image x (Some 1) c.track-track.result) (sym c.requires.buffer) ∙ c.in-Ok.ensures.read told in
    let is = extent_one image c.args.geometry c.args.at c.track-track.result c.read_records.new.buf.records c.track-track.ensures.exact read ∙ c.in-Ok-extent_held.ensures.found in
    refuses (first_broken image c.args.geometry c.args.at c.in-Ok-extent_held.field-0 c.track-track.result is c.in-Ok-extent_held.ensures.extent c.track-track.ensures.exact none)

pub returns-in-Err-clause-refused : goal.returns-in-Err-clause-refused
returns-in-Err-clause-refused g c told none =
    let image = image_of (g.H.Hall.meaning c.args.hall.now).state (g.H.Hall.facts c.args.hall.now) c.args.unit in
    let read = ap (λ (x : Geometry). records_on image x (Some 1) c.track-track.result) (sym c.requires.buffer) ∙ c.in-Ok.ensures.read told in
    let is = extent_one image c.args.geometry c.args.at c.track-track.result c.read_records.new.buf.records c.track-track.ensures.exact read ∙ c.in-Err.ensures.refused in
    refuses (extent_refused image c.args.geometry (vtoc_on image c.args.geometry c.args.at) c.in-Err.fault is)

pub returns-in-Err-BadCount-clause-refused : goal.returns-in-Err-BadCount-clause-refused
returns-in-Err-BadCount-clause-refused g c told none =
    let image = image_of (g.H.Hall.meaning c.args.hall.now).state (g.H.Hall.facts c.args.hall.now) c.args.unit in
    let broken = broken_none image c.args.buf.now.geometry (Some 1) c.track-track.result _ c.in-Err-BadCount.field-0-0 c.in-Err-BadCount.field-0-is (c.in-Err-BadCount.ensures.broken told) in
    let read = ap (λ (x : Geometry). records_on image x (Some 1) c.track-track.result) (sym c.requires.buffer) ∙ broken in
    let is = extent_none image c.args.geometry c.args.at c.track-track.result c.track-track.ensures.exact read in
    refuses (extent_refused image c.args.geometry (vtoc_on image c.args.geometry c.args.at) (VtocTrack c.track-track.result) (is ∙ ap (λ (t : ℕ). Err (VtocTrack t)) (sym c.track-track.ensures.exact)))
