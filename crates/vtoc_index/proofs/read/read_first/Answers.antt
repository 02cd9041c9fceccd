use Rattle.std.proofs.Common.{◌∙◌, ap, sym, subst, None, ℕ, List}
use Rattle.ckd_image.specs.declared.header.Geometry.{Geometry}
use Rattle.hall_core.specs.Images.{image_of}
use Rattle.pack_spec.specs.Label.{records_on, track_of_address}
use Rattle.pack_spec.specs.Volume.{volume_within}
use Rattle.vtoc_index.specs.Reading.{Refuses}
use Rattle.pack_spec.specs.Vtoc.{vtoc_on}
use Rattle.vtoc_index.proofs.CallsMade.{broken_none}
use Rattle.vtoc_index.proofs.FirstSlots.{extent_whole}
use Rattle.vtoc_index.proofs.Images.{same_image}
use Rattle.vtoc_index.proofs.Reasons.{refuses, extent_refused}
use Rattle.vtoc_index.proofs.read.read_first.Goals as goal

pub returns-in-Ok-extent_held-clause-extent : goal.returns-in-Ok-extent_held-clause-extent
returns-in-Ok-extent_held-clause-extent g c told =
    let image = image_of (g.H.Hall.meaning c.args.hall.now).state (g.H.Hall.facts c.args.hall.now) c.args.unit in
    let read = ap (λ (x : Geometry). records_on image x None c.track.result) (sym c.requires.buffer) ∙ c.in-Ok.ensures.read told in
    extent_whole image c.args.geometry c.args.at c.track.result c.read_records.new.buf.records c.track.ensures.exact read ∙ c.in-Ok-extent_held.ensures.found

pub returns-in-Err-clause-refused : goal.returns-in-Err-clause-refused
returns-in-Err-clause-refused g c told =
    let image = image_of (g.H.Hall.meaning c.args.hall.now).state (g.H.Hall.facts c.args.hall.now) c.args.unit in
    let read = ap (λ (x : Geometry). records_on image x None c.track.result) (sym c.requires.buffer) ∙ c.in-Ok.ensures.read told in
    let is = extent_whole image c.args.geometry c.args.at c.track.result c.read_records.new.buf.records c.track.ensures.exact read ∙ c.in-Err.ensures.refused in
    refuses (extent_refused image c.args.geometry (vtoc_on image c.args.geometry c.args.at) c.in-Err.fault is)

pub returns-in-Err-BadCount-clause-refused : goal.returns-in-Err-BadCount-clause-refused
returns-in-Err-BadCount-clause-refused g c told =
    let at = c.args.at in
    let image = image_of (g.H.Hall.meaning c.args.hall.now).state (g.H.Hall.facts c.args.hall.now) c.args.unit in
    let same = same_image (g.H.Hall.meaning c.read_records.new.hall).state (g.H.Hall.meaning c.args.hall.now).state (g.H.Hall.facts c.read_records.new.hall) (g.H.Hall.facts c.args.hall.now) c.args.unit (c.in-Err-BadCount.ensures.files told).state c.in-Err-BadCount.ensures.faults.units in
    let broken = broken_none image c.args.buf.now.geometry None c.track.result _ c.in-Err-BadCount.field-0-0 c.in-Err-BadCount.field-0-is (c.in-Err-BadCount.ensures.broken told) in
    let none =
    ap (λ (i : List ℕ). records_on i c.args.geometry None (track_of_address c.args.geometry at)) same
    ∙ ap (λ (t : ℕ). records_on image c.args.geometry None t) (sym c.track.ensures.exact)
    ∙ ap (λ (x : Geometry). records_on image x None c.track.result) (sym c.requires.buffer)
    ∙ broken in
    subst (λ (i : List ℕ). Refuses (volume_within i c.args.geometry (vtoc_on i c.args.geometry at)) c.why_broken.result) same (c.why_broken.ensures.refused told none)
