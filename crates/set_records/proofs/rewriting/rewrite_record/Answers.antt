use Rattle.std.proofs.Common.{◌-◌, ◌++◌, ℕ, List, length, Ok, subst}
use Rattle.std.specs.Prelude.{take}
use Rattle.ckd_image.specs.Header.{HasGeometry}
use Rattle.ckd_image.proofs.GeometryLemmas.{has_geometry}
use Rattle.hall_core.specs.Facts.{unit_of}
use Rattle.hall_core.specs.Images.{image_in}
use Rattle.hall_core.specs.declared.steps.Device.{Device}
use Rattle.stop_model.specs.Files.{AfterWrite}
use Rattle.track_records.specs.Written.{place_of}
use Rattle.vtoc_index.specs.declared.vol.Vol.{Vol}
use Rattle.set_records.proofs.RecordWrites.{buffer_name, may_rewrite, rewrite_failed, rewrite_synced}
use Rattle.set_records.proofs.rewriting.rewrite_record.Goals as goal

pub returns-in_err-update-clause-files : goal.returns-in_err-update-clause-files
returns-in_err-update-clause-files g c told =
    let image = image_in (g.H.Hall.meaning c.args.hall.now) (g.H.Hall.facts c.args.hall.now) c.args.vol.now.unit in
    let v : Vol = c.args.vol.now in
    let w : Vol = c.hold_record.new.vol in
    let us = (g.H.Hall.facts c.args.hall.now).units in
    let now = (g.H.Hall.facts c.hold_record.new.hall).units in
    let key : List ℕ = c.args.key.now in
    let content : List ℕ = c.args.payload.now in
    let may = may_rewrite now image v w c.args.set.now c.args.place key content c.hold_record.ensures.others c.hold_record.ensures.unit (c.in_ok-hold_record.ensures.held told) c.in_ok-hold_record.ensures.track c.in_ok-hold_record.ensures.lengths in
    let has : HasGeometry (length image) v.geometry = has_geometry (take 512 image) (length image) v.geometry (c.requires.set told).mounted.index.header in
    rewrite_failed (unit_of us v.unit).name v c.args.set.now c.args.place w.buf key content (g.H.Hall.meaning c.args.hall.now) (g.H.Hall.meaning c.hold_record.new.hall) may has (c.requires.durable told) (c.hold_record.ensures.same told)
    (g.H.Hall.meaning c.update.new.hall) c.update.result
    (subst (λ (n : List ℕ). AfterWrite n (place_of w.buf (c.args.place.r - 1)) (key ++ content) (g.H.Hall.meaning c.hold_record.new.hall) (g.H.Hall.meaning c.update.new.hall) c.update.result) (buffer_name us now v w c.in_ok-hold_record.ensures.faults.units c.hold_record.ensures.others c.hold_record.ensures.unit) (c.update.ensures.files told)) c.from_residual-in_err-update.result _ c.from_residual-in_err-update.ensures.0

pub returns-clause-files : goal.returns-clause-files
returns-clause-files g c told =
    let image = image_in (g.H.Hall.meaning c.args.hall.now) (g.H.Hall.facts c.args.hall.now) c.args.vol.now.unit in
    let v : Vol = c.args.vol.now in
    let w : Vol = c.hold_record.new.vol in
    let us = (g.H.Hall.facts c.args.hall.now).units in
    let now = (g.H.Hall.facts c.hold_record.new.hall).units in
    let key : List ℕ = c.args.key.now in
    let content : List ℕ = c.args.payload.now in
    rewrite_synced (unit_of us v.unit).name v c.args.set.now c.args.place w.buf key content (g.H.Hall.meaning c.args.hall.now) (g.H.Hall.meaning c.hold_record.new.hall)
    (may_rewrite now image v w c.args.set.now c.args.place key content c.hold_record.ensures.others c.hold_record.ensures.unit (c.in_ok-hold_record.ensures.held told) c.in_ok-hold_record.ensures.track c.in_ok-hold_record.ensures.lengths)
    (has_geometry (take 512 image) (length image) v.geometry (c.requires.set told).mounted.index.header)
    (c.requires.durable told) (c.hold_record.ensures.same told) (g.H.Hall.meaning c.update.new.hall) (g.H.Hall.meaning c.make_durable.new.hall) c.in_ok-update.field-0 c.make_durable.result
    (subst (λ (n : List ℕ). AfterWrite {E = Device} n (place_of w.buf (c.args.place.r - 1)) (key ++ content) (g.H.Hall.meaning c.hold_record.new.hall) (g.H.Hall.meaning c.update.new.hall) (Ok c.in_ok-update.field-0)) (buffer_name us now v w c.in_ok-hold_record.ensures.faults.units c.hold_record.ensures.others c.hold_record.ensures.unit) (c.in_ok-update.ensures.files told))
    (c.make_durable.ensures.files told) c.update.new.buf c.update.ensures.buffer
