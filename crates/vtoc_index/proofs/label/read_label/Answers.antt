use Rattle.std.proofs.Common.{subst, sym, ◌∙◌, List, ℕ, Option}
use Rattle.std.specs.Prelude.{IfOk, Some}
use Rattle.hall_core.specs.Images.{image_of}
use Rattle.pack_spec.specs.declared.MountErr.TheVariants.{NoLabel}
use Rattle.pack_spec.specs.Vtoc.{vtoc_of}
use Rattle.pack_spec.specs.Volume.{volume_within}
use Rattle.vtoc_index.specs.Reading.{IsLabel}
use Rattle.vtoc_index.proofs.CallsMade.{broken_none, if_err, label_broken, label_read}
use Rattle.vtoc_index.proofs.Reasons.{refuses, refuses_error, unlabelled}
use Rattle.vtoc_index.proofs.label.read_label.Goals as goal

pub returns-in-Ok-clause-label : goal.returns-in-Ok-clause-label
returns-in-Ok-clause-label g c told =
    let image = image_of (g.H.Hall.meaning c.args.hall.now).state (g.H.Hall.facts c.args.hall.now) c.args.unit in
    subst (λ (given : Option (List ℕ)). IfOk c.label_held.result (IsLabel given)) (sym (label_read image c.args.buf.now.geometry c.read_records.new.buf.records (c.in-Ok.ensures.read told))) c.label_held.ensures.label

pub returns-in-Ok-clause-refused : goal.returns-in-Ok-clause-refused
returns-in-Ok-clause-refused g c told =
    let image = image_of (g.H.Hall.meaning c.args.hall.now).state (g.H.Hall.facts c.args.hall.now) c.args.unit in
    let geometry = c.args.buf.now.geometry in
    let read = label_read image geometry c.read_records.new.buf.records (c.in-Ok.ensures.read told) in
    if_err c.label_held.result (λ e none. refuses_error (volume_within image geometry (vtoc_of image geometry)) NoLabel e (sym none.0) (refuses (unlabelled image geometry (read ∙ none.1)))) c.label_held.ensures.refused

pub returns-in-Err-BadCount-clause-refused : goal.returns-in-Err-BadCount-clause-refused
returns-in-Err-BadCount-clause-refused g c told =
    let image = image_of (g.H.Hall.meaning c.args.hall.now).state (g.H.Hall.facts c.args.hall.now) c.args.unit in
    let geometry = c.args.buf.now.geometry in
    refuses (unlabelled image geometry (label_broken image geometry (broken_none image geometry (Some 3) 0 _ c.in-Err-BadCount.field-0-0 c.in-Err-BadCount.field-0-is (c.in-Err-BadCount.ensures.broken told))))
