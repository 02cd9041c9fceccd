use Rattle.std.proofs.Common.{◌≡◌, ◌∙◌, ℕ, List, length, map, sym, ap, subst, take}
use Rattle.std.proofs.lemmas.List.{length-map, length-take-le}
use Rattle.hall_core.specs.Facts.{Attached}
use Rattle.job_runner.specs.Jobs.{jobs_work}
use Rattle.pack_spec.specs.Shelf.{shelf_of}
use Rattle.shelf_machine.specs.Opening.{LeavesSafe, images_named, names_of}
use Rattle.shelf_machine.specs.Parts.{PromisesSafety, meaning_of, pack_names, units_in}
use Rattle.stop_model.specs.Moments.{Same}
use Rattle.vol_model.specs.Calls.{Files}
use Rattle.vol_model.specs.Events.{Item}
use Rattle.vol_model.specs.declared.contents.Shelf.{Shelf}
use Rattle.volume_manager.specs.Lines.{unit_line}
use Rattle.volume_manager.specs.Run.{FollowsTask, RunsItems, status_of}
use Rattle.volume_manager.specs.Task.{Says}
use Rattle.volume_manager.proofs.Bases.{opened_items}
use Rattle.volume_manager.proofs.Opening.{all_units, are_units, first_names, first_units, opened_text, unopened_items, unopened_text}
use Rattle.volume_manager.proofs.run.run_on.Goals as goal

pub open-requires-clause-units : goal.open-requires-clause-units
open-requires-clause-units g c =
    let files = c.args.files.now in
    let n = length files in
    are_units (g.H.Hall.facts c.args.hall).units (map (λ f. f.now) files) (take n all_units) n c.requires.attached (length-map files (λ f. f.now)) c.requires.few c.requires.apart
    (first_units n c.requires.few) (length-take-le n all_units c.requires.few)

pub returns-in-Ok-clause-items : goal.returns-in-Ok-clause-items
returns-in-Ok-clause-items g c told =
    let files = c.args.files.now in
    let names = map (λ f. f.now) files in
    let attached = (g.H.Hall.facts c.args.hall).units in
    let units = take (length files) all_units in
    let machine = c.in-Ok.machine in
    let opens = c.in-Ok.ensures.shelf told in
    let given : names_of attached units ≡ names = first_names attached names (length files) c.requires.attached (length-map files (λ f. f.now)) c.requires.few in
    let packs : pack_names machine ≡ names =
    ap (λ (us : List Attached). names_of us (units_in machine)) c.in-Ok.ensures.faults.units ∙ ap (names_of attached) c.in-Ok.ensures.opened.numbers ∙ given in
    let items : Shelf → List Item = λ shelf. (jobs_work c.args.date c.args.jobs.now shelf).items in
    opened_items names (names_of attached units) (pack_names machine) items (meaning_of machine).state opens.shelf (λ t before. PromisesSafety machine t (Files before)) (status_of c.work.result.0)
    given packs (c.in-Ok.ensures.stops told) opens.before opens.state opens.promise (c.work.ensures.items told)

pub returns-in-Ok-clause-text : goal.returns-in-Ok-clause-text
returns-in-Ok-clause-text g c told r is =
    let files = c.args.files.now in
    let opens = c.in-Ok.ensures.shelf told in
    let given = first_names (g.H.Hall.facts c.args.hall).units (map (λ f. f.now) files) (length files) c.requires.attached (length-map files (λ f. f.now)) c.requires.few in
    absurd (opened_text (g.H.Hall.meaning c.args.hall).state given opens.before is)

pub returns-in-Err-clause-items : goal.returns-in-Err-clause-items
returns-in-Err-clause-items g c told shelf stood t early calm =
    let M = g.H.Hall.meaning in
    let files = c.args.files.now in
    let names = map (λ f. f.now) files in
    let old = M c.args.hall in
    let left = c.in-Err.refused in
    let status = status_of c.refuse-ended.result in
    let items : List Item = (jobs_work c.args.date c.args.jobs.now shelf).items in
    let given = first_names (g.H.Hall.facts c.args.hall).units names (length files) c.requires.attached (length-map files (λ f. f.now)) c.requires.few in
    unopened_items names left.unit status left.why
    (subst (λ (n : List (List ℕ)). LeavesSafe n old (M left.hall)) given (c.in-Err.ensures.stops told))
    (λ ample sound. ap (λ (n : List (List ℕ)). shelf_of (images_named old.state n)) (sym given) ∙ (c.in-Err.ensures.refused told).why ample sound)
    c.refuse-ended.ensures.device c.refuse-ended.ensures.memory {items = items} shelf t
    (λ quiet runs. subst (λ h. RunsItems names shelf items t old.state old.printed (M h) status) (sym (c.refuse-ended.ensures.silent quiet)) runs) stood early calm

pub returns-in-Err-clause-text : goal.returns-in-Err-clause-text
returns-in-Err-clause-text g c told r is =
    let M = g.H.Hall.meaning in
    let files = c.args.files.now in
    let names = map (λ f. f.now) files in
    let old = M c.args.hall in
    let left = c.in-Err.refused in
    let status = status_of c.refuse-ended.result in
    let given = first_names (g.H.Hall.facts c.args.hall).units names (length files) c.requires.attached (length-map files (λ f. f.now)) c.requires.few in
    unopened_text names left.unit status left.why
    (subst (λ (n : List (List ℕ)). LeavesSafe n old (M left.hall)) given (c.in-Err.ensures.stops told))
    (λ ample sound. ap (λ (n : List (List ℕ)). shelf_of (images_named old.state n)) (sym given) ∙ (c.in-Err.ensures.refused told).why ample sound)
    c.refuse-ended.ensures.device c.refuse-ended.ensures.memory r
    (λ quiet same. subst (λ h. Same old (M h)) (sym (c.refuse-ended.ensures.silent quiet)) same)
    (λ ample sound. subst (λ (file : List ℕ). FollowsTask (Says 21 (unit_line file left.why)) (M left.hall) (M c.refuse-ended.new.hall) status) c.name_of-file.ensures (c.refuse-ended.ensures.task told ample sound)) is
