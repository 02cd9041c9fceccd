use Rattle.std.proofs.Common.{rules, ◌≡◌, ◌∙◌, inl, inr, ⊎_elim, ℕ, List, Ok, sym, ap, subst, arith}
use Rattle.std.specs.Prelude.{Result}
use Rattle.job_runner.specs.Jobs.{jobs_work}
use Rattle.job_runner.specs.declared.jobs.Ran.{Ran}
use Rattle.pack_spec.specs.Shelf.{shelf_of}
use Rattle.shelf_machine.specs.Machine.{shelf_under}
use Rattle.shelf_machine.specs.Opening.{AreSafe, AreSettledImages, images_named}
use Rattle.shelf_machine.specs.Parts.{hall_of, indexes_of, pack_names}
use Rattle.stop_model.specs.Files.{File}
use Rattle.stop_model.specs.Moments.{IsDurable, Meaning}
use Rattle.stop_model.specs.Steps.{seen}
use Rattle.vol_model.specs.Calls.{Files}
use Rattle.vol_model.specs.Events.{Item, code_of, events_of}
use Rattle.vol_model.specs.Runs.{Runs}
use Rattle.vol_model.specs.declared.answers.Stop.{Stop}
use Rattle.vol_model.specs.declared.contents.Shelf.{Shelf}
use Rattle.volume_manager.specs.Run.{IsStopIn, OnlySynced, RunsItems, status_of}
use Rattle.volume_manager.proofs.Bases.{same_base, same_names, under_shows}
use Rattle.volume_manager.proofs.Works.{has_worked, stops_worked, works_failed, works_finished, works_short}
use Rattle.volume_manager.proofs.work.work.Goals as goal
use Rattle.volume_manager.proofs.work.work.Goals.{in-Ok, in-Err-Device, in-Err-Print, in-Err-Memory}

pub returns-clause-items : goal.returns-clause-items
returns-clause-items g c told shelf t before stood state early begun promise =
    let M = g.H.Hall.meaning in
    let F = g.H.Hall.facts in
    let machine = c.args.machine in
    let new = c.run_jobs-ran.new.machine in
    let old' : Meaning (List File) = M (hall_of machine) in
    let new' : Meaning (List File) = M (hall_of new) in
    let names = pack_names machine in
    let items : List Item = (jobs_work c.args.date c.args.jobs.now shelf).items in
    let named : pack_names new ≡ names = same_names (F (hall_of machine)) (F (hall_of new)) (indexes_of machine) (indexes_of new) c.run_jobs-ran.ensures.faults.base in
    let runs : Runs g.H.Hall.tells (events_of items) (seen (shelf_under names) old') (seen (shelf_under names) new') c.run_jobs-ran.result =
    subst (λ (n : List (List ℕ)). Runs g.H.Hall.tells (events_of items) (seen (shelf_under names) old') (seen (shelf_under n) new') c.run_jobs-ran.result) named
    (subst (λ (s : Shelf). Runs g.H.Hall.tells (events_of (jobs_work c.args.date c.args.jobs.now s).items) (seen (shelf_under names) old') (seen (shelf_under (pack_names new)) new') c.run_jobs-ran.result) state (c.run_jobs-ran.ensures.works told).does.runs) in
    let shows = under_shows names before shelf stood in
    let safe : (files : List File) (printed : List ℕ) → new'.left_since t files printed → AreSafe names shelf.volumes before files = λ files printed left.
    subst (λ (n : List (List ℕ)). AreSafe n shelf.volumes before files) named
    ((c.run_jobs-ran.ensures.promise told t (Files before) early promise shelf (ap (λ (n : List (List ℕ)). shelf_of (images_named before n)) named ∙ stood)).stops files printed left) in
    let stops : (files : List File) (printed : List ℕ) → new'.left_since t files printed → IsStopIn names shelf items before old'.printed files printed =
    stops_worked names shelf items t before (shelf_under names) shows old' new' early begun state safe told runs in
    let later = runs.moments.later in
    let counts = g.met.H.Hall.counts_now (hall_of new) in
    let at_sync : (n : ℕ) (m : Meaning (List File)) → OnlySynced (M c.close-hall.result) m n → status_of c.match-ran.ended ≡ n → M c.match-ran.hall ≡ m → OnlySynced new' (M c.match-ran.hall) (status_of c.match-ran.ended) = λ n m synced status hall.
    subst (λ (k : ℕ). OnlySynced new' (M c.match-ran.hall) k) (sym status)
    (subst (λ (k : Meaning (List File)). OnlySynced new' k n) (sym hall) (subst (λ h. OnlySynced (M h) m n) c.close-hall.ensures.hall synced)) in
    let at_close : RunsItems names shelf items t before old'.printed new' (status_of c.match-ran.ended) → c.match-ran.hall ≡ c.close-hall.result → RunsItems names shelf items t before old'.printed (M c.match-ran.hall) (status_of c.match-ran.ended) =
    λ works is. subst (λ h. RunsItems names shelf items t before old'.printed (M h) (status_of c.match-ran.ended)) (sym (is ∙ c.close-hall.ensures.hall)) works in
    elim c.match-ran.branch [
      | in-Ok w ↦
          let code = w.in-Ok.ran.code in
          let ran_ok : Runs {T = Ran} {E = Stop} g.H.Hall.tells (events_of items) (seen (shelf_under names) old') (seen (shelf_under names) new') (Ok w.in-Ok.ran) =
          subst (λ (r : Result Ran Stop). Runs g.H.Hall.tells (events_of items) (seen (shelf_under names) old') (seen (shelf_under names) new') r) w.in-Ok.is runs in
          let total = w.in-Ok.ensures.works told in
          let settled = c.close-hall.ensures.settled (search rules) told in
          let all = subst (λ (n : List (List ℕ)). AreSettledImages n new'.state) named settled.settled in
          let is = total.ran.code ∙ ap (λ (s : Shelf). code_of (jobs_work c.args.date c.args.jobs.now s).items) state in
          let done = has_worked names shelf items t before (shelf_under names) shows old' new' early begun state safe code told counts (g.met.H.Hall.leaves_state (hall_of new)) all is w.in-Ok.ensures.small ran_ok in
          let synced = at_sync (status_of w.finish-ended.result) (M w.finish-ended.new.hall) (w.finish-ended.ensures.files told) (ap status_of w.ended-is) (ap M w.hall-is) in
          works_finished (status_of c.match-ran.ended) code (⊎_elim (λ same. inl ((ap status_of w.ended-is) ∙ same)) (λ same. inr ((ap status_of w.ended-is) ∙ same)) w.finish-ended.ensures.status) counts (omega (arith, early, later)) synced done stops
      | in-Err-Device w ↦ at_close (works_failed (status_of c.match-ran.ended) 22 (ap status_of w.ended-is) (omega arith) (omega arith) (omega (arith, early, later)) stops) w.hall-is
      | in-Err-Print w ↦ at_close (works_failed (status_of c.match-ran.ended) 24 (ap status_of w.ended-is) (omega arith) (omega arith) (omega (arith, early, later)) stops) w.hall-is
      | in-Err-Memory w ↦
          let finish = w.finish-ended-in-Err-Memory in
          let synced = at_sync (status_of finish.result) (M finish.new.hall) (finish.ensures.files told) (ap status_of w.ended-is) (ap M w.hall-is) in
          works_short (status_of c.match-ran.ended) (⊎_elim (λ same. inl ((ap status_of w.ended-is) ∙ same)) (λ same. inr ((ap status_of w.ended-is) ∙ same)) finish.ensures.status) counts (omega (arith, early, later)) synced stops
    ]

pub returns-clause-durable : goal.returns-clause-durable
returns-clause-durable g c told short =
    let M = g.H.Hall.meaning in
    elim c.match-ran.branch [
      | in-Ok w ↦ absurd (omega (arith, short, (ap status_of w.ended-is), w.finish-ended.ensures.status, w.in-Ok.ensures.small))
      | in-Err-Device w ↦ absurd (omega (arith, short, (ap status_of w.ended-is)))
      | in-Err-Print w ↦ absurd (omega (arith, short, (ap status_of w.ended-is)))
      | in-Err-Memory w ↦
          let finish = w.finish-ended-in-Err-Memory in
          subst (λ h. IsDurable (M h)) (sym w.hall-is) ((finish.ensures.files told).durable (λ (failed : status_of finish.result ≡ 22). omega (arith, short, failed, (ap status_of w.ended-is))))
    ]

pub returns-clause-units : goal.returns-clause-units
returns-clause-units g c =
    let F = g.H.Hall.facts in
    let machine = c.args.machine in
    let new = c.run_jobs-ran.new.machine in
    let base = same_base (F (hall_of machine)) (F (hall_of new)) (indexes_of machine) (indexes_of new) c.run_jobs-ran.ensures.faults.base in
    let closed : (F c.close-hall.result).units ≡ (F (hall_of machine)).units = ap (λ h. (F h).units) c.close-hall.ensures.hall ∙ base.units in
    elim c.match-ran.branch [
      | in-Ok w ↦ ap (λ h. (F h).units) w.hall-is ∙ w.finish-ended.ensures.units ∙ closed
      | in-Err-Device w ↦ ap (λ h. (F h).units) w.hall-is ∙ closed
      | in-Err-Print w ↦ ap (λ h. (F h).units) w.hall-is ∙ closed
      | in-Err-Memory w ↦ ap (λ h. (F h).units) w.hall-is ∙ w.finish-ended-in-Err-Memory.ensures.units ∙ closed
    ]
