use Rattle.std.proofs.Common.{rules, ◌∙◌, map, sym, subst, arith}
use Rattle.stop_model.proofs.MomentLemmas.{same_none, same_then}
use Rattle.stop_model.specs.Moments.{Same}
use Rattle.volume_manager.specs.Run.{FollowsTask, status_of}
use Rattle.volume_manager.specs.Task.{cards_task, missing_of}
use Rattle.volume_manager.proofs.FileTasks.{nothing_run}
use Rattle.volume_manager.proofs.Running.{run_attached, run_unattached}
use Rattle.volume_manager.proofs.Works.{not_final, out_of_memory}
use Rattle.volume_manager.proofs.run.run.Goals as goal

pub returns-in_err-jobs-clause-task : goal.returns-in_err-jobs-clause-task
returns-in_err-jobs-clause-task g c told =
    let hall = c.args.hall.now in
    nothing_run c.args.date (map (λ f. f.now) c.args.files.now) c.args.deck.now (status_of c.from_residual.result) (g.met.H.Hall.none_pending hall told c.requires.none) (g.met.H.Hall.only_now hall) (same_none _ (g.met.H.Hall.counts_now hall))
    (not_final (status_of c.from_residual.result) 25 (out_of_memory c.from_residual.result c.from_residual.ensures.1) (omega arith) (omega arith))

pub returns-clause-task : goal.returns-clause-task
returns-clause-task g c told =
    let M = g.H.Hall.meaning in
    let hall = c.args.hall.now in
    let mid = M c.attach_all.new.hall in
    let same = c.attach_all.ensures.files told in
    run_unattached c.args.date (map (λ f. f.now) c.args.files.now) c.args.deck.now c.in-Err.refused.file.now c.in-Err.refused.why (status_of c.refuse.result) (c.in-Err.ensures.missing told) c.in-Err.ensures.error same
    (g.met.H.Hall.none_pending hall told c.requires.none) (g.met.H.Hall.only_now hall) (c.refuse.ensures.task told)
    (λ quiet. same_then same (subst (λ h. Same mid (M h)) (sym (c.refuse.ensures.silent quiet)) (same_none mid (g.met.H.Hall.counts_now c.attach_all.new.hall))))
    c.refuse.ensures.device c.refuse.ensures.memory

pub returns-in-Ok-clause-task : goal.returns-in-Ok-clause-task
returns-in-Ok-clause-task g c told =
    let M = g.H.Hall.meaning in
    let hall = c.args.hall.now in
    let names = map (λ f. f.now) c.args.files.now in
    let same = c.attach_all.ensures.files told in
    let new = M c.run_on-ended.result.1.now in
    let follows : FollowsTask (cards_task c.args.date names c.args.deck.now (M hall).state (missing_of (M hall).state names)) (M hall) new (status_of c.run_on-ended.result.0) =
    run_attached c.args.date names c.args.deck.now c.deref.result.now {mid = M c.attach_all.new.hall} {new = new} (status_of c.run_on-ended.result.0) (c.in-Ok.ensures.there told) (c.deref.ensures.value ∙ c.in_ok-jobs.ensures) same
    (g.met.H.Hall.none_pending hall told c.requires.none) (g.met.H.Hall.only_now hall) (c.run_on-ended.ensures.items told) (c.run_on-ended.ensures.text told) in
    search rules
