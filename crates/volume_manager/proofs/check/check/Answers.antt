use Rattle.std.proofs.Common.{sym, subst}
use Rattle.stop_model.proofs.MomentLemmas.{same_none}
use Rattle.stop_model.specs.Moments.{Same}
use Rattle.vol_model.specs.declared.contents.Volume.{Volume}
use Rattle.volume_manager.specs.Mount.{IsPackIn}
use Rattle.volume_manager.specs.Run.{FollowsTask, status_of}
use Rattle.volume_manager.specs.Task.{check_task}
use Rattle.volume_manager.proofs.Checks.{volume_right}
use Rattle.volume_manager.proofs.FileTasks.{nothing_checked, on_pack, refused_file, said_then}
use Rattle.volume_manager.proofs.check.check.Goals as goal

pub returns-in-Ok-clause-task : goal.returns-in-Ok-clause-task
returns-in-Ok-clause-task g c told =
    let M = g.H.Hall.meaning in
    let s = c.in-Ok.scanned in
    let found = c.in-Ok.ensures.scanned told in
    let pack : IsPackIn c.args.file.now (M c.args.hall.now).state s.vol = record { image = found.image; there = found.there; mounted = found.scan.mounted } in
    on_pack check_task pack (λ volume stands mounted.
    subst (λ (w : Volume). FollowsTask (check_task found.image w) (M c.args.hall.now) (M c.say.new.hall) (status_of c.say.result)) (volume_right found.image s.vol volume mounted stands)
    (said_then (c.scan_file.ensures.files told) (c.say.ensures.task told found.image found.scan)))

pub returns-in-Err-clause-task : goal.returns-in-Err-clause-task
returns-in-Err-clause-task g c told =
    let M = g.H.Hall.meaning in
    let mid = M c.scan_file.new.hall in
    refused_file c.args.file.now check_task c.in-Err.why (status_of c.refuse.result) (c.in-Err.ensures.refused told) (c.scan_file.ensures.files told) (c.refuse.ensures.task told)
    (λ quiet. subst (λ h. Same mid (M h)) (sym (c.refuse.ensures.silent quiet)) (same_none mid (g.met.H.Hall.counts_now c.scan_file.new.hall)))
    c.refuse.ensures.device c.refuse.ensures.memory (nothing_checked c.args.file.now (status_of c.refuse.result))
