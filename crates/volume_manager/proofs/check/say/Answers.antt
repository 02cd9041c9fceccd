use Rattle.std.proofs.Common.{◌≡◌, ◌∙◌, ⊎_elim, inl, inr, List, ℕ, subst, arith}
use Rattle.stop_model.proofs.MomentLemmas.{same_none}
use Rattle.pack_machine.specs.Checking.{unread_in}
use Rattle.volume_manager.specs.Lines.{check_text}
use Rattle.volume_manager.specs.Run.{PrintsText, status_of}
use Rattle.volume_manager.specs.Task.{check_code}
use Rattle.volume_manager.proofs.Checks.{ample, scan_said}
use Rattle.volume_manager.proofs.Tasks.{nothing_said, text_said}
use Rattle.volume_manager.proofs.Works.{not_final, out_of_memory}
use Rattle.volume_manager.proofs.check.say.Goals as goal

pub returns-clause-task : goal.returns-clause-task
returns-clause-task g c told image scan =
    let M = g.H.Hall.meaning in
    let s = c.args.scanned.now in
    let unread = unread_in s.volume.items in
    let text : c.deref.result.now ≡ check_text s.vol.serial.bytes s.settled unread = c.deref.ensures.value ∙ c.in_ok-found.ensures.text in
    scan_said s (status_of c.end.result) scan (text_said (check_code s.settled unread) (status_of c.end.result) (ample s.settled unread) (same_none (M c.args.hall.now) (g.met.H.Hall.counts_now c.args.hall.now))
    (subst (λ (t : List ℕ). PrintsText t (M c.args.hall.now) (M c.end.new.hall) (status_of c.end.result)) text (c.end.ensures.text told))
    (⊎_elim (λ done. inl (done ∙ c.in_ok-found.ensures.status)) inr c.end.ensures.status))

pub returns-in_err-found-clause-task : goal.returns-in_err-found-clause-task
returns-in_err-found-clause-task g c told image scan =
    nothing_said _ _ (status_of c.from_residual.result) (same_none (g.H.Hall.meaning c.args.hall.now) (g.met.H.Hall.counts_now c.args.hall.now)) (not_final (status_of c.from_residual.result) 25 (out_of_memory c.from_residual.result c.from_residual.ensures.1) (omega arith) (omega arith))
