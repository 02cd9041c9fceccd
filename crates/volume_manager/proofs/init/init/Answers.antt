use Rattle.std.proofs.Common.{◌∙◌, ℕ, List, subst, arith}
use Rattle.stop_model.proofs.MomentLemmas.{same_none}
use Rattle.volume_manager.specs.Run.{PrintsText, status_of}
use Rattle.volume_manager.proofs.Making.{nothing_made, pack_made}
use Rattle.volume_manager.proofs.Works.{not_final, out_of_memory}
use Rattle.volume_manager.proofs.init.init.Goals as goal

pub returns-in_err-line-clause-task : goal.returns-in_err-line-clause-task
returns-in_err-line-clause-task g c told =
    let hall = c.args.hall.now in
    nothing_made c.args.pack.now c.args.file.now (status_of c.from_residual.result) (g.met.H.Hall.none_pending hall told c.requires.none) (g.met.H.Hall.only_now hall) (same_none _ (g.met.H.Hall.counts_now hall))
    (not_final (status_of c.from_residual.result) 25 (out_of_memory c.from_residual.result c.from_residual.ensures.1) (omega arith) (omega arith))

pub returns-in-Ok-clause-task : goal.returns-in-Ok-clause-task
returns-in-Ok-clause-task g c told =
    let M = g.H.Hall.meaning in
    let hall = c.args.hall.now in
    pack_made c.args.pack.now c.args.file.now (status_of c.end.result) (g.met.H.Hall.none_pending hall told c.requires.none) (g.met.H.Hall.only_now hall) (c.in-Ok.ensures.files told)
    (subst (λ (t : List ℕ). PrintsText t (M c.init.new.hall) (M c.end.new.hall) (status_of c.end.result)) (c.deref.ensures.value ∙ c.in_ok-line.ensures) (c.end.ensures.text told))
    c.end.ensures.status
