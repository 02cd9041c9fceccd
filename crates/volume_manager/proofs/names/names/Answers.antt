use Rattle.std.proofs.Common.{◌≡◌, ◌∙◌, ℕ, List, sym, ap, subst, arith}
use Rattle.dscb_codec.specs.declared.Dscb.{Dscb}
use Rattle.stop_model.proofs.MomentLemmas.{same_none}
use Rattle.stop_model.specs.Moments.{Same}
use Rattle.volume_manager.specs.Lines.{names_listing}
use Rattle.volume_manager.specs.Names.{IsListing, names_in, names_of}
use Rattle.volume_manager.specs.Run.{PrintsText, status_of}
use Rattle.volume_manager.specs.Task.{names_task}
use Rattle.volume_manager.proofs.FileTasks.{nothing_named, on_pack, refused_file}
use Rattle.volume_manager.proofs.Listings.{listed_right}
use Rattle.volume_manager.proofs.Tasks.{text_said}
use Rattle.volume_manager.proofs.Works.{not_final, out_of_memory}
use Rattle.volume_manager.proofs.names.names.Goals as goal

pub returns-in_ok-text-in-Ok-clause-task : goal.returns-in_ok-text-in-Ok-clause-task
returns-in_ok-text-in-Ok-clause-task g c told =
    let M = g.H.Hall.meaning in
    let listed = c.in_ok-text-in-Ok.ensures in
    let lists = subst (λ (ds : List Dscb). IsListing (names_in ds) listed.0) c.deref.ensures.value listed.1 in
    on_pack names_task (c.in-Ok.ensures.mounted told) (λ volume stands mounted.
    let text : c.deref-in-Ok.result.now ≡ names_listing (names_of volume.sets) =
    c.deref-in-Ok.ensures.value ∙ listed.2 ∙ ap names_listing (listed_right _ c.in-Ok.vol volume listed.0 mounted stands lists) in
    text_said 0 (status_of c.end.result) (λ is. cc) (c.mount.ensures.files told)
    (subst (λ (t : List ℕ). PrintsText t (M c.mount.new.hall) (M c.end.new.hall) (status_of c.end.result)) text (c.end.ensures.text told)) c.end.ensures.status)

pub returns-in_err-text-in-Ok-clause-task : goal.returns-in_err-text-in-Ok-clause-task
returns-in_err-text-in-Ok-clause-task g c told =
    nothing_named c.args.file.now (status_of c.from_residual.result) (c.mount.ensures.files told) (not_final (status_of c.from_residual.result) 25 (out_of_memory c.from_residual.result c.from_residual.ensures.1) (omega arith) (omega arith))

pub returns-in-Err-clause-task : goal.returns-in-Err-clause-task
returns-in-Err-clause-task g c told =
    let M = g.H.Hall.meaning in
    let mid = M c.mount.new.hall in
    refused_file c.args.file.now names_task c.in-Err.why (status_of c.refuse.result) (c.in-Err.ensures.refused told) (c.mount.ensures.files told) (c.refuse.ensures.task told)
    (λ quiet. subst (λ h. Same mid (M h)) (sym (c.refuse.ensures.silent quiet)) (same_none mid (g.met.H.Hall.counts_now c.mount.new.hall)))
    c.refuse.ensures.device c.refuse.ensures.memory (nothing_named c.args.file.now (status_of c.refuse.result))
