use Rattle.std.proofs.Common.{◌++◌, ◌∷◌, [], ap, subst, ◌∙◌}
use Rattle.std.specs.Prelude.{OnOk, Vec}
use Rattle.std.specs.declared.alloc.Global.{Global}
use Rattle.std.proofs.lemmas.Result.{on_ok_weaker}
use Rattle.dscb_codec.specs.declared.F1.{F1}
use Rattle.ebcdic_names.specs.declared.names.Dsn.{Dsn}
use Rattle.hall_core.specs.Images.{image_in}
use Rattle.vol_model.specs.declared.answers.Kind.{Kind}
use Rattle.mount_repair.specs.Walks.{WalksSet}
use Rattle.mount_repair.proofs.SetsByName.{set_there}
use Rattle.mount_repair.proofs.WalkedBodies.{entry_is, one_set}
use Rattle.mount_repair.proofs.walk.walk_set.Goals as goal

pub walk_body-requires-clause-set : goal.walk_body-requires-clause-set
walk_body-requires-clause-set g c told =
    let image = image_in (g.H.Hall.meaning c.args.hall.now) (g.H.Hall.facts c.args.hall.now) c.args.vol.now.unit in
    set_there image c.args.vol.now (c.requires.mounted told) c.args.slot c.set_at-set.result c.set_at-set.ensures

pub returns-clause-walk : goal.returns-clause-walk
returns-clause-walk g c told f there =
    let image = image_in (g.H.Hall.meaning c.args.hall.now) (g.H.Hall.facts c.args.hall.now) c.args.vol.now.unit in
    let walked = c.in_ok-kind.ensures in
    subst (λ (x : F1). OnOk c.list.result (WalksSet image c.args.vol.now c.args.slot x c.args.walk.now (record (c.walk_body.new.walk) { volume = c.list.new.volume })))
    (one_set c.args.vol.now.slots.items c.args.slot c.set_at-set.result f c.set_at-set.ensures there)
    (on_ok_weaker c.list.result
    (λ done. record {
      kind = done ∙ ap (λ (v : Vec (Dsn × Kind) Global). v.items ++ (record { bytes = c.set_at-set.result.name }, c.in_ok-kind.kind) ∷ []) walked.notes.volume ∙ ap (λ (x : Dsn × Kind). c.args.walk.now.volume.items ++ x ∷ []) (entry_is image c.args.vol.now c.set_at-set.result c.in_ok-kind.kind (walked.kind told));
      directory = walked.notes.directory told;
      library = walked.notes.library told;
    })
    c.list.ensures.done)
