use Rattle.std.proofs.Common.{Result, Err, refl, sym, ap, subst, ◌∙◌}
use Rattle.std.proofs.lemmas.Result.{err_from_is_err_and}
use Rattle.vol_model.specs.declared.answers.StoreErr.{StoreErr}
use Rattle.pack_machine.specs.Ready.{Leaves}
use Rattle.ebcdic_names.specs.declared.names.Dsn.{Dsn}
use Rattle.pds_directory.proofs.PackedTracks as directories
use Rattle.vol_model.specs.Shelf.{enter_on}
use Rattle.pack_machine.proofs.ChangedLibraries.{leaves_changed}
use Rattle.pack_machine.proofs.DirectorySteps.{enter_is, enter_on_directory}
use Rattle.pack_machine.proofs.entries.enter_on.Goals as goal

pub returns-in_err-slot : goal.returns-in_err-slot
returns-in_err-slot g c =
    let p = err_from_is_err_and c.from_residual.result c.from_residual.ensures.1 in
    record {
      leaves = subst (λ (r : Result (Unit {0}) StoreErr). Leaves g.H.Hall.tells (enter_on c.args.dsn.now c.args.entry.now c.args.replace) (g.H.Hall.facts c.args.hall.now) (g.H.Hall.facts c.take_library.new.hall) (g.H.Hall.meaning c.args.hall.now) (g.H.Hall.meaning c.take_library.new.hall) c.args.pack.now c.take_library.new.pack r) (sym (p.1 ∙ ap (λ (e : StoreErr). Err e) p.2))
          (c.in_err-slot.ensures.failed (enter_on c.args.dsn.now c.args.entry.now c.args.replace) (enter_on_directory c.args.dsn.now c.args.entry.now c.args.replace));
    }

pub enter-entered-requires-clause-dir : goal.enter-entered-requires-clause-dir
enter-entered-requires-clause-dir g c = c.in_ok-slot.ensures.taken.dir

pub returns : goal.returns
returns g c = record {
  leaves = leaves_changed g.H.Hall.tells c.args.dsn.now (g.H.Hall.facts c.args.hall.now) (g.H.Hall.meaning c.args.hall.now) c.args.pack.now c.requires.ready c.requires.durable (g.H.Hall.facts c.take_library.new.hall) (g.H.Hall.meaning c.take_library.new.hall) c.in_ok-slot.ensures.taken.same
      (λ (d : Dsn). enter_on d c.args.entry.now c.args.replace) (λ (d : Dsn). directories.enter_keeps d c.args.entry.now c.args.replace) (enter_is c.args.dsn.now c.args.entry.now c.args.replace) c.take_library.new.pack _ c.in_ok-slot.slot c.in_ok-slot.library c.in_ok-slot.ensures.taken
      (g.H.Hall.facts c.enter-entered.new.hall) (g.H.Hall.meaning c.enter-entered.new.hall) c.enter-entered.new.dir c.enter-entered.result c.enter-entered.ensures.changes c.give_back.ensures.libraries refl refl c.give_back.result c.give_back.ensures.answer;
}
