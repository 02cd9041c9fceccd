use Rattle.std.proofs.Common.{Result, Err, refl, sym, ap, subst, ◌∙◌}
use Rattle.std.proofs.lemmas.Result.{err_from_is_err_and}
use Rattle.vol_model.specs.declared.answers.StoreErr.{StoreErr}
use Rattle.pack_machine.specs.Ready.{Leaves}
use Rattle.ebcdic_names.specs.declared.names.Dsn.{Dsn}
use Rattle.pds_directory.proofs.PackedTracks as directories
use Rattle.vol_model.specs.Shelf.{drop_on}
use Rattle.pack_machine.proofs.ChangedLibraries.{leaves_changed}
use Rattle.pack_machine.proofs.DirectorySteps.{drop_is, drop_on_directory}
use Rattle.pack_machine.proofs.entries.drop_on.Goals as goal

pub returns-in_err-slot : goal.returns-in_err-slot
returns-in_err-slot g c =
    let p = err_from_is_err_and c.from_residual.result c.from_residual.ensures.1 in
    record {
      leaves = subst (λ (r : Result (Unit {0}) StoreErr). Leaves g.H.Hall.tells (drop_on c.args.dsn.now c.args.name.now) (g.H.Hall.facts c.args.hall.now) (g.H.Hall.facts c.take_library.new.hall) (g.H.Hall.meaning c.args.hall.now) (g.H.Hall.meaning c.take_library.new.hall) c.args.pack.now c.take_library.new.pack r) (sym (p.1 ∙ ap (λ (e : StoreErr). Err e) p.2))
          (c.in_err-slot.ensures.failed (drop_on c.args.dsn.now c.args.name.now) (drop_on_directory c.args.dsn.now c.args.name.now));
    }

pub drop_entry-dropped-requires : goal.drop_entry-dropped-requires
drop_entry-dropped-requires g c = record { dir = c.in_ok-slot.ensures.taken.dir }

pub returns : goal.returns
returns g c = record {
  leaves = leaves_changed g.H.Hall.tells c.args.dsn.now (g.H.Hall.facts c.args.hall.now) (g.H.Hall.meaning c.args.hall.now) c.args.pack.now c.requires.ready c.requires.durable (g.H.Hall.facts c.take_library.new.hall) (g.H.Hall.meaning c.take_library.new.hall) c.in_ok-slot.ensures.taken.same
      (λ (d : Dsn). drop_on d c.args.name.now) (λ (d : Dsn). directories.drop_keeps d c.args.name.now) (drop_is c.args.dsn.now c.args.name.now) c.take_library.new.pack _ c.in_ok-slot.slot c.in_ok-slot.library c.in_ok-slot.ensures.taken
      (g.H.Hall.facts c.drop_entry-dropped.new.hall) (g.H.Hall.meaning c.drop_entry-dropped.new.hall) c.drop_entry-dropped.new.dir c.drop_entry-dropped.result c.drop_entry-dropped.ensures.changes c.give_back.ensures.libraries refl refl c.give_back.result c.give_back.ensures.answer;
}
