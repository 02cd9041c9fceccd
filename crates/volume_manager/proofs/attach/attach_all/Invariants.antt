use Rattle.std.proofs.Common.{◌≡◌, map, take}
use Rattle.std.specs.Prelude.{IsTrue, None}
use Rattle.stop_model.specs.Moments.{Same}
use Rattle.volume_manager.specs.Run.{NoCountFell}
use Rattle.volume_manager.specs.Task.{missing_of}
use Rattle.volume_manager.proofs.Attaching.{names_in}
use Rattle.volume_manager.proofs.attach.attach_all.Given as goal

abbrev pub invariant-loop-file : goal.invariant-loop-file
invariant-loop-file g l =
    let m = g.H.Hall.meaning in
    let f = g.H.Hall.facts in
    let names = map (λ f. f.now) l.files in
    record {
      files : IsTrue g.H.Hall.tells → Same (m l.initial.hall) (m l.hall);
      there : IsTrue g.H.Hall.tells → missing_of (m l.initial.hall).state (take l.file-index names) ≡ None;
      named : names_in (f l.hall).units ≡ take l.file-index names;
      later : NoCountFell (f l.initial.hall) (f l.hall);
      references : (f l.hall).references ≡ (f l.initial.hall).references;
    }
