use Rattle.vol_model.specs.declared.answers.WorkErr.{WorkErr}
use Rattle.mount_repair.proofs.PackLoops.{PackedSoFar}
use Rattle.mount_repair.proofs.repairing.pack_all.Given as goal

abbrev pub invariant-loop-dir : goal.invariant-loop-dir
invariant-loop-dir g l =
    PackedSoFar WorkErr g.H.Hall.tells (g.H.Hall.facts l.initial.hall) (g.H.Hall.facts l.hall) (g.H.Hall.meaning l.initial.hall) (g.H.Hall.meaning l.hall) l.initial.vol l.vol l.unpacked l.dir-index
