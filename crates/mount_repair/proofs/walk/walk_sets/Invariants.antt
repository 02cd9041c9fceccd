use Rattle.mount_repair.specs.Scans.{AreSound}
use Rattle.mount_repair.proofs.WalkedSets.{WalkedSets}
use Rattle.mount_repair.proofs.walk.walk_sets.Given as goal

abbrev pub invariant-loop-k : goal.invariant-loop-k
invariant-loop-k g l = record {
  sets : WalkedSets g.H.Hall.tells (g.H.Hall.facts l.initial.hall) (g.H.Hall.facts l.hall) (g.H.Hall.meaning l.initial.hall) (g.H.Hall.meaning l.hall) l.initial.vol l.vol l.walk l.k;
  sound : AreSound l.initial.vol.slots.items l.walk.unpacked.items;
}
