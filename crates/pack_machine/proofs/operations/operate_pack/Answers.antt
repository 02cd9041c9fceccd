use Rattle.std.proofs.Common.{rules}
use Rattle.vol_model.specs.Shelf.{step_on}
use Rattle.pack_machine.proofs.Leaving.{leaves_none, leaves_same}
use Rattle.pack_machine.proofs.operations.operate_pack.Goals as goal

pub returns-in-Rename : goal.returns-in-Rename
unfolding step_on
returns-in-Rename g c = record { leaves = leaves_same _ _ c.in-Rename.is c.rename_on.ensures.leaves }

pub returns-in-Scratch : goal.returns-in-Scratch
unfolding step_on
returns-in-Scratch g c = record { leaves = leaves_same _ _ c.in-Scratch.is c.scratch_on.ensures.leaves }

pub returns-in-Enter : goal.returns-in-Enter
unfolding step_on
returns-in-Enter g c = record { leaves = leaves_same _ _ c.in-Enter.is c.enter_on.ensures.leaves }

-- an operation that isn't done yet
pub returns-in_default : goal.returns-in_default
returns-in_default g c = record {
  leaves = leaves_none g.H.Hall.tells (step_on c.args.op.now) (g.H.Hall.facts c.args.hall.now) (g.H.Hall.meaning c.args.hall.now) c.args.pack.now c.requires.ready c.requires.durable (g.met.H.Hall.counts_now c.args.hall.now) (search rules);
}

pub returns-in-Extend : goal.returns-in-Extend
unfolding step_on
returns-in-Extend g c = record { leaves = leaves_same _ _ c.in-Extend.is c.extend_on.ensures.leaves }

pub returns-in-Drop : goal.returns-in-Drop
unfolding step_on
returns-in-Drop g c = record { leaves = leaves_same _ _ c.in-Drop.is c.drop_on.ensures.leaves }

pub returns-in-Allocate : goal.returns-in-Allocate
unfolding step_on
returns-in-Allocate g c = record { leaves = leaves_same _ _ c.in-Allocate.is c.allocate_on.ensures.leaves }

pub returns-in-Empty : goal.returns-in-Empty
unfolding step_on
returns-in-Empty g c = record { leaves = leaves_same _ _ c.in-Empty.is c.empty_on.ensures.leaves }
