use Rattle.pack_init.proofs.MountLemmas.{mounts_new, settled_new}
use Rattle.pack_init.proofs.law.new_pack_law.Goals as goal

pub returns-clause-volume : goal.returns-clause-volume
returns-clause-volume c g serial image tracks pack six is = mounts_new g serial tracks image pack six is

pub returns-clause-settled : goal.returns-clause-settled
returns-clause-settled c g serial image tracks pack six is = settled_new g serial tracks image pack six is
