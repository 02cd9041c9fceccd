use Rattle.std.proofs.Common.{Ok}
use Rattle.iebcopy_util.proofs.WholeLemmas.{whole_kept, whole_none}
use Rattle.iebcopy_util.proofs.copying.set_output_attributes.Goals as goal

pub returns-then-not-blank : goal.returns-then-not-blank
returns-then-not-blank g c = rw c.if-not-blank.true (whole_none g.M.Machine (Ok tt) c.requires)

pub returns : goal.returns
returns g c = rw c.if-not-blank.false (whole_kept g.M.Machine c.perform.ensures.takes c.perform.ensures.memory)
