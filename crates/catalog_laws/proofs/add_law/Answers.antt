use Rattle.std.proofs.Common.{inl, inr, ◌++◌, ⊎_elim, take}
use Rattle.catalog_blocks.specs.Trees.{numbers}
use Rattle.catalog_laws.specs.Writes.{with_writes}
use Rattle.catalog_laws.proofs.PlanWrites.{plan_reads, writes_add, writes_leave}
use Rattle.catalog_laws.proofs.add_law.Goals as goal

pub returns : goal.returns
returns goals = λ per blocks store before c after fresh list new ws some are apart below plan e is k.
    let now = with_writes per (numbers c ++ fresh) blocks (take k ws) store in
    ⊎_elim
    (λ read. inl (writes_leave per store now before c after (numbers c ++ fresh) list are apart read plan.leads))
    (λ read. inr (writes_add per store now before c after (numbers c ++ fresh) new e are read is))
    (plan_reads per blocks store before c after fresh list new ws some are apart below plan k)
