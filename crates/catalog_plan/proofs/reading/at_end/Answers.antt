use Rattle.std.proofs.Common.{zero, arith, sym}
use Rattle.catalog_plan.specs.Branches.{chains_of}
use Rattle.catalog_plan.proofs.ReadAll.{all_read, none_left, past_read}
use Rattle.catalog_plan.proofs.reading.at_end.Goals as goal

pub returns-in-Some : goal.returns-in-Some
returns-in-Some c per left = sym (past_read per left c.args.visits.items (chains_of c.args.branches) c.pop.new.self.items c.in-Some.visit c.in-Some.ensures.items)

pub returns-in-None : goal.returns-in-None
returns-in-None c per left =
    sym (all_read per left c.args.visits.items (chains_of c.args.branches) zero (none_left c.args.visits.items (omega (arith, c.in-None.ensures.cases.0, c.args.visits.ok.0))))
