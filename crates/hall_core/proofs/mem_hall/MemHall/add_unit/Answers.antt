use Rattle.std.proofs.Common.{rules, ◌≡◌, ◌++◌, ◌∷◌, [], refl}
use Rattle.hall_core.specs.Held.{files_of, first_pairs}
use Rattle.hall_core.proofs.RecordLemmas.{IsAttachedMore, unit_more}
use Rattle.hall_core.proofs.mem_hall.MemHall.add_unit.Goals as goal
use Rattle.hall_core.proofs.mem_hall.MemHall.add_unit.Goals.{After-push}

pushed : (c : After-push) → c.push.new.self.items ≡ c.args.self.now.units.items ++ c.args.place ∷ []
pushed c = search rules

more : (c : After-push) → let s = c.args.self.now in IsAttachedMore (files_of (first_pairs s.first s.files.items)) (files_of s.files.items) s.units.items s.steps.items s.written.items s.printed.items s.replay c.push.new.self.items c.args.place
more c = let s = c.args.self.now in unit_more _ _ _ _ _ _ s.replay c.push.new.self.items c.args.place c.requires.first (pushed c)

pub invariant_of-self-clause-replay : goal.invariant_of-self-clause-replay
invariant_of-self-clause-replay c = (more c).replay

pub returns-clause-noted : goal.returns-clause-noted
returns-clause-noted c = record { calls = refl; events = (more (goal.at.returns-clause-noted c).After-push).events }
