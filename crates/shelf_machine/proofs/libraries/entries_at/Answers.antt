use Rattle.std.proofs.Common.{subst, sym}
use Rattle.std.specs.List.{AllByRecursion}
use Rattle.vol_model.specs.Lawful.{IsLawfulEntry}
use Rattle.pack_machine.proofs.HeldLibraries.{lawful_entries}
use Rattle.shelf_machine.proofs.libraries.entries_at.Goals as goal

pub returns-in-Some-clause-lawful : goal.returns-in-Some-clause-lawful
returns-in-Some-clause-lawful c = subst (AllByRecursion IsLawfulEntry) (sym c.deref.ensures.value) (lawful_entries c.in-Some.library.now)
