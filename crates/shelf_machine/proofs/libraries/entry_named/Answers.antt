use Rattle.std.proofs.Common.{Option, subst, sym}
use Rattle.std.specs.Prelude.{IfSome}
use Rattle.vol_model.specs.Lawful.{IsLawfulEntry}
use Rattle.vol_model.specs.declared.contents.Entry.{Entry}
use Rattle.pack_machine.specs.Libraries.{entry_has}
use Rattle.pack_machine.proofs.HeldLibraries.{copied_lawful, found_lawful}
use Rattle.shelf_machine.proofs.libraries.entry_named.Goals as goal

pub returns-in-Some-clause-lawful : goal.returns-in-Some-clause-lawful
returns-in-Some-clause-lawful c =
    copied_lawful c.copied.result c.in-Some.entry.now c.copied.ensures.entry
    (subst (λ (o : Option Entry). IfSome o IsLawfulEntry) (sym c.in-Some.ensures) (found_lawful (entry_has c.args.name.now.bytes) c.entries_at-entries.result.now c.entries_at-entries.ensures.lawful))
