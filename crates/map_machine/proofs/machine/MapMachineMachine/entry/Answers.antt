-- The entries of a lawful shelf are lawful.
use Rattle.std.proofs.Common.{sym}
use Rattle.std.specs.Prelude.{find}
use Rattle.std.specs.Option.{option_copied}
use Rattle.std.specs.Str.{bytes_eq}
use Rattle.vol_model.specs.declared.contents.Entry.{Entry}
use Rattle.vol_model.specs.Lawful.{IsLawfulEntry}
use Rattle.vol_model.specs.Reading.{entries_in}
use Rattle.map_machine.specs.Reads.{body_in}
use Rattle.map_machine.proofs.Finding.{entries_found, found_all, picks_hold}
use Rattle.map_machine.proofs.machine.MapMachineMachine.entry.Goals as goal

pub returns-clause-lawful : goal.returns-clause-lawful
returns-clause-lawful c =
    let o = option_copied c.set_on.result in
    picks_hold IsLawfulEntry c.entry_in.result (entries_in (body_in o)) (λ es. find (λ (e : Entry). bytes_eq e.name.bytes c.args.name.now.bytes) es) c.entry_in.ensures.value
    (λ es is x picked. found_all (λ (e : Entry). bytes_eq e.name.bytes c.args.name.now.bytes) IsLawfulEntry es x (entries_found c.args.self.now.shelf c.args.v c.args.dsn.now.bytes c.args.self.now.lawful o (sym c.set_on.ensures) es is) picked)
