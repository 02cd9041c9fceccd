-- The entries of a lawful shelf are lawful.
use Rattle.std.proofs.Common.{sym}
use Rattle.std.specs.Prelude.{slice_get}
use Rattle.std.specs.Option.{option_copied}
use Rattle.vol_model.specs.Lawful.{IsLawfulEntry}
use Rattle.vol_model.specs.Reading.{entries_in}
use Rattle.map_machine.specs.Reads.{body_in}
use Rattle.map_machine.proofs.Finding.{at_all, entries_found, picks_hold}
use Rattle.map_machine.proofs.machine.MapMachineMachine.entry_at.Goals as goal

pub returns-clause-lawful : goal.returns-clause-lawful
returns-clause-lawful c =
    let o = option_copied c.set_on.result in
    picks_hold IsLawfulEntry c.entry_at_in.result (entries_in (body_in o)) (λ es. slice_get es c.args.k) c.entry_at_in.ensures.value
    (λ es is x picked. at_all IsLawfulEntry es c.args.k x (entries_found c.args.self.now.shelf c.args.v c.args.dsn.now.bytes c.args.self.now.lawful o (sym c.set_on.ensures) es is) picked)
