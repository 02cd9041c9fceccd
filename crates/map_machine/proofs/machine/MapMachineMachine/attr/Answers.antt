-- A set of a lawful shelf has at most 16 extents, and a secondary quantity of three bytes.
use Rattle.std.proofs.Common.{◌<◌, ◌^◌, sym, subst}
use Rattle.vol_model.specs.declared.answers.SetInfo.{SetInfo}
use Rattle.vol_model.specs.Reading.{set_info}
use Rattle.map_machine.proofs.Finding.{lawful_set}
use Rattle.map_machine.proofs.machine.MapMachineMachine.attr.Goals as goal

pub set_info-requires : goal.set_info-requires
set_info-requires c = let set = lawful_set c.args.self.now.shelf c.args.v c.args.dsn.now.bytes c.in-Some.set.now c.args.self.now.lawful (sym c.in-Some.ensures) in set.1.few

pub returns-clause-lawful : goal.returns-clause-lawful
unfolding set_info
returns-clause-lawful c =
    let set = lawful_set c.args.self.now.shelf c.args.v c.args.dsn.now.bytes c.in-Some.set.now c.args.self.now.lawful (sym c.in-Some.ensures) in
    subst (λ (i : SetInfo). i.attr.secondary < 2 ^ 24) (sym c.set_info.ensures) set.1.secondary
