-- The first block at or after the place is picked, and those of a lawful shelf are lawful.
use Rattle.std.proofs.Common.{◌≡◌, false, not, sym, subst}
use Rattle.std.specs.Prelude.{find}
use Rattle.std.specs.Option.{option_copied}
use Rattle.vol_model.specs.declared.contents.Block.{Block}
use Rattle.vol_model.specs.Lawful.{IsLawfulBlock}
use Rattle.vol_model.specs.Places.{is_before}
use Rattle.vol_model.specs.Reading.{Picks, blocks_from, first, readable}
use Rattle.vol_model.specs.Writing.{body_on}
use Rattle.map_machine.specs.Reads.{body_in}
use Rattle.map_machine.proofs.Finding.{blocks_found, first_passed, found_all, found_passes, not_true, picks_hold, picks_same, readable_found}
use Rattle.map_machine.proofs.machine.MapMachineMachine.read_block.Goals as goal

pub returns-clause-value : goal.returns-clause-value
unfolding body_on
returns-clause-value c =
    let p = λ (b : Block). not (is_before b.place c.args.from) in
    λ told. subst (λ o. Picks c.block_in.result (readable (body_in o)) (λ bs. first (blocks_from c.args.from bs))) c.set_on.ensures
    (picks_same c.block_in.result (readable (body_in (option_copied c.set_on.result))) (λ bs. find p bs) (λ bs. first (blocks_from c.args.from bs)) (λ bs. sym (first_passed p bs)) c.block_in.ensures.value)

pub returns-clause-onward : goal.returns-clause-onward
returns-clause-onward c =
    let p = λ (b : Block). not (is_before b.place c.args.from) in
    picks_hold (λ (b : Block). is_before b.place c.args.from ≡ false) c.block_in.result (readable (body_in (option_copied c.set_on.result))) (λ bs. find p bs) c.block_in.ensures.value
    (λ bs is x picked. not_true (is_before x.place c.args.from) (found_passes p bs x picked))

pub returns-clause-lawful : goal.returns-clause-lawful
returns-clause-lawful c =
    let p = λ (b : Block). not (is_before b.place c.args.from) in
    let o = option_copied c.set_on.result in
    picks_hold IsLawfulBlock c.block_in.result (readable (body_in o)) (λ bs. find p bs) c.block_in.ensures.value
    (λ bs is x picked. found_all p IsLawfulBlock bs x (readable_found (body_in o) bs (blocks_found c.args.self.now.shelf c.args.v c.args.dsn.now.bytes c.args.self.now.lawful o (sym c.set_on.ensures)) is) picked)
