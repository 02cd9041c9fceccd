-- The blocks of a lawful shelf are lawful, and the one that is read is the first at or after the place.
use Rattle.std.proofs.Common.{◌≡◌, false, sym}
use Rattle.std.specs.Option.{option_copied}
use Rattle.vol_model.specs.Lawful.{IsLawfulBlock}
use Rattle.vol_model.specs.Places.{is_before}
use Rattle.map_machine.specs.Reads.{body_in}
use Rattle.map_machine.proofs.Finding.{and_first, and_second, blocks_found, reads_both}
use Rattle.map_machine.proofs.machine.MapMachineMachine.read_into.Goals as goal

pub block_into-requires : goal.block_into-requires
block_into-requires c = blocks_found c.args.self.now.shelf c.args.v c.args.dsn.now.bytes c.args.self.now.lawful (option_copied c.set_on.result) (sym c.set_on.ensures)

pub returns-clause-onward : goal.returns-clause-onward
returns-clause-onward c =
    let o = option_copied c.set_on.result in
    let b = c.block_into.new.block in
    and_second c.block_into.result (IsLawfulBlock b) (is_before b.place c.args.from ≡ false)
    (reads_both c.block_into.result (body_in o) c.args.from b (blocks_found c.args.self.now.shelf c.args.v c.args.dsn.now.bytes c.args.self.now.lawful o (sym c.set_on.ensures)) c.block_into.ensures.value)

pub returns-clause-lawful : goal.returns-clause-lawful
returns-clause-lawful c =
    let o = option_copied c.set_on.result in
    let b = c.block_into.new.block in
    and_first c.block_into.result (IsLawfulBlock b) (is_before b.place c.args.from ≡ false)
    (reads_both c.block_into.result (body_in o) c.args.from b (blocks_found c.args.self.now.shelf c.args.v c.args.dsn.now.bytes c.args.self.now.lawful o (sym c.set_on.ensures)) c.block_into.ensures.value)
