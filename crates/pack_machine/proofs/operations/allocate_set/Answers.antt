use Rattle.std.proofs.Common.{arith}
use Rattle.std.proofs.lemmas.Result.{err_from_is_err_and}
use Rattle.pack_machine.proofs.FreeRooms.{room_for_more}
use Rattle.pack_machine.proofs.operations.allocate_set.Goals as goal

pub allocate-requires-clause-room : goal.allocate-requires-clause-room
allocate-requires-clause-room g c =
    let more = room_for_more (g.H.Hall.facts c.args.hall.now).units c.args.vol.now c.requires.unit c.requires.room in
    omega (arith, more)

pub returns-in_err-allocate-clause-files : goal.returns-in_err-allocate-clause-files
returns-in_err-allocate-clause-files g c told =
    let error = err_from_is_err_and c.from_residual.result c.from_residual.ensures.1 in
    rw (error.1, error.2) (c.in_err-allocate.ensures.files told)
