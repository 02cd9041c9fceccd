use Rattle.std.proofs.Common.{ap, arith}
use Rattle.pack_machine.specs.Libraries.{size_held}
use Rattle.shelf_machine.proofs.libraries.blocks_at.Goals as goal

pub returns-in-Some : goal.returns-in-Some
returns-in-Some c = omega (arith, c.len.ensures, ap size_held c.in-Some.ensures)

pub returns-in-None : goal.returns-in-None
returns-in-None c = ap size_held c.in-None.ensures
