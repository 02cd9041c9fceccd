use Rattle.pack_machine.proofs.HeldLibraries.{vacant_told}
use Rattle.pack_machine.proofs.libraries.vacancy.Goals as goal

pub returns : goal.returns
returns c image part held = vacant_told image c.args.vol.now c.args.set.now c.in_ok-library.library.now c.is_vacant.result c.is_vacant.ensures (c.in_ok-library.ensures image part held)
