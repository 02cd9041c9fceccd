use Rattle.pack_machine.specs.Libraries.{library_from}
use Rattle.pack_machine.proofs.HeldLibraries.{found_held, some_found}
use Rattle.pack_machine.proofs.libraries.held_of.Goals as goal

pub returns : goal.returns
returns c =
    some_found _ (library_from c.args.libraries.now c.in_ok-start.start) _ c.held_from.ensures
    (λ l is image part held. found_held image c.args.vol.now c.args.set.now part c.args.libraries.now held c.in_ok-start.start (c.in_ok-start.ensures.track image part.part.set) l is)
