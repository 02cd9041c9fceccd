use Rattle.pack_machine.proofs.libraries.held_end.Goals as goal

pub returns : goal.returns
returns c image part held = (c.in_ok-library.ensures image part held).dir.end
