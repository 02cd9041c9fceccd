use Rattle.std.proofs.Common.{◌≡◌, Some, None, refl, ◌∙◌, arith}
use Rattle.vtoc_index.proofs.HeldLemmas.{noted}
use Rattle.shelf_machine.proofs.writing.find_slot.Goals as goal

pub returns-in_default-clause-told : goal.returns-in_default-clause-told
returns-in_default-clause-told g c told =
    let there = c.requires.named told in
    let both : None ≡ Some there.0 = c.in_default.ensures ∙ there.1 in
    cc

pub returns-in_default-clause-faults : goal.returns-in_default-clause-faults
returns-in_default-clause-faults g c =
    noted refl refl refl (omega arith) c.differs.ensures.faults c.differs.ensures.rose
    (λ told.
    let there = c.requires.named told in
    let both : None ≡ Some there.0 = c.in_default.ensures ∙ there.1 in
    cc)
