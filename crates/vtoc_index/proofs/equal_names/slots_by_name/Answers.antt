use Rattle.std.proofs.Common.{sym, subst, List, ℕ}
use Rattle.vtoc_index.specs.Names.{AreByName, name_in}
use Rattle.vtoc_index.proofs.HeldDscbs.{nothing_first}
use Rattle.vtoc_index.proofs.NamesRead.{by_entries}
use Rattle.vtoc_index.proofs.equal_names.slots_by_name.Goals as goal

pub returns-clause-apart : goal.returns-clause-apart
returns-clause-apart c = nothing_first _ c.in_ok-lowest.ensures.apart

pub returns-clause-order : goal.returns-clause-order
returns-clause-order c =
    let slots = c.args.slots.now in
    subst (λ (l : List ℕ). AreByName (name_in slots) l) (sym c.in_ok-slots_in.ensures.items)
    (by_entries slots _ c.in_ok-slots_in.ensures.ordered c.in_ok-lowest.ensures.lowest c.in_ok-lowest.ensures.apart)
