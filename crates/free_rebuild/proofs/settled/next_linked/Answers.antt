use Rattle.std.proofs.Common.{◌≡◌, ◌∙◌, ℕ, true, false, List, refl, sym, ap}
use Rattle.pack_spec.specs.FreeChain.{entries_in}
use Rattle.pack_spec.specs.Label.{heads_of}
use Rattle.free_rebuild.specs.Settled.{has_space, slots_held}
use Rattle.free_rebuild.proofs.HeldLemmas.{held_next_linked}
use Rattle.free_rebuild.proofs.settled.next_linked.Goals as goal

pub returns-then-has_space : goal.returns-then-has_space
returns-then-has_space c =
    let v = c.args.vol.now in
    let n : ℕ = c.in_ok-next.next in
    let entries : List (List ℕ) = entries_in (heads_of v.geometry) v.free.items c.args.number in
    let has : c.has_space.result ≡ has_space (slots_held v) c.args.slot entries c.slot_address.result = c.has_space.ensures in
    let told = sym c.if-has_space.true ∙ has ∙ ap (has_space (slots_held v) c.args.slot entries) c.slot_address.ensures in
    held_next_linked v c.args.slot n entries true (sym c.in_ok-next.ensures.next) (c.in_ok-next.ensures.inside n refl) told

pub returns-else-has_space : goal.returns-else-has_space
returns-else-has_space c =
    let v = c.args.vol.now in
    let n : ℕ = c.in_ok-next.next in
    let entries : List (List ℕ) = entries_in (heads_of v.geometry) v.free.items c.args.number in
    let has : c.has_space.result ≡ has_space (slots_held v) c.args.slot entries c.slot_address.result = c.has_space.ensures in
    let told = sym c.if-has_space.false ∙ has ∙ ap (has_space (slots_held v) c.args.slot entries) c.slot_address.ensures in
    held_next_linked v c.args.slot n entries false (sym c.in_ok-next.ensures.next) (c.in_ok-next.ensures.inside n refl) told
