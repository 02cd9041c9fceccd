use Rattle.std.proofs.Common.{◌≡◌, ◌+◌, ◌-◌, ◌<◌, ◌∙◌, ℕ, List, drop, length, replicate, sym, ap, arith}
use Rattle.pack_spec.specs.FreeChain.{dscbs_for, entries_in, entries_of}
use Rattle.pack_spec.specs.Label.{heads_of}
use Rattle.pack_spec.specs.declared.slot.VtocSlot.{VtocSlot}
use Rattle.free_rebuild.specs.Settled.{has_space, is_chain, next_linked, slots_held}
use Rattle.free_rebuild.proofs.HeldLemmas.{chain_breaks, chain_ends, chain_goes}
use Rattle.free_rebuild.proofs.settled.lists_free.Goals as goal

pub returns-in-None : goal.returns-in-None
returns-in-None c =
    let v = c.args.vol.now in
    let slots : List VtocSlot = slots_held v in
    let heads : ℕ = heads_of v.geometry in
    let number : ℕ = c.loop-number.number in
    let inv = c.loop-number.invariant in
    let linked : c.next_linked.result ≡ next_linked slots c.loop-number.slot (entries_in heads v.free.items number) = c.next_linked.ensures in
    let low : number + 1 < dscbs_for (length v.free.items) = omega (arith, c.loop-number-test.true, inv.last) in
    sym (sym inv.chain ∙ chain_breaks slots heads v.free.items c.loop-number.slot number low (sym linked ∙ c.in-None.is))

pub loop-number-preserved : goal.loop-number-preserved
loop-number-preserved c =
    let v = c.args.vol.now in
    let slots : List VtocSlot = slots_held v in
    let heads : ℕ = heads_of v.geometry in
    let number : ℕ = c.loop-number.number in
    let inv = c.loop-number.invariant in
    let linked : c.next_linked.result ≡ next_linked slots c.loop-number.slot (entries_in heads v.free.items number) = c.next_linked.ensures in
    let low : number + 1 < dscbs_for (length v.free.items) = omega (arith, c.loop-number-test.true, inv.last) in
    record {
      last = inv.last;
      chain = chain_goes slots heads v.free.items c.loop-number.slot number c.in-Some.next low (sym linked ∙ c.in-Some.is) ∙ inv.chain;
    }

pub returns : goal.returns
returns c =
    let v = c.args.vol.now in
    let slots : List VtocSlot = slots_held v in
    let heads : ℕ = heads_of v.geometry in
    let ess : List (List (List ℕ)) = entries_of heads v.free.items in
    let slot : ℕ = c.loop-number.slot in
    let last : ℕ = c.dscbs_for-last.result - 1 in
    let inv = c.loop-number.invariant in
    let has : c.has_space.result ≡ has_space slots slot (entries_in heads v.free.items last) (replicate 5 0) = c.has_space.ensures in
    let end : last ≡ c.loop-number.number = omega (arith, c.loop-number-test.false, c.loop-number.auto.number-end) in
    has ∙ sym (chain_ends slots heads v.free.items slot last inv.last) ∙ ap (λ (n : ℕ). is_chain slots slot (drop n ess)) end ∙ inv.chain
