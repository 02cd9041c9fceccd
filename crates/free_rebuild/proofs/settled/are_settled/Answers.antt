use Rattle.std.proofs.Common.{true, false, List, ℕ, refl, sym, ◌∙◌}
use Rattle.pack_spec.specs.FreeChain.{entries_of}
use Rattle.pack_spec.specs.Label.{heads_of}
use Rattle.free_rebuild.specs.Settled.{slots_held}
use Rattle.free_rebuild.proofs.HeldLemmas.{settled_parts}
use Rattle.free_rebuild.proofs.settled.are_settled.Goals as goal

pub returns-then-not-has_head : goal.returns-then-not-has_head
returns-then-not-has_head c =
    let v = c.args.vol.now in
    let ess : List (List (List ℕ)) = entries_of (heads_of v.geometry) v.free.items in
    settled_parts (slots_held v) ess false _ (sym c.if-not-has_head.true ∙ c.has_head.ensures) refl

pub returns-then-lists_free : goal.returns-then-lists_free
returns-then-lists_free c =
    let v = c.args.vol.now in
    let ess : List (List (List ℕ)) = entries_of (heads_of v.geometry) v.free.items in
    c.has_no_extra.ensures ∙ settled_parts (slots_held v) ess true true (sym c.if-not-has_head.false ∙ c.has_head.ensures) (sym c.if-lists_free.true ∙ c.lists_free.ensures)

pub returns-else-lists_free : goal.returns-else-lists_free
returns-else-lists_free c =
    let v = c.args.vol.now in
    let ess : List (List (List ℕ)) = entries_of (heads_of v.geometry) v.free.items in
    c.if-lists_free.false ∙ settled_parts (slots_held v) ess true false (sym c.if-not-has_head.false ∙ c.has_head.ensures) (sym c.if-lists_free.false ∙ c.lists_free.ensures)
