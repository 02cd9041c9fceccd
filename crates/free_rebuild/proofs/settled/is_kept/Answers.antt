use Rattle.std.proofs.Common.{◌≡◌, ◌||◌, ℕ, Bool, true, false, not, List, Some, Ok, sym, ap, ◌∙◌}
use Rattle.std.specs.Prelude.{slice_get}
use Rattle.dscb_codec.specs.declared.Dscb.{Dscb}
use Rattle.pack_spec.specs.Rules.{is_f3}
use Rattle.vtoc_index.specs.Index.{address_in}
use Rattle.free_rebuild.specs.Clearing.{is_extra}
use Rattle.free_rebuild.proofs.HeldLemmas.{found_item, held_used}
use Rattle.free_rebuild.proofs.settled.is_kept.Goals as goal

pub returns-then-not-has_more : goal.returns-then-not-has_more
returns-then-not-has_more c s is =
    let v = c.args.vol.now in
    let slot : ℕ = c.args.slot in
    let d : Dscb = c.index-dscb.result.now in
    let there : slice_get v.slots.items slot ≡ Some d = found_item v.slots.items slot d c.requires.slot c.index-dscb.ensures in
    let third : is_f3 (Ok d) ≡ false = sym c.has_more.ensures ∙ c.if-not-has_more.true in
    sym (held_used v slot d s there is ∙ ap (λ (t : Bool). not t || not (is_extra v.slots.items (address_in v slot) d)) third)

pub returns : goal.returns
returns c s is =
    let v = c.args.vol.now in
    let slot : ℕ = c.args.slot in
    let d : Dscb = c.index-dscb.result.now in
    let there : slice_get v.slots.items slot ≡ Some d = found_item v.slots.items slot d c.requires.slot c.index-dscb.ensures in
    let third : is_f3 (Ok d) ≡ true = sym c.has_more.ensures ∙ c.if-not-has_more.false in
    let extra : c.is_extra.result ≡ is_extra v.slots.items (address_in v slot) d =
    c.is_extra.ensures
    ∙ ap (λ (ds : List Dscb). is_extra ds c.slot_address.result d) c.deref.ensures.value
    ∙ ap (λ (a : List ℕ). is_extra v.slots.items a d) c.slot_address.ensures in
    ap not extra ∙ sym (held_used v slot d s there is ∙ ap (λ (t : Bool). not t || not (is_extra v.slots.items (address_in v slot) d)) third)
