use Rattle.std.proofs.Common.{◌≡◌, List, ℕ, Some, sym, ap, ◌∙◌}
use Rattle.std.specs.Prelude.{slice_get}
use Rattle.vol_model.specs.declared.contents.Run.{Run}
use Rattle.dscb_codec.specs.declared.Dscb.{Dscb}
use Rattle.pack_spec.specs.FreeChain.{entries_in}
use Rattle.pack_spec.specs.Label.{heads_of}
use Rattle.free_rebuild.specs.Chain.{space_of}
use Rattle.free_rebuild.proofs.HeldLemmas.{found_item, held_no_space, held_space, item_past}
use Rattle.free_rebuild.proofs.settled.has_space.Goals as goal

pub returns-in-Some : goal.returns-in-Some
returns-in-Some c =
    let v = c.args.vol.now in
    let d : Dscb = c.in-Some.found.now in
    let heads : ℕ = heads_of v.geometry in
    let entries : List (List ℕ) = entries_in heads v.free.items c.args.number in
    let lookup = c.in-Some.ensures.lookup in
    let there : slice_get v.slots.items c.args.slot ≡ Some d =
    ap (λ (ds : List Dscb). slice_get ds c.args.slot) (sym c.deref-2.ensures.value) ∙ found_item c.deref-2.result.now c.args.slot d lookup.3.0 (lookup.3.1 d) in
    let wanted : c.space_dscb-wanted.result ≡ space_of (entries_in c.heads.result c.deref.result.now c.args.number) c.args.pointer = c.space_dscb-wanted.ensures in
    let is : c.space_dscb-wanted.result ≡ space_of entries c.args.pointer =
    wanted
    ∙ ap (λ (h : ℕ). space_of (entries_in h c.deref.result.now c.args.number) c.args.pointer) c.heads.ensures
    ∙ ap (λ (runs : List Run). space_of (entries_in heads runs c.args.number) c.args.pointer) c.deref.ensures.value in
    c.is_space.ensures entries c.args.pointer is ∙ sym (held_space v c.args.slot d entries c.args.pointer there)

pub returns-in-None : goal.returns-in-None
returns-in-None c =
    let v = c.args.vol.now in
    let entries : List (List ℕ) = entries_in (heads_of v.geometry) v.free.items c.args.number in
    let lookup = c.in-None.ensures.lookup in
    let none = ap (λ (ds : List Dscb). slice_get ds c.args.slot) (sym c.deref-2.ensures.value) ∙ item_past c.deref-2.result.now c.args.slot lookup.3 in
    sym (held_no_space v c.args.slot entries c.args.pointer none)
