use Rattle.std.proofs.Common.{◌≡◌, false, List, Option, Some, Ok, option_and_then, sym, ap, ◌∙◌}
use Rattle.std.specs.Prelude.{slice_get}
use Rattle.std.specs.Option.{option_map_or}
use Rattle.dscb_codec.specs.declared.Dscb.{Dscb}
use Rattle.dscb_codec.specs.declared.F4.{F4}
use Rattle.pack_spec.specs.Settled.{head_in}
use Rattle.free_rebuild.specs.Settled.{counts_match, slots_held}
use Rattle.free_rebuild.proofs.HeldLemmas.{found_item, held_head, item_past}
use Rattle.free_rebuild.proofs.settled.has_head.Goals as goal

pub returns-in-Some : goal.returns-in-Some
returns-in-Some c =
    let v = c.args.vol.now in
    let d : Dscb = c.in-Some.dscb.now in
    let lookup = c.in-Some.ensures.lookup in
    let there : slice_get v.slots.items 0 ≡ Some d =
    ap (λ (ds : List Dscb). slice_get ds 0) (sym c.deref.ensures.value) ∙ found_item c.deref.result.now 0 d lookup.3.0 (lookup.3.1 d) in
    c.is_head.ensures ∙ sym (ap (λ (o : Option F4). option_map_or (counts_match (slots_held v)) o false) (held_head v ∙ ap (option_and_then (λ (x : Dscb). head_in (Ok x))) there))

pub returns-in-None : goal.returns-in-None
returns-in-None c =
    let v = c.args.vol.now in
    let none = ap (λ (ds : List Dscb). slice_get ds 0) (sym c.deref.ensures.value) ∙ item_past c.deref.result.now 0 c.in-None.ensures.lookup.3 in
    sym (ap (λ (o : Option F4). option_map_or (counts_match (slots_held v)) o false) (held_head v ∙ ap (option_and_then (λ (x : Dscb). head_in (Ok x))) none))
