-- What the slots hold once the format 3 of an extension is put and made durable.
use Rattle.std.proofs.Common.{◌≡◌, ◌≢◌, ⊎_elim, ◌+◌, ◌≤◌, ◌<◌, ℕ, true, false, List, length, Some, None, Ok, refl, sym, ap, subst, ◌∙◌}
use Rattle.std.specs.Prelude.{Result, slice_get, slice_set}
use Rattle.std.specs.Option.{option_map}
use Rattle.std.specs.Str.{bytes_eq}
use Rattle.std.proofs.lemmas.Bool.{cases_lt, lt-ltb}
use Rattle.std.proofs.lemmas.Slice.Eq.{bytes_eq-Decides}
use Rattle.dscb_codec.specs.declared.Dscb.{Dscb}
use Rattle.dscb_codec.specs.declared.Dscb.TheVariants as formats
use Rattle.dscb_codec.specs.declared.DscbErr.{DscbErr}
use Rattle.dscb_codec.specs.declared.F1.{F1}
use Rattle.dscb_codec.specs.declared.F3.{F3}
use Rattle.stop_model.specs.Files.{File}
use Rattle.stop_model.specs.Moments.{Meaning}
use Rattle.pack_spec.specs.declared.slot.VtocSlot.{VtocSlot}
use Rattle.pack_spec.specs.Rules.{is_chained, set_in}
use Rattle.pack_spec.specs.Settled.{IsMarked}
use Rattle.pack_spec.proofs.AddressesApart.{AreApart, slots_apart}
use Rattle.vol_model.specs.declared.contents.Run.{Run}
use Rattle.vtoc_index.specs.declared.vol.Vol.{Vol}
use Rattle.vtoc_index.specs.Index.{IsMounted, address_in, with_dscb}
use Rattle.vtoc_index.proofs.VtocPut.{same_or_apart}
use Rattle.free_rebuild.specs.Updates.{Marks}
use Rattle.free_rebuild.proofs.ChainLemmas.{get_low}
use Rattle.dadsm_ops.specs.Allocating.{HaveSameNames}
use Rattle.dadsm_ops.specs.Extending.{HoldAdded, IsForFurther, IsLedTo, IsPointedBy, f3_with}
use Rattle.dadsm_ops.specs.Operations.{image_named}
use Rattle.free_rebuild.specs.Durable.{PutsDurably}
use Rattle.slot_laws.proofs.ChangedSlots.{changed_elsewhere, changed_there, holding}
use Rattle.dadsm_ops.proofs.ExtendedNames.{names_put, open_no_set, set_stays}
use Rattle.dadsm_ops.proofs.ExtendedSteps.{own_marks, stands_there}
use Rattle.dadsm_ops.proofs.ExtendedThirds.{apart_changed, hold_new, hold_own, pointed_once}
use Rattle.dadsm_ops.proofs.NewSetPuts.{not_pointed}
use Rattle.dadsm_ops.proofs.NewSetCalls.{found_open}
use Rattle.dadsm_ops.proofs.NewSetSteps.{IsOpenSlot, third_marks}
use Rattle.slot_laws.proofs.StandingPuts.{slots_by}
use Rattle.free_rebuild.proofs.DurableLemmas.{slot_put}

-- a set that is found in slots of which one holds a format 3 stood in them before
stood : (slots : List VtocSlot) (number : ℕ) (s : VtocSlot) (d : F3) (i : ℕ) (u : VtocSlot) (e : F1) → slice_get slots number ≡ Some s → slice_get (with_dscb number (formats.F3 d) slots) i ≡ Some u → u.content ≡ Ok (formats.F1 e) → slice_get slots i ≡ Some u
stood slots number s d i u e at there held =
    ⊎_elim
    (λ (same : i ≡ number).
    let here : Some (holding (formats.F3 d) s) ≡ Some u = sym (changed_there number (formats.F3 d) slots s at) ∙ ap (slice_get (with_dscb number (formats.F3 d) slots)) (sym same) ∙ there in
    let one : holding (formats.F3 d) s ≡ u = cc in
    let wrong : Ok (formats.F3 d) ≡ Ok (formats.F1 e) = ap (λ (x : VtocSlot). x.content) one ∙ held in
    absurd (never wrong))
    (λ (other : i ≢ number). sym (changed_elsewhere number i (formats.F3 d) slots other) ∙ there)
    (same_or_apart i number)
  where
    never : (let c : Result Dscb DscbErr = Ok (formats.F3 d) in c) ≡ Ok (formats.F1 e) → ⊥
    never wrong = cc

module _ (name : List ℕ) (v v' : Vol) (m n : Meaning (List File)) (mounted : IsMounted (image_named m.state name) v) (few : v.vtoc.start + v.vtoc.len ≤ 65536) (slot : ℕ) (f : F1) (set : slice_get v.slots.items slot ≡ Some (formats.F1 f)) (three : length f.runs ≡ 3)
    (kind : ℕ) (runs : List Run) (most : f.extents + length runs ≤ 16) (number : ℕ) (h : F3) (front : length h.front ≡ 4) (back : length h.back ≡ 9) where
  abbrev image : List ℕ
  image = image_named m.state name

  abbrev slots : List VtocSlot
  slots = slots_by image v

  abbrev d : F3
  d = f3_with v.geometry kind f.extents runs h

  abbrev z : List VtocSlot
  z = with_dscb number (formats.F3 d) slots

  abbrev here : VtocSlot
  here = record { address = address_in v slot; content = Ok (formats.F1 f) }

  there : slice_get slots slot ≡ Some here
  there = stands_there image v mounted slot (formats.F1 f) set

  apart : AreApart slots
  apart = slots_apart image v.geometry v.vtoc few

  -- what is put is there
  held_after : {T E : Type 0} {x : T} → PutsDurably {T = T} {E = E} name v number (formats.F3 d) v' m n (Ok x) → HoldAdded z v.geometry kind slot f runs (address_in v number) → HoldAdded (slots_by (image_named n.state name) v) v.geometry kind slot f runs (address_in v number)
  held_after put hold =
      subst (λ (files : List File). HoldAdded (slots_by (image_named files name) v) v.geometry kind slot f runs (address_in v number)) (sym put.step.done.0)
      (subst (λ (ss : List VtocSlot). HoldAdded ss v.geometry kind slot f runs (address_in v number)) (sym (slot_put put.put).slots) hold)

  -- in the set's own format 3
  pub own_held : {T E : Type 0} {x : T} → IsLedTo v f number h → 3 < f.extents → is_chained f ≡ true → PutsDurably {T = T} {E = E} name v number (formats.F3 (f3_with v.geometry kind f.extents runs h)) v' m n (Ok x) → HoldAdded (slots_by (image_named n.state name) v) v.geometry kind slot f runs (address_in v number)
  own_held own more chained put =
      let third : VtocSlot = record { address = address_in v number; content = Ok (formats.F3 h) } in
      let at = stands_there image v mounted number (formats.F3 h) own.there in
      let pointer : address_in v number ≡ f.pointer = (bytes_eq-Decides (address_in v number) f.pointer).0 own.address in
      let once : IsPointedBy z (address_in v number) slot = λ i u e found held counts leads.
      pointed_once v.geometry slots mounted.lawful slot here f there refl chained i u e (stood slots number third d i u e at found held) held counts (ap (λ (l : List ℕ). bytes_eq l e.pointer) (sym pointer) ∙ leads) in
      held_after put (hold_own v.geometry kind slot f runs three z (apart_changed number (formats.F3 d) slots apart) number (holding (formats.F3 d) third) (changed_there number (formats.F3 d) slots third at) h front back refl most once more own.address)

  -- or in a new one
  pub new_held : {T E : Type 0} {x : T} → IsOpenSlot v number → f.extents ≤ 3 → 3 < f.extents + length runs → PutsDurably {T = T} {E = E} name v number (formats.F3 (f3_with v.geometry kind f.extents runs h)) v' m n (Ok x) → HoldAdded (slots_by (image_named n.state name) v) v.geometry kind slot f runs (address_in v number)
  new_held at low more put =
      let open_one : VtocSlot = record { address = address_in v number; content = Ok at.item } in
      let place = stands_there image v mounted number at.item at.there in
      let once : IsPointedBy z (address_in v number) slot = λ i u e found held counts leads.
      let before = stood slots number open_one d i u e place found held in
      let wrong : true ≡ false = sym leads ∙ not_pointed v.geometry slots mounted.lawful apart number open_one place at.opened e (i, u, before, held) counts in
      absurd cc in
      held_after put (hold_new v.geometry kind slot f runs three z (apart_changed number (formats.F3 d) slots apart) number (holding (formats.F3 d) open_one) (changed_there number (formats.F3 d) slots open_one place) h front back refl most once low more)

-- ---- by the slot that is found for it

module _ (v : Vol) (f : F1) (number : ℕ) (h : F3) (place : IsForFurther v f number h) where
  -- it is there, and holds no set
  pub place_item : (d : Dscb) × (slice_get v.slots.items number ≡ Some d) × (set_in (Ok d) ≡ None)
  place_item = ⊎_elim
      (λ (more : 3 < f.extents). (formats.F3 h, (place.own more).there, refl))
      (λ (few : f.extents ≤ 3). let at = found_open v number (place.opened few).0 in (at.item, at.there, open_no_set at.item at.opened))
      (cases_lt 3 f.extents)

  pub place_low : number < length v.slots.items
  place_low = get_low v.slots.items number place_item.0 place_item.1

  -- a format 3 in it leaves the names
  pub place_names : (d : F3) → HaveSameNames v.slots.items (slice_set v.slots.items number (formats.F3 d))
  place_names d = names_put v.slots.items number place_item.0 (formats.F3 d) place_item.1 (sym (ap (option_map (λ (x : F1). x.name)) place_item.2))

  pub place_set : (d : F3) (slot : ℕ) → slice_get v.slots.items slot ≡ Some (formats.F1 f) → slice_get (slice_set v.slots.items number (formats.F3 d)) slot ≡ Some (formats.F1 f)
  place_set d slot set = set_stays v.slots.items number slot f place_item.0 (formats.F3 d) set place_item.1 place_item.2

  module _ (name : List ℕ) (v' : Vol) (m n : Meaning (List File)) (mounted : IsMounted (image_named m.state name) v) (few_tracks : v.vtoc.start + v.vtoc.len ≤ 65536) (marked : IsMarked (slots_by (image_named m.state name) v)) (slot : ℕ) (set : slice_get v.slots.items slot ≡ Some (formats.F1 f))
      (three : length f.runs ≡ 3) (front : length h.front ≡ 4) (back : length h.back ≡ 9) (kind : ℕ) (runs : List Run) where
    -- The volume stays.
    pub place_marks : {T E : Type 0} (result : Result T E) → v' ≡ record v { slots = v'.slots; buf = v'.buf } → PutsDurably name v number (formats.F3 (f3_with v.geometry kind f.extents runs h)) v' m n result → Marks name v' m n result
    place_marks result others put = ⊎_elim
        (λ (more : 3 < f.extents). own_marks name v v' m n mounted few_tracks marked slot f set number h (place.own more) (lt-ltb 3 f.extents more) three front kind runs result others put)
        (λ (few : f.extents ≤ 3). third_marks name v v' number m n mounted few_tracks (found_open v number (place.opened few).0) marked result (f3_with v.geometry kind f.extents runs h) others put)
        (cases_lt 3 f.extents)

    -- And the slots hold the added extents.
    pub place_held : {T E : Type 0} {x : T} → f.extents + length runs ≤ 16 → 3 < f.extents + length runs → PutsDurably {T = T} {E = E} name v number (formats.F3 (f3_with v.geometry kind f.extents runs h)) v' m n (Ok x) → HoldAdded (slots_by (image_named n.state name) v) v.geometry kind slot f runs (address_in v number)
    place_held most many put = ⊎_elim
        (λ (more : 3 < f.extents). own_held name v v' m n mounted few_tracks slot f set three kind runs most number h front back (place.own more) more (lt-ltb 3 f.extents more) put)
        (λ (few : f.extents ≤ 3). new_held name v v' m n mounted few_tracks slot f set three kind runs most number h front back (found_open v number (place.opened few).0) few many put)
        (cases_lt 3 f.extents)
