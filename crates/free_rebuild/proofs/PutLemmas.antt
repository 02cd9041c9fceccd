-- A slot without a part that is put into any image that a stop may leave.
use Rattle.std.proofs.Common.{◌≡◌, ◌≢◌, ◌+◌, ◌<◌, ℕ, zero, suc, Bool, true, false, cond, List, [], ◌∷◌, length, map, Option, Some, Ok, refl, sym, ap, subst, ◌∙◌, inl, inr, ⊎_elim, arith, option_and_then}
use Rattle.std.specs.Prelude.{slice_get, slice_set}
use Rattle.std.specs.Str.{bytes_eq}
use Rattle.std.specs.Vec.{with_item}
use Rattle.std.proofs.lemmas.List.{length-map}
use Rattle.std.proofs.lemmas.Slice.Eq.{bytes_eq-Decides}
use Rattle.dscb_codec.specs.declared.Dscb.{Dscb}
use Rattle.dscb_codec.specs.Layout.{decoded}
use Rattle.stop_model.specs.Files.{File, file_of, patched, written}
use Rattle.pack_spec.specs.declared.slot.VtocSlot.{VtocSlot}
use Rattle.pack_spec.specs.Alike.{AreAlike, IsIn, StandAlike, has_no_part, is_blank}
use Rattle.pack_spec.specs.Settled.{head_in, head_of}
use Rattle.pack_spec.specs.Slots.{slots_of_vtoc}
use Rattle.pack_spec.specs.Vtoc.{vtoc_of}
use Rattle.vtoc_index.specs.declared.vol.Vol.{Vol}
use Rattle.vtoc_index.specs.Index.{IsIndexOf, IsPut, place_of_slot, track_index, with_dscb}
use Rattle.vtoc_index.proofs.ExtentLaw.{extent_put, keeps_other}
use Rattle.vtoc_index.proofs.HeldDscbs.{dscbs_many}
use Rattle.vtoc_index.proofs.PutLaw.{index_put, slot_found, slot_put}
use Rattle.free_rebuild.specs.Stops.{AreAlikeTo, HoldsSlots}
use Rattle.free_rebuild.proofs.ChainLemmas.{same_or_not}

-- an index of another state of the slots puts a slot at the same place, with the same effect
same_put : (v w : Vol) (slot : ℕ) (d : Dscb) (image put : List ℕ) → w ≡ record v { slots = w.slots; buf = w.buf } → IsPut w slot d image put → IsPut v slot d image put
same_put v w slot d image put same p =
    let q : IsPut (record v { slots = w.slots; buf = w.buf }) slot d image put = subst (λ (x : Vol). IsPut x slot d image put) same p in
    record { size = q.size; header = q.header; label = q.label; slots = q.slots; tracks = q.tracks; firsts = q.firsts; contents = q.contents; others = q.others }

pub put_anywhere : (image : List ℕ) (v : Vol) (ds : List Dscb) (slot : ℕ) (d : Dscb) (bytes : List ℕ) → HoldsSlots image v ds → slot < length ds → decoded bytes ≡ Ok d → length bytes ≡ 140
    → HoldsSlots (patched image (place_of_slot v slot) bytes) v (slice_set ds slot d) × IsPut v slot d image (patched image (place_of_slot v slot) bytes)
put_anywhere image v ds slot d bytes holds low is size =
    let w : Vol = holds.index in
    let inside : slot < length w.slots.items = omega (arith, low, ap length holds.items) in
    let place : place_of_slot w slot ≡ place_of_slot v slot = ap (λ (x : Vol). place_of_slot x slot) holds.others in
    let put : IsPut w slot d image (patched image (place_of_slot v slot) bytes) = subst (λ (n : ℕ). IsPut w slot d image (patched image n bytes)) place (slot_put image w slot d bytes holds.is inside size is) in
    let w' : Vol = record w { slots = with_item w.slots slot d; buf = record (w.buf) { records = [] } } in (
      record {
        index = w';
        others = ap (λ (x : Vol). record x { slots = w'.slots; buf = w'.buf }) holds.others;
        items = ap (λ (l : List Dscb). slice_set l slot d) holds.items;
        is = index_put image _ w w' slot d holds.is put (record { items = refl; others = refl; geometry = refl; unit = refl }) (inl refl);
      },
      same_put v w slot d image _ holds.others put,
    )

-- the slots with one changed
with_get : (ss : List VtocSlot) (k : ℕ) (d : Dscb) (t : VtocSlot) → slice_get (with_dscb k d ss) k ≡ Some t → t.content ≡ Ok d
with_get [] k d t is = cc
with_get (s ∷ ss) zero d t is = let same : record s { content = Ok d } ≡ t = cc in sym (ap (λ (x : VtocSlot). x.content) same)
with_get (s ∷ ss) (suc k) d t is = with_get ss k d t is

with_other : (ss : List VtocSlot) (k j : ℕ) (d : Dscb) → j ≢ k → slice_get (with_dscb k d ss) j ≡ slice_get ss j
with_other [] k j d other = refl
with_other (s ∷ ss) zero zero d other = absurd (other refl)
with_other (s ∷ ss) zero (suc j) d other = refl
with_other (s ∷ ss) (suc k) zero d other = refl
with_other (s ∷ ss) (suc k) (suc j) d other = with_other ss k j d (λ e. other (ap suc e))

with_addresses : (ss : List VtocSlot) (k : ℕ) (d : Dscb) → map (λ (s : VtocSlot). s.address) (with_dscb k d ss) ≡ map (λ (s : VtocSlot). s.address) ss
with_addresses [] k d = refl
with_addresses (s ∷ ss) zero d = refl
with_addresses (s ∷ ss) (suc k) d = ap (λ (l : List (List ℕ)). s.address ∷ l) (with_addresses ss k d)

-- slots that are alike are so with one more that has no part
pub alike_with : (y z : List VtocSlot) (k : ℕ) (d : Dscb) → AreAlike y z → ((s : VtocSlot) → slice_get y k ≡ Some s → has_no_part y k s ≡ true) → is_blank k (Ok d) ≡ true → AreAlike y (with_dscb k d z)
alike_with y z k d alike none blank = record {
  addresses = with_addresses z k d ∙ alike.addresses;
  each = λ j s t is_s is_t. ⊎_elim
      (λ here.
      let there : slice_get (with_dscb k d z) k ≡ Some t = ap (slice_get (with_dscb k d z)) (sym here) ∙ is_t in
      let content : t.content ≡ Ok d = with_get z k d t there in
      let part : has_no_part y j s ≡ true = ap (λ (n : ℕ). has_no_part y n s) here ∙ none s (ap (slice_get y) (sym here) ∙ is_s) in
      inr (part, ap (is_blank j) content ∙ ap (λ (n : ℕ). is_blank n (Ok d)) here ∙ blank))
      (λ other. alike.each j s t is_s (sym (with_other z k j d other) ∙ is_t))
      (same_or_not j k);
}

-- a track outside the VTOC isn't that of a slot
outside : (image : List ℕ) (v : Vol) (slot track : ℕ) → IsIndexOf image v → slot < length v.slots.items → ¬ IsIn v.vtoc track → track ≢ v.vtoc.start + track_index v.firsts.items slot
outside image v slot track index low apart same =
    let stands = (slot_found image v slot index low).stands in
    apart (omega (arith, same), omega (arith, same, stands.inside))

head_with : (ss : List VtocSlot) (k : ℕ) (d : Dscb) → k ≢ 0 → head_of (with_dscb k d ss) ≡ head_of ss
head_with ss k d other = ap (option_and_then (λ (s : VtocSlot). head_in s.content)) (with_other ss k 0 d (λ e. other (sym e)))

-- an image that is alike to another is so with a slot put into it that has no part
pub put_alike : (y image : List ℕ) (v : Vol) (ds : List Dscb) (slot : ℕ) (d : Dscb) (bytes : List ℕ) → HoldsSlots image v ds → vtoc_of y v.geometry ≡ Ok v.vtoc → StandAlike v.geometry v.vtoc y image → slot ≢ 0 → slot < length ds → decoded bytes ≡ Ok d → length bytes ≡ 140
    → ((s : VtocSlot) → slice_get (slots_of_vtoc y v.geometry v.vtoc) slot ≡ Some s → has_no_part (slots_of_vtoc y v.geometry v.vtoc) slot s ≡ true) → is_blank slot (Ok d) ≡ true → StandAlike v.geometry v.vtoc y (patched image (place_of_slot v slot) bytes)
put_alike y image v ds slot d bytes holds found alike other low is size none blank =
    let put : List ℕ = patched image (place_of_slot v slot) bytes in
    let p : IsPut v slot d image put = (put_anywhere image v ds slot d bytes holds low is size).1 in
    let w : Vol = record v { slots = holds.index.slots; buf = holds.index.buf } in
    let index : IsIndexOf image w = subst (IsIndexOf image) holds.others holds.is in
    let inside : slot < length w.slots.items = omega (arith, low, ap length holds.items) in
    let q : IsPut w slot d image put = record { size = p.size; header = p.header; label = p.label; slots = p.slots; tracks = p.tracks; firsts = p.firsts; contents = p.contents; others = p.others } in
    record {
      others = record {
        size = p.size ∙ alike.others.size;
        header = p.header ∙ alike.others.header;
        tracks = λ track apart. p.others track (outside image w slot track index inside apart) ∙ alike.others.tracks track apart;
      };
      label = p.label ∙ alike.label;
      extent = extent_put image put w slot d bytes index inside size is refl q (alike.extent ∙ found) (keeps_other slot d (slots_of_vtoc image v.geometry v.vtoc) other) ∙ sym found;
      tracks = p.tracks;
      slots = subst (λ (ss : List VtocSlot). AreAlike (slots_of_vtoc y v.geometry v.vtoc) ss) (sym p.slots) (alike_with (slots_of_vtoc y v.geometry v.vtoc) (slots_of_vtoc image v.geometry v.vtoc) slot d alike.slots none blank);
    }

-- the files with a write
same_name : (a : List ℕ) → bytes_eq a a ≡ true
same_name a = (bytes_eq-Decides a a).1 refl

pub written_there : (files : List File) (name : List ℕ) (at : ℕ) (bytes image : List ℕ) → file_of files name ≡ Some image → file_of (written files name at bytes) name ≡ Some (patched image at bytes)
unfolding written
written_there [] name at bytes image is = cc
written_there (f ∷ files) name at bytes image is = by_name (bytes_eq f.name name) refl is (λ found. written_there files name at bytes image found)
  where
    by_name : (t : Bool) → bytes_eq f.name name ≡ t → cond t (Some f.bytes) (file_of files name) ≡ Some image → (file_of files name ≡ Some image → file_of (written files name at bytes) name ≡ Some (patched image at bytes)) → file_of (cond t (record f { bytes = patched f.bytes at bytes } ∷ files) (f ∷ written files name at bytes)) name ≡ Some (patched image at bytes)
    by_name true test found more = let same : f.bytes ≡ image = cc in rw test (ap (λ (b : List ℕ). Some (patched b at bytes)) same)
    by_name false test found more = rw test (more found)

pub written_other : (files : List File) (name other : List ℕ) (at : ℕ) (bytes : List ℕ) → other ≢ name → file_of (written files name at bytes) other ≡ file_of files other
unfolding written
written_other [] name other at bytes apart = refl
written_other (f ∷ files) name other at bytes apart = by_name (bytes_eq f.name name) refl (written_other files name other at bytes apart)
  where
    by_name : (t : Bool) → bytes_eq f.name name ≡ t → file_of (written files name at bytes) other ≡ file_of files other → file_of (cond t (record f { bytes = patched f.bytes at bytes } ∷ files) (f ∷ written files name at bytes)) other ≡ file_of (f ∷ files) other
    by_name true test more =
        let is : f.name ≡ name = (bytes_eq-Decides f.name name).0 test in
        let differs : bytes_eq f.name other ≡ false = by_other (bytes_eq f.name other) refl is in
        rw differs refl
      where
        by_other : (t : Bool) → bytes_eq f.name other ≡ t → f.name ≡ name → bytes_eq f.name other ≡ false
        by_other true test is = absurd (apart (sym ((bytes_eq-Decides f.name other).0 test) ∙ is))
        by_other false test is = test
    by_name false test more = ap (λ (o : Option (List ℕ)). cond (bytes_eq f.name other) (Some f.bytes) o) more

-- images that are alike have as many slots
as_many : (name : List ℕ) (v : Vol) (y : List ℕ) (before files : List File) (slot : ℕ) (all : AreAlikeTo name v y before files) → slot < length (slots_of_vtoc y v.geometry v.vtoc) → slot < length all.dscbs
as_many name v y before files slot all inside =
    let w : Vol = all.holds.index in
    let address : VtocSlot → List ℕ = λ s. s.address in
    let slots : ℕ = length (slots_of_vtoc all.bytes v.geometry v.vtoc) in
    let one : length (slots_of_vtoc all.bytes w.geometry w.vtoc) ≡ slots = ap (λ (x : Vol). length (slots_of_vtoc all.bytes x.geometry x.vtoc)) all.holds.others in
    let held : length w.slots.items ≡ length (slots_of_vtoc all.bytes w.geometry w.vtoc) = dscbs_many w.slots.items (slots_of_vtoc all.bytes w.geometry w.vtoc) all.holds.is.slots in
    let same : slots ≡ length (slots_of_vtoc y v.geometry v.vtoc) = sym (length-map (slots_of_vtoc all.bytes v.geometry v.vtoc) address) ∙ ap length all.alike.slots.addresses ∙ length-map (slots_of_vtoc y v.geometry v.vtoc) address in
    omega (arith, inside, same, one, held, ap length all.holds.items)

-- whatever files a stop leaves, a write of a slot without a part leaves them alike
pub put_changed : (name : List ℕ) (v : Vol) (y : List ℕ) (before files : List File) (slot : ℕ) (d : Dscb) (bytes : List ℕ) → AreAlikeTo name v y before files → vtoc_of y v.geometry ≡ Ok v.vtoc → slot ≢ 0 → slot < length (slots_of_vtoc y v.geometry v.vtoc) → decoded bytes ≡ Ok d → length bytes ≡ 140
    → ((s : VtocSlot) → slice_get (slots_of_vtoc y v.geometry v.vtoc) slot ≡ Some s → has_no_part (slots_of_vtoc y v.geometry v.vtoc) slot s ≡ true) → is_blank slot (Ok d) ≡ true → AreAlikeTo name v y before (written files name (place_of_slot v slot) bytes)
put_changed name v y before files slot d bytes all found other inside is size none blank =
    let low = as_many name v y before files slot all inside in
    let both = put_anywhere all.bytes v all.dscbs slot d bytes all.holds low is size in
    record {
      bytes = patched all.bytes (place_of_slot v slot) bytes;
      there = written_there files name (place_of_slot v slot) bytes all.bytes all.there;
      dscbs = slice_set all.dscbs slot d;
      holds = both.0;
      alike = put_alike y all.bytes v all.dscbs slot d bytes all.holds found all.alike other low is size none blank;
      head = ap head_of both.1.slots ∙ head_with (slots_of_vtoc all.bytes v.geometry v.vtoc) slot d other ∙ all.head;
      others = λ name' apart. written_other files name name' (place_of_slot v slot) bytes apart ∙ all.others name' apart;
    }
