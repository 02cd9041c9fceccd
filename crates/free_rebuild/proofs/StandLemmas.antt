-- An image that is alike to a mounted one is mounted, and one is alike in which format 4 is put.
use Rattle.std.proofs.Common.{◌≡◌, ◌+◌, ◌≤◌, ◌<◌, ℕ, Bool, true, false, cond, not, ◌&&◌, List, [], ◌∷◌, ◌++◌, length, map, Option, Some, None, Result, Ok, refl, sym, ap, ap₂, subst, ◌∙◌, inl, arith}
use Rattle.std.specs.Prelude.{slice_get, unwrap_or}
use Rattle.dscb_codec.specs.declared.Dscb.{Dscb}
use Rattle.dscb_codec.specs.declared.Dscb.TheVariants as formats
use Rattle.dscb_codec.specs.declared.DscbErr.{DscbErr}
use Rattle.dscb_codec.specs.declared.F4.{F4}
use Rattle.dscb_codec.specs.Layout.{decoded}
use Rattle.stop_model.specs.Files.{patched}
use Rattle.vol_model.specs.declared.contents.Volume.{Volume}
use Rattle.vol_model.specs.Space.{free_runs}
use Rattle.pack_spec.specs.declared.MountErr.{MountErr}
use Rattle.pack_spec.specs.declared.MountErr.TheVariants.{NoFormat4, NoFormat5}
use Rattle.pack_spec.specs.declared.slot.VtocSlot.{VtocSlot}
use Rattle.pack_spec.specs.Alike.{AreAlike, StandAlike, has_no_part}
use Rattle.pack_spec.specs.Label.{label_of}
use Rattle.pack_spec.specs.Owned.{volume_faults}
use Rattle.pack_spec.specs.Rules.{front_faults, is_f3, is_f4, is_f5_or_f0, slots_faults}
use Rattle.pack_spec.specs.Settled.{is_used}
use Rattle.pack_spec.specs.Slots.{slots_of_vtoc}
use Rattle.pack_spec.specs.Blocks.{data_tracks}
use Rattle.pack_spec.specs.Volume.{volume_by, volume_with}
use Rattle.pack_spec.specs.Vtoc.{vtoc_of}
use Rattle.pack_spec.proofs.AddressesApart.{slots_apart}
use Rattle.pack_spec.proofs.AlikeVolumes.{alike_faults, alike_volume}
use Rattle.pack_spec.proofs.Lawful.{groups_hold}
use Rattle.pack_spec.proofs.BlockBodies.{vtoc_tracks}
use Rattle.vtoc_index.specs.declared.vol.Vol.{Vol}
use Rattle.vtoc_index.specs.Index.{IsIndexOf, IsMounted, IsPut, place_of_slot}
use Rattle.vtoc_index.proofs.ExtentLaw.{extent_put, volume_is}
use Rattle.vtoc_index.proofs.PutLaw.{slot_found}
use Rattle.free_rebuild.proofs.AddressLemmas.{content_of}
use Rattle.free_rebuild.proofs.ChainLemmas.{get_low}
use Rattle.free_rebuild.proofs.PutLemmas.{alike_with}
use Rattle.free_rebuild.proofs.WriteLemmas.{none_leads}

-- the volume of an image by an index
abbrev pub volume_on : List ℕ → Vol → Volume
volume_on image v = volume_by image v.geometry v.vtoc

-- the slots of an image by an index
abbrev pub slots_by : List ℕ → Vol → List VtocSlot
slots_by image v = slots_of_vtoc image v.geometry v.vtoc

-- An index is that of a mounted image which stands for the volume of another.
pub record StandsFor (volume : Volume) (image : List ℕ) (v : Vol) : Type 0 where
  pub mounted : IsMounted image v
  pub same : volume_on image v ≡ volume

-- an image that is alike to a mounted one stands for the same volume
pub alike_mounted : (volume : Volume) (image other : List ℕ) (v : Vol) → StandsFor volume image v → v.vtoc.start + v.vtoc.len ≤ 65536 → StandAlike v.geometry v.vtoc image other → (w : Vol) → IsIndexOf other w → w ≡ record v { slots = w.slots; buf = w.buf } → StandsFor volume other w
alike_mounted volume image other v stands low alike w index others = by_record (record v { slots = w.slots; buf = w.buf }) refl
    (subst (IsIndexOf other) others index) w others
  where
    y : List VtocSlot
    y = slots_by image v

    z : List VtocSlot
    z = slots_by other v

    faults : slots_faults v.geometry z ≡ []
    faults = alike_faults v.geometry y stands.mounted.lawful (slots_apart image v.geometry v.vtoc low) z alike.slots

    volumes : volume_on other v ≡ volume_on image v
    volumes =
        ap₂ (λ (tracks : List (List ℕ)) (o : Option (List ℕ)). volume_with v.geometry tracks (unwrap_or o []) v.vtoc z) (vtoc_tracks v.geometry v.vtoc image other alike.others) alike.label
        ∙ alike_volume v.geometry y stands.mounted.lawful (slots_apart image v.geometry v.vtoc low) z alike.slots (data_tracks image v.geometry v.vtoc) (unwrap_or (label_of image v.geometry) []) v.vtoc

    vtoc : vtoc_of other v.geometry ≡ Ok v.vtoc
    vtoc = alike.extent ∙ stands.mounted.vtoc

    whole : volume_faults (volume_on other v) ≡ []
    whole = ap volume_faults volumes ∙ stands.mounted.whole

    by_record : (x : Vol) → x ≡ record v { slots = w.slots; buf = w.buf } → IsIndexOf other (record v { slots = w.slots; buf = w.buf }) → (u : Vol) → u ≡ record v { slots = w.slots; buf = w.buf } → StandsFor volume other u
    by_record x is held u same = subst (StandsFor volume other) (sym same) (record {
      mounted = record {
        index = held;
        vtoc = vtoc;
        lawful = faults;
        whole = whole;
        free = stands.mounted.free ∙ ap free_runs (sym volumes);
        volume = volume_is other v.geometry v.vtoc held.header vtoc alike.tracks faults whole;
      };
      same = volumes ∙ stands.same;
    })

-- format 4 has no part in the volume
four_part : (slots : List VtocSlot) (s : VtocSlot) (f : F4) → s.content ≡ Ok (formats.F4 f) → has_no_part slots 0 s ≡ true
four_part slots s f is =
    ap (λ (c : Result Dscb DscbErr). is_f4 c && not (is_used slots s)) is
    ∙ ap not (none_leads slots s (ap is_f3 is))

-- Format 4 of a mounted image is put over by one with the same extent.
pub record PutsFour (image put : List ℕ) (v : Vol) : Type 0 where
  pub old : F4
  pub new : F4
  pub there : slice_get v.slots.items 0 ≡ Some (formats.F4 old)
  pub extent : new.vtoc ≡ old.vtoc
  pub bytes : List ℕ
  pub dscb : decoded bytes ≡ Ok (formats.F4 new)
  pub size : length bytes ≡ 140
  pub written : put ≡ patched image (place_of_slot v 0) bytes
  pub is : IsPut v 0 (formats.F4 new) image put

self_alike : (slots : List VtocSlot) → AreAlike slots slots
self_alike slots = record {
  addresses = refl;
  each = λ k s t one two. let both : Some s ≡ Some t = sym one ∙ two in let same : s ≡ t = cc in inl (ap (λ (x : VtocSlot). x.content) (sym same));
}

pub alike_itself : (image : List ℕ) (v : Vol) → IsIndexOf image v → StandAlike v.geometry v.vtoc image image
alike_itself image v index = record {
  others = record { size = refl; header = refl; tracks = λ track apart. refl };
  label = refl;
  extent = refl;
  tracks = index.tracks;
  slots = self_alike (slots_by image v);
}

pub four_alike : (image put : List ℕ) (v : Vol) → IsMounted image v → PutsFour image put v → StandAlike v.geometry v.vtoc image put
four_alike image put v mounted four =
    let index = mounted.index in
    let d : Dscb = formats.F4 four.new in
    let slots : List VtocSlot = slots_by image v in
    let low : 0 < length v.slots.items = get_low v.slots.items 0 (formats.F4 four.old) four.there in
    let content : (s : VtocSlot) → slice_get slots 0 ≡ Some s → s.content ≡ Ok (formats.F4 four.old) = λ s is.
    let held = content_of v.slots.items slots 0 s index.slots is in
    let same : held.0 ≡ formats.F4 four.old = let both : Some held.0 ≡ Some (formats.F4 four.old) = sym held.1 ∙ four.there in cc in
    held.2 ∙ ap (λ (x : Dscb). Ok x) same in
    let found = slot_found image v 0 index low in
    let p : IsPut v 0 d image put = four.is in
    record {
      others = record {
        size = p.size;
        header = p.header;
        tracks = λ track apart. p.others track (λ same. apart (omega (arith, same), omega (arith, same, found.stands.inside)));
      };
      label = p.label;
      extent = extent_put image put v 0 d four.bytes index low four.size four.dscb four.written p mounted.vtoc (λ e s is. (four.old, four.new, content s is, refl, four.extent)) ∙ sym mounted.vtoc;
      tracks = p.tracks;
      slots = subst (λ (ss : List VtocSlot). AreAlike slots ss) (sym p.slots) (alike_with slots slots 0 d (self_alike slots) (λ s is. four_part slots s four.old (content s is)) refl);
    }

-- slots 0 and 1 of a mounted image are format 4, and open
pub record HasFront (items : List Dscb) : Type 0 where
  pub head : F4
  pub four : slice_get items 0 ≡ Some (formats.F4 head)
  pub one : Dscb
  pub second : slice_get items 1 ≡ Some one
  pub opened : is_f5_or_f0 (Ok one) ≡ true

pub has_front : (image : List ℕ) (v : Vol) → IsMounted image v → HasFront v.slots.items
unfolding front_faults
has_front image v mounted = by_slots (slots_by image v) v.slots.items mounted.index.slots (groups_hold v.geometry (slots_by image v) mounted.lawful).0
  where
    by_slots : (slots : List VtocSlot) (items : List Dscb) → map (λ (s : VtocSlot). s.content) slots ≡ map (λ (d : Dscb). Ok d) items → slice_get (front_faults slots) 0 ≡ None → HasFront items
    by_slots [] items same none = cc
    by_slots (s ∷ []) items same none = absurd (never (is_f4 s.content) NoFormat4 NoFormat5 none)
      where
        never : (b : Bool) (x y : MountErr) → slice_get (cond b [] (x ∷ []) ++ y ∷ []) 0 ≡ None → ⊥
        never true x y e = cc
        never false x y e = cc
    by_slots (s ∷ t ∷ slots) [] same none = cc
    by_slots (s ∷ t ∷ slots) (d ∷ []) same none = cc
    by_slots (s ∷ t ∷ slots) (d ∷ e ∷ items) same none =
        let one : s.content ≡ Ok d = cc in
        let two : t.content ≡ Ok e = cc in
        let tests = both (is_f4 s.content) (is_f5_or_f0 t.content) NoFormat4 NoFormat5 none in
        by_four d e items (sym (ap is_f4 one) ∙ tests.0) (sym (ap is_f5_or_f0 two) ∙ tests.1)
      where
        both : (b c : Bool) (x y : MountErr) → slice_get (cond b [] (x ∷ []) ++ cond c [] (y ∷ [])) 0 ≡ None → (b ≡ true) × (c ≡ true)
        both true true x y e = (refl, refl)
        both true false x y e = cc
        both false c x y e = cc

        by_four : (d e : Dscb) (items : List Dscb) → is_f4 (Ok d) ≡ true → is_f5_or_f0 (Ok e) ≡ true → HasFront (d ∷ e ∷ items)
        by_four (formats.F4 f) e items four five = record { head = f; four = refl; one = e; second = refl; opened = five }
        by_four formats.F0 e items four five = cc
        by_four (formats.F1 f) e items four five = cc
        by_four (formats.F3 f) e items four five = cc
        by_four (formats.F5 f) e items four five = cc
