-- What a slot of a VTOC holds is what decoding gives of some bytes: so a format 1 has three extents, and a format 3 thirteen.
use Rattle.std.proofs.Common.{◌≡◌, ◌+◌, ℕ, zero, suc, Bool, true, false, cond, List, [], ◌∷◌, ◌++◌, length, Option, Some, None, Result, Ok, Err, refl, sym, ap, ◌∙◌}
use Rattle.std.specs.Prelude.{find, slice_get, unwrap_or}
use Rattle.std.specs.List.{flat_map, list_all, range_with_len}
use Rattle.std.proofs.lemmas.Option.{cond_some, option_and_then_some}
use Rattle.ckd_image.specs.declared.header.Geometry.{Geometry}
use Rattle.ckd_image.specs.Track.{Record}
use Rattle.dscb_codec.specs.declared.Dscb.{Dscb}
use Rattle.dscb_codec.specs.declared.Dscb.TheVariants as formats
use Rattle.dscb_codec.specs.declared.DscbErr.{DscbErr}
use Rattle.dscb_codec.specs.declared.F1.{F1}
use Rattle.dscb_codec.specs.declared.F3.{F3}
use Rattle.dscb_codec.specs.Layout.{decoded, f1_of, f3_of}
use Rattle.dscb_codec.proofs.Formats.{decoded_f1, decoded_f3}
use Rattle.vol_model.specs.declared.contents.Run.{Run}
use Rattle.pack_spec.specs.declared.slot.VtocSlot.{VtocSlot}
use Rattle.pack_spec.specs.Label.{records_on}
use Rattle.pack_spec.specs.Rules.{is_f3}
use Rattle.pack_spec.specs.Slots.{slots_from, slots_in, slots_of_vtoc, slots_on}
use Rattle.pack_spec.specs.Vtoc.{is_slot, slot_bytes}

-- what holds of all items of lists holds of those of the joined list
all_append : {X : Type 0} (P : X → Type 0) (xs ys : List X) → ((i : ℕ) (x : X) → slice_get xs i ≡ Some x → P x) → ((i : ℕ) (x : X) → slice_get ys i ≡ Some x → P x) → (k : ℕ) (x : X) → slice_get (xs ++ ys) k ≡ Some x → P x
all_append P [] ys one two k x is = two k x is
all_append P (y ∷ xs) ys one two zero x is = one 0 x is
all_append P (y ∷ xs) ys one two (suc k) x is = all_append P xs ys (λ i z there. one (suc i) z there) two k x is

all_joined : {X : Type 0} (P : X → Type 0) (f : ℕ → List X) (ts : List ℕ) → ((t i : ℕ) (x : X) → slice_get (f t) i ≡ Some x → P x) → (k : ℕ) (x : X) → slice_get (flat_map f ts) k ≡ Some x → P x
all_joined P f [] each k x is = cc
all_joined P f (t ∷ ts) each k x is = all_append P (f t) (flat_map f ts) (each t) (all_joined P f ts each) k x is

-- what a slot holds is what decoding gives of some bytes
abbrev pub IsDecoded : VtocSlot → Type 0
IsDecoded s = (bytes : List ℕ) × (s.content ≡ decoded bytes)

from_decoded : (g : Geometry) (track r i : ℕ) (xs : List Record) (s : VtocSlot) → slice_get (slots_from g track r xs) i ≡ Some s → IsDecoded s
from_decoded g track r i [] s is = cc
from_decoded g track r zero (x ∷ xs) s is =
    let this : s.content ≡ decoded (slot_bytes x) = cc in
    (slot_bytes x, this)
from_decoded g track r (suc i) (x ∷ xs) s is = from_decoded g track (r + 1) i xs s is

track_decoded : (image : List ℕ) (g : Geometry) (track i : ℕ) (s : VtocSlot) → slice_get (unwrap_or (slots_on image g track) []) i ≡ Some s → IsDecoded s
unfolding slots_on
track_decoded image g track i s is = by_slots (slots_on image g track) refl is
  where
    by_slots : (o : Option (List VtocSlot)) → slots_on image g track ≡ o → slice_get (unwrap_or o []) i ≡ Some s → IsDecoded s
    by_slots None found there = cc
    by_slots (Some found) held there = option_and_then_some (slots_in g track) (records_on image g None track) found held (λ xs read are.
        let same : slots_from g track 1 xs ≡ found = (cond_some (list_all is_slot xs) (slots_from g track 1 xs) found are).1 in
        from_decoded g track 1 i xs s (ap (λ (ss : List VtocSlot). slice_get ss i) same ∙ there))

pub slot_decoded : (image : List ℕ) (g : Geometry) (vtoc : Run) (k : ℕ) (s : VtocSlot) → slice_get (slots_of_vtoc image g vtoc) k ≡ Some s → IsDecoded s
unfolding slots_of_vtoc
slot_decoded image g vtoc k s is = all_joined IsDecoded (λ track. unwrap_or (slots_on image g track) []) (range_with_len vtoc.start vtoc.len) (λ t i x there. track_decoded image g t i x there) k s is

-- so a format 1 has three extents, and a format 3 thirteen
pub three_runs : (s : VtocSlot) (f : F1) → IsDecoded s → s.content ≡ Ok (formats.F1 f) → length f.runs ≡ 3
unfolding f1_of
three_runs s f from is = sym (ap (λ (x : F1). length x.runs) (decoded_f1 from.0 f (sym from.1 ∙ is)).1) ∙ refl

pub thirteen_more : (s : VtocSlot) (f : F3) → IsDecoded s → s.content ≡ Ok (formats.F3 f) → length (f.front ++ f.back) ≡ 13
unfolding f3_of
thirteen_more s f from is = sym (ap (λ (x : F3). length (x.front ++ x.back)) (decoded_f3 from.0 f (sym from.1 ∙ is)).1) ∙ refl

pub third_of : (c : Result Dscb DscbErr) → is_f3 c ≡ true → (f : F3) × (c ≡ Ok (formats.F3 f))
third_of (Ok formats.F0) is = cc
third_of (Ok (formats.F1 f)) is = cc
third_of (Ok (formats.F3 f)) is = (f, refl)
third_of (Ok (formats.F4 f)) is = cc
third_of (Ok (formats.F5 f)) is = cc
third_of (Err e) is = cc

-- what is found stands in the list
pub found_at : {X : Type 0} (p : X → Bool) (xs : List X) (x : X) → find p xs ≡ Some x → (k : ℕ) × (slice_get xs k ≡ Some x) × (p x ≡ true)
found_at p [] x is = cc
found_at {X = X} p (y ∷ xs) x is = by_test (p y) refl is (λ more. found_at p xs x more)
  where
    by_test : (t : Bool) → p y ≡ t → cond t (Some y) (find p xs) ≡ Some x → (find p xs ≡ Some x → (k : ℕ) × (slice_get xs k ≡ Some x) × (p x ≡ true)) → (k : ℕ) × (slice_get (y ∷ xs) k ≡ Some x) × (p x ≡ true)
    by_test true test found more = let same : y ≡ x = cc in (zero, ap Some same, ap p (sym same) ∙ test)
    by_test false test found more = let rest = more found in (suc rest.0, rest.1, rest.2)
