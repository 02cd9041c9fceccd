-- The first slot of a track, where the track is read to its end or up to its first record.
use Rattle.std.proofs.Common.{◌≡◌, ℕ, zero, suc, ◌≤◌, ◌/◌, ◌%◌, Bool, true, false, cond, List, [], ◌∷◌, length, take, drop, Option, Some, None, refl, sym, ap, subst, ◌∙◌, arith, length-take}
use Rattle.std.specs.Prelude.{nat_le, ◌&&◌, option_and_then}
use Rattle.std.specs.Option.{option_map}
use Rattle.std.proofs.lemmas.Bool.{le-leb}
use Rattle.std.proofs.lemmas.Slice.Eq.{bytes_eq-Decides}
use Rattle.ckd_image.specs.declared.header.Geometry.{Geometry}
use Rattle.ckd_image.specs.Track.{Record, end_marker}
use Rattle.ckd_image.specs.Reading.{records_of, records_behind, records_up_to, records_to_end, is_front, is_at_end, is_record_at, front_record, record_length}
use Rattle.pack_spec.specs.declared.address.Address.{Address}
use Rattle.pack_spec.specs.Label.{records_on, heads_of, track_bytes, track_of_address}
use Rattle.pack_spec.specs.Vtoc.{first_slot, vtoc_by, vtoc_on}

both : (b c : Bool) → (b && c) ≡ true → b ≡ true
both true c is = refl
both false c is = cc

-- an end marker has eight bytes
marker_long : (bytes : List ℕ) → is_at_end bytes ≡ true → nat_le 8 (length bytes) ≡ true
marker_long bytes t =
    let long : 8 ≤ length bytes = omega (arith, length-take 8 bytes, ap length ((bytes_eq-Decides (take 8 bytes) end_marker).0 t)) in
    le-leb 8 (length bytes) long

record_long : (r : ℕ) (bytes : List ℕ) → is_record_at r bytes ≡ true → nat_le 8 (length bytes) ≡ true
record_long r bytes t = both (nat_le 8 (length bytes)) _ (both _ _ t)

one_taken : {A : Type 0} (b : Bool) (x y : A) → cond b (Some x) None ≡ Some y → b ≡ true
one_taken true x y is = refl
one_taken false x y is = cc

two_taken : {A : Type 0} (long e s : Bool) (m : Option A) (x y : A) → (e ≡ true → long ≡ true) → (s ≡ true → long ≡ true) → cond e (Some x) (cond s m None) ≡ Some y → long ≡ true
two_taken long true s m x y by_end by_record is = by_end refl
two_taken long false true m x y by_end by_record is = by_record refl
two_taken long false false m x y by_end by_record is = cc

-- bytes of which records are read to the end marker are eight at least
room : (n r : ℕ) (bytes : List ℕ) (xs : List Record) → records_to_end n r bytes ≡ Some xs → nat_le 8 (length bytes) ≡ true
unfolding records_to_end
room zero r bytes xs is = marker_long bytes (one_taken (is_at_end bytes) [] xs is)
room (suc n) r bytes xs is = two_taken (nat_le 8 (length bytes)) (is_at_end bytes) (is_record_at r bytes) _ [] xs (marker_long bytes) (record_long r bytes) is

first_by : (e s long : Bool) (x : Record) (behind : Option (List Record)) (xs : List Record) → ((ys : List Record) → behind ≡ Some ys → long ≡ true) → cond e (Some []) (cond s (option_map (λ ys. x ∷ ys) behind) None) ≡ Some xs
    → option_and_then first_slot (cond e None (cond s (option_map (λ ys. x ∷ ys) (cond long (Some []) None)) None)) ≡ first_slot (take 1 xs)
first_by true s long x behind xs there is = let none : [] ≡ xs = cc in ap (λ l. first_slot (take 1 l)) none
first_by false false long x behind xs there is = cc
first_by false true long x None xs there is = cc
first_by false true true x (Some ys) xs there is = let same : x ∷ ys ≡ xs = cc in ap (λ l. first_slot (take 1 l)) same
first_by false true false x (Some ys) xs there is = let not : false ≡ true = there ys refl in cc

first_to_end : (n r : ℕ) (bytes : List ℕ) (xs : List Record) → records_to_end (suc n) r bytes ≡ Some xs → option_and_then first_slot (records_up_to (suc zero) r bytes) ≡ first_slot (take 1 xs)
unfolding records_to_end records_up_to
first_to_end n r bytes xs is =
    first_by (is_at_end bytes) (is_record_at r bytes) (nat_le 8 (length (drop (record_length bytes) bytes))) (front_record bytes) (records_to_end n (suc r) (drop (record_length bytes) bytes)) xs (room n (suc r) (drop (record_length bytes) bytes)) is

one_by : (e s long : Bool) (x : Record) (xs : List Record) → cond e None (cond s (option_map (λ ys. x ∷ ys) (cond long (Some []) None)) None) ≡ Some xs → take 1 xs ≡ xs
one_by true s long x xs is = cc
one_by false false long x xs is = cc
one_by false true false x xs is = cc
one_by false true true x xs is = let same : x ∷ [] ≡ xs = cc in subst (λ (l : List Record). take 1 l ≡ l) same refl

one_up_to : (r : ℕ) (bytes : List ℕ) (xs : List Record) → records_up_to (suc zero) r bytes ≡ Some xs → take 1 xs ≡ xs
unfolding records_up_to
one_up_to r bytes xs is = one_by (is_at_end bytes) (is_record_at r bytes) (nat_le 8 (length (drop (record_length bytes) bytes))) (front_record bytes) xs is

taken : {A : Type 0} (b : Bool) (m : Option A) (x : A) → cond b m None ≡ Some x → (b ≡ true) × (m ≡ Some x)
taken true m x is = (refl, is)
taken false m x is = cc

-- the first slot of a track that is read to its end
whole_first : (c h : ℕ) (bytes : List ℕ) (xs : List Record) → records_of c h None bytes ≡ Some xs → option_and_then first_slot (records_of c h (Some 1) bytes) ≡ first_slot (take 1 xs)
unfolding records_of
whole_first c h bytes xs is =
    let t = taken (is_front c h bytes) (records_behind None (drop 21 bytes)) xs is in
    ap (λ b. option_and_then first_slot (cond b (records_behind (Some 1) (drop 21 bytes)) None)) t.0 ∙ first_to_end 254 1 (drop 21 bytes) xs t.1

-- up to the first record there is no other
only_first : (c h : ℕ) (bytes : List ℕ) (xs : List Record) → records_of c h (Some 1) bytes ≡ Some xs → take 1 xs ≡ xs
unfolding records_of
only_first c h bytes xs is = let t = taken (is_front c h bytes) (records_behind (Some 1) (drop 21 bytes)) xs is in one_up_to 1 (drop 21 bytes) xs t.1

-- the extent of a VTOC, where its first track is read whole, up to its first record, or not even that far
pub extent_whole : (image : List ℕ) (g : Geometry) (at : Address) (track : ℕ) (xs : List Record) → track ≡ track_of_address g at → records_on image g None track ≡ Some xs → vtoc_on image g at ≡ vtoc_by g at (first_slot (take 1 xs))
unfolding vtoc_on records_on
extent_whole image g at track xs same is =
    ap (λ (t : ℕ). vtoc_by g at (option_and_then first_slot (records_of (t / heads_of g) (t % heads_of g) (Some 1) (track_bytes image g t)))) (sym same)
    ∙ ap (vtoc_by g at) (whole_first (track / heads_of g) (track % heads_of g) (track_bytes image g track) xs is)

pub extent_one : (image : List ℕ) (g : Geometry) (at : Address) (track : ℕ) (xs : List Record) → track ≡ track_of_address g at → records_on image g (Some 1) track ≡ Some xs → vtoc_on image g at ≡ vtoc_by g at (first_slot (take 1 xs))
unfolding vtoc_on records_on
extent_one image g at track xs same is =
    ap (λ (t : ℕ). vtoc_by g at (option_and_then first_slot (records_of (t / heads_of g) (t % heads_of g) (Some 1) (track_bytes image g t)))) (sym same)
    ∙ ap (λ o. vtoc_by g at (option_and_then first_slot o)) is
    ∙ ap (λ l. vtoc_by g at (first_slot l)) (sym (only_first (track / heads_of g) (track % heads_of g) (track_bytes image g track) xs is))

pub extent_none : (image : List ℕ) (g : Geometry) (at : Address) (track : ℕ) → track ≡ track_of_address g at → records_on image g (Some 1) track ≡ None → vtoc_on image g at ≡ vtoc_by g at None
unfolding vtoc_on
extent_none image g at track same is =
    ap (λ (t : ℕ). vtoc_by g at (option_and_then first_slot (records_on image g (Some 1) t))) (sym same)
    ∙ ap (λ o. vtoc_by g at (option_and_then first_slot o)) is
