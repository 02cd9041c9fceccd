-- The places of records on a track.
use Rattle.std.proofs.Common.{◌≡◌, ◌<◌, ◌≤◌, ◌+◌, ◌-◌, ℕ, zero, suc, Bool, true, false, IsTrue, List, [], ◌∷◌, ◌++◌, length, drop, get_or, Some, refl, sym, ◌∙◌, ap, subst, arith, length-drop, append_assoc, add-one}
use Rattle.std.specs.Prelude.{slice_get, slice_index, nat_le, ◌&&◌, ◌==◌, Option, None, IfNone, IsSome}
use Rattle.std.proofs.lemmas.Bool.Decides.{Decides-eqb}
use borrow.Author.Tests.{leb-true}
use Rattle.std.specs.Option.{option_map}
use Rattle.std.proofs.lemmas.List.{length-map, get_or_read, length_push, append-nil}
use Rattle.std.proofs.lemmas.Option.{slice_get-map, slice_get_read}
use Rattle.ckd_image.specs.Track.{Record}
use Rattle.ckd_image.specs.Reading.{is_record_at, front_record, record_length}
use Rattle.track_records.specs.Buffers.{records_at, are_places, places_from, IsPartOf}

both_true : (b c : Bool) → (b && c) ≡ true → (b ≡ true) × (c ≡ true)
both_true true c is = (refl, is)
both_true false c is = cc

-- the first of some places
pub record FirstPlace (r at : ℕ) (bytes : List ℕ) (p : ℕ) (ps : List ℕ) : Type 0 where
  pub here : p ≡ at
  pub stands : is_record_at r (drop at bytes) ≡ true
  pub others : IsTrue (are_places (suc r) (at + record_length (drop at bytes)) bytes ps)

pub first_place : (r at : ℕ) (bytes : List ℕ) (p : ℕ) (ps : List ℕ) → IsTrue (are_places r at bytes (p ∷ ps)) → FirstPlace r at bytes p ps
first_place r at bytes p ps are =
    let parts = both_true ((p == at) && is_record_at r (drop at bytes)) _ are in
    let two = both_true (p == at) (is_record_at r (drop at bytes)) parts.0 in
    record { here = (Decides-eqb p at).0 two.0; stands = two.1; others = parts.1 }

-- at each place a record stands
pub place_stands : (r at : ℕ) (bytes ps : List ℕ) (k : ℕ) → IsTrue (are_places r at bytes ps) → k < length ps → is_record_at (r + k) (drop (get_or ps k 0) bytes) ≡ true
place_stands r at bytes [] k are low = absurd (omega arith)
place_stands r at bytes (p ∷ ps) zero are low =
    let f = first_place r at bytes p ps are in
    let number : r + 0 ≡ r = omega arith in
    rw (f.here, number) f.stands
place_stands r at bytes (p ∷ ps) (suc k) are low =
    let f = first_place r at bytes p ps are in
    let number : r + suc k ≡ suc r + k = omega arith in
    rw number (place_stands (suc r) (at + record_length (drop at bytes)) bytes ps k f.others (omega arith))

-- what stands at the place of Rr
pub record Placed (bytes places : List ℕ) (r at : ℕ) : Type 0 where
  pub stands : is_record_at r (drop at bytes) ≡ true
  pub inside : at ≤ length bytes
  pub is : slice_get (records_at bytes places) (r - 1) ≡ Some (front_record (drop at bytes))

pub placed : (bytes places : List ℕ) (r k at : ℕ) → IsTrue (are_places 1 21 bytes places) → 1 ≤ r → r ≤ length (records_at bytes places) → k ≡ r - 1 → at ≡ get_or places k at → Placed bytes places r at
placed bytes places r k at are first last index is =
    let count : length (records_at bytes places) ≡ length places = length-map places (λ p. front_record (drop p bytes)) in
    let low : k < length places = omega arith in
    let place : get_or places k 0 ≡ at = sym (get_or_read places k at low is 0) in
    let number : 1 + k ≡ r = omega arith in
    let stands : is_record_at r (drop at bytes) ≡ true = rw (← place, ← number) (place_stands 1 21 bytes places k are low) in
    let room : 8 ≤ length (drop at bytes) = leb-true 8 (length (drop at bytes)) (both_true (nat_le 8 (length (drop at bytes))) _ (both_true _ _ stands).0).0 in
    record {
      stands = stands;
      inside = omega (arith, length-drop at bytes);
      is = rw (← index) (slice_get-map (λ p. front_record (drop p bytes)) places k ∙ ap (option_map (λ p. front_record (drop p bytes))) (slice_get_read places (length places) k at refl low is));
    }

-- what was found of a record that stands there
pub found_some : {X : Type 0} (o : Option X) (b : Bool) → IfNone o (b ≡ false) → b ≡ true → IsSome o
found_some None b none stands = absurd (cc)
found_some (Some x) b none stands = refl

-- the parts of a record at a place are those of the record that the buffer holds
pub parts_there : (m : Option Record) (bytes key content : List ℕ) → m ≡ Some (front_record bytes) → key ≡ (front_record bytes).key → content ≡ (front_record bytes).data → IsPartOf m key content
parts_there m bytes key content is keys contents = subst (λ (o : Option Record). IsPartOf o key content) (sym is) (sym keys, sym contents)

-- so many records are passed, their places are put down, and the next one stands at this offset
pub record Walking (bytes : List ℕ) (count passed at : ℕ) (places : List ℕ) : Type 0 where
  pub done : places ++ places_from at (count - passed) bytes ≡ places_from 21 count bytes
  pub stand : IsTrue (are_places (passed + 1) at bytes (places_from at (count - passed) bytes))
  pub number : length places ≡ passed
  pub inside : at ≤ length bytes

pub walking_none : (bytes places : List ℕ) (count : ℕ) → places ≡ [] → IsTrue (are_places 1 21 bytes (places_from 21 count bytes)) → 21 ≤ length bytes → Walking bytes count 0 21 places
walking_none bytes places count none stand long =
    let all : count - 0 ≡ count = omega arith in
    record {
      done = ap (λ (ps : List ℕ). ps ++ places_from 21 (count - 0) bytes) none ∙ ap (λ (n : ℕ). places_from 21 n bytes) all;
      stand = subst (λ (n : ℕ). IsTrue (are_places 1 21 bytes (places_from 21 n bytes))) (sym all) stand;
      number = ap length none;
      inside = long;
    }

-- the record that stands next
pub record Next (bytes : List ℕ) (count passed at : ℕ) : Type 0 where
  pub stands : is_record_at (passed + 1) (drop at bytes) ≡ true
  pub others : IsTrue (are_places (suc (passed + 1)) (at + record_length (drop at bytes)) bytes (places_from (at + record_length (drop at bytes)) (count - (passed + 1)) bytes))
  pub places : places_from at (count - passed) bytes ≡ at ∷ places_from (at + record_length (drop at bytes)) (count - (passed + 1)) bytes
  pub fits : at + record_length (drop at bytes) ≤ length bytes

pub next_record : (bytes : List ℕ) (count passed at : ℕ) (places : List ℕ) → Walking bytes count passed at places → passed < count → Next bytes count passed at
next_record bytes count passed at places so_far low =
    let left : count - passed ≡ suc (count - (passed + 1)) = omega arith in
    let behind : ℕ = at + record_length (drop at bytes) in
    let split : places_from at (count - passed) bytes ≡ at ∷ places_from behind (count - (passed + 1)) bytes = ap (λ (n : ℕ). places_from at n bytes) left in
    let first = first_place (passed + 1) at bytes at (places_from behind (count - (passed + 1)) bytes) (subst (λ (ps : List ℕ). IsTrue (are_places (passed + 1) at bytes ps)) split so_far.stand) in
    let room : record_length (drop at bytes) ≤ length (drop at bytes) = leb-true (record_length (drop at bytes)) (length (drop at bytes)) (both_true (nat_le 8 (length (drop at bytes)) && (slice_index (drop at bytes) 4 == (passed + 1))) _ first.stands).1 in
    record { stands = first.stands; others = first.others; places = split; fits = omega (arith, length-drop at bytes, so_far.inside) }

pub walking_more : (bytes : List ℕ) (count passed at behind : ℕ) (places after : List ℕ) → Walking bytes count passed at places → passed < count → behind ≡ at + record_length (drop at bytes) → after ≡ places ++ at ∷ [] → Walking bytes count (passed + 1) behind after
walking_more bytes count passed at behind places after so_far low is pushed =
    let next = next_record bytes count passed at places so_far low in
    record {
      done =
          ap (λ (ps : List ℕ). ps ++ places_from behind (count - (passed + 1)) bytes) pushed
          ∙ append_assoc places (at ∷ []) (places_from behind (count - (passed + 1)) bytes)
          ∙ ap (λ (n : ℕ). places ++ at ∷ places_from n (count - (passed + 1)) bytes) is
          ∙ ap (λ (ps : List ℕ). places ++ ps) (sym next.places)
          ∙ so_far.done;
      stand = subst (λ (n : ℕ). IsTrue (are_places n behind bytes (places_from behind (count - (passed + 1)) bytes))) (sym (add-one (passed + 1))) (subst (λ (n : ℕ). IsTrue (are_places (suc (passed + 1)) n bytes (places_from n (count - (passed + 1)) bytes))) (sym is) next.others);
      number = ap length pushed ∙ length_push places at ∙ ap (λ (n : ℕ). n + 1) so_far.number;
      inside = omega (arith, next.fits);
    }

pub walking_all : (bytes : List ℕ) (count passed at : ℕ) (places : List ℕ) → Walking bytes count passed at places → count ≤ passed → places ≡ places_from 21 count bytes
walking_all bytes count passed at places so_far high =
    let none : count - passed ≡ 0 = omega arith in
    sym (append-nil places) ∙ sym (ap (λ (n : ℕ). places ++ places_from at n bytes) none) ∙ so_far.done
