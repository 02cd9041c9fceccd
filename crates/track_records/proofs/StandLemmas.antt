-- The records of a track that follows the grammar stand one after another.
use Rattle.std.proofs.Common.{◌≡◌, ◌⊎◌, inl, inr, ⊎_elim, ◌≤◌, ◌+◌, ℕ, zero, suc, Bool, true, false, cond, IsTrue, List, [], ◌∷◌, length, drop, Option, Some, None, refl, sym, ap, subst, ◌∙◌}
use Rattle.std.specs.Prelude.{nat_le, ◌&&◌}
use Rattle.std.specs.Option.{option_map}
use Rattle.std.proofs.lemmas.List.{drop-drop}
use Rattle.std.proofs.lemmas.Bool.{eq-eqb}
use borrow.Author.Tests.{leb-true}
use Rattle.ckd_image.specs.Track.{Record}
use Rattle.ckd_image.specs.Reading.{records_of, records_behind, records_up_to, records_to_end, is_front, is_at_end, is_record_at, front_record, record_length}
use Rattle.track_records.specs.Buffers.{records_at, are_places, places_from}
use Rattle.track_records.specs.Updates.{StandFrom}

-- an answer of a choice tells the way that was taken
second_taken : {A : Type 0} (b c : Bool) (m : Option A) (x : A) → cond b None (cond c m None) ≡ Some x → (c ≡ true) × (m ≡ Some x)
second_taken true c m x is = cc
second_taken false true m x is = (refl, is)
second_taken false false m x is = cc

first_taken : {A : Type 0} (b : Bool) (m : Option A) (x : A) → cond b m None ≡ Some x → (b ≡ true) × (m ≡ Some x)
first_taken true m x is = (refl, is)
first_taken false m x is = cc

mapped : {A B : Type 0} (f : A → B) (m : Option A) (y : B) → option_map f m ≡ Some y → (x : A) × ((m ≡ Some x) × (y ≡ f x))
mapped f None y is = cc
mapped f (Some x) y is = (x, (refl, cc))

both : (b c : Bool) → (b && c) ≡ true → (b ≡ true) × (c ≡ true)
both true c is = (refl, is)
both false c is = cc

-- the records that are read at the front: the first of them, and the others after it
record FrontOf (r : ℕ) (bytes : List ℕ) (records : List Record) (later : List ℕ → Option (List Record)) : Type 0 where
  stands : is_record_at r bytes ≡ true
  others : List Record
  parts : records ≡ front_record bytes ∷ others
  behind : later (drop (record_length bytes) bytes) ≡ Some others

front : (r : ℕ) (bytes : List ℕ) (records : List Record) (later : List ℕ → Option (List Record)) → is_record_at r bytes ≡ true → option_map (λ xs. front_record bytes ∷ xs) (later (drop (record_length bytes) bytes)) ≡ Some records → FrontOf r bytes records later
front r bytes records later stands is =
    let m = mapped (λ xs. front_record bytes ∷ xs) (later (drop (record_length bytes) bytes)) records is in
    record { stands = stands; others = m.0; parts = m.1.1; behind = m.1.0 }

front_up_to : (n r : ℕ) (bytes : List ℕ) (records : List Record) → records_up_to (suc n) r bytes ≡ Some records → FrontOf r bytes records (records_up_to n (suc r))
unfolding records_up_to
front_up_to n r bytes records is =
    let taken = second_taken (is_at_end bytes) (is_record_at r bytes) _ records is in
    front r bytes records (records_up_to n (suc r)) taken.0 taken.1

none_up_to : (r : ℕ) (bytes : List ℕ) (records : List Record) → records_up_to 0 r bytes ≡ Some records → records ≡ []
unfolding records_up_to
none_up_to r bytes records is = let taken = first_taken (nat_le 8 (length bytes)) (Some []) records is in cc

at_front : (r : ℕ) (bytes : List ℕ) (records : List Record) (later : List ℕ → Option (List Record)) (f : FrontOf r bytes records later) → StandFrom (suc r) (drop (record_length bytes) bytes) f.others → StandFrom r bytes records
at_front r bytes records later f others = subst (StandFrom r bytes) (sym f.parts) (f.stands, (refl, others))

-- records that are read stand one after another
at_up_to : (n r : ℕ) (bytes : List ℕ) (records : List Record) → records_up_to n r bytes ≡ Some records → StandFrom r bytes records
at_up_to zero r bytes records is = subst (StandFrom r bytes) (sym (none_up_to r bytes records is)) tt
at_up_to (suc n) r bytes records is =
    let f = front_up_to n r bytes records is in
    at_front r bytes records (records_up_to n (suc r)) f (at_up_to n (suc r) (drop (record_length bytes) bytes) f.others f.behind)

-- the same, to the end marker
end_or_front : (b c : Bool) (m : Option (List Record)) (x : List Record) → cond b (Some []) (cond c m None) ≡ Some x → (x ≡ []) ⊎ ((c ≡ true) × (m ≡ Some x))
end_or_front true c m x is = inl (cc)
end_or_front false true m x is = inr (refl, is)
end_or_front false false m x is = cc

front_to_end : (n r : ℕ) (bytes : List ℕ) (records : List Record) → records_to_end (suc n) r bytes ≡ Some records → (records ≡ []) ⊎ FrontOf r bytes records (records_to_end n (suc r))
unfolding records_to_end
front_to_end n r bytes records is =
    ⊎_elim (λ none. inl none) (λ taken. inr (front r bytes records (records_to_end n (suc r)) taken.0 taken.1)) (end_or_front (is_at_end bytes) (is_record_at r bytes) _ records is)

none_to_end : (r : ℕ) (bytes : List ℕ) (records : List Record) → records_to_end 0 r bytes ≡ Some records → records ≡ []
unfolding records_to_end
none_to_end r bytes records is = let taken = first_taken (is_at_end bytes) (Some []) records is in cc

at_none : (r : ℕ) (bytes : List ℕ) (records : List Record) → records ≡ [] → StandFrom r bytes records
at_none r bytes records is = subst (StandFrom r bytes) (sym is) tt

at_to_end : (n r : ℕ) (bytes : List ℕ) (records : List Record) → records_to_end n r bytes ≡ Some records → StandFrom r bytes records
at_to_end zero r bytes records is = at_none r bytes records (none_to_end r bytes records is)
at_to_end (suc n) r bytes records is =
    ⊎_elim (at_none r bytes records) (λ (f : FrontOf r bytes records (records_to_end n (suc r))). at_front r bytes records (records_to_end n (suc r)) f (at_to_end n (suc r) (drop (record_length bytes) bytes) f.others f.behind)) (front_to_end n r bytes records is)

at_behind : (u : Option ℕ) (bytes : List ℕ) (records : List Record) → records_behind u bytes ≡ Some records → StandFrom 1 bytes records
at_behind None bytes records is = at_to_end 255 1 bytes records is
at_behind (Some r) bytes records is = at_up_to r 1 bytes records is

-- a track that is read begins with a home address and R0, and its records stand after them
pub record Stand (bytes : List ℕ) (records : List Record) : Type 0 where
  pub front : 21 ≤ length bytes
  pub records_stand : StandFrom 1 (drop 21 bytes) records

pub stand : (c h : ℕ) (u : Option ℕ) (bytes : List ℕ) (records : List Record) → records_of c h u bytes ≡ Some records → Stand bytes records
unfolding records_of is_front
stand c h u bytes records is =
    let taken = first_taken (is_front c h bytes) (records_behind u (drop 21 bytes)) records is in
    record { front = leb-true 21 (length bytes) (both (nat_le 21 (length bytes)) _ (both _ _ taken.0).0).0; records_stand = at_behind u (drop 21 bytes) records taken.1 }

-- records that stand one after another stand at the places that are walked
pub record AtPlaces (r at : ℕ) (bytes : List ℕ) (records : List Record) : Type 0 where
  pub are : are_places r at bytes (places_from at (length records) bytes) ≡ true
  pub is : records_at bytes (places_from at (length records) bytes) ≡ records

pub at_places : (r at : ℕ) (bytes : List ℕ) (records : List Record) → StandFrom r (drop at bytes) records → AtPlaces r at bytes records
at_places r at bytes [] standing = record { are = refl; is = refl }
at_places r at bytes (x ∷ xs) standing =
    let behind : drop (record_length (drop at bytes)) (drop at bytes) ≡ drop (at + record_length (drop at bytes)) bytes = drop-drop (record_length (drop at bytes)) at bytes in
    let later = at_places (suc r) (at + record_length (drop at bytes)) bytes xs (subst (λ (b : List ℕ). StandFrom (suc r) b xs) behind standing.1.1) in
    record {
      are = rw (eq-eqb at at refl, standing.0) later.are;
      is = ap (λ (l : List Record). front_record (drop at bytes) ∷ l) later.is ∙ ap (λ (y : Record). y ∷ xs) (sym standing.1.0);
    }

-- a track that is read, walked over so many records
pub record Walked (c h : ℕ) (u : Option ℕ) (bytes : List ℕ) (n : ℕ) : Type 0 where
  pub are : IsTrue (are_places 1 21 bytes (places_from 21 n bytes))
  pub is : records_of c h u bytes ≡ Some (records_at bytes (places_from 21 n bytes))

pub walked : (c h : ℕ) (u : Option ℕ) (bytes : List ℕ) (n : ℕ) (records : List Record) → records_of c h u bytes ≡ Some records → n ≡ length records → Walked c h u bytes n
walked c h u bytes n records is count =
    let places = at_places 1 21 bytes records (stand c h u bytes records is).records_stand in
    record {
      are = subst (λ (m : ℕ). IsTrue (are_places 1 21 bytes (places_from 21 m bytes))) (sym count) places.are;
      is = is ∙ ap (λ (l : List Record). Some l) (sym places.is ∙ ap (λ (m : ℕ). records_at bytes (places_from 21 m bytes)) (sym count));
    }

pub length-places_from : (n at : ℕ) (bytes : List ℕ) → length (places_from at n bytes) ≡ n
length-places_from zero at bytes = refl
length-places_from (suc n) at bytes = ap suc (length-places_from n (at + record_length (drop at bytes)) bytes)
