-- One step of the walks over a track's records: of the one that reads them, and of the one that finds where they break.
use Rattle.std.proofs.Common.{◌≡◌, ◌≢◌, ℕ, zero, suc, ◌+◌, ◌<◌, ◌≤◌, max, Bool, true, false, not, ◌||◌, ◌==◌, nat_le, nat_lt, List, [], ◌∷◌, length, drop, get_or, Option, Some, None, option_map, if◌then◌else◌, ◌⊎◌, inl, inr, refl, ap, ◌∙◌, arith, le-leb, eq-eqb, ltb-true, ltb-false, ne_eqb, lt-ltb, le-ltb}
use Rattle.std.proofs.lemmas.Bool.{and_from, and_left, and_right, or_cases, or_parts, cases_Bool, cases_lt, cases_eq, lt-leb, not_from_true, not_from_false}
use Rattle.ckd_image.specs.Track.{Record}
use Rattle.ckd_image.specs.Reading.{is_at_end, record_length, front_record, is_record_at, records_to_end, records_up_to}
use Rattle.ckd_image.specs.Break.{marker_length, record_break, break_or_after, break_to_end, break_up_to}
use Rattle.ckd_image.proofs.GrammarFront.{if_true, if_false}

-- how Rr at the front breaks: too short for its number, another number, not whole; or it stands
pub data RecordCase (ends : Bool) (r : ℕ) (bytes : List ℕ) : Type 0 where
  short : length bytes < 5 → is_record_at r bytes ≡ false → record_break ends r bytes ≡ Some (length bytes) → RecordCase ends r bytes
  other : 5 ≤ length bytes → get_or bytes 4 0 ≢ r → is_record_at r bytes ≡ false → record_break ends r bytes ≡ Some (if ends then max 4 (marker_length bytes) else 4) → RecordCase ends r bytes
  cut : 5 ≤ length bytes → get_or bytes 4 0 ≡ r → (length bytes < 8) ⊎ (length bytes < record_length bytes) → is_record_at r bytes ≡ false → record_break ends r bytes ≡ Some (length bytes) → RecordCase ends r bytes
  whole : is_record_at r bytes ≡ true → record_break ends r bytes ≡ None → RecordCase ends r bytes

-- each test of a record's break
cut_case : (ends : Bool) (r : ℕ) (bytes : List ℕ) → 5 ≤ length bytes → get_or bytes 4 0 ≡ r → (t : Bool) → (nat_lt (length bytes) 8 || nat_lt (length bytes) (record_length bytes)) ≡ t
    → record_break ends r bytes ≡ (if t then Some (length bytes) else None) → RecordCase ends r bytes
cut_case ends r bytes l e true t b =
    cut l e (elim (or_cases (nat_lt (length bytes) 8) (nat_lt (length bytes) (record_length bytes)) t) [ inl w ↦ inl (ltb-true (length bytes) 8 w) | inr w ↦ inr (ltb-true (length bytes) (record_length bytes) w) ])
    (elim (or_cases (nat_lt (length bytes) 8) (nat_lt (length bytes) (record_length bytes)) t) [
      | inl w ↦ and_left _ _ (and_left _ _ (lt-leb 8 (length bytes) (ltb-true (length bytes) 8 w)))
      | inr w ↦ and_right _ _ (lt-leb (record_length bytes) (length bytes) (ltb-true (length bytes) (record_length bytes) w))
    ])
    b
cut_case ends r bytes l e false t b =
    let w = or_parts (nat_lt (length bytes) 8) (nat_lt (length bytes) (record_length bytes)) t in
    whole (and_from _ _ (and_from _ _ (le-leb 8 (length bytes) (ltb-false (length bytes) 8 w.0)) (eq-eqb (get_or bytes 4 0) r e)) (le-leb (record_length bytes) (length bytes) (ltb-false (length bytes) (record_length bytes) w.1))) b

pub record_case : (ends : Bool) (r : ℕ) (bytes : List ℕ) → RecordCase ends r bytes
record_case ends r bytes =
    elim (cases_lt (length bytes) 5) [
      | inl l ↦ short l (and_left _ _ (and_left _ _ (lt-leb 8 (length bytes) (omega arith)))) (if_true (nat_lt (length bytes) 5) _ _ (lt-ltb (length bytes) 5 l))
      | inr l ↦ elim (cases_eq (get_or bytes 4 0) r) [
        | inl e ↦ cut_case ends r bytes l e _ refl (if_false (nat_lt (length bytes) 5) _ _ (le-ltb (length bytes) 5 l) ∙ if_false (not (get_or bytes 4 0 == r)) _ _ (not_from_true _ (eq-eqb (get_or bytes 4 0) r e)))
        | inr e ↦ other l e (and_left _ _ (and_right _ _ (ne_eqb (get_or bytes 4 0) r e))) (if_false (nat_lt (length bytes) 5) _ _ (le-ltb (length bytes) 5 l) ∙ if_true (not (get_or bytes 4 0 == r)) _ _ (not_from_false _ (ne_eqb (get_or bytes 4 0) r e)))
      ]
    ]

-- a step of the walk to the end marker
pub to_end_ended : (n r : ℕ) (bytes : List ℕ) → is_at_end bytes ≡ true → records_to_end n r bytes ≡ Some []
unfolding records_to_end
to_end_ended zero r bytes e = if_true (is_at_end bytes) _ _ e
to_end_ended (suc n) r bytes e = if_true (is_at_end bytes) _ _ e

pub to_end_zero : (r : ℕ) (bytes : List ℕ) → is_at_end bytes ≡ false → records_to_end 0 r bytes ≡ None
unfolding records_to_end
to_end_zero r bytes e = if_false (is_at_end bytes) _ _ e

pub to_end_broken : (n r : ℕ) (bytes : List ℕ) → is_at_end bytes ≡ false → is_record_at r bytes ≡ false → records_to_end n r bytes ≡ None
unfolding records_to_end
to_end_broken zero r bytes e f = if_false (is_at_end bytes) _ _ e
to_end_broken (suc n) r bytes e f = if_false (is_at_end bytes) _ _ e ∙ if_false (is_record_at r bytes) _ _ f

pub to_end_stands : (n r : ℕ) (bytes : List ℕ) → is_at_end bytes ≡ false → is_record_at r bytes ≡ true
    → records_to_end (suc n) r bytes ≡ option_map (λ (xs : List Record). front_record bytes ∷ xs) (records_to_end n (suc r) (drop (record_length bytes) bytes))
unfolding records_to_end
to_end_stands n r bytes e f = if_false (is_at_end bytes) _ _ e ∙ if_true (is_record_at r bytes) _ _ f

-- a step of the walk up to a record
pub up_to_zero : (r : ℕ) (bytes : List ℕ) → 8 ≤ length bytes → records_up_to 0 r bytes ≡ Some []
unfolding records_up_to
up_to_zero r bytes l = if_true (nat_le 8 (length bytes)) _ _ (le-leb 8 (length bytes) l)

pub up_to_short : (r : ℕ) (bytes : List ℕ) → length bytes < 8 → records_up_to 0 r bytes ≡ None
unfolding records_up_to
up_to_short r bytes l = if_false (nat_le 8 (length bytes)) _ _ (lt-leb 8 (length bytes) l)

pub up_to_ended : (n r : ℕ) (bytes : List ℕ) → is_at_end bytes ≡ true → records_up_to (suc n) r bytes ≡ None
unfolding records_up_to
up_to_ended n r bytes e = if_true (is_at_end bytes) _ _ e

pub up_to_broken : (n r : ℕ) (bytes : List ℕ) → is_record_at r bytes ≡ false → records_up_to (suc n) r bytes ≡ None
unfolding records_up_to
up_to_broken n r bytes f =
    elim (cases_Bool (is_at_end bytes)) [
      | inl e ↦ if_true (is_at_end bytes) _ _ e
      | inr e ↦ if_false (is_at_end bytes) _ _ e ∙ if_false (is_record_at r bytes) _ _ f
    ]

pub up_to_stands : (n r : ℕ) (bytes : List ℕ) → is_at_end bytes ≡ false → is_record_at r bytes ≡ true
    → records_up_to (suc n) r bytes ≡ option_map (λ (xs : List Record). front_record bytes ∷ xs) (records_up_to n (suc r) (drop (record_length bytes) bytes))
unfolding records_up_to
up_to_stands n r bytes e f = if_false (is_at_end bytes) _ _ e ∙ if_true (is_record_at r bytes) _ _ f

-- a step of the search for the break before an end marker
pub break_end_ended : (n r : ℕ) (bytes : List ℕ) → is_at_end bytes ≡ true → break_to_end n r bytes ≡ None
unfolding break_to_end
break_end_ended zero r bytes e = if_true (is_at_end bytes) _ _ e
break_end_ended (suc n) r bytes e = if_true (is_at_end bytes) _ _ e

pub break_end_zero : (r : ℕ) (bytes : List ℕ) → is_at_end bytes ≡ false → break_to_end 0 r bytes ≡ Some (marker_length bytes)
unfolding break_to_end
break_end_zero r bytes e = if_false (is_at_end bytes) _ _ e

pub break_end_broken : (n r k : ℕ) (bytes : List ℕ) → is_at_end bytes ≡ false → record_break true r bytes ≡ Some k → break_to_end (suc n) r bytes ≡ Some k
unfolding break_to_end
break_end_broken n r k bytes e f =
    if_false (is_at_end bytes) _ _ e ∙ ap (λ (o : Option ℕ). break_or_after o (record_length bytes) (break_to_end n (suc r) (drop (record_length bytes) bytes))) f

pub break_end_stands : (n r : ℕ) (bytes : List ℕ) → is_at_end bytes ≡ false → record_break true r bytes ≡ None
    → break_to_end (suc n) r bytes ≡ option_map (λ (k : ℕ). record_length bytes + k) (break_to_end n (suc r) (drop (record_length bytes) bytes))
unfolding break_to_end
break_end_stands n r bytes e f =
    if_false (is_at_end bytes) _ _ e ∙ ap (λ (o : Option ℕ). break_or_after o (record_length bytes) (break_to_end n (suc r) (drop (record_length bytes) bytes))) f

-- a step of the search for the break before a record
pub break_up_zero : (r : ℕ) (bytes : List ℕ) → 8 ≤ length bytes → break_up_to 0 r bytes ≡ None
unfolding break_up_to
break_up_zero r bytes l = if_true (nat_le 8 (length bytes)) _ _ (le-leb 8 (length bytes) l)

pub break_up_short : (r : ℕ) (bytes : List ℕ) → length bytes < 8 → break_up_to 0 r bytes ≡ Some (length bytes)
unfolding break_up_to
break_up_short r bytes l = if_false (nat_le 8 (length bytes)) _ _ (lt-leb 8 (length bytes) l)

pub break_up_ended : (n r : ℕ) (bytes : List ℕ) → is_at_end bytes ≡ true → break_up_to (suc n) r bytes ≡ Some (if r == 255 then 7 else 4)
unfolding break_up_to
break_up_ended n r bytes e = if_true (is_at_end bytes) _ _ e

pub break_up_broken : (n r k : ℕ) (bytes : List ℕ) → is_at_end bytes ≡ false → record_break false r bytes ≡ Some k → break_up_to (suc n) r bytes ≡ Some k
unfolding break_up_to
break_up_broken n r k bytes e f =
    if_false (is_at_end bytes) _ _ e ∙ ap (λ (o : Option ℕ). break_or_after o (record_length bytes) (break_up_to n (suc r) (drop (record_length bytes) bytes))) f

pub break_up_stands : (n r : ℕ) (bytes : List ℕ) → is_at_end bytes ≡ false → record_break false r bytes ≡ None
    → break_up_to (suc n) r bytes ≡ option_map (λ (k : ℕ). record_length bytes + k) (break_up_to n (suc r) (drop (record_length bytes) bytes))
unfolding break_up_to
break_up_stands n r bytes e f =
    if_false (is_at_end bytes) _ _ e ∙ ap (λ (o : Option ℕ). break_or_after o (record_length bytes) (break_up_to n (suc r) (drop (record_length bytes) bytes))) f
