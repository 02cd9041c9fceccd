-- Some track begins with the bytes before the break: how what stands there is completed.
use Rattle.std.proofs.Common.{◌≡◌, ℕ, zero, suc, ◌+◌, ◌-◌, ◌<◌, ◌≤◌, max, true, false, List, [], ◌∷◌, ◌++◌, length, take, drop, get_or, replicate, Some, ◌⊎◌, inl, inr, refl, sym, ap, ◌∙◌, subst, arith, append_assoc, append-nil, get_or-take, length-append, length-take, take_all, eq-eqb, le-leb}
use Rattle.std.proofs.lemmas.List.{get_or_append_left, get_or-append_right, get_or_past, length-replicate, drop_all}
use Rattle.std.proofs.lemmas.Bool.{cases_Bool, cases_lt, false_from_ne_true, and_from}
use Rattle.ckd_image.specs.Track.{Record, IsRecord, end_marker, record_bytes}
use Rattle.ckd_image.specs.Reading.{is_at_end, is_record_at, front_record, record_length}
use Rattle.ckd_image.specs.Break.{break_to_end, break_up_to, marker_length}
use Rattle.ckd_image.proofs.GrammarRecord.{AreBytes, record_split, at_four, at_eight, made}
use Rattle.ckd_image.proofs.GrammarFront.{map_some}
use Rattle.ckd_image.proofs.GrammarWalk.{RecordCase.short, RecordCase.other, RecordCase.cut, RecordCase.whole, record_case, break_end_ended, break_end_zero, break_end_broken, break_end_stands, break_up_zero, break_up_ended, break_up_broken, break_up_stands}
use Rattle.ckd_image.proofs.Grammar.{IsToEnd, IsUpTo, marker_ends, bytes_behind, none_to_end, one_to_end, none_up_to, one_up_to, one_answer}
use Rattle.ckd_image.proofs.GrammarBreak.{marker_completes, marker_long, marker_byte, kept_part, part_length, record_inside, ended_place, place}

-- ---- a record that begins with some bytes

pub record Completes (r : ℕ) (front : List ℕ) : Type 0 where
  pub x : Record
  pub more : List ℕ
  pub is : IsRecord r x
  pub parts : front ++ more ≡ record_bytes r x

-- more of the same
more_completes : (r : ℕ) (front more : List ℕ) → Completes r (front ++ more) → Completes r front
more_completes r front more w = record { x = w.x; more = more ++ w.more; is = w.is; parts = sym (append_assoc front more w.more) ∙ w.parts }

-- a record with no key and no data
empty_completes : (r : ℕ) (address : List ℕ) → r < 256 → length address ≡ 4 → Completes r address
empty_completes r address l e =
    at_four (λ ad. Completes r ad)
    (λ a b c d. record {
      x = made (a ∷ b ∷ c ∷ d ∷ []) [] [];
      more = r ∷ 0 ∷ 0 ∷ 0 ∷ [];
      is = record {
        number = l;
        four = refl;
        key_fits = omega arith;
        data_fits = omega arith;
        count = λ s. (let z : ◌≡◌ {A = ℕ} 0 255 = ap (λ (ys : List ℕ). get_or ys 7 0) s in omega arith);
      };
      parts = refl;
    })
    address e

-- where at most its address is there
short_completes : (r : ℕ) (front : List ℕ) → r < 256 → length front ≤ 4 → Completes r front
short_completes r front l s =
    more_completes r front (replicate (4 - length front) 0)
    (empty_completes r (front ++ replicate (4 - length front) 0) l (omega (arith, length-append front (replicate (4 - length front) 0), length-replicate {A = ℕ} (4 - length front) 0)))

-- zeros after bytes
zeros_read : (n i : ℕ) → ◌≡◌ {A = ℕ} (get_or (replicate n 0) i 0) 0
zeros_read zero i = refl
zeros_read (suc n) zero = refl
zeros_read (suc n) (suc i) = zeros_read n i

zeros_behind : (bytes : List ℕ) (n : ℕ) → AreBytes bytes → AreBytes (bytes ++ replicate n 0)
zeros_behind bytes n small i =
    elim (cases_lt i (length bytes)) [
      | inl l ↦ subst (λ (b : ℕ). b < 256) (sym (get_or_append_left bytes (replicate n 0) 0 i l)) (small i)
      | inr l ↦ subst (λ (b : ℕ). b < 256) (sym (get_or-append_right bytes (replicate n 0) (length bytes) i 0 refl l ∙ zeros_read n (i - length bytes))) (omega arith)
    ]

bytes_before : (n : ℕ) (bytes : List ℕ) → AreBytes bytes → AreBytes (take n bytes)
bytes_before n bytes small i =
    elim (cases_lt i n) [
      | inl l ↦ subst (λ (b : ℕ). b < 256) (sym (get_or-take n bytes i 0 l)) (small i)
      | inr l ↦ subst (λ (b : ℕ). b < 256) (sym (get_or_past (take n bytes) i 0 (omega (arith, length-take n bytes)))) (omega arith)
    ]

-- what the first eight bytes say, whatever stands after them
record SaysSame (bytes more : List ℕ) : Type 0 where
  ended : is_at_end (bytes ++ more) ≡ is_at_end bytes
  long : record_length (bytes ++ more) ≡ record_length bytes
  number : get_or (bytes ++ more) 4 0 ≡ get_or bytes 4 0

says_same : (bytes more : List ℕ) → 8 ≤ length bytes → SaysSame bytes more
says_same bytes more l = at_eight (λ bs. SaysSame bs more) (λ a b c d e f g h xs. record { ended = refl; long = refl; number = refl }) bytes l

-- where the count is there, and not all of the record
count_completes : (r : ℕ) (bytes : List ℕ) → AreBytes bytes → is_at_end bytes ≡ false → 8 ≤ length bytes → get_or bytes 4 0 ≡ r → length bytes ≤ record_length bytes → Completes r bytes
count_completes r bytes small t l e s =
    let more : List ℕ = replicate (record_length bytes - length bytes) 0 in
    let same = says_same bytes more l in
    let size : length (bytes ++ more) ≡ record_length bytes = omega (arith, length-append bytes more, length-replicate {A = ℕ} (record_length bytes - length bytes) 0) in
    let stands : is_record_at r (bytes ++ more) ≡ true =
    and_from _ _ (and_from _ _ (le-leb 8 (length (bytes ++ more)) (omega (arith, size))) (eq-eqb (get_or (bytes ++ more) 4 0) r (same.number ∙ e)))
    (le-leb (record_length (bytes ++ more)) (length (bytes ++ more)) (omega (arith, size, same.long))) in
    let w = record_split r (bytes ++ more) (zeros_behind bytes (record_length bytes - length bytes) small) (same.ended ∙ t) stands in
    record {
      x = front_record (bytes ++ more);
      more = more;
      is = w.is;
      parts = w.parts ∙ (ap (λ (ys : List ℕ). record_bytes r (front_record (bytes ++ more)) ++ ys) (drop_all (record_length (bytes ++ more)) (bytes ++ more) (omega (arith, size, same.long)))
          ∙ append-nil (record_bytes r (front_record (bytes ++ more))));
    }

-- where its number is there, and not all of its count
number_completes : (r : ℕ) (bytes : List ℕ) → AreBytes bytes → 5 ≤ length bytes → length bytes < 8 → get_or bytes 4 0 ≡ r → Completes r bytes
number_completes r bytes small l s e =
    let more : List ℕ = replicate (8 - length bytes) 0 in
    let size : length (bytes ++ more) ≡ 8 = omega (arith, length-append bytes more, length-replicate {A = ℕ} (8 - length bytes) 0) in
    let zero_last : get_or (bytes ++ more) 7 0 ≡ 0 = get_or-append_right bytes more (length bytes) 7 0 refl (omega arith) ∙ zeros_read (8 - length bytes) (7 - length bytes) in
    more_completes r bytes more
    (count_completes r (bytes ++ more) (zeros_behind bytes (8 - length bytes) small)
    (false_from_ne_true _ (λ t. let last = marker_byte (bytes ++ more) 7 t (omega arith) in omega (arith, last, zero_last)))
    (omega (arith, size)) (get_or_append_left bytes more 0 4 (omega arith) ∙ e) (omega (arith, size)))

-- both
cut_completes : (r : ℕ) (bytes : List ℕ) → AreBytes bytes → is_at_end bytes ≡ false → 5 ≤ length bytes → get_or bytes 4 0 ≡ r → (length bytes < 8) ⊎ (length bytes < record_length bytes) → Completes r bytes
cut_completes r bytes small t l e lack =
    elim (cases_lt (length bytes) 8) [
      | inl s ↦ number_completes r bytes small l s e
      | inr s ↦ elim lack [
        | inl m ↦ number_completes r bytes small l m e
        | inr m ↦ count_completes r bytes small t s e (omega arith)
      ]
    ]

-- what stands after a part that is kept, by how much of it is
pub kept_more : (n k : ℕ) (bytes front t rest : List ℕ) → bytes ≡ front ++ t → length front ≡ n → take (n + k) bytes ++ rest ≡ front ++ (take k t ++ rest)
kept_more n k bytes front t rest e l =
    let back : n + k - n ≡ k = omega arith in
    kept_part n (n + k) bytes front t rest e l (omega arith) ∙ ap (λ (i : ℕ). front ++ (take i t ++ rest)) back

-- ---- a track's end that begins with some bytes

-- records from Rr on and an end marker
pub record CanEnd (r : ℕ) (front : List ℕ) : Type 0 where
  pub records : List Record
  pub rest : List ℕ
  pub is : IsToEnd r records (front ++ rest)

-- so many records from Rr on, and eight bytes
pub record CanReach (n r : ℕ) (front : List ℕ) : Type 0 where
  pub records : List Record
  pub rest : List ℕ
  pub is : IsUpTo n r records (front ++ rest)

-- a record that is completed, and an end after it
completed_ends : (r : ℕ) (front : List ℕ) → Completes r front → CanEnd r front
completed_ends r front w = record {
  records = w.x ∷ [];
  rest = w.more ++ end_marker;
  is = one_to_end r w.x [] (front ++ (w.more ++ end_marker)) end_marker w.is
      (sym (append_assoc front w.more end_marker) ∙ ap (λ (ys : List ℕ). ys ++ end_marker) w.parts)
      (none_to_end (suc r) end_marker (marker_ends []));
}

completed_reaches : (n r : ℕ) (front : List ℕ) → Completes r front → CanReach n (suc r) [] → CanReach (suc n) r front
completed_reaches n r front w v = record {
  records = w.x ∷ v.records;
  rest = w.more ++ v.rest;
  is = one_up_to n r w.x v.records (front ++ (w.more ++ v.rest)) v.rest w.is
      (sym (append_assoc front w.more v.rest) ∙ ap (λ (ys : List ℕ). ys ++ v.rest) w.parts)
      v.is;
}

-- from no bytes at all
pub can_end : (r : ℕ) → CanEnd r []
can_end r = record { records = []; rest = end_marker; is = none_to_end r end_marker (marker_ends []) }

pub can_reach : (n r : ℕ) → r + n ≤ 256 → CanReach n r []
can_reach zero r l = record { records = []; rest = replicate 8 0; is = none_up_to r (replicate 8 0) (omega arith) }
can_reach (suc n) r l = completed_reaches n r [] (short_completes r [] (omega arith) (omega arith)) (can_reach n (suc r) (omega arith))

-- after a whole record
record_ends : (r k : ℕ) (bytes : List ℕ) → AreBytes bytes → is_at_end bytes ≡ false → is_record_at r bytes ≡ true → CanEnd (suc r) (take k (drop (record_length bytes) bytes)) → CanEnd r (take (record_length bytes + k) bytes)
record_ends r k bytes small t f w =
    let v = record_split r bytes small t f in
    record {
      records = front_record bytes ∷ w.records;
      rest = w.rest;
      is = one_to_end r (front_record bytes) w.records _ (take k (drop (record_length bytes) bytes) ++ w.rest) v.is
          (kept_more (record_length bytes) k bytes (record_bytes r (front_record bytes)) (drop (record_length bytes) bytes) w.rest v.parts
          (part_length (record_length bytes) bytes (record_bytes r (front_record bytes)) v.parts (record_inside r bytes f)))
          w.is;
    }

record_reaches : (n r k : ℕ) (bytes : List ℕ) → AreBytes bytes → is_at_end bytes ≡ false → is_record_at r bytes ≡ true → CanReach n (suc r) (take k (drop (record_length bytes) bytes)) → CanReach (suc n) r (take (record_length bytes + k) bytes)
record_reaches n r k bytes small t f w =
    let v = record_split r bytes small t f in
    record {
      records = front_record bytes ∷ w.records;
      rest = w.rest;
      is = one_up_to n r (front_record bytes) w.records _ (take k (drop (record_length bytes) bytes) ++ w.rest) v.is
          (kept_more (record_length bytes) k bytes (record_bytes r (front_record bytes)) (drop (record_length bytes) bytes) w.rest v.parts
          (part_length (record_length bytes) bytes (record_bytes r (front_record bytes)) v.parts (record_inside r bytes f)))
          w.is;
    }

-- X'FF' are completed to an end marker
marker_can_end : (r : ℕ) (bytes : List ℕ) → CanEnd r (take (marker_length bytes) bytes)
marker_can_end r bytes = record { records = []; rest = replicate (8 - marker_length bytes) 255; is = none_to_end r _ (marker_completes bytes) }

-- at most four bytes, which may be an address
few_complete : (r k : ℕ) (bytes : List ℕ) → r < 256 → k ≤ 4 → Completes r (take k bytes)
few_complete r k bytes l s = short_completes r (take k bytes) l (omega (arith, length-take k bytes))

-- ---- the bytes before the break can be completed

pub end_begins : (n r k : ℕ) (bytes : List ℕ) → AreBytes bytes → r + n ≡ 256 → break_to_end n r bytes ≡ Some k → CanEnd r (take k bytes)
end_begins zero r k bytes small sum e =
    elim (cases_Bool (is_at_end bytes)) [
      | inl t ↦ absurd (let w = break_end_ended 0 r bytes t in cc)
      | inr t ↦ subst (λ i. CanEnd r (take i bytes)) (one_answer _ (marker_length bytes) k (break_end_zero r bytes t) e) (marker_can_end r bytes)
    ]
end_begins (suc n) r k bytes small sum e =
    elim (cases_Bool (is_at_end bytes)) [
      | inl t ↦ absurd (let w = break_end_ended (suc n) r bytes t in cc)
      | inr t ↦ elim (record_case true r bytes) [
        | short l f b ↦
            (let w = one_answer _ k (length bytes) e (break_end_broken n r (length bytes) bytes t b) in
            completed_ends r (take k bytes) (few_complete r k bytes (omega arith) (omega arith)))
        | other l d f b ↦
            (let w = one_answer _ k (max 4 (marker_length bytes)) e (break_end_broken n r (max 4 (marker_length bytes)) bytes t b) in
            elim (cases_lt 4 (marker_length bytes)) [
              | inl s ↦ (let at : marker_length bytes ≡ k = omega arith in subst (λ i. CanEnd r (take i bytes)) at (marker_can_end r bytes))
              | inr s ↦ completed_ends r (take k bytes) (few_complete r k bytes (omega arith) (omega arith))
            ])
        | cut l d p f b ↦
            (let w = one_answer _ k (length bytes) e (break_end_broken n r (length bytes) bytes t b) in
            subst (λ ys. CanEnd r ys) (sym (take_all k bytes (omega arith))) (completed_ends r bytes (cut_completes r bytes small t l d p)))
        | whole f b ↦
            (let v = map_some _ _ k (sym (break_end_stands n r bytes t b) ∙ e) in
            subst (λ i. CanEnd r (take i bytes)) (sym v.2)
            (record_ends r v.0 bytes small t f
            (end_begins n (suc r) v.0 (drop (record_length bytes) bytes) (bytes_behind (record_length bytes) bytes small) (omega arith) v.1)))
      ]
    ]

-- an end marker is cut where a record might stand
ended_completes : (r : ℕ) (bytes : List ℕ) → AreBytes bytes → is_at_end bytes ≡ true → r < 256 → Completes r (take (place r) bytes)
ended_completes r bytes small t l =
    elim (ended_place r) [
      | inl p ↦ (let long = marker_long bytes t in
          let size : length (take (place r) bytes) ≡ 7 = omega (arith, p.1, length-take (place r) bytes) in
          number_completes r (take (place r) bytes) (bytes_before (place r) bytes small) (omega (arith, size)) (omega (arith, size))
          (get_or-take (place r) bytes 4 0 (omega (arith, p.1)) ∙ (marker_byte bytes 4 t (omega arith) ∙ sym p.0)))
      | inr p ↦ few_complete r (place r) bytes l (omega (arith, p.1))
    ]

pub up_begins : (n r k : ℕ) (bytes : List ℕ) → AreBytes bytes → r + n ≤ 256 → break_up_to n r bytes ≡ Some k → CanReach n r (take k bytes)
up_begins zero r k bytes small sum e =
    elim (cases_lt (length bytes) 8) [
      | inl t ↦ record {
        records = [];
        rest = replicate 8 0;
        is = none_up_to r (take k bytes ++ replicate 8 0) (omega (arith, length-append (take k bytes) (replicate 8 0)));
      }
      | inr t ↦ absurd (let w = break_up_zero r bytes t in cc)
    ]
up_begins (suc n) r k bytes small sum e =
    let later = can_reach n (suc r) (omega arith) in
    elim (cases_Bool (is_at_end bytes)) [
      | inl t ↦ subst (λ i. CanReach (suc n) r (take i bytes)) (one_answer _ (place r) k (break_up_ended n r bytes t) e)
          (completed_reaches n r (take (place r) bytes) (ended_completes r bytes small t (omega arith)) later)
      | inr t ↦ elim (record_case false r bytes) [
        | short l f b ↦
            (let w = one_answer _ k (length bytes) e (break_up_broken n r (length bytes) bytes t b) in
            completed_reaches n r (take k bytes) (few_complete r k bytes (omega arith) (omega arith)) later)
        | other l d f b ↦
            (let w = one_answer _ k 4 e (break_up_broken n r 4 bytes t b) in
            completed_reaches n r (take k bytes) (few_complete r k bytes (omega arith) (omega arith)) later)
        | cut l d p f b ↦
            (let w = one_answer _ k (length bytes) e (break_up_broken n r (length bytes) bytes t b) in
            subst (λ ys. CanReach (suc n) r ys) (sym (take_all k bytes (omega arith))) (completed_reaches n r bytes (cut_completes r bytes small t l d p) later))
        | whole f b ↦
            (let v = map_some _ _ k (sym (break_up_stands n r bytes t b) ∙ e) in
            subst (λ i. CanReach (suc n) r (take i bytes)) (sym v.2)
            (record_reaches n r v.0 bytes small t f
            (up_begins n (suc r) v.0 (drop (record_length bytes) bytes) (bytes_behind (record_length bytes) bytes small) (omega arith) v.1)))
      ]
    ]
