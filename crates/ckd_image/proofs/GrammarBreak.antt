-- Where a marker, a record and a walk break, and that no bytes of a track go on from there.
use Rattle.std.proofs.Common.{◌≡◌, ◌≢◌, ℕ, zero, suc, ◌+◌, ◌-◌, ◌<◌, ◌≤◌, max, true, false, ◌==◌, List, ◌++◌, length, take, drop, get_or, replicate, Some, None, option_map, if◌then◌else◌, ◌⊎◌, inl, inr, sym, ap, ap₂, ◌∙◌, arith, append_assoc, get_or-take, length-append, length-drop, length-take, length-take-le, take_at, drop_at, take-add, ext_get_or, eqb-true, leb-true, eq-eqb, ne_eqb}
use Rattle.std.proofs.lemmas.List.{get_or_append_left, get_or-append_right, get_or-replicate, length-replicate, drop-append-le, drop-take}
use Rattle.std.proofs.lemmas.List.Sums.{prefix_len-le-length, prefix_len_passes, prefix_len_stops}
use Rattle.std.proofs.lemmas.Bool.{cases_Bool, cases_lt, cases_eq, eqb-false, false_from_ne_true, and_left, and_right, and_parts}
use Rattle.std.proofs.lemmas.Slice.Eq.{bytes_eq-Decides}
use Rattle.std.specs.List.{prefix_len}
use Rattle.ckd_image.specs.Track.{end_marker, record_bytes}
use Rattle.ckd_image.specs.Reading.{is_at_end, is_record_at, front_record, record_length, records_to_end, records_up_to}
use Rattle.ckd_image.specs.Break.{break_to_end, break_up_to, marker_length}
use Rattle.ckd_image.proofs.GrammarRecord.{AreBytes, record_split}
use Rattle.ckd_image.proofs.GrammarFront.{map_some, if_true, if_false}
use Rattle.ckd_image.proofs.GrammarWalk.{RecordCase.short, RecordCase.other, RecordCase.cut, RecordCase.whole, record_case, to_end_zero, to_end_broken, up_to_ended, up_to_broken, break_end_ended, break_end_zero, break_end_broken, break_end_stands, break_up_zero, break_up_short, break_up_ended, break_up_broken, break_up_stands}
use Rattle.ckd_image.proofs.Grammar.{after, step_end, step_up, bytes_behind, one_answer}

-- ---- how many X'FF' stand at the front

-- that number, without the list of them
marker_is : (bytes : List ℕ) → marker_length bytes ≡ prefix_len (λ (b : ℕ). b == 255) (take 8 bytes)
marker_is bytes = length-take-le _ (take 8 bytes) (prefix_len-le-length (λ (b : ℕ). b == 255) (take 8 bytes))

-- at most eight, and at most all bytes
pub marker_most : (bytes : List ℕ) → (marker_length bytes ≤ 8) × (marker_length bytes ≤ length bytes)
marker_most bytes = omega (arith, marker_is bytes, prefix_len-le-length (λ (b : ℕ). b == 255) (take 8 bytes), length-take 8 bytes)

-- each of those bytes is X'FF'
marker_reads : (bytes : List ℕ) (k : ℕ) → k < marker_length bytes → get_or bytes k 0 ≡ 255
marker_reads bytes k l =
    let most = marker_most bytes in
    let small : k < 8 = omega (arith, most.0) in
    sym (get_or-take 8 bytes k 0 small) ∙ eqb-true _ _ (prefix_len_passes (λ (b : ℕ). b == 255) (take 8 bytes) k 0 (omega (arith, marker_is bytes)))

-- eight X'FF' are an end marker
eight_read : (bytes : List ℕ) (i : ℕ) → i < 8 → get_or bytes i 0 ≡ 255 → get_or (take 8 bytes) i 0 ≡ get_or (replicate 8 255) i 0
eight_read bytes i l e = get_or-take 8 bytes i 0 l ∙ (e ∙ sym (get_or-replicate 8 i 255 0 l))

marker_from_reads : (bytes : List ℕ) → 8 ≤ length bytes → ((k : ℕ) → k < 8 → get_or bytes k 0 ≡ 255) → is_at_end bytes ≡ true
marker_from_reads bytes l h =
    let long : length (take 8 bytes) ≡ 8 = length-take-le 8 bytes l in
    (bytes_eq-Decides (take 8 bytes) end_marker).1
    (ext_get_or 0 (take 8 bytes) (replicate 8 255) long (λ i s. eight_read bytes i (omega arith) (h i (omega arith))))

-- an end marker's bytes
pub marker_byte : (bytes : List ℕ) (k : ℕ) → is_at_end bytes ≡ true → k < 8 → get_or bytes k 0 ≡ 255
marker_byte bytes k t l =
    sym (get_or-take 8 bytes k 0 l) ∙ (ap (λ (ys : List ℕ). get_or ys k 0) ((bytes_eq-Decides (take 8 bytes) end_marker).0 t) ∙ get_or-replicate 8 k 255 0 l)

-- an end marker has its eight bytes
pub marker_long : (bytes : List ℕ) → is_at_end bytes ≡ true → 8 ≤ length bytes
marker_long bytes t = omega (arith, length-take 8 bytes, ap length ((bytes_eq-Decides (take 8 bytes) end_marker).0 t))

-- fewer than eight where there is no end marker, and then another byte
marker_less : (bytes : List ℕ) → is_at_end bytes ≡ false → marker_length bytes < 8
marker_less bytes e =
    elim (cases_lt (marker_length bytes) 8) [
      | inl l ↦ l
      | inr l ↦ absurd (let most = marker_most bytes in
          let t = marker_from_reads bytes (omega (arith, most.1)) (λ k s. marker_reads bytes k (omega arith)) in cc)
    ]

marker_stops : (bytes : List ℕ) → is_at_end bytes ≡ false → marker_length bytes < length bytes → get_or bytes (marker_length bytes) 0 ≢ 255
marker_stops bytes e l s =
    let less = marker_less bytes e in
    let is = marker_is bytes in
    let stops = prefix_len_stops (λ (b : ℕ). b == 255) (take 8 bytes) 0 (omega (arith, length-take 8 bytes)) in
    eqb-false _ _ stops (ap (λ (k : ℕ). get_or (take 8 bytes) k 0) (sym is) ∙ (get_or-take 8 bytes (marker_length bytes) 0 less ∙ s))

-- ---- a byte stays where only what stands after it is changed

pub byte_stays : (bytes rest : List ℕ) (k n : ℕ) → k < n → k < length bytes → get_or (take n bytes ++ rest) k 0 ≡ get_or bytes k 0
byte_stays bytes rest k n l m =
    get_or_append_left (take n bytes) rest 0 k (omega (arith, length-take n bytes)) ∙ get_or-take n bytes k 0 l

-- no end marker comes to be where its first other byte stays
marker_stays : (bytes rest : List ℕ) (n : ℕ) → is_at_end bytes ≡ false → marker_length bytes < length bytes → marker_length bytes < n → is_at_end (take n bytes ++ rest) ≡ false
marker_stays bytes rest n e l m =
    false_from_ne_true _ (λ t. marker_stops bytes e l (sym (byte_stays bytes rest (marker_length bytes) n m l) ∙ marker_byte (take n bytes ++ rest) (marker_length bytes) t (marker_less bytes e)))

-- the X'FF' at the front can be completed to an end marker
completed_read : (bytes : List ℕ) (i : ℕ) → i < 8 → get_or (take (marker_length bytes) bytes ++ replicate (8 - marker_length bytes) 255) i 0 ≡ 255
completed_read bytes i l =
    let most = marker_most bytes in
    let long : length (take (marker_length bytes) bytes) ≡ marker_length bytes = length-take-le (marker_length bytes) bytes most.1 in
    elim (cases_lt i (marker_length bytes)) [
      | inl s ↦ byte_stays bytes (replicate (8 - marker_length bytes) 255) i (marker_length bytes) s (omega (arith, most.1)) ∙ marker_reads bytes i s
      | inr s ↦ get_or-append_right (take (marker_length bytes) bytes) (replicate (8 - marker_length bytes) 255) (marker_length bytes) i 0 long s
          ∙ get_or-replicate (8 - marker_length bytes) (i - marker_length bytes) 255 0 (omega arith)
    ]

pub marker_completes : (bytes : List ℕ) → is_at_end (take (marker_length bytes) bytes ++ replicate (8 - marker_length bytes) 255) ≡ true
marker_completes bytes =
    let most = marker_most bytes in
    let long : length (take (marker_length bytes) bytes) ≡ marker_length bytes = length-take-le (marker_length bytes) bytes most.1 in
    marker_from_reads _ (omega (arith, length-append (take (marker_length bytes) bytes) (replicate (8 - marker_length bytes) 255), length-replicate {A = ℕ} (8 - marker_length bytes) 255, most.0)) (completed_read bytes)

-- ---- what stands after a part that is kept

pub kept_part : (n m : ℕ) (bytes front t rest : List ℕ) → bytes ≡ front ++ t → length front ≡ n → n ≤ m → take m bytes ++ rest ≡ front ++ (take (m - n) t ++ rest)
kept_part n m bytes front t rest e l s =
    let sum : m ≡ n + (m - n) = omega arith in
    ap (λ (ys : List ℕ). ys ++ rest)
    (ap₂ (λ (i : ℕ) (ys : List ℕ). take i ys) sum e
    ∙ (take-add n (m - n) (front ++ t) ∙ ap₂ (λ (ys zs : List ℕ). ys ++ take (m - n) zs) (take_at front t n l) (drop_at front t n l)))
    ∙ append_assoc front (take (m - n) t) rest

-- the length of a part
pub part_length : (n : ℕ) (bytes front : List ℕ) → bytes ≡ front ++ drop n bytes → n ≤ length bytes → length front ≡ n
part_length n bytes front e l = omega (arith, ap length e, length-append front (drop n bytes), length-drop n bytes)

-- what after a part is kept
pub kept_behind : (n m : ℕ) (bytes rest : List ℕ) → n ≤ m → n ≤ length bytes → drop n (take m bytes ++ rest) ≡ take (m - n) (drop n bytes) ++ rest
kept_behind n m bytes rest s l =
    let sum : m ≡ n + (m - n) = omega arith in
    drop-append-le n (take m bytes) rest (omega (arith, length-take m bytes))
    ∙ ap (λ (ys : List ℕ). ys ++ rest) (ap (λ (i : ℕ). drop n (take i bytes)) sum ∙ drop-take n (m - n) bytes)

-- ---- the record at the front

-- it isn't Rr where its number is another
record_other : (r : ℕ) (bytes : List ℕ) → get_or bytes 4 0 ≢ r → is_record_at r bytes ≡ false
record_other r bytes d = and_left _ _ (and_right _ _ (ne_eqb (get_or bytes 4 0) r d))

-- it stands inside the bytes
pub record_inside : (r : ℕ) (bytes : List ℕ) → is_record_at r bytes ≡ true → record_length bytes ≤ length bytes
record_inside r bytes f = leb-true (record_length bytes) (length bytes) (and_parts _ _ f).1

-- ---- the break stands inside the bytes, or at their end

pub end_inside : (n r k : ℕ) (bytes : List ℕ) → break_to_end n r bytes ≡ Some k → k ≤ length bytes
end_inside zero r k bytes e =
    elim (cases_Bool (is_at_end bytes)) [
      | inl t ↦ absurd (let w = break_end_ended 0 r bytes t in cc)
      | inr t ↦ (let w = one_answer _ k (marker_length bytes) e (break_end_zero r bytes t) in let most = marker_most bytes in omega (arith, most.1))
    ]
end_inside (suc n) r k bytes e =
    elim (cases_Bool (is_at_end bytes)) [
      | inl t ↦ absurd (let w = break_end_ended (suc n) r bytes t in cc)
      | inr t ↦ elim (record_case true r bytes) [
        | short l f b ↦ (let w = one_answer _ k (length bytes) e (break_end_broken n r (length bytes) bytes t b) in omega arith)
        | other l d f b ↦
            (let w = one_answer _ k (max 4 (marker_length bytes)) e (break_end_broken n r (max 4 (marker_length bytes)) bytes t b) in
            let most = marker_most bytes in
            omega (arith, most.1))
        | cut l d s f b ↦ (let w = one_answer _ k (length bytes) e (break_end_broken n r (length bytes) bytes t b) in omega arith)
        | whole f b ↦
            (let v = map_some _ _ k (sym (break_end_stands n r bytes t b) ∙ e) in
            omega (arith, v.2, end_inside n (suc r) v.0 (drop (record_length bytes) bytes) v.1, length-drop (record_length bytes) bytes, record_inside r bytes f))
      ]
    ]

-- where an end marker is no record: after its fourth byte, or at its last
abbrev pub place : ℕ → ℕ
place r = if r == 255 then 7 else 4

pub ended_place : (r : ℕ) → ((r ≡ 255) × (place r ≡ 7)) ⊎ ((r ≢ 255) × (place r ≡ 4))
ended_place r =
    elim (cases_eq r 255) [
      | inl e ↦ inl (e, if_true (r == 255) 7 4 (eq-eqb r 255 e))
      | inr d ↦ inr (d, if_false (r == 255) 7 4 (ne_eqb r 255 d))
    ]

pub up_inside : (n r k : ℕ) (bytes : List ℕ) → break_up_to n r bytes ≡ Some k → k ≤ length bytes
up_inside zero r k bytes e =
    elim (cases_lt (length bytes) 8) [
      | inl t ↦ (let w = one_answer _ k (length bytes) e (break_up_short r bytes t) in omega arith)
      | inr t ↦ absurd (let w = break_up_zero r bytes t in cc)
    ]
up_inside (suc n) r k bytes e =
    elim (cases_Bool (is_at_end bytes)) [
      | inl t ↦
          (let w = one_answer _ k (place r) e (break_up_ended n r bytes t) in
          let long = marker_long bytes t in
          elim (ended_place r) [ inl p ↦ omega (arith, w, p.1) | inr p ↦ omega (arith, w, p.1) ])
      | inr t ↦ elim (record_case false r bytes) [
        | short l f b ↦ (let w = one_answer _ k (length bytes) e (break_up_broken n r (length bytes) bytes t b) in omega arith)
        | other l d f b ↦ (let w = one_answer _ k 4 e (break_up_broken n r 4 bytes t b) in omega arith)
        | cut l d s f b ↦ (let w = one_answer _ k (length bytes) e (break_up_broken n r (length bytes) bytes t b) in omega arith)
        | whole f b ↦
            (let v = map_some _ _ k (sym (break_up_stands n r bytes t b) ∙ e) in
            omega (arith, v.2, up_inside n (suc r) v.0 (drop (record_length bytes) bytes) v.1, length-drop (record_length bytes) bytes, record_inside r bytes f))
      ]
    ]

-- ---- nothing is read where the byte at the break stays

-- a record that stays, and nothing that is read after it
end_step_none : (n r m : ℕ) (bytes rest : List ℕ) → AreBytes bytes → is_at_end bytes ≡ false → is_record_at r bytes ≡ true → record_length bytes ≤ m
    → records_to_end n (suc r) (take (m - record_length bytes) (drop (record_length bytes) bytes) ++ rest) ≡ None → records_to_end (suc n) r (take m bytes ++ rest) ≡ None
end_step_none n r m bytes rest small t f l none =
    let w = record_split r bytes small t f in
    let part = kept_part (record_length bytes) m bytes (record_bytes r (front_record bytes)) (drop (record_length bytes) bytes) rest w.parts
    (part_length (record_length bytes) bytes (record_bytes r (front_record bytes)) w.parts (record_inside r bytes f)) l in
    ap (records_to_end (suc n) r) part ∙ (step_end n r (front_record bytes) _ w.is ∙ ap (option_map (after (front_record bytes))) none)

up_step_none : (n r m : ℕ) (bytes rest : List ℕ) → AreBytes bytes → is_at_end bytes ≡ false → is_record_at r bytes ≡ true → record_length bytes ≤ m
    → records_up_to n (suc r) (take (m - record_length bytes) (drop (record_length bytes) bytes) ++ rest) ≡ None → records_up_to (suc n) r (take m bytes ++ rest) ≡ None
up_step_none n r m bytes rest small t f l none =
    let w = record_split r bytes small t f in
    let part = kept_part (record_length bytes) m bytes (record_bytes r (front_record bytes)) (drop (record_length bytes) bytes) rest w.parts
    (part_length (record_length bytes) bytes (record_bytes r (front_record bytes)) w.parts (record_inside r bytes f)) l in
    ap (records_up_to (suc n) r) part ∙ (step_up n r (front_record bytes) _ w.is ∙ ap (option_map (after (front_record bytes))) none)

-- another number stays another number
other_stays : (r n : ℕ) (bytes rest : List ℕ) → get_or bytes 4 0 ≢ r → 4 < n → 4 < length bytes → is_record_at r (take n bytes ++ rest) ≡ false
other_stays r n bytes rest d l m = record_other r (take n bytes ++ rest) (λ s. d (sym (byte_stays bytes rest 4 n l m) ∙ s))

pub end_stays : (n r k m : ℕ) (bytes rest : List ℕ) → AreBytes bytes → break_to_end n r bytes ≡ Some k → k < m → k < length bytes → records_to_end n r (take m bytes ++ rest) ≡ None
end_stays zero r k m bytes rest small e l s =
    elim (cases_Bool (is_at_end bytes)) [
      | inl t ↦ absurd (let w = break_end_ended 0 r bytes t in cc)
      | inr t ↦
          (let w = one_answer _ k (marker_length bytes) e (break_end_zero r bytes t) in
          to_end_zero r _ (marker_stays bytes rest m t (omega arith) (omega arith)))
    ]
end_stays (suc n) r k m bytes rest small e l s =
    elim (cases_Bool (is_at_end bytes)) [
      | inl t ↦ absurd (let w = break_end_ended (suc n) r bytes t in cc)
      | inr t ↦ elim (record_case true r bytes) [
        | short long f b ↦ absurd (let w = one_answer _ k (length bytes) e (break_end_broken n r (length bytes) bytes t b) in omega arith)
        | other long d f b ↦
            (let w = one_answer _ k (max 4 (marker_length bytes)) e (break_end_broken n r (max 4 (marker_length bytes)) bytes t b) in
            to_end_broken (suc n) r _ (marker_stays bytes rest m t (omega arith) (omega arith)) (other_stays r m bytes rest d (omega arith) (omega arith)))
        | cut long d p f b ↦ absurd (let w = one_answer _ k (length bytes) e (break_end_broken n r (length bytes) bytes t b) in omega arith)
        | whole f b ↦
            (let v = map_some _ _ k (sym (break_end_stands n r bytes t b) ∙ e) in
            let sum : k ≡ record_length bytes + v.0 = v.2 in
            end_step_none n r m bytes rest small t f (omega (arith, sum))
            (end_stays n (suc r) v.0 (m - record_length bytes) (drop (record_length bytes) bytes) rest (bytes_behind (record_length bytes) bytes small) v.1
            (omega (arith, sum)) (omega (arith, sum, length-drop (record_length bytes) bytes))))
      ]
    ]

-- an end marker stays where its eight bytes do
ended_stays : (bytes rest : List ℕ) (n : ℕ) → is_at_end bytes ≡ true → 8 ≤ n → is_at_end (take n bytes ++ rest) ≡ true
ended_stays bytes rest n t l =
    let long = marker_long bytes t in
    marker_from_reads (take n bytes ++ rest) (omega (arith, length-append (take n bytes) rest, length-take n bytes))
    (λ k s. byte_stays bytes rest k n (omega arith) (omega arith) ∙ marker_byte bytes k t s)

pub up_stays : (n r k m : ℕ) (bytes rest : List ℕ) → AreBytes bytes → break_up_to n r bytes ≡ Some k → k < m → k < length bytes → records_up_to n r (take m bytes ++ rest) ≡ None
up_stays zero r k m bytes rest small e l s =
    elim (cases_lt (length bytes) 8) [
      | inl t ↦ absurd (let w = one_answer _ k (length bytes) e (break_up_short r bytes t) in omega arith)
      | inr t ↦ absurd (let w = break_up_zero r bytes t in cc)
    ]
up_stays (suc n) r k m bytes rest small e l s =
    elim (cases_Bool (is_at_end bytes)) [
      | inl t ↦
          (let w = one_answer _ k (place r) e (break_up_ended n r bytes t) in
          elim (ended_place r) [
            | inl p ↦ up_to_ended n r _ (ended_stays bytes rest m t (omega (arith, w, p.1)))
            | inr p ↦ up_to_broken n r _ (other_stays r m bytes rest (λ q. p.0 (sym q ∙ marker_byte bytes 4 t (omega arith))) (omega (arith, w, p.1)) (omega (arith, w, p.1)))
          ])
      | inr t ↦ elim (record_case false r bytes) [
        | short long f b ↦ absurd (let w = one_answer _ k (length bytes) e (break_up_broken n r (length bytes) bytes t b) in omega arith)
        | other long d f b ↦
            (let w = one_answer _ k 4 e (break_up_broken n r 4 bytes t b) in
            up_to_broken n r _ (other_stays r m bytes rest d (omega arith) (omega arith)))
        | cut long d p f b ↦ absurd (let w = one_answer _ k (length bytes) e (break_up_broken n r (length bytes) bytes t b) in omega arith)
        | whole f b ↦
            (let v = map_some _ _ k (sym (break_up_stands n r bytes t b) ∙ e) in
            let sum : k ≡ record_length bytes + v.0 = v.2 in
            up_step_none n r m bytes rest small t f (omega (arith, sum))
            (up_stays n (suc r) v.0 (m - record_length bytes) (drop (record_length bytes) bytes) rest (bytes_behind (record_length bytes) bytes small) v.1
            (omega (arith, sum)) (omega (arith, sum, length-drop (record_length bytes) bytes))))
      ]
    ]
