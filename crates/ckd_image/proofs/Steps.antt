-- The walk over records, a record at a time.
use Rattle.std.proofs.Common.{◌≡◌, ◌+◌, ◌-◌, ◌*◌, ◌<◌, ◌≤◌, ℕ, suc, true, false, List, [], ◌∷◌, length, drop, Option, Some, None, Ok, Err, refl, ap, ◌∙◌, arith}
use Rattle.std.proofs.lemmas.List.{drop-drop, length-drop}
use Rattle.std.specs.Option.{option_map}
use Rattle.ckd_image.specs.Track.{Record}
use Rattle.ckd_image.specs.Reading.{is_at_end, record_length, is_record_at, records_to_end, records_up_to}
use Rattle.ckd_image.specs.Walk.{IsReadingOf}
use Rattle.ckd_image.specs.Break.{record_break, break_to_end, break_up_to}
use Rattle.ckd_image.proofs.Counts.{option_map-zero, option_map-add}
use Rattle.ckd_image.proofs.GrammarFront.{map_none}
use Rattle.ckd_image.proofs.GrammarWalk.{break_end_stands, to_end_stands, break_up_stands, up_to_stands}

-- n records of `at` bytes were passed: the whole breaks where what is left does, and has n records more
pub record Passed (n at : ℕ) (whole left : Option ℕ) (records rest : Option (List Record)) : Type 0 where
  pub breaks : whole ≡ option_map (λ k. at + k) left
  pub counts : option_map length records ≡ option_map (λ m. n + m) (option_map length rest)

-- none were passed yet
pub Passed-none : (whole : Option ℕ) (records : Option (List Record)) → Passed 0 0 whole whole records records
Passed-none whole records = record { breaks = option_map-zero whole; counts = option_map-zero (option_map length records) }

-- some, and then some more
pub Passed-then : {n at m by : ℕ} {whole left last : Option ℕ} {records rest end : Option (List Record)} → Passed n at whole left records rest → Passed m by left last rest end → Passed (n + m) (at + by) whole last records end
Passed-then {n} {at} {m} {by} {whole} {left} {last} {records} {rest} {end} p q = record {
  breaks = p.breaks ∙ ap (option_map (λ k. at + k)) q.breaks ∙ option_map-add at by last;
  counts = p.counts ∙ ap (option_map (λ k. n + k)) q.counts ∙ option_map-add n m (option_map length end);
}

-- one more element
option_map-cons : (x : Record) (o : Option (List Record)) → option_map length (option_map (λ xs. x ∷ xs) o) ≡ option_map (λ m. 1 + m) (option_map length o)
option_map-cons x None = refl
option_map-cons x (Some xs) = let e : suc (length xs) ≡ 1 + length xs = omega arith in ap Some e

-- what is left is read to its end: nothing more is there
pub Passed-ok : {n at : ℕ} {whole left : Option ℕ} {records rest : Option (List Record)} → Passed n at whole left records rest → left ≡ None → rest ≡ Some [] → IsReadingOf whole records (Ok n)
Passed-ok {n} {at} p l r =
    let z : n + 0 ≡ n = omega arith in
    (p.breaks ∙ ap (option_map (λ k. at + k)) l, p.counts ∙ ap (λ o. option_map (λ m. n + m) (option_map length o)) r ∙ ap Some z)

-- what is left breaks
pub Passed-err : {n at k : ℕ} {whole left : Option ℕ} {records rest : Option (List Record)} → Passed n at whole left records rest → left ≡ Some k → rest ≡ None → IsReadingOf whole records (Err (at + k))
Passed-err {n} {at} {records = records} p l r =
    (p.breaks ∙ ap (option_map (λ k. at + k)) l, map_none length records (p.counts ∙ ap (λ o. option_map (λ m. n + m) (option_map length o)) r))

-- n records of `at` bytes were passed by a reading of at most so many, which goes down them and up R
abbrev pub PassedBy : (ℕ → ℕ → List ℕ → Option ℕ) → (ℕ → ℕ → List ℕ → Option (List Record)) → ℕ → ℕ → ℕ → List ℕ → Type 0
PassedBy break records most n at bytes =
    Passed n at (break most 1 bytes) (break (most - n) (n + 1) (drop at bytes)) (records most 1 bytes) (records (most - n) (n + 1) (drop at bytes))

-- the reading has just begun
pub PassedBy-none : (break : ℕ → ℕ → List ℕ → Option ℕ) (records : ℕ → ℕ → List ℕ → Option (List Record)) (most : ℕ) (bytes : List ℕ) → PassedBy break records most 0 0 bytes
PassedBy-none break records most bytes =
    let e : most - 0 ≡ most = omega arith in
    let P : ℕ → ℕ → Type 0 = λ m r. Passed 0 0 (break most 1 bytes) (break m r bytes) (records most 1 bytes) (records m r bytes) in
    let f : 0 + 1 ≡ 1 = omega arith in
    rw e (Passed-none (break most 1 bytes) (records most 1 bytes))

-- the reading passes a record
pub PassedBy-more : (break : ℕ → ℕ → List ℕ → Option ℕ) (records : ℕ → ℕ → List ℕ → Option (List Record)) (most n at len : ℕ) (bytes : List ℕ) → n < most → PassedBy break records most n at bytes → ((left : ℕ) → Passed 1 len (break (suc left) (n + 1) (drop at bytes)) (break left (suc (n + 1)) (drop len (drop at bytes))) (records (suc left) (n + 1) (drop at bytes)) (records left (suc (n + 1)) (drop len (drop at bytes)))) → PassedBy break records most (n + 1) (at + len) bytes
PassedBy-more break records most n at len bytes h p q =
    let e : suc (most - (n + 1)) ≡ most - n = omega arith in
    let f : suc (n + 1) ≡ n + 1 + 1 = omega arith in
    let step = rw (e, f, drop-drop len at bytes) at (q (most - (n + 1))) in
    Passed-then p step

-- where a reading stands after n records: within the bytes, and no further than those records reach
pub record StandsAt (break : ℕ → ℕ → List ℕ → Option ℕ) (records : ℕ → ℕ → List ℕ → Option (List Record)) (most n at : ℕ) (bytes : List ℕ) : Type 0 where
  pub inside : at ≤ length bytes
  pub bound : at ≤ n * 65798
  pub reading : PassedBy break records most n at bytes

-- it passes a record
pub StandsAt-more : (break : ℕ → ℕ → List ℕ → Option ℕ) (records : ℕ → ℕ → List ℕ → Option (List Record)) (most n at len : ℕ) (bytes : List ℕ) → n < most → StandsAt break records most n at bytes → len ≤ length (drop at bytes) → len ≤ 65798 → ((left : ℕ) → Passed 1 len (break (suc left) (n + 1) (drop at bytes)) (break left (suc (n + 1)) (drop len (drop at bytes))) (records (suc left) (n + 1) (drop at bytes)) (records left (suc (n + 1)) (drop len (drop at bytes)))) → StandsAt break records most (n + 1) (at + len) bytes
StandsAt-more break records most n at len bytes low was inside short step = record {
  inside = omega (arith, length-drop at bytes, was.inside);
  bound = omega (arith, was.bound);
  reading = PassedBy-more break records most n at len bytes low was.reading step;
}

-- Rr stands whole in front of what is left, to the end marker
pub to_end-record : (left r : ℕ) (bytes : List ℕ) → is_at_end bytes ≡ false → record_break true r bytes ≡ None → is_record_at r bytes ≡ true → Passed 1 (record_length bytes) (break_to_end (suc left) r bytes) (break_to_end left (suc r) (drop (record_length bytes) bytes)) (records_to_end (suc left) r bytes) (records_to_end left (suc r) (drop (record_length bytes) bytes))
to_end-record left r bytes e b i = record {
  breaks = break_end_stands left r bytes e b;
  counts = ap (option_map length) (to_end_stands left r bytes e i) ∙ option_map-cons _ _;
}

-- Rr stands whole in front of what is left, up to a record
pub up_to-record : (left r : ℕ) (bytes : List ℕ) → is_at_end bytes ≡ false → record_break false r bytes ≡ None → is_record_at r bytes ≡ true → Passed 1 (record_length bytes) (break_up_to (suc left) r bytes) (break_up_to left (suc r) (drop (record_length bytes) bytes)) (records_up_to (suc left) r bytes) (records_up_to left (suc r) (drop (record_length bytes) bytes))
up_to-record left r bytes e b i = record {
  breaks = break_up_stands left r bytes e b;
  counts = ap (option_map length) (up_to_stands left r bytes e i) ∙ option_map-cons _ _;
}
