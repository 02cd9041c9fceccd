-- What is read of a track on which the key and the data of one record were written.
use Rattle.std.proofs.Common.{◌≡◌, ◌<◌, ◌≤◌, ◌+◌, ◌-◌, ℕ, zero, suc, Bool, true, false, cond, IsTrue, List, [], ◌∷◌, ◌++◌, length, take, drop, get_or, Option, Some, None, refl, sym, ◌∙◌, ap, subst, arith, length-append, length-drop}
use Rattle.std.specs.Prelude.{slice_range, slice_index, slice_get, nat_le, ◌&&◌, ◌==◌}
use Rattle.std.specs.Option.{option_map}
use borrow.Author.Tests.{leb-true}
use Rattle.std.proofs.lemmas.List.{length-map, get_or_read, take_at, drop_at, drop-drop, take-take, drop-take, length-take-le}
use Rattle.ckd_image.specs.Track.{Record}
use Rattle.ckd_image.specs.Reading.{records_of, records_behind, records_up_to, records_to_end, is_front, is_at_end, is_record_at, front_record, record_length, key_length, data_length}
use Rattle.stop_model.specs.Files.{patched}
use Rattle.std.proofs.Math.Seq.{take-add}
use Rattle.track_records.specs.Buffers.{records_at, are_places, places_from, IsContentOf}
use Rattle.track_records.proofs.PlaceLemmas.{first_place}
use Rattle.track_records.proofs.StandLemmas.{at_places}
use Rattle.track_records.specs.Updates.{length_of, offset_of, with_parts, HasLengths, StandFrom}
use Rattle.track_records.proofs.PatchLemmas.{take-patched, drop-patched, drop-patched_behind, length-patched, range-patched, range_alike, index_alike, take_alike}

-- bytes that begin with the same eight begin with the same count
pub record SameCount (xs ys : List ℕ) : Type 0 where
  pub key_lengths : key_length xs ≡ key_length ys
  pub data_lengths : data_length xs ≡ data_length ys
  pub lengths : record_length xs ≡ record_length ys
  pub ends : is_at_end xs ≡ is_at_end ys
  pub addresses : take 4 xs ≡ take 4 ys

pub same_count : (xs ys : List ℕ) → take 8 xs ≡ take 8 ys → SameCount xs ys
same_count xs ys alike =
    let keys : key_length xs ≡ key_length ys = index_alike 8 5 xs ys (omega arith) alike in
    let ranges : slice_range xs 6 8 ≡ slice_range ys 6 8 = range_alike 8 6 8 xs ys (omega arith) alike in
    record {
      key_lengths = keys;
      data_lengths = rw ranges refl;
      lengths = rw (keys, ranges) refl;
      ends = rw alike refl;
      addresses = take_alike 8 4 xs ys (omega arith) alike;
    }

-- and, where they are as many, the same record stands there or none
pub same_stand : (r : ℕ) (xs ys : List ℕ) → take 8 xs ≡ take 8 ys → length xs ≡ length ys → is_record_at r xs ≡ is_record_at r ys
same_stand r xs ys alike sizes =
    let numbers : slice_index xs 4 ≡ slice_index ys 4 = index_alike 8 4 xs ys (omega arith) alike in
    rw ((same_count xs ys alike).lengths, numbers, sizes) refl

both_true : (b c : Bool) → (b && c) ≡ true → (b ≡ true) × (c ≡ true)
both_true true c is = (refl, is)
both_true false c is = cc

-- a record that stands there lies within the bytes
pub record_fits : (r : ℕ) (bytes : List ℕ) → is_record_at r bytes ≡ true → record_length bytes ≤ length bytes
record_fits r bytes stands = leb-true (record_length bytes) (length bytes) (both_true (nat_le 8 (length bytes) && (slice_index bytes 4 == r)) _ stands).1

-- and its parts have the lengths of its count
pub record PartLengths (bytes : List ℕ) : Type 0 where
  pub key : length (front_record bytes).key ≡ key_length bytes
  pub content : length (front_record bytes).data ≡ data_length bytes
  pub whole : length_of (front_record bytes) ≡ record_length bytes

pub part_lengths : (bytes : List ℕ) → record_length bytes ≤ length bytes → PartLengths bytes
part_lengths bytes fits =
    let keys : length (front_record bytes).key ≡ key_length bytes = length-take-le (8 + key_length bytes - 8) (drop 8 bytes) (omega (arith, length-drop 8 bytes)) ∙ omega arith in
    let contents : length (front_record bytes).data ≡ data_length bytes = length-take-le (record_length bytes - (8 + key_length bytes)) (drop (8 + key_length bytes) bytes) (omega (arith, length-drop (8 + key_length bytes) bytes)) ∙ omega arith in
    record { key = keys; content = contents; whole = omega arith }

-- bytes that begin with the same record
pub same_front : (xs ys : List ℕ) → take (record_length ys) xs ≡ take (record_length ys) ys → front_record xs ≡ front_record ys
same_front xs ys alike =
    let count = same_count xs ys (take_alike (record_length ys) 8 xs ys (omega arith) alike) in
    let keys : slice_range xs 8 (8 + key_length ys) ≡ slice_range ys 8 (8 + key_length ys) = range_alike (record_length ys) 8 (8 + key_length ys) xs ys (omega arith) alike in
    let contents : slice_range xs (8 + key_length ys) (record_length ys) ≡ slice_range ys (8 + key_length ys) (record_length ys) = range_alike (record_length ys) (8 + key_length ys) (record_length ys) xs ys (omega arith) alike in
    rw (count.key_lengths, count.data_lengths, count.addresses, keys, contents) refl

-- the first record, of which key and data were written
record FirstWritten (bytes key content written : List ℕ) : Type 0 where
  count : SameCount written bytes
  size : length written ≡ length bytes
  parts : front_record written ≡ record (front_record bytes) { key = key; «data» = content }
  rest : drop (record_length written) written ≡ drop (record_length bytes) bytes
  alike : take 8 written ≡ take 8 bytes

first_written : (bytes key content : List ℕ) → record_length bytes ≤ length bytes → length key ≡ key_length bytes → length content ≡ data_length bytes → FirstWritten bytes key content (patched bytes 8 (key ++ content))
first_written bytes key content fits keys contents =
    let new : List ℕ = key ++ content in
    let zs : List ℕ = patched bytes 8 new in
    let size : length new ≡ length key + length content = length-append key content in
    let eight : 8 ≤ length bytes = omega arith in
    let alike : take 8 zs ≡ take 8 bytes = take-patched bytes new 8 8 (omega arith) eight in
    let count = same_count zs bytes alike in
    let range : take (length new) (drop 8 zs) ≡ new = range-patched bytes new 8 eight in
    let short : 8 + key_length bytes - 8 ≡ length key = omega arith in
    let rest : record_length bytes - (8 + key_length bytes) ≡ length content = omega arith in
    let front : slice_range zs 8 (8 + key_length bytes) ≡ key = ap (λ (n : ℕ). take n (drop 8 zs)) short ∙ sym (take-take (length key) (length new) (drop 8 zs) (omega arith)) ∙ ap (take (length key)) range ∙ take_at key content (length key) refl in
    let start : 8 + key_length bytes ≡ 8 + length key = omega arith in
    let back : slice_range zs (8 + key_length bytes) (record_length bytes) ≡ content =
    ap (λ (n : ℕ). take n (drop (8 + key_length bytes) zs)) rest
    ∙ ap (λ (n : ℕ). take (length content) (drop n zs)) start
    ∙ ap (take (length content)) (sym (drop-drop (length key) 8 zs))
    ∙ sym (drop-take (length key) (length content) (drop 8 zs))
    ∙ ap (λ (n : ℕ). drop (length key) (take n (drop 8 zs))) (sym size)
    ∙ ap (drop (length key)) range
    ∙ drop_at key content (length key) refl
    in
    record {
      count = count;
      size = length-patched bytes new 8 (omega arith);
      parts = rw (count.key_lengths, count.data_lengths, count.addresses, front, back) refl;
      rest = ap (λ (n : ℕ). drop n zs) count.lengths ∙ drop-patched_behind bytes new (record_length bytes) 8 (omega arith) eight;
      alike = alike;
    }

-- where the k-th of the records that stand there is written over, it ends within the bytes
pub written_inside : (r k : ℕ) (bytes key content : List ℕ) (xs : List Record) → StandFrom r bytes xs → HasLengths xs k (length key) (length content) → offset_of xs k + 8 + length (key ++ content) ≤ length bytes
written_inside r k bytes key content [] stand has = absurd has
written_inside r zero bytes key content (x ∷ xs) stand has =
    let fits = record_fits r bytes stand.0 in
    let lengths = part_lengths bytes fits in
    omega (arith, length-append key content, has.0, has.1, ap (λ (y : Record). length y.key) stand.1.0, ap (λ (y : Record). length y.data) stand.1.0, lengths.key, lengths.content)
written_inside r (suc k) bytes key content (x ∷ xs) stand has =
    let fits = record_fits r bytes stand.0 in
    let later = written_inside (suc r) k (drop (record_length bytes) bytes) key content xs stand.1.1 has in
    let first : length_of x ≡ record_length bytes = ap length_of stand.1.0 ∙ (part_lengths bytes fits).whole in
    omega (arith, later, first, length-drop (record_length bytes) bytes)

-- a record after the first was written over
record LaterWritten (r k : ℕ) (bytes key content : List ℕ) (xs : List Record) (written : List ℕ) : Type 0 where
  ends : is_at_end written ≡ is_at_end bytes
  stands : is_record_at r written ≡ is_record_at r bytes
  front : front_record written ≡ front_record bytes
  rest : drop (record_length written) written ≡ patched (drop (record_length bytes) bytes) (offset_of xs k + 8) (key ++ content)
  size : length written ≡ length bytes

later_written : (r k : ℕ) (bytes key content : List ℕ) (x : Record) (xs : List Record) → StandFrom r bytes (x ∷ xs) → HasLengths xs k (length key) (length content) → LaterWritten r k bytes key content xs (patched bytes (length_of x + offset_of xs k + 8) (key ++ content))
later_written r k bytes key content x xs stand has =
    let fits = record_fits r bytes stand.0 in
    let first : length_of x ≡ record_length bytes = ap length_of stand.1.0 ∙ (part_lengths bytes fits).whole in
    let inside = written_inside r (suc k) bytes key content (x ∷ xs) stand has in
    let place : length_of x + offset_of xs k + 8 ≡ record_length bytes + (offset_of xs k + 8) = omega (arith, first) in
    let zs : List ℕ = patched bytes (length_of x + offset_of xs k + 8) (key ++ content) in
    let alike : take (record_length bytes) zs ≡ take (record_length bytes) bytes = take-patched bytes (key ++ content) (record_length bytes) _ (omega (arith, first)) (omega (arith, inside)) in
    let eight : take 8 zs ≡ take 8 bytes = take_alike (record_length bytes) 8 zs bytes (omega arith) alike in
    let size : length zs ≡ length bytes = length-patched bytes (key ++ content) _ inside in
    let count = same_count zs bytes eight in
    record {
      ends = count.ends;
      stands = same_stand r zs bytes eight size;
      front = same_front zs bytes alike;
      rest = ap (λ (n : ℕ). drop n zs) count.lengths ∙ ap (λ (n : ℕ). drop (record_length bytes) (patched bytes n (key ++ content))) place ∙ drop-patched bytes (key ++ content) (record_length bytes) (offset_of xs k + 8) (omega (arith, inside, first));
      size = size;
    }

mapped_twice : (f g : List Record → List Record) (m : Option (List Record)) → ((l : List Record) → f l ≡ g l) → option_map f m ≡ option_map g m
mapped_twice f g None same = refl
mapped_twice f g (Some l) same = ap (λ (x : List Record). Some x) (same l)

mapped_after : (f g : List Record → List Record) (m : Option (List Record)) → option_map f (option_map g m) ≡ option_map (λ l. f (g l)) m
mapped_after f g None = refl
mapped_after f g (Some l) = refl

-- the records up to the end marker, of which the k-th was written over
pub to_end_written : (left r k : ℕ) (bytes key content : List ℕ) (xs : List Record) → StandFrom r bytes xs → HasLengths xs k (length key) (length content)
    → records_to_end left r (patched bytes (offset_of xs k + 8) (key ++ content)) ≡ option_map (with_parts k key content) (records_to_end left r bytes)
unfolding records_to_end
to_end_written left r k bytes key content [] stand has = absurd has
to_end_written zero r zero bytes key content (x ∷ xs) stand has =
    let fits = record_fits r bytes stand.0 in
    let lengths = part_lengths bytes fits in
    let w = first_written bytes key content fits (has.0 ∙ ap (λ (y : Record). length y.key) stand.1.0 ∙ lengths.key) (has.1 ∙ ap (λ (y : Record). length y.data) stand.1.0 ∙ lengths.content) in
    rw w.count.ends (none (is_at_end bytes))
  where
    none : (b : Bool) → cond b (Some []) None ≡ option_map (with_parts 0 key content) (cond b (Some []) None)
    none true = refl
    none false = refl
to_end_written zero r (suc k) bytes key content (x ∷ xs) stand has =
    rw (later_written r k bytes key content x xs stand has).ends (none (is_at_end bytes))
  where
    none : (b : Bool) → cond b (Some []) None ≡ option_map (with_parts (suc k) key content) (cond b (Some []) None)
    none true = refl
    none false = refl
to_end_written (suc left) r zero bytes key content (x ∷ xs) stand has =
    let fits = record_fits r bytes stand.0 in
    let lengths = part_lengths bytes fits in
    let w = first_written bytes key content fits (has.0 ∙ ap (λ (y : Record). length y.key) stand.1.0 ∙ lengths.key) (has.1 ∙ ap (λ (y : Record). length y.data) stand.1.0 ∙ lengths.content) in
    rw (w.count.ends, same_stand r _ bytes w.alike w.size, w.parts, w.rest) (first (is_at_end bytes) (is_record_at r bytes) (records_to_end left (suc r) (drop (record_length bytes) bytes)))
  where
    first : (b c : Bool) (m : Option (List Record)) → cond b (Some []) (cond c (option_map (λ l. record (front_record bytes) { key = key; «data» = content } ∷ l) m) None) ≡ option_map (with_parts 0 key content) (cond b (Some []) (cond c (option_map (λ l. front_record bytes ∷ l) m) None))
    first true c m = refl
    first false true m = sym (mapped_after (with_parts 0 key content) (λ l. front_record bytes ∷ l) m)
    first false false m = refl
to_end_written (suc left) r (suc k) bytes key content (x ∷ xs) stand has =
    let w = later_written r k bytes key content x xs stand has in
    rw (w.ends, w.stands, w.front, w.rest, to_end_written left (suc r) k (drop (record_length bytes) bytes) key content xs stand.1.1 has) (later (is_at_end bytes) (is_record_at r bytes) (records_to_end left (suc r) (drop (record_length bytes) bytes)))
  where
    later : (b c : Bool) (m : Option (List Record)) → cond b (Some []) (cond c (option_map (λ l. front_record bytes ∷ l) (option_map (with_parts k key content) m)) None) ≡ option_map (with_parts (suc k) key content) (cond b (Some []) (cond c (option_map (λ l. front_record bytes ∷ l) m) None))
    later true c m = refl
    later false true m = mapped_after (λ l. front_record bytes ∷ l) (with_parts k key content) m ∙ sym (mapped_after (with_parts (suc k) key content) (λ l. front_record bytes ∷ l) m)
    later false false m = refl

-- the same, up to a record
pub up_to_written : (left r k : ℕ) (bytes key content : List ℕ) (xs : List Record) → StandFrom r bytes xs → HasLengths xs k (length key) (length content)
    → records_up_to left r (patched bytes (offset_of xs k + 8) (key ++ content)) ≡ option_map (with_parts k key content) (records_up_to left r bytes)
unfolding records_up_to
up_to_written left r k bytes key content [] stand has = absurd has
up_to_written zero r k bytes key content (x ∷ xs) stand has =
    rw (length-patched bytes (key ++ content) (offset_of (x ∷ xs) k + 8) (written_inside r k bytes key content (x ∷ xs) stand has)) (none (nat_le 8 (length bytes)))
  where
    none : (b : Bool) → cond b (Some []) None ≡ option_map (with_parts k key content) (cond b (Some []) None)
    none true = refl
    none false = refl
up_to_written (suc left) r zero bytes key content (x ∷ xs) stand has =
    let fits = record_fits r bytes stand.0 in
    let lengths = part_lengths bytes fits in
    let w = first_written bytes key content fits (has.0 ∙ ap (λ (y : Record). length y.key) stand.1.0 ∙ lengths.key) (has.1 ∙ ap (λ (y : Record). length y.data) stand.1.0 ∙ lengths.content) in
    rw (w.count.ends, same_stand r _ bytes w.alike w.size, w.parts, w.rest) (first (is_at_end bytes) (is_record_at r bytes) (records_up_to left (suc r) (drop (record_length bytes) bytes)))
  where
    first : (b c : Bool) (m : Option (List Record)) → cond b None (cond c (option_map (λ l. record (front_record bytes) { key = key; «data» = content } ∷ l) m) None) ≡ option_map (with_parts 0 key content) (cond b None (cond c (option_map (λ l. front_record bytes ∷ l) m) None))
    first true c m = refl
    first false true m = sym (mapped_after (with_parts 0 key content) (λ l. front_record bytes ∷ l) m)
    first false false m = refl
up_to_written (suc left) r (suc k) bytes key content (x ∷ xs) stand has =
    let w = later_written r k bytes key content x xs stand has in
    rw (w.ends, w.stands, w.front, w.rest, up_to_written left (suc r) k (drop (record_length bytes) bytes) key content xs stand.1.1 has) (later (is_at_end bytes) (is_record_at r bytes) (records_up_to left (suc r) (drop (record_length bytes) bytes)))
  where
    later : (b c : Bool) (m : Option (List Record)) → cond b None (cond c (option_map (λ l. front_record bytes ∷ l) (option_map (with_parts k key content) m)) None) ≡ option_map (with_parts (suc k) key content) (cond b None (cond c (option_map (λ l. front_record bytes ∷ l) m) None))
    later true c m = refl
    later false true m = mapped_after (λ l. front_record bytes ∷ l) (with_parts k key content) m ∙ sym (mapped_after (with_parts (suc k) key content) (λ l. front_record bytes ∷ l) m)
    later false false m = refl

-- the records of a track, of which the k-th was written over
pub track_written : (c h k : ℕ) (upto : Option ℕ) (bytes key content : List ℕ) (xs : List Record) → 21 ≤ length bytes → StandFrom 1 (drop 21 bytes) xs → HasLengths xs k (length key) (length content)
    → records_of c h upto (patched bytes (21 + (offset_of xs k + 8)) (key ++ content)) ≡ option_map (with_parts k key content) (records_of c h upto bytes)
unfolding records_of is_front
track_written c h k upto bytes key content xs long stand has =
    let inside = written_inside 1 k (drop 21 bytes) key content xs stand has in
    let fits : 21 + (offset_of xs k + 8) + length (key ++ content) ≤ length bytes = omega (arith, inside, length-drop 21 bytes) in
    let zs : List ℕ = patched bytes (21 + (offset_of xs k + 8)) (key ++ content) in
    let alike : take 21 zs ≡ take 21 bytes = take-patched bytes (key ++ content) 21 _ (omega arith) (omega arith) in
    let size : length zs ≡ length bytes = length-patched bytes (key ++ content) _ fits in
    let behind : drop 21 zs ≡ patched (drop 21 bytes) (offset_of xs k + 8) (key ++ content) = drop-patched bytes (key ++ content) 21 (offset_of xs k + 8) (omega arith) in
    let homes : slice_range zs 1 5 ≡ slice_range bytes 1 5 = range_alike 21 1 5 zs bytes (omega arith) alike in
    let counts : slice_range zs 9 13 ≡ slice_range bytes 9 13 = range_alike 21 9 13 zs bytes (omega arith) alike in
    rw (size, homes, counts, behind) (by_front (is_front c h bytes) upto)
  where
    by_front : (b : Bool) (u : Option ℕ) → cond b (records_behind u (patched (drop 21 bytes) (offset_of xs k + 8) (key ++ content))) None ≡ option_map (with_parts k key content) (cond b (records_behind u (drop 21 bytes)) None)
    by_front true None = to_end_written 255 1 k (drop 21 bytes) key content xs stand has
    by_front true (Some r) = up_to_written r 1 k (drop 21 bytes) key content xs stand has
    by_front false u = refl

-- the records stand as before, the k-th with its new key and data
pub stand_written : (r k : ℕ) (bytes key content : List ℕ) (xs : List Record) → StandFrom r bytes xs → HasLengths xs k (length key) (length content) → StandFrom r (patched bytes (offset_of xs k + 8) (key ++ content)) (with_parts k key content xs)
stand_written r k bytes key content [] stand has = absurd has
stand_written r zero bytes key content (x ∷ xs) stand has =
    let fits = record_fits r bytes stand.0 in
    let lengths = part_lengths bytes fits in
    let w = first_written bytes key content fits (has.0 ∙ ap (λ (y : Record). length y.key) stand.1.0 ∙ lengths.key) (has.1 ∙ ap (λ (y : Record). length y.data) stand.1.0 ∙ lengths.content) in (
      same_stand r _ bytes w.alike w.size ∙ stand.0,
      (
        ap (λ (y : Record). let z : Record = record y { key = key; «data» = content } in z) stand.1.0 ∙ sym w.parts,
        subst (λ (b : List ℕ). StandFrom (suc r) b xs) (sym w.rest) stand.1.1,
      ),
    )
stand_written r (suc k) bytes key content (x ∷ xs) stand has =
    let w = later_written r k bytes key content x xs stand has in (
      w.stands ∙ stand.0,
      (
        stand.1.0 ∙ sym w.front,
        subst (λ (b : List ℕ). StandFrom (suc r) b (with_parts k key content xs)) (sym w.rest) (stand_written (suc r) k (drop (record_length bytes) bytes) key content xs stand.1.1 has),
      ),
    )

-- the places of records of these lengths, the first of which has this one
abbrev pub places_by : ℕ → List Record → List ℕ
places_by at [] = []
places_by at (x ∷ xs) = at ∷ places_by (at + length_of x) xs

pub places_stand : (r at : ℕ) (bytes : List ℕ) (xs : List Record) → StandFrom r (drop at bytes) xs → places_from at (length xs) bytes ≡ places_by at xs
places_stand r at bytes [] stand = refl
places_stand r at bytes (x ∷ xs) stand =
    let first : length_of x ≡ record_length (drop at bytes) = ap length_of stand.1.0 ∙ (part_lengths (drop at bytes) (record_fits r (drop at bytes) stand.0)).whole in
    let behind : drop (record_length (drop at bytes)) (drop at bytes) ≡ drop (at + record_length (drop at bytes)) bytes = drop-drop (record_length (drop at bytes)) at bytes in
    ap (λ (ps : List ℕ). at ∷ ps) (places_stand (suc r) (at + record_length (drop at bytes)) bytes xs (subst (λ (b : List ℕ). StandFrom (suc r) b xs) behind stand.1.1) ∙ ap (λ (n : ℕ). places_by (at + n) xs) (sym first))

same_places : (k at : ℕ) (key content : List ℕ) (xs : List Record) → HasLengths xs k (length key) (length content) → places_by at (with_parts k key content xs) ≡ places_by at xs
same_places k at key content [] has = absurd has
same_places zero at key content (x ∷ xs) has = let same : length_of (record x { key = key; «data» = content }) ≡ length_of x = rw (has.0, has.1) refl in ap (λ (n : ℕ). at ∷ places_by (at + n) xs) same
same_places (suc k) at key content (x ∷ xs) has = ap (λ (ps : List ℕ). at ∷ ps) (same_places k (at + length_of x) key content xs has)

same_number : (k : ℕ) (key content : List ℕ) (xs : List Record) → length (with_parts k key content xs) ≡ length xs
same_number k key content [] = refl
same_number zero key content (x ∷ xs) = refl
same_number (suc k) key content (x ∷ xs) = ap suc (same_number k key content xs)

-- the k-th record stands at the k-th place
pub place_there : (k at : ℕ) (xs : List Record) → k < length xs → get_or (places_by at xs) k 0 ≡ at + offset_of xs k
place_there k at [] low = absurd (omega arith)
place_there zero at (x ∷ xs) low = omega arith
place_there (suc k) at (x ∷ xs) low = place_there k (at + length_of x) xs (omega arith) ∙ omega arith

pub places_are : (r at : ℕ) (bytes ps : List ℕ) → IsTrue (are_places r at bytes ps) → StandFrom r (drop at bytes) (records_at bytes ps) × (ps ≡ places_by at (records_at bytes ps))
places_are r at bytes [] are = (tt, refl)
places_are r at bytes (p ∷ ps) are =
    let first = first_place r at bytes p ps are in
    let later = places_are (suc r) (at + record_length (drop at bytes)) bytes ps first.others in
    let behind : drop (record_length (drop at bytes)) (drop at bytes) ≡ drop (at + record_length (drop at bytes)) bytes = drop-drop (record_length (drop at bytes)) at bytes in
    let whole : length_of (front_record (drop at bytes)) ≡ record_length (drop at bytes) = (part_lengths (drop at bytes) (record_fits r (drop at bytes) first.stands)).whole in
    let here : front_record (drop p bytes) ≡ front_record (drop at bytes) = ap (λ (n : ℕ). front_record (drop n bytes)) first.here in (
      (first.stands, (here, subst (λ (b : List ℕ). StandFrom (suc r) b (records_at bytes ps)) (sym behind) later.0)),
      ap (λ (n : ℕ). n ∷ ps) first.here
          ∙ ap (λ (qs : List ℕ). at ∷ qs) (later.1 ∙ ap (λ (n : ℕ). places_by (at + n) (records_at bytes ps)) (sym whole))
          ∙ ap (λ (y : Record). at ∷ places_by (at + length_of y) (records_at bytes ps)) (sym here),
    )

-- A buffer of a track, of which the k-th record was written over: the records stand at the same places.
pub record BufferWritten (bytes ps : List ℕ) (k place : ℕ) (key content written : List ℕ) : Type 0 where
  pub place_is : place ≡ 21 + offset_of (records_at bytes ps) k
  pub inside : place + 8 + length (key ++ content) ≤ length bytes
  pub are : IsTrue (are_places 1 21 written ps)
  pub records : records_at written ps ≡ with_parts k key content (records_at bytes ps)

pub buffer_written : (bytes ps : List ℕ) (k place : ℕ) (key content : List ℕ) → IsTrue (are_places 1 21 bytes ps) → HasLengths (records_at bytes ps) k (length key) (length content) → k < length ps → place ≡ get_or ps k place
    → BufferWritten bytes ps k place key content (patched bytes (place + 8) (key ++ content))
buffer_written bytes ps k place key content are has low read =
    let xs : List Record = records_at bytes ps in
    let placed = places_are 1 21 bytes ps are in
    let number : length xs ≡ length ps = length-map ps (λ at. front_record (drop at bytes)) in
    let is : place ≡ 21 + offset_of xs k = get_or_read ps k place low read 0 ∙ ap (λ (qs : List ℕ). get_or qs k 0) placed.1 ∙ place_there k 21 xs (omega arith) in
    let inside : offset_of xs k + 8 + length (key ++ content) ≤ length (drop 21 bytes) = written_inside 1 k (drop 21 bytes) key content xs placed.0 has in
    let fits : place + 8 + length (key ++ content) ≤ length bytes = omega (arith, inside, length-drop 21 bytes) in
    let zs : List ℕ = patched bytes (place + 8) (key ++ content) in
    let at : place + 8 ≡ 21 + (offset_of xs k + 8) = omega arith in
    let behind : drop 21 zs ≡ patched (drop 21 bytes) (offset_of xs k + 8) (key ++ content) =
    ap (λ (n : ℕ). drop 21 (patched bytes n (key ++ content))) at ∙ drop-patched bytes (key ++ content) 21 (offset_of xs k + 8) (omega (arith, fits)) in
    let ys : List Record = with_parts k key content xs in
    let stand : StandFrom 1 (drop 21 zs) ys = subst (λ (b : List ℕ). StandFrom 1 b ys) (sym behind) (stand_written 1 k (drop 21 bytes) key content xs placed.0 has) in
    let walked = at_places 1 21 zs ys stand in
    let same : places_from 21 (length ys) zs ≡ ps = places_stand 1 21 zs ys stand ∙ same_places k 21 key content xs has ∙ sym placed.1 in
    record {
      place_is = is;
      inside = fits;
      are = subst (λ (qs : List ℕ). IsTrue (are_places 1 21 zs qs)) same walked.are;
      records = sym (ap (λ (qs : List ℕ). records_at zs qs) same) ∙ walked.is;
    }

-- key and data of the record at a place stand one after the other
pub content_there : (m : Option Record) (bytes slice key content : List ℕ) (r : ℕ) → m ≡ Some (front_record bytes) → is_record_at r bytes ≡ true → slice ≡ bytes → key ≡ (front_record bytes).key → content ≡ (front_record bytes).data
    → IsContentOf m (take (8 + length key + length content - 8) (drop 8 slice))
content_there m bytes slice key content r is stands same keys contents =
    let fits = record_fits r bytes stands in
    let lengths = part_lengths bytes fits in
    let whole : length key + length content ≡ key_length bytes + data_length bytes = omega (arith, ap length keys, ap length contents, lengths.key, lengths.content) in
    let cut : 8 + length key + length content - 8 ≡ key_length bytes + data_length bytes = omega (arith, whole) in
    let first : slice_range bytes 8 (8 + key_length bytes) ≡ take (key_length bytes) (drop 8 bytes) = let n : 8 + key_length bytes - 8 ≡ key_length bytes = omega arith in ap (λ (k : ℕ). take k (drop 8 bytes)) n in
    let second : slice_range bytes (8 + key_length bytes) (record_length bytes) ≡ take (data_length bytes) (drop (key_length bytes) (drop 8 bytes)) =
    let n : record_length bytes - (8 + key_length bytes) ≡ data_length bytes = omega arith in
    ap (λ (k : ℕ). take k (drop (8 + key_length bytes) bytes)) n ∙ ap (take (data_length bytes)) (sym (drop-drop (key_length bytes) 8 bytes))
    in
    let parts : take (key_length bytes + data_length bytes) (drop 8 bytes) ≡ (front_record bytes).key ++ (front_record bytes).data = take-add (key_length bytes) (data_length bytes) (drop 8 bytes) ∙ sym (ap (λ (k : List ℕ). k ++ (front_record bytes).data) first ∙ ap (λ (d : List ℕ). take (key_length bytes) (drop 8 bytes) ++ d) second) in
    subst (λ (o : Option Record). IsContentOf o (take (8 + length key + length content - 8) (drop 8 slice))) (sym is)
    (ap (λ (n : ℕ). take n (drop 8 slice)) cut ∙ ap (λ (b : List ℕ). take (key_length bytes + data_length bytes) (drop 8 b)) same ∙ parts)

-- a record of these lengths is there
pub lengths_there : (xs : List Record) (k key_length data_length : ℕ) → HasLengths xs k key_length data_length → k < length xs
lengths_there [] k key_length data_length has = absurd has
lengths_there (x ∷ xs) zero key_length data_length has = omega arith
lengths_there (x ∷ xs) (suc k) key_length data_length has = let below = lengths_there xs k key_length data_length has in omega arith

-- what stands in the k-th record then
pub content_written : (xs : List Record) (k : ℕ) (key content bytes : List ℕ) → k < length xs → IsContentOf (slice_get (with_parts k key content xs) k) bytes → bytes ≡ key ++ content
content_written [] k key content bytes low is = absurd (omega arith)
content_written (x ∷ xs) zero key content bytes low is = is
content_written (x ∷ xs) (suc k) key content bytes low is = content_written xs k key content bytes (omega arith) is

pub length-with_parts : (k : ℕ) (key content : List ℕ) (xs : List Record) → length (with_parts k key content xs) ≡ length xs
length-with_parts k key content xs = same_number k key content xs

-- a key and data that are as long as those of a record that is there
pub has_lengths : (xs : List Record) (k : ℕ) (key content : List ℕ) (keys contents : ℕ) → option_map (λ (x : Record). x.key) (slice_get xs k) ≡ Some key → option_map (λ (x : Record). x.data) (slice_get xs k) ≡ Some content
    → keys ≡ length key → contents ≡ length content → HasLengths xs k keys contents
has_lengths [] k key content keys contents is are key_is content_is = cc
has_lengths (x ∷ xs) zero key content keys contents is are key_is content_is = (key_is ∙ ap length (sym (some_same is)), content_is ∙ ap length (sym (some_same are)))
  where
    some_same : {a b : List ℕ} → Some a ≡ Some b → a ≡ b
    some_same same = cc
has_lengths (x ∷ xs) (suc k) key content keys contents is are key_is content_is = has_lengths xs k key content keys contents is are key_is content_is
