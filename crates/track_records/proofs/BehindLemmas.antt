-- What is read of a track on which records and an end marker were written after those that stand there.
use Rattle.std.proofs.Common.{◌≡◌, ◌≤◌, ◌+◌, ◌-◌, ℕ, zero, suc, Bool, true, false, cond, List, [], ◌∷◌, ◌++◌, length, take, drop, Option, Some, None, refl, sym, ◌∙◌, ap, subst, arith, length-append, length-drop, append_assoc}
use Rattle.std.specs.Prelude.{slice_range, nat_le}
use Rattle.std.specs.Option.{option_map}
use Rattle.std.proofs.lemmas.List.{drop-drop, drop-take, drop_at, length-take-le}
use Rattle.ckd_image.specs.Track.{Record, AreRecords, end_marker, record_bytes, records_bytes}
use Rattle.ckd_image.specs.Reading.{records_of, records_behind, records_up_to, records_to_end, is_front, is_at_end, is_record_at, front_record, record_length}
use Rattle.ckd_image.proofs.GrammarRecord.{record_reads}
use Rattle.ckd_image.proofs.GrammarWalk.{to_end_ended, to_end_stands, up_to_zero, up_to_stands}
use Rattle.ckd_image.proofs.Grammar.{step_end, marker_ends, read_past, reads_front}
use Rattle.stop_model.specs.Files.{patched}
use Rattle.track_records.specs.Updates.{length_of, offset_of, StandFrom}
use Rattle.track_records.proofs.PatchLemmas.{take-patched, length-patched, range_alike, take_alike}
use Rattle.track_records.proofs.StandLemmas.{stand}
use Rattle.track_records.proofs.UpdateLemmas.{same_count, same_stand, same_front, record_fits, part_lengths}

-- none of the records that stand at the front begins like an end marker
abbrev pub GoOn : List ℕ → List Record → Type 0
GoOn bytes [] = Unit {0}
GoOn bytes (x ∷ xs) = (is_at_end bytes ≡ false) × GoOn (drop (record_length bytes) bytes) xs

-- a first record that is read
taken_up : (b c : Bool) (m : Option (List Record)) (y x : Record) (xs : List Record) → cond b None (cond c (option_map (λ l. y ∷ l) m) None) ≡ Some (x ∷ xs) → (b ≡ false) × (m ≡ Some xs)
taken_up true c m y x xs is = cc
taken_up false true None y x xs is = cc
taken_up false true (Some l) y x xs is = (refl, cc)
taken_up false false m y x xs is = cc

taken_end : (b c : Bool) (m : Option (List Record)) (y x : Record) (xs : List Record) → cond b (Some []) (cond c (option_map (λ l. y ∷ l) m) None) ≡ Some (x ∷ xs) → (b ≡ false) × (m ≡ Some xs)
taken_end true c m y x xs is = cc
taken_end false true None y x xs is = cc
taken_end false true (Some l) y x xs is = (refl, cc)
taken_end false false m y x xs is = cc

no_first : (b : Bool) (x : Record) (xs : List Record) → cond b (Some []) None ≡ Some (x ∷ xs) → ⊥
no_first true x xs is = cc
no_first false x xs is = cc

go_up_to : (n r : ℕ) (bytes : List ℕ) (xs : List Record) → records_up_to n r bytes ≡ Some xs → GoOn bytes xs
unfolding records_up_to
go_up_to n r bytes [] is = tt
go_up_to zero r bytes (x ∷ xs) is = absurd (no_first (nat_le 8 (length bytes)) x xs is)
go_up_to (suc n) r bytes (x ∷ xs) is =
    let taken = taken_up (is_at_end bytes) (is_record_at r bytes) (records_up_to n (suc r) (drop (record_length bytes) bytes)) (front_record bytes) x xs is in
    (taken.0, go_up_to n (suc r) (drop (record_length bytes) bytes) xs taken.1)

go_to_end : (n r : ℕ) (bytes : List ℕ) (xs : List Record) → records_to_end n r bytes ≡ Some xs → GoOn bytes xs
unfolding records_to_end
go_to_end n r bytes [] is = tt
go_to_end zero r bytes (x ∷ xs) is = absurd (no_first (is_at_end bytes) x xs is)
go_to_end (suc n) r bytes (x ∷ xs) is =
    let taken = taken_end (is_at_end bytes) (is_record_at r bytes) (records_to_end n (suc r) (drop (record_length bytes) bytes)) (front_record bytes) x xs is in
    (taken.0, go_to_end n (suc r) (drop (record_length bytes) bytes) xs taken.1)

pub go_behind : (u : Option ℕ) (bytes : List ℕ) (xs : List Record) → records_behind u bytes ≡ Some xs → GoOn bytes xs
go_behind None bytes xs is = go_to_end 255 1 bytes xs is
go_behind (Some r) bytes xs is = go_up_to r 1 bytes xs is

-- bytes that begin alike, as far as records stand in the ones, have the first of them alike
record FirstKept (r : ℕ) (bytes zs : List ℕ) (x : Record) (xs : List Record) : Type 0 where
  ends : is_at_end zs ≡ is_at_end bytes
  stands : is_record_at r zs ≡ is_record_at r bytes
  front : front_record zs ≡ front_record bytes
  size : length (drop (record_length zs) zs) ≡ length (drop (record_length bytes) bytes)
  rest : take (offset_of xs (length xs)) (drop (record_length zs) zs) ≡ take (offset_of xs (length xs)) (drop (record_length bytes) bytes)

first_length : (r : ℕ) (bytes : List ℕ) (x : Record) → is_record_at r bytes ≡ true → x ≡ front_record bytes → length_of x ≡ record_length bytes
first_length r bytes x stands is = ap length_of is ∙ (part_lengths bytes (record_fits r bytes stands)).whole

first_kept : (r : ℕ) (bytes zs : List ℕ) (x : Record) (xs : List Record) → is_record_at r bytes ≡ true → x ≡ front_record bytes → length zs ≡ length bytes
    → take (length_of x + offset_of xs (length xs)) zs ≡ take (length_of x + offset_of xs (length xs)) bytes → FirstKept r bytes zs x xs
first_kept r bytes zs x xs stands is size alike =
    let o : ℕ = offset_of xs (length xs) in
    let first = first_length r bytes x stands is in
    let whole : take (record_length bytes) zs ≡ take (record_length bytes) bytes = take_alike (length_of x + o) (record_length bytes) zs bytes (omega (arith, first)) alike in
    let eight : take 8 zs ≡ take 8 bytes = take_alike (record_length bytes) 8 zs bytes (omega arith) whole in
    let count = same_count zs bytes eight in
    let sum : length_of x + o ≡ record_length bytes + o = ap (λ (n : ℕ). n + o) first in
    record {
      ends = count.ends;
      stands = same_stand r zs bytes eight size;
      front = same_front zs bytes whole;
      size = ap (λ (n : ℕ). length (drop n zs)) count.lengths ∙ length-drop (record_length bytes) zs ∙ ap (λ (n : ℕ). n - record_length bytes) size ∙ sym (length-drop (record_length bytes) bytes);
      rest =
          ap (λ (n : ℕ). take o (drop n zs)) count.lengths
          ∙ sym (drop-take (record_length bytes) o zs)
          ∙ ap (drop (record_length bytes)) (ap (λ (n : ℕ). take n zs) (sym sum) ∙ alike ∙ ap (λ (n : ℕ). take n bytes) sum)
          ∙ drop-take (record_length bytes) o bytes;
    }

-- so the same records stand in both
pub kept_stand : (r : ℕ) (bytes zs : List ℕ) (xs : List Record) → StandFrom r bytes xs → length zs ≡ length bytes → take (offset_of xs (length xs)) zs ≡ take (offset_of xs (length xs)) bytes → StandFrom r zs xs
kept_stand r bytes zs [] stand size alike = tt
kept_stand r bytes zs (x ∷ xs) stand size alike =
    let k = first_kept r bytes zs x xs stand.0 stand.1.0 size alike in
    (k.stands ∙ stand.0, (stand.1.0 ∙ sym k.front, kept_stand (suc r) (drop (record_length bytes) bytes) (drop (record_length zs) zs) xs stand.1.1 k.size k.rest))

-- and no end marker before them
pub kept_on : (r : ℕ) (bytes zs : List ℕ) (xs : List Record) → StandFrom r bytes xs → GoOn bytes xs → length zs ≡ length bytes → take (offset_of xs (length xs)) zs ≡ take (offset_of xs (length xs)) bytes → GoOn zs xs
kept_on r bytes zs [] stand on size alike = tt
kept_on r bytes zs (x ∷ xs) stand on size alike =
    let k = first_kept r bytes zs x xs stand.0 stand.1.0 size alike in
    (k.ends ∙ on.0, kept_on (suc r) (drop (record_length bytes) bytes) (drop (record_length zs) zs) xs stand.1.1 on.1 k.size k.rest)

-- what stands after the first record
pub behind_first : (r : ℕ) (bytes : List ℕ) (x : Record) (xs : List Record) (k : ℕ) → is_record_at r bytes ≡ true → x ≡ front_record bytes → drop (length_of x + offset_of xs k) bytes ≡ drop (offset_of xs k) (drop (record_length bytes) bytes)
behind_first r bytes x xs k stands is =
    ap (λ (n : ℕ). drop (n + offset_of xs k) bytes) (first_length r bytes x stands is) ∙ sym (drop-drop (offset_of xs k) (record_length bytes) bytes)

-- records stand one after another
pub stand_more : (r : ℕ) (bytes : List ℕ) (xs ys : List Record) → StandFrom r bytes xs → StandFrom (r + length xs) (drop (offset_of xs (length xs)) bytes) ys → StandFrom r bytes (xs ++ ys)
stand_more r bytes [] ys stand more = let none : r + 0 ≡ r = omega arith in subst (λ (n : ℕ). StandFrom n bytes ys) none more
stand_more r bytes (x ∷ xs) ys stand more =
    let number : r + suc (length xs) ≡ suc r + length xs = omega arith in (
      stand.0,
      (
        stand.1.0,
        stand_more (suc r) (drop (record_length bytes) bytes) xs ys stand.1.1
            (subst (λ (b : List ℕ). StandFrom (suc r + length xs) b ys) (behind_first r bytes x xs (length xs) stand.0 stand.1.0) (subst (λ (n : ℕ). StandFrom n (drop (length_of x + offset_of xs (length xs)) bytes) ys) number more)),
      ),
    )

-- and are read so
read_more : (m r : ℕ) (bytes : List ℕ) (xs ys : List Record) → StandFrom r bytes xs → GoOn bytes xs → records_to_end m (r + length xs) (drop (offset_of xs (length xs)) bytes) ≡ Some ys → records_to_end (length xs + m) r bytes ≡ Some (xs ++ ys)
read_more m r bytes [] ys stand on is =
    let none : r + 0 ≡ r = omega arith in
    let all : 0 + m ≡ m = omega arith in
    ap (λ (n : ℕ). records_to_end n r bytes) all ∙ ap (λ (n : ℕ). records_to_end m n bytes) (sym none) ∙ is
read_more m r bytes (x ∷ xs) ys stand on is =
    let number : suc r + length xs ≡ r + suc (length xs) = omega arith in
    let count : suc (length xs) + m ≡ suc (length xs + m) = omega arith in
    let later : records_to_end m (suc r + length xs) (drop (offset_of xs (length xs)) (drop (record_length bytes) bytes)) ≡ Some ys =
    ap (λ (n : ℕ). records_to_end m n (drop (offset_of xs (length xs)) (drop (record_length bytes) bytes))) number
    ∙ ap (records_to_end m (r + suc (length xs))) (sym (behind_first r bytes x xs (length xs) stand.0 stand.1.0))
    ∙ is
    in
    ap (λ (n : ℕ). records_to_end n r bytes) count
    ∙ to_end_stands (length xs + m) r bytes on.0 stand.0
    ∙ ap (option_map (λ (l : List Record). front_record bytes ∷ l)) (read_more m (suc r) (drop (record_length bytes) bytes) xs ys stand.1.1 on.1 later)
    ∙ ap (λ (y : Record). Some (y ∷ (xs ++ ys))) (sym stand.1.0)

-- up to one of them too
pub read_up : (n r : ℕ) (bytes : List ℕ) (xs : List Record) → StandFrom r bytes xs → GoOn bytes xs → n ≤ length xs → 8 ≤ length (drop (offset_of xs n) bytes) → records_up_to n r bytes ≡ Some (take n xs)
read_up zero r bytes [] stand on low room = up_to_zero r bytes room
read_up zero r bytes (x ∷ xs) stand on low room = up_to_zero r bytes room
read_up (suc n) r bytes [] stand on low room = absurd (omega arith)
read_up (suc n) r bytes (x ∷ xs) stand on low room =
    up_to_stands n r bytes on.0 stand.0
    ∙ ap (option_map (λ (l : List Record). front_record bytes ∷ l)) (read_up n (suc r) (drop (record_length bytes) bytes) xs stand.1.1 on.1 (omega arith) (subst (λ (b : List ℕ). 8 ≤ length b) (behind_first r bytes x xs n stand.0 stand.1.0) room))
    ∙ ap (λ (y : Record). Some (y ∷ take n xs)) (sym stand.1.0)

-- records as they are written stand there
pub new_stand : (r : ℕ) (new : List Record) (rest : List ℕ) → AreRecords r new → StandFrom r (records_bytes r new ++ rest) new
new_stand r [] rest are = tt
new_stand r (x ∷ xs) rest are =
    let joined : records_bytes r (x ∷ xs) ++ rest ≡ record_bytes r x ++ (records_bytes (suc r) xs ++ rest) = append_assoc (record_bytes r x) (records_bytes (suc r) xs) rest in
    let w = record_reads r x (records_bytes (suc r) xs ++ rest) are.0 in
    subst (λ (b : List ℕ). StandFrom r b (x ∷ xs)) (sym joined)
    (w.stands, (sym w.front, subst (λ (b : List ℕ). StandFrom (suc r) b xs) (sym w.behind) (new_stand (suc r) xs rest are.1)))

-- and are read to the end marker
read_new : (m r : ℕ) (new : List Record) (rest : List ℕ) → AreRecords r new → length new ≤ m → records_to_end m r (records_bytes r new ++ (end_marker ++ rest)) ≡ Some new
read_new m r [] rest are low = to_end_ended m r (end_marker ++ rest) (marker_ends rest)
read_new zero r (x ∷ xs) rest are low = absurd (omega arith)
read_new (suc m) r (x ∷ xs) rest are low =
    ap (records_to_end (suc m) r) (append_assoc (record_bytes r x) (records_bytes (suc r) xs) (end_marker ++ rest))
    ∙ (step_end m r x (records_bytes (suc r) xs ++ (end_marker ++ rest)) are.0 ∙ ap (option_map (λ (l : List Record). x ∷ l)) (read_new m (suc r) xs rest are.1 (omega arith)))

-- the front of bytes that begin alike
pub same_front_part : (c h : ℕ) (bytes zs : List ℕ) → length zs ≡ length bytes → take 21 zs ≡ take 21 bytes → is_front c h zs ≡ is_front c h bytes
unfolding is_front
same_front_part c h bytes zs size alike =
    let homes : slice_range zs 1 5 ≡ slice_range bytes 1 5 = range_alike 21 1 5 zs bytes (omega arith) alike in
    let counts : slice_range zs 9 13 ≡ slice_range bytes 9 13 = range_alike 21 9 13 zs bytes (omega arith) alike in
    rw (size, homes, counts) refl

pub offset_low : (xs : List Record) (k : ℕ) → k ≤ length xs → offset_of xs k ≤ offset_of xs (length xs)
offset_low [] k low = omega arith
offset_low (x ∷ xs) zero low = omega arith
offset_low (x ∷ xs) (suc k) low = omega (arith, offset_low xs k (omega arith))

-- bytes that were written over from where records end on
pub record Behind (bytes new zs : List ℕ) (o : ℕ) : Type 0 where
  pub size : length zs ≡ length bytes
  pub alike : take o zs ≡ take o bytes
  pub rest : drop o zs ≡ new ++ drop (o + length new) bytes

pub patched_behind : (bytes new : List ℕ) (o : ℕ) → o + length new ≤ length bytes → Behind bytes new (patched bytes o new) o
unfolding patched
patched_behind bytes new o inside =
    let whole : length (take o bytes) ≡ o = length-take-le o bytes (omega (arith, inside)) in
    record {
      size = length-patched bytes new o inside;
      alike = take-patched bytes new o o (omega arith) (omega (arith, inside));
      rest = ap (drop o) (append_assoc (take o bytes) new (drop (o + length new) bytes)) ∙ drop_front (take o bytes) (new ++ drop (o + length new) bytes) whole;
    }
  where
    drop_front : (p q : List ℕ) → length p ≡ o → drop o (p ++ q) ≡ q
    drop_front p q is = drop_at p q o is

-- A track that goes on after its records: what is read of it.
pub record TrackContinued (c h : ℕ) (held zs : List ℕ) (xs new : List Record) : Type 0 where
  pub whole : records_of c h None zs ≡ Some (xs ++ new)
  pub earlier : (r : ℕ) → r ≤ length xs → records_of c h (Some r) zs ≡ records_of c h (Some r) held

pub track_continued : (c h : ℕ) (u : Option ℕ) (held : List ℕ) (xs new : List Record) → records_of c h u held ≡ Some xs → AreRecords (length xs + 1) new → length xs + length new ≤ 255
    → 21 + offset_of xs (length xs) + length (records_bytes (length xs + 1) new ++ end_marker) ≤ length held
    → TrackContinued c h held (patched held (21 + offset_of xs (length xs)) (records_bytes (length xs + 1) new ++ end_marker)) xs new
track_continued c h u held xs new is are few room =
    let o : ℕ = offset_of xs (length xs) in
    let tail : List ℕ = records_bytes (length xs + 1) new ++ end_marker in
    let zs : List ℕ = patched held (21 + o) tail in
    let marked : 8 ≤ length tail = omega (arith, length-append (records_bytes (length xs + 1) new) end_marker) in
    let standing = stand c h u held xs is in
    let front = reads_front c h u xs held is in
    let on : GoOn (drop 21 held) xs = go_behind u (drop 21 held) xs (sym (read_past c h u held front) ∙ is) in
    let w = patched_behind held tail (21 + o) room in
    let starts : is_front c h zs ≡ true = same_front_part c h held zs w.size (take_alike (21 + o) 21 zs held (omega arith) w.alike) ∙ front in
    let size : length (drop 21 zs) ≡ length (drop 21 held) = omega (arith, length-drop 21 zs, length-drop 21 held, w.size) in
    let alike : take o (drop 21 zs) ≡ take o (drop 21 held) = sym (drop-take 21 o zs) ∙ ap (drop 21) w.alike ∙ drop-take 21 o held in
    let stands : StandFrom 1 (drop 21 zs) xs = kept_stand 1 (drop 21 held) (drop 21 zs) xs standing.records_stand size alike in
    let goes : GoOn (drop 21 zs) xs = kept_on 1 (drop 21 held) (drop 21 zs) xs standing.records_stand on size alike in
    let number : 1 + length xs ≡ length xs + 1 = omega arith in
    let count : length xs + (255 - length xs) ≡ 255 = omega (arith, few) in
    let rest : drop o (drop 21 zs) ≡ records_bytes (length xs + 1) new ++ (end_marker ++ drop (21 + o + length tail) held) =
    drop-drop o 21 zs ∙ w.rest ∙ append_assoc (records_bytes (length xs + 1) new) end_marker (drop (21 + o + length tail) held)
    in
    let last : records_to_end (255 - length xs) (1 + length xs) (drop o (drop 21 zs)) ≡ Some new =
    ap (λ (n : ℕ). records_to_end (255 - length xs) n (drop o (drop 21 zs))) number
    ∙ ap (records_to_end (255 - length xs) (length xs + 1)) rest
    ∙ read_new (255 - length xs) (length xs + 1) new (drop (21 + o + length tail) held) are (omega (arith, few))
    in
    record {
      whole =
          read_past c h None zs starts
          ∙ ap (λ (n : ℕ). records_to_end n 1 (drop 21 zs)) (sym count)
          ∙ read_more (255 - length xs) 1 (drop 21 zs) xs new stands goes last;
      earlier = λ r low.
          let before = offset_low xs r low in
          read_past c h (Some r) zs starts
          ∙ read_up r 1 (drop 21 zs) xs stands goes low (omega (arith, before, room, marked, w.size, length-drop 21 zs, length-drop (offset_of xs r) (drop 21 zs)))
          ∙ sym (read_past c h (Some r) held front
          ∙ read_up r 1 (drop 21 held) xs standing.records_stand on low (omega (arith, before, room, marked, length-drop 21 held, length-drop (offset_of xs r) (drop 21 held))));
    }
