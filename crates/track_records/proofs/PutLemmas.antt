-- The bytes of a track into which more records and an end marker were put, and the places of its records.
use Rattle.std.proofs.Common.{◌≡◌, ◌≤◌, ◌+◌, ◌-◌, ◌*◌, ◌/◌, ◌%◌, ℕ, zero, suc, Bool, true, false, if◌then◌else◌, IsTrue, List, [], ◌∷◌, ◌++◌, length, take, drop, get_or, refl, sym, ◌∙◌, ap, subst, arith, length-append, length-drop, append_assoc, leb-true, eqb-true}
use Rattle.std.specs.Prelude.{slice_range, nat_le, nat_eq, ◌&&◌}
use Rattle.std.proofs.lemmas.List.{drop-drop, drop-take, take_at, drop_at, append-nil, length-take-le, length-map}
use Rattle.ckd_image.specs.declared.header.Geometry.{Geometry}
use Rattle.ckd_image.specs.Track.{Record, AreRecords, end_marker, record_bytes, records_bytes}
use Rattle.ckd_image.specs.Reading.{is_record_at, front_record, record_length}
use Rattle.ckd_image.specs.Writing.{front_bytes}
use Rattle.stop_model.specs.Files.{patched}
use Rattle.pack_spec.specs.Label.{heads_of}
use Rattle.track_records.specs.Buffers.{Buffer, records_at, are_places, places_from}
use Rattle.track_records.specs.Updates.{length_of, offset_of, StandFrom}
use Rattle.track_records.specs.Appends.{start_behind, front_before, bytes_behind, continuation, place_behind, IsPutBehind}
use Rattle.track_records.proofs.PatchLemmas.{length-patched, range-patched}
use Rattle.track_records.proofs.PlaceLemmas.{first_place, place_stands}
use Rattle.track_records.proofs.StandLemmas.{at_places}
use Rattle.track_records.proofs.UpdateLemmas.{record_fits, part_lengths, places_by, places_stand, places_are}
use Rattle.track_records.proofs.BehindLemmas.{kept_stand, stand_more, new_stand, patched_behind}
use Rattle.track_records.proofs.ContinueLemmas.{fresh_bytes}

-- bytes that are put right after others that were put
pub patched_twice : (image first second : List ℕ) (at : ℕ) → at + length first ≤ length image → patched (patched image at first) (at + length first) second ≡ patched image at (first ++ second)
unfolding patched
patched_twice image first second at inside =
    let front : List ℕ = take at image ++ first in
    let n : ℕ = at + length first in
    let rest : List ℕ = drop n image in
    let whole : length (take at image) ≡ at = length-take-le at image (omega (arith, inside)) in
    let long : length front ≡ n = length-append (take at image) first ∙ ap (λ (k : ℕ). k + length first) whole in
    let sizes : n + length second ≡ at + length (first ++ second) = omega (arith, length-append first second) in
    ap (λ (l : List ℕ). (l ++ second) ++ drop (n + length second) (front ++ rest)) (take_at front rest n long)
    ∙ ap (λ (l : List ℕ). (front ++ second) ++ l)
    (sym (drop-drop (length second) n (front ++ rest)) ∙ ap (drop (length second)) (drop_at front rest n long) ∙ drop-drop (length second) n image ∙ ap (λ (k : ℕ). drop k image) sizes)
    ∙ ap (λ (l : List ℕ). l ++ drop (at + length (first ++ second)) image) (append_assoc (take at image) first second)

-- a record's count and key, and then its data and the end marker
pub record_put : (bytes once twice : List ℕ) (at n : ℕ) (count key content : List ℕ) → once ≡ patched bytes at (count ++ key) → twice ≡ patched once n (content ++ end_marker) → n ≡ at + length (count ++ key) → n ≤ length bytes
    → twice ≡ patched bytes at ((count ++ (key ++ content)) ++ end_marker)
record_put bytes once twice at n count key content first second is inside =
    second ∙ ap (λ (l : List ℕ). patched l n (content ++ end_marker)) first
    ∙ ap (λ (k : ℕ). patched (patched bytes at (count ++ key)) k (content ++ end_marker)) is
    ∙ patched_twice bytes (count ++ key) (content ++ end_marker) at (omega (arith, is, inside))
    ∙ ap (patched bytes at) (sym (append_assoc (count ++ key) content end_marker) ∙ ap (λ (l : List ℕ). l ++ end_marker) (append_assoc count key content))

-- the front of a track that begins anew
pub begun : (bytes new front : List ℕ) (fresh : Bool) → fresh ≡ true → new ≡ front → length front ≡ 21 → new ++ drop 21 bytes ≡ (if fresh then patched bytes 0 front else bytes)
unfolding patched
begun bytes new front false other is size = absurd (cc)
begun bytes new front true other is size =
    let n : 21 ≡ 0 + length front = omega (arith, size) in
    ap (λ (l : List ℕ). l ++ drop 21 bytes) is ∙ ap (λ (k : ℕ). front ++ drop k bytes) n

-- and what is put after it, or after records
pub put_after : (c h at : ℕ) (bytes front put tail : List ℕ) (xs : List Record) (fresh : Bool) → nat_eq (length xs) 0 ≡ fresh → front ≡ (if fresh then patched bytes 0 (front_bytes c h) else bytes) → put ≡ patched front at tail → at ≡ 21 + offset_of xs (length xs) → 21 ≤ length bytes
    → put ≡ patched bytes (start_behind xs) (front_before c h xs ++ tail)
put_after c h at bytes front put tail [] false empty first second is long = absurd (cc)
put_after c h at bytes front put tail [] true empty first second is long =
    second ∙ ap (λ (l : List ℕ). patched l at tail) first ∙ ap (λ (n : ℕ). patched (patched bytes 0 (front_bytes c h)) n tail) is ∙ patched_twice bytes (front_bytes c h) tail 0 (omega (arith, long))
put_after c h at bytes front put tail (x ∷ xs) true empty first second is long = absurd (let none : suc (length xs) ≡ 0 = eqb-true (suc (length xs)) 0 empty in omega arith)
put_after c h at bytes front put tail (x ∷ xs) false empty first second is long = second ∙ ap (λ (l : List ℕ). patched l at tail) first ∙ ap (λ (n : ℕ). patched bytes n tail) is

-- where it begins
pub put_start : (at start : ℕ) (xs : List Record) (fresh : Bool) → nat_eq (length xs) 0 ≡ fresh → start ≡ (if fresh then 0 else at) → at ≡ 21 + offset_of xs (length xs) → start ≡ start_behind xs
put_start at start [] false empty first is = absurd (cc)
put_start at start [] true empty first is = first
put_start at start (x ∷ xs) true empty first is = absurd (let none : suc (length xs) ≡ 0 = eqb-true (suc (length xs)) 0 empty in omega arith)
put_start at start (x ∷ xs) false empty first is = first ∙ is

-- one record, as a list
pub one_record : (r : ℕ) (x : Record) → record_bytes r x ++ end_marker ≡ records_bytes r (x ∷ []) ++ end_marker
one_record r x = ap (λ (l : List ℕ). l ++ end_marker) (sym (append-nil (record_bytes r x)))

-- where the last of some records ends
last_end : (r at : ℕ) (bytes ps : List ℕ) (k : ℕ) → IsTrue (are_places r at bytes ps) → suc k ≡ length ps
    → get_or ps k 0 + record_length (drop (get_or ps k 0) bytes) ≡ at + offset_of (records_at bytes ps) (length (records_at bytes ps))
last_end r at bytes [] k are is = absurd (omega arith)
last_end r at bytes (p ∷ []) zero are is =
    let f = first_place r at bytes p [] are in
    let stands : is_record_at r (drop p bytes) ≡ true = subst (λ (n : ℕ). is_record_at r (drop n bytes) ≡ true) (sym f.here) f.stands in
    let whole = (part_lengths (drop p bytes) (record_fits r (drop p bytes) stands)).whole in
    omega (arith, whole, f.here)
last_end r at bytes (p ∷ []) (suc k) are is = absurd (omega arith)
last_end r at bytes (p ∷ q ∷ qs) zero are is = absurd (omega arith)
last_end r at bytes (p ∷ q ∷ qs) (suc k) are is =
    let f = first_place r at bytes p (q ∷ qs) are in
    let here : record_length (drop p bytes) ≡ record_length (drop at bytes) = ap (λ (n : ℕ). record_length (drop n bytes)) f.here in
    let stands : is_record_at r (drop p bytes) ≡ true = subst (λ (n : ℕ). is_record_at r (drop n bytes) ≡ true) (sym f.here) f.stands in
    let whole = (part_lengths (drop p bytes) (record_fits r (drop p bytes) stands)).whole in
    let later = last_end (suc r) (at + record_length (drop at bytes)) bytes (q ∷ qs) k f.others (omega arith) in
    omega (arith, later, whole, here)

-- The last of the records that stand at some places.
pub record LastPlace (bytes ps : List ℕ) (at : ℕ) : Type 0 where
  pub stands : is_record_at (length ps) (drop at bytes) ≡ true
  pub inside : at + record_length (drop at bytes) ≤ length bytes
  pub end : at + record_length (drop at bytes) ≡ 21 + offset_of (records_at bytes ps) (length (records_at bytes ps))

both_true : (b c : Bool) → (b && c) ≡ true → (b ≡ true) × (c ≡ true)
both_true true c is = (refl, is)
both_true false c is = cc

pub last_place : (bytes ps : List ℕ) → IsTrue (are_places 1 21 bytes ps) → 1 ≤ length ps → LastPlace bytes ps (get_or ps (length ps - 1) 0)
last_place bytes ps are some =
    let k : ℕ = length ps - 1 in
    let at : ℕ = get_or ps k 0 in
    let number : 1 + k ≡ length ps = omega (arith, some) in
    let stands : is_record_at (length ps) (drop at bytes) ≡ true = subst (λ (n : ℕ). is_record_at n (drop at bytes) ≡ true) number (place_stands 1 21 bytes ps k are (omega (arith, some))) in
    let fits = record_fits (length ps) (drop at bytes) stands in
    let room : 8 ≤ length (drop at bytes) = leb-true 8 (length (drop at bytes)) (both_true (nat_le 8 (length (drop at bytes))) _ (both_true _ _ stands).0).0 in
    record {
      stands = stands;
      inside = omega (arith, fits, room, length-drop at bytes);
      end = last_end 1 21 bytes ps k are (omega (arith, some));
    }

-- there is one where they are not none
pub some_there : (n : ℕ) (none : Bool) → none ≡ nat_eq n 0 → none ≡ false → 1 ≤ n
some_there zero none is has = absurd (cc)
some_there (suc n) none is has = omega arith

-- no place, no record
pub none_end : (bytes ps : List ℕ) → length ps ≡ 0 → 21 ≡ 21 + offset_of (records_at bytes ps) (length (records_at bytes ps))
none_end bytes [] none = refl
none_end bytes (p ∷ ps) none = absurd (omega arith)

-- where records end that stand one after another
ends_inside : (r : ℕ) (bytes : List ℕ) (xs : List Record) → StandFrom r bytes xs → offset_of xs (length xs) ≤ length bytes
ends_inside r bytes [] stand = omega arith
ends_inside r bytes (x ∷ xs) stand =
    let fits = record_fits r bytes stand.0 in
    let first : length_of x ≡ record_length bytes = ap length_of stand.1.0 ∙ (part_lengths bytes fits).whole in
    omega (arith, first, fits, ends_inside (suc r) (drop (record_length bytes) bytes) xs stand.1.1, length-drop (record_length bytes) bytes)

pub places_inside : (bytes ps : List ℕ) → IsTrue (are_places 1 21 bytes ps) → 21 ≤ length bytes → 21 + offset_of (records_at bytes ps) (length (records_at bytes ps)) ≤ length bytes
places_inside bytes ps are long = omega (arith, long, ends_inside 1 (drop 21 bytes) (records_at bytes ps) (places_are 1 21 bytes ps are).0, length-drop 21 bytes)

-- the places of records and of more after them
places_more : (at : ℕ) (xs ys : List Record) → places_by at (xs ++ ys) ≡ places_by at xs ++ places_by (at + offset_of xs (length xs)) ys
places_more at [] ys = let none : at ≡ at + 0 = omega arith in ap (λ (n : ℕ). places_by n ys) none
places_more at (x ∷ xs) ys =
    let sum : at + length_of x + offset_of xs (length xs) ≡ at + (length_of x + offset_of xs (length xs)) = omega arith in
    ap (λ (ps : List ℕ). at ∷ ps) (places_more (at + length_of x) xs ys ∙ ap (λ (n : ℕ). places_by (at + length_of x) xs ++ places_by n ys) sum)

-- all of them stand in the bytes into which more were put
stand_put : (c h : ℕ) (bytes : List ℕ) (xs new : List Record) → StandFrom 1 (drop 21 bytes) xs → AreRecords (length xs + 1) new → start_behind xs + length (bytes_behind c h xs new) ≤ length bytes
    → StandFrom 1 (drop 21 (patched bytes (start_behind xs) (bytes_behind c h xs new))) (xs ++ new)
stand_put c h bytes [] new stand are room =
    subst (λ (b : List ℕ). StandFrom 1 (drop 21 b) new) (sym (fresh_bytes c h new bytes)) (new_stand 1 new (end_marker ++ drop (length (bytes_behind c h [] new)) bytes) are)
stand_put c h bytes (x ∷ xs) new stand are room =
    let all : List Record = x ∷ xs in
    let o : ℕ = offset_of all (length all) in
    let tail : List ℕ = records_bytes (length all + 1) new ++ end_marker in
    let zs : List ℕ = patched bytes (21 + o) tail in
    let w = patched_behind bytes tail (21 + o) room in
    let size : length (drop 21 zs) ≡ length (drop 21 bytes) = omega (arith, length-drop 21 zs, length-drop 21 bytes, w.size) in
    let alike : take o (drop 21 zs) ≡ take o (drop 21 bytes) = sym (drop-take 21 o zs) ∙ ap (drop 21) w.alike ∙ drop-take 21 o bytes in
    let number : 1 + length all ≡ length all + 1 = omega arith in
    let rest : drop o (drop 21 zs) ≡ records_bytes (length all + 1) new ++ (end_marker ++ drop (21 + o + length tail) bytes) =
    drop-drop o 21 zs ∙ w.rest ∙ append_assoc (records_bytes (length all + 1) new) end_marker (drop (21 + o + length tail) bytes)
    in
    let more : StandFrom (1 + length all) (drop o (drop 21 zs)) new = subst (λ (n : ℕ). StandFrom n (drop o (drop 21 zs)) new) (sym number)
    (subst (λ (b : List ℕ). StandFrom (length all + 1) b new) (sym rest) (new_stand (length all + 1) new (end_marker ++ drop (21 + o + length tail) bytes) are)) in
    stand_more 1 (drop 21 zs) all new (kept_stand 1 (drop 21 bytes) (drop 21 zs) all stand size alike) more

-- What follows the records was put into the bytes of a track.
pub put_behind : (c h : ℕ) (new : List Record) (bytes ps put put_places : List ℕ) (stretch : ℕ × ℕ) → IsTrue (are_places 1 21 bytes ps) → let xs : List Record = records_at bytes ps in AreRecords (length xs + 1) new → start_behind xs + length (bytes_behind c h xs new) ≤ length bytes
    → put ≡ patched bytes (start_behind xs) (bytes_behind c h xs new) → put_places ≡ ps ++ places_by (21 + offset_of xs (length xs)) new → stretch.0 ≡ start_behind xs → stretch.1 ≡ start_behind xs + length (bytes_behind c h xs new) → IsPutBehind c h new bytes ps put put_places stretch
put_behind c h new bytes ps put put_places stretch are stand room is places start end =
    let xs : List Record = records_at bytes ps in
    let tail : List ℕ = bytes_behind c h xs new in
    let s : ℕ = start_behind xs in
    let zs : List ℕ = patched bytes s tail in
    let placed = places_are 1 21 bytes ps are in
    let standing : StandFrom 1 (drop 21 zs) (xs ++ new) = stand_put c h bytes xs new placed.0 stand room in
    let walked = at_places 1 21 zs (xs ++ new) standing in
    let same : places_from 21 (length (xs ++ new)) zs ≡ put_places =
    places_stand 1 21 zs (xs ++ new) standing ∙ places_more 21 xs new ∙ ap (λ (l : List ℕ). l ++ places_by (21 + offset_of xs (length xs)) new) (sym placed.1) ∙ sym places
    in
    let size : length zs ≡ length bytes = length-patched bytes tail s room in
    let cut : s + length tail - s ≡ length tail = omega arith in
    let here : slice_range zs s (s + length tail) ≡ tail = ap (λ (n : ℕ). take n (drop s zs)) cut ∙ range-patched bytes tail s (omega (arith, room)) in
    record {
      start = start;
      order = omega (arith, start, end);
      inside = omega (arith, end, room, size, ap length is);
      part = ap (λ (n : ℕ). slice_range put n stretch.1) start ∙ ap (slice_range put s) end ∙ ap (λ (b : List ℕ). slice_range b s (s + length tail)) is ∙ here;
      size = ap length is ∙ size;
      are = subst (λ (b : List ℕ). IsTrue (are_places 1 21 b put_places)) (sym is) (subst (λ (qs : List ℕ). IsTrue (are_places 1 21 zs qs)) same walked.are);
      records = ap (λ (b : List ℕ). records_at b put_places) is ∙ ap (records_at zs) (sym same) ∙ walked.is;
    }

-- where it ends
tail_end : (c h : ℕ) (xs : List Record) (tail : List ℕ) → start_behind xs + length (front_before c h xs ++ tail) ≡ 21 + offset_of xs (length xs) + length tail
tail_end c h [] tail = omega arith
tail_end c h (x ∷ xs) tail = refl

-- bytes that are put where a slice stood
pub put_here : (image part : List ℕ) (at n : ℕ) → n ≡ length part → take at image ++ (part ++ drop n (drop at image)) ≡ patched image at part
unfolding patched
put_here image part at n is =
    ap (λ (l : List ℕ). take at image ++ (part ++ l)) (drop-drop n at image ∙ ap (λ (k : ℕ). drop (at + k) image) is) ∙ sym (append_assoc (take at image) part (drop (at + length part) image))

-- The same, as it is put step by step: the front, if there are no records, and then what follows.
pub put_all : (c h : ℕ) (new : List Record) (bytes ps front put put_places : List ℕ) (at : ℕ) (fresh : Bool) (stretch : ℕ × ℕ) → IsTrue (are_places 1 21 bytes ps) → let xs : List Record = records_at bytes ps in
    let tail : List ℕ = records_bytes (length xs + 1) new ++ end_marker in
    AreRecords (length xs + 1) new → at ≡ 21 + offset_of xs (length xs) → at + length tail ≤ length bytes → fresh ≡ nat_eq (length ps) 0 → front ≡ (if fresh then patched bytes 0 (front_bytes c h) else bytes) → put ≡ patched front at tail
    → put_places ≡ ps ++ places_by at new → stretch.0 ≡ (if fresh then 0 else at) → stretch.1 ≡ at + length tail → IsPutBehind c h new bytes ps put put_places stretch
put_all c h new bytes ps front put put_places at fresh stretch are stand place room none begins is places start end =
    let xs : List Record = records_at bytes ps in
    let tail : List ℕ = records_bytes (length xs + 1) new ++ end_marker in
    let empty : nat_eq (length xs) 0 ≡ fresh = ap (λ (n : ℕ). nat_eq n 0) (length-map ps (λ (p : ℕ). front_record (drop p bytes))) ∙ sym none in
    let whole = tail_end c h xs tail in
    put_behind c h new bytes ps put put_places stretch are stand (omega (arith, whole, room, place))
    (put_after c h at bytes front put tail xs fresh empty begins is place (omega (arith, room, place)))
    (places ∙ ap (λ (n : ℕ). ps ++ places_by n new) place)
    (put_start at stretch.0 xs fresh empty start place)
    (end ∙ omega (arith, whole, place))

-- What was put is what is written of a buffer, at its place in the image.
pub record PartOf (b : Buffer) (new : List Record) (g : Geometry) (track : ℕ) (read : List ℕ) (stretch : ℕ × ℕ) : Type 0 where
  pub place : 512 + track * g.track_size + stretch.0 ≡ place_behind b
  pub part : take (stretch.1 - stretch.0) (drop stretch.0 read) ≡ continuation b new

pub part_of : (b : Buffer) (new : List Record) (g : Geometry) (track : ℕ) (bytes ps put put_places read : List ℕ) (stretch : ℕ × ℕ) → IsPutBehind (track / heads_of g) (track % heads_of g) new bytes ps put put_places stretch
    → g ≡ b.geometry → track ≡ b.track → records_at bytes ps ≡ b.records → read ≡ put → PartOf b new g track read stretch
part_of b new g track bytes ps put put_places read stretch is geometry number records same = record {
  place =
      ap (λ (n : ℕ). 512 + track * g.track_size + n) (is.start ∙ ap start_behind records)
      ∙ ap (λ (x : Geometry). 512 + track * x.track_size + start_behind b.records) geometry
      ∙ ap (λ (n : ℕ). 512 + n * b.geometry.track_size + start_behind b.records) number;
  part =
      ap (λ (l : List ℕ). slice_range l stretch.0 stretch.1) same
      ∙ is.part
      ∙ ap (λ (l : List Record). bytes_behind (track / heads_of g) (track % heads_of g) l new) records
      ∙ ap (λ (x : Geometry). bytes_behind (track / heads_of x) (track % heads_of x) b.records new) geometry
      ∙ ap (λ (n : ℕ). bytes_behind (n / heads_of b.geometry) (n % heads_of b.geometry) b.records new) number;
}
