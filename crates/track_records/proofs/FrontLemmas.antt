-- What is read of the first records of a track, and of those that stay when bytes after them are written over.
use Rattle.std.proofs.Common.{◌≡◌, ◌<◌, ◌≤◌, ◌+◌, ◌*◌, ◌/◌, ◌%◌, ℕ, zero, suc, Bool, true, false, cond, List, [], ◌∷◌, length, take, drop, Option, Some, None, refl, sym, ◌∙◌, ap, subst, arith, length-take, length-drop, leb-true}
use Rattle.std.specs.Prelude.{nat_le}
use Rattle.std.specs.Option.{option_map}
use Rattle.std.proofs.lemmas.List.{drop-take, length-take-le, take_all}
use Rattle.std.proofs.lemmas.Slice.Eq.{bytes_eq-Decides}
use Rattle.ckd_image.specs.declared.header.Geometry.{Geometry}
use Rattle.ckd_image.specs.Header.{HasGeometry}
use Rattle.ckd_image.specs.Track.{Record, end_marker}
use Rattle.ckd_image.specs.Reading.{records_of, records_behind, records_up_to, records_to_end, is_at_end, is_front, is_record_at, front_record, record_length}
use Rattle.ckd_image.proofs.Grammar.{read_past, reads_front}
use Rattle.stop_model.specs.Files.{patched}
use Rattle.pack_spec.proofs.FrontRecords.{count_up}
use Rattle.pack_spec.specs.Label.{heads_of, records_on, track_bytes, tracks_of}
use Rattle.track_records.specs.Appends.{continuation, place_behind, start_behind}
use Rattle.track_records.specs.Buffers.{Buffer}
use Rattle.track_records.specs.Updates.{length_of, offset_of, StandFrom}
use Rattle.track_records.proofs.BehindLemmas.{GoOn, go_behind, kept_on, kept_stand, offset_low, behind_first, read_up, same_front_part}
use Rattle.track_records.proofs.ContinueLemmas.{track_patched}
use Rattle.track_records.proofs.PatchLemmas.{take-patched, take_alike}
use Rattle.track_records.proofs.StandLemmas.{Stand, stand}

at_end_long : (bytes : List ℕ) → is_at_end bytes ≡ true → 8 ≤ length bytes
at_end_long bytes ends =
    let same : take 8 bytes ≡ end_marker = (bytes_eq-Decides (take 8 bytes) end_marker).0 ends in
    omega (arith, ap length same, length-take 8 bytes)

-- at least eight bytes stand after the records that are read
room_up : (n r : ℕ) (bytes : List ℕ) (xs : List Record) → records_up_to n r bytes ≡ Some xs → StandFrom r bytes xs → 8 ≤ length (drop (offset_of xs (length xs)) bytes)
unfolding records_up_to
room_up zero r bytes [] is stands = by (nat_le 8 (length bytes)) [] refl is
  where
    by : (b : Bool) (l : List Record) → nat_le 8 (length bytes) ≡ b → cond b (Some l) None ≡ Some l → 8 ≤ length (drop 0 bytes)
    by true l e t = leb-true 8 (length bytes) e
    by false l e t = cc
room_up zero r bytes (x ∷ xs) is stands = absurd (omega (arith, count_up zero r bytes (x ∷ xs) is))
room_up (suc n) r bytes [] is stands = absurd (omega (arith, count_up (suc n) r bytes [] is))
room_up (suc n) r bytes (x ∷ xs) is stands =
    subst (λ (l : List ℕ). 8 ≤ length l) (sym (behind_first r bytes x xs (length xs) stands.0 stands.1.0))
    (room_up n (suc r) (drop (record_length bytes) bytes) xs (by (is_at_end bytes) (is_record_at r bytes) (records_up_to n (suc r) (drop (record_length bytes) bytes)) is) stands.1.1)
  where
    by : (b c : Bool) (o : Option (List Record)) → cond b None (cond c (option_map (λ ys. front_record bytes ∷ ys) o) None) ≡ Some (x ∷ xs) → o ≡ Some xs
    by true c o e = cc
    by false true (Some ys) e = cc
    by false true None e = cc
    by false false o e = cc

room_end : (n r : ℕ) (bytes : List ℕ) (xs : List Record) → records_to_end n r bytes ≡ Some xs → StandFrom r bytes xs → 8 ≤ length (drop (offset_of xs (length xs)) bytes)
unfolding records_to_end
room_end zero r bytes xs is stands = by (is_at_end bytes) refl is
  where
    by : (b : Bool) → is_at_end bytes ≡ b → cond b (Some []) None ≡ Some xs → 8 ≤ length (drop (offset_of xs (length xs)) bytes)
    by true e t = let none : [] ≡ xs = cc in subst (λ (l : List Record). 8 ≤ length (drop (offset_of l (length l)) bytes)) none (at_end_long bytes e)
    by false e t = cc
room_end (suc n) r bytes [] is stands = by (is_at_end bytes) (is_record_at r bytes) (records_to_end n (suc r) (drop (record_length bytes) bytes)) refl is
  where
    by : (b c : Bool) (o : Option (List Record)) → is_at_end bytes ≡ b → cond b (Some []) (cond c (option_map (λ ys. front_record bytes ∷ ys) o) None) ≡ Some [] → 8 ≤ length (drop 0 bytes)
    by true c o e t = at_end_long bytes e
    by false true (Some ys) e t = cc
    by false true None e t = cc
    by false false o e t = cc
room_end (suc n) r bytes (x ∷ xs) is stands =
    subst (λ (l : List ℕ). 8 ≤ length l) (sym (behind_first r bytes x xs (length xs) stands.0 stands.1.0))
    (room_end n (suc r) (drop (record_length bytes) bytes) xs (by (is_at_end bytes) (is_record_at r bytes) (records_to_end n (suc r) (drop (record_length bytes) bytes)) is) stands.1.1)
  where
    by : (b c : Bool) (o : Option (List Record)) → cond b (Some []) (cond c (option_map (λ ys. front_record bytes ∷ ys) o) None) ≡ Some (x ∷ xs) → o ≡ Some xs
    by true c o e = cc
    by false true (Some ys) e = cc
    by false true None e = cc
    by false false o e = cc

room_by : (u : Option ℕ) (bytes : List ℕ) (xs : List Record) → records_behind u bytes ≡ Some xs → StandFrom 1 bytes xs → 8 ≤ length (drop (offset_of xs (length xs)) bytes)
room_by None bytes xs is stands = room_end 255 1 bytes xs is stands
room_by (Some r) bytes xs is stands = room_up r 1 bytes xs is stands

module _ (c h : ℕ) (u : Option ℕ) (held : List ℕ) (xs : List Record) (is : records_of c h u held ≡ Some xs) where
  abbrev rest : List ℕ
  rest = drop 21 held

  starts : is_front c h held ≡ true
  starts = reads_front c h u xs held is

  behind : records_behind u rest ≡ Some xs
  behind = sym (read_past c h u held starts) ∙ is

  standing : Stand held xs
  standing = stand c h u held xs is

  on : GoOn rest xs
  on = go_behind u rest xs behind

  room_rest : 8 ≤ length (drop (offset_of xs (length xs)) rest)
  room_rest = room_by u rest xs behind standing.records_stand

  -- the bytes have room for the records and an end marker
  pub room_of : 21 + offset_of xs (length xs) + 8 ≤ length held
  room_of = omega (arith, room_rest, standing.front, length-drop (offset_of xs (length xs)) rest, length-drop 21 held)

  -- the first of them are read up to one of that number
  pub first_of : (n : ℕ) → n ≤ length xs → records_of c h (Some n) held ≡ Some (take n xs)
  first_of n low =
      read_past c h (Some n) held starts
      ∙ read_up n 1 rest xs standing.records_stand on low (omega (arith, room_rest, offset_low xs n low, length-drop (offset_of xs (length xs)) rest, length-drop (offset_of xs n) rest))

  -- and all of them on bytes that begin alike
  pub kept_of : (zs : List ℕ) → length zs ≡ length held → take (21 + offset_of xs (length xs)) zs ≡ take (21 + offset_of xs (length xs)) held → records_of c h (Some (length xs)) zs ≡ Some xs
  kept_of zs same alike =
      let o : ℕ = offset_of xs (length xs) in
      let begins : is_front c h zs ≡ true = same_front_part c h held zs same (take_alike (21 + o) 21 zs held (omega arith) alike) ∙ starts in
      let size : length (drop 21 zs) ≡ length rest = omega (arith, length-drop 21 zs, length-drop 21 held, same) in
      let fronts : take o (drop 21 zs) ≡ take o rest = sym (drop-take 21 o zs) ∙ ap (drop 21) alike ∙ drop-take 21 o held in
      read_past c h (Some (length xs)) zs begins
      ∙ read_up (length xs) 1 (drop 21 zs) xs (kept_stand 1 rest (drop 21 zs) xs standing.records_stand size fronts) (kept_on 1 rest (drop 21 zs) xs standing.records_stand on size fronts) (omega arith)
      (omega (arith, room_rest, length-drop o rest, length-drop o (drop 21 zs), size))
      ∙ ap (λ (l : List Record). Some l) (take_all (length xs) xs (omega arith))

-- where the first records end
offset_take : (xs : List Record) (n : ℕ) → n ≤ length xs → offset_of (take n xs) (length (take n xs)) ≡ offset_of xs n
offset_take [] zero low = refl
offset_take [] (suc n) low = refl
offset_take (x ∷ xs) zero low = refl
offset_take (x ∷ xs) (suc n) low = ap (λ (m : ℕ). length_of x + m) (offset_take xs n (omega (arith, low)))

start_some : (xs : List Record) → 1 ≤ length xs → start_behind xs ≡ 21 + offset_of xs (length xs)
start_some [] some = absurd (omega (arith, some))
start_some (x ∷ xs) some = refl

-- a track has as many bytes on images of one length
track_long : (g : Geometry) (track : ℕ) (i j : List ℕ) → length j ≡ length i → length (track_bytes j g track) ≡ length (track_bytes i g track)
unfolding track_bytes
track_long g track i j same =
    let at : ℕ = 512 + track * g.track_size in
    omega (arith, length-take g.track_size (drop at j), length-take g.track_size (drop at i), length-drop at j, length-drop at i, same)

-- A write after a buffer's records leaves the first of them on any image that has these, though it has not the others.
pub kept_behind : (b : Buffer) (new : List Record) (image : List ℕ) (r : ℕ) → HasGeometry (length image) b.geometry → b.track < tracks_of b.geometry → start_behind b.records + length (continuation b new) ≤ b.geometry.track_size → 1 ≤ r → r ≤ length b.records
    → records_on image b.geometry (Some r) b.track ≡ Some (take r b.records) → records_on (patched image (place_behind b) (continuation b new)) b.geometry (Some r) b.track ≡ Some (take r b.records)
unfolding records_on
kept_behind b new image r has low room first most is =
    let g : Geometry = b.geometry in
    let xs : List Record = b.records in
    let held : List ℕ = track_bytes image g b.track in
    let p = track_patched g b.track (start_behind xs) (continuation b new) image has low room in
    let long : length (take r xs) ≡ r = length-take-le r xs most in
    let at : start_behind xs ≡ 21 + offset_of xs (length xs) = start_some xs (omega (arith, first, most)) in
    let within : 21 + offset_of (take r xs) (length (take r xs)) ≤ start_behind xs = omega (arith, at, offset_take xs r most, offset_low xs r most) in
    let patch : List ℕ = patched held (start_behind xs) (continuation b new) in
    let kept : records_of (b.track / heads_of g) (b.track % heads_of g) (Some (length (take r xs))) patch ≡ Some (take r xs) =
    kept_of (b.track / heads_of g) (b.track % heads_of g) (Some r) held (take r xs) is patch
    (ap length (sym p.own) ∙ track_long g b.track image (patched image (place_behind b) (continuation b new)) p.size)
    (take-patched held (continuation b new) (21 + offset_of (take r xs) (length (take r xs))) (start_behind xs) within (omega (arith, room, p.long)))
    in
    ap (records_of (b.track / heads_of g) (b.track % heads_of g) (Some r)) p.own ∙ ap (λ (n : ℕ). records_of (b.track / heads_of g) (b.track % heads_of g) (Some n) patch) (sym long) ∙ kept
