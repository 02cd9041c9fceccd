-- What is written part by part is a track, and is read as the records that were put there.
use Rattle.std.proofs.Common.{◌≡◌, ◌≢◌, ℕ, zero, suc, ◌+◌, ◌<◌, ◌≤◌, List, [], ◌∷◌, ◌++◌, length, take, drop, get_or, replicate, Some, None, refl, sym, ap, subst, ◌∙◌, arith, append_assoc, length-append, length-take-le, take-append-drop}
use Rattle.std.proofs.lemmas.Nat.{from_be_bytes-to_be_bytes_2}
use Rattle.std.specs.Int.{w16, from_be_bytes, to_be_bytes}
use Rattle.ckd_image.specs.Track.{Record, IsRecord, IsR0, AreRecords, IsTrack, IsTrackUpTo, end_marker, count_of, record_bytes, records_bytes, home_address}
use Rattle.ckd_image.specs.Reading.{records_of}
use Rattle.ckd_image.specs.Writing.{record_on, track_bytes}
use Rattle.ckd_image.proofs.Grammar.{follows_read}

-- no count of a cylinder below 65,535 is the end marker
no_marker : (c h r : ℕ) (key content : List ℕ) → c < 65535 → count_of r (record_on c h key content) ≢ end_marker
no_marker c h r key content below e =
    let two : to_be_bytes w16 c ≡ take 2 end_marker = ap (take 2) e in
    let high : c ≡ 65535 = sym (from_be_bytes-to_be_bytes_2 c (omega arith)) ∙ ap (from_be_bytes w16) two in
    omega arith

-- a record that is put on a track may stand there
pub record_stands : (c h r : ℕ) (key content : List ℕ) → c < 65535 → r < 256 → length key < 256 → length content < 65536 → IsRecord r (record_on c h key content)
record_stands c h r key content below number key_fits data_fits = record {
  number = number;
  four = refl;
  key_fits = key_fits;
  data_fits = data_fits;
  count = no_marker c h r key content below;
}

-- R0 as it is written
r0_stands : (c h : ℕ) → IsR0 (record_on c h [] (replicate 8 0))
r0_stands c h = record {
  stands = record {
    number = omega arith;
    four = refl;
    key_fits = omega arith;
    data_fits = omega arith;
    count = λ e. let r : ◌≡◌ {A = ℕ} 0 255 = ap (λ (ys : List ℕ). get_or ys 4 0) e in omega arith;
  };
  no_key = refl;
  eight = refl;
}

-- records after others go on with their numbers
pub records_bytes-append : (r : ℕ) (front back : List Record) → records_bytes r (front ++ back) ≡ records_bytes r front ++ records_bytes (r + length front) back
records_bytes-append r [] back = ap (λ k. records_bytes k back) (omega arith)
records_bytes-append r (x ∷ xs) back =
    ap (λ bs. record_bytes r x ++ bs) (records_bytes-append (suc r) xs back)
    ∙ sym (append_assoc (record_bytes r x) (records_bytes (suc r) xs) (records_bytes (suc r + length xs) back))
    ∙ ap (λ k. (record_bytes r x ++ records_bytes (suc r) xs) ++ records_bytes k back) (omega arith)

pub AreRecords-append : (r : ℕ) (front back : List Record) → AreRecords r front → AreRecords (r + length front) back → AreRecords r (front ++ back)
AreRecords-append r [] back first last = subst (λ k. AreRecords k back) (omega arith) last
AreRecords-append r (x ∷ xs) back first last = (first.0, AreRecords-append (suc r) xs back first.1 (subst (λ k. AreRecords k back) (omega arith) last))

AreRecords-take : (n r : ℕ) (rs : List Record) → AreRecords r rs → AreRecords r (take n rs)
AreRecords-take zero r rs stand = tt
AreRecords-take (suc n) r [] stand = tt
AreRecords-take (suc n) r (x ∷ xs) stand = (stand.0, AreRecords-take n (suc r) xs stand.1)

-- the front, records and an end marker are a track with these records
pub written_track : (c h : ℕ) (rs : List Record) (rest : List ℕ) → AreRecords 1 rs → IsTrack c h rs (track_bytes c h rs rest)
written_track c h rs rest stand = record {
  first = 0;
  r0 = record_on c h [] (replicate 8 0);
  rest = rest;
  zero_stands = r0_stands c h;
  stand = stand;
  parts = append_assoc (home_address 0 c h) (record_bytes 0 (record_on c h [] (replicate 8 0))) (records_bytes 1 rs ++ (end_marker ++ rest));
}

-- they are what is read
pub written_whole : (c h : ℕ) (rs : List Record) (rest : List ℕ) → AreRecords 1 rs → records_of c h None (track_bytes c h rs rest) ≡ Some rs
written_whole c h rs rest stand = follows_read c h None rs _ (written_track c h rs rest stand)

-- and up to one of them, those up to it
pub written_up_to : (c h r : ℕ) (rs : List Record) (rest : List ℕ) → AreRecords 1 rs → r ≤ length rs → records_of c h (Some r) (track_bytes c h rs rest) ≡ Some (take r rs)
unfolding written_track
written_up_to c h r rs rest stand within =
    let behind = records_bytes (1 + length (take r rs)) (drop r rs) in
    let long : length (take r rs) ≡ r = length-take-le r rs within in
    let split : records_bytes 1 rs ≡ records_bytes 1 (take r rs) ++ behind = ap (records_bytes 1) (sym (take-append-drop r rs)) ∙ records_bytes-append 1 (take r rs) (drop r rs) in
    let parts = written_track c h rs rest stand in
    let up_to : IsTrackUpTo c h (take r rs) (track_bytes c h rs rest) = record {
      first = 0;
      r0 = parts.r0;
      rest = behind ++ (end_marker ++ rest);
      zero_stands = parts.zero_stands;
      stand = AreRecords-take r 1 rs stand;
      parts =
          parts.parts
          ∙ ap (λ bs. home_address 0 c h ++ (record_bytes 0 parts.r0 ++ bs))
          (ap (λ bs. bs ++ (end_marker ++ rest)) split ∙ append_assoc (records_bytes 1 (take r rs)) behind (end_marker ++ rest));
      room = omega (arith, length-append behind (end_marker ++ rest), length-append end_marker rest);
    } in
    follows_read c h (Some r) (take r rs) _ (up_to, long)
