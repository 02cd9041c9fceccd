-- A new directory that is written track by track.
use Rattle.std.proofs.Common.{◌≡◌, ◌≢◌, ◌+◌, ◌-◌, ◌*◌, ◌≤◌, ◌<◌, ℕ, Bool, true, false, cond, List, [], ◌∷◌, ◌++◌, length, map, min, Some, None, Result, Ok, Err, inl, inr, sym, ap, ◌∙◌, subst, arith, length-append}
use Rattle.std.specs.Prelude.{◌==◌, IsErr, OnOk, replicate, slice_get}
use Rattle.std.proofs.Math.Nat.{mul-le-mul_right}
use Rattle.std.proofs.lemmas.Bool.Decides.{eqb_tells}
use Rattle.std.proofs.lemmas.List.{length-map}
use Rattle.std.proofs.lemmas.List.FromFn.{length-range_with_len}
use Rattle.ckd_image.specs.declared.device.DiskType.{DiskType}
use Rattle.ckd_image.specs.declared.header.Geometry.{Geometry}
use Rattle.ckd_image.specs.Fit.{fits}
use Rattle.ckd_image.specs.Track.{Record}
use Rattle.stop_model.specs.Files.{File}
use Rattle.stop_model.specs.Moments.{Meaning}
use Rattle.stop_model.proofs.BlockLemmas.{keeps_none, keeps_not, keeps_then}
use Rattle.pack_spec.specs.Blocks.{owned_tracks}
use Rattle.pack_spec.specs.Directories.{new_block, new_numbers, new_records}
use Rattle.pack_spec.proofs.NewPlaces.{numbers_on, per_track, place_of}
use Rattle.vol_model.specs.declared.contents.Place.{Place}
use Rattle.vol_model.specs.declared.contents.Run.{Run}
use Rattle.vol_model.specs.Places.{directory_end, directory_lengths, directory_place, end_of_file}
use Rattle.dadsm_ops.specs.Operations.{image_named}
use Rattle.dadsm_ops.specs.Formatting.{AreAll, AreOn, Formats, IsFormatted, WritesOn, contents_of}
use Rattle.slot_laws.proofs.SameSlots.{by_bytes}

-- ---- each track up to that of the end-of-file record has a record

end_low : (device : DiskType) (n : ℕ) → (directory_end device n).tt ≤ (directory_place device (n - 1)).tt + 1
unfolding directory_end
end_low device n = by (fits device (replicate p.r directory_lengths) 0 0)
  where
    p : Place
    p = directory_place device (n - 1)

    by : (b : Bool) → let q : Place = cond b (record { tt = p.tt; r = p.r + 1 }) (record { tt = p.tt + 1; r = 1 }) in q.tt ≤ p.tt + 1
    by true = omega arith
    by false = omega arith

pub some_records : (device : DiskType) (n k : ℕ) → 1 ≤ n → k ≤ (directory_end device n).tt → new_records device n k ≡ [] → ⊥
some_records device n k some low none = elim (eqb_tells (directory_end device n).tt k) [
  | inl w ↦ ends w.0
  | inr w ↦ blocks (omega (arith, low, w.1))
]
  where
    long : (b : Bool) → length (map new_block (new_numbers device n k)) + length (cond b (end_of_file ∷ []) []) ≡ length (map new_block (new_numbers device n k) ++ cond b (end_of_file ∷ []) [])
    long b = sym (length-append (map new_block (new_numbers device n k)) (cond b (end_of_file ∷ []) []))

    ends : ((directory_end device n).tt == k) ≡ true → ⊥
    ends is =
        let one : map new_block (new_numbers device n k) ++ cond true (end_of_file ∷ []) [] ≡ [] = ap (λ (b : Bool). map new_block (new_numbers device n k) ++ cond b (end_of_file ∷ []) []) (sym is) ∙ none in
        omega (arith, long true, ap length one)

    blocks : k < (directory_end device n).tt → ⊥
    blocks before =
        let c : ℕ = per_track device in
        let at = place_of device (n - 1) in
        let upto : k ≤ (directory_place device (n - 1)).tt = omega (arith, before, end_low device n) in
        let few : k * c ≤ (directory_place device (n - 1)).tt * c = mul-le-mul_right {m = k} {n = (directory_place device (n - 1)).tt} c upto in
        let many : length (new_numbers device n k) ≡ min c (n - k * c) = ap length (numbers_on device n k) ∙ length-range_with_len (k * c) (min c (n - k * c)) in
        let all : length (map new_block (new_numbers device n k)) ≡ length (new_numbers device n k) = length-map (new_numbers device n k) new_block in
        omega (arith, at.number, at.some, at.few, few, many, all, some, long ((directory_end device n).tt == k), ap length none)

-- ---- one track after another

pub formats_none : {E : Type 0} (name : List ℕ) (g : Geometry) (runs : List Run) (n : ℕ) (m : Meaning (List File)) → Formats {T = Unit {0}} {E = E} name g runs n 0 m m (Ok tt)
formats_none name g runs n m = record { keeps = λ before left. keeps_none (AreOn name g runs before) m left; tracks = λ k low. absurd (omega (arith, low)) }

pub formats_not : {T E A B : Type 0} {name : List ℕ} {g : Geometry} {runs : List Run} {n k track end : ℕ} {xs : List Record} {old mid new : Meaning (List File)} {x : A} {result : Result T E} (answer : Result A B) → IsErr answer → Formats {T = A} {E = B} name g runs n k old mid (Ok x) → slice_get (owned_tracks runs) k ≡ Some track
    → WritesOn name g track xs mid new result → Formats name g runs n end old new answer
formats_not {A = A} {B = B} {runs = runs} {k = k} answer failed one there two = record {
  keeps = λ before left. let first = one.keeps before left in keeps_then first (keeps_not answer failed (two.keeps runs k before there first.left));
  tracks = none _ answer failed;
}
  where
    none : (P : Type 0) (r : Result A B) → IsErr r → OnOk r P
    none P (Ok y) is = cc
    none P (Err e) is = tt

pub formats_then : {T E A B : Type 0} {name : List ℕ} {g : Geometry} {runs : List Run} {n k track : ℕ} {xs : List Record} {old mid new : Meaning (List File)} {x : A} {y : T} → Formats {T = A} {E = B} name g runs n k old mid (Ok x) → slice_get (owned_tracks runs) k ≡ Some track
    → ((i j t : ℕ) → slice_get (owned_tracks runs) i ≡ Some t → slice_get (owned_tracks runs) j ≡ Some t → i ≡ j) → 1 ≤ n → k ≤ (directory_end g.device n).tt
    → WritesOn {T = T} {E = E} name g track xs mid new (Ok y) → contents_of xs ≡ new_records g.device n k → Formats {T = A} {E = B} name g runs n (k + 1) old new (Ok x)
formats_then {name = name} {g = g} {runs = runs} {n = n} {k = k} {track = track} {xs = xs} {mid = mid} {new = new} one there apart some low two holds = record {
  keeps = λ before left. let first = one.keeps before left in let kept = keeps_then first (two.keeps runs k before there first.left) in record { printed = kept.printed; done = kept.done; left = kept.left; moments = kept.moments };
  tracks = λ j up. elim (eqb_tells j k) [
    | inl w ↦ subst (IsFormatted (image_named new.state name) g runs n) (sym w.1) this
    | inr w ↦ earlier j (omega (arith, up, w.1))
  ];
}
  where
    this : IsFormatted (image_named new.state name) g runs n k
    this = by two.all
      where
        by : AreAll (image_named new.state name) g track xs → IsFormatted (image_named new.state name) g runs n k
        by (inl none) = absurd (some_records g.device n k some low (sym holds ∙ ap contents_of none))
        by (inr all) = record { track = track; there = there; xs = xs; records = all; holds = holds }

    earlier : (j : ℕ) → j < k → IsFormatted (image_named new.state name) g runs n j
    earlier j before =
        let was = one.tracks j before in
        let other : was.track ≢ track = λ same. let both : j ≡ k = apart j k track (was.there ∙ ap (λ (t : ℕ). Some t) same) there in omega (arith, both, before) in
        record { track = was.track; there = was.there; xs = was.xs; records = by_bytes g None was.track (image_named mid.state name) (image_named new.state name) (two.others was.track other) ∙ was.records; holds = was.holds }

-- the same of an equal geometry, and of equal runs
pub formats_as : {T E : Type 0} {name : List ℕ} {n end : ℕ} {old new : Meaning (List File)} {result : Result T E} (g h : Geometry) (runs rs : List Run) → h ≡ g → rs ≡ runs → Formats name h rs n end old new result → Formats name g runs n end old new result
formats_as {name = name} {n = n} {end = end} {old = old} {new = new} {result = result} g h runs rs geometry same w =
    subst (λ (l : List Run). Formats name g l n end old new result) same (subst (λ (x : Geometry). Formats name x rs n end old new result) geometry w)
