-- Lists of runs that grow one by one: the extents of a data set as they are read, and the free runs as its tracks come back.
use Rattle.std.proofs.Common.{◌≡◌, inl, inr, ℕ, zero, suc, ◌+◌, ◌-◌, min, ◌≤◌, ◌<◌, ◌||◌, ◌&&◌, Bool, true, false, nat_le, nat_lt, List, [], ◌∷◌, length, take, map, get_or, Some, None, refl, sym, ap, subst, ◌∙◌, arith, length-take}
use Rattle.std.specs.Prelude.{replicate, slice_get, slice_set}
use Rattle.std.proofs.lemmas.Bool.{and_parts, leb-true, lt-ltb}
use Rattle.std.proofs.lemmas.Bool.Decides.{leb_tells, nat_tests}
use Rattle.std.proofs.lemmas.List.{length-map, take_all}
use Rattle.std.proofs.lemmas.List.Folds.{list_any_more}
use Rattle.ckd_image.specs.declared.header.Geometry.{Geometry}
use Rattle.dscb_codec.specs.declared.F1.{F1}
use Rattle.pack_spec.specs.declared.slot.VtocSlot.{VtocSlot}
use Rattle.pack_spec.specs.Rules.{counted_extents, has_extents}
use Rattle.pack_spec.specs.Vtoc.{run_of_extent}
use Rattle.vol_model.specs.declared.contents.Run.{Run}
use Rattle.vol_model.specs.Space.{AreMaximal, covers, is_in}
use Rattle.space_alloc.specs.Edits.{AreWith}
use Rattle.std.proofs.Math.Nat.{mul-le-mul_right}
use Rattle.ckd_image.specs.Device.{row_of}
use Rattle.ckd_image.specs.Header.{HasGeometry}
use Rattle.pack_spec.specs.Label.{tracks_of}
use Rattle.vol_model.specs.Space.{usable_cylinders}
use Rattle.vtoc_index.proofs.OwnedVolumes.{few_tracks}
use Rattle.dadsm_ops.specs.Scratching.{AreFreed, usable_tracks}

-- a run without a track
abbrev pub no_run : Run
no_run = record { start = 0; len = 0 }

in_none : (t : ℕ) → is_in t (record { start = 0; len = 0 }) ≡ false
in_none t = grind (arith, nat_tests)

or_false : (b : Bool) → (b || false) ≡ b
or_false true = refl
or_false false = refl

or_swap : (a b : Bool) → (a || b) ≡ (b || a)
or_swap true true = refl
or_swap true false = refl
or_swap false true = refl
or_swap false false = refl

or_assoc : (a b c : Bool) → (a || (b || c)) ≡ ((a || b) || c)
or_assoc true b c = refl
or_assoc false b c = refl

-- runs of which an empty one is set
set_covers : (rs : List Run) (k : ℕ) (r : Run) (t : ℕ) → slice_get rs k ≡ Some (record { start = 0; len = 0 }) → covers (slice_set rs k r) t ≡ (covers rs t || is_in t r)
set_covers [] k r t is = cc
set_covers (x ∷ rs) zero r t is =
    let same : x ≡ record { start = 0; len = 0 } = cc in
    or_swap (is_in t r) (covers rs t) ∙ sym (ap (λ (b : Bool). (b || covers rs t) || is_in t r) (ap (is_in t) same ∙ in_none t))
set_covers (x ∷ rs) (suc k) r t is = ap (λ (b : Bool). is_in t x || b) (set_covers rs k r t is) ∙ or_assoc (is_in t x) (covers rs t) (is_in t r)

set_other : (rs : List Run) (k j : ℕ) (r : Run) → k < j → slice_get (slice_set rs k r) j ≡ slice_get rs j
set_other [] k j r low = refl
set_other (x ∷ rs) zero zero r low = absurd (omega (arith, low))
set_other (x ∷ rs) zero (suc j) r low = refl
set_other (x ∷ rs) (suc k) zero r low = absurd (omega (arith, low))
set_other (x ∷ rs) (suc k) (suc j) r low = set_other rs k j r (omega (arith, low))

-- the first ones and one more, or no more
more_covers : (es : List Run) (k : ℕ) (r : Run) (t : ℕ) → slice_get es k ≡ Some r → covers (take (k + 1) es) t ≡ (covers (take k es) t || is_in t r)
more_covers es k r t is = let next : k + 1 ≡ suc k = omega arith in ap (λ (n : ℕ). covers (take n es) t) next ∙ by_list es k is
  where
    by_list : (es : List Run) (k : ℕ) → slice_get es k ≡ Some r → covers (take (suc k) es) t ≡ (covers (take k es) t || is_in t r)
    by_list [] k is = cc
    by_list (x ∷ es) zero is = let same : x ≡ r = cc in or_false (is_in t x) ∙ ap (is_in t) same
    by_list (x ∷ es) (suc k) is = ap (λ (b : Bool). is_in t x || b) (by_list es k is) ∙ or_assoc (is_in t x) (covers (take k es) t) (is_in t r)

no_more : (es : List Run) (k : ℕ) → slice_get es k ≡ None → take (k + 1) es ≡ take k es
no_more es k is = let next : k + 1 ≡ suc k = omega arith in ap (λ (n : ℕ). take n es) next ∙ by_list es k is
  where
    by_list : (es : List Run) (k : ℕ) → slice_get es k ≡ None → take (suc k) es ≡ take k es
    by_list [] zero is = refl
    by_list [] (suc k) is = refl
    by_list (x ∷ es) zero is = cc
    by_list (x ∷ es) (suc k) is = ap (λ (l : List Run). x ∷ l) (by_list es k is)

-- Sixteen places of which the first ones have the tracks of as many extents, and the others none.
pub record AreRead (runs : List Run) (k : ℕ) : Type 0 where
  pub size : length runs ≡ 16
  pub empty : (j : ℕ) → k ≤ j → j < 16 → slice_get runs j ≡ Some (record { start = 0; len = 0 })

-- they have the tracks of the first ones of these
abbrev pub HaveFirst : List Run → ℕ → List Run → Type 0
HaveFirst runs k extents = (track : ℕ) → covers runs track ≡ covers (take k extents) track

pub read_set : (runs : List Run) (k : ℕ) (r : Run) → k < 16 → length (slice_set runs k r) ≡ length runs → AreRead runs k → AreRead (slice_set runs k r) (k + 1)
read_set runs k r low size are = record {
  size = size ∙ are.size;
  empty = λ j from below. set_other runs k j r (omega (arith, from)) ∙ are.empty j (omega (arith, from)) below;
}

pub read_more : (runs : List Run) (k : ℕ) → AreRead runs k → AreRead runs (k + 1)
read_more runs k are = record { size = are.size; empty = λ j from below. are.empty j (omega (arith, from)) below }

pub first_set : (runs : List Run) (k : ℕ) (r : Run) (extents : List Run) → k < 16 → AreRead runs k → Some r ≡ slice_get extents k → HaveFirst runs k extents → HaveFirst (slice_set runs k r) (k + 1) extents
first_set runs k r extents low are is have track =
    set_covers runs k r track (are.empty k (omega arith) low) ∙ ap (λ (b : Bool). b || is_in track r) (have track) ∙ sym (more_covers extents k r track (sym is))

pub first_more : (runs : List Run) (k : ℕ) (extents : List Run) → None ≡ slice_get extents k → HaveFirst runs k extents → HaveFirst runs (k + 1) extents
first_more runs k extents is have track = have track ∙ ap (λ (l : List Run). covers l track) (sym (no_more extents k (sym is)))

-- a data set has no more than sixteen extents
few_taken : (n : ℕ) (xs : List (List ℕ)) → length (take n xs) ≤ n
few_taken n xs = omega (arith, length-take n xs)

few_extents : (g : Geometry) (slots : List VtocSlot) (f : F1) → has_extents g slots f ≡ true → length (map (run_of_extent g) (counted_extents slots f)) ≤ 16
unfolding has_extents counted_extents
few_extents g slots f has =
    let parts = and_parts (nat_le f.extents 16) _ has in
    let few : length (counted_extents slots f) ≤ f.extents = few_taken f.extents _ in
    omega (arith, length-map (counted_extents slots f) (run_of_extent g), few, leb-true f.extents 16 parts.0)

-- so the sixteen first are all
pub first_all : (g : Geometry) (slots : List VtocSlot) (f : F1) (runs : List Run) → has_extents g slots f ≡ true → HaveFirst runs 16 (map (run_of_extent g) (counted_extents slots f)) → (track : ℕ) → covers runs track ≡ covers (map (run_of_extent g) (counted_extents slots f)) track
first_all g slots f runs has have track = have track ∙ ap (λ (l : List Run). covers l track) (take_all 16 (map (run_of_extent g) (counted_extents slots f)) (few_extents g slots f has))

-- ---- the free runs

pub freed_none : (limit : ℕ) (old runs : List Run) → AreMaximal old → AreFreed limit old (take 0 runs) old
freed_none limit old runs maximal = record {
  maximal = maximal;
  tracks = λ track low. sym (or_false (covers old track));
  within = λ most over ends. ends;
}

pub freed_more : (limit : ℕ) (old mid new runs : List Run) (i : ℕ) (r part : Run) → i < length runs → r ≡ get_or runs i r → part.start + part.len ≤ limit → ((track : ℕ) → track < limit → is_in track part ≡ is_in track r) → AreFreed limit old (take i runs) mid → AreWith mid part new
    → AreFreed limit old (take (i + 1) runs) new
freed_more limit old mid new runs i r part low item ends same are with = record {
  maximal = with.maximal;
  tracks = λ track below.
      with.tracks track
      ∙ ap (λ (b : Bool). b || is_in track part) (are.tracks track below)
      ∙ ap (λ (b : Bool). (covers old track || covers (take i runs) track) || b) (same track below ∙ ap (is_in track) item)
      ∙ sym (or_assoc (covers old track) (covers (take i runs) track) (is_in track (get_or runs i r)))
      ∙ ap (λ (b : Bool). covers old track || b) (sym (list_any_more (is_in track) runs i r low));
  within = λ most over ends_old. with.within most (are.within most over ends_old) (omega (arith, ends, over));
}

pub freed_all : (limit : ℕ) (old new runs : List Run) (i : ℕ) → length runs ≤ i → AreFreed limit old (take i runs) new → AreFreed limit old runs new
freed_all limit old new runs i all are = subst (λ (l : List Run). AreFreed limit old l new) (take_all i runs all) are

-- ---- the part of a run on the first tracks

not_less : (n m : ℕ) → m ≤ n → nat_lt n m ≡ false
not_less n m le = grind (arith, nat_tests)

not_over : (n m : ℕ) → m < n → nat_le n m ≡ false
not_over n m less = grind (arith, nat_tests)

last_tracks : (start len tracks t : ℕ) → tracks ≤ 65535 → t < tracks → start ≤ t → nat_lt t (start + (min (min (start + len) 65535) tracks - start)) ≡ nat_lt t (start + len)
last_tracks start len tracks t most low from = elim (leb_tells (start + len) t) [
  | inl w ↦ not_less t (start + (min (min (start + len) 65535) tracks - start)) (omega (arith, w.1, from, low, most)) ∙ sym (not_less t (start + len) w.1)
  | inr w ↦ lt-ltb t (start + (min (min (start + len) 65535) tracks - start)) (omega (arith, w.1, from, low, most)) ∙ sym (lt-ltb t (start + len) (omega (arith, w.1)))
]

part_at : (start len tracks t first : ℕ) → first ≡ min start tracks → tracks ≤ 65535 → t < tracks
    → (nat_le first t && nat_lt t (first + (min (min (start + len) 65535) tracks - first))) ≡ (nat_le start t && nat_lt t (start + len))
part_at start len tracks t first is most low = elim (leb_tells start t) [
  | inl w ↦
      let same : first ≡ start = omega (arith, is, w.1, low) in
      ap (λ (n : ℕ). nat_le n t && nat_lt t (n + (min (min (start + len) 65535) tracks - n))) same ∙ ap (λ (b : Bool). nat_le start t && b) (last_tracks start len tracks t most low w.1)
  | inr w ↦
      let over : t < first = omega (arith, is, w.1, low) in
      ap (λ (b : Bool). b && nat_lt t (first + (min (min (start + len) 65535) tracks - first))) (not_over first t over) ∙ sym (ap (λ (b : Bool). b && nat_lt t (start + len)) w.0)
]

-- it has those of the run's tracks
pub part_tracks : (start len tracks first end t : ℕ) → first ≡ min start tracks → end ≡ min (min (start + len) 65535) tracks → tracks ≤ 65535 → t < tracks → is_in t (record { start = first; len = end - first }) ≡ is_in t (record { start = start; len = len })
part_tracks start len tracks first end t is ends most low =
    ap (λ (n : ℕ). nat_le first t && nat_lt t (first + (n - first))) ends ∙ part_at start len tracks t first is most low

-- ---- no extent is read yet

none_covered : (n t : ℕ) → covers (replicate n (record { start = 0; len = 0 })) t ≡ false
none_covered zero t = refl
none_covered (suc n) t = ap (λ (b : Bool). b || covers (replicate n (record { start = 0; len = 0 })) t) (in_none t) ∙ none_covered n t

none_there : (n j : ℕ) → j < n → slice_get (replicate n (let none : Run = record { start = 0; len = 0 } in none)) j ≡ Some (record { start = 0; len = 0 })
none_there zero j low = absurd (omega (arith, low))
none_there (suc n) zero low = refl
none_there (suc n) (suc j) low = none_there n j (omega (arith, low))

pub read_none : AreRead (replicate 16 (record { start = 0; len = 0 })) 0
read_none = record { size = refl; empty = λ j from below. none_there 16 j below }

none_first : (extents : List Run) (t : ℕ) → covers (take 0 extents) t ≡ false
none_first [] t = refl
none_first (x ∷ extents) t = refl

pub first_none : (extents : List Run) → HaveFirst (replicate 16 (record { start = 0; len = 0 })) 0 extents
first_none extents track = none_covered 16 track ∙ sym (none_first extents track)

pub none_read : (t : ℕ) → covers (replicate 16 (record { start = 0; len = 0 })) t ≡ false
none_read t = none_covered 16 t

-- the usable tracks are some of the pack's, fewer than 65,536
pub usable_inside : (g : Geometry) → usable_tracks g ≤ tracks_of g
usable_inside g =
    let fewer : usable_cylinders g ≤ g.cylinders = omega arith in
    mul-le-mul_right {m = usable_cylinders g} {n = g.cylinders} (row_of g.device).heads fewer

pub usable_few : (g : Geometry) → (len : ℕ) × HasGeometry len g → usable_tracks g ≤ 65535
usable_few g whole = omega (arith, usable_inside g, few_tracks g whole)
