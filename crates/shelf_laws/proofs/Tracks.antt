-- Tracks that are chosen were free: with them no track is owned twice, and they lie on the pack.
use Rattle.std.proofs.Common.{◌≡◌, ◌⊎◌, inl, inr, ⊎_elim, ◌+◌, ◌-◌, ◌*◌, ◌≤◌, ◌<◌, ◌==◌, ◌&&◌, ◌||◌, ℕ, zero, suc, min, not, nat_le, nat_lt, Bool, true, false, cond, List, [], ◌∷◌, ◌++◌, length, filter, refl, sym, ◌∙◌, ap, arith}
use Rattle.std.proofs.Math.Nat.{mul-le-mul_right}
use Rattle.std.proofs.lemmas.Bool.Decides.{nat_tests}
use Rattle.std.proofs.lemmas.List.Sums.{sum_by-cons}
use Rattle.std.specs.Prelude.{Some}
use Rattle.std.specs.List.{AllByRecursion, count_by, flat_map, list_all, list_any, range_with_len}
use Rattle.ckd_image.specs.declared.device.DiskType.{DiskType}
use Rattle.ckd_image.specs.declared.device.DiskType.TheVariants.{D2311, D2314, D3330, D3350}
use Rattle.ckd_image.specs.Device.{row_of}
use Rattle.vol_model.specs.declared.contents.DataSet.{DataSet}
use Rattle.vol_model.specs.declared.contents.Run.{Run}
use Rattle.vol_model.specs.declared.contents.Volume.{Volume}
use Rattle.vol_model.specs.declared.requests.SpaceUnit.{SpaceUnit}
use Rattle.vol_model.specs.declared.requests.SpaceUnit.TheVariants.{Track, Cylinder}
use Rattle.vol_model.specs.Lawful.{IsOnPack, owned_runs}
use Rattle.vol_model.specs.Space.{AreTaken, choice, choice_from, chosen, covers, free_units, is_in, is_unowned, runs_of, usable_cylinders}
use Rattle.vol_model.proofs.Taken.{choice_from-taken}

-- how many of these runs a track is in
abbrev pub owners : ℕ → List Run → ℕ
owners t runs = count_by (is_in t) runs

pub owners-cons : (t : ℕ) (r : Run) (rs : List Run) → owners t (r ∷ rs) ≡ cond (is_in t r) 1 0 + owners t rs
owners-cons t r rs = sum_by-cons (λ (r : Run). cond (is_in t r) 1 0) r rs

pub owners-append : (t : ℕ) (rs ss : List Run) → owners t (rs ++ ss) ≡ owners t rs + owners t ss
owners-append t [] ss = omega arith
owners-append t (r ∷ rs) ss = owners-cons t r (rs ++ ss) ∙ ap (λ (n : ℕ). cond (is_in t r) 1 0 + n) (owners-append t rs ss) ∙ plus (cond (is_in t r) 1 0) (owners t rs) (owners t ss) ∙ ap (λ (n : ℕ). n + owners t ss) (sym (owners-cons t r rs))
  where
    plus : (a b c : ℕ) → a + (b + c) ≡ a + b + c
    plus a b c = omega arith

-- ---- what is taken

-- a track is in none of the extents that are taken, or in one, and then it was free
abbrev IsTaken : (ℕ → Bool) → ℕ → List Run → Type 0
IsTaken has t es = (owners t es ≡ 0) ⊎ ((owners t es ≡ 1) × (has t ≡ true))

taken_first : (has : ℕ → Bool) (t : ℕ) (e : Run) (es : List Run) (b : Bool) → is_in t e ≡ b → (is_in t e ≡ true → has t ≡ true) → IsTaken (λ u. has u && not (is_in u e)) t es → IsTaken has t (e ∷ es)
taken_first has t e es true is had (inl none) = inr (owners-cons t e es ∙ ap (λ b. cond b 1 0 + owners t es) is ∙ ap (λ (n : ℕ). 1 + n) none, had is)
taken_first has t e es true is had (inr one) = let no : (has t && not true) ≡ true = ap (λ b. has t && not b) (sym is) ∙ one.1 in absurd (never (has t) no)
  where
    never : (b : Bool) → (b && false) ≡ true → ⊥
    never true e = cc
    never false e = cc
taken_first has t e es false is had (inl none) = inl (owners-cons t e es ∙ ap (λ b. cond b 1 0 + owners t es) is ∙ ap (λ (n : ℕ). 0 + n) none)
taken_first has t e es false is had (inr one) = inr (owners-cons t e es ∙ ap (λ b. cond b 1 0 + owners t es) is ∙ ap (λ (n : ℕ). 0 + n) one.0, first (has t) (not (is_in t e)) one.1)
  where
    first : (a b : Bool) → (a && b) ≡ true → a ≡ true
    first true b e = refl
    first false b e = e

pub taken_owners : (has : ℕ → Bool) (t : ℕ) (es : List Run) → AreTaken has es → IsTaken has t es
taken_owners has t [] h = inl refl
taken_owners has t (e ∷ es) h = taken_first has t e es (is_in t e) refl (h.1 t) (taken_owners (λ u. has u && not (is_in u e)) t es h.2)

-- ---- what is free isn't owned

none_covers : (t : ℕ) (rs : List Run) → covers rs t ≡ false → owners t rs ≡ 0
none_covers t [] e = refl
none_covers t (r ∷ rs) e = let both = parts (is_in t r) (covers rs t) e in owners-cons t r rs ∙ ap (λ b. cond b 1 0 + owners t rs) both.0 ∙ ap (λ (n : ℕ). 0 + n) (none_covers t rs both.1)
  where
    parts : (a b : Bool) → (a || b) ≡ false → (a ≡ false) × (b ≡ false)
    parts true b e = absurd (let no = e in cc)
    parts false b e = (refl, e)

-- the extents of data sets, joined
abbrev pub extents_of : List DataSet → List Run
extents_of sets = flat_map (λ (x : DataSet). x.extents) sets

none_owns : (t : ℕ) (sets : List DataSet) → list_any (λ (x : DataSet). covers x.extents t) sets ≡ false → owners t (extents_of sets) ≡ 0
none_owns t [] e = refl
none_owns t (x ∷ sets) e = let both = parts (covers x.extents t) (list_any (λ (x : DataSet). covers x.extents t) sets) e in owners-append t x.extents (extents_of sets) ∙ ap (λ (n : ℕ). n + owners t (extents_of sets)) (none_covers t x.extents both.0) ∙ ap (λ (n : ℕ). 0 + n) (none_owns t sets both.1)
  where
    parts : (a b : Bool) → (a || b) ≡ false → (a ≡ false) × (b ≡ false)
    parts true b e = absurd (let no = e in cc)
    parts false b e = (refl, e)

pub unowned_none : (volume : Volume) (t : ℕ) → is_unowned volume t ≡ true → owners t (owned_runs volume) ≡ 0
unowned_none volume t e =
    let both = parts (t == 0) (is_in t volume.vtoc) (list_any (λ (x : DataSet). covers x.extents t) volume.sets) e in
    let zero_run : Run = record { start = 0; len = 1 } in
    owners-cons t zero_run (volume.vtoc ∷ extents_of volume.sets)
    ∙ ap (λ b. cond b 1 0 + owners t (volume.vtoc ∷ extents_of volume.sets)) (not_zero t both.0)
    ∙ ap (λ (n : ℕ). 0 + n) (owners-cons t volume.vtoc (extents_of volume.sets) ∙ ap (λ b. cond b 1 0 + owners t (extents_of volume.sets)) both.1 ∙ ap (λ (n : ℕ). 0 + n) (none_owns t volume.sets both.2))
  where
    parts : (a b c : Bool) → not (a || (b || c)) ≡ true → (a ≡ false) × (b ≡ false) × (c ≡ false)
    parts true b c e = absurd (let no = e in cc)
    parts false true c e = absurd (let no = e in cc)
    parts false false true e = absurd (let no = e in cc)
    parts false false false e = (refl, refl, refl)

    not_zero : (t : ℕ) → (t == 0) ≡ false → (nat_le 0 t && nat_lt t (0 + 1)) ≡ false
    not_zero t e = grind (arith, nat_tests)

-- ---- what is chosen lies on the pack

all_same : (p q : ℕ → Bool) (n a : ℕ) → ((t : ℕ) → a ≤ t → t < a + n → p t ≡ q t) → list_all p (range_with_len a n) ≡ list_all q (range_with_len a n)
all_same p q zero a h = refl
all_same p q (suc n) a h = ap (λ b. b && list_all p (range_with_len (a + 1) n)) (h a (omega arith) (omega arith)) ∙ ap (λ b. q a && b) (all_same p q n (a + 1) (λ t l u. h t (omega arith) (omega arith)))

range_same : (p q : ℕ → Bool) (n a : ℕ) → ((t : ℕ) → a ≤ t → t < a + n → p t ≡ q t) → filter p (range_with_len a n) ≡ filter q (range_with_len a n)
range_same p q zero a h = refl
range_same p q (suc n) a h = ap (λ b. cond b (a ∷ filter p (range_with_len (a + 1) n)) (filter p (range_with_len (a + 1) n))) (h a (omega arith) (omega arith)) ∙ ap (λ l. cond (q a) (a ∷ l) l) (range_same p q n (a + 1) (λ t l u. h t (omega arith) (omega arith)))

-- tracks below a limit
abbrev pub below : ℕ → (ℕ → Bool) → ℕ → Bool
below limit has t = has t && nat_lt t limit

units_same : (has : ℕ → Bool) (size count limit : ℕ) → count * size ≤ limit → free_units has size count ≡ free_units (below limit has) size count
units_same has size count limit h =
    range_same (λ u. list_all has (range_with_len (u * size) size)) (λ u. list_all (below limit has) (range_with_len (u * size) size)) count 0
    (λ u l v. all_same has (below limit has) size (u * size) (λ t m n.
    let w : (u + 1) * size ≤ count * size = mul-le-mul_right size (omega arith) in
    let k : (u + 1) * size ≡ u * size + size = omega arith in
    here (has t) t limit (omega arith)))
  where
    here : (b : Bool) (t limit : ℕ) → t < limit → b ≡ (b && nat_lt t limit)
    here true t limit l = grind (arith, nat_tests)
    here false t limit l = refl

choice_same : (has : ℕ → Bool) (cylinders heads : ℕ) (unit : SpaceUnit) (contig : Bool) (n : ℕ) → choice_from has cylinders heads unit contig n ≡ choice_from (below (cylinders * heads) has) cylinders heads unit contig n
unfolding choice_from
choice_same has cylinders heads Track contig n = ap (λ (us : List ℕ). chosen 1 contig (runs_of us) n) (units_same has 1 (cylinders * heads) (cylinders * heads) (omega arith))
choice_same has cylinders heads Cylinder contig n = ap (λ (us : List ℕ). chosen heads contig (runs_of us) n) (units_same has heads cylinders (cylinders * heads) (omega arith))

heads_some : (d : DiskType) → 0 < (row_of d).heads
heads_some D2311 = omega arith
heads_some D2314 = omega arith
heads_some D3330 = omega arith
heads_some D3350 = omega arith

within_each : (limit : ℕ) (has : ℕ → Bool) (es : List Run) → ((t : ℕ) → has t ≡ true → t < limit) → AreTaken has es → AllByRecursion (λ (e : Run). (1 ≤ e.len) × (e.start + e.len ≤ limit)) es
within_each limit has [] h taken = tt
within_each limit has (e ∷ es) h taken =
    let some = taken.0 in
    let last = h (e.start + e.len - 1) (taken.1 (e.start + e.len - 1) (in_last e some)) in
    ((some, omega arith), within_each limit (λ u. has u && not (is_in u e)) es (λ t k. h t (first (has t) (not (is_in t e)) k)) taken.2)
  where
    in_last : (e : Run) → 1 ≤ e.len → (nat_le e.start (e.start + e.len - 1) && nat_lt (e.start + e.len - 1) (e.start + e.len)) ≡ true
    in_last e some = grind (arith, nat_tests)

    first : (a b : Bool) → (a && b) ≡ true → a ≡ true
    first true b e = refl
    first false b e = e

-- Extents are chosen: few of them, on the pack, and no track that they have is owned, or is in two of them.
pub record AreNew (volume : Volume) (es : List Run) : Type 0 where
  pub few : length es ≤ 5
  pub on_pack : AllByRecursion (IsOnPack volume.geometry) es
  pub once : (t : ℕ) → owners t (owned_runs volume) ≤ 1 → owners t (owned_runs volume) + owners t es ≤ 1

pub choice_new : (volume : Volume) (unit : SpaceUnit) (contig : Bool) (n : ℕ) (es : List Run) → choice volume unit contig n ≡ Some es → AreNew volume es
unfolding choice
choice_new volume unit contig n es e =
    let heads = (row_of volume.geometry.device).heads in
    let cylinders = usable_cylinders volume.geometry in
    let limit = cylinders * heads in
    let has = is_unowned volume in
    let taken = choice_from-taken (below limit has) cylinders heads unit contig n es (heads_some volume.geometry.device) (sym (choice_same has cylinders heads unit contig n) ∙ e) in
    let less : limit ≤ volume.geometry.cylinders * heads = mul-le-mul_right heads (lower volume.geometry.cylinders (row_of volume.geometry.device).primary_cylinders) in
    record {
      few = taken.1;
      on_pack = weaker limit (volume.geometry.cylinders * heads) less es (within_each limit (below limit has) es (λ t k. second (has t) t limit k) taken.0);
      once = λ t l. ⊎_elim (λ none. omega (arith, none, l)) (λ one. let none = unowned_none volume t (first (has t) (nat_lt t limit) one.1) in omega (arith, none, one.0)) (taken_owners (below limit has) t es taken.0);
    }
  where
    lower : (a b : ℕ) → min a b ≤ a
    lower a b = omega arith

    second : (b : Bool) (t limit : ℕ) → (b && nat_lt t limit) ≡ true → t < limit
    second true t limit e = grind (arith, nat_tests)
    second false t limit e = cc

    first : (a b : Bool) → (a && b) ≡ true → a ≡ true
    first true b e = refl
    first false b e = e

    weaker : (low high : ℕ) → low ≤ high → (es : List Run) → AllByRecursion (λ (e : Run). (1 ≤ e.len) × (e.start + e.len ≤ low)) es → AllByRecursion (λ (e : Run). (1 ≤ e.len) × (e.start + e.len ≤ high)) es
    weaker low high l [] all = tt
    weaker low high l (e ∷ es) all = let h = all.0.1 in ((all.0.0, omega arith), weaker low high l es all.1)
