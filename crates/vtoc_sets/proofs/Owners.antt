-- How many runs have a track: a track that is owned once is one of one set's tracks, once. And the data of a track, by its records.
use Rattle.std.proofs.Common.{◌≡◌, ◌≢◌, ◌⊎◌, ◌+◌, ◌≤◌, ◌<◌, ◌/◌, ◌%◌, ℕ, zero, suc, Bool, true, false, cond, List, [], ◌∷◌, ◌++◌, length, map, Option, Some, inl, inr, refl, sym, ap, ap₂, ◌∙◌, arith}
use Rattle.std.specs.Prelude.{slice_get, slice_index_or}
use Rattle.std.specs.List.{count_by, flat_map, range_with_len}
use Rattle.std.proofs.lemmas.Bool.{cases_lt}
use Rattle.std.proofs.lemmas.Bool.Decides.{nat_tests}
use Rattle.std.proofs.lemmas.List.{get_or_past}
use Rattle.std.proofs.lemmas.List.FromFn.{get_or-map-range_with_len, length-map-range_with_len}
use Rattle.std.proofs.lemmas.List.Sums.{sum_by-append, sum_by-cons}
use Rattle.ckd_image.specs.declared.header.Geometry.{Geometry}
use Rattle.ckd_image.specs.Reading.{records_of}
use Rattle.pack_spec.specs.Blocks.{data_track, data_tracks, owned_tracks, records_in}
use Rattle.pack_spec.specs.Label.{heads_of, records_on, track_bytes, tracks_of}
use Rattle.pack_spec.specs.Slots.{tracks_in}
use Rattle.vol_model.specs.declared.contents.Run.{Run}
use Rattle.vol_model.specs.Space.{is_in}

-- how many runs have a track
abbrev pub owners : ℕ → List Run → ℕ
owners t rs = count_by (is_in t) rs

pub owners_more : (t : ℕ) (r : Run) (rs : List Run) → owners t (r ∷ rs) ≡ cond (is_in t r) 1 0 + owners t rs
owners_more t r rs = sum_by-cons (λ (x : Run). cond (is_in t x) 1 0) r rs

owners_both : (t : ℕ) (rs ss : List Run) → owners t (rs ++ ss) ≡ owners t rs + owners t ss
owners_both t rs ss = sum_by-append (λ (x : Run). cond (is_in t x) 1 0) rs ss

-- the number of a track in a run
pub run_at : (a n k t : ℕ) → slice_get (range_with_len a n) k ≡ Some t → (t ≡ a + k) × (k < n)
run_at a zero k t is = cc
run_at a (suc n) zero t is = let same : a ≡ t = cc in (omega (arith, same), omega arith)
run_at a (suc n) (suc k) t is = let rest = run_at (a + 1) n k t is in (omega (arith, rest.0), omega (arith, rest.1))

pub is_within : (t : ℕ) (r : Run) → r.start ≤ t → t < r.start + r.len → is_in t r ≡ true
is_within t r low high = grind (arith, nat_tests)

has_track : (t : ℕ) (r : Run) (rs : List Run) (k : ℕ) → slice_get (tracks_in r) k ≡ Some t → owners t (r ∷ rs) ≡ 1 + owners t rs
has_track t r rs k is = let at = run_at r.start r.len k t is in owners_more t r rs ∙ ap (λ (b : Bool). cond b 1 0 + owners t rs) (is_within t r (omega (arith, at.0)) (omega (arith, at.0, at.1)))

-- what stands in one of two lists
pub either : (xs ys : List ℕ) (k x : ℕ) → slice_get (xs ++ ys) k ≡ Some x → (slice_get xs k ≡ Some x) ⊎ ((j : ℕ) × (k ≡ length xs + j) × (slice_get ys j ≡ Some x))
either [] ys k x is = inr (k, omega arith, is)
either (y ∷ xs) ys zero x is = inl is
either (y ∷ xs) ys (suc k) x is = elim (either xs ys k x is) [
  | inl w ↦ inl w
  | inr w ↦ inr (w.0, omega (arith, w.1), w.2)
]

-- of the runs that own a track, one has it
pub owned_some : (xs : List Run) (k t : ℕ) → slice_get (owned_tracks xs) k ≡ Some t → 1 ≤ owners t xs
unfolding owned_tracks
owned_some [] k t is = cc
owned_some (r ∷ rs) k t is = elim (either (tracks_in r) (flat_map tracks_in rs) k t is) [
  | inl w ↦ omega (arith, has_track t r rs k w)
  | inr w ↦ let rest = owned_some rs w.0 t w.2 in omega (arith, rest, owners_more t r rs)
]

-- A track that is owned once is one of a set's tracks once.
pub owned_apart : (xs : List Run) (k j t : ℕ) → slice_get (owned_tracks xs) k ≡ Some t → slice_get (owned_tracks xs) j ≡ Some t → owners t xs ≤ 1 → k ≡ j
unfolding owned_tracks
owned_apart [] k j t first second once = cc
owned_apart (r ∷ rs) k j t first second once =
    let more = owners_more t r rs in
    elim (either (tracks_in r) (flat_map tracks_in rs) k t first) [
      | inl w ↦ elim (either (tracks_in r) (flat_map tracks_in rs) j t second) [
        | inl u ↦ let p = run_at r.start r.len k t w in let q = run_at r.start r.len j t u in omega (arith, p.0, q.0)
        | inr u ↦ absurd (omega (arith, once, has_track t r rs k w, owned_some rs u.0 t u.2))
      ]
      | inr w ↦ elim (either (tracks_in r) (flat_map tracks_in rs) j t second) [
        | inl u ↦ absurd (omega (arith, once, has_track t r rs j u, owned_some rs w.0 t w.2))
        | inr u ↦ let same = owned_apart rs w.0 u.0 t w.2 u.2 (omega (arith, more, once)) in omega (arith, same, w.1, u.1)
      ]
    ]

-- the runs of all sets, by those of each
abbrev pub all_of : {X : Type 0} → (X → List Run) → List X → List Run
all_of h fs = flat_map h fs

pub one_of : {X : Type 0} (h : X → List Run) (t : ℕ) (fs : List X) (m : ℕ) (x : X) → slice_get fs m ≡ Some x → owners t (h x) ≤ owners t (all_of h fs)
one_of h t [] m x is = cc
one_of {X = X} h t (f ∷ fs) zero x is =
    let same : f ≡ x = cc in
    let mine : owners t (h x) ≡ owners t (h f) = ap (λ (y : X). owners t (h y)) (sym same) in
    omega (arith, mine, owners_both t (h f) (all_of h fs))
one_of h t (f ∷ fs) (suc m) x is = omega (arith, one_of h t fs m x is, owners_both t (h f) (all_of h fs))

-- two sets of a list have no track together that is owned once
pub two_of : {X : Type 0} (h : X → List Run) (t : ℕ) (fs : List X) (m n : ℕ) (x y : X) → slice_get fs m ≡ Some x → slice_get fs n ≡ Some y → m ≢ n → owners t (h x) + owners t (h y) ≤ owners t (all_of h fs)
two_of h t [] m n x y first second apart = cc
two_of h t (f ∷ fs) zero zero x y first second apart = absurd (apart refl)
two_of {X = X} h t (f ∷ fs) zero (suc n) x y first second apart =
    let same : f ≡ x = cc in
    let mine : owners t (h x) ≡ owners t (h f) = ap (λ (z : X). owners t (h z)) (sym same) in
    omega (arith, mine, one_of h t fs n y second, owners_both t (h f) (all_of h fs))
two_of {X = X} h t (f ∷ fs) (suc m) zero x y first second apart =
    let same : f ≡ y = cc in
    let mine : owners t (h y) ≡ owners t (h f) = ap (λ (z : X). owners t (h z)) (sym same) in
    omega (arith, mine, one_of h t fs m x first, owners_both t (h f) (all_of h fs))
two_of h t (f ∷ fs) (suc m) (suc n) x y first second apart = omega (arith, two_of h t fs m n x y first second (λ e. apart (ap suc e)), owners_both t (h f) (all_of h fs))

-- what is the same at each place of a list
pub map_at : {X Y : Type 0} (f h : X → Y) (xs : List X) → ((m : ℕ) (x : X) → slice_get xs m ≡ Some x → f x ≡ h x) → map f xs ≡ map h xs
map_at f h [] same = refl
map_at {Y = Y} f h (x ∷ xs) same = ap₂ (λ (y : Y) (ys : List Y). y ∷ ys) (same zero x refl) (map_at f h xs (λ m y is. same (suc m) y is))

-- the data of a track, by its records
pub data_read : (image : List ℕ) (g : Geometry) (vtoc : Run) (u : Option ℕ) (t : ℕ) → is_in t vtoc ≡ false → t < tracks_of g → records_in g (data_tracks image g vtoc) u t ≡ records_on image g u t
unfolding records_in records_on data_tracks
data_read image g vtoc u t out inside =
    ap (records_of (t / heads_of g) (t % heads_of g) u)
    (get_or-map-range_with_len (data_track image g vtoc) 0 (tracks_of g) t t [] inside (omega arith) ∙ ap (λ (b : Bool). cond b [] (track_bytes image g t)) out)

pub data_past : (image : List ℕ) (g : Geometry) (vtoc : Run) (u : Option ℕ) (t : ℕ) → tracks_of g ≤ t → records_in g (data_tracks image g vtoc) u t ≡ records_of (t / heads_of g) (t % heads_of g) u []
unfolding records_in data_tracks
data_past image g vtoc u t past = ap (records_of (t / heads_of g) (t % heads_of g) u) (get_or_past (map (data_track image g vtoc) (range_with_len 0 (tracks_of g))) t [] (omega (arith, past, length-map-range_with_len (data_track image g vtoc) 0 (tracks_of g))))

-- images that are read alike on a track have the same data of it
pub on_same : (g : Geometry) (vtoc : Run) (before after : List ℕ) (u : Option ℕ) (t : ℕ) → is_in t vtoc ≡ false → records_on after g u t ≡ records_on before g u t → records_in g (data_tracks after g vtoc) u t ≡ records_in g (data_tracks before g vtoc) u t
on_same g vtoc before after u t out same = elim (cases_lt t (tracks_of g)) [
  | inl w ↦ data_read after g vtoc u t out w ∙ same ∙ sym (data_read before g vtoc u t out w)
  | inr w ↦ data_past after g vtoc u t w ∙ sym (data_past before g vtoc u t w)
]

-- what is the same at a place of two tables
same_in : (f h : ℕ → List ℕ) (n low k : ℕ) → f (low + k) ≡ h (low + k) → slice_index_or (map f (range_with_len low n)) k [] ≡ slice_index_or (map h (range_with_len low n)) k []
same_in f h zero low k same = refl
same_in f h (suc n) low zero same = let here : low + zero ≡ low = omega arith in ap f (sym here) ∙ same ∙ ap h here
same_in f h (suc n) low (suc k) same = let next : low + 1 + k ≡ low + suc k = omega arith in same_in f h n (low + 1) k (ap f next ∙ same ∙ ap h (sym next))

-- and so have those that have the same bytes there
pub read_bytes : (g : Geometry) (vtoc : Run) (before after : List ℕ) (u : Option ℕ) (t : ℕ) → track_bytes after g t ≡ track_bytes before g t → records_in g (data_tracks after g vtoc) u t ≡ records_in g (data_tracks before g vtoc) u t
unfolding records_in data_tracks
read_bytes g vtoc before after u t same =
    let here : 0 + t ≡ t = omega arith in
    ap (records_of (t / heads_of g) (t % heads_of g) u)
    (same_in (data_track after g vtoc) (data_track before g vtoc) (tracks_of g) 0 t
    (ap (data_track after g vtoc) here ∙ ap (λ (bytes : List ℕ). cond (is_in t vtoc) [] bytes) same ∙ ap (data_track before g vtoc) (sym here)))
