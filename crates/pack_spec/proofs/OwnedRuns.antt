-- The owned runs of a volume whatever the order of its data sets: how many have a track, and which tracks none has.
use Rattle.std.proofs.Common.{◌≡◌, ℕ, zero, suc, ◌+◌, ◌≤◌, ◌<◌, inl, inr, not, ◌||◌, ◌==◌, Bool, true, false, cond, List, [], ◌∷◌, ◌++◌, filter, map, nat_le, nat_lt, ◌&&◌, Option, Some, None, refl, sym, ap, ◌∙◌, arith}
use Rattle.std.specs.List.{count_by, flat_map, list_any, range_with_len, slice_get, sum_by}
use Rattle.std.specs.List.Sorted.{IsPermutation}
use Rattle.std.proofs.lemmas.Bool.Decides.{nat_tests, eqb_tells}
use Rattle.std.proofs.lemmas.List.Folds.{list_any-append}
use Rattle.std.proofs.lemmas.List.Sorted.{sum_by-IsPermutation}
use Rattle.std.proofs.lemmas.List.Sums.{sum_by-append, sum_by-cons}
use Rattle.vol_model.specs.declared.contents.DataSet.{DataSet}
use Rattle.vol_model.specs.declared.contents.Run.{Run}
use Rattle.vol_model.specs.declared.contents.Volume.{Volume}
use Rattle.vol_model.specs.Lawful.{owned_runs}
use Rattle.vol_model.specs.Space.{covers, is_in, is_unowned}

-- how many runs have a track
abbrev owners : ℕ → List Run → ℕ
owners t rs = count_by (is_in t) rs

-- how many extents of a data set do
abbrev owned_by : ℕ → DataSet → ℕ
owned_by t x = owners t x.extents

-- the runs that are owned, where these are the data sets
abbrev pub runs_owned : Run → List DataSet → List Run
runs_owned vtoc sets = record { start = 0; len = 1 } ∷ vtoc ∷ flat_map (λ (x : DataSet). x.extents) sets

owners_more : (t : ℕ) (r : Run) (rs : List Run) → owners t (r ∷ rs) ≡ cond (is_in t r) 1 0 + owners t rs
owners_more t r rs = sum_by-cons (λ (x : Run). cond (is_in t x) 1 0) r rs

-- of all extents as many as of each data set in turn
owners_flat : (t : ℕ) (xs : List DataSet) → owners t (flat_map (λ (x : DataSet). x.extents) xs) ≡ sum_by (owned_by t) xs
owners_flat t [] = refl
owners_flat t (x ∷ xs) =
    sum_by-append (λ (r : Run). cond (is_in t r) 1 0) x.extents (flat_map (λ (y : DataSet). y.extents) xs)
    ∙ ap (λ (n : ℕ). owned_by t x + n) (owners_flat t xs)
    ∙ sym (sum_by-cons (owned_by t) x xs)

pub owners_permuted : (t : ℕ) (vtoc : Run) (xs ys : List DataSet) → IsPermutation xs ys → owners t (runs_owned vtoc ys) ≡ owners t (runs_owned vtoc xs)
owners_permuted t vtoc xs ys moved =
    let first : Run = record { start = 0; len = 1 } in
    let ex : List Run = flat_map (λ (x : DataSet). x.extents) xs in
    let ey : List Run = flat_map (λ (x : DataSet). x.extents) ys in
    let sets : owners t ey ≡ owners t ex = owners_flat t ys ∙ sum_by-IsPermutation (owned_by t) xs ys moved ∙ sym (owners_flat t xs) in
    let less : owners t (vtoc ∷ ey) ≡ owners t (vtoc ∷ ex) = owners_more t vtoc ey ∙ ap (λ (n : ℕ). cond (is_in t vtoc) 1 0 + n) sets ∙ sym (owners_more t vtoc ex) in
    owners_more t first (vtoc ∷ ey) ∙ ap (λ (n : ℕ). cond (is_in t first) 1 0 + n) less ∙ sym (owners_more t first (vtoc ∷ ex))

-- a track that some run has
pub covers_owners : (t : ℕ) (rs : List Run) → covers rs t ≡ nat_lt 0 (owners t rs)
covers_owners t [] = refl
covers_owners t (r ∷ rs) = ap (λ b. is_in t r || b) (covers_owners t rs) ∙ (by (is_in t r) (owners t rs) ∙ ap (λ (n : ℕ). nat_lt 0 n) (sym (owners_more t r rs)))
  where
    by : (b : Bool) (n : ℕ) → (b || nat_lt 0 n) ≡ nat_lt 0 (cond b 1 0 + n)
    by true n = grind (arith, nat_tests)
    by false n = grind (arith, nat_tests)

-- a track is free where no owned run has it
any_flat : (t : ℕ) (xs : List DataSet) → list_any (is_in t) (flat_map (λ (x : DataSet). x.extents) xs) ≡ list_any (λ (x : DataSet). covers x.extents t) xs
any_flat t [] = refl
any_flat t (x ∷ xs) =
    list_any-append (is_in t) x.extents (flat_map (λ (y : DataSet). y.extents) xs) ∙ ap (λ b. covers x.extents t || b) (any_flat t xs)

pub unowned_covers : (volume : Volume) (t : ℕ) → is_unowned volume t ≡ not (covers (owned_runs volume) t)
unowned_covers volume t =
    let sets = any_flat t volume.sets in
    rw sets (by t (is_in t volume.vtoc || list_any (λ (x : DataSet). covers x.extents t) volume.sets))
  where
    by : (t : ℕ) (b : Bool) → not (t == 0 || b) ≡ not ((nat_le 0 t && nat_lt t (0 + 1)) || b)
    by t b = grind (arith, nat_tests)
