-- Runs on a pack of which no track stands in two have no more tracks than the pack.
use Rattle.std.proofs.Common.{◌≡◌, ◌+◌, ◌*◌, ◌≤◌, ◌<◌, ◌&&◌, min, nat_le, nat_lt, ℕ, zero, suc, Bool, true, false, cond, List, [], ◌∷◌, refl, arith}
use Rattle.std.proofs.lemmas.Bool.Decides.{nat_tests}
use Rattle.std.proofs.lemmas.List.Sums.{sum_by-cons}
use Rattle.std.specs.List.{AllByRecursion, count_by}
use Rattle.ckd_image.specs.declared.device.DiskType.{DiskType}
use Rattle.ckd_image.specs.declared.device.DiskType.TheVariants.{D2311, D2314, D3330, D3350}
use Rattle.ckd_image.specs.declared.header.Geometry.{Geometry}
use Rattle.ckd_image.specs.Device.{row_of}
use Rattle.vol_model.specs.declared.contents.Run.{Run}
use Rattle.vol_model.specs.Lawful.{IsOnPack}
use Rattle.vol_model.specs.Places.{tracks_in}
use Rattle.vol_model.specs.Space.{is_in}
use Rattle.pack_spec.specs.Label.{tracks_of}

-- how many runs have a track
abbrev owners : ℕ → List Run → ℕ
owners t rs = count_by (is_in t) rs

owners-cons : (t : ℕ) (r : Run) (rs : List Run) → owners t (r ∷ rs) ≡ cond (is_in t r) 1 0 + owners t rs
owners-cons t r rs = sum_by-cons (λ (x : Run). cond (is_in t x) 1 0) r rs

-- the sum of a number for each of the first tracks
abbrev amount : (ℕ → ℕ) → ℕ → ℕ
amount f zero = 0
amount f (suc n) = f n + amount f n

amount_same : (f g : ℕ → ℕ) → ((t : ℕ) → f t ≡ g t) → (n : ℕ) → amount f n ≡ amount g n
amount_same f g e n = λ i. amount (λ t. e t i) n

amount_sum : (f g : ℕ → ℕ) (n : ℕ) → amount (λ t. f t + g t) n ≡ amount f n + amount g n
amount_sum f g zero = omega arith
amount_sum f g (suc n) = let rest = amount_sum f g n in omega (arith, rest)

amount_most : (f : ℕ → ℕ) → ((t : ℕ) → f t ≤ 1) → (n : ℕ) → amount f n ≤ n
amount_most f one zero = omega arith
amount_most f one (suc n) = let rest = amount_most f one n in let here = one n in omega (arith, rest, here)

-- a run's tracks among the first ones
in_front : (r : Run) (n : ℕ) → min n (r.start + r.len) ≤ r.start + amount (λ t. cond (is_in t r) 1 0) n
in_front r zero = omega arith
in_front r (suc n) = step r.start (r.start + r.len) n (amount (λ t. cond (is_in t r) 1 0) n) (nat_le r.start n) refl (nat_lt n (r.start + r.len)) refl (in_front r n)
  where
    past : (start stop n a : ℕ) → nat_lt n stop ≡ false → min n stop ≤ start + a → min (suc n) stop ≤ start + (0 + a)
    past start stop n a f h = grind (arith, nat_tests)

    before : (start stop n a : ℕ) → nat_le start n ≡ false → min n stop ≤ start + a → min (suc n) stop ≤ start + (0 + a)
    before start stop n a f h = grind (arith, nat_tests)

    step : (start stop n a : ℕ) (b : Bool) → nat_le start n ≡ b → (c : Bool) → nat_lt n stop ≡ c → min n stop ≤ start + a → min (suc n) stop ≤ start + (cond (b && c) 1 0 + a)
    step start stop n a true e true f h = omega arith
    step start stop n a true e false f h = past start stop n a f h
    step start stop n a false e true f h = before start stop n a e h
    step start stop n a false e false f h = before start stop n a e h

-- the tracks of runs that lie among the first ones
runs_amount : (g : Geometry) (rs : List Run) → AllByRecursion (IsOnPack g) rs → tracks_in rs ≤ amount (λ t. owners t rs) (tracks_of g)
runs_amount g [] all = omega arith
runs_amount g (r ∷ rs) all =
    let rest = runs_amount g rs all.1 in
    let here = in_front r (tracks_of g) in
    let within = all.0.1 in
    let sum = sum_by-cons (λ (r : Run). r.len) r rs in
    let split = amount_same (λ t. owners t (r ∷ rs)) (λ t. cond (is_in t r) 1 0 + owners t rs) (λ t. owners-cons t r rs) (tracks_of g) in
    let both = amount_sum (λ t. cond (is_in t r) 1 0) (λ t. owners t rs) (tracks_of g) in
    omega (arith, rest, here, within, sum, split, both)

pack_size : (d : DiskType) (cylinders : ℕ) → cylinders ≤ (row_of d).most_cylinders → cylinders * (row_of d).heads < 65535
pack_size D2311 cylinders c = omega arith
pack_size D2314 cylinders c = omega arith
pack_size D3330 cylinders c = omega arith
pack_size D3350 cylinders c = omega arith

-- so each can be said in a TTR
pub few_owned : (g : Geometry) (rs : List Run) → g.cylinders ≤ (row_of g.device).most_cylinders → AllByRecursion (IsOnPack g) rs → ((t : ℕ) → owners t rs ≤ 1) → tracks_in rs < 65535
few_owned g rs most all once =
    let tracks = runs_amount g rs all in
    let few = amount_most (λ t. owners t rs) once (tracks_of g) in
    let size = pack_size g.device g.cylinders most in
    omega (arith, tracks, few, size)
