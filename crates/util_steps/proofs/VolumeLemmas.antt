-- The search for the volume of a serial.
use Rattle.std.proofs.Common.{◌≡◌, ℕ, zero, suc, ◌+◌, ◌<◌, ◌≤◌, Bool, true, false, cond, not, List, [], ◌∷◌, length, refl, sym, ◌∙◌, ap, subst, arith}
use Rattle.std.proofs.lemmas.Bool.Decides.{nat_tests}
use Rattle.std.specs.Prelude.{Option, Some, None, nat_lt, option_map, slice_get}
use Rattle.std.specs.List.{position, position_or_len}
use Rattle.std.specs.Str.{bytes_eq}
use Rattle.vol_model.specs.declared.answers.VolumeInfo.{VolumeInfo}
use Rattle.vol_model.specs.declared.contents.Volume.{Volume}
use Rattle.vol_model.specs.Reading.{volume_info}

-- the volume has this serial
abbrev pub has_serial : List ℕ → Volume → Bool
has_serial serial volume = bytes_eq volume.serial.bytes serial

module _ {X : Type 0} (p : X → Bool) where
  -- the first that passes stands after one that doesn't
  behind_first : (v n : ℕ) (t : Bool) → suc v ≤ cond (not t) (1 + n) 0 → (v ≤ n → v + 1 ≤ n) → suc v + 1 ≤ cond (not t) (1 + n) 0
  behind_first v n true low more = absurd (omega (arith, low))
  behind_first v n false low more = omega (arith, more (omega (arith, low)))

  pub passed_more : (xs : List X) (v : ℕ) (x : X) → v ≤ position_or_len p xs → slice_get xs v ≡ Some x → p x ≡ false → v + 1 ≤ position_or_len p xs
  passed_more [] v x low is fails = let never : ⊥ = cc in absurd never
  passed_more (y ∷ ys) zero x low is fails =
      let same : y ≡ x = cc in
      let fails_here : p y ≡ false = ap p same ∙ fails in
      subst (λ (t : Bool). 0 + 1 ≤ cond (not t) (1 + position_or_len p ys) 0) (sym fails_here) (omega arith)
  passed_more (y ∷ ys) (suc v) x low is fails = behind_first v (position_or_len p ys) (p y) low (λ l. passed_more ys v x l is fails)

  at_first : (v n l : ℕ) (t : Bool) → suc v ≤ cond (not t) (1 + n) 0 → (v ≤ n → (n ≡ v) × (v < l)) → (cond (not t) (1 + n) 0 ≡ suc v) × (suc v < suc l)
  at_first v n l true low more = absurd (omega (arith, low))
  at_first v n l false low more = let here = more (omega (arith, low)) in (omega (arith, here.0), omega (arith, here.1))

  found_at : (xs : List X) (v : ℕ) (x : X) → v ≤ position_or_len p xs → slice_get xs v ≡ Some x → p x ≡ true → (position_or_len p xs ≡ v) × (v < length xs)
  found_at [] v x low is passes = let never : ⊥ = cc in absurd never
  found_at (y ∷ ys) zero x low is passes =
      let same : y ≡ x = cc in
      let passes_here : p y ≡ true = ap p same ∙ passes in
      (subst (λ (t : Bool). cond (not t) (1 + position_or_len p ys) 0 ≡ 0) (sym passes_here) refl, omega arith)
  found_at (y ∷ ys) (suc v) x low is passes = at_first v (position_or_len p ys) (length ys) (p y) low (λ l. found_at ys v x l is passes)

  by_place : (n l v : ℕ) → n ≡ v → v < l → cond (nat_lt n l) (Some n) None ≡ Some v
  by_place n l v here below =
      let so : nat_lt n l ≡ true = grind (arith, nat_tests) in
      ap (λ (t : Bool). cond t (Some n) None) so ∙ ap (λ (k : ℕ). Some k) here

  -- this one is the first that passes
  pub position_here : (xs : List X) (v : ℕ) (x : X) → v ≤ position_or_len p xs → slice_get xs v ≡ Some x → p x ≡ true → position p xs ≡ Some v
  position_here xs v x low is passes = let here = found_at xs v x low is passes in by_place (position_or_len p xs) (length xs) v here.0 here.1

  -- where all were passed there is none
  pub position_none : (xs : List X) (v : ℕ) → v ≤ position_or_len p xs → length xs ≤ v → position p xs ≡ None
  position_none xs v low past =
      let so : nat_lt (position_or_len p xs) (length xs) ≡ false = grind (arith, nat_tests) in
      ap (λ (t : Bool). cond t (Some (position_or_len p xs)) None) so

-- where a list has nothing at a place, it ends before it
pub past_end : {X : Type 0} (xs : List X) (v : ℕ) → slice_get xs v ≡ None → length xs ≤ v
past_end [] v none = omega arith
past_end (x ∷ xs) zero none = let never : ⊥ = cc in absurd never
past_end (x ∷ xs) (suc v) none = omega (arith, past_end xs v none)

-- the volume of which a machine told this in short
pub record TellsVolume (volumes : List Volume) (v : ℕ) (info : VolumeInfo) : Type 0 where
  pub volume : Volume
  pub at : slice_get volumes v ≡ Some volume
  pub is : info ≡ volume_info volume
  pub serial : info.serial.bytes ≡ volume.serial.bytes

pub tells_volume : (volumes : List Volume) (v : ℕ) (info : VolumeInfo) → Some info ≡ option_map volume_info (slice_get volumes v) → TellsVolume volumes v info
unfolding volume_info
tells_volume volumes v info told = by_get (slice_get volumes v) refl told
  where
    by_get : (o : Option Volume) → slice_get volumes v ≡ o → Some info ≡ option_map volume_info o → TellsVolume volumes v info
    by_get None at told = let never : ⊥ = cc in absurd never
    by_get (Some volume) at told = let same : info ≡ volume_info volume = cc in record { volume = volume; at = at; is = same; serial = ap (λ (i : VolumeInfo). i.serial.bytes) same }

-- it told of none
pub no_volume : (volumes : List Volume) (v : ℕ) → None ≡ option_map volume_info (slice_get volumes v) → slice_get volumes v ≡ None
no_volume volumes v told = by_get (slice_get volumes v) refl told
  where
    by_get : (o : Option Volume) → slice_get volumes v ≡ o → None ≡ option_map volume_info o → slice_get volumes v ≡ None
    by_get None at told = at
    by_get (Some volume) at told = let never : ⊥ = cc in absurd never
