-- What becomes of the TTRs in the user data of a directory entry where its member is copied, in this project's profile.
use Rattle.std.specs.Prelude.{◌≡◌, ℕ, zero, suc, ◌+◌, ◌*◌, ◌/◌, ◌%◌, ◌==◌, ◌&&◌, Bool, List, [], ◌∷◌, ◌++◌, position, slice_get, Option, Some, None, option_map, option_and_then, Result, Ok, Err, if◌then◌else◌}
use Rattle.vol_model.specs.declared.answers.BadTtr.{BadTtr}
use Rattle.vol_model.specs.declared.contents.Place.{Place}

-- the number of TTRs in user data, by the C byte of the entry
abbrev pub ttr_count : ℕ → ℕ
ttr_count flags = flags / 32 % 4

-- a place as a TTR with the zero after it
abbrev pub ttr_bytes : Place → List ℕ
ttr_bytes p = p.tt / 256 ∷ p.tt % 256 ∷ p.r ∷ 0 ∷ []

-- two places are one
abbrev pub is_place : Place → Place → Bool
is_place p q = q.tt == p.tt && q.r == p.r

-- the place of the copy of the block at a place: where it is the k-th of some, the k-th of the others
abbrev pub copied_place : List Place → List Place → Place → Option Place
copied_place from to p = option_and_then (slice_get to) (position (is_place p) from)

-- what stands for a TTR afterwards: zeros stay, and else it names the copy of the block that it named
abbrev pub moved_ttr : List Place → List Place → Place → Option (List ℕ)
moved_ttr from to p = if p.tt == 0 && p.r == 0 then Some (ttr_bytes p) else option_map ttr_bytes (copied_place from to p)

-- four bytes of user data as a TTR, if the last is zero
abbrev pub ttr_in : ℕ → ℕ → ℕ → ℕ → Option Place
ttr_in a b r d = if d == 0 then Some (record { tt = a * 256 + b; r = r }) else None

-- four bytes, once the TTR in them is moved
abbrev pub moved_bytes : List Place → List Place → ℕ → ℕ → ℕ → ℕ → Option (List ℕ)
moved_bytes from to a b r d = option_and_then (moved_ttr from to) (ttr_in a b r d)

-- one TTR, and what is after it, if both have a new place
abbrev pub joined_moves : Option (List ℕ) → Option (List ℕ) → Option (List ℕ)
joined_moves None rest = None
joined_moves (Some bytes) rest = option_map (λ (more : List ℕ). bytes ++ more) rest

-- user data that begin with so many TTRs, once each of them is moved; nothing where one has no new place, has a fourth byte that isn't zero, or isn't there whole
unfoldable pub moved : List Place → List Place → ℕ → List ℕ → Option (List ℕ)
moved from to zero user = Some user
moved from to (suc n) (a ∷ b ∷ r ∷ d ∷ rest) = joined_moves (moved_bytes from to a b r d) (moved from to n rest)
moved from to (suc n) user = None

-- user data are moved, or stay where that can't be
abbrev pub Moves : Result (Unit {0}) BadTtr → Option (List ℕ) → List ℕ → List ℕ → Type 0
Moves (Ok x) after old new = after ≡ Some new
Moves (Err e) after old new = (after ≡ None) × (new ≡ old)

-- four bytes are moved, or can't be
abbrev pub GivesTtr : Result (List ℕ) BadTtr → List ℕ → List Place → List Place → Type 0
GivesTtr (Ok new) old from to = moved from to 1 old ≡ Some new
GivesTtr (Err e) old from to = moved from to 1 old ≡ None
