-- Writes of one file that stands after others, and what a stop in them leaves.
use Rattle.std.specs.Prelude.{◌≡◌, ℕ, Bool, List, ◌++◌, length, take, replicate, None, Result, OnOk, if◌then◌else◌}
use Rattle.stop_model.specs.Files.{File, file_of}
use Rattle.stop_model.specs.Moments.{Meaning, Elapses}
use Rattle.pack_init.specs.Init.{with_file}

-- the files are these, and after them one of this name whose bytes have P
abbrev pub HasBehind : List File → List ℕ → (List ℕ → Type 0) → List File → Type 0
HasBehind base name P j = (image : List ℕ) × (j ≡ with_file base name image) × P image

-- Writes to the file of a name that none of the files before it has: what they make of it when they are done; and where a stop left before what has P, one in them and after them leaves what has P.
pub record Writes {T E : Type 0} (name : List ℕ) (P : List ℕ → Type 0) (after : List ℕ → List ℕ) (old new : Meaning (List File)) (result : Result T E) : Type 0 where
  pub printed : new.printed ≡ old.printed
  pub state : OnOk result ((base : List File) (image : List ℕ) → file_of base name ≡ None → old.state ≡ with_file base name image → new.state ≡ with_file base name (after image))
  pub left : (base : List File) → file_of base name ≡ None → ((j : List File) → old.left j → HasBehind base name P j) → (j : List File) → new.left j → HasBehind base name P j
  pub moments : (base : List File) → file_of base name ≡ None → ((j : List File) → old.left j → HasBehind base name P j) → Elapses old new (λ j p. HasBehind base name P j × (p ≡ old.printed))

-- the image has this length, and no header
pub record IsHeaderless (size : ℕ) (image : List ℕ) : Type 0 where
  pub whole : length image ≡ size
  pub zeros : take 512 image ≡ replicate 512 0

-- a header and a track 0, each written or still zeros, and the tracks after them
abbrev pub IsFrontWritten : List ℕ → List ℕ → List ℕ → List ℕ → Type 0
IsFrontWritten header label rest image =
    (h : Bool) × (l : Bool)
    × (image ≡ (if h then header else replicate 512 0)
    ++ ((if l then label else replicate (length label) 0) ++ rest))
