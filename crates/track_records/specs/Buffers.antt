-- What a buffer of a track holds, in this project's profile.
use Rattle.std.specs.Prelude.{◌≡◌, ℕ, ◌+◌, ◌==◌, ◌&&◌, Bool, true, List, [], ◌∷◌, ◌++◌, map, drop, Option, Some, None}
use Rattle.std.proofs.Common.{zero, suc}
use Rattle.ckd_image.specs.declared.header.Geometry.{Geometry}
use Rattle.ckd_image.specs.Track.{Record}
use Rattle.ckd_image.specs.Reading.{is_record_at, front_record, record_length}

-- a buffer: the geometry of its packs, its unit and track, counted from 0, and the records after R0
pub record Buffer : Type 0 where
  pub geometry : Geometry
  pub unit : ℕ
  pub track : ℕ
  pub records : List Record

-- the records that stand at these offsets of a track's bytes
abbrev pub records_at : List ℕ → List ℕ → List Record
records_at bytes places = map (λ at. front_record (drop at bytes)) places

-- at these offsets records stand one after another, the first of them as Rr at an offset of its own
abbrev pub are_places : ℕ → ℕ → List ℕ → List ℕ → Bool
are_places r at bytes [] = true
are_places r at bytes (p ∷ ps) = (p == at) && is_record_at r (drop at bytes) && are_places (suc r)
    (at + record_length (drop at bytes)) bytes ps

-- the offsets of so many records, the first of which has this one
abbrev pub places_from : ℕ → ℕ → List ℕ → List ℕ
places_from at zero bytes = []
places_from at (suc n) bytes = at ∷ places_from (at + record_length (drop at bytes)) n bytes

-- the key and the data are those of the record that is there
abbrev pub IsPartOf : Option Record → List ℕ → List ℕ → Type 0
IsPartOf None key content = ⊥
IsPartOf (Some x) key content = (x.key ≡ key) × (x.data ≡ content)

-- the bytes are the key and the data of the record that is there
abbrev pub IsContentOf : Option Record → List ℕ → Type 0
IsContentOf None bytes = ⊥
IsContentOf (Some x) bytes = bytes ≡ x.key ++ x.data
