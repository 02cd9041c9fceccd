-- Records of a track, and one of them with another key and other data of the same lengths, in this project's profile.
use Rattle.std.specs.Prelude.{◌≡◌, ℕ, ◌+◌, List, [], ◌∷◌, length, drop, true}
use Rattle.std.proofs.Common.{zero, suc}
use Rattle.ckd_image.specs.Track.{Record}
use Rattle.ckd_image.specs.Reading.{is_record_at, front_record, record_length}

-- count, key and data of a record, in bytes
abbrev pub length_of : Record → ℕ
length_of x = 8 + length x.key + length x.data

-- where the k-th record stands, in bytes from where the first one does; counted from 0
abbrev pub offset_of : List Record → ℕ → ℕ
offset_of [] k = 0
offset_of (x ∷ xs) zero = 0
offset_of (x ∷ xs) (suc k) = length_of x + offset_of xs k

-- records of which the k-th has this key and these data, counted from 0
abbrev pub with_parts : ℕ → List ℕ → List ℕ → List Record → List Record
with_parts k key content [] = []
with_parts zero key content (x ∷ xs) = record x { key = key; «data» = content } ∷ xs
with_parts (suc k) key content (x ∷ xs) = x ∷ with_parts k key content xs

-- the k-th of these records has a key and data of these lengths
abbrev pub HasLengths : List Record → ℕ → ℕ → ℕ → Type 0
HasLengths [] k key_length data_length = ⊥
HasLengths (x ∷ xs) zero key_length data_length = (key_length ≡ length x.key)
    × (data_length ≡ length x.data)
HasLengths (x ∷ xs) (suc k) key_length data_length = HasLengths xs k key_length data_length

-- for lemmas: these records stand one after another from the front on, the first of them as Rr
abbrev pub StandFrom : ℕ → List ℕ → List Record → Type 0
StandFrom r bytes [] = Unit {0}
StandFrom r bytes (x ∷ xs) = (is_record_at r bytes ≡ true)
    × ((x ≡ front_record bytes) × StandFrom (suc r) (drop (record_length bytes) bytes) xs)
