-- The grammar of a CKD track, in the layout of a Hercules image: a home address, R0, R1 to Rn, an end marker, and any rest.
use Rattle.std.specs.Prelude.{◌≡◌, ◌≢◌, ℕ, ◌+◌, ◌<◌, ◌≤◌, List, [], ◌∷◌, ◌++◌, length, take, Option, Some, None}
use Rattle.std.proofs.Common.{suc}
use Rattle.std.specs.Int.{w16, to_be_bytes}

-- a record: CC and HH of its count, which aren't judged, its key and its data
pub record Record : Type 0 where
  pub address : List ℕ
  pub key : List ℕ
  pub «data» : List ℕ

-- eight X'FF'
abbrev pub end_marker : List ℕ
end_marker = 255 ∷ 255 ∷ 255 ∷ 255 ∷ 255 ∷ 255 ∷ 255 ∷ 255 ∷ []

-- CC, HH, R, the key's length and the data's
abbrev pub count_of : ℕ → Record → List ℕ
count_of r x = x.address ++ (r ∷ length x.key ∷ to_be_bytes w16 (length x.data))

-- the bytes of a record as Rr
abbrev pub record_bytes : ℕ → Record → List ℕ
record_bytes r x = count_of r x ++ (x.key ++ x.data)

-- the bytes of records, the first of them Rr
abbrev pub records_bytes : ℕ → List Record → List ℕ
records_bytes r [] = []
records_bytes r (x ∷ xs) = record_bytes r x ++ records_bytes (suc r) xs

-- a record may stand as Rr: its numbers fit their fields, and its count isn't the end marker
pub record IsRecord (r : ℕ) (x : Record) : Type 0 where
  pub number : r < 256
  pub four : length x.address ≡ 4
  pub key_fits : length x.key < 256
  pub data_fits : length x.data < 65536
  pub count : count_of r x ≢ end_marker

-- records may stand on a track, the first of them as Rr
abbrev pub AreRecords : ℕ → List Record → Type 0
AreRecords r [] = Unit {0}
AreRecords r (x ∷ xs) = IsRecord r x × AreRecords (suc r) xs

-- R0: no key, and eight bytes of data
pub record IsR0 (x : Record) : Type 0 where
  pub stands : IsRecord 0 x
  pub no_key : x.key ≡ []
  pub eight : length x.data ≡ 8

-- one byte that isn't judged, and the track's cylinder and head
abbrev pub home_address : ℕ → ℕ → ℕ → List ℕ
home_address first cylinder head = first ∷ (to_be_bytes w16 cylinder ++ to_be_bytes w16 head)

-- the bytes are a track with these records after R0
pub record IsTrack (cylinder head : ℕ) (records : List Record) (bytes : List ℕ) : Type 0 where
  pub first : ℕ
  pub r0 : Record
  pub rest : List ℕ
  pub zero_stands : IsR0 r0
  pub stand : AreRecords 1 records
  pub parts : bytes ≡ home_address first cylinder head ++ (record_bytes 0 r0 ++ (records_bytes 1 records ++ (end_marker ++ rest)))

-- the bytes are a track up to the last of these records: at least eight bytes stand after it
pub record IsTrackUpTo (cylinder head : ℕ) (records : List Record) (bytes : List ℕ) : Type 0 where
  pub first : ℕ
  pub r0 : Record
  pub rest : List ℕ
  pub zero_stands : IsR0 r0
  pub stand : AreRecords 1 records
  pub parts : bytes ≡ home_address first cylinder head ++ (record_bytes 0 r0 ++ (records_bytes 1 records ++ rest))
  pub room : 8 ≤ length rest

-- the bytes are a track with these records, to its end marker or up to a record
abbrev pub Follows : ℕ → ℕ → Option ℕ → List Record → List ℕ → Type 0
Follows cylinder head None records bytes = IsTrack cylinder head records bytes
Follows cylinder head (Some r) records bytes = IsTrackUpTo cylinder head records bytes × (length records ≡ r)

-- The first byte that breaks the grammar: some track begins with the bytes before it, and none with these and the byte itself. Where all bytes begin a track, but are none, it is their number.
pub record BreaksAt (cylinder head : ℕ) (upto : Option ℕ) (bytes : List ℕ) (at : ℕ) : Type 0 where
  pub inside : at ≤ length bytes
  pub begins : (records : List Record) × (rest : List ℕ) × Follows cylinder head upto records (take at bytes ++ rest)
  pub breaks : at < length bytes → (records : List Record) (rest : List ℕ) → Follows cylinder head upto records (take (at + 1) bytes ++ rest) → ⊥
  pub none : (records : List Record) → Follows cylinder head upto records bytes → ⊥
