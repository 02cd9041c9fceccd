-- How a directory block is read from its 256 bytes.
use Rattle.std.proofs.Common.{◌≡◌, ◌-◌, ◌%◌, ◌≤◌, ◌<◌, ℕ, suc, true, false, cond, List, [], ◌∷◌, length, map, take, drop, get_or, Option, Some, None, refl, sym, ap, ◌∙◌, arith, option_and_then, length-take}
use Rattle.std.specs.Prelude.{◌&&◌, nat_le, Bool}
use Rattle.std.specs.Int.{w16, from_be_bytes}
use Rattle.std.proofs.lemmas.Bool.{and_from, and_left, and_right, cond-true, cond-false, le-leb, lt-leb}
use Rattle.chain_spec.specs.Store.{Block as Stored}
use Rattle.vol_model.specs.declared.contents.Entry.{Entry}
use Rattle.pack_spec.specs.Directories.{block_entries, entries_used, if_rising, rise_from, used_bytes}
use Rattle.pds_directory.specs.Entries.{AreOfBlock}
use Rattle.pds_directory.proofs.HeldEntries.{are_bytes, drop_bytes, held, take_bytes}
use Rattle.pds_directory.proofs.ReadEntries.{read}

-- A block has 256 bytes, the first two of which say that so many are used.
pub record AreUsed (used : ℕ) (bytes : List ℕ) : Type 0 where
  pub long : length bytes ≡ 256
  pub below : (i : ℕ) → get_or bytes i 0 < 256
  pub count : used ≡ from_be_bytes w16 (get_or bytes 0 0 ∷ get_or bytes 1 0 ∷ [])

-- what its used bytes hold
pub record UsedHold (used : ℕ) (bytes : List ℕ) (found : Option (Stored Entry)) : Type 0 where
  pub counted : AreUsed used bytes
  pub low : 2 ≤ used
  pub high : used ≤ 256
  pub hold : found ≡ read (used_bytes used bytes)

-- the bytes as numbers below 256
abbrev bytes_in : List ℕ → List ℕ
bytes_in bytes = map (λ x. x % 256) bytes

same_bytes : (bytes : List ℕ) → ((i : ℕ) → get_or bytes i 0 < 256) → bytes_in bytes ≡ bytes
same_bytes [] below = refl
same_bytes (x ∷ xs) below =
    let here : x < 256 = below 0 in
    let same : x % 256 ≡ x = omega arith in
    ap (λ (y : ℕ). y ∷ bytes_in xs) same ∙ ap (λ (ys : List ℕ). x ∷ ys) (same_bytes xs (λ i. below (suc i)))

count_of : (bytes : List ℕ) → length bytes ≡ 256 → from_be_bytes w16 (take 2 bytes) ≡ from_be_bytes w16 (get_or bytes 0 0 ∷ get_or bytes 1 0 ∷ [])
count_of [] long = absurd (omega (arith, long))
count_of (x ∷ []) long = absurd (omega (arith, long))
count_of (x ∷ y ∷ ys) long = refl

used_entries : (used : ℕ) (bytes : List ℕ) → AreUsed used bytes → block_entries (bytes_in bytes) ≡ entries_used used bytes
unfolding block_entries
used_entries used bytes is =
    ap block_entries (same_bytes bytes is.below) ∙ ap (λ (n : ℕ). entries_used n bytes) (count_of bytes is.long ∙ sym is.count)

-- what a block holds whose used bytes hold this, unless the names don't rise
in_room : (used : ℕ) (bytes : List ℕ) (found : Option (Stored Entry)) → 2 ≤ used → used ≤ 256 → found ≡ read (used_bytes used bytes) → entries_used used bytes ≡ option_and_then if_rising found
in_room used bytes found low high hold =
    cond-true (nat_le 2 used && nat_le used 256) (option_and_then if_rising (read (used_bytes used bytes))) None (and_from (nat_le 2 used) (nat_le used 256) (le-leb 2 used low) (le-leb used 256 high))
    ∙ ap (option_and_then if_rising) (sym hold)

-- the same of any bytes
pub block_holds : (used : ℕ) (bytes : List ℕ) (b : Stored Entry) → from_be_bytes w16 (take 2 bytes) ≡ used → 2 ≤ used → used ≤ 256 → Some b ≡ read (used_bytes used bytes) → rise_from 0 b.entries ≡ true → block_entries bytes ≡ Some b
unfolding block_entries
block_holds used bytes b count low high hold rise =
    ap (λ (n : ℕ). entries_used n bytes) count ∙ in_room used bytes (Some b) low high hold ∙ ap (λ (r : Bool). cond r (Some b) None) rise

-- the count of used bytes is too low
pub low_count : (used : ℕ) (bytes : List ℕ) → AreUsed used bytes → used < 2 → block_entries (bytes_in bytes) ≡ None
low_count used bytes is low =
    used_entries used bytes is
    ∙ cond-false (nat_le 2 used && nat_le used 256) (option_and_then if_rising (read (used_bytes used bytes))) None (and_left (nat_le 2 used) (nat_le used 256) (lt-leb 2 used low))

-- it is too high
pub high_count : (used : ℕ) (bytes : List ℕ) → AreUsed used bytes → 256 < used → block_entries (bytes_in bytes) ≡ None
high_count used bytes is high =
    used_entries used bytes is
    ∙ cond-false (nat_le 2 used && nat_le used 256) (option_and_then if_rising (read (used_bytes used bytes))) None (and_right (nat_le 2 used) (nat_le used 256) (lt-leb used 256 high))

if_hold : (used : ℕ) (bytes : List ℕ) (found : Option (Stored Entry)) → UsedHold used bytes found → block_entries (bytes_in bytes) ≡ option_and_then if_rising found
if_hold used bytes found is = used_entries used bytes is.counted ∙ in_room used bytes found is.low is.high is.hold

-- an entry leaves them
pub broken_block : (used : ℕ) (bytes : List ℕ) → UsedHold used bytes None → block_entries (bytes_in bytes) ≡ None
broken_block used bytes is = if_hold used bytes None is

-- their names don't rise
pub falling_block : (used : ℕ) (bytes : List ℕ) (b : Stored Entry) → UsedHold used bytes (Some b) → rise_from 0 b.entries ≡ false → block_entries (bytes_in bytes) ≡ None
falling_block used bytes b is falls = if_hold used bytes (Some b) is ∙ ap (λ (r : Bool). cond r (Some b) None) falls

-- they rise
pub rising_block : (used : ℕ) (bytes : List ℕ) (b : Stored Entry) → UsedHold used bytes (Some b) → rise_from 0 b.entries ≡ true → block_entries (bytes_in bytes) ≡ Some b
rising_block used bytes b is rise = if_hold used bytes (Some b) is ∙ ap (λ (r : Bool). cond r (Some b) None) rise

-- what a block holds is lawful, and fits it
pub of_block : (used : ℕ) (bytes : List ℕ) (b : Stored Entry) → UsedHold used bytes (Some b) → AreOfBlock b.entries b.ends
of_block used bytes b is =
    let are = take_bytes (used - 2) (drop 2 bytes) (drop_bytes 2 bytes (are_bytes bytes is.counted.below)) in
    let found = held (used_bytes used bytes) b are (sym is.hold) in
    record { all = found.entries; fit = omega (arith, found.fits, is.high, length-take (used - 2) (drop 2 bytes)) }
