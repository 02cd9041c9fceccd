-- Directories and bodies at which near readings of the rules give something else.
use Rattle.std.proofs.Common.{◌≡◌, ◌+◌, ℕ, zero, suc, true, false, List, [], ◌∷◌, ◌++◌, refl, Some, None}
use Rattle.std.specs.Prelude.{replicate}
use Rattle.ckd_image.specs.declared.device.DiskType.TheVariants.{D2314}
use Rattle.ckd_image.specs.declared.header.Geometry.{Geometry}
use Rattle.ckd_image.specs.Reading.{is_front, records_of, records_to_end, records_up_to}
use Rattle.ckd_image.specs.Track.{Record, end_marker, home_address, record_bytes, records_bytes}
use Rattle.vol_model.specs.declared.contents.Block.{Block}
use Rattle.vol_model.specs.declared.contents.Body.TheVariants.{Part, Unreadable}
use Rattle.vol_model.specs.declared.contents.Entry.{Entry}
use Rattle.vol_model.specs.declared.contents.Run.{Run}
use Rattle.pack_spec.specs.Blocks.{owned_tracks, records_in}
use Rattle.pack_spec.specs.Directories.{block_entries, end_from, end_record, entries_from, part_at, part_body, part_of, part_on, part_tracks, record_numbers}

-- an entry of this letter in 14 bytes, and one in 12
abbrev entry : ℕ → List ℕ
entry n = n ∷ replicate 7 64 ++ 0 ∷ 1 ∷ 3 ∷ 0x81 ∷ 7 ∷ 8 ∷ []

abbrev read : ℕ → Entry
read n = record { name = record { bytes = n ∷ replicate 7 64 }; place = record { tt = 1; r = 3 }; flags = 0x81; user = 7 ∷ 8 ∷ [] }

abbrev short_entries : ℕ → ℕ → List ℕ
short_entries n zero = []
short_entries n (suc k) = n ∷ replicate 11 0 ++ short_entries (n + 1) k

abbrev short_read : ℕ → ℕ → List Entry
short_read n zero = []
short_read n (suc k) = record { name = record { bytes = n ∷ replicate 7 0 }; place = record { tt = 0; r = 0 }; flags = 0; user = [] } ∷ short_read (n + 1) k

-- an unused block, a new first block, two entries, two of one name, an entry that leaves the used bytes
pub blocks : (block_entries (replicate 256 0) ≡ None)
    × (block_entries (0 ∷ 14 ∷ replicate 8 255 ++ replicate 246 0) ≡ Some (record { entries = []; ends = true }))
    × (block_entries (0 ∷ 30 ∷ entry 0xC1 ++ entry 0xC2 ++ replicate 226 0) ≡ Some (record { entries = read 0xC1 ∷ read 0xC2 ∷ []; ends = false }))
    × (block_entries (0 ∷ 30 ∷ entry 0xC2 ++ entry 0xC2 ++ replicate 226 0) ≡ None)
    × (block_entries (0 ∷ 29 ∷ entry 0xC1 ++ entry 0xC2 ++ replicate 226 0) ≡ None)
unfolding block_entries entries_from
blocks = (refl, refl, refl, refl, refl)

-- whatever the end entry's other bytes are and stands after it, it ends the directory; but all its 12 bytes are used ones
ends : (block_entries (0 ∷ 44 ∷ entry 0xC1 ++ replicate 12 255 ++ entry 0xC1 ++ 9 ∷ 9 ∷ replicate 212 0) ≡ Some (record { entries = read 0xC1 ∷ []; ends = true }))
    × (block_entries (1 ∷ 0 ∷ short_entries 1 20 ++ replicate 14 255) ≡ Some (record { entries = short_read 1 20; ends = true }))
    × (block_entries (0 ∷ 252 ∷ short_entries 1 20 ++ replicate 14 255) ≡ None)
unfolding block_entries entries_from
ends = (refl, refl, refl)

-- a track with records, and a data set on two of these
abbrev track_with : ℕ → List Record → List ℕ
track_with head xs = home_address 0 0 head ++ (record_bytes 0 (record { address = replicate 4 0; key = []; «data» = replicate 8 0 }) ++ (records_bytes 1 xs ++ end_marker))

abbrev held : List ℕ → List ℕ → Record
held key bytes = record { address = replicate 4 0; key = key; «data» = bytes }

abbrev first : List ℕ
first = track_with 1 (held (replicate 8 0) (0 ∷ 30 ∷ entry 0xC1 ++ entry 0xC3 ++ replicate 226 0) ∷ [])

abbrev tracks : List ℕ → List (List ℕ)
tracks bytes = [] ∷ first ∷ track_with 2 (held (replicate 8 0) bytes ∷ held (replicate 8 0) (replicate 256 0) ∷ held [] [] ∷ held [] (1 ∷ []) ∷ held [] [] ∷ []) ∷ []

abbrev good : List (List ℕ)
good = tracks (0 ∷ 28 ∷ entry 0xC2 ++ replicate 12 255 ++ replicate 228 0)

abbrev endless : List (List ℕ)
endless = tracks (0 ∷ 16 ∷ entry 0xC4 ++ replicate 240 0)

abbrev runs : ℕ → List Run
runs n = record { start = 1; len = n } ∷ []

abbrev block : ℕ → List ℕ → Block
block r bytes = record { place = record { tt = 1; r = r }; key = []; payload = bytes }

abbrev g : Geometry
g = record { device = D2314; cylinders = 3; track_size = 7680 }

-- An entry that isn't above the ones kept goes. The last block at R0 of the end's track is none, and of a later track breaks there.
-- Without an end-of-file record the number of tracks breaks, and without an end entry the track of that record, as does a last block that isn't there.
bodies : (part_body g good (runs 2) (0 ∷ 1 ∷ 5 ∷ []) ≡ Part 3 (record { tt = 1; r = 3 }) (read 0xC1 ∷ read 0xC3 ∷ []) (block 4 (1 ∷ []) ∷ block 5 [] ∷ []))
    × (part_body g good (runs 2) (0 ∷ 1 ∷ 0 ∷ []) ≡ Part 3 (record { tt = 1; r = 3 }) (read 0xC1 ∷ read 0xC3 ∷ []) [])
    × (part_body g good (runs 2) (0 ∷ 2 ∷ 0 ∷ []) ≡ Unreadable 2)
    × (part_body g good (runs 2) (0 ∷ 1 ∷ 6 ∷ []) ≡ Unreadable 1)
    × (part_body g good (runs 1) (0 ∷ 0 ∷ 0 ∷ []) ≡ Unreadable 1)
    × (part_body g endless (runs 2) (0 ∷ 1 ∷ 5 ∷ []) ≡ Unreadable 1)
unfolding block_entries entries_from part_body part_of part_tracks part_at part_on end_from end_record record_numbers records_in records_of records_to_end records_up_to is_front owned_tracks
bodies = (refl, refl, refl, refl, refl, refl)
