-- What stands on the tracks of a pack that is written: its label, and slots (System Control Blocks GC28-6628).
use Rattle.std.specs.Prelude.{ℕ, List, [], ◌∷◌, ◌++◌, drop, replicate, take}
use Rattle.std.specs.Int.{w16, to_be_bytes}
use Rattle.ckd_image.specs.Track.{Record}
use Rattle.ckd_image.specs.Writing.{record_on}
use Rattle.pack_spec.specs.declared.address.Address.{Address}
use Rattle.pack_spec.specs.Label.{ipl1, ipl2, vol1}

-- the data of the volume label: VOL1, serial, security byte 0, CCHHR of the VTOC with R 1, else blanks
abbrev pub label_bytes : List ℕ → Address → List ℕ
label_bytes serial vtoc = vol1 ++ (serial ++
    (0 ∷ (to_be_bytes w16 vtoc.cylinder ++ (to_be_bytes w16 vtoc.head ++ (1 ∷ replicate 64 0x40)))))

-- the records on track 0: those of the initial program, of zeros, and the volume label
abbrev pub label_records : List ℕ → Address → List Record
label_records serial vtoc =
    record_on 0 0 ipl1 (replicate 24 0)
    ∷ record_on 0 0 ipl2 (replicate 144 0)
    ∷ record_on 0 0 vol1 (label_bytes serial vtoc)
    ∷ []

-- a slot as a record of a track
abbrev pub slot_record : Address → List ℕ → Record
slot_record at slot = record_on at.cylinder at.head (take 44 slot) (drop 44 slot)
