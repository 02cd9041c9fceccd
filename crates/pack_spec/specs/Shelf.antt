-- The shelf that images stand for, one volume an image, or why they stand for none, in this project's profile.
use Rattle.std.specs.Prelude.{ℕ, ◌+◌, Bool, List, [], ◌∷◌, position, slice_get, take, Option, Some, None, Result, Ok, Err}
use Rattle.std.specs.List.{enumerate_from, filter_map}
use Rattle.std.specs.Option.{option_map}
use Rattle.std.specs.Str.{bytes_eq}
use Rattle.vol_model.specs.declared.contents.Shelf.{Shelf}
use Rattle.vol_model.specs.declared.contents.Volume.{Volume}
use Rattle.pack_spec.specs.declared.MountErr.{MountErr}
use Rattle.pack_spec.specs.declared.MountErr.TheVariants.{SameSerial}
use Rattle.pack_spec.specs.Volume.{volume_of}

-- Why images stand for no shelf: the number of one, from 0, and its reason.
pub record UnitRefusal : Type 0 where
  pub unit : ℕ
  pub why : MountErr

-- a volume in front of others, unless it or they are refused; the first refusal goes before others
abbrev pub volume_then : ℕ → Result Volume MountErr → Result (List Volume) UnitRefusal
    → Result (List Volume) UnitRefusal
volume_then unit (Err e) others = Err (record { unit = unit; why = e })
volume_then unit (Ok volume) (Err r) = Err r
volume_then unit (Ok volume) (Ok volumes) = Ok (volume ∷ volumes)

-- the volumes of images that are numbered from here on, or the first refusal
abbrev pub volumes_from : ℕ → List (List ℕ) → Result (List Volume) UnitRefusal
volumes_from unit [] = Ok []
volumes_from unit (image ∷ images) =
    volume_then unit (volume_of image) (volumes_from (unit + 1) images)

-- a volume has this serial
abbrev pub has_serial : List ℕ → Volume → Bool
has_serial serial volume = bytes_eq volume.serial.bytes serial

-- a volume whose serial an earlier one has, with the lowest of these
abbrev pub serial_fault : List Volume → ℕ → Volume → Option UnitRefusal
serial_fault volumes unit volume = option_map
    (λ other. record { unit = unit; why = SameSerial unit other })
    (position (has_serial volume.serial.bytes) (take unit volumes))

-- the volumes whose serials earlier ones have, in order
unfoldable pub serial_faults : List Volume → List UnitRefusal
serial_faults volumes = filter_map (λ p. serial_fault volumes p.0 p.1)
    (enumerate_from 0 volumes)

-- a shelf of these volumes, unless one is refused
abbrev pub shelf_unless : Option UnitRefusal → List Volume → Result Shelf UnitRefusal
shelf_unless None volumes = Ok (record { volumes = volumes })
shelf_unless (Some r) volumes = Err r

-- a shelf of the volumes that are there, unless two have one serial
abbrev pub shelf_with : Result (List Volume) UnitRefusal → Result Shelf UnitRefusal
shelf_with (Err r) = Err r
shelf_with (Ok volumes) = shelf_unless (slice_get (serial_faults volumes) 0) volumes

-- The shelf of images, or the first refusal: of the first image that has one, else of the first serial that stands twice.
unfoldable pub shelf_of : List (List ℕ) → Result Shelf UnitRefusal
shelf_of images = shelf_with (volumes_from 0 images)
