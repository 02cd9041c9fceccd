-- What a command line asks for, in this project's profile.
use Rattle.std.specs.Prelude.{◌≡◌, ◌≤◌, ◌<◌, ℕ, ◌*◌, ◌-◌, ◌&&◌, nat_le, min, Bool, List, [], ◌∷◌, codes, length, is_some, map, Option, Some, None, option_map, option_and_then, if◌then◌else◌}
use Rattle.std.specs.List.{list_any}
use Rattle.std.specs.Str.{bytes_eq}
use Rattle.ckd_image.specs.declared.device.DiskType.{DiskType}
use Rattle.ckd_image.specs.Device.{row_of}
use Rattle.ebcdic_names.specs.declared.names.Serial.{Serial}
use Rattle.jcl_forms.specs.Dates.{date_in}
use Rattle.vol_model.specs.declared.TheConstants.{MAX_UNITS}
use Rattle.command_words.specs.declared.action.Action.{Action}
use Rattle.command_words.specs.declared.action.Action.TheVariants as action
use Rattle.command_words.specs.declared.action.NewPack.{NewPack}
use Rattle.command_words.specs.Command.{Parts, words_in}
use Rattle.command_words.specs.Values.{are_distinct, device_named, number_up_to, serial_word}

-- What is asked for: a deck run over the packs in files, a new pack in a file, the names on the pack in a file, or whether it is settled.
pub data Request : Type 0 where
  Run : (date : List ℕ) → (files : List (List ℕ)) → Request
  Init : (pack : NewPack) → (file : List ℕ) → Request
  Names : (file : List ℕ) → Request
  Check : (file : List ℕ) → Request

-- one of these options is given
abbrev pub has_any : List (Option (List ℕ)) → Bool
has_any options = list_any is_some options

-- the one file, where there is but one
abbrev pub only_file : List (List ℕ) → Option (List ℕ)
only_file (file ∷ []) = Some file
only_file _ = None

-- a run takes a date and 1 to 8 files, no two alike
unfoldable pub run_request : Parts → Option Request
run_request p =
    if has_any (p.device ∷ p.serial ∷ p.vtoc ∷ p.cylinders ∷ p.count ∷ []) then None
    else (if nat_le (length p.files) MAX_UNITS && are_distinct p.files then option_map (λ date. Run date p.files) (option_and_then date_in p.date) else None)

-- the file of an action that takes no options
unfoldable pub file_alone : Parts → Option (List ℕ)
file_alone p =
    if has_any (p.date ∷ p.device ∷ p.serial ∷ p.vtoc ∷ p.cylinders ∷ p.count ∷ []) then None
    else only_file p.files

-- the cylinders of a new pack: all primary ones, unless a number of them is given
unfoldable pub cylinders_asked : DiskType → Option (List ℕ) → Option ℕ
cylinders_asked device None = Some (row_of device).primary_cylinders
cylinders_asked device (Some text) = number_up_to (row_of device).primary_cylinders text

-- a new pack of so many cylinders, whose VTOC has 1 to 100 tracks and fewer than the pack
unfoldable pub pack_of : DiskType → Serial → Option (List ℕ) → ℕ → Option NewPack
pack_of device serial vtoc cylinders =
    option_map (λ tracks. record {
      geometry = record { device = device; cylinders = cylinders; track_size = (row_of device).written_track_size };
      serial = serial;
      vtoc = tracks;
    }) (option_and_then (number_up_to (min 100 (cylinders * (row_of device).heads - 1))) vtoc)

unfoldable pub pack_on : DiskType → Parts → Serial → Option NewPack
pack_on device p serial = option_and_then (pack_of device serial p.vtoc) (cylinders_asked device p.cylinders)

-- a new pack takes a type, a serial and the size of its VTOC, and its cylinders if wanted
unfoldable pub new_pack : Parts → Option NewPack
new_pack p =
    if has_any (p.date ∷ p.count ∷ []) then None
    else option_and_then (λ device. option_and_then (pack_on device p) (option_and_then serial_word p.serial))
    (option_and_then device_named p.device)

unfoldable pub init_request : Parts → Option Request
init_request p = option_and_then (λ pack. option_map (Init pack) (only_file p.files)) (new_pack p)

-- what an action asks for
unfoldable pub request_named : Parts → List ℕ → Option Request
request_named p name =
    if bytes_eq name (codes "run") then run_request p
    else (if bytes_eq name (codes "init") then init_request p
    else (if bytes_eq name (codes "names") then option_map Names (file_alone p)
    else (if bytes_eq name (codes "check") then option_map Check (file_alone p) else None)))

unfoldable pub request_in_parts : Parts → Option Request
request_in_parts p = option_and_then (request_named p) p.action

-- What the words ask for, the program's name first; nothing where they are refused.
unfoldable pub request_of : List (List ℕ) → Option Request
request_of words = option_and_then request_in_parts (words_in words)

-- A new pack may have these sizes: from one cylinder to all primary ones, the track size that is written for the device, and a VTOC of 1 to 100 tracks, fewer than the pack has.
pub record IsProper (pack : NewPack) : Type 0 where
  pub some : 1 ≤ pack.geometry.cylinders
  pub primary : pack.geometry.cylinders ≤ (row_of pack.geometry.device).primary_cylinders
  pub size : pack.geometry.track_size ≡ (row_of pack.geometry.device).written_track_size
  pub first : 1 ≤ pack.vtoc
  pub most : pack.vtoc ≤ 100
  pub room : pack.vtoc < pack.geometry.cylinders * (row_of pack.geometry.device).heads

-- where an action makes a pack, that is a proper one
abbrev pub MakesProper : Action → Type 0
MakesProper (action.Init pack file) = IsProper pack
MakesProper _ = Unit {0}

-- the request that an action stands for
abbrev pub request_in : Action → Request
request_in (action.Run date files) = Run date (map (λ f. f.now) files.items)
request_in (action.Init pack file) = Init pack file.now
request_in (action.Names file) = Names file.now
request_in (action.Check file) = Check file.now
