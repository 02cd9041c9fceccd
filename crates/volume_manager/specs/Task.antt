-- What the program is to do, by its words, the deck and the files.
use Rattle.std.specs.Prelude.{◌≡◌, ℕ, Bool, true, List, [], find, is_none, slice_index_or, Option, Some, None, Result, Ok, Err}
use Rattle.card_text.specs.declared.cards.Card.{Card}
use Rattle.command_words.specs.declared.action.NewPack.{NewPack}
use Rattle.command_words.specs.Requests.{Request, Run, Init, Names, Check}
use Rattle.deck_cards.specs.declared.reader.DeckErr.{DeckErr}
use Rattle.job_deck.specs.Jobs.{jobs_of}
use Rattle.job_runner.specs.Jobs.{jobs_work}
use Rattle.stop_model.specs.Files.{File, file_of}
use Rattle.stop_model.specs.Moments.{Meaning}
use Rattle.pack_spec.specs.declared.MountErr.{MountErr}
use Rattle.pack_spec.specs.declared.MountErr.TheVariants.{NoFile}
use Rattle.mount_repair.specs.Settled.{is_settled}
use Rattle.pack_spec.specs.Shelf.{UnitRefusal, shelf_of}
use Rattle.pack_spec.specs.Volume.{volume_of}
use Rattle.vol_model.specs.declared.contents.Shelf.{Shelf}
use Rattle.vol_model.specs.declared.contents.Volume.{Volume}
use Rattle.vol_model.specs.Events.{Item}
use Rattle.pack_machine.specs.Checking.{all_unread}
use Rattle.shelf_machine.specs.Opening.{images_named}
use Rattle.pack_machine.specs.declared.unread.Unread.{Unread}
use Rattle.volume_manager.specs.Lines.{check_text, deck_line, exists_line, names_listing, unit_line, words_line}
use Rattle.volume_manager.specs.Names.{names_of}

-- A text to print, and the status to end with; or files, the shelf that their images stand for, and what is to be done on that; or a new pack to make in a file that isn't there.
pub data Task : Type 0 where
  Says : (status : ℕ) → (text : List ℕ) → Task
  Works : (files : List (List ℕ)) → (shelf : Shelf) → (items : List Item) → Task
  Makes : (pack : NewPack) → (file : List ℕ) → Task

-- the task on a file whose image stands for a volume, or is refused
abbrev pub task_for : List ℕ → (Volume → Task) → Result Volume MountErr → Task
task_for file task (Err e) = Says 21 (unit_line file e)
task_for file task (Ok volume) = task volume

-- the task on a file, which may be missing
abbrev pub task_on : List ℕ → (List ℕ → Volume → Task) → Option (List ℕ) → Task
task_on file task None = Says 21 (unit_line file NoFile)
task_on file task (Some image) = task_for file (task image) (volume_of image)

-- the names on a volume
abbrev pub names_task : List ℕ → Volume → Task
names_task image volume = Says 0 (names_listing (names_of volume.sets))

-- the status of a pack that is settled or not, of which these bodies can't be read
abbrev pub check_code : Bool → List Unread → ℕ
check_code true [] = 0
check_code settled unread = 4

-- whether the image that stands for a volume is settled, and which bodies of that can't be read
abbrev pub check_task : List ℕ → Volume → Task
check_task image volume =
    let settled = is_settled image in
    let unread = all_unread volume in
    Says (check_code settled unread) (check_text volume.serial.bytes settled unread)

-- the items of the jobs that cards ask for, on the date of a run
abbrev pub items_of : List ℕ → List Card → Shelf → List Item
items_of date cards shelf = (jobs_work date (jobs_of date cards) shelf).items

-- the name of a unit
abbrev pub name_of : List (List ℕ) → ℕ → List ℕ
name_of names unit = slice_index_or names unit []

-- cards on the shelf of the images in files, or the refusal of one of these
abbrev pub shelf_task : List ℕ → List (List ℕ) → List Card → Result Shelf UnitRefusal → Task
shelf_task date names cards (Err r) = Says 21 (unit_line (name_of names r.unit) r.why)
shelf_task date names cards (Ok shelf) = Works names shelf (items_of date cards shelf)

-- the first of these names that no file has
abbrev pub missing_of : List File → List (List ℕ) → Option (List ℕ)
missing_of files names = find (λ name. is_none (file_of files name)) names

-- cards over files, of which one may be missing
abbrev pub cards_task : List ℕ → List (List ℕ) → List Card → List File → Option (List ℕ) → Task
cards_task date names cards files None = shelf_task date names cards (shelf_of (images_named files names))
cards_task date names cards files (Some name) = Says 21 (unit_line name NoFile)

-- a deck over files: it is refused before the files are asked for
abbrev pub deck_task : List ℕ → List (List ℕ) → Result (List Card) DeckErr → List File → Task
deck_task date names (Err e) files = Says 26 (deck_line e)
deck_task date names (Ok cards) files = cards_task date names cards files (missing_of files names)

-- a new pack in a file, which may be there already
abbrev pub init_task : NewPack → List ℕ → Option (List ℕ) → Task
init_task pack file None = Makes pack file
init_task pack file (Some image) = Says 21 (exists_line file)

-- what is to be done where the words ask for this, or are refused, with this deck and these files
unfoldable pub task_of : Option Request → Result (List Card) DeckErr → List File → Task
task_of None deck files = Says 20 words_line
task_of (Some (Names file)) deck files = task_on file names_task (file_of files file)
task_of (Some (Check file)) deck files = task_on file check_task (file_of files file)
task_of (Some (Run date names)) deck files = deck_task date names deck files
task_of (Some (Init pack file)) deck files = init_task pack file (file_of files file)

-- nothing was printed, unless items were to be done
abbrev pub IsSilent : Task → Meaning (List File) → Meaning (List File) → Type 0
IsSilent (Works names shelf items) old new = Unit {0}
IsSilent _ old new = new.printed ≡ old.printed
