-- What a run of the program leaves.
use Rattle.std.specs.Prelude.{◌≡◌, ◌≢◌, ◌⊎◌, ℕ, ◌≤◌, Bool, List, [], ◌∷◌, ◌++◌, map, take, Option, Some, None, Result, Ok, Err, IsTrue, ⊤}
use Rattle.card_text.specs.declared.cards.Card.{Card}
use Rattle.command_words.specs.declared.action.NewPack.{NewPack}
use Rattle.command_words.specs.Requests.{Request, Run, Init, Names, Check}
use Rattle.deck_cards.specs.Deck.{deck}
use Rattle.deck_cards.specs.declared.reader.DeckErr.{DeckErr}
use Rattle.hall_core.specs.Facts.{Attached, Facts}
use Rattle.member_laws.specs.Members.{StaysWhole}
use Rattle.stop_model.specs.Counts.{Rose}
use Rattle.stop_model.specs.Files.{File, IsPrefixOf}
use Rattle.stop_model.specs.Moments.{Meaning, IsDurable, LeavesSame, LeftNow, Elapses}
use Rattle.pack_init.specs.Init.{IsInitLeft, with_file}
use Rattle.pack_spec.specs.New.{IsNewImage}
use Rattle.pack_spec.specs.Shelf.{shelf_of}
use Rattle.shelf_machine.specs.Opening.{AreSafe, AreSettledImages, images_named}
use Rattle.vol_model.specs.declared.contents.Shelf.{Shelf}
use Rattle.vol_model.specs.Events as events
use Rattle.vol_model.specs.Events.{Item, StandsIn, events_of, listing, operations_of, shelf_behind}
use Rattle.volume_manager.specs.Lines.{init_line}
use Rattle.volume_manager.specs.Task.{IsSilent, Task, Says, Works, Makes, task_of}
use Rattle.volume_manager.specs.Words.{IsRefused, IsRun}
use Rattle.volume_manager.specs.declared.cause.Cause.{Cause}
use Rattle.volume_manager.specs.declared.cause.Cause.TheVariants as cause

-- the status for a cause
abbrev pub code_of : Cause → ℕ
code_of cause.Words = 20
code_of cause.Unit = 21
code_of cause.Device = 22
code_of cause.Cards = 23
code_of cause.Print = 24
code_of cause.Memory = 25
code_of cause.Deck = 26

-- the status with which the program ends: a condition code, or that of a cause
abbrev pub status_of : Result ℕ Cause → ℕ
status_of (Ok code) = code
status_of (Err cause) = code_of cause

-- a number with which the program ends: a condition code, or the number of a refusal or a fault
abbrev pub IsStatus : ℕ → Type 0
IsStatus n = (n ≤ 16) ⊎ ((20 ≤ n) × (n ≤ 26))

-- a status with which all was done that is to be done: a condition code, or a refusal
abbrev pub IsFinal : ℕ → Type 0
IsFinal n = (n ≤ 21) ⊎ (n ≡ 26)

-- a prefix of the text stands after what was printed
abbrev pub AddsPrefix : List ℕ → List ℕ → List ℕ → Type 0
AddsPrefix text old new = (q : List ℕ) × IsPrefixOf q text × (new ≡ old ++ q)

-- All items were done: the status is their highest condition code, their lines were printed, and the images, each settled, stand durably for the shelf after all their operations; each image is guarded or has the VTOC of the begin, and other files are as before.
pub record AllItemsDone (names : List (List ℕ)) (shelf : Shelf) (items : List Item)
    (before : List File) (printed : List ℕ) (new : Meaning (List File)) (status : ℕ) : Type 0 where
  pub code : status ≡ events.code_of items
  pub few : status ≤ 16
  pub listed : new.printed ≡ printed ++ listing (events_of items)
  pub stands : shelf_of (images_named new.state names) ≡ Ok (shelf_behind shelf (events_of items))
  pub settled : AreSettledImages names new.state
  pub durable : IsDurable new
  pub safe : AreSafe names shelf.volumes before new.state

-- the whole new pack stands in its file, after the files that were there
abbrev pub HasNewPack : NewPack → List ℕ → List File → List File → Type 0
HasNewPack pack file files j = (image : List ℕ) × (j ≡ with_file files file image) × IsNewImage pack.geometry pack.serial.bytes pack.vtoc image

-- A new pack was made: it stands durably in its file, which wasn't there, and its line was printed.
pub record PackMade (pack : NewPack) (file : List ℕ) (old new : Meaning (List File)) (status : ℕ) : Type 0 where
  pub code : status ≡ 0
  pub printed : new.printed ≡ old.printed ++ init_line pack.serial.bytes
  pub made : HasNewPack pack file old.state new.state
  pub durable : IsDurable new

-- the task was done, and this is its status
abbrev pub IsTaskDone : Task → Meaning (List File) → Meaning (List File) → ℕ → Type 0
IsTaskDone (Says code text) old new status = (status ≡ code) × (new.printed ≡ old.printed ++ text)
IsTaskDone (Works names shelf items) old new status = AllItemsDone names shelf items old.state old.printed new status
IsTaskDone (Makes pack file) old new status = PackMade pack file old new status

-- What a stop leaves of a run of items: after what was printed a prefix of their lines; images that stand for the shelf after some of their operations, all that are reported and none that can't have begun; and each image guarded or with the VTOC of the begin, and other files as before.
pub record IsStopIn (names : List (List ℕ)) (shelf : Shelf) (items : List Item)
    (before : List File) (start : List ℕ) (files : List File) (printed : List ℕ) : Type 0 where
  pub left : Shelf
  pub stands : shelf_of (images_named files names) ≡ Ok left
  pub front : List ℕ
  pub text : printed ≡ start ++ front
  pub place : StandsIn shelf (events_of items) left front
  pub safe : AreSafe names shelf.volumes before files

-- A text was printed, or a prefix of it, and nothing was written: the files stay, and a stop leaves them as before.
pub record KeepsFiles (text : List ℕ) (old new : Meaning (List File)) : Type 0 where
  pub files : new.state ≡ old.state
  pub left : LeavesSame old new
  pub printed : AddsPrefix text old.printed new.printed
  pub moments : Elapses old new (λ files p. old.left files × AddsPrefix text old.printed p)

-- Time goes on, and whatever a stop since the begin left is what one in these items may leave.
pub record StopsInItems (names : List (List ℕ)) (shelf : Shelf) (items : List Item)
    (old new : Meaning (List File)) : Type 0 where
  pub later : old.clock ≤ new.clock
  pub stops : (files : List File) (printed : List ℕ) → new.left_since old.clock files printed
      → IsStopIn names shelf items old.state old.printed files printed

-- What a stop leaves of the making of a pack: no file, one whose image is refused, or the whole new pack, and that where a byte of its line is printed.
pub record IsStopInInit (pack : NewPack) (file : List ℕ) (old : Meaning (List File)) (files : List File) (printed : List ℕ) : Type 0 where
  pub left : IsInitLeft pack.geometry pack.serial.bytes pack.vtoc file old.state files
  pub front : List ℕ
  pub text : printed ≡ old.printed ++ front
  pub prefix : IsPrefixOf front (init_line pack.serial.bytes)
  pub whole : (front ≡ []) ⊎ HasNewPack pack file old.state files

-- Time goes on, and whatever a stop since the begin left is what one in the making of a pack may leave.
pub record StopsInInit (pack : NewPack) (file : List ℕ) (old new : Meaning (List File)) : Type 0 where
  pub later : old.clock ≤ new.clock
  pub stops : (files : List File) (printed : List ℕ) → new.left_since old.clock files printed → IsStopInInit pack file old files printed

-- whatever the status, a stop at any moment leaves what the task allows
abbrev pub StopsInTask : Task → Meaning (List File) → Meaning (List File) → Type 0
StopsInTask (Says code text) old new = KeepsFiles text old new
StopsInTask (Works names shelf items) old new = StopsInItems names shelf items old new
StopsInTask (Makes pack file) old new = StopsInInit pack file old new

-- A task is done where the status says so, and is safe whatever the status is; where memory ran out nothing was printed but lines of items.
pub record FollowsTask (task : Task) (old new : Meaning (List File)) (status : ℕ) : Type 0 where
  pub ends : IsFinal status → IsTaskDone task old new status
  pub silent : status ≡ 25 → IsSilent task old new
  pub stops : StopsInTask task old new

-- A text was printed, all of it but where the printer failed. The files stay, and a stop leaves them as before; one meanwhile leaves a prefix of the text.
pub record PrintsText (text : List ℕ) (old new : Meaning (List File)) (result : ℕ) : Type 0 where
  pub done : result ≢ 24 → new.printed ≡ old.printed ++ text
  pub files : KeepsFiles text old new

-- a stop since a moment left what is there now
abbrev pub LeftOnlyNow : Meaning (List File) → ℕ → Type 0
LeftOnlyNow m t = (files : List File) (printed : List ℕ) → m.left_since t files printed → (files ≡ m.state) × (printed ≡ m.printed)

-- a stop since a moment left images that stand for this shelf, and what is printed now
abbrev pub LeavesShelf : List (List ℕ) → Shelf → Meaning (List File) → ℕ → Type 0
LeavesShelf names shelf m t = (files : List File) (printed : List ℕ) → m.left_since t files printed
    → (shelf_of (images_named files names) ≡ Ok shelf) × (printed ≡ m.printed)

-- Items on a shelf, since a moment of which the files and the printed bytes are known: they are done where the status says so, and a stop since that moment leaves what one in them may leave.
pub record RunsItems (names : List (List ℕ)) (shelf : Shelf) (items : List Item) (t : ℕ)
    (before : List File) (start : List ℕ) (new : Meaning (List File)) (status : ℕ) : Type 0 where
  pub ends : IsFinal status → AllItemsDone names shelf items before start new status
  pub later : t ≤ new.clock
  pub stops : (files : List File) (printed : List ℕ) → new.left_since t files printed
      → IsStopIn names shelf items before start files printed

-- A sync, done or failed: what is read stays, and is durable but where the status is that of a device fault.
pub record OnlySynced (old new : Meaning (List File)) (status : ℕ) : Type 0 where
  pub state : new.state ≡ old.state
  pub printed : new.printed ≡ old.printed
  pub durable : status ≢ 22 → IsDurable new
  pub moments : Elapses old new (LeftNow old)

-- no count of faults fell
pub record NoCountFell (old new : Facts) : Type 0 where
  pub devices : old.dev_faults ≤ new.dev_faults
  pub prints : old.print_faults ≤ new.print_faults

-- The units that stood stay, and at most this file was attached after them.
abbrev pub AttachesAtMost : List ℕ → Facts → Facts → Type 0
AttachesAtMost name old new = (new.units ≡ old.units)
    ⊎ ((size : ℕ) × (new.units ≡ old.units ++ record { name = name; size = size } ∷ []))

-- The units that stood stay, and some first ones of these files were attached after them.
abbrev pub AttachesFirst : List (List ℕ) → Facts → Facts → Type 0
AttachesFirst names old new = (count : ℕ) × (added : List Attached)
    × (map (λ (u : Attached). u.name) added ≡ take count names) × (new.units ≡ old.units ++ added)

-- The units that stood stay, and at most the files that are asked for were attached after them, in order.
abbrev pub AttachesAsked : Option Request → Facts → Facts → Type 0
AttachesAsked None old new = new.units ≡ old.units
AttachesAsked (Some (Run date files)) old new = AttachesFirst files old new
AttachesAsked (Some (Init pack file)) old new = AttachesAtMost file old new
AttachesAsked (Some (Names file)) old new = AttachesAtMost file old new
AttachesAsked (Some (Check file)) old new = AttachesAtMost file old new

-- Calls over files, of which these were attached: a fault is reported only where its count rose.
pub record EndFacts (attached : Type 0) (old new : Facts) (status : ℕ) : Type 0 where
  pub which : (status ≤ 16) ⊎ ((status ≡ 21) ⊎ ((status ≡ 22) ⊎ ((status ≡ 24) ⊎ (status ≡ 25))))
  pub device : status ≡ 22 → Rose old.dev_faults new.dev_faults
  pub print : status ≡ 24 → Rose old.print_faults new.print_faults
  pub later : NoCountFell old new
  pub references : new.references ≡ old.references
  pub units : attached

-- such calls over one file
abbrev pub FileFacts : List ℕ → Facts → Facts → ℕ → Type 0
FileFacts file old new status = EndFacts (AttachesAtMost file old new) old new status

-- and over several
abbrev pub RunFacts : List (List ℕ) → Facts → Facts → ℕ → Type 0
RunFacts names old new status = EndFacts (AttachesFirst names old new) old new status

-- the files stay, and a stop leaves them as before
abbrev pub LeavesFiles : Meaning (List File) → Meaning (List File) → Type 0
LeavesFiles old new = (new.state ≡ old.state) × LeavesSame old new

-- a status with which nothing was begun: the words, the file or the deck is refused, or the cards couldn't be read
abbrev pub IsUnbegun : ℕ → Type 0
IsUnbegun n = ((20 ≤ n) × (n ≤ 21)) ⊎ ((n ≡ 23) ⊎ (n ≡ 26))

-- a status with which no file was asked for
abbrev pub IsUnasked : ℕ → Type 0
IsUnasked n = (n ≡ 20) ⊎ ((n ≡ 23) ⊎ (n ≡ 26))

-- The task that is asked for is done or safe, with the deck that the cards held at the begin, or, where these don't tell, with some deck.
pub record DoesTask (request : Option Request) (tells : Bool) (input : List ℕ) (old new : Meaning (List File)) (status : ℕ) : Type 0 where
  pub cards : Result (List Card) DeckErr
  pub given : IsTrue tells → cards ≡ deck input
  pub follows : FollowsTask (task_of request cards old.state) old new status

-- a member keeps its blocks over all operations of the items until it is dropped or replaced, or its set is scratched
abbrev pub MembersStayWhole : Task → Type 0
MembersStayWhole (Works names shelf items) = StaysWhole shelf (operations_of (events_of items))
MembersStayWhole task = ⊤

-- What the program promises: the task is done or safe, and keeps members whole; where nothing was begun the files stay; where the cards couldn't be read nothing was printed either, and every stop left what was there; a fault in a task without a deck prints nothing; and but for a fault of the device or of the printer no write is pending then.
pub record Headline (request : Option Request) (tells : Bool) (input : List ℕ) (old new : Meaning (List File)) (status : ℕ) : Type 0 where
  pub does : DoesTask request tells input old new status
  pub members : MembersStayWhole (task_of request does.cards old.state)
  pub unbegun : IsUnbegun status → LeavesFiles old new
  pub unread : status ≡ 23 → KeepsFiles [] old new
  pub silent : ¬ IsRun request → (status ≡ 22) ⊎ (status ≡ 25) → new.printed ≡ old.printed
  pub durable : IsFinal status ⊎ ((status ≡ 23) ⊎ (status ≡ 25)) → IsDurable new

-- Why the program ends with a status: the words are refused, the deck is, or a fault came whose count rose; and where the words or the deck are refused it says so, unless a fault or want of memory comes before. Counts of faults never fall.
pub record Causes (request : Option Request) (tells : Bool) (input : List ℕ) (card_faults card_faults' : ℕ) (old new : Facts) (status : ℕ) : Type 0 where
  pub which : IsStatus status
  pub words : status ≡ 20 → request ≡ None
  pub refused : request ≡ None → (status ≡ 20) ⊎ ((status ≡ 24) ⊎ (status ≡ 25))
  pub asked : status ≡ 26 → IsRun request
  pub form : status ≡ 26 → IsTrue tells → IsRefused (deck input)
  pub formless : IsTrue tells → IsRun request → IsRefused (deck input) → (status ≡ 26) ⊎ ((status ≡ 23) ⊎ ((status ≡ 24) ⊎ (status ≡ 25)))
  pub device : status ≡ 22 → Rose old.dev_faults new.dev_faults
  pub read : status ≡ 23 → Rose card_faults card_faults'
  pub print : status ≡ 24 → Rose old.print_faults new.print_faults
  pub later : NoCountFell old new
  pub cards_later : card_faults ≤ card_faults'

-- It is the same hall, with at most the files that the words name, and those only where words and deck are taken.
pub record Attachments (request : Option Request) (tells : Bool) (input : List ℕ) (old new : Facts) (status : ℕ) : Type 0 where
  pub references : new.references ≡ old.references
  pub units : AttachesAsked request old new
  pub unasked : IsUnasked status → new.units ≡ old.units
  pub refused_deck : IsTrue tells → IsRun request → IsRefused (deck input) → new.units ≡ old.units

-- no card is left where a deck was done
abbrev pub ReadsDeck : Option Request → List ℕ → ℕ → Type 0
ReadsDeck request left status = IsRun request → status ≤ 16 → left ≡ []
