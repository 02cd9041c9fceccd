-- Tasks on a file, and whole tasks of which nothing was done.
use Rattle.std.proofs.Common.{◌≡◌, ◌≢◌, ⊎_elim, inl, inr, ℕ, ◌++◌, Bool, List, refl, sym, ◌∙◌, ap, subst, arith}
use Rattle.std.specs.Prelude.{◌⊎◌, Option, Some, None, Result, Ok, Err}
use Rattle.card_text.specs.declared.cards.Card.{Card}
use Rattle.command_words.specs.declared.action.NewPack.{NewPack}
use Rattle.command_words.specs.Requests.{Request, Run, Init, Names, Check}
use Rattle.deck_cards.specs.Deck.{deck}
use Rattle.deck_cards.specs.declared.reader.DeckErr.{DeckErr}
use Rattle.pack_spec.specs.declared.MountErr.{MountErr}
use Rattle.pack_spec.specs.declared.MountErr.TheVariants as mount
use Rattle.pack_spec.specs.Shelf.{UnitRefusal, shelf_of}
use Rattle.pack_spec.specs.Volume.{volume_of}
use Rattle.shelf_machine.specs.Opening.{images_named}
use Rattle.stop_model.specs.Files.{File, file_of}
use Rattle.stop_model.specs.Moments.{IsDurable, Meaning, Same}
use Rattle.stop_model.proofs.MomentLemmas.{OnlyNow, same_then}
use Rattle.vol_model.specs.declared.contents.Shelf.{Shelf}
use Rattle.vol_model.specs.declared.contents.Volume.{Volume}
use Rattle.vtoc_index.specs.Index.{IsMounted}
use Rattle.vtoc_index.specs.declared.vol.Vol.{Vol}
use Rattle.volume_manager.specs.Lines.{unit_line, words_line}
use Rattle.volume_manager.specs.Mount.{IsPackIn, RefusesFile}
use Rattle.volume_manager.specs.Run.{DoesTask, FollowsTask, IsFinal}
use Rattle.volume_manager.specs.Task.{Says, Task, cards_task, check_task, deck_task, init_task, items_of, missing_of, names_task, shelf_task, task_for, task_of, task_on}
use Rattle.volume_manager.proofs.Making.{nothing_made}
use Rattle.volume_manager.proofs.Tasks.{kept_then, nothing_said}
use Rattle.volume_manager.proofs.Works.{not_final, nothing_worked}

-- ---- nothing was done

-- the task on a file, which says something whatever the volume in it is
by_file : (file : List ℕ) (task : List ℕ → Volume → Task) (found : Option (List ℕ)) {old new : Meaning (List File)} (status : ℕ) → Same old new → ¬ IsFinal status
    → ((image : List ℕ) (volume : Volume) → FollowsTask (task image volume) old new status) → FollowsTask (task_on file task found) old new status
by_file file task None status same other does = nothing_said _ 21 status same other
by_file file task (Some image) {old} {new} status same other does = by_volume (volume_of image)
  where
    by_volume : (r : Result Volume MountErr) → FollowsTask (task_for file (task image) r) old new status
    by_volume (Ok volume) = does image volume
    by_volume (Err e) = nothing_said _ 21 status same other

-- no names were printed
pub nothing_named : (file : List ℕ) {old new : Meaning (List File)} (status : ℕ) → Same old new → ¬ IsFinal status → FollowsTask (task_on file names_task (file_of old.state file)) old new status
nothing_named file {old} status same other = by_file file names_task (file_of old.state file) status same other (λ image volume. nothing_said _ 0 status same other)

-- a check printed nothing
pub nothing_checked : (file : List ℕ) {old new : Meaning (List File)} (status : ℕ) → Same old new → ¬ IsFinal status → FollowsTask (task_on file check_task (file_of old.state file)) old new status
nothing_checked file {old} status same other = by_file file check_task (file_of old.state file) status same other (λ image volume. nothing_said _ _ status same other)

-- no item of a deck was begun
nothing_on_shelf : (date : List ℕ) (names : List (List ℕ)) (cards : List Card) (r : Result Shelf UnitRefusal) {old new : Meaning (List File)} (status : ℕ) → shelf_of (images_named old.state names) ≡ r → IsDurable old → OnlyNow old → Same old new → ¬ IsFinal status
    → FollowsTask (shelf_task date names cards r) old new status
nothing_on_shelf date names cards (Err r) status is durable only same other = nothing_said _ 21 status same other
nothing_on_shelf date names cards (Ok shelf) status is durable only same other = nothing_worked names shelf (items_of date cards shelf) status is durable only same other

nothing_on_cards : (date : List ℕ) (names : List (List ℕ)) (cards : List Card) (missing : Option (List ℕ)) {old new : Meaning (List File)} (status : ℕ) → IsDurable old → OnlyNow old → Same old new → ¬ IsFinal status
    → FollowsTask (cards_task date names cards old.state missing) old new status
nothing_on_cards date names cards None {old} status durable only same other = nothing_on_shelf date names cards (shelf_of (images_named old.state names)) status refl durable only same other
nothing_on_cards date names cards (Some name) status durable only same other = nothing_said _ 21 status same other

pub nothing_run : (date : List ℕ) (names : List (List ℕ)) (cards : List Card) {old new : Meaning (List File)} (status : ℕ) → IsDurable old → OnlyNow old → Same old new → ¬ IsFinal status
    → FollowsTask (cards_task date names cards old.state (missing_of old.state names)) old new status
nothing_run date names cards {old} status durable only same other = nothing_on_cards date names cards (missing_of old.state names) status durable only same other

pub nothing_of_deck : (date : List ℕ) (names : List (List ℕ)) (cards : Result (List Card) DeckErr) {old new : Meaning (List File)} (status : ℕ) → IsDurable old → OnlyNow old → Same old new → ¬ IsFinal status
    → FollowsTask (deck_task date names cards old.state) old new status
nothing_of_deck date names (Err e) status durable only same other = nothing_said _ 26 status same other
nothing_of_deck date names (Ok cards) status durable only same other = nothing_run date names cards status durable only same other

-- nothing was done of whatever is to be done
pub nothing_done : (request : Option Request) (cards : Result (List Card) DeckErr) {old new : Meaning (List File)} (status : ℕ) → IsDurable old → OnlyNow old → Same old new → ¬ IsFinal status → FollowsTask (task_of request cards old.state) old new status
unfolding task_of
nothing_done None cards status durable only same other = nothing_said _ 20 status same other
nothing_done (Some (Names file)) cards status durable only same other = nothing_named file status same other
nothing_done (Some (Check file)) cards status durable only same other = nothing_checked file status same other
nothing_done (Some (Init pack file)) cards status durable only same other = nothing_made pack file status durable only same other
nothing_done (Some (Run date names)) cards status durable only same other = nothing_of_deck date names cards status durable only same other

-- ---- a file that is mounted, or refused

-- the task on the pack in a file
pub on_pack : {file : List ℕ} {files : List File} {v : Vol} (task : List ℕ → Volume → Task) (found : IsPackIn file files v) {old new : Meaning (List File)} {status : ℕ}
    → ((volume : Volume) → volume_of found.image ≡ Ok volume → IsMounted found.image v → FollowsTask (task found.image volume) old new status) → FollowsTask (task_on file task (file_of files file)) old new status
on_pack {file} {files} {v} task found {old} {new} {status} does =
    let stands = found.mounted.volume in
    subst (λ (o : Option (List ℕ)). FollowsTask (task_on file task o) old new status) (sym found.there)
    (subst (λ (r : Result Volume MountErr). FollowsTask (task_for file (task found.image) r) old new status) (sym stands)
    (does _ stands found.mounted))

-- whether an error says nothing of the file
pub silent_or_not : (e : MountErr) → ((e ≡ mount.Memory) ⊎ (e ≡ mount.Device)) ⊎ ((e ≢ mount.Memory) × (e ≢ mount.Device))
silent_or_not mount.Memory = inl (inl refl)
silent_or_not mount.Device = inl (inr refl)
silent_or_not mount.NoFile = inr (λ is. cc, λ is. cc)
silent_or_not (mount.Image e) = inr (λ is. cc, λ is. cc)
silent_or_not mount.NoLabel = inr (λ is. cc, λ is. cc)
silent_or_not mount.BadVtoc = inr (λ is. cc, λ is. cc)
silent_or_not (mount.VtocTrack track) = inr (λ is. cc, λ is. cc)
silent_or_not mount.NoFormat4 = inr (λ is. cc, λ is. cc)
silent_or_not mount.NoFormat5 = inr (λ is. cc, λ is. cc)
silent_or_not (mount.BadDscb slot byte) = inr (λ is. cc, λ is. cc)
silent_or_not (mount.UnsupportedDscb slot byte) = inr (λ is. cc, λ is. cc)
silent_or_not (mount.UnsupportedExtent slot) = inr (λ is. cc, λ is. cc)
silent_or_not (mount.BadExtent slot) = inr (λ is. cc, λ is. cc)
silent_or_not (mount.BadChain slot) = inr (λ is. cc, λ is. cc)
silent_or_not (mount.DuplicateName slot other) = inr (λ is. cc, λ is. cc)
silent_or_not (mount.Overlap track) = inr (λ is. cc, λ is. cc)
silent_or_not (mount.VtocFull slots) = inr (λ is. cc, λ is. cc)
silent_or_not (mount.SameSerial unit other) = inr (λ is. cc, λ is. cc)

-- a text is said after calls that change nothing
pub said_then : {code : ℕ} {text : List ℕ} {old mid new : Meaning (List File)} {status : ℕ} → Same old mid → FollowsTask (Says code text) mid new status → FollowsTask (Says code text) old new status
said_then {code} {text} {old} {mid} {new} same does = record {
  ends = λ final. let end = does.ends final in (end.0, end.1 ∙ ap (λ (l : List ℕ). l ++ text) same.printed);
  silent = λ short. does.silent short ∙ same.printed;
  stops = kept_then same does.stops;
}

-- whatever was to be done on a file that is refused
pub refused_file : (file : List ℕ) (task : List ℕ → Volume → Task) {old mid new : Meaning (List File)} (why : MountErr) (status : ℕ) → RefusesFile file old.state why → Same old mid
    → (why ≢ mount.Memory → why ≢ mount.Device → FollowsTask (Says 21 (unit_line file why)) mid new status) → ((why ≡ mount.Memory) ⊎ (why ≡ mount.Device) → Same mid new) → (why ≡ mount.Device → status ≡ 22) → (why ≡ mount.Memory → status ≡ 25)
    → (Same old new → ¬ IsFinal status → FollowsTask (task_on file task (file_of old.state file)) old new status) → FollowsTask (task_on file task (file_of old.state file)) old new status
refused_file file task {old} {mid} {new} why status refused same does silent device memory nothing =
    ⊎_elim
    (λ quiet.
    let other : ¬ IsFinal status = ⊎_elim (λ is. not_final status 25 (memory is) (omega arith) (omega arith)) (λ is. not_final status 22 (device is) (omega arith) (omega arith)) quiet in
    nothing (same_then same (silent quiet)) other)
    (λ loud. subst (λ (t : Task). FollowsTask t old new status) (sym (refused.why loud.0 loud.1 task)) (said_then same (does loud.0 loud.1)))
    (silent_or_not why)

-- ---- the answer to the words

-- what follows the task, whatever the deck is
answered : {old new : Meaning (List File)} (request : Option Request) (tells : Bool) (input : List ℕ) (status : ℕ) → FollowsTask (task_of request (deck input) old.state) old new status → DoesTask request tells input old new status
answered request tells input status follows = record { cards = deck input; given = λ told. refl; follows = follows }

pub answered_words : {old new : Meaning (List File)} (request : Option Request) (tells : Bool) (input : List ℕ) (status : ℕ) → request ≡ None → FollowsTask (Says 20 words_line) old new status → DoesTask request tells input old new status
unfolding task_of
answered_words {old} {new} request tells input status is follows = answered request tells input status (subst (λ (r : Option Request). FollowsTask (task_of r (deck input) old.state) old new status) (sym is) follows)

pub answered_names : {old new : Meaning (List File)} (request : Option Request) (file : List ℕ) (tells : Bool) (input : List ℕ) (status : ℕ) → request ≡ Some (Names file) → FollowsTask (task_on file names_task (file_of old.state file)) old new status → DoesTask request tells input old new status
unfolding task_of
answered_names {old} {new} request file tells input status is follows = answered request tells input status (subst (λ (r : Option Request). FollowsTask (task_of r (deck input) old.state) old new status) (sym is) follows)

pub answered_check : {old new : Meaning (List File)} (request : Option Request) (file : List ℕ) (tells : Bool) (input : List ℕ) (status : ℕ) → request ≡ Some (Check file) → FollowsTask (task_on file check_task (file_of old.state file)) old new status → DoesTask request tells input old new status
unfolding task_of
answered_check {old} {new} request file tells input status is follows = answered request tells input status (subst (λ (r : Option Request). FollowsTask (task_of r (deck input) old.state) old new status) (sym is) follows)

pub answered_init : {old new : Meaning (List File)} (request : Option Request) (pack : NewPack) (file : List ℕ) (tells : Bool) (input : List ℕ) (status : ℕ) → request ≡ Some (Init pack file) → FollowsTask (init_task pack file (file_of old.state file)) old new status → DoesTask request tells input old new status
unfolding task_of
answered_init {old} {new} request pack file tells input status is follows = answered request tells input status (subst (λ (r : Option Request). FollowsTask (task_of r (deck input) old.state) old new status) (sym is) follows)

pub answered_nothing : {old new : Meaning (List File)} (request : Option Request) (tells : Bool) (input : List ℕ) (status : ℕ) → IsDurable old → OnlyNow old → Same old new → ¬ IsFinal status → DoesTask request tells input old new status
answered_nothing request tells input status durable only same other = answered request tells input status (nothing_done request (deck input) status durable only same other)
