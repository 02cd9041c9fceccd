-- Whatever is to be done keeps members whole: the volumes of images that mount are lawful.
use Rattle.std.proofs.Common.{◌≡◌, ◌⊎◌, ℕ, ◌+◌, Bool, List, [], ◌∷◌, refl, subst}
use Rattle.std.specs.Prelude.{Option, Some, None, Result, Ok, Err, slice_get}
use Rattle.std.specs.List.{AllByRecursion}
use Rattle.card_text.specs.declared.cards.Card.{Card}
use Rattle.command_words.specs.Requests.{Request, Run, Init, Names, Check}
use Rattle.deck_cards.specs.declared.reader.DeckErr.{DeckErr}
use Rattle.member_laws.proofs.Ordered.{IsOrderedVolume, volume_ordered}
use Rattle.member_laws.proofs.Whole.{kept_whole}
use Rattle.pack_spec.specs.declared.MountErr.{MountErr}
use Rattle.pack_spec.specs.Shelf.{UnitRefusal, serial_faults, shelf_of, shelf_unless, shelf_with, volume_then, volumes_from}
use Rattle.pack_spec.specs.Volume.{volume_of}
use Rattle.pack_spec.proofs.Lawful.{lawful_volume}
use Rattle.shelf_machine.specs.Opening.{images_named}
use Rattle.stop_model.specs.Files.{File, file_of}
use Rattle.stop_model.specs.Moments.{IsDurable, Meaning}
use Rattle.vol_model.specs.declared.contents.Shelf.{Shelf}
use Rattle.vol_model.specs.declared.contents.Volume.{Volume}
use Rattle.vol_model.specs.Events.{events_of, operations_of}
use Rattle.volume_manager.specs.Run.{DoesTask, Headline, IsFinal, IsUnbegun, KeepsFiles, LeavesFiles, MembersStayWhole}
use Rattle.volume_manager.specs.Task.{Task, cards_task, check_task, deck_task, init_task, items_of, missing_of, names_task, shelf_task, task_for, task_of, task_on}
use Rattle.volume_manager.specs.Words.{IsRun}

-- ---- the shelf of images

abbrev AreOrdered : List Volume → Type 0
AreOrdered volumes = AllByRecursion IsOrderedVolume volumes

volumes_ordered : (unit : ℕ) (images : List (List ℕ)) (volumes : List Volume) → volumes_from unit images ≡ Ok volumes → AreOrdered volumes
volumes_ordered unit [] [] is = tt
volumes_ordered unit [] (w ∷ volumes) is = absurd cc
volumes_ordered unit (image ∷ images) volumes is = by_first (volume_of image) (volumes_from (unit + 1) images) refl (λ ws rest. volumes_ordered (unit + 1) images ws rest) is
  where
    by_first : (r : Result Volume MountErr) (others : Result (List Volume) UnitRefusal) → volume_of image ≡ r → ((ws : List Volume) → others ≡ Ok ws → AreOrdered ws) → volume_then unit r others ≡ Ok volumes → AreOrdered volumes
    by_first (Err e) others first each whole = absurd cc
    by_first (Ok w) (Err r) first each whole = absurd cc
    by_first (Ok w) (Ok ws) first each whole =
        let all : w ∷ ws ≡ volumes = cc in
        subst AreOrdered all (volume_ordered w (lawful_volume image w first), each ws refl)

shelf_ordered : (images : List (List ℕ)) (shelf : Shelf) → shelf_of images ≡ Ok shelf → AreOrdered shelf.volumes
unfolding shelf_of
shelf_ordered images shelf is = by_volumes (volumes_from 0 images) refl is
  where
    by_fault : (volumes : List Volume) → AreOrdered volumes → (o : Option UnitRefusal) → shelf_unless o volumes ≡ Ok shelf → AreOrdered shelf.volumes
    by_fault volumes all (Some r) whole = absurd cc
    by_fault volumes all None whole = let same : record { volumes = volumes } ≡ shelf = cc in subst (λ (s : Shelf). AreOrdered s.volumes) same all

    by_volumes : (r : Result (List Volume) UnitRefusal) → volumes_from 0 images ≡ r → shelf_with r ≡ Ok shelf → AreOrdered shelf.volumes
    by_volumes (Err e) each whole = absurd cc
    by_volumes (Ok volumes) each whole = by_fault volumes (volumes_ordered 0 images volumes each) (slice_get (serial_faults volumes) 0) whole

-- ---- tasks

on_file : (file : List ℕ) (task : List ℕ → Volume → Task) (found : Option (List ℕ)) → ((image : List ℕ) (volume : Volume) → MembersStayWhole (task image volume)) → MembersStayWhole (task_on file task found)
on_file file task None stay = tt
on_file file task (Some image) stay = by_volume (volume_of image)
  where
    by_volume : (r : Result Volume MountErr) → MembersStayWhole (task_for file (task image) r)
    by_volume (Err e) = tt
    by_volume (Ok volume) = stay image volume

on_shelf : (date : List ℕ) (names : List (List ℕ)) (cards : List Card) (images : List (List ℕ)) (r : Result Shelf UnitRefusal) → shelf_of images ≡ r → MembersStayWhole (shelf_task date names cards r)
on_shelf date names cards images (Err r) is = tt
on_shelf date names cards images (Ok shelf) is = kept_whole (operations_of (events_of (items_of date cards shelf))) shelf (shelf_ordered images shelf is)

on_cards : (date : List ℕ) (names : List (List ℕ)) (cards : List Card) (files : List File) (missing : Option (List ℕ)) → MembersStayWhole (cards_task date names cards files missing)
on_cards date names cards files (Some name) = tt
on_cards date names cards files None = on_shelf date names cards (images_named files names) (shelf_of (images_named files names)) refl

pub members_stay : (request : Option Request) (cards : Result (List Card) DeckErr) (files : List File) → MembersStayWhole (task_of request cards files)
unfolding task_of
members_stay None cards files = tt
members_stay (Some (Names file)) cards files = on_file file names_task (file_of files file) (λ image volume. tt)
members_stay (Some (Check file)) cards files = on_file file check_task (file_of files file) (λ image volume. tt)
members_stay (Some (Init pack file)) cards files = by_file (file_of files file)
  where
    by_file : (found : Option (List ℕ)) → MembersStayWhole (init_task pack file found)
    by_file None = tt
    by_file (Some image) = tt
members_stay (Some (Run date names)) cards files = by_deck cards
  where
    by_deck : (r : Result (List Card) DeckErr) → MembersStayWhole (deck_task date names r files)
    by_deck (Err e) = tt
    by_deck (Ok deck) = on_cards date names deck files (missing_of files names)

-- what is promised of a task that is done or safe
pub with_members : (request : Option Request) (tells : Bool) (input : List ℕ) (old new : Meaning (List File)) (status : ℕ) → DoesTask request tells input old new status → (IsUnbegun status → LeavesFiles old new) → (status ≡ 23 → KeepsFiles [] old new)
    → (¬ IsRun request → (status ≡ 22) ⊎ (status ≡ 25) → new.printed ≡ old.printed) → (IsFinal status ⊎ ((status ≡ 23) ⊎ (status ≡ 25)) → IsDurable new) → Headline request tells input old new status
with_members request tells input old new status does unbegun unread silent durable =
    record { does = does; members = members_stay request does.cards old.state; unbegun = unbegun; unread = unread; silent = silent; durable = durable }
