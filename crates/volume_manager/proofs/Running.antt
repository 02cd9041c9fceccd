-- A deck that is run over files, or refused.
use Rattle.std.proofs.Common.{◌≡◌, ◌≢◌, ⊎_elim, inl, inr, ℕ, ◌≤◌, Bool, List, [], refl, sym, ◌∙◌, ap, subst, arith}
use Rattle.std.specs.Prelude.{◌⊎◌, IsTrue, Option, Some, None, Result, Ok, Err}
use Rattle.card_text.specs.declared.cards.Card.{Card}
use Rattle.command_words.specs.Requests.{Run}
use Rattle.deck_cards.specs.Deck.{Refuses, deck}
use Rattle.deck_cards.specs.declared.reader.DeckErr.{DeckErr}
use Rattle.deck_cards.specs.declared.reader.DeckErr.TheVariants as fault
use Rattle.hall_core.specs.Facts.{Facts}
use Rattle.job_deck.specs.Jobs.{jobs_of}
use Rattle.job_deck.specs.declared.job.Job.{Job}
use Rattle.job_runner.specs.Jobs.{jobs_work}
use Rattle.pack_spec.specs.declared.MountErr.{MountErr}
use Rattle.pack_spec.specs.declared.MountErr.TheVariants as mount
use Rattle.pack_spec.specs.Shelf.{UnitRefusal, shelf_of}
use Rattle.shelf_machine.specs.Opening.{images_named}
use Rattle.stop_model.specs.Counts.{Rose}
use Rattle.stop_model.specs.Files.{File}
use Rattle.stop_model.specs.Moments.{IsDurable, Meaning, Same}
use Rattle.stop_model.proofs.MomentLemmas.{OnlyNow}
use Rattle.vol_model.specs.declared.contents.Shelf.{Shelf}
use Rattle.volume_manager.specs.Lines.{deck_line, unit_line}
use Rattle.volume_manager.specs.Run.{Attachments, Causes, DoesTask, RunFacts, FollowsTask, IsFinal, IsStatus, IsUnasked, KeepsFiles, LeftOnlyNow, NoCountFell, RunsItems}
use Rattle.volume_manager.specs.Task.{Says, cards_task, items_of, missing_of, name_of, shelf_task, task_of}
use Rattle.volume_manager.proofs.Attaching.{attaches_none}
use Rattle.volume_manager.proofs.FileTasks.{nothing_of_deck, nothing_run, said_then}
use Rattle.volume_manager.proofs.Tasks.{durable_left, files_kept}
use Rattle.volume_manager.proofs.Works.{calm_now, calm_then, not_final, worked_then}

-- ---- cards over files

-- jobs were run on the shelf of the files, or one was refused
on_shelf : (date : List ℕ) (names : List (List ℕ)) (cards : List Card) (jobs : List Job) (r : Result Shelf UnitRefusal) {old mid new : Meaning (List File)} (status : ℕ) → shelf_of (images_named mid.state names) ≡ r → jobs ≡ jobs_of date cards → Same old mid → IsDurable old → OnlyNow old
    → ((shelf : Shelf) → shelf_of (images_named mid.state names) ≡ Ok shelf → (t : ℕ) → t ≤ mid.clock → LeftOnlyNow mid t → RunsItems names shelf (jobs_work date jobs shelf).items t mid.state mid.printed new status)
    → ((e : UnitRefusal) → shelf_of (images_named mid.state names) ≡ Err e → FollowsTask (Says 21 (unit_line (name_of names e.unit) e.why)) mid new status)
    → FollowsTask (shelf_task date names cards r) old new status
on_shelf date names cards jobs (Err e) status is read same durable only items text = said_then same (text e is)
on_shelf date names cards jobs (Ok shelf) {old} {mid} {new} status is read same durable only items text =
    worked_then names shelf (items_of date cards shelf) status same
    (subst (λ (js : List Job). RunsItems names shelf (jobs_work date js shelf).items old.clock mid.state mid.printed new status) read
    (items shelf is old.clock same.time.later (calm_then old.clock same (omega arith) (calm_now old only durable) durable)))

-- the same once all files are attached
pub run_attached : (date : List ℕ) (names : List (List ℕ)) (cards : List Card) (jobs : List Job) {old mid new : Meaning (List File)} (status : ℕ) → missing_of old.state names ≡ None → jobs ≡ jobs_of date cards → Same old mid → IsDurable old → OnlyNow old
    → ((shelf : Shelf) → shelf_of (images_named mid.state names) ≡ Ok shelf → (t : ℕ) → t ≤ mid.clock → LeftOnlyNow mid t → RunsItems names shelf (jobs_work date jobs shelf).items t mid.state mid.printed new status)
    → ((e : UnitRefusal) → shelf_of (images_named mid.state names) ≡ Err e → FollowsTask (Says 21 (unit_line (name_of names e.unit) e.why)) mid new status)
    → FollowsTask (cards_task date names cards old.state (missing_of old.state names)) old new status
run_attached date names cards jobs {old} {mid} {new} status there read same durable only items text =
    subst (λ (o : Option (List ℕ)). FollowsTask (cards_task date names cards old.state o) old new status) (sym there)
    (on_shelf date names cards jobs (shelf_of (images_named old.state names)) status (ap (λ (files : List File). shelf_of (images_named files names)) same.state) read same durable only items text)

-- a file isn't attached
pub run_unattached : (date : List ℕ) (names : List (List ℕ)) (cards : List Card) {old mid new : Meaning (List File)} (file : List ℕ) (why : MountErr) (status : ℕ) → (why ≡ mount.NoFile → missing_of old.state names ≡ Some file) → (why ≡ mount.NoFile) ⊎ ((why ≡ mount.Device) ⊎ (why ≡ mount.Memory)) → Same old mid
    → IsDurable old → OnlyNow old → (why ≢ mount.Memory → why ≢ mount.Device → FollowsTask (Says 21 (unit_line file why)) mid new status) → ((why ≡ mount.Memory) ⊎ (why ≡ mount.Device) → Same old new) → (why ≡ mount.Device → status ≡ 22) → (why ≡ mount.Memory → status ≡ 25)
    → FollowsTask (cards_task date names cards old.state (missing_of old.state names)) old new status
run_unattached date names cards {old} {mid} {new} file why status missing which same durable only does quiet device memory =
    ⊎_elim
    (λ (gone : why ≡ mount.NoFile).
    let loud = does (λ is. cc) (λ is. cc) in
    let said : FollowsTask (Says 21 (unit_line file mount.NoFile)) mid new status = subst (λ (e : MountErr). FollowsTask (Says 21 (unit_line file e)) mid new status) gone loud in
    subst (λ (o : Option (List ℕ)). FollowsTask (cards_task date names cards old.state o) old new status) (sym (missing gone)) (said_then same said))
    (⊎_elim
    (λ (is : why ≡ mount.Device). nothing_run date names cards status durable only (quiet (inr is)) (not_final status 22 (device is) (omega arith) (omega arith)))
    (λ (is : why ≡ mount.Memory). nothing_run date names cards status durable only (quiet (inl is)) (not_final status 25 (memory is) (omega arith) (omega arith))))
    which

-- with a final status no write is pending
shelf_durable : (date : List ℕ) (names : List (List ℕ)) (cards : List Card) (r : Result Shelf UnitRefusal) {old new : Meaning (List File)} (status : ℕ) → IsDurable old → FollowsTask (shelf_task date names cards r) old new status → IsFinal status → IsDurable new
shelf_durable date names cards (Err e) {old} {new} status durable does final = durable_left old new (does.stops.files, does.stops.left) durable
shelf_durable date names cards (Ok shelf) status durable does final = (does.ends final).durable

cards_durable : (date : List ℕ) (names : List (List ℕ)) (cards : List Card) (files : List File) (missing : Option (List ℕ)) {old new : Meaning (List File)} (status : ℕ) → IsDurable old → FollowsTask (cards_task date names cards files missing) old new status → IsFinal status → IsDurable new
cards_durable date names cards files None status durable does final = shelf_durable date names cards (shelf_of (images_named files names)) status durable does final
cards_durable date names cards files (Some name) {old} {new} status durable does final = durable_left old new (does.stops.files, does.stops.left) durable

pub run_durable : (date : List ℕ) (names : List (List ℕ)) (cards : List Card) {old new : Meaning (List File)} (status : ℕ) → IsDurable old → FollowsTask (cards_task date names cards old.state (missing_of old.state names)) old new status → IsFinal status → IsDurable new
run_durable date names cards {old} status durable does final = cards_durable date names cards old.state (missing_of old.state names) status durable does final

-- ---- a deck

-- whether a fault says nothing of the bytes
pub deck_or_not : (e : DeckErr) → ((e ≡ fault.Read) ⊎ (e ≡ fault.Memory)) ⊎ ((e ≢ fault.Read) × (e ≢ fault.Memory))
deck_or_not fault.Read = inl (inl refl)
deck_or_not fault.Memory = inl (inr refl)
deck_or_not fault.Long = inr (λ is. cc, λ is. cc)
deck_or_not (fault.Wide card) = inr (λ is. cc, λ is. cc)
deck_or_not (fault.Byte card column) = inr (λ is. cc, λ is. cc)

-- a fault of the bytes
pub bytes_refused : (bytes source : Type 0) (e : DeckErr) → e ≢ fault.Read → e ≢ fault.Memory → Refuses e bytes source → bytes
bytes_refused bytes source fault.Read other ample is = absurd (other refl)
bytes_refused bytes source fault.Memory other ample is = absurd (ample refl)
bytes_refused bytes source fault.Long other ample is = is
bytes_refused bytes source (fault.Wide card) other ample is = is
bytes_refused bytes source (fault.Byte card column) other ample is = is

-- the cards couldn't be read: nothing was printed, and the files stay
pub unread_keeps : {old new : Meaning (List File)} (e : DeckErr) (status : ℕ) → ((e ≡ fault.Read) ⊎ (e ≡ fault.Memory) → Same old new) → (e ≢ fault.Read → (status ≡ 26) ⊎ ((status ≡ 24) ⊎ (status ≡ 25))) → status ≡ 23 → KeepsFiles [] old new
unread_keeps e status quiet loud read = ⊎_elim (λ silent. files_kept [] (quiet silent)) (λ other. absurd (omega (arith, read, loud other.0))) (deck_or_not e)

-- one of the source
pub source_failed : (bytes source : Type 0) (e : DeckErr) → e ≡ fault.Read → Refuses e bytes source → source
source_failed bytes source fault.Read read is = is
source_failed bytes source fault.Memory read is = absurd (cc read)
source_failed bytes source fault.Long read is = absurd (cc read)
source_failed bytes source (fault.Wide card) read is = absurd (cc read)
source_failed bytes source (fault.Byte card column) read is = absurd (cc read)

-- cards are run
pub deck_run : {old new : Meaning (List File)} (date : List ℕ) (names : List (List ℕ)) (cards : List Card) (tells : Bool) (input : List ℕ) (status : ℕ) → (IsTrue tells → deck input ≡ Ok cards) → FollowsTask (cards_task date names cards old.state (missing_of old.state names)) old new status
    → DoesTask (Some (Run date names)) tells input old new status
unfolding task_of
deck_run date names cards tells input status given follows = record { cards = Ok cards; given = λ told. sym (given told); follows = follows }

-- a deck is refused, or isn't read
pub deck_refused : {old new : Meaning (List File)} (source : Type 0) (date : List ℕ) (names : List (List ℕ)) (tells : Bool) (input : List ℕ) (e : DeckErr) (status : ℕ) → Refuses e (IsTrue tells → deck input ≡ Err e) source → IsDurable old → OnlyNow old
    → ((e ≡ fault.Read) ⊎ (e ≡ fault.Memory) → Same old new) → (e ≡ fault.Read → status ≡ 23) → (e ≡ fault.Memory → status ≡ 25) → (e ≢ fault.Read → e ≢ fault.Memory → FollowsTask (Says 26 (deck_line e)) old new status)
    → DoesTask (Some (Run date names)) tells input old new status
unfolding task_of
deck_refused source date names tells input e status causes durable only quiet read memory does =
    ⊎_elim
    (λ silent. record {
      cards = deck input;
      given = λ told. refl;
      follows = nothing_of_deck date names (deck input) status durable only (quiet silent)
          (⊎_elim (λ is. not_final status 23 (read is) (omega arith) (omega arith)) (λ is. not_final status 25 (memory is) (omega arith) (omega arith)) silent);
    })
    (λ loud. record {
      cards = Err e;
      given = λ told. sym (bytes_refused (IsTrue tells → deck input ≡ Err e) source e loud.0 loud.1 causes told);
      follows = does loud.0 loud.1;
    })
    (deck_or_not e)

-- these numbers are statuses
run_status : (status : ℕ) → (status ≤ 16) ⊎ ((status ≡ 21) ⊎ ((status ≡ 22) ⊎ ((status ≡ 24) ⊎ (status ≡ 25)))) → IsStatus status
run_status status = ⊎_elim (λ few. inl few) (λ more. inr (omega (arith, more), omega (arith, more)))

refused_status : (status : ℕ) → (status ≡ 23) ⊎ ((status ≡ 26) ⊎ ((status ≡ 24) ⊎ (status ≡ 25))) → IsStatus status
refused_status status which = inr (omega (arith, which), omega (arith, which))

-- why the status of cards that are run comes
pub run_causes : {old new : Facts} {faults faults' : ℕ} (date : List ℕ) (names : List (List ℕ)) (cards : List Card) (tells : Bool) (input : List ℕ) (status : ℕ) → (IsTrue tells → deck input ≡ Ok cards) → faults ≤ faults' → RunFacts names old new status
    → Causes (Some (Run date names)) tells input faults faults' old new status
run_causes date names cards tells input status given later facts =
    let which = facts.which in
    record {
      which = run_status status which;
      words = λ (is : status ≡ 20). absurd (omega (arith, which, is));
      refused = λ none. absurd (cc none);
      asked = λ is. tt;
      form = λ (is : status ≡ 26) told. absurd (omega (arith, which, is));
      formless = λ told run refused. let no = sym (given told) ∙ refused.1 in absurd (cc no);
      device = facts.device;
      read = λ (is : status ≡ 23). absurd (omega (arith, which, is));
      print = facts.print;
      later = facts.later;
      cards_later = later;
    }

-- and that of a deck that is refused
pub refused_causes : {old new : Facts} {faults faults' : ℕ} (date : List ℕ) (names : List (List ℕ)) (tells : Bool) (input : List ℕ) (e : DeckErr) (status : ℕ) → Refuses e (IsTrue tells → deck input ≡ Err e) (Rose faults faults') → faults ≤ faults' → NoCountFell old new
    → (e ≡ fault.Read → status ≡ 23) → (e ≡ fault.Memory → status ≡ 25) → (e ≢ fault.Read → (status ≡ 26) ⊎ ((status ≡ 24) ⊎ (status ≡ 25))) → (status ≡ 24 → Rose old.print_faults new.print_faults)
    → Causes (Some (Run date names)) tells input faults faults' old new status
refused_causes {old} {new} {faults} {faults'} date names tells input e status causes later counts read memory other print =
    let which : (status ≡ 23) ⊎ ((status ≡ 26) ⊎ ((status ≡ 24) ⊎ (status ≡ 25))) = ⊎_elim (⊎_elim (λ is. inl (read is)) (λ is. inr (other (λ no. cc)))) (λ loud. inr (other loud.0)) (deck_or_not e) in
    record {
      which = refused_status status which;
      words = λ (is : status ≡ 20). absurd (omega (arith, which, is));
      refused = λ none. absurd (cc none);
      asked = λ is. tt;
      form = λ (is : status ≡ 26) told. ⊎_elim
          (⊎_elim (λ no. let was = read no in absurd (omega (arith, was, is))) (λ no. let was = memory no in absurd (omega (arith, was, is))))
          (λ loud. (e, bytes_refused (IsTrue tells → deck input ≡ Err e) (Rose faults faults') e loud.0 loud.1 causes told)) (deck_or_not e);
      formless = λ told run refused. ⊎_elim (λ (is : status ≡ 23). inr (inl is)) (⊎_elim (λ (is : status ≡ 26). inl is) (λ more. inr (inr more))) which;
      device = λ (is : status ≡ 22). absurd (omega (arith, which, is));
      read = λ (is : status ≡ 23). ⊎_elim
          (⊎_elim (λ here. source_failed (IsTrue tells → deck input ≡ Err e) (Rose faults faults') e here causes) (λ no. let was = memory no in absurd (omega (arith, was, is))))
          (λ loud. let was = other loud.0 in absurd (omega (arith, was, is))) (deck_or_not e);
      print = print;
      later = counts;
      cards_later = later;
    }

-- the files of cards that are run are attached at most
pub run_units : {old new : Facts} (date : List ℕ) (names : List (List ℕ)) (cards : List Card) (tells : Bool) (input : List ℕ) (status : ℕ) → (IsTrue tells → deck input ≡ Ok cards) → RunFacts names old new status → Attachments (Some (Run date names)) tells input old new status
run_units date names cards tells input status given facts =
    let which = facts.which in
    record {
      references = facts.references;
      units = facts.units;
      unasked = λ (is : IsUnasked status). absurd (omega (arith, which, is));
      refused_deck = λ told run refused. let no = sym (given told) ∙ refused.1 in absurd (cc no);
    }

-- and none of a deck that is refused
pub refused_units : {old new : Facts} (date : List ℕ) (names : List (List ℕ)) (tells : Bool) (input : List ℕ) (status : ℕ) → old.units ≡ [] → new.units ≡ old.units → new.references ≡ old.references → Attachments (Some (Run date names)) tells input old new status
refused_units {old} {new} date names tells input status none same references = record {
  references = references;
  units = attaches_none names old new none (same ∙ none);
  unasked = λ is. same;
  refused_deck = λ told run refused. same;
}
