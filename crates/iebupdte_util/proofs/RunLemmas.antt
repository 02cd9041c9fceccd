-- The items of a step, case by case.
use Rattle.std.proofs.Common.{◌≡◌, ℕ, ◌≤◌, Bool, List, ◌∷◌, [], sym, ◌∙◌, ap, subst, arith}
use Rattle.std.proofs.lemmas.List.{append-nil}
use Rattle.std.specs.Prelude.{IsErr, IsErrAnd, Option, Some, None, IsTrue, IfOk, Result, Ok, Err}
use Rattle.std.specs.Map.{lookup}
use Rattle.card_text.specs.declared.cards.Card.{Card}
use Rattle.stop_model.specs.Moments.{IsDurable, Meaning, Same}
use Rattle.vol_model.specs.declared.answers.Stop.{Stop}
use Rattle.vol_model.specs.declared.answers.Stop.TheVariants.{Memory}
use Rattle.vol_model.specs.Calls.{Keeps, Known}
use Rattle.vol_model.specs.declared.contents.Shelf.{Shelf}
use Rattle.vol_model.specs.declared.machine.Machine.{Ghosts}
use Rattle.vol_model.specs.Events.{Event, Item, code_of, events_of}
use Rattle.vol_model.specs.Runs.{Counts, Runs}
use Rattle.vol_model.proofs.Stops.{HasRun, run_then, since_first, since_second}
use Rattle.vol_model.proofs.Working.{idle_since}
use Rattle.util_steps.specs.Taking.{Reads, RunsItems}
use Rattle.util_steps.proofs.Taking.{call_stops, call_then, call_unmade, ready_after}
use Rattle.util_syntax.specs.declared.step.StepIn.{StepIn}
use Rattle.util_syntax.specs.Program.{no_dd_item, sysin}
use Rattle.util_syntax.specs.Step.{same_name}
use Rattle.util_steps.specs.declared.calls.SetRef.{SetRef}
use Rattle.output_files.specs.declared.outputs.Output.{Output}
use Rattle.output_files.specs.Outputs.{set_in, sysut1, sysut2}
use Rattle.iebupdte_util.specs.Items.{cards_in, iebupdte_items, is_new, items_if, old_in}

-- ---- the DDs

module _ (step : StepIn) (shelf : Shelf) where
  abbrev by_dds : Option (List (ℕ × Card)) → Option Output → Option (Option SetRef) → List Item
  by_dds cs out old = items_if shelf step.card cs out old

  abbrev output_of : Option Output
  output_of = set_in (lookup (same_name sysut2) step.dds)

  abbrev old_of : Option (Option SetRef)
  old_of = old_in (is_new step) (set_in (lookup (same_name sysut1) step.dds))

  -- SYSIN is neither cards nor DUMMY
  pub no_sysin : None ≡ cards_in (lookup (same_name sysin) step.dds) → no_dd_item step.card sysin ∷ [] ≡ iebupdte_items step shelf
  unfolding iebupdte_items
  no_sysin none = ap (λ (s : Option (List (ℕ × Card))). by_dds s output_of old_of) none

  module _ (cs : List (ℕ × Card)) (some : Some cs ≡ cards_in (lookup (same_name sysin) step.dds)) where
    on_cards : by_dds (Some cs) output_of old_of ≡ iebupdte_items step shelf
    unfolding iebupdte_items
    on_cards = ap (λ (s : Option (List (ℕ × Card))). by_dds s output_of old_of) some

    -- SYSUT2 is missing
    pub no_output : None ≡ output_of → no_dd_item step.card sysut2 ∷ [] ≡ iebupdte_items step shelf
    no_output none = ap (λ (o : Option Output). by_dds (Some cs) o old_of) none ∙ on_cards

    module _ (out : Output) (there : Some out ≡ output_of) where
      -- SYSUT1 is missing
      pub no_old : None ≡ old_of → no_dd_item step.card sysut1 ∷ [] ≡ iebupdte_items step shelf
      no_old none = ap (λ (o : Option (Option SetRef)). by_dds (Some cs) (Some out) o) none ∙ ap (λ (o : Option Output). by_dds (Some cs) o old_of) there ∙ on_cards

      -- all are there
      pub all_there : (old : Option SetRef) → Some old ≡ old_of → by_dds (Some cs) (Some out) (Some old) ≡ iebupdte_items step shelf
      all_there old is = ap (λ (o : Option (Option SetRef)). by_dds (Some cs) (Some out) o) is ∙ ap (λ (o : Option Output). by_dds (Some cs) o old_of) there ∙ on_cards

-- ---- items after something was read

module _ {tells : Bool} {old mid : Meaning Shelf} (same : Same old mid) (durable : IsDurable old) where
  idle : HasRun tells [] old mid
  idle = record { state = same.state; printed = λ told. same.printed ∙ sym (append-nil old.printed); moments = idle_since same durable }

  runs_after : (es : List Event) {new : Meaning Shelf} (r : Result ℕ Stop) → Runs tells es mid new r → Runs tells es old new r
  runs_after es {new = new} (Ok x) runs =
      let second : HasRun tells es mid new = record { state = runs.shelf; printed = runs.printed; moments = runs.moments } in
      let both : HasRun tells es old new = run_then idle second in
      record { shelf = both.state; printed = both.printed; moments = both.moments }
  runs_after es (Err e) runs = record { shelf = tt; printed = tt; moments = since_second es idle runs.moments }

  pub runs_later : (items : Shelf → List Item) {new : Meaning Shelf} (r : Result ℕ Stop) → Runs tells (events_of (items mid.state)) mid new r → Runs tells (events_of (items old.state)) old new r
  runs_later items {new = new} r runs = subst (λ (s : Shelf). Runs tells (events_of (items s)) old new r) same.state (runs_after (events_of (items mid.state)) r runs)

  pub runs_idle : (es : List Event) (r : Result ℕ Stop) → IsErr r → Runs tells es old mid r
  runs_idle es (Ok x) failed = let no : ⊥ = cc in absurd no
  runs_idle es (Err e) failed = record { shelf = tt; printed = tt; moments = since_first [] es idle.moments }

keeps_later : {P Q R : ℕ → Known → Type 0} {a b : ℕ} → a ≤ b → Keeps a P Q → Keeps b Q R → Keeps a P R
keeps_later later one two t known early kept = two t known (omega arith) (one t known early kept)

none_code : (q : Result ℕ Stop) (P : ℕ → Type 0) → IsErr q → IfOk q P
none_code (Ok code) P failed = let no : ⊥ = cc in absurd no
none_code (Err e) P failed = tt

none_counted : (q : Result ℕ Stop) (es : List Event) (n m : ℕ) → IsErr q → Counts es n m q
none_counted (Ok code) es n m failed = let no : ⊥ = cc in absurd no
none_counted (Err e) es n m failed = record { count = tt }

module _ {X T : Type 0} (g : Ghosts X) {Holds : Shelf → T → Type 0} {old mid : X} (durable : IsTrue g.tells → IsDurable (g.meaning old)) where
  -- the items of a program, by what is read before
  pub runs_read : {items whole : Shelf → List Item} {new : X} {x : T} {r : Result ℕ Stop} → Reads g Holds old mid (Ok x) → (IsTrue g.tells → Holds (g.meaning old).state x → whole (g.meaning old).state ≡ items (g.meaning old).state)
      → RunsItems g items mid new r → RunsItems g whole old new r
  runs_read {items = items} {whole = whole} {new = new} {r = r} one same two = record {
    runs = λ told.
        subst (λ (l : List Item). Runs g.tells_prints (events_of l) (g.meaning old) (g.meaning new) r) (sym (same told (one.value told))) (runs_later (one.same told) (durable told) items r (two.runs told));
    code = λ told.
        subst (λ (l : List Item). IfOk r (λ code. code ≡ code_of l)) (ap items (one.same told).state ∙ sym (same told (one.value told))) (two.code told);
    count = λ told.
        subst (λ (n : ℕ). Counts (events_of (whole (g.meaning old).state)) n (g.status new).done r) one.count
        (subst (λ (l : List Item). Counts (events_of l) (g.status mid).done (g.status new).done r) (ap items (one.same told).state ∙ sym (same told (one.value told))) (two.count told));
    small = two.small;
    promise = λ told. keeps_later (one.same told).time.later (one.promise told) (two.promise told);
    faults = call_then one.faults two.faults;
  }

  -- they are stopped while something is read
  pub runs_unread : (whole : Shelf → List Item) {e : Stop} (q : Result ℕ Stop) → IsErr q × IsErrAnd q (λ f. f ≡ e) → Reads g Holds old mid (Err e) → RunsItems g whole old mid q
  runs_unread whole q same one = record {
    runs = λ told. runs_idle (one.same told) (durable told) (events_of (whole (g.meaning old).state)) q same.0;
    code = λ told. none_code q (λ code. code ≡ code_of (whole (g.meaning old).state)) same.0;
    count = λ told. none_counted q (events_of (whole (g.meaning old).state)) (g.status old).done (g.status mid).done same.0;
    small = none_code q (λ code. code ≤ 16) same.0;
    promise = one.promise;
    faults = call_stops q same.1 one.faults;
  }

  -- or memory runs out after that
  pub runs_unmade : (whole : Shelf → List Item) {x : T} (q : Result ℕ Stop) → IsErr q × IsErrAnd q (λ f. f ≡ Memory) → Reads g Holds old mid (Ok x) → RunsItems g whole old mid q
  runs_unmade whole q same one = record {
    runs = λ told. runs_idle (one.same told) (durable told) (events_of (whole (g.meaning old).state)) q same.0;
    code = λ told. none_code q (λ code. code ≡ code_of (whole (g.meaning old).state)) same.0;
    count = λ told. none_counted q (events_of (whole (g.meaning old).state)) (g.status old).done (g.status mid).done same.0;
    small = none_code q (λ code. code ≤ 16) same.0;
    promise = one.promise;
    faults = call_then one.faults (call_unmade g mid q same.1 (ready_after g one.faults));
  }
