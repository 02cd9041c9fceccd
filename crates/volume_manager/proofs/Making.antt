-- A new pack that is made, or not, and what a stop leaves of it.
use Rattle.std.proofs.Common.{◌≡◌, ◌≢◌, ⊎_elim, inl, inr, ℕ, ◌++◌, List, [], refl, sym, ◌∙◌, ap, subst, arith}
use Rattle.std.specs.Prelude.{◌⊎◌, Option, Some, None, Result, Ok, Err}
use Rattle.std.proofs.lemmas.List.{append-nil}
use Rattle.command_words.specs.declared.action.NewPack.{NewPack}
use Rattle.pack_init.specs.declared.error.InitErr.{InitErr}
use Rattle.pack_init.specs.declared.error.InitErr.TheVariants.{Device}
use Rattle.pack_init.specs.Init.{IsInitLeft, MakesPack, with_file}
use Rattle.stop_model.proofs.MomentLemmas.{OnlyNow}
use Rattle.stop_model.specs.Files.{File, file_of}
use Rattle.stop_model.specs.Moments.{IsDurable, Meaning, Same}
use Rattle.volume_manager.specs.Lines.{exists_line, init_line}
use Rattle.volume_manager.specs.Run.{AddsPrefix, FollowsTask, IsFinal, IsStopInInit, PrintsText}
use Rattle.volume_manager.specs.Task.{Makes, init_task}
use Rattle.volume_manager.proofs.Tasks.{durable_left, nothing_said, text_said}

-- the making of a pack as the program asks for it
abbrev Making : NewPack → List ℕ → Meaning (List File) → Meaning (List File) → Result (Unit {0}) InitErr → Type 0
Making pack file old mid result = MakesPack pack.geometry pack.serial.bytes pack.vtoc file old mid result

-- what a stop leaves of it
abbrev Left : NewPack → List ℕ → List File → List File → Type 0
Left pack file files j = IsInitLeft pack.geometry pack.serial.bytes pack.vtoc file files j

-- a stop before a byte of the line is printed
silent_stop : (pack : NewPack) (file : List ℕ) (old : Meaning (List File)) (j : List File) (p : List ℕ) → Left pack file old.state j → p ≡ old.printed → IsStopInInit pack file old j p
silent_stop pack file old j p left text = record { left = left; front = []; text = text ∙ sym (append-nil old.printed); prefix = (init_line pack.serial.bytes, refl); whole = inl refl }

-- since the begin a stop left what was there
at_begin : (pack : NewPack) (file : List ℕ) (old : Meaning (List File)) (j : List File) (p : List ℕ) → IsDurable old → OnlyNow old → old.left_since old.clock j p → IsStopInInit pack file old j p
at_begin pack file old j p durable only h = let now = only j p h in silent_stop pack file old j p (inl (durable j now.0)) now.1

-- no pack was begun
nothing_begun : (pack : NewPack) (file : List ℕ) {old new : Meaning (List File)} (status : ℕ) → IsDurable old → OnlyNow old → Same old new → ¬ IsFinal status → FollowsTask (Makes pack file) old new status
nothing_begun pack file {old} {new} status durable only same other = record {
  ends = λ final. absurd (other final);
  silent = λ short. same.printed;
  stops = record {
    later = same.time.later;
    stops = λ j p h. ⊎_elim (λ before. at_begin pack file old j p durable only before) (λ now. silent_stop pack file old j p (inl (durable j now.0)) now.1) ((same.time.since old.clock j p (omega arith)).0 h);
  };
}

-- nothing was done, whether the file is there or not
made_none : (pack : NewPack) (file : List ℕ) (found : Option (List ℕ)) {old new : Meaning (List File)} (status : ℕ) → IsDurable old → OnlyNow old → Same old new → ¬ IsFinal status → FollowsTask (init_task pack file found) old new status
made_none pack file None status durable only same other = nothing_begun pack file status durable only same other
made_none pack file (Some image) status durable only same other = nothing_said (exists_line file) 21 status same other

pub nothing_made : (pack : NewPack) (file : List ℕ) {old new : Meaning (List File)} (status : ℕ) → IsDurable old → OnlyNow old → Same old new → ¬ IsFinal status → FollowsTask (init_task pack file (file_of old.state file)) old new status
nothing_made pack file {old} status durable only same other = made_none pack file (file_of old.state file) status durable only same other

-- what a stop left while the pack was made
in_making : {result : Result (Unit {0}) InitErr} (pack : NewPack) (file : List ℕ) {old mid : Meaning (List File)} (j : List File) (p : List ℕ) → IsDurable old → OnlyNow old → Making pack file old mid result → mid.left_since old.clock j p → IsStopInInit pack file old j p
in_making pack file {old} {mid} j p durable only made h =
    ⊎_elim (λ before. at_begin pack file old j p durable only before) (λ left. silent_stop pack file old j p left.0 left.1) ((made.moments durable).moments old.clock j p (omega arith) h)

-- what one left while the line was printed
in_line : (pack : NewPack) (file : List ℕ) {old mid : Meaning (List File)} (j : List File) (p : List ℕ) → Making pack file old mid (Ok tt) → mid.left j → AddsPrefix (init_line pack.serial.bytes) mid.printed p → IsStopInInit pack file old j p
in_line pack file {old} {mid} j p made left adds =
    let done = made.done in
    let is : j ≡ with_file old.state file done.0 = made.durable j left ∙ done.1 in
    record {
      left = inr (done.0, is, inr (inr done.2));
      front = adds.0;
      text = adds.2 ∙ ap (λ (l : List ℕ). l ++ adds.0) made.printed;
      prefix = adds.1;
      whole = inr (done.0, is, done.2);
    }

-- a pack was made, and its line printed or not
made_whole : (pack : NewPack) (file : List ℕ) {old mid new : Meaning (List File)} (status : ℕ) → IsDurable old → OnlyNow old → Making pack file old mid (Ok tt) → PrintsText (init_line pack.serial.bytes) mid new status → (status ≡ 0) ⊎ (status ≡ 24)
    → FollowsTask (Makes pack file) old new status
made_whole pack file {old} {mid} {new} status durable only made prints which = record {
  ends = λ final. ⊎_elim
      (λ (is : status ≡ 0). record {
        code = is;
        printed = prints.done (λ (failed : status ≡ 24). let no : 0 ≡ 24 = sym is ∙ failed in absurd (cc no)) ∙ ap (λ (l : List ℕ). l ++ init_line pack.serial.bytes) made.printed;
        made = (made.done.0, prints.files.files ∙ made.done.1, made.done.2);
        durable = durable_left mid new (prints.files.files, prints.files.left) made.durable;
      })
      (λ (failed : status ≡ 24). absurd (fault_ends status failed final))
      which;
  silent = λ (short : status ≡ 25). absurd (omega (arith, short, which));
  stops = record {
    later = omega (arith, (made.moments durable).later, prints.files.moments.later);
    stops = λ j p h. ⊎_elim (λ before. in_making pack file j p durable only made before) (λ now. in_line pack file j p made now.0 now.1)
        (prints.files.moments.moments old.clock j p ((made.moments durable).later) h);
  };
}
  where
    fault_ends : (status : ℕ) → status ≡ 24 → IsFinal status → ⊥
    fault_ends status is final = ⊎_elim (λ low. omega (arith, is, low)) (λ (deck : status ≡ 26). omega (arith, is, deck)) final

-- the same of a file that wasn't there
pub pack_made : (pack : NewPack) (file : List ℕ) {old mid new : Meaning (List File)} (status : ℕ) → IsDurable old → OnlyNow old → Making pack file old mid (Ok tt) → PrintsText (init_line pack.serial.bytes) mid new status → (status ≡ 0) ⊎ (status ≡ 24)
    → FollowsTask (init_task pack file (file_of old.state file)) old new status
pack_made pack file {old} {mid} {new} status durable only made prints which =
    subst (λ (o : Option (List ℕ)). FollowsTask (init_task pack file o) old new status) (sym made.fresh) (made_whole pack file status durable only made prints which)

-- a file was there
pub file_exists : (pack : NewPack) (file image : List ℕ) {old mid new : Meaning (List File)} (status : ℕ) → file_of old.state file ≡ Some image → Same old mid → (status ≢ 25 → PrintsText (exists_line file) mid new status) → (status ≡ 25 → Same old new) → (status ≡ 21) ⊎ ((status ≡ 24) ⊎ (status ≡ 25))
    → FollowsTask (init_task pack file (file_of old.state file)) old new status
file_exists pack file image {old} {mid} {new} status there same prints short which =
    subst (λ (o : Option (List ℕ)). FollowsTask (init_task pack file o) old new status) (sym there)
    (⊎_elim (λ (is : status ≡ 21). text_said 21 status (λ no. cc) same (prints (λ (no : status ≡ 25). omega (arith, is, no))) (inl is))
    (⊎_elim (λ (failed : status ≡ 24). text_said 21 status (λ no. cc) same (prints (λ (no : status ≡ 25). omega (arith, failed, no))) (inr failed))
    (λ (memory : status ≡ 25). nothing_said (exists_line file) 21 status (short memory) (unfinished status memory)))
    which)
  where
    unfinished : (status : ℕ) → status ≡ 25 → IsFinal status → ⊥
    unfinished status is final = ⊎_elim (λ low. omega (arith, is, low)) (λ (deck : status ≡ 26). omega (arith, is, deck)) final

-- the device failed
pub making_failed : (pack : NewPack) (file : List ℕ) {old new : Meaning (List File)} (status : ℕ) → status ≡ 22 → IsDurable old → OnlyNow old → Making pack file old new (Err Device) → FollowsTask (init_task pack file (file_of old.state file)) old new status
making_failed pack file {old} {new} status is durable only made = by_file (file_of old.state file) refl
  where
    unfinished : IsFinal status → ⊥
    unfinished final = ⊎_elim (λ low. omega (arith, is, low)) (λ (deck : status ≡ 26). omega (arith, is, deck)) final

    by_file : (o : Option (List ℕ)) → file_of old.state file ≡ o → FollowsTask (init_task pack file o) old new status
    by_file (Some image) there = nothing_said (exists_line file) 21 status (made.stays image there) unfinished
    by_file None there = record {
      ends = λ final. absurd (unfinished final);
      silent = λ short. made.printed;
      stops = record {
        later = (made.moments durable).later;
        stops = λ j p h. in_making pack file j p durable only made h;
      };
    }
