-- Tasks that are done, left undone, or stopped.
use Rattle.std.proofs.Common.{◌≡◌, ◌≢◌, ⊎_elim, inl, inr, ℕ, ◌≤◌, ◌++◌, List, [], refl, sym, ◌∙◌, ap, arith, append_assoc}
use Rattle.std.specs.Prelude.{◌⊎◌, Result}
use Rattle.std.proofs.lemmas.List.{append-nil, append_cancel_left}
use Rattle.stop_model.specs.Files.{AfterPrint, File, IsPrefixOf}
use Rattle.stop_model.specs.Moments.{IsDurable, Meaning, Same}
use Rattle.volume_manager.specs.Run.{AddsPrefix, FollowsTask, IsFinal, KeepsFiles, LeavesFiles, PrintsText}
use Rattle.volume_manager.specs.Task.{Says}

-- a text between one and the same with more after it
between : (old p new q text : List ℕ) → IsPrefixOf old p → IsPrefixOf p new → new ≡ old ++ q → IsPrefixOf q text → AddsPrefix text old p
between old p new q text begins ends more part =
    let joined : begins.0 ++ ends.0 ≡ q =
    append_cancel_left old _ _ (sym (append_assoc old begins.0 ends.0) ∙ ap (λ (l : List ℕ). l ++ ends.0) begins.1 ∙ ends.1 ∙ more) in
    (begins.0, (ends.0 ++ part.0, sym (append_assoc begins.0 ends.0 part.0) ∙ ap (λ (l : List ℕ). l ++ part.0) joined ∙ part.1), sym begins.1)

-- nothing was added
adds_none : (text old new : List ℕ) → new ≡ old → AddsPrefix text old new
adds_none text old new is = ([], (text, refl), is ∙ sym (append-nil old))

-- what a print leaves
pub text_printed : {T E : Type 0} (text : List ℕ) (old new : Meaning (List File)) (outcome : Result T E) (result : ℕ) → AfterPrint text old new outcome → (result ≢ 24 → new.printed ≡ old.printed ++ text) → PrintsText text old new result
text_printed text old new outcome result after done = record {
  done = done;
  files = record {
    files = after.state;
    left = after.left;
    printed = after.prefix;
    moments = record {
      later = after.time.later;
      moments = λ t j p early h. ⊎_elim (λ before. inl before) (λ now. inr (now.0, between old.printed p new.printed after.prefix.0 text now.1.0 now.1.1 after.prefix.2 after.prefix.1)) ((after.time.since t j p early).0 h);
      keeps = λ t j p early h. (after.time.since t j p early).1 (inl h);
    };
  };
}

-- calls that change nothing
pub files_kept : (text : List ℕ) {old new : Meaning (List File)} → Same old new → KeepsFiles text old new
files_kept text {old} {new} same = record {
  files = same.state;
  left = same.left;
  printed = adds_none text old.printed new.printed same.printed;
  moments = record {
    later = same.time.later;
    moments = λ t j p early h. ⊎_elim (λ before. inl before) (λ now. inr (now.0, adds_none text old.printed p now.1)) ((same.time.since t j p early).0 h);
    keeps = λ t j p early h. (same.time.since t j p early).1 (inl h);
  };
}

-- and then others that keep the files
pub kept_then : {text : List ℕ} {old mid new : Meaning (List File)} → Same old mid → KeepsFiles text mid new → KeepsFiles text old new
kept_then {text} {old} {mid} {new} same kept = record {
  files = kept.files ∙ same.state;
  left = λ x. (λ left. (same.left x).0 ((kept.left x).0 left), λ left. (kept.left x).1 ((same.left x).1 left));
  printed = moved kept.printed;
  moments = record {
    later = omega (arith, same.time.later, kept.moments.later);
    moments = λ t j p early h. ⊎_elim
        (λ before. ⊎_elim (λ earlier. inl earlier) (λ now. inr (now.0, adds_none text old.printed p now.1)) ((same.time.since t j p early).0 before))
        (λ now. inr ((same.left j).0 now.0, moved now.1))
        (kept.moments.moments t j p (omega (arith, early, same.time.later)) h);
    keeps = λ t j p early h. kept.moments.keeps t j p (omega (arith, early, same.time.later)) ((same.time.since t j p early).1 (inl h));
  };
}
  where
    moved : {p : List ℕ} → AddsPrefix text mid.printed p → AddsPrefix text old.printed p
    moved more = (more.0, more.1, more.2 ∙ ap (λ (l : List ℕ). l ++ more.0) same.printed)

-- a fault is no end
fault_ends : (result : ℕ) → result ≡ 24 → IsFinal result → ⊥
fault_ends result is final = ⊎_elim (λ (low : result ≤ 21). omega (arith, is, low)) (λ (deck : result ≡ 26). omega (arith, is, deck)) final

-- a text is printed after calls that change nothing
pub text_said : {text : List ℕ} {old mid new : Meaning (List File)} (code result : ℕ) → code ≢ 25 → Same old mid → PrintsText text mid new result → (result ≡ code) ⊎ (result ≡ 24) → FollowsTask (Says code text) old new result
text_said {text} {old} {mid} {new} code result ample same prints which = record {
  ends = λ final. ⊎_elim
      (λ (is : result ≡ code). (is, prints.done (λ (failed : result ≡ 24). fault_ends result failed final) ∙ ap (λ (l : List ℕ). l ++ text) same.printed))
      (λ (failed : result ≡ 24). absurd (fault_ends result failed final))
      which;
  silent = λ (short : result ≡ 25). ⊎_elim (λ (is : result ≡ code). absurd (ample (sym is ∙ short))) (λ (failed : result ≡ 24). absurd (omega (arith, failed, short))) which;
  stops = kept_then same prints.files;
}

-- nothing was said
pub nothing_said : (text : List ℕ) {old new : Meaning (List File)} (code result : ℕ) → Same old new → ¬ IsFinal result → FollowsTask (Says code text) old new result
nothing_said text code result same other = record { ends = λ final. absurd (other final); silent = λ short. same.printed; stops = files_kept text same }

-- the files stay through calls that change nothing and others that keep them
pub files_then : {old mid : Meaning (List File)} (new : Meaning (List File)) → Same old mid → LeavesFiles mid new → LeavesFiles old new
files_then new same stay = (stay.0 ∙ same.state, λ j. (λ left. (same.left j).0 ((stay.1 j).0 left), λ left. (stay.1 j).1 ((same.left j).1 left)))

pub files_same : {old new : Meaning (List File)} → Same old new → LeavesFiles old new
files_same same = (same.state, same.left)

-- through a print
pub files_printed : {text : List ℕ} {old new : Meaning (List File)} {result : ℕ} → PrintsText text old new result → LeavesFiles old new
files_printed prints = (prints.files.files, prints.files.left)

-- what was durable stays so
pub durable_left : (old new : Meaning (List File)) → LeavesFiles old new → IsDurable old → IsDurable new
durable_left old new stay durable j left = durable j ((stay.1 j).0 left) ∙ sym stay.0
