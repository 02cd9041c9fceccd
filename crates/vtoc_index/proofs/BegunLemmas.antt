-- Writes after reads, and writes that were not begun.
use Rattle.std.proofs.Common.{◌≡◌, ◌⊎◌, inl, inr, ⊎_elim, ◌<◌, ◌≤◌, ℕ, List, [], sym, ◌∙◌, ap, subst, arith}
use Rattle.std.specs.Prelude.{Result, Ok, Err, IsErr, OnErr, OnOk}
use Rattle.std.proofs.lemmas.Result.{IfOk-from_err}
use Rattle.hall_core.specs.Facts.{Facts, Attached, unit_of}
use Rattle.stop_model.specs.Files.{File, AfterWrite, IsPending, file_of, written}
use Rattle.hall_core.specs.Images.{image_of}
use Rattle.stop_model.specs.Moments.{Meaning, ElapsesExactly, LeftNow, LeavesSame, Same}
use Rattle.stop_model.proofs.MomentLemmas.{CountsNow, left_back}
use Rattle.std.specs.Prelude.{unwrap_or}

on_err : {T E : Type 0} (answer : Result T E) (P : Type 0) → P → OnErr answer P
on_err (Ok x) P here = tt
on_err (Err e) P here = here

left_on : {X : Type 0} {old new : Meaning X} → Same old new → (x : X) (p : List ℕ) → LeftNow old x p → LeftNow new x p
left_on same x p left = ((same.left x).1 left.0, left.1 ∙ sym same.printed)

-- what changes nothing is a write that was not begun
pub not_begun : {T E : Type 0} {name : List ℕ} {at : ℕ} {bytes : List ℕ} {old new : Meaning (List File)} (answer : Result T E) → IsErr answer → Same old new → AfterWrite name at bytes old new answer
not_begun answer failed same = record {
  printed = same.printed;
  done = IfOk-from_err answer _ failed;
  failed = on_err answer _ (inl same.state);
  pending = inr (failed, same.left);
  ticks = IfOk-from_err answer _ failed;
  time = record {
    later = same.time.later;
    since = λ t x p before. (
      (λ left. ⊎_elim (λ earlier. inl earlier) (λ now. inr (left_on same x p now)) ((same.time.since t x p before).0 left)),
      (λ left. (same.time.since t x p before).1 (⊎_elim (λ earlier. inl earlier) (λ now. inr (left_back same x p now)) left)),
    );
  };
}

-- a write after what changes nothing
module _ (name : List ℕ) (at : ℕ) (bytes : List ℕ) (old mid new : Meaning (List File)) (counts : CountsNow old) (same : Same old mid) where
  done_on : {T E : Type 0} (answer : Result T E) → OnOk answer (new.state ≡ written mid.state name at bytes) → OnOk answer (new.state ≡ written old.state name at bytes)
  done_on (Ok x) is = is ∙ ap (λ (files : List File). written files name at bytes) same.state
  done_on (Err e) is = tt

  failed_on : {T E : Type 0} (answer : Result T E) → OnErr answer ((new.state ≡ mid.state) ⊎ (new.state ≡ written mid.state name at bytes)) → OnErr answer ((new.state ≡ old.state) ⊎ (new.state ≡ written old.state name at bytes))
  failed_on (Ok x) is = tt
  failed_on (Err e) is = ⊎_elim (λ kept. inl (kept ∙ same.state)) (λ wrote. inr (wrote ∙ ap (λ (files : List File). written files name at bytes) same.state)) is

  ticks_on : {T E : Type 0} (answer : Result T E) → OnOk answer (mid.clock < new.clock) → OnOk answer (old.clock < new.clock)
  ticks_on (Ok x) is = omega (arith, is, same.time.later)
  ticks_on (Err e) is = tt

  pending_on : IsPending name at bytes mid new → IsPending name at bytes old new
  pending_on pending j = (
    (λ left. let d = (pending j).0 left in (d.0, (same.left d.0).0 d.1, d.2)),
    (λ d. (pending j).1 (d.0, (same.left d.0).1 d.1, d.2)),
  )

  leaves_on : LeavesSame mid new → LeavesSame old new
  leaves_on leaves j = ((λ left. (same.left j).0 ((leaves j).0 left)), (λ left. (leaves j).1 ((same.left j).1 left)))

  time_on : ElapsesExactly mid new (LeftNow new) → ElapsesExactly old new (LeftNow new)
  time_on time = record {
    later = omega (arith, same.time.later, time.later);
    since = λ t x p before.
        let later : t ≤ mid.clock = omega (arith, before, same.time.later) in (
          (λ left. ⊎_elim (λ earlier. inl (⊎_elim (λ first. first) (λ now. counted t x p before now) ((same.time.since t x p before).0 earlier))) (λ now. inr now) ((time.since t x p later).0 left)),
          (λ left. (time.since t x p later).1 (⊎_elim (λ earlier. inl ((same.time.since t x p before).1 (inl earlier))) (λ now. inr now) left)),
        );
  }
    where
      counted : (t : ℕ) (x : List File) (p : List ℕ) → t ≤ old.clock → LeftNow old x p → old.left_since t x p
      counted t x p before now = subst (λ (q : List ℕ). old.left_since t x q) (sym now.1) (counts t x before now.0)

  pub after_same : {T E : Type 0} (answer : Result T E) → AfterWrite name at bytes mid new answer → AfterWrite name at bytes old new answer
  after_same answer write = record {
    printed = write.printed ∙ same.printed;
    done = done_on answer write.done;
    failed = failed_on answer write.failed;
    pending = ⊎_elim (λ pending. inl (pending_on pending)) (λ nothing. inr (nothing.0, leaves_on nothing.1)) write.pending;
    ticks = ticks_on answer write.ticks;
    time = time_on write.time;
  }

-- a unit whose files and facts stay is the same image
pub same_image : (files files' : List File) (old new : Facts) (unit unit' : ℕ) → files' ≡ files → new.units ≡ old.units → unit' ≡ unit → image_of files' new unit' ≡ image_of files old unit
same_image files files' old new unit unit' same units number =
    ap (λ (fs : List File). image_of fs new unit') same
    ∙ ap (λ (us : List Attached). unwrap_or (file_of files (unit_of us unit').name) []) units
    ∙ ap (λ (u : ℕ). image_of files old u) number
