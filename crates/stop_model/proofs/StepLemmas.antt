-- Calls of a hall as steps.
use Rattle.std.specs.Prelude.{◌≡◌, ◌⊎◌, ℕ, List, ◌++◌, Result, Ok, IsErr}
use Rattle.std.proofs.Common.{inl, inr, ⊎_elim, sym, subst, refl, ap, ◌∙◌, append_assoc}
use Rattle.std.proofs.lemmas.List.{append_cancel_left}
use Rattle.std.proofs.lemmas.Result.{IfOk-from_err, on_ok_weaker}
use Rattle.stop_model.specs.Files.{File, written, IsPrefixOf, AfterWrite, AfterSync, AfterPrint}
use Rattle.stop_model.specs.Moments.{Meaning, IsDurable, Elapses, Same}
use Rattle.stop_model.specs.Steps.{seen, Leaves, IsBeforeOrAfter, StepTo}
use Rattle.stop_model.proofs.MomentLemmas.{CountsNow, OnlyNow, elapses_from_exactly, elapses_weaker, elapses_then, elapses_same, elapses_seen, durable_seen, leaves_now}

-- a step, seen through a further function
pub step_through : {X Y Z T E : Type 0} {f : X → Y} {after : Y} {far : Z} {old new : Meaning X} {result : Result T E} (g : Y → Z) → g after ≡ far → StepTo f after old new result → StepTo (λ x. g (f x)) far old new result
step_through {result = result} g to step = record {
  done = on_ok_weaker result (λ done. (ap g done.0 ∙ to, done.1)) step.done;
  printed = step.printed;
  moments = elapses_weaker step.moments (λ x p left. (⊎_elim (λ before. inl (ap g before)) (λ after. inr (ap g after ∙ to)) left.0, left.1));
}

-- and as one of the meaning that is seen
pub step_seen : {X Y T E : Type 0} {f : X → Y} {after : Y} {old new : Meaning X} {result : Result T E} → StepTo f after old new result → StepTo (λ y. y) after (seen f old) (seen f new) result
step_seen {f = f} {new = new} {result = result} step = record {
  done = on_ok_weaker result (λ done. (done.0, durable_seen f new done.1)) step.done;
  printed = step.printed;
  moments = elapses_seen f step.moments;
}

-- a step seen through a function of what an earlier moment had too, as the units
pub step_at_same : {U X Y T E : Type 0} {now before : U} {old new : Meaning X} {result : Result T E} (f : U → X → Y) (after : U → Y) → now ≡ before → StepTo (f now) (after now) old new result → StepTo (f before) (after before) old new result
step_at_same {U = U} {old = old} {new = new} {result = result} f after same step = subst (λ (u : U). StepTo (f u) (after u) old new result) same step

-- a step after a call that changes nothing
pub same_then_step : {X Y T E : Type 0} {f : X → Y} {after : Y} {old mid new : Meaning X} {result : Result T E} → IsDurable old → Same old mid → StepTo f after mid new result → StepTo f after old new result
same_then_step {f = f} {after = after} {old = old} durable same step = record {
  done = step.done;
  printed = step.printed ∙ same.printed;
  moments = elapses_then
      (elapses_same same (λ x left. (inl (ap f (durable x left)), refl)))
      (elapses_weaker step.moments (λ x p left. (⊎_elim (λ before. inl (before ∙ ap f same.state)) inr left.0, left.1 ∙ same.printed)));
}

-- a step that failed, whatever error the caller makes of its own
pub failed_step : {X Y T E A B : Type 0} {f : X → Y} {after : Y} {old new : Meaning X} {result : Result T E} (answer : Result A B) → IsErr answer → StepTo f after old new result → StepTo f after old new answer
failed_step answer failed step = record { done = IfOk-from_err answer _ failed; printed = step.printed; moments = step.moments }

-- a step that was done, whatever the caller answers
pub done_step : {X Y T E A B : Type 0} {f : X → Y} {after : Y} {old new : Meaning X} {x : T} (y : A) → StepTo {T = T} {E = E} f after old new (Ok x) → StepTo {T = A} {E = B} f after old new (Ok y)
done_step y step = record { done = step.done; printed = step.printed; moments = step.moments }

-- what a stop leaves after a step, done or failed
pub step_leaves : {X Y T E : Type 0} {f : X → Y} {after : Y} {old new : Meaning X} {result : Result T E} → OnlyNow old → CountsNow new → IsDurable old → StepTo f after old new result → Leaves new (λ x p. IsBeforeOrAfter (f old.state) after old.printed (f x) p)
step_leaves {f = f} only counts durable step = leaves_now only counts (λ x left. (inl (ap f (durable x left)), refl)) step.moments

-- a write over durable files, done or failed, is the one pending write
pub write_leaves : {T E : Type 0} {name : List ℕ} {at : ℕ} {bytes : List ℕ} {old new : Meaning (List File)} {result : Result T E} → IsDurable old → AfterWrite name at bytes old new result → (j : List File) → new.left j → (j ≡ old.state) ⊎ (j ≡ written old.state name at bytes)
write_leaves {name = name} {at = at} {bytes = bytes} {old = old} durable write j left = ⊎_elim
    (λ pending. let d = (pending j).0 left in ⊎_elim (λ without. inl (without ∙ durable d.0 d.1)) (λ with. inr (with ∙ ap (λ (k : List File). written k name at bytes) (durable d.0 d.1))) d.2)
    (λ absent. inl (durable j ((absent.1 j).0 left)))
    write.pending

-- the files with the write, where those that it is made over are known
pub written_over : {T E : Type 0} {name : List ℕ} {at : ℕ} {bytes : List ℕ} {old new : Meaning (List File)} {result : Result T E} {files : List File} → AfterWrite name at bytes old new result → old.state ≡ files → written old.state name at bytes ≡ written files name at bytes
written_over {name = name} {at = at} {bytes = bytes} write same = ap (λ (files : List File). written files name at bytes) same

-- a stop since a write over durable files leaves it out or keeps it
pub elapses_write : {Y T E : Type 0} (f : List File → Y) {name : List ℕ} {at : ℕ} {bytes : List ℕ} {old new : Meaning (List File)} {result : Result T E} → IsDurable old → AfterWrite name at bytes old new result
    → Elapses old new (λ j p. IsBeforeOrAfter (f old.state) (f (written old.state name at bytes)) old.printed (f j) p)
elapses_write f durable write = elapses_from_exactly write.time (λ j p left. (⊎_elim (λ before. inl (ap f before)) (λ after. inr (ap f after)) (write_leaves durable write j left.0), left.1 ∙ write.printed))

-- a write that failed
pub failed_write : {Y T E A B : Type 0} (f : List File → Y) {name : List ℕ} {at : ℕ} {bytes : List ℕ} {old new : Meaning (List File)} {result : Result T E} (answer : Result A B) → IsErr answer → IsDurable old → AfterWrite name at bytes old new result
    → StepTo f (f (written old.state name at bytes)) old new answer
failed_write f answer failed durable write = record {
  done = IfOk-from_err answer _ failed;
  printed = write.printed;
  moments = elapses_write f durable write;
}

-- a write and then a sync, done or failed, are one step
pub write_then_sync : {Y T E A B : Type 0} (f : List File → Y) {name : List ℕ} {at : ℕ} {bytes : List ℕ} {old mid new : Meaning (List File)} {x : T} {result : Result A B} → IsDurable old → AfterWrite {T = T} {E = E} name at bytes old mid (Ok x) → AfterSync mid new result
    → StepTo f (f (written old.state name at bytes)) old new result
write_then_sync f {result = result} durable write sync = record {
  done = on_ok_weaker result (λ done. (ap f (sync.state ∙ write.done), done)) sync.done;
  printed = sync.printed ∙ write.printed;
  moments = elapses_then (elapses_write f durable write)
      (elapses_from_exactly sync.time (λ j p left. (⊎_elim (λ before. inl (ap f before)) (λ after. inr (ap f after)) (write_leaves durable write j left.0), left.1 ∙ write.printed)));
}

-- what a stop in a print leaves: what one left before, with a prefix of the line
pub elapses_print : {T E : Type 0} {bytes : List ℕ} {old new : Meaning (List File)} {result : Result T E} {P : List File → List ℕ → Type 0} → AfterPrint bytes old new result → ((j : List File) (q : List ℕ) → old.left j → IsPrefixOf q bytes → P j (old.printed ++ q)) → Elapses old new P
elapses_print {bytes = bytes} {old = old} {P = P} print each = elapses_from_exactly print.time (λ j p left.
    let so_far = left.1.0 in
    let rest = left.1.1 in
    let whole = print.prefix in
    let same = append_cancel_left old.printed (so_far.0 ++ rest.0) whole.0 (sym (append_assoc old.printed so_far.0 rest.0) ∙ ap (λ (q : List ℕ). q ++ rest.0) so_far.1 ∙ rest.1 ∙ whole.2) in
    subst (λ q. P j q) so_far.1 (each j so_far.0 left.0 (rest.0 ++ whole.1.0, sym (append_assoc so_far.0 rest.0 whole.1.0) ∙ ap (λ (q : List ℕ). q ++ whole.1.0) same ∙ whole.1.1)))

pub durable_printed : {T E : Type 0} {bytes : List ℕ} {old new : Meaning (List File)} {result : Result T E} → AfterPrint bytes old new result → IsDurable old → IsDurable new
durable_printed print durable j left = durable j ((print.left j).0 left) ∙ sym print.state
