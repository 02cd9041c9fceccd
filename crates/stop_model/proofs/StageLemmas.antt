-- How a chain of steps begins, goes on and ends.
use Rattle.std.specs.Prelude.{◌≡◌, ℕ, List, [], ◌++◌, Result, IsErr}
use Rattle.std.proofs.Common.{inl, inr, ⊎_elim, sym, subst, refl, ap, ◌∙◌}
use Rattle.std.proofs.lemmas.List.{append-nil}
use Rattle.std.proofs.lemmas.Result.{IfOk-from_err, on_ok_weaker}
use Rattle.stop_model.specs.Files.{File, IsPrefixOf, AfterPrint}
use Rattle.stop_model.specs.Moments.{Meaning, IsDurable, Elapses, Same}
use Rattle.stop_model.specs.Steps.{seen, Leaves, IsBeforeOrAfter, StepTo, Stage, Exit}
use Rattle.stop_model.proofs.MomentLemmas.{CountsNow, OnlyNow, elapses_none, elapses_weaker, elapses_then, elapses_same, elapses_seen, durable_seen, leaves_now, durable_leaves, durable_same}
use Rattle.stop_model.proofs.StepLemmas.{step_leaves, elapses_print, durable_printed}

-- what holds of a state and a text holds of their equals
moved : {Y : Type 0} (P : Y → List ℕ → Type 0) {y z : Y} {text p : List ℕ} → z ≡ y → p ≡ text → P y text → P z p
moved P {y = y} {p = p} same_state same_text here = subst (λ w. P w p) (sym same_state) (subst (λ q. P y q) (sym same_text) here)

module _ {X Y : Type 0} {f : X → Y} {P : Y → List ℕ → Type 0} where
  -- a stop at a stage leaves what has P
  pub stage_leaves : {old now : Meaning X} {y : Y} {text : List ℕ} → Stage f P old now y text → Leaves now (λ x p. P (f x) p)
  stage_leaves stage x left = moved P (ap f (stage.durable x left) ∙ stage.state) stage.printed stage.allowed

  -- a chain begins at a durable state
  pub begins : {old : Meaning X} → IsDurable old → P (f old.state) old.printed → Stage f P old old (f old.state) old.printed
  begins {old = old} durable allowed = record { so_far = elapses_none old _; durable = durable; state = refl; printed = refl; allowed = allowed }

  -- it goes on by a call that changes nothing
  pub quiet : {old mid new : Meaning X} {y : Y} {text : List ℕ} → Stage f P old mid y text → Same mid new → Stage f P old new y text
  quiet stage same = record {
    so_far = elapses_then stage.so_far (elapses_same same (stage_leaves stage));
    durable = durable_same same stage.durable;
    state = ap f same.state ∙ stage.state;
    printed = same.printed ∙ stage.printed;
    allowed = stage.allowed;
  }

  -- by a step, done or failed
  pub next : {T E : Type 0} {old mid new : Meaning X} {y far y' : Y} {text : List ℕ} {result : Result T E} → Stage f P old mid y text → StepTo f far mid new result → far ≡ y' → P y' text → Exit f P old new y' text result
  next {result = result} stage step to allowed =
      let time = elapses_then stage.so_far (elapses_weaker step.moments (λ x p left. ⊎_elim
      (λ before. moved P (before ∙ stage.state) (left.1 ∙ stage.printed) stage.allowed)
      (λ after. moved P (after ∙ to) (left.1 ∙ stage.printed) allowed) left.0)) in
      record {
        done = on_ok_weaker result (λ done. record { so_far = time; durable = done.1; state = done.0 ∙ to; printed = step.printed ∙ stage.printed; allowed = allowed }) step.done;
        moments = time;
      }

  -- by a step that is a change of what is seen
  pub next_by : {T E : Type 0} {old mid new : Meaning X} {y : Y} {text : List ℕ} {result : Result T E} (g : Y → Y) → Stage f P old mid y text → StepTo f (g (f mid.state)) mid new result → P (g y) text → Exit f P old new (g y) text result
  next_by g stage step allowed = next stage step (ap g stage.state) allowed

  -- by a chain of its own, done or failed
  pub next_chain : {T E : Type 0} {Q : Y → List ℕ → Type 0} {old mid new : Meaning X} {y y' : Y} {text text' : List ℕ} {result : Result T E} → Stage f P old mid y text → Exit f Q mid new y' text' result → ((z : Y) (p : List ℕ) → Q z p → P z p) → Exit f P old new y' text' result
  next_chain {result = result} stage chain weaker =
      let time = elapses_then stage.so_far (elapses_weaker chain.moments (λ x p left. weaker _ p left)) in
      record {
        done = on_ok_weaker result (λ done. record { so_far = time; durable = done.durable; state = done.state; printed = done.printed; allowed = weaker _ _ done.allowed }) chain.done;
        moments = time;
      }

  -- it stops where a call failed, whatever it was to come to
  pub stops : {T E : Type 0} {old new : Meaning X} {y : Y} {text : List ℕ} (answer : Result T E) → IsErr answer → Elapses old new (λ x p. P (f x) p) → Exit f P old new y text answer
  stops answer failed time = record { done = IfOk-from_err answer _ failed; moments = time }

  -- what a stop leaves after a chain, done or failed
  pub exit_leaves : {T E : Type 0} {old new : Meaning X} {y : Y} {text : List ℕ} {result : Result T E} → OnlyNow old → CountsNow new → IsDurable old → P (f old.state) old.printed → Exit f P old new y text result → Leaves new (λ x p. P (f x) p)
  exit_leaves {old = old} only counts durable allowed exit = leaves_now only counts (durable_leaves old (λ x. P (f x) old.printed) durable allowed) exit.moments

  -- and after its last step, seen through a further function
  pub next_leaves : {Z T E : Type 0} {old mid new : Meaning X} {y far y' : Y} {text : List ℕ} {result : Result T E} (g : Y → Z) → OnlyNow mid → CountsNow new → Stage f P old mid y text → StepTo f far mid new result → far ≡ y' → Leaves new (λ x p. IsBeforeOrAfter (g y) (g y') text (g (f x)) p)
  next_leaves g only counts stage step to x left =
      let now = step_leaves only counts stage.durable step x left in
      (⊎_elim (λ before. inl (ap g (before ∙ stage.state))) (λ after. inr (ap g (after ∙ to))) now.0, now.1 ∙ stage.printed)

-- a chain goes on by a print, done or failed
pub says : {Y T E : Type 0} {f : List File → Y} {P : Y → List ℕ → Type 0} {bytes : List ℕ} {old mid new : Meaning (List File)} {y : Y} {text : List ℕ} {result : Result T E} → Stage f P old mid y text → AfterPrint bytes mid new result → ((q : List ℕ) → IsPrefixOf q bytes → P y (text ++ q)) → Exit f P old new y (text ++ bytes) result
says {f = f} {P = P} {bytes = bytes} {y = y} {text = text} {result = result} stage print allowed =
    let time = elapses_then stage.so_far (elapses_print print (λ j q left prefix. moved P (ap f (stage.durable j left) ∙ stage.state) (ap (λ (p : List ℕ). p ++ q) stage.printed) (allowed q prefix))) in
    record {
      done = on_ok_weaker result (λ done. record {
        so_far = time;
        durable = durable_printed print stage.durable;
        state = ap f print.state ∙ stage.state;
        printed = done ∙ ap (λ (p : List ℕ). p ++ bytes) stage.printed;
        allowed = allowed bytes ([], append-nil bytes);
      }) print.done;
      moments = time;
    }

-- what a stop leaves after it
pub says_leaves : {Y T E : Type 0} {f : List File → Y} {P : Y → List ℕ → Type 0} {bytes : List ℕ} {old mid new : Meaning (List File)} {y : Y} {text : List ℕ} {result : Result T E} → Stage f P old mid y text → AfterPrint bytes mid new result → Leaves new (λ j p. (f j ≡ y) × ((q : List ℕ) × IsPrefixOf q bytes × (p ≡ text ++ q)))
says_leaves {f = f} stage print j left =
    (ap f (stage.durable j ((print.left j).0 left)) ∙ stage.state, (print.prefix.0, print.prefix.1, print.prefix.2 ∙ ap (λ (p : List ℕ). p ++ print.prefix.0) stage.printed))

-- a print after a chain, also one that failed: P has to hold of what it may leave too
pub says_after : {Y T E A B : Type 0} {f : List File → Y} {P : Y → List ℕ → Type 0} {bytes : List ℕ} {old mid new : Meaning (List File)} {y : Y} {text : List ℕ} {result : Result T E} {answer : Result A B} → OnlyNow old → CountsNow mid → IsDurable old → P (f old.state) old.printed → Exit f P old mid y text result → AfterPrint bytes mid new answer → ((z : Y) (p q : List ℕ) → P z p → IsPrefixOf q bytes → P z (p ++ q)) → Elapses old new (λ j p. P (f j) p)
says_after only counts durable allowed exit print longer = elapses_then exit.moments (elapses_print print (λ j q left prefix. longer _ _ q (exit_leaves only counts durable allowed exit j left) prefix))

-- a chain as one of the meaning that is seen
pub stage_seen : {X Y : Type 0} {f : X → Y} {P : Y → List ℕ → Type 0} {old now : Meaning X} {y : Y} {text : List ℕ} → Stage f P old now y text → Stage (λ z. z) P (seen f old) (seen f now) y text
stage_seen {f = f} {now = now} stage = record { so_far = elapses_seen f stage.so_far; durable = durable_seen f now stage.durable; state = stage.state; printed = stage.printed; allowed = stage.allowed }

pub exit_seen : {X Y T E : Type 0} {f : X → Y} {P : Y → List ℕ → Type 0} {old new : Meaning X} {y : Y} {text : List ℕ} {result : Result T E} → Exit f P old new y text result → Exit (λ z. z) P (seen f old) (seen f new) y text result
exit_seen {f = f} {result = result} exit = record { done = on_ok_weaker result stage_seen exit.done; moments = elapses_seen f exit.moments }

-- a chain whose states stand for the state before or after is one step of what they stand for
pub exit_as_step : {X Y Z T E : Type 0} {f : X → Y} {P : Y → List ℕ → Type 0} {old new : Meaning X} {y : Y} {text : List ℕ} {result : Result T E} (g : Y → Z) (after : Z) → g y ≡ after → ((z : Y) (p : List ℕ) → P z p → IsBeforeOrAfter (g (f old.state)) after old.printed (g z) p) → new.printed ≡ old.printed → Exit f P old new y text result → StepTo (λ x. g (f x)) after old new result
exit_as_step {result = result} g after to stands printed exit = record {
  done = on_ok_weaker result (λ done. (ap g done.state ∙ to, done.durable)) exit.done;
  printed = printed;
  moments = elapses_weaker exit.moments (λ x p left. stands _ p left);
}
