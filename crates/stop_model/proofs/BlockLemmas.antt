-- How a block of writes begins, goes on and ends.
use Rattle.std.specs.Prelude.{◌≡◌, ◌⊎◌, ℕ, List, Result, Ok, Err, OnOk, IsErr}
use Rattle.std.proofs.Common.{inl, ⊎_elim, sym, subst, refl, ap, ◌∙◌}
use Rattle.std.proofs.lemmas.Result.{IfOk-from_err, on_ok_weaker}
use Rattle.stop_model.specs.Blocks.{Pends, Syncs, Block, BlockExit, BlockTo, Keeps}
use Rattle.stop_model.specs.Files.{File, written, AfterWrite, AfterSync}
use Rattle.stop_model.specs.Moments.{Meaning, Elapses, Same}
use Rattle.stop_model.specs.Steps.{Stage, Exit, StepTo}
use Rattle.stop_model.proofs.MomentLemmas.{elapses_none, elapses_same, elapses_weaker, elapses_then, elapses_from_exactly}

-- a write of a device is pending
pub pends_of_write : {T E : Type 0} {name : List ℕ} {at : ℕ} {bytes : List ℕ} {old new : Meaning (List File)} {result : Result T E} → AfterWrite name at bytes old new result → Pends (λ files. written files name at bytes) old new result
pends_of_write write = record {
  printed = write.printed;
  done = write.done;
  pending = λ z left. ⊎_elim (λ pending. (pending z).0 left) (λ absent. (z, (absent.1 z).0 left, inl refl)) write.pending;
  time = write.time;
}

-- and a sync of a device is one
pub syncs_of_sync : {T E : Type 0} {old new : Meaning (List File)} {result : Result T E} → AfterSync old new result → Syncs old new result
syncs_of_sync sync = record { state = sync.state; printed = sync.printed; done = sync.done; time = sync.time }

module _ {X Y : Type 0} {f : X → Y} {P : Y → List ℕ → Type 0} where
  -- a block begins at a stage
  pub opens : {Q : Y → Type 0} {old now : Meaning X} {y : Y} {text : List ℕ} → Stage f P old now y text → Q y → ((z : Y) → Q z → P z text) → Block f P Q old now y text
  opens {Q = Q} stage here allowed = record {
    so_far = stage.so_far;
    left = λ x left. subst Q (sym (ap f (stage.durable x left) ∙ stage.state)) here;
    state = stage.state;
    printed = stage.printed;
    here = here;
    allowed = allowed;
  }

  -- it goes on by a write, done or failed
  pub adds : {T E : Type 0} {Q R : Y → Type 0} {old mid new : Meaning X} {y y' : Y} {text : List ℕ} {result : Result T E} {w : X → X} → Block f P Q old mid y text → Pends w mid new result → ((x : X) → Q (f x) → R (f x) × R (f (w x))) → ((z : Y) → R z → P z text) → f (w mid.state) ≡ y' → BlockExit f P R old new y' text result
  adds {Q = Q} {R = R} {mid = mid} {new = new} {result = result} {w = w} block write more allowed to =
      let left : (x : X) → new.left x → R (f x) = λ x left.
      let d = write.pending x left in
      let both = more d.0 (block.left d.0 d.1) in
      ⊎_elim (λ same. subst (λ z. R (f z)) (sym same) both.0) (λ with. subst (λ z. R (f z)) (sym with) both.1) d.2 in
      let time = elapses_then block.so_far (elapses_from_exactly write.time (λ x p now. subst (λ q. P (f x) q) (sym (now.1 ∙ write.printed ∙ block.printed)) (allowed (f x) (left x now.0)))) in
      record {
        done = on_ok_weaker result (λ done. record {
          so_far = time;
          left = left;
          state = ap f done ∙ to;
          printed = write.printed ∙ block.printed;
          here = subst R to (more mid.state (subst Q (sym block.state) block.here)).1;
          allowed = allowed;
        }) write.done;
        printed = write.printed ∙ block.printed;
        moments = time;
      }

  -- it goes on by a call of several writes, done or failed
  pub adds_all : {T E : Type 0} {Q : Y → Type 0} {old mid new : Meaning X} {y y' : Y} {text : List ℕ} {result : Result T E} {after : X} → Block f P Q old mid y text → Keeps (λ x. Q (f x)) after mid new result → f after ≡ y' → Q y' → BlockExit f P Q old new y' text result
  adds_all {result = result} block call to here =
      let time = elapses_then block.so_far (elapses_weaker call.moments (λ x p left. subst (λ q. P (f x) q) (sym (left.1 ∙ block.printed)) (block.allowed (f x) left.0))) in
      record {
        done = on_ok_weaker result (λ done. record {
          so_far = time;
          left = call.left;
          state = ap f done ∙ to;
          printed = call.printed ∙ block.printed;
          here = here;
          allowed = block.allowed;
        }) call.done;
        printed = call.printed ∙ block.printed;
        moments = time;
      }

  -- it stops where a call failed
  pub block_stops : {T E : Type 0} {Q : Y → Type 0} {old new : Meaning X} {y : Y} {text : List ℕ} (answer : Result T E) → IsErr answer → new.printed ≡ text → Elapses old new (λ x p. P (f x) p) → BlockExit f P Q old new y text answer
  block_stops answer failed printed time = record { done = IfOk-from_err answer _ failed; printed = printed; moments = time }

  -- it ends by a sync, done or failed
  pub ends : {T E : Type 0} {Q : Y → Type 0} {old mid new : Meaning X} {y : Y} {text : List ℕ} {result : Result T E} → Block f P Q old mid y text → Syncs mid new result → Exit f P old new y text result
  ends {result = result} block sync =
      let time = elapses_then block.so_far (elapses_from_exactly sync.time (λ x p now. subst (λ q. P (f x) q) (sym (now.1 ∙ block.printed)) (block.allowed (f x) (block.left x now.0)))) in
      record {
        done = on_ok_weaker result (λ durable. record {
          so_far = time;
          durable = durable;
          state = ap f sync.state ∙ block.state;
          printed = sync.printed ∙ block.printed;
          allowed = block.allowed _ block.here;
        }) sync.done;
        moments = time;
      }

  -- a chain goes on by a block and its sync, done or failed
  pub next_block : {T E : Type 0} {Among : Y → Y → Type 0} {old mid new : Meaning X} {y far y' : Y} {text : List ℕ} {result : Result T E} → Stage f P old mid y text → BlockTo f Among far mid new result → far ≡ y' → ((z : Y) → Among y z → P z text) → P y' text → Exit f P old new y' text result
  next_block {Among = Among} {result = result} stage block to among allowed =
      let time = elapses_then stage.so_far (elapses_weaker block.moments (λ x p left. subst (λ q. P (f x) q) (sym (left.1 ∙ stage.printed)) (among (f x) (subst (λ y. Among y (f x)) stage.state left.0)))) in
      record {
        done = on_ok_weaker result (λ done. record { so_far = time; durable = done.1; state = done.0 ∙ to; printed = block.printed ∙ stage.printed; allowed = allowed }) block.done;
        moments = time;
      }

-- one write and its sync are a block: it leaves the state as before, or with the write
pub block_of_step : {X Y T E : Type 0} {f : X → Y} {after : Y} {old new : Meaning X} {result : Result T E} → StepTo f after old new result → BlockTo f (λ y z. (z ≡ y) ⊎ (z ≡ after)) after old new result
block_of_step step = record { done = step.done; printed = step.printed; moments = step.moments }

-- no write
pub keeps_none : {X E : Type 0} (Q : X → Type 0) (m : Meaning X) → ((x : X) → m.left x → Q x) → Keeps {T = Unit {0}} {E = E} Q m.state m m (Ok tt)
keeps_none Q m left = record { printed = refl; done = refl; left = left; moments = elapses_none m _ }

on_ok : {T E P : Type 0} (result : Result T E) → P → OnOk result P
on_ok (Ok x) p = p
on_ok (Err e) p = tt

-- a call that changes nothing but the time
pub keeps_same : {X T E : Type 0} {Q : X → Type 0} {old new : Meaning X} (result : Result T E) → ((x : X) → old.left x → Q x) → Same old new → Keeps Q old.state old new result
keeps_same result left same = record {
  printed = same.printed;
  done = on_ok result same.state;
  left = λ x now. left x ((same.left x).0 now);
  moments = elapses_same same (λ x now. (left x now, refl));
}

-- one write more
pub keeps_more : {X A B T E : Type 0} {Q : X → Type 0} {old mid new : Meaning X} {y : X} {a : A} {result : Result T E} {w : X → X} → Keeps {T = A} {E = B} Q y old mid (Ok a) → Pends w mid new result → ((x : X) → Q x → Q (w x)) → Keeps Q (w y) old new result
keeps_more {Q = Q} {new = new} {result = result} {w = w} call write more =
    let left : (x : _) → new.left x → Q x = λ x left.
    let d = write.pending x left in
    ⊎_elim (λ same. subst Q (sym same) (call.left d.0 d.1)) (λ with. subst Q (sym with) (more d.0 (call.left d.0 d.1))) d.2 in
    record {
      printed = write.printed ∙ call.printed;
      done = on_ok_weaker result (λ done. done ∙ ap w call.done) write.done;
      left = left;
      moments = elapses_then call.moments (elapses_from_exactly write.time (λ x p now. (left x now.0, now.1 ∙ write.printed ∙ call.printed)));
    }

-- one call after another
pub keeps_then : {X A B T E : Type 0} {Q : X → Type 0} {old mid new : Meaning X} {y z : X} {a : A} {result : Result T E} → Keeps {T = A} {E = B} Q y old mid (Ok a) → Keeps Q z mid new result → Keeps Q z old new result
keeps_then one two = record {
  printed = two.printed ∙ one.printed;
  done = two.done;
  left = two.left;
  moments = elapses_then one.moments (elapses_weaker two.moments (λ x p left. (left.0, left.1 ∙ one.printed)));
}

-- what failed, whatever error the caller makes of its own and whatever it was to come to
pub keeps_not : {X T E A B : Type 0} {Q : X → Type 0} {old new : Meaning X} {y far : X} {result : Result T E} (answer : Result A B) → IsErr answer → Keeps Q y old new result → Keeps Q far old new answer
keeps_not answer failed call = record { printed = call.printed; done = IfOk-from_err answer _ failed; left = call.left; moments = call.moments }

-- such calls and a sync are a block
pub keeps_block : {X A B T E : Type 0} {Among : X → X → Type 0} {old mid new : Meaning X} {y : X} {a : A} {result : Result T E} → Keeps {T = A} {E = B} (Among old.state) y old mid (Ok a) → Syncs mid new result → BlockTo (λ x. x) Among y old new result
keeps_block {result = result} call sync = record {
  done = on_ok_weaker result (λ durable. (sync.state ∙ call.done, durable)) sync.done;
  printed = sync.printed ∙ call.printed;
  moments = elapses_then call.moments (elapses_from_exactly sync.time (λ x p now. (call.left x now.0, now.1 ∙ call.printed)));
}

pub keeps_block_not : {X A B T E : Type 0} {Among : X → X → Type 0} {old new : Meaning X} {y far : X} {result : Result T E} (answer : Result A B) → IsErr answer → Keeps (Among old.state) y old new result → BlockTo (λ x. x) Among far old new answer
keeps_block_not answer failed call = record { done = IfOk-from_err answer _ failed; printed = call.printed; moments = call.moments }

-- a block that failed, whatever error the caller makes of its own
pub block_not : {X Y T E A B : Type 0} {f : X → Y} {Among : Y → Y → Type 0} {old new : Meaning X} {y far : Y} {result : Result T E} (answer : Result A B) → IsErr answer → BlockTo f Among y old new result → BlockTo f Among far old new answer
block_not answer failed block = record { done = IfOk-from_err answer _ failed; printed = block.printed; moments = block.moments }
