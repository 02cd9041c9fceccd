-- What parts that only read leave, one after another.
use Rattle.std.proofs.Common.{◌≡◌, refl, ◌∙◌, subst, arith}
use Rattle.std.specs.Prelude.{Result, Ok, Err, IsErr, IsErrAnd, IfOk, IsTrue}
use Rattle.stop_model.proofs.MomentLemmas.{CountsNow, same_none, same_then}
use Rattle.vol_model.specs.declared.answers.Stop.{Stop}
use Rattle.vol_model.specs.declared.answers.Stop.TheVariants.{Memory}
use Rattle.vol_model.specs.declared.contents.Shelf.{Shelf}
use Rattle.vol_model.specs.declared.machine.Machine.{Ghosts}
use Rattle.util_steps.specs.Taking.{IsReady, Reads}
use Rattle.util_steps.proofs.Taking.{call_none, call_ok, call_stops, call_then, call_unmade, ready_after}

stopped : {T : Type 0} (P : T → Type 0) (q : Result T Stop) → IsErr q → IfOk q P
stopped P (Ok x) failed = let never : ⊥ = cc in absurd never
stopped P (Err e) failed = tt

weaker : {T : Type 0} {P R : T → Type 0} (q : Result T Stop) → ((x : T) → P x → R x) → IfOk q P → IfOk q R
weaker (Ok x) is holds = is x holds
weaker (Err e) is holds = tt

module _ {X : Type 0} (g : Ghosts X) where
  -- nothing is read
  pub reads_none : {T : Type 0} {R : Shelf → T → Type 0} {machine : X} (z : T) → IsReady g machine → CountsNow (g.meaning machine) → (IsTrue g.tells → R (g.meaning machine).state z) → Reads g R machine machine (Ok z)
  reads_none {machine = machine} z ready counts is = record {
    value = is;
    same = λ told. same_none (g.meaning machine) counts;
    count = refl;
    promise = λ told t known early kept. kept;
    faults = call_none g machine z ready;
  }

  -- the same is read, and more is known of it
  pub reads_weaker : {T : Type 0} {P R : Shelf → T → Type 0} {old new : X} {r : Result T Stop} → Reads g P old new r → (IsTrue g.tells → (x : T) → P (g.meaning old).state x → R (g.meaning old).state x) → Reads g R old new r
  reads_weaker {r = r} one is = record { value = λ told. weaker r (is told) (one.value told); same = one.same; count = one.count; promise = one.promise; faults = one.faults }

  module _ {S : Type 0} {P : Shelf → S → Type 0} {old mid : X} {x : S} (one : Reads g P old mid (Ok x)) where
    -- something is read, and nothing more
    pub reads_as : {T : Type 0} {R : Shelf → T → Type 0} (z : T) → (IsTrue g.tells → P (g.meaning old).state x → R (g.meaning old).state z) → Reads g R old mid (Ok z)
    reads_as z is = record { value = λ told. is told (one.value told); same = one.same; count = one.count; promise = one.promise; faults = call_ok z one.faults }

    -- and then memory runs out
    pub reads_unmade : {T : Type 0} {R : Shelf → T → Type 0} (q : Result T Stop) → IsErr q × IsErrAnd q (λ f. f ≡ Memory) → Reads g R old mid q
    reads_unmade q same = record { value = λ told. stopped _ q same.0; same = one.same; count = one.count; promise = one.promise; faults = call_then one.faults (call_unmade g mid q same.1 (ready_after g one.faults)) }

    -- something else is read after it
    pub reads_then : {T U : Type 0} {Q : Shelf → T → Type 0} {R : Shelf → U → Type 0} {new : X} {y : T} (z : U) → Reads g Q mid new (Ok y)
        → (IsTrue g.tells → P (g.meaning old).state x → Q (g.meaning old).state y → R (g.meaning old).state z) → Reads g R old new (Ok z)
    reads_then {Q = Q} {y = y} z two is = record {
      value = λ told. is told (one.value told) (subst (λ (s : Shelf). Q s y) (one.same told).state (two.value told));
      same = λ told. same_then (one.same told) (two.same told);
      count = two.count ∙ one.count;
      promise = λ told t known early kept. two.promise told t known (omega (arith, early, (one.same told).time.later)) (one.promise told t known early kept);
      faults = call_ok z (call_then one.faults two.faults);
    }

    -- that answers
    pub reads_on : {T : Type 0} {Q R : Shelf → T → Type 0} {new : X} {r : Result T Stop} → Reads g Q mid new r → (IsTrue g.tells → P (g.meaning old).state x → (y : T) → Q (g.meaning old).state y → R (g.meaning old).state y) → Reads g R old new r
    reads_on {Q = Q} {r = r} two is = record {
      value = λ told. weaker r (is told (one.value told)) (subst (λ (s : Shelf). IfOk r (Q s)) (one.same told).state (two.value told));
      same = λ told. same_then (one.same told) (two.same told);
      count = two.count ∙ one.count;
      promise = λ told t known early kept. two.promise told t known (omega (arith, early, (one.same told).time.later)) (one.promise told t known early kept);
      faults = call_then one.faults two.faults;
    }

    -- that is stopped
    pub reads_stops : {T U : Type 0} {Q : Shelf → T → Type 0} {R : Shelf → U → Type 0} {new : X} {e : Stop} (q : Result U Stop) → IsErr q × IsErrAnd q (λ f. f ≡ e) → Reads g Q mid new (Err e) → Reads g R old new q
    reads_stops q same two = record {
      value = λ told. stopped _ q same.0;
      same = λ told. same_then (one.same told) (two.same told);
      count = two.count ∙ one.count;
      promise = λ told t known early kept. two.promise told t known (omega (arith, early, (one.same told).time.later)) (one.promise told t known early kept);
      faults = call_stops q same.1 (call_then one.faults two.faults);
    }
