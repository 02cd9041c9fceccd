-- What is read, and what is put then.
use Rattle.std.proofs.Common.{◌≡◌, ℕ, Bool, true, false, List, [], ◌∷◌, refl, sym, ◌∙◌, ap, subst, arith, map}
use Rattle.std.proofs.lemmas.List.{append-nil}
use Rattle.std.specs.Prelude.{Result, Ok, Err, IsErr}
use Rattle.stop_model.specs.Moments.{Meaning}
use Rattle.stop_model.proofs.MomentLemmas.{elapses_weaker}
use Rattle.vol_model.specs.declared.answers.Stop.{Stop}
use Rattle.vol_model.specs.declared.contents.Block.{Block}
use Rattle.vol_model.specs.declared.contents.Place.{Place}
use Rattle.vol_model.specs.declared.contents.Shelf.{Shelf}
use Rattle.vol_model.specs.declared.refusals.Refusal.TheVariants.{Unreadable}
use Rattle.vol_model.specs.Did.{Did}
use Rattle.vol_model.specs.Events.{Do, StopsIn}
use Rattle.vol_model.specs.Reading.{blocks_from}
use Rattle.vol_model.specs.Runs.{Works}
use Rattle.vol_model.proofs.Stops.{stops_start}
use Rattle.vol_model.proofs.Working.{HasDone, works_behind, works_broken}
use Rattle.util_steps.specs.declared.calls.Fault.{Fault}
use Rattle.util_steps.specs.declared.calls.Fault.TheVariants.{Refused}
use Rattle.util_steps.specs.Steps.{Finds, RunsNothing}

-- ---- nothing was done

module _ {T E : Type 0} {tells : Bool} {old mid : Meaning Shelf} {n k : ℕ} {result : Result T E} (nothing : RunsNothing tells old mid result) where
  done_nothing : k ≡ n → HasDone tells [] old mid n k
  done_nothing count = record {
    run = record {
      state = nothing.state;
      printed = λ told. nothing.printed ∙ sym (append-nil old.printed);
      moments = elapses_weaker nothing.moments (λ s p stop. ([], λ told. stop.1 ∙ sym (append-nil old.printed), (stop.0, refl)));
    };
    count = omega (arith, count);
  }

  pub after_nothing : {X E' : Type 0} {new : Meaning Shelf} {m : ℕ} {d : Did X E'} (q : Result (Result X E') Stop) → k ≡ n → Works tells d mid new k m q → Works tells d old new n m q
  after_nothing q count works = works_behind q (done_nothing count) works

pub nothing_broken : {T E X E' : Type 0} {tells : Bool} {old mid : Meaning Shelf} {n m : ℕ} {result : Result T E} → RunsNothing tells old mid result → (d : Did X E') (q : Result (Result X E') Stop) → IsErr q → Works tells d old mid n m q
nothing_broken {old = old} nothing d q failed = works_broken d q failed (elapses_weaker nothing.moments (λ s p stop. ([], λ told. stop.1 ∙ sym (append-nil old.printed), subst (λ (t : Shelf). StopsIn old.state (map Do d.operations) t []) (sym stop.0) (stops_start old.state (map Do d.operations)))))

-- ---- what was found

module _ (src : Result (List Block) ℕ) (place : Place) (b : Block) (bs : List Block) (is : src ≡ Ok bs) where
  pub found_none : Finds (Ok false) src place b → blocks_from place bs ≡ []
  found_none f = let same : f.0 ≡ bs = let e = sym f.1 ∙ is in cc in ap (blocks_from place) (sym same) ∙ f.2

  pub found_some : Finds (Ok true) src place b → (rest : List Block) × (blocks_from place bs ≡ b ∷ rest)
  found_some f = let same : f.0 ≡ bs = let e = sym f.1 ∙ is in cc in (f.2.0, ap (blocks_from place) (sym same) ∙ f.2.1)

  pub found_fault : (fault : Fault) → Finds (Err fault) src place b → ⊥
  found_fault (Refused (Unreadable t)) f = let e = sym f ∙ is in cc
  found_fault _ f = f
