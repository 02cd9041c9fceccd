-- What is put after records were read.
use Rattle.std.proofs.Common.{◌≡◌, ℕ, Bool, map, refl, sym, ◌∙◌, ap, subst}
use Rattle.std.specs.Prelude.{Option, Result, Ok, Err, IsErr, IsTrue}
use Rattle.stop_model.specs.Moments.{Meaning}
use Rattle.stop_model.proofs.MomentLemmas.{elapses_none, elapses_then, elapses_weaker}
use Rattle.vol_model.specs.declared.answers.Stop.{Stop}
use Rattle.vol_model.specs.declared.contents.Place.{Place}
use Rattle.vol_model.specs.declared.contents.Shelf.{Shelf}
use Rattle.vol_model.specs.declared.machine.Machine.{Ghosts}
use Rattle.vol_model.specs.Places.{content}
use Rattle.vol_model.specs.Runs.{Works}
use Rattle.vol_model.specs.Writing.{OpenWriter, body_on, device_on, with_puts}
use Rattle.vol_model.proofs.Working.{works_broken}
use Rattle.util_steps.specs.declared.calls.Fault.{Fault}
use Rattle.util_steps.specs.Steps.{RunsNothing}
use Rattle.util_steps.proofs.Following.{after_nothing, nothing_broken}
use Rattle.record_files.specs.Advancing.{Advanced, Advances, forgetting, start_by}
use Rattle.record_files.specs.Calls.{AdvancesOn, ReadsBeside}
use Rattle.record_files.specs.Writing.{Coming, did_output}

-- nothing is done
pub nothing_none : (tells : Bool) (m : Meaning Shelf) {T E : Type 0} (r : Result T E) → RunsNothing tells m m r
nothing_none tells m r = record { state = refl; printed = refl; moments = elapses_none m _ }

-- nothing is done, and then nothing more
pub nothing_then : {A B C D T E : Type 0} {tells : Bool} {old mid new : Meaning Shelf} {p : Result A B} {q : Result C D} (r : Result T E) → RunsNothing tells old mid p → RunsNothing tells mid new q → RunsNothing tells old new r
nothing_then r one two =
    record { state = two.state ∙ one.state; printed = two.printed ∙ one.printed; moments = elapses_then one.moments (elapses_weaker two.moments (λ s p is. (is.0 ∙ one.state, is.1 ∙ one.printed))) }

-- the same for another result
pub nothing_as : {A B T E : Type 0} {tells : Bool} {old mid : Meaning Shelf} {p : Result A B} (r : Result T E) → RunsNothing tells old mid p → RunsNothing tells old mid r
nothing_as r one = record { state = one.state; printed = one.printed; moments = one.moments }

-- a part of the work after a read
after_nothing_read : {T E : Type 0} {tells : Bool} {old mid new : Meaning Shelf} {n k m : ℕ} {result : Result T E} {a b : Coming} {u v w : OpenWriter} {p q : Option Place} → RunsNothing tells old mid result → k ≡ n → v ≡ u
    → (r : Result (Result (Unit {0}) Fault) Stop) → Advances tells a b v w p q mid new k m r → Advances tells a b u w p q old new n m r
after_nothing_read {tells = tells} {old = old} {mid = mid} {new = new} {n = n} {k = k} {m = m} {a = a} {b = b} {u = u} {v = v} {w = w} {p = p} {q = q} nothing count same r step = by_result r step
  where
    all_as : (z : Result (Result (Unit {0}) Fault) Stop) → Works tells (did_output mid.state v a) mid new k m z → Works tells (did_output old.state u a) old new n m z
    all_as z works =
        subst (λ (s : Shelf). Works tells (did_output s u a) old new n m z) nothing.state
        (after_nothing nothing z count (subst (λ (x : OpenWriter). Works tells (did_output mid.state x a) mid new k m z) same works))

    put_behind : Advanced tells a b v w p q mid new k m → Advanced tells a b u w p q old new n m
    put_behind part = record {
      ops = part.ops;
      put = after_nothing nothing (Ok (Ok tt)) count part.put;
      did = ap (λ (s : Shelf). did_output s u a) (sym nothing.state) ∙ ap (λ (y : OpenWriter). did_output mid.state y a) (sym same) ∙ part.did;
      bodies = λ x name. part.bodies x name ∙ ap (λ (s : Shelf). body_on s x name) nothing.state;
      devices = λ x. part.devices x ∙ ap (λ (s : Shelf). device_on s x) nothing.state;
      puts = part.puts ∙ ap (λ (y : OpenWriter). with_puts y (map content a.blocks)) same;
      start = λ is. part.start (is ∙ sym (ap (λ (s : Shelf). start_by s u) nothing.state) ∙ sym (ap (start_by mid.state) same));
    }

    by_result : (z : Result (Result (Unit {0}) Fault) Stop) → Advances tells a b v w p q mid new k m z → Advances tells a b u w p q old new n m z
    by_result (Ok (Ok x)) part = record { step = put_behind part.step }
    by_result (Ok (Err e)) part = record { step = all_as (Ok (Err e)) part.step }
    by_result (Err e) part = record { step = all_as (Err e) part.step }

pub after_read : {X T : Type 0} (g : Ghosts X) {Holds : Shelf → T → Type 0} {old mid new : X} {result : Result T Stop} {a b : Coming} {p q : Option Place} → ReadsBeside g Holds old mid result → IsTrue g.tells
    → (r : Result (Result (Unit {0}) Fault) Stop) → AdvancesOn g a b p q mid new r → AdvancesOn g a b p q old new r
after_read g read told r step = after_nothing_read (read.runs told) read.count (read.writer told) r step

-- an answer that is forgotten
pub stopped_forgets : {X : Type 0} {tells : Bool} {a b c : Coming} {u v w : OpenWriter} {p q x y : Option Place} {old new : Meaning Shelf} {n m : ℕ} (e : Stop) (r : Result (Result X Fault) Stop) → IsErr r → Advances tells a c u w p q old new n m (Err e) → Advances tells a b u v x y old new n m (forgetting r)
stopped_forgets e (Ok z) failed part = let no : ⊥ = cc in absurd no
stopped_forgets {a = a} {u = u} {old = old} e (Err f) failed part = record { step = works_broken (did_output old.state u a) (Err f) refl part.step.runs.moments }

-- a read that failed ends the work
pub read_ends : {T E : Type 0} {tells : Bool} {old mid : Meaning Shelf} {n m : ℕ} {result : Result T E} {a b : Coming} {u w : OpenWriter} {p q : Option Place} → RunsNothing tells old mid result
    → (r : Result (Result (Unit {0}) Fault) Stop) → IsErr r → Advances tells a b u w p q old mid n m r
read_ends nothing (Ok z) failed = let no : ⊥ = cc in absurd no
read_ends {old = old} {a = a} {u = u} nothing (Err e) failed = record { step = nothing_broken nothing (did_output old.state u a) (Err e) refl }
