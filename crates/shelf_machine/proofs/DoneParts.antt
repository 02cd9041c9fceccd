-- Calls of several operations, one after another: what they come to together.
use Rattle.std.proofs.Common.{◌++◌, ◌∙◌, ◌∷◌, ◌≡◌, Bool, List, [], ap, arith, cond, false, inl, inr, length, length-append, map, refl, subst, sym, true, ℕ, ⊎_elim}
use Rattle.std.specs.Prelude.{◌⊎◌, Result, Ok, Err, IsErrOf}
use Rattle.stop_model.specs.Moments.{Elapses, Meaning}
use Rattle.stop_model.proofs.MomentLemmas.{elapses_none, elapses_then, elapses_weaker}
use Rattle.vol_model.specs.declared.answers.MachErr.{MachErr}
use Rattle.vol_model.specs.declared.answers.MachErr.TheVariants as mach
use Rattle.vol_model.specs.declared.contents.Shelf.{Shelf}
use Rattle.vol_model.specs.declared.refusals.Refusal.{Refusal}
use Rattle.vol_model.specs.declared.refusals.Refusal.TheVariants.{NoRoom}
use Rattle.vol_model.specs.declared.requests.Op.{Op}
use Rattle.vol_model.specs.Calls.{Does, IsBehind, counted, sound_after}
use Rattle.vol_model.specs.Did.{Did, behind_them}
use Rattle.vol_model.specs.Events.{Do, Event, StopsIn, after_operations, behind}
use Rattle.vol_model.specs.Shelf.{step}
use Rattle.vol_model.specs.Writing.{Making, room_made}
use Rattle.vol_model.proofs.Stops.{stops_first}
use Rattle.vol_model.proofs.Working.{after_append, counted_twice}

do_append : (xs ys : List Op) → map Do (xs ++ ys) ≡ map Do xs ++ map Do ys
do_append [] ys = refl
do_append (x ∷ xs) ys = ap (λ (l : List Event). Do x ∷ l) (do_append xs ys)

-- a stop in operations is one in these and more
pub stops_in_first : (s : Shelf) (xs ys : List Op) (t : Shelf) → StopsIn s (map Do xs) t [] → StopsIn s (map Do (xs ++ ys)) t []
stops_in_first s xs ys t stop = subst (λ (es : List Event). StopsIn s es t []) (sym (do_append xs ys)) (stops_first s (map Do xs) (map Do ys) t [] stop)

-- and so is one in those after others
stops_in_second : (s : Shelf) (xs ys : List Op) (t : Shelf) → StopsIn (after_operations s xs) (map Do ys) t [] → StopsIn s (map Do (xs ++ ys)) t []
stops_in_second s [] ys t stop = stop
stops_in_second s (x ∷ xs) ys t stop = inr (stops_in_second (behind s (step s x)) xs ys t stop)

-- an answer, with another value where it is done
abbrev pub as_answer : {X Y : Type 0} → Result X MachErr → Y → Result Y MachErr
as_answer (Ok x) y = Ok y
as_answer (Err e) y = Err e

pub sound_as : {X Y : Type 0} (r : Result X MachErr) (y : Y) → sound_after (as_answer r y) ≡ sound_after r
sound_as (Ok x) y = refl
sound_as (Err (mach.Refused why)) y = refl
sound_as (Err mach.Memory) y = refl
sound_as (Err mach.Device) y = refl
sound_as (Err mach.Print) y = refl

-- ---- one call

-- whatever it gives
pub does_as : {X Y : Type 0} (m : Making) (x : X) (y : Y) {way : List Op} {old new : Meaning Shelf} {n k : ℕ} (r : Result X MachErr) → Does way (room_made m x) old new n k r → Does way (room_made m y) old new n k (as_answer r y)
does_as {X = X} {Y = Y} m x y (Ok z) run = record { answer = by m.all run.answer; state = run.state; printed = run.printed; moments = run.moments }
  where
    by : (b : Bool) → ◌≡◌ {A = Result X Refusal} (cond b (Ok x) (Err NoRoom)) (Ok z) → ◌≡◌ {A = Result Y Refusal} (cond b (Ok y) (Err NoRoom)) (Ok y)
    by true is = refl
    by false is = cc
does_as {X = X} {Y = Y} m x y (Err (mach.Refused why)) run = record { answer = by m.all run.answer; state = run.state; printed = run.printed; moments = run.moments }
  where
    by : (b : Bool) → ◌≡◌ {A = Result X Refusal} (cond b (Ok x) (Err NoRoom)) (Err why) → ◌≡◌ {A = Result Y Refusal} (cond b (Ok y) (Err NoRoom)) (Err why)
    by true is = cc
    by false is = let same : NoRoom ≡ why = cc in ap Err same
does_as m x y (Err mach.Memory) run = record { answer = tt; state = run.state; printed = run.printed; moments = run.moments }
does_as m x y (Err mach.Device) run = record { answer = tt; state = tt; printed = run.printed; moments = run.moments }
does_as m x y (Err mach.Print) run = absurd run.answer

-- none is done, and no time goes on
pub does_none : {X : Type 0} (m : Meaning Shelf) (n : ℕ) (x : X) → Does [] (record { operations = []; answer = Ok x }) m m n n (Ok x)
does_none m n x = record { answer = refl; state = (refl, omega arith); printed = refl; moments = elapses_none m _ }

-- one operation is done, or the device failed
module _ (old new : Meaning Shelf) (op : Op) (printed : new.printed ≡ old.printed) (moments : Elapses old new (λ s p. ((s ≡ old.state) ⊎ (step old.state op ≡ Ok s)) × (p ≡ old.printed))) (n : ℕ) where
  abbrev pub one : Did (Unit {0}) Refusal
  one = record { operations = op ∷ []; answer = Ok tt }

  stays : Elapses old new (λ s p. StopsIn old.state (map Do (op ∷ [])) s [] × (p ≡ old.printed))
  stays = elapses_weaker moments (λ s p has. (⊎_elim (λ same. inl (same, refl)) (λ after. inr (ap (behind old.state) (sym after), refl)) has.0, has.1))

  pub does_one : step old.state op ≡ Ok new.state → Does [] one old new n (counted n 1) (Ok tt)
  does_one step_is = record { answer = refl; state = (sym (ap (behind old.state) step_is), refl); printed = printed; moments = stays }

  pub does_one_failed : (k : ℕ) → Does {X = Unit {0}} [] one old new n k (Err mach.Device)
  does_one_failed k = record { answer = tt; state = tt; printed = printed; moments = stays }

-- ---- two calls

module _ {X : Type 0} {way : List Op} (first : Did X Refusal) {old mid : Meaning Shelf} {n k : ℕ} (x : X) (run : Does way first old mid n k (Ok x)) where
  state_then : (new : Shelf) (l : ℕ) (ops : List Op) → IsBehind ops mid.state new k l → IsBehind (first.operations ++ ops) old.state new n l
  state_then new l ops is = (
    is.0 ∙ ap (λ (s : Shelf). after_operations s ops) run.state.0 ∙ sym (after_append old.state first.operations ops),
    is.1 ∙ ap (λ (i : ℕ). counted i (length ops)) run.state.1 ∙ counted_twice n (length first.operations) (length ops) ∙ ap (counted n) (sym (length-append first.operations ops)),
  )

  moments_then : (new : Meaning Shelf) (ops : List Op) → Elapses mid new (λ s p. StopsIn mid.state (map Do ops) s [] × (p ≡ mid.printed)) → Elapses old new (λ s p. StopsIn old.state (map Do (first.operations ++ ops)) s [] × (p ≡ old.printed))
  moments_then new ops time = elapses_then
      (elapses_weaker run.moments (λ s p stop. (stops_in_first old.state first.operations ops s stop.0, stop.1)))
      (elapses_weaker time (λ s p stop. (stops_in_second old.state first.operations ops s (subst (λ (u : Shelf). StopsIn u (map Do ops) s []) run.state.0 stop.0), stop.1 ∙ run.printed)))

  -- the second is done after the first
  pub does_then : {Y : Type 0} {more : List Op} (second : Did Y Refusal) {new : Meaning Shelf} {l : ℕ} (r : Result Y MachErr) → (IsErrOf r mach.Memory → ⊥) → Does more second mid new k l r → Does (first.operations ++ second.operations) (behind_them first.operations second) old new n l r
  does_then second {new} {l} (Ok y) none next = record { answer = next.answer; state = state_then new.state l second.operations next.state; printed = next.printed ∙ run.printed; moments = moments_then new second.operations next.moments }
  does_then second {new} {l} (Err (mach.Refused why)) none next = record { answer = next.answer; state = state_then new.state l second.operations next.state; printed = next.printed ∙ run.printed; moments = moments_then new second.operations next.moments }
  does_then second (Err mach.Memory) none next = absurd (none refl)
  does_then second {new} (Err mach.Device) none next = record { answer = tt; state = tt; printed = next.printed ∙ run.printed; moments = moments_then new second.operations next.moments }
  does_then second (Err mach.Print) none next = absurd next.answer

-- the first isn't done, and so nothing after it
pub does_stop : {X Y : Type 0} {way : List Op} (first : Did X Refusal) (all : Did Y Refusal) {old new : Meaning Shelf} {n k : ℕ} (e : MachErr) → (e ≡ mach.Memory → ⊥) → ((r : Refusal) → first.answer ≡ Err r → all ≡ record { operations = first.operations; answer = Err r })
    → (more : List Op) → all.operations ≡ first.operations ++ more → Does way first old new n k (Err e) → Does all.operations all old new n k (Err e)
does_stop {X = X} {Y = Y} first all {old} {new} {n} {k} (mach.Refused why) none refused more goes run =
    subst (λ (d : Did Y Refusal). Does d.operations d old new n k (Err (mach.Refused why))) (sym (refused why run.answer))
    (record { answer = refl; state = run.state; printed = run.printed; moments = run.moments })
does_stop first all mach.Memory none refused more goes run = absurd (none refl)
does_stop first all {old} {new} {n} {k} mach.Device none refused more goes run = record {
  answer = tt;
  state = tt;
  printed = run.printed;
  moments = elapses_weaker run.moments (λ s p stop. (subst (λ (ops : List Op). StopsIn old.state (map Do ops) s []) (sym goes) (stops_in_first old.state first.operations more s stop.0), stop.1));
}
does_stop first all mach.Print none refused more goes run = absurd run.answer
