-- What a sync leaves of a shelf that every stop leaves already: nothing changes but the time.
use Rattle.std.proofs.Common.{◌≡◌, ⊎_elim, inl, inr, ℕ, List, ◌∷◌, ◌++◌, Result, Ok, Err, refl, sym, ap, subst, ◌∙◌, arith}
use Rattle.std.specs.Prelude.{◌⊎◌, ◌≤◌}
use Rattle.stop_model.specs.Files.{AfterSync, File}
use Rattle.stop_model.specs.Moments.{Elapses, ElapsesExactly, IsDurable, LeftNow, Meaning, Same}
use Rattle.stop_model.specs.Steps.{seen}
use Rattle.stop_model.proofs.MomentLemmas.{CountsNow, elapses_from_exactly, elapses_then, elapses_weaker, same_none, same_then}
use Rattle.hall_core.specs.Facts.{Attached, DeviceCall, Facts, ReportedCall}
use Rattle.vol_model.specs.Calls.{Answers, Applies, IsIdle, Keeps}
use Rattle.vol_model.specs.Shelf.{step}
use Rattle.vol_model.specs.declared.answers.MachErr.{MachErr}
use Rattle.vol_model.specs.declared.answers.MachErr.TheVariants as mach
use Rattle.vol_model.specs.declared.answers.StoreErr.{StoreErr}
use Rattle.vol_model.specs.declared.answers.StoreErr.TheVariants as store
use Rattle.vol_model.specs.declared.contents.Shelf.{Shelf}
use Rattle.vol_model.specs.declared.requests.Op.{Op}
use Rattle.vtoc_index.specs.declared.vol.Vol.{Vol}
use Rattle.shelf_machine.specs.Machine.{KeepsSafe, LeavesJust, base_of, plans_of, shelf_under, texts_of, units_of}
use Rattle.shelf_machine.specs.Operating.{OperatesOnShelf}
use Rattle.shelf_machine.specs.Pending.{Settles}
use Rattle.pack_machine.specs.Ready.{reported}

-- a sync that is done, and one that failed
pub settles_done : {T E U D : Type 0} {m m' : Meaning (List File)} (x : T) (y : U) → AfterSync {E = E} m m' (Ok x) → Settles {E = D} m m' (Ok y)
settles_done x y sync = record {
  state = sync.state;
  printed = sync.printed;
  done = sync.done;
  failed = tt;
  time = sync.time;
}

pub settles_failed : {T E U D : Type 0} {m m' : Meaning (List File)} (e : E) (d : D) → AfterSync {T = T} m m' (Err e) → Settles {T = U} m m' (Err d)
settles_failed e d sync = record {
  state = sync.state;
  printed = sync.printed;
  done = tt;
  failed = sync.failed;
  time = sync.time;
}

-- what a machine stands on stays in a call of the device
pub base_called : (old new : Facts) (vols : List Vol) → new.references ≡ old.references → new.units ≡ old.units → base_of new vols ≡ base_of old vols
base_called old new vols references units =
    ap (λ (n : List ℕ). n ∷ units_of vols ∷ plans_of vols ++ texts_of new.units) references
    ∙ ap (λ (us : List Attached). old.references ∷ units_of vols ∷ plans_of vols ++ texts_of us) units

pub reported_failed : {T E P : Type 0} (a b : Facts) (e : E) → P → DeviceCall {T = T} a b (Err e) → ReportedCall P a b
reported_failed a b e is call = record {
  units = call.units;
  references = call.references;
  prints = call.prints;
  later = call.later;
  device = λ _. call.failed;
  others = λ none. absurd (none is);
}

-- no sync, where no write is pending
pub settles_none : {T E : Type 0} (m : Meaning (List File)) (x : T) → CountsNow m → IsDurable m → Settles {E = E} m m (Ok x)
settles_none m x counts durable = record {
  state = refl;
  printed = refl;
  done = durable;
  failed = tt;
  time = (same_none m counts).time;
}

-- whatever it gives
pub settled_as : {T E U D : Type 0} {m m' : Meaning (List File)} (x : T) (y : U) → Settles {E = E} m m' (Ok x) → Settles {E = D} m m' (Ok y)
settled_as x y s = record { state = s.state; printed = s.printed; done = s.done; failed = tt; time = s.time }

pub unsettled_as : {T E U D : Type 0} {m m' : Meaning (List File)} (e : E) (d : D) → Settles {T = T} m m' (Err e) → Settles {T = U} m m' (Err d)
unsettled_as e d s = record { state = s.state; printed = s.printed; done = tt; failed = s.failed; time = s.time }

-- what was promised of stops stays where nothing comes but what one left before
pub keeps_time : {names : List (List ℕ)} {vols : List Vol} {m m' : Meaning (List File)} → CountsNow m → ElapsesExactly m m' (LeftNow m) → Keeps m.clock (KeepsSafe names vols m) (KeepsSafe names vols m')
keeps_time {m = m} counts time t files early was shelf is =
    let s = was shelf is in record {
      plans = s.plans;
      stops = λ j p stop. ⊎_elim (λ before. s.stops j p before) (λ now. s.stops j m.printed (counts t j early now.0)) ((time.since t j p early).0 stop);
    }

pub just_time : {m m' : Meaning (List File)} → CountsNow m → ElapsesExactly m m' (LeftNow m) → Keeps m.clock (LeavesJust m) (LeavesJust m')
just_time {m} counts time t files early was j p left =
    ⊎_elim (λ before. was j p before) (λ now. was j m.printed (counts t j early now.0)) ((time.since t j p early).0 left)

-- promises that are kept, one after another
pub keeps_then : {X : Type 0} {clock later : ℕ} {P Q R : ℕ → X → Type 0} → clock ≤ later → Keeps clock P Q → Keeps later Q R → Keeps clock P R
keeps_then low first second t known early was = second t known (omega (arith, early, low)) (first t known early was)

module _ (f : List File → Shelf) (m m' : Meaning (List File)) (durable : (j : List File) → m.left j → f j ≡ f m.state) (here : m.left m.state) (here' : m'.left m'.state) where
  -- a shelf that every stop leaves stays, and nothing else is left
  pub same_settled : {T E : Type 0} (r : Result T E) → Settles m m' r → Same (seen f m) (seen f m')
  same_settled {T} {E} r s = record {
    state = ap f s.state;
    printed = s.printed;
    left = λ y. (
      λ left. (m.state, here, sym (stays r s left.0 left.1) ∙ left.2),
      λ left. (m'.state, here', ap f s.state ∙ sym (durable left.0 left.1) ∙ left.2),
    );
    time = record {
      later = s.time.later;
      since = λ t y p early. (
        λ left. ⊎_elim (λ before. inl (left.0, before, left.2)) (λ now. inr ((left.0, now.0, left.2), now.1)) ((s.time.since t left.0 p early).0 left.1),
        ⊎_elim (λ before. (before.0, (s.time.since t before.0 p early).1 (inl before.1), before.2)) (λ now. (now.0.0, (s.time.since t now.0.0 p early).1 (inr (now.0.1, now.1)), now.0.2)),
      );
    };
  }
    where
      stays : (a : Result T E) → Settles m m' a → (j : List File) → m'.left j → f j ≡ f m.state
      stays (Ok x) w j left = ap f (w.done j left ∙ w.state)
      stays (Err e) w j left = durable j ((w.failed j).0 left)

-- an operation after a call that changes nothing but the time, and a call that failed before the operation
module _ (op : Op) (old mid : Meaning Shelf) (durable : (s : Shelf) → old.left s → s ≡ old.state) (same : Same old mid) where
  abbrev Within : Shelf → List ℕ → Type 0
  Within s p = ((s ≡ old.state) ⊎ (step old.state op ≡ Ok s)) × (p ≡ old.printed)

  before_it : Elapses old mid Within
  before_it = elapses_from_exactly same.time (λ s p now. (inl (durable s now.0), now.1))

  pub applies_behind : {T : Type 0} (new : Meaning Shelf) (r : Result T MachErr) → Applies op mid new r → Applies op old new r
  applies_behind new r run = record {
    answer = subst (λ (s : Shelf). Answers r (step s op) s new.state) same.state run.answer;
    idle = λ none. same_then same (run.idle (subst (λ (s : Shelf). IsIdle (step s op) r) (sym same.state) none));
    printed = run.printed ∙ same.printed;
    moments = elapses_then before_it (elapses_weaker run.moments (λ s p has. (
      ⊎_elim (λ is. inl (is ∙ same.state)) (λ is. inr (ap (λ (x : Shelf). step x op) (sym same.state) ∙ is)) has.0,
      has.1 ∙ same.printed,
    )));
  }

  pub applies_failed : {T : Type 0} → Applies {T = T} op old mid (Err mach.Device)
  applies_failed = record { answer = tt; idle = λ none. same; printed = same.printed; moments = before_it }

-- an operation on the packs after a sync, done or failed
module _ (op : Op) (names : List (List ℕ)) (vols : List Vol) (m mid : Meaning (List File)) (counts : CountsNow m)
    (durable : (j : List File) → m.left j → shelf_under names j ≡ shelf_under names m.state) (here : m.left m.state) (here' : mid.left mid.state) where
  abbrev before : Meaning Shelf
  before = seen (shelf_under names) m

  left_here : (s : Shelf) → before.left s → s ≡ before.state
  left_here s left = sym left.2 ∙ durable left.0 left.1

  pub operates_behind : {T U E : Type 0} (x : U) (names' : List (List ℕ)) (attached : List Attached) (vols' : List Vol) (new : Meaning (List File)) (r : Result T StoreErr) → Settles {E = E} m mid (Ok x)
      → OperatesOnShelf op names names' attached vols vols' mid new r → OperatesOnShelf op names names' attached vols vols' m new r
  operates_behind x names' attached vols' new r s run = record {
    applies = applies_behind op before (seen (shelf_under names) mid) left_here (same_settled (shelf_under names) m mid durable here here' (Ok x) s) (seen (shelf_under names') new) (reported r) run.applies;
    safe = keeps_then s.time.later (keeps_time counts s.time) run.safe;
    idle = λ none. keeps_then s.time.later (just_time counts s.time) (run.idle (subst (λ (fs : List File). IsIdle (step (shelf_under names fs) op) (reported r)) (sym s.state) none));
    kept = run.kept;
    durable = run.durable;
  }

  pub operates_unsettled : {T U E : Type 0} (e : E) (attached : List Attached) → Settles {T = U} m mid (Err e) → OperatesOnShelf {T = T} op names names attached vols vols m mid (Err store.Device)
  operates_unsettled e attached s = record {
    applies = applies_failed op before (seen (shelf_under names) mid) left_here (same_settled (shelf_under names) m mid durable here here' (Err e) s);
    safe = keeps_time counts s.time;
    idle = λ none. just_time counts s.time;
    kept = λ sound. absurd cc;
    durable = λ sound. absurd cc;
  }
