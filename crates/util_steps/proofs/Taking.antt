-- What parts of a utility leave, one after another.
use Rattle.std.proofs.Common.{◌≡◌, ℕ, ◌≤◌, false, List, [], ◌∷◌, max, refl, sym, ◌∙◌, ap, subst, arith}
use Rattle.std.proofs.lemmas.List.{append-nil}
use Rattle.std.specs.Prelude.{Result, Ok, Err, IsErr, IsErrAnd, IfOk, IsTrue}
use Rattle.stop_model.specs.Counts.{Rose}
use Rattle.stop_model.specs.Moments.{IsDurable}
use Rattle.stop_model.proofs.MomentLemmas.{elapses_none}
use Rattle.vol_model.specs.declared.answers.Stop.{Stop}
use Rattle.vol_model.specs.declared.answers.Stop.TheVariants.{Device, Memory, Print}
use Rattle.vol_model.specs.declared.contents.Shelf.{Shelf}
use Rattle.vol_model.specs.declared.machine.Machine.{Ghosts}
use Rattle.vol_model.specs.Calls.{Keeps, Known, Status}
use Rattle.vol_model.specs.Did.{Did, and_then, answered, because, with_reason}
use Rattle.vol_model.specs.Events.{Event, Item, code_of, events_in, events_of}
use Rattle.vol_model.specs.Runs.{Counts, RunCall, Runs, Works}
use Rattle.vol_model.proofs.Working.{works_because, works_because_broken, works_ends, works_idle_broken, works_none, works_stops, works_then}
use Rattle.util_steps.specs.Items.{DoesItem}
use Rattle.util_steps.specs.Taking.{IsReady, Reads, RunsItems, Takes, TakesItem}
use Rattle.util_steps.proofs.Reporting.{item_after, item_broken, item_for, item_stopped, lines_item, works_later}

ok_or_err : {T : Type 0} (x : T) (e : Stop) → ¬ (Ok x ≡ Err e)
ok_or_err x e same = cc

other_err : {T U : Type 0} (d e : Stop) → (let r : Result T Stop = Err d in r) ≡ Err e → (let q : Result U Stop = Err d in q) ≡ Err e
other_err d e same = let is : d ≡ e = cc in ap Err is

-- a call that is done, and one after it
pub call_then : {T U : Type 0} {a b c : Status} {x : T} {r : Result U Stop} → RunCall false a b (Ok x) → RunCall false b c r → RunCall false a c r
call_then {c = c} {x = x} one two = record {
  base = two.base ∙ one.base;
  sound = two.sound;
  opened = two.opened;
  devices = omega (arith, one.devices, two.devices);
  prints = omega (arith, one.prints, two.prints);
  device = λ failed. subst (λ (n : ℕ). Rose n c.dev_faults) (one.no_device (ok_or_err x Device)) (two.device failed);
  print = λ failed. subst (λ (n : ℕ). Rose n c.print_faults) (one.no_print (ok_or_err x Print)) (two.print failed);
  no_device = λ none. two.no_device none ∙ one.no_device (ok_or_err x Device);
  no_print = λ none. two.no_print none ∙ one.no_print (ok_or_err x Print);
}

-- a call that is done, with another answer
pub call_ok : {T U : Type 0} {a b : Status} {x : T} (y : U) → RunCall false a b (Ok x) → RunCall false a b (Ok y)
call_ok {x = x} y one = record {
  base = one.base;
  sound = one.sound;
  opened = one.opened;
  devices = one.devices;
  prints = one.prints;
  device = λ same. absurd (ok_or_err y Device same);
  print = λ same. absurd (ok_or_err y Print same);
  no_device = λ none. one.no_device (ok_or_err x Device);
  no_print = λ none. one.no_print (ok_or_err x Print);
}

-- the error of a call, handed on
pub call_stops : {T U : Type 0} {a b : Status} {e : Stop} (q : Result U Stop) → IsErrAnd q (λ f. f ≡ e) → RunCall {T = T} false a b (Err e) → RunCall false a b q
call_stops (Ok x) same one = absurd same
call_stops {T = T} {U = U} {a = a} {b = b} {e = e} (Err f) same one =
    subst (λ (e : Stop). RunCall {T = U} false a b (Err e)) (sym same)
    (record {
      base = one.base;
      sound = one.sound;
      opened = one.opened;
      devices = one.devices;
      prints = one.prints;
      device = λ is. one.device (other_err e Device is);
      print = λ is. one.print (other_err e Print is);
      no_device = λ other. one.no_device (λ is. other (other_err e Device is));
      no_print = λ other. one.no_print (λ is. other (other_err e Print is));
    })

-- no call
pub call_none : {T X : Type 0} (g : Ghosts X) (machine : X) (x : T) → IsReady g machine → RunCall false (g.status machine) (g.status machine) (Ok x)
call_none g machine x ready = record {
  base = refl;
  sound = ready.sound;
  opened = λ sound. ready.closed;
  devices = omega arith;
  prints = omega arith;
  device = λ same. absurd (ok_or_err x Device same);
  print = λ same. absurd (ok_or_err x Print same);
  no_device = λ none. refl;
  no_print = λ none. refl;
}

-- no call, where memory ran out
pub call_unmade : {T X : Type 0} (g : Ghosts X) (machine : X) (q : Result T Stop) → IsErrAnd q (λ f. f ≡ Memory) → IsReady g machine → RunCall false (g.status machine) (g.status machine) q
call_unmade g machine (Ok x) same ready = absurd same
call_unmade {T = T} g machine (Err f) same ready =
    subst (λ (e : Stop). RunCall {T = T} false (g.status machine) (g.status machine) (Err e)) (sym same)
    (record {
      base = refl;
      sound = ready.sound;
      opened = λ sound. ready.closed;
      devices = omega arith;
      prints = omega arith;
      device = λ is. absurd (cc);
      print = λ is. absurd (cc);
      no_device = λ none. refl;
      no_print = λ none. refl;
    })

-- an error handed on is one of the call
pub handed_on : {T U : Type 0} {e d : Stop} (q : Result U Stop) → IsErrAnd q (λ f. f ≡ e) → q ≡ Err d → (let r : Result T Stop = Err e in r) ≡ Err d
handed_on (Ok x) same is = absurd same
handed_on {e = e} {d = d} (Err f) same is = let at : e ≡ d = cc in ap Err at

keeps_then : {P Q R : ℕ → Known → Type 0} {a b : ℕ} → a ≤ b → Keeps a P Q → Keeps b Q R → Keeps a P R
keeps_then later one two t known early kept = two t known (omega arith) (one t known early kept)

module _ {X : Type 0} (g : Ghosts X) where
  -- a machine on which a part came to an answer is ready
  pub ready_after : {T : Type 0} {a : Status} {machine : X} {x : T} → RunCall false a (g.status machine) (Ok x) → IsReady g machine
  ready_after call = record { sound = call.sound; closed = call.opened refl }

  module _ {A B E : Type 0} (first : Shelf → Did A E) (more : A → Shelf → Did B E) where
    abbrev both : Shelf → Did B E
    both shelf = and_then shelf (first shelf) more

    -- steps, and then those that know their answer
    pub takes_then : {old mid new : X} {x : A} {r : Result (Result B E) Stop} → Takes g first old mid (Ok (Ok x)) → Takes g (more x) mid new r → Takes g both old new r
    takes_then {old = old} {x = x} {r = r} one two = record {
      works = λ told. works_then (first (g.meaning old).state) more x r (one.works told) (two.works told);
      promise = λ told. keeps_then (one.works told).runs.moments.later (one.promise told) (two.promise told);
      faults = call_then one.faults two.faults;
    }

    -- the first of them end with a reason
    pub takes_ends : {old new : X} {e : E} → Takes g first old new (Ok (Err e)) → Takes g both old new (Ok (Err e))
    takes_ends {old = old} {e = e} one = record { works = λ told. works_ends (first (g.meaning old).state) more e (one.works told); promise = one.promise; faults = call_ok (Err e) one.faults }

    -- they are stopped
    pub takes_stops : {old new : X} {e : Stop} (q : Result (Result B E) Stop) → IsErr q × IsErrAnd q (λ f. f ≡ e) → Takes g first old new (Err e) → Takes g both old new q
    takes_stops {old = old} {e = e} q same one = record {
      works = λ told. works_stops (first (g.meaning old).state) more (Err e) q same.0 (one.works told);
      promise = one.promise;
      faults = call_stops q same.1 one.faults;
    }

  -- the same steps, with their reason seen as another
  module _ {A E F : Type 0} (f : E → F) (did : Shelf → Did A E) {old new : X} where
    pub takes_because : (r : Result A E) → Takes g did old new (Ok r) → Takes g (λ shelf. with_reason f (did shelf)) old new (Ok (because f r))
    takes_because r one = record { works = λ told. works_because f r (one.works told); promise = one.promise; faults = call_ok (because f r) one.faults }

    pub takes_because_stops : {e : Stop} (q : Result (Result A F) Stop) → IsErr q × IsErrAnd q (λ f. f ≡ e) → Takes g did old new (Err e) → Takes g (λ shelf. with_reason f (did shelf)) old new q
    takes_because_stops {e = e} q same one = record { works = λ told. works_because_broken f (Err e) q same.0 (one.works told); promise = one.promise; faults = call_stops q same.1 one.faults }

  -- steps by another definition, which says the same on this shelf
  pub takes_as : {A E : Type 0} {did whole : Shelf → Did A E} {old new : X} {r : Result (Result A E) Stop} → (IsTrue g.tells → whole (g.meaning old).state ≡ did (g.meaning old).state) → Takes g did old new r → Takes g whole old new r
  takes_as {did = did} {old = old} {new = new} {r = r} same one = record {
    works = λ told. subst (λ (d : Did _ _). Works g.tells_prints d (g.meaning old) (g.meaning new) (g.status old).done (g.status new).done r) (sym (same told)) (one.works told);
    promise = one.promise;
    faults = one.faults;
  }

  -- an answer without a call
  pub takes_none : {A E : Type 0} {machine : X} (r : Result A E) → IsReady g machine → Takes g (λ shelf. answered r) machine machine (Ok r)
  takes_none {machine = machine} r ready = record {
    works = λ told. works_none g.tells_prints (g.meaning machine) (g.status machine).done r;
    promise = λ told t known early kept. kept;
    faults = call_none g machine (let q : Result _ _ = r in q) ready;
  }

  -- steps after something was read, by what is known of that
  pub takes_read : {T A E : Type 0} {Holds : Shelf → T → Type 0} {did whole : Shelf → Did A E} {old mid new : X} {x : T} {r : Result (Result A E) Stop} → (IsTrue g.tells → IsDurable (g.meaning old)) → Reads g Holds old mid (Ok x)
      → (IsTrue g.tells → Holds (g.meaning old).state x → whole (g.meaning old).state ≡ did (g.meaning old).state) → Takes g did mid new r → Takes g whole old new r
  takes_read {did = did} {old = old} {new = new} {r = r} durable one same two = record {
    works = λ told. subst (λ (d : Did _ _). Works g.tells_prints d (g.meaning old) (g.meaning new) (g.status old).done (g.status new).done r) (sym (same told (one.value told)))
        (works_later (one.same told) (durable told) did r one.count (two.works told));
    promise = λ told. keeps_then (one.same told).time.later (one.promise told) (two.promise told);
    faults = call_then one.faults two.faults;
  }

  -- steps that are stopped while something is read
  pub takes_unread : {T A E : Type 0} {Holds : Shelf → T → Type 0} (whole : Shelf → Did A E) {old new : X} {e : Stop} (q : Result (Result A E) Stop) → IsErr q × IsErrAnd q (λ f. f ≡ e) → (IsTrue g.tells → IsDurable (g.meaning old)) → Reads g Holds old new (Err e) → Takes g whole old new q
  takes_unread whole {old = old} q same durable one = record {
    works = λ told. works_idle_broken (one.same told) (durable told) (whole (g.meaning old).state) q same.0;
    promise = one.promise;
    faults = call_stops q same.1 one.faults;
  }

  -- an item by another definition
  pub item_as : {item whole : Shelf → Item} {old new : X} {r : Result ℕ Stop} → (IsTrue g.tells → whole (g.meaning old).state ≡ item (g.meaning old).state) → TakesItem g item old new r → TakesItem g whole old new r
  item_as {old = old} {new = new} {r = r} same one = record {
    item = λ told. subst (λ (i : Item). DoesItem g.tells_prints i (g.meaning old) (g.meaning new) (g.status old).done (g.status new).done r) (sym (same told)) (one.item told);
    small = one.small;
    promise = one.promise;
    faults = one.faults;
  }

  module _ {A E : Type 0} (did : Shelf → Did A E) (lines : Result A E → List (List ℕ)) (code : Result A E → ℕ) where
    -- the item of steps and the lines that answer them
    abbrev item_by : Shelf → Item
    item_by shelf = item_for (did shelf) (lines (did shelf).answer) (code (did shelf).answer)

    -- the steps are taken, and their lines are printed
    pub item_taken : {old mid new : X} {answer : Result A E} {r : Result ℕ Stop} → Takes g did old mid (Ok answer) → TakesItem g (λ shelf. lines_item (lines answer) (code answer)) mid new r → TakesItem g item_by old new r
    item_taken {old = old} {new = new} {answer = answer} {r = r} one two = record {
      item = λ told.
          let works = one.works told in
          subst (λ (a : Result A E). DoesItem g.tells_prints (item_for (did (g.meaning old).state) (lines a) (code a)) (g.meaning old) (g.meaning new) (g.status old).done (g.status new).done r) works.answer
          (item_after (did (g.meaning old).state) (lines answer) (code answer) r works (two.item told));
      small = two.small;
      promise = λ told. keeps_then (one.works told).runs.moments.later (one.promise told) (two.promise told);
      faults = call_then one.faults two.faults;
    }

    -- they are stopped
    pub item_untaken : {old new : X} {e : Stop} (q : Result ℕ Stop) → IsErr q × IsErrAnd q (λ f. f ≡ e) → Takes g did old new (Err e) → TakesItem g item_by old new q
    item_untaken {old = old} {e = e} q same one =
        let shelf = (g.meaning old).state in
        record {
          item = λ told. item_stopped (did shelf) (lines (did shelf).answer) (code (did shelf).answer) q same.0 (one.works told);
          small = none q same.0;
          promise = one.promise;
          faults = call_stops q same.1 one.faults;
        }
      where
        none : (q : Result ℕ Stop) → IsErr q → IfOk q (λ code. code ≤ 16)
        none (Ok c) failed = let no : ⊥ = cc in absurd no
        none (Err e) failed = tt

  small_error : (q : Result ℕ Stop) → IsErr q → IfOk q (λ code. code ≤ 16)
  small_error (Ok c) failed = let never : ⊥ = cc in absurd never
  small_error (Err e) failed = tt

  -- an item of which nothing is done, since memory ran out
  pub item_unmade : (item : Shelf → Item) {machine : X} (q : Result ℕ Stop) → IsErr q × IsErrAnd q (λ f. f ≡ Memory) → IsReady g machine → TakesItem g item machine machine q
  item_unmade item {machine = machine} q same ready = record {
    item = λ told. item_broken q same.0 (elapses_none (g.meaning machine) _);
    small = small_error q same.0;
    promise = λ told t known early kept. kept;
    faults = call_unmade g machine q same.1 ready;
  }

  -- items by another definition
  pub runs_as : {items whole : Shelf → List Item} {old new : X} {r : Result ℕ Stop} → ((shelf : Shelf) → whole shelf ≡ items shelf) → RunsItems g items old new r → RunsItems g whole old new r
  runs_as {old = old} {new = new} {r = r} same one =
      let at = sym (same (g.meaning old).state) in
      record {
        runs = λ told. subst (λ (l : List Item). Runs g.tells_prints (events_of l) (g.meaning old) (g.meaning new) r) at (one.runs told);
        code = λ told. subst (λ (l : List Item). IfOk r (λ code. code ≡ code_of l)) at (one.code told);
        count = λ told. subst (λ (l : List Item). Counts (events_of l) (g.status old).done (g.status new).done r) at (one.count told);
        small = one.small;
        promise = one.promise;
        faults = one.faults;
      }

  -- a program of one item
  pub runs_one : {item : Shelf → Item} {old new : X} {r : Result ℕ Stop} → TakesItem g item old new r → RunsItems g (λ shelf. item shelf ∷ []) old new r
  runs_one {item = item} {old = old} {new = new} {r = r} one =
      let i = item (g.meaning old).state in
      let at : events_in i ≡ events_of (i ∷ []) = sym (append-nil (events_in i)) in
      record {
        runs = λ told. subst (λ (es : List Event). Runs g.tells_prints es (g.meaning old) (g.meaning new) r) at (one.item told).runs;
        code = λ told. only i.code r (one.item told).code;
        count = λ told. subst (λ (es : List Event). Counts es (g.status old).done (g.status new).done r) at (one.item told).count;
        small = one.small;
        promise = one.promise;
        faults = one.faults;
      }
    where
      only : (c : ℕ) (q : Result ℕ Stop) → IfOk q (λ code. code ≡ c) → IfOk q (λ code. code ≡ max c 0)
      only c (Ok code) is = omega (arith, is)
      only c (Err e) is = tt
