-- What parts leave that read and put one after another while a writer is open.
use Rattle.std.proofs.Common.{◌≡◌, ℕ, Bool, refl, sym, ◌∙◌, subst, arith}
use Rattle.std.specs.Prelude.{Result, Ok, Err, IsErr, IsErrAnd, IfOk, IsTrue}
use Rattle.stop_model.specs.Counts.{Rose}
use Rattle.vol_model.specs.declared.answers.Stop.{Stop}
use Rattle.vol_model.specs.declared.answers.Stop.TheVariants.{Device, Memory, Print}
use Rattle.vol_model.specs.declared.contents.Shelf.{Shelf}
use Rattle.vol_model.specs.declared.machine.Machine.{Ghosts}
use Rattle.vol_model.specs.Calls.{Status}
use Rattle.vol_model.specs.Did.{Did}
use Rattle.vol_model.specs.Runs.{RunCall}
use Rattle.util_steps.proofs.Taking.{handed_on}
use Rattle.util_steps.specs.Taking.{Takes}
use Rattle.record_files.specs.Calls.{IsWriting, PutsCall, ReadsBeside, TakesKnowing}
use Rattle.record_files.proofs.AfterLemmas.{nothing_as, nothing_none, nothing_then}

ok_or_err : {T : Type 0} (x : T) (e : Stop) → ¬ (Ok x ≡ Err e)
ok_or_err x e same = cc

-- a call that is done, and one after it, where a writer may be open
call_then : {T U : Type 0} {o p : Bool} {a b c : Status} {x : T} {r : Result U Stop} → RunCall o a b (Ok x) → RunCall p b c r → RunCall p a c r
call_then {c = c} {x = x} one two = record {
  base = two.base ∙ one.base;
  sound = two.sound;
  opened = two.opened;
  devices = omega (arith, one.devices, two.devices);
  prints = omega (arith, one.prints, two.prints);
  device = λ failed. subst (λ (n : ℕ). Rose n c.dev_faults) (one.no_device (ok_or_err x Device)) (two.device failed);
  print = λ failed. subst (λ (n : ℕ). Rose n c.print_faults) (one.no_print (ok_or_err x Print)) (two.print failed);
  no_device = λ none. two.no_device none ∙ one.no_device (ok_or_err x Device);
  no_print = λ none. two.no_print none ∙ one.no_print (ok_or_err x Print);
}

-- no call
call_none : {T : Type 0} {o : Bool} {a : Status} (x : T) → IsTrue a.is_sound → a.is_open ≡ o → RunCall o a a (Ok x)
call_none x sound at = record {
  base = refl;
  sound = sound;
  opened = λ so. at;
  devices = omega arith;
  prints = omega arith;
  device = λ same. absurd (ok_or_err x Device same);
  print = λ same. absurd (ok_or_err x Print same);
  no_device = λ none. refl;
  no_print = λ none. refl;
}

-- with another answer
call_as : {T U : Type 0} {o : Bool} {a b : Status} {x : T} (y : U) → RunCall o a b (Ok x) → RunCall o a b (Ok y)
call_as {x = x} y call = record {
  base = call.base;
  sound = call.sound;
  opened = call.opened;
  devices = call.devices;
  prints = call.prints;
  device = λ same. absurd (ok_or_err y Device same);
  print = λ same. absurd (ok_or_err y Print same);
  no_device = λ none. call.no_device (ok_or_err x Device);
  no_print = λ none. call.no_print (ok_or_err x Print);
}

-- its error is handed on
call_stops : {T U : Type 0} {o : Bool} {a b : Status} {e : Stop} (q : Result U Stop) → IsErrAnd q (λ f. f ≡ e) → RunCall {T = T} o a b (Err e) → RunCall o a b q
call_stops (Ok x) same call = absurd same
call_stops {T = T} {U = U} {o = o} {a = a} {b = b} {e = e} (Err f) same call =
    subst (λ (e : Stop). RunCall {T = U} o a b (Err e)) (sym same)
    (record {
      base = call.base;
      sound = call.sound;
      opened = call.opened;
      devices = call.devices;
      prints = call.prints;
      device = λ is. call.device (handed_on (Err e) refl is);
      print = λ is. call.print (handed_on (Err e) refl is);
      no_device = λ other. call.no_device (λ is. other (handed_on (Err e) refl is));
      no_print = λ other. call.no_print (λ is. other (handed_on (Err e) refl is));
    })

-- then memory runs out
call_unmade : {T U : Type 0} {o : Bool} {a b : Status} {x : T} (q : Result U Stop) → IsErrAnd q (λ f. f ≡ Memory) → RunCall o a b (Ok x) → RunCall o a b q
call_unmade (Ok y) same call = absurd same
call_unmade {U = U} {o = o} {a = a} {b = b} {x = x} (Err f) same call =
    subst (λ (e : Stop). RunCall {T = U} o a b (Err e)) (sym same)
    (record {
      base = call.base;
      sound = call.sound;
      opened = call.opened;
      devices = call.devices;
      prints = call.prints;
      device = λ is. absurd (cc);
      print = λ is. absurd (cc);
      no_device = λ none. call.no_device (ok_or_err x Device);
      no_print = λ none. call.no_print (ok_or_err x Print);
    })

call_opens : {T : Type 0} {o p : Bool} {a b : Status} {r : Result T Stop} → o ≡ p → RunCall o a b r → RunCall p a b r
call_opens {a = a} {b = b} {r = r} same call = subst (λ (q : Bool). RunCall q a b r) same call

none : {U : Type 0} (R : U → Type 0) (q : Result U Stop) → IsErr q → IfOk q R
none R (Ok x) failed = let never : ⊥ = cc in absurd never
none R (Err e) failed = tt

module _ {X : Type 0} (g : Ghosts X) where
  -- no block is put
  pub puts_none : {T : Type 0} {machine : X} (x : T) → IsWriting g machine → PutsCall g machine machine (Ok x)
  puts_none x writing = record { later = λ told. omega arith; promise = λ told t known early kept. kept; faults = call_none x writing.sound writing.opened }

  -- blocks are put, and then others
  pub puts_then : {S T U : Type 0} {old mid new : X} {x : S} {y : T} (z : U) → PutsCall g old mid (Ok x) → PutsCall g mid new (Ok y) → PutsCall g old new (Ok z)
  puts_then z one two = record {
    later = λ told. omega (arith, one.later told, two.later told);
    promise = λ told t known early kept. two.promise told t known (omega (arith, early, one.later told)) (one.promise told t known early kept);
    faults = call_as z (call_then one.faults two.faults);
  }

  -- nothing is read
  pub beside_none : {T : Type 0} {R : Shelf → T → Type 0} {machine : X} (z : T) → IsTrue (g.status machine).is_sound → (IsTrue g.tells → R (g.meaning machine).state z) → ReadsBeside g R machine machine (Ok z)
  beside_none {machine = machine} z sound is = record {
    value = is;
    runs = λ told. nothing_none g.tells_prints (g.meaning machine) (Ok z);
    writer = λ told. refl;
    count = refl;
    promise = λ told t known early kept. kept;
    faults = call_none z sound refl;
  }

  module _ {S : Type 0} {P : Shelf → S → Type 0} {mid new : X} {x : S} where
    -- blocks are put, and then something is read
    pub puts_beside : {T : Type 0} {old : X} {z : T} → PutsCall g old mid (Ok z) → ReadsBeside g P mid new (Ok x) → PutsCall g old new (Ok z)
    puts_beside {z = z} one two = record {
      later = λ told. omega (arith, one.later told, (two.runs told).moments.later);
      promise = λ told t known early kept. two.promise told t known (omega (arith, early, one.later told)) (one.promise told t known early kept);
      faults = call_opens (one.faults.opened refl) (call_as z (call_then one.faults two.faults));
    }

  module _ {S : Type 0} {P : Shelf → S → Type 0} {old mid : X} {x : S} (one : ReadsBeside g P old mid (Ok x)) where
    -- something is read, and nothing more
    pub beside_as : {T : Type 0} {R : Shelf → T → Type 0} (z : T) → (IsTrue g.tells → P (g.meaning old).state x → R (g.meaning old).state z) → ReadsBeside g R old mid (Ok z)
    beside_as z is = record { value = λ told. is told (one.value told); runs = λ told. nothing_as (Ok z) (one.runs told); writer = one.writer; count = one.count; promise = one.promise; faults = call_as z one.faults }

    -- something is read, and then something else
    pub beside_then : {T U : Type 0} {Q : Shelf → T → Type 0} {R : Shelf → U → Type 0} {new : X} {y : T} (z : U) → ReadsBeside g Q mid new (Ok y)
        → (IsTrue g.tells → P (g.meaning old).state x → Q (g.meaning old).state y → R (g.meaning old).state z) → ReadsBeside g R old new (Ok z)
    beside_then {Q = Q} {y = y} z two is = record {
      value = λ told. is told (one.value told) (subst (λ (s : Shelf). Q s y) (one.runs told).state (two.value told));
      runs = λ told. nothing_then (Ok z) (one.runs told) (two.runs told);
      writer = λ told. two.writer told ∙ one.writer told;
      count = two.count ∙ one.count;
      promise = λ told t known early kept. two.promise told t known (omega (arith, early, (one.runs told).moments.later)) (one.promise told t known early kept);
      faults = call_opens (one.faults.opened refl) (call_as z (call_then one.faults two.faults));
    }

    -- that is stopped
    pub beside_stops : {T U : Type 0} {Q : Shelf → T → Type 0} {R : Shelf → U → Type 0} {new : X} {e : Stop} (q : Result U Stop) → IsErr q × IsErrAnd q (λ f. f ≡ e) → ReadsBeside g Q mid new (Err e) → ReadsBeside g R old new q
    beside_stops q same two = record {
      value = λ told. none _ q same.0;
      runs = λ told. nothing_then q (one.runs told) (two.runs told);
      writer = λ told. two.writer told ∙ one.writer told;
      count = two.count ∙ one.count;
      promise = λ told t known early kept. two.promise told t known (omega (arith, early, (one.runs told).moments.later)) (one.promise told t known early kept);
      faults = call_opens (one.faults.opened refl) (call_stops q same.1 (call_then one.faults two.faults));
    }

    -- and then memory runs out
    pub beside_unmade : {U : Type 0} {R : Shelf → U → Type 0} (q : Result U Stop) → IsErr q × IsErrAnd q (λ f. f ≡ Memory) → ReadsBeside g R old mid q
    beside_unmade q same = record {
      value = λ told. none _ q same.0;
      runs = λ told. nothing_as q (one.runs told);
      writer = one.writer;
      count = one.count;
      promise = one.promise;
      faults = call_unmade q same.1 one.faults;
    }

  -- steps that are taken for what is known
  pub takes_at : {K A E : Type 0} {Holds : Shelf → K → Type 0} {did : Shelf → K → Did A E} {old new : X} {r : Result (Result A E) Stop} → TakesKnowing g Holds did old new r → IsTrue g.tells → (known : K) → Holds (g.meaning old).state known → Takes g (λ shelf. did shelf known) old new r
  takes_at one told known is = record { works = λ so. one.works told known is; promise = one.promise; faults = one.faults }
