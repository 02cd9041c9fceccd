-- Steps of an item, one after another, on a machine.
use Rattle.std.proofs.Common.{◌≡◌, ◌⊎◌, inl, inr, ℕ, ◌+◌, Bool, List, [], ◌∷◌, ◌++◌, length, map, refl, sym, ◌∙◌, ap, subst, arith, append_assoc, length-append}
use Rattle.std.specs.Prelude.{Result, Ok, Err, IsErr}
use Rattle.std.proofs.lemmas.List.{append-nil}
use Rattle.stop_model.specs.Moments.{Meaning, Elapses, Same, IsDurable}
use Rattle.stop_model.specs.Steps.{Leaves}
use Rattle.stop_model.proofs.MomentLemmas.{CountsNow, OnlyNow, elapses_weaker, elapses_same, elapses_then, leaves_now}
use Rattle.vol_model.specs.declared.answers.MachErr.{MachErr}
use Rattle.vol_model.specs.declared.answers.MachErr.TheVariants.{Refused}
use Rattle.vol_model.specs.declared.answers.Stop.{Stop}
use Rattle.vol_model.specs.declared.contents.Shelf.{Shelf}
use Rattle.vol_model.specs.declared.refusals.Refusal.{Refusal}
use Rattle.vol_model.specs.declared.requests.Op.{Op}
use Rattle.vol_model.specs.Calls.{Applies, Does, IsBehind, Prints, counted}
use Rattle.vol_model.specs.Did.{Did, answered, behind_them, on_answer, and_then, because, with_reason}
use Rattle.vol_model.specs.Events.{Event, Do, Say, StopsIn, after_operations, behind, listing, operations_of, shelf_behind}
use Rattle.vol_model.specs.Runs.{Runs, Works}
use Rattle.vol_model.specs.Printed.{printed_line}
use Rattle.vol_model.specs.Shelf.{step}
use Rattle.vol_model.specs.Writing.{by_step, did_apply}
use Rattle.vol_model.proofs.Stops.{HasRun, StopsSince, run_none, run_then, run_line, since_first, since_line, since_second, stops_start}

operations_do : (ops : List Op) → operations_of (map Do ops) ≡ ops
operations_do [] = refl
operations_do (op ∷ ops) = ap (λ (l : List Op). op ∷ l) (operations_do ops)

listing_do : (ops : List Op) → listing (map Do ops) ≡ []
listing_do [] = refl
listing_do (op ∷ ops) = listing_do ops

do_append : (xs ys : List Op) → map Do (xs ++ ys) ≡ map Do xs ++ map Do ys
do_append [] ys = refl
do_append (x ∷ xs) ys = ap (λ (l : List Event). Do x ∷ l) (do_append xs ys)

behind_do : (s : Shelf) (ops : List Op) → shelf_behind s (map Do ops) ≡ after_operations s ops
behind_do s ops = ap (after_operations s) (operations_do ops)

pub after_append : (s : Shelf) (xs ys : List Op) → after_operations s (xs ++ ys) ≡ after_operations (after_operations s xs) ys
after_append s [] ys = refl
after_append s (x ∷ xs) ys = after_append (behind s (step s x)) xs ys

pub counted_twice : (n a b : ℕ) → counted (counted n a) b ≡ counted n (a + b)
counted_twice n a b = omega arith

-- Operations were done, all of them, and counted.
pub record HasDone (tells : Bool) (ops : List Op) (old new : Meaning Shelf) (n m : ℕ) : Type 0 where
  pub run : HasRun tells (map Do ops) old new
  pub count : m ≡ counted n (length ops)

pub done_state : {tells : Bool} {ops : List Op} {old new : Meaning Shelf} {n m : ℕ} → HasDone tells ops old new n m → new.state ≡ after_operations old.state ops
done_state {ops = ops} {old = old} done = done.run.state ∙ behind_do old.state ops

pub done_then : {tells : Bool} {xs ys : List Op} {old mid new : Meaning Shelf} {n k m : ℕ} → HasDone tells xs old mid n k → HasDone tells ys mid new k m → HasDone tells (xs ++ ys) old new n m
done_then {tells = tells} {xs = xs} {ys = ys} {old = old} {new = new} {n = n} first second = record {
  run = subst (λ (es : List Event). HasRun tells es old new) (sym (do_append xs ys)) (run_then first.run second.run);
  count = second.count ∙ ap (λ (i : ℕ). counted i (length ys)) first.count ∙ counted_twice n (length xs) (length ys) ∙ ap (counted n) (sym (length-append xs ys));
}

-- steps that came to an end
pub has_done : {X E : Type 0} {tells : Bool} {did : Did X E} {old new : Meaning Shelf} {n m : ℕ} {r : Result X E} → Works tells did old new n m (Ok r) → HasDone tells did.operations old new n m
has_done works = record { run = record { state = works.runs.shelf; printed = works.runs.printed; moments = works.runs.moments }; count = works.count }

-- these came to an end with this answer
pub works_done : {X E : Type 0} {tells : Bool} {old new : Meaning Shelf} {n m : ℕ} (did : Did X E) (r : Result X E) → HasDone tells did.operations old new n m → r ≡ did.answer → Works tells did old new n m (Ok r)
works_done did r done is = record { runs = record { shelf = done.run.state; printed = done.run.printed; moments = done.run.moments }; answer = is; count = done.count }

-- these were stopped
pub works_broken : {X E : Type 0} {tells : Bool} {old new : Meaning Shelf} {n m : ℕ} (did : Did X E) (r : Result (Result X E) Stop) → IsErr r → Elapses old new (StopsSince tells (map Do did.operations) old) → Works tells did old new n m r
works_broken did (Ok x) failed time = let no : ⊥ = cc in absurd no
works_broken did (Err e) failed time = record { runs = record { shelf = tt; printed = tt; moments = time }; answer = tt; count = tt }

-- steps after operations that were done
pub works_behind : {X E : Type 0} {tells : Bool} {ops : List Op} {d : Did X E} {old mid new : Meaning Shelf} {n k m : ℕ} (r : Result (Result X E) Stop) → HasDone tells ops old mid n k → Works tells d mid new k m r → Works tells (behind_them ops d) old new n m r
works_behind {d = d} (Ok answer) done works = works_done _ answer (done_then done (has_done works)) works.answer
works_behind {tells = tells} {ops = ops} {d = d} {old = old} {new = new} (Err e) done works =
    works_broken _ (Err e) refl (subst (λ (es : List Event). Elapses old new (StopsSince tells es old)) (sym (do_append ops d.operations)) (since_second (map Do d.operations) done.run works.runs.moments))

module _ {X Y E : Type 0} (first : Did X E) (more : X → Shelf → Did Y E) where
  abbrev both_of : Shelf → Did Y E
  both_of s = and_then s first more

  pub goes_on : (s : Shelf) (x : X) → Ok x ≡ first.answer → both_of s ≡ behind_them first.operations (more x (after_operations s first.operations))
  unfolding and_then
  goes_on s x is = ap (λ (a : Result X E). on_answer s first.operations a more) (sym is)

  ends : (s : Shelf) (e : E) → Err e ≡ first.answer → both_of s ≡ record { operations = first.operations; answer = Err e }
  unfolding and_then
  ends s e is = ap (λ (a : Result X E). on_answer s first.operations a more) (sym is)

  more_operations : (s : Shelf) (a : Result X E) → (rest : List Op) × ((on_answer s first.operations a more).operations ≡ first.operations ++ rest)
  more_operations s (Ok x) = ((more x (after_operations s first.operations)).operations, refl)
  more_operations s (Err e) = ([], sym (append-nil first.operations))

  module _ {tells : Bool} {old mid new : Meaning Shelf} {n k m : ℕ} where
    -- steps and more steps
    pub works_then : (x : X) (r : Result (Result Y E) Stop) → Works tells first old mid n k (Ok (Ok x)) → Works tells (more x mid.state) mid new k m r → Works tells (both_of old.state) old new n m r
    works_then x r one two =
        let at : mid.state ≡ after_operations old.state first.operations = done_state (has_done one) in
        subst (λ (d : Did Y E). Works tells d old new n m r) (sym (goes_on old.state x one.answer))
        (works_behind r (has_done one) (subst (λ (s : Shelf). Works tells (more x s) mid new k m r) at two))

  module _ {tells : Bool} {old new : Meaning Shelf} {n m : ℕ} where
    -- the first ones end with a reason
    pub works_ends : (e : E) → Works tells first old new n m (Ok (Err e)) → Works tells (both_of old.state) old new n m (Ok (Err e))
    works_ends e one = subst (λ (d : Did Y E). Works tells d old new n m (Ok (Err e))) (sym (ends old.state e one.answer)) (works_done _ (Err e) (has_done one) refl)

    -- the first ones are stopped
    pub works_stops : (q : Result (Result X E) Stop) (r : Result (Result Y E) Stop) → IsErr r → Works tells first old new n m q → Works tells (both_of old.state) old new n m r
    unfolding and_then
    works_stops q r failed one =
        let more = more_operations old.state first.answer in
        works_broken _ r failed (subst (λ (es : List Event). Elapses old new (StopsSince tells es old)) (sym (ap (map Do) more.1 ∙ do_append first.operations more.0)) (since_first (map Do first.operations) (map Do more.0) one.runs.moments))

-- the same steps with another reason
pub works_because : {X E F : Type 0} {tells : Bool} {d : Did X E} {old new : Meaning Shelf} {n m : ℕ} (f : E → F) (r : Result X E) → Works tells d old new n m (Ok r) → Works tells (with_reason f d) old new n m (Ok (because f r))
unfolding with_reason
works_because {d = d} f r works = works_done _ (because f r) (has_done works) (ap (because f) works.answer)

pub works_because_broken : {X E F : Type 0} {tells : Bool} {d : Did X E} {old new : Meaning Shelf} {n m : ℕ} (f : E → F) (q : Result (Result X E) Stop) (r : Result (Result X F) Stop) → IsErr r → Works tells d old new n m q → Works tells (with_reason f d) old new n m r
unfolding with_reason
works_because_broken f q r failed works = works_broken _ r failed works.runs.moments

-- stops in operations, where the printed bytes stay
module _ {X : Type 0} {way : List Op} {did : Did X Refusal} {old new : Meaning Shelf} {n m : ℕ} where
  does_since : {result : Result X MachErr} (tells : Bool) → Does way did old new n m result → Elapses old new (StopsSince tells (map Do did.operations) old)
  does_since tells does = elapses_weaker does.moments (λ s p stop. ([], λ told. stop.1 ∙ sym (append-nil old.printed), stop.0))

  done_by : {result : Result X MachErr} (tells : Bool) → Does way did old new n m result → IsBehind did.operations old.state new.state n m → HasDone tells did.operations old new n m
  done_by tells does is = record {
    run = record {
      state = is.0 ∙ sym (behind_do old.state did.operations);
      printed = λ told. does.printed ∙ sym (append-nil old.printed) ∙ ap (λ (l : List ℕ). old.printed ++ l) (sym (listing_do did.operations));
      moments = does_since tells does;
    };
    count = is.1;
  }

  -- a call that is done
  pub does_ok : {x : X} (tells : Bool) → Does way did old new n m (Ok x) → Works tells did old new n m (Ok (Ok x))
  does_ok {x = x} tells does = works_done did (Ok x) (done_by tells does does.state) (sym does.answer)

  -- one that is refused
  pub does_refused : {r : Refusal} (tells : Bool) → Does way did old new n m (Err (Refused r)) → Works tells did old new n m (Ok (Err r))
  does_refused {r = r} tells does = works_done did (Err r) (done_by tells does does.state) (sym does.answer)

  -- one that failed
  pub does_failed : {result : Result X MachErr} (tells : Bool) (r : Result (Result X Refusal) Stop) → IsErr r → Does way did old new n m result → Works tells did old new n m r
  does_failed tells r failed does = works_broken did r failed (does_since tells does)

stops_by : (op : Op) (was : Shelf) (q : Result Shelf Refusal) → step was op ≡ q → (s : Shelf) → (s ≡ was) ⊎ (step was op ≡ Ok s) → StopsIn was (map Do (by_step op q).operations) s []
stops_by op was (Ok after) is s (inl before) = inl (before, refl)
stops_by op was (Ok after) is s (inr done) = inr (sym (ap (behind was) done), refl)
stops_by op was (Err r) is s (inl before) = (before, refl)
stops_by op was (Err r) is s (inr done) = let no = sym is ∙ done in absurd (cc no)

applied_since : {op : Op} {old new : Meaning Shelf} {T : Type 0} {result : Result T MachErr} (tells : Bool) → Applies op old new result → Elapses old new (StopsSince tells (map Do (did_apply old.state op).operations) old)
unfolding did_apply
applied_since {op = op} {old = old} tells applies = elapses_weaker applies.moments (λ s p stop. ([], λ told. stop.1 ∙ sym (append-nil old.printed), stops_by op old.state (step old.state op) refl s stop.0))

-- an operation
module _ {op : Op} {old new : Meaning Shelf} {n m : ℕ} where
  applied : {T : Type 0} {result : Result T MachErr} (tells : Bool) (answer : Result (Unit {0}) Refusal) (d : Did (Unit {0}) Refusal) → d ≡ did_apply old.state op → Applies op old new result → new.state ≡ after_operations old.state d.operations → m ≡ counted n (length d.operations) → answer ≡ d.answer → Works tells (did_apply old.state op) old new n m (Ok answer)
  unfolding did_apply
  applied tells answer d is applies state count same =
      subst (λ (e : Did (Unit {0}) Refusal). Works tells e old new n m (Ok answer)) is
      (works_done d answer (record {
        run = record {
          state = state ∙ sym (behind_do old.state d.operations);
          printed = λ told. applies.printed ∙ sym (append-nil old.printed) ∙ ap (λ (l : List ℕ). old.printed ++ l) (sym (listing_do d.operations));
          moments = subst (λ (e : Did (Unit {0}) Refusal). Elapses old new (StopsSince tells (map Do e.operations) old)) (sym is) (applied_since tells applies);
        };
        count = count;
      }) same)

  pub applies_ok : {x : Unit {0}} (tells : Bool) → Applies op old new (Ok x) → m ≡ counted n 1 → Works tells (did_apply old.state op) old new n m (Ok (Ok x))
  unfolding did_apply
  applies_ok {x = x} tells applies count =
      applied tells (Ok x) (record { operations = op ∷ []; answer = Ok tt }) (ap (by_step op) (sym applies.answer)) applies (sym (ap (behind old.state) applies.answer)) count refl

  pub applies_refused : {r : Refusal} (tells : Bool) → Applies {T = Unit {0}} op old new (Err (Refused r)) → m ≡ n → Works tells (did_apply old.state op) old new n m (Ok (Err r))
  unfolding did_apply
  applies_refused {r = r} tells applies count =
      applied tells (Err r) (record { operations = []; answer = Err r }) (ap (by_step op) (sym applies.answer.0)) applies applies.answer.1 (omega (arith, count)) refl

  pub applies_failed : {T : Type 0} {result : Result T MachErr} (tells : Bool) (r : Result (Result (Unit {0}) Refusal) Stop) → IsErr r → Applies op old new result → Works tells (did_apply old.state op) old new n m r
  applies_failed tells r failed applies = works_broken _ r failed (applied_since tells applies)

-- nothing is done but time goes on
module _ {old new : Meaning Shelf} (same : Same old new) (durable : IsDurable old) where
  pub idle_since : {tells : Bool} → Elapses old new (StopsSince tells [] old)
  idle_since = elapses_same same (λ s left. ([], λ told. sym (append-nil old.printed), (durable s left, refl)))

  pub works_idle : {X E : Type 0} {tells : Bool} {n m : ℕ} (r : Result X E) → m ≡ n → Works tells (answered r) old new n m (Ok r)
  works_idle r count = works_done (answered r) r (record {
    run = record { state = same.state; printed = λ told. same.printed ∙ sym (append-nil old.printed); moments = idle_since };
    count = omega (arith, count);
  }) refl

  pub works_idle_broken : {X E : Type 0} {tells : Bool} {n m : ℕ} (d : Did X E) (r : Result (Result X E) Stop) → IsErr r → Works tells d old new n m r
  works_idle_broken d r failed = works_broken d r failed (since_first [] (map Do d.operations) idle_since)

-- an item whose steps are done and whose line is printed
module _ {X E : Type 0} (d : Did X E) (line : List ℕ) where
  abbrev events_for : List Event
  events_for = map Do d.operations ++ Say line ∷ []

  pub item_said : {tells : Bool} {T T' E' : Type 0} {old mid new : Meaning Shelf} {n k : ℕ} {r : Result X E} {x : T} (z : T') → Works tells d old mid n k (Ok r) → Prints tells (printed_line line) mid new (Ok x) → Runs {T = T'} {E = E'} tells events_for old new (Ok z)
  item_said z works prints =
      let run = run_then (has_done works).run (run_line line prints) in
      record { shelf = run.state; printed = run.printed; moments = run.moments }

  pub item_unsaid : {tells : Bool} {T T' E' : Type 0} {old mid new : Meaning Shelf} {n k : ℕ} {r : Result X E} {result : Result T MachErr} (q : Result T' E') → IsErr q → Works tells d old mid n k (Ok r) → Prints tells (printed_line line) mid new result → Runs tells events_for old new q
  item_unsaid (Ok z) failed works prints = let no : ⊥ = cc in absurd no
  item_unsaid (Err e) failed works prints = record { shelf = tt; printed = tt; moments = since_second (Say line ∷ []) (has_done works).run (since_line line prints) }

  pub item_broken : {tells : Bool} {T' E' : Type 0} {old new : Meaning Shelf} {n m : ℕ} {r : Result (Result X E) Stop} (q : Result T' E') → IsErr q → Works tells d old new n m r → Runs tells events_for old new q
  item_broken (Ok z) failed works = let no : ⊥ = cc in absurd no
  item_broken (Err e) failed works = record { shelf = tt; printed = tt; moments = since_first (map Do d.operations) (Say line ∷ []) works.runs.moments }

-- further steps after two are those after the first, and then the second
pub then_then : {X Y Z E : Type 0} (s : Shelf) (d : Did X E) (f : X → Shelf → Did Y E) (g : Y → Shelf → Did Z E) → and_then s (and_then s d f) g ≡ and_then s d (λ x u. and_then u (f x u) g)
unfolding and_then
then_then {X} {Y} {Z} {E} s d f g = by_answer d.operations d.answer
  where
    by_second : (ops : List Op) (more : List Op) (a : Result Y E) → on_answer s (ops ++ more) a g ≡ behind_them ops (on_answer (after_operations s ops) more a g)
    by_second ops more (Ok y) = ap (λ (u : Shelf). record { operations = (ops ++ more) ++ (g y u).operations; answer = (g y u).answer }) (after_append s ops more) ∙ ap (λ (l : List Op). record { operations = l; answer = (g y (after_operations (after_operations s ops) more)).answer }) (append_assoc ops more (g y (after_operations (after_operations s ops) more)).operations)
    by_second ops more (Err e) = refl

    by_answer : (ops : List Op) (a : Result X E) → and_then s (on_answer s ops a f) g ≡ on_answer s ops a (λ x u. and_then u (f x u) g)
    by_answer ops (Ok x) = by_second ops (f x (after_operations s ops)).operations (f x (after_operations s ops)).answer
    by_answer ops (Err e) = refl

-- a reason is seen as another before steps or after them
pub reason_then : {X Y E F : Type 0} (r : E → F) (s : Shelf) (d : Did X E) (f : X → Shelf → Did Y E) → with_reason r (and_then s d f) ≡ and_then s (with_reason r d) (λ x u. with_reason r (f x u))
unfolding and_then with_reason
reason_then {X} {Y} {E} {F} r s d f = by_answer d.operations d.answer
  where
    by_answer : (ops : List Op) (a : Result X E) → with_reason r (on_answer s ops a f) ≡ on_answer s ops (because r a) (λ x u. with_reason r (f x u))
    by_answer ops (Ok x) = refl
    by_answer ops (Err e) = refl

-- no call
pub works_none : {X E : Type 0} (tells : Bool) (m : Meaning Shelf) (n : ℕ) (r : Result X E) → Works tells (answered r) m m n n (Ok r)
works_none tells m n r = works_done (answered r) r (record { run = run_none tells m; count = omega arith }) refl

-- steps after which nothing is done but time goes on
pub works_kept : {X E : Type 0} {tells : Bool} {d : Did X E} {old mid new : Meaning Shelf} {n k m : ℕ} (r : Result X E) → Works tells d old mid n k (Ok r) → Same mid new → IsDurable mid → m ≡ k → Works tells d old new n m (Ok r)
works_kept {tells = tells} {d = d} {old = old} {mid = mid} {new = new} r works same durable count =
    let idle : HasRun tells [] mid new = record { state = same.state; printed = λ told. same.printed ∙ sym (append-nil mid.printed); moments = idle_since same durable } in
    works_done d r (record {
      run = subst (λ (es : List Event). HasRun tells es old new) (append-nil (map Do d.operations)) (run_then (has_done works).run idle);
      count = count ∙ works.count;
    }) works.answer

-- steps that were stopped, after which nothing is done but time goes on
pub works_abandoned : {X E : Type 0} {tells : Bool} {d : Did X E} {old mid new : Meaning Shelf} {n k m : ℕ} {r : Result (Result X E) Stop} (q : Result (Result X E) Stop) → IsErr q → OnlyNow old → CountsNow mid → IsDurable old → Works tells d old mid n k r → Same mid new → Works tells d old new n m q
works_abandoned {tells = tells} {d = d} {old = old} q failed only counts durable works same =
    let es = map Do d.operations in
    let here : Leaves old (StopsSince tells es old) = λ s left. ([], λ told. sym (append-nil old.printed), subst (λ (t : Shelf). StopsIn old.state es t []) (sym (durable s left)) (stops_start old.state es)) in
    works_broken d q failed (elapses_then works.runs.moments (elapses_same same (leaves_now only counts here works.runs.moments)))
