-- Items that are done one after another, or stopped.
use Rattle.std.proofs.Common.{◌≡◌, inl, inr, ℕ, Bool, max, List, [], ◌∷◌, ◌++◌, length, map, refl, sym, ◌∙◌, ap, subst, arith, append_assoc, length-append}
use Rattle.std.proofs.lemmas.List.{append-nil}
use Rattle.std.specs.Prelude.{Result, Ok, Err, IsErr, IsErrAnd, IsErrOf, IsTrue}
use Rattle.stop_model.specs.Moments.{Meaning, Elapses, IsDurable, Same}
use Rattle.stop_model.proofs.MomentLemmas.{elapses_none}
use Rattle.vol_model.specs.declared.answers.Stop.{Stop}
use Rattle.vol_model.specs.declared.answers.Stop.TheVariants.{Memory}
use Rattle.vol_model.specs.declared.contents.Shelf.{Shelf}
use Rattle.vol_model.specs.declared.requests.Op.{Op}
use Rattle.vol_model.specs.Calls.{counted}
use Rattle.vol_model.specs.Did.{Did}
use Rattle.vol_model.specs.Events.{Do, Event, Item, Say, code_of, events_in, events_of, operations_of}
use Rattle.vol_model.specs.Runs.{Runs, Works}
use Rattle.vol_model.proofs.Stops.{HasRun, StopsSince, events_append, run_none, run_then, since_first, since_second}
use Rattle.vol_model.proofs.Working.{counted_twice, done_state, has_done, idle_since}
use Rattle.util_steps.specs.Items.{DoesItem}
use Rattle.iebcopy_util.specs.Steps.{DoesItems, EndsWhole, HasPart}
use Rattle.iebcopy_util.proofs.WholeLemmas.{ends_behind, ends_first, ends_now, operations_append, operations_in}

-- Items were done, all of them, and counted.
pub record AreDone (tells : Bool) (items : List Item) (old new : Meaning Shelf) (n m : ℕ) : Type 0 where
  pub run : HasRun tells (events_of items) old new
  pub count : m ≡ counted n (length (operations_of (events_of items)))

module _ {tells : Bool} where
  pub none_done : (m : Meaning Shelf) (n : ℕ) → AreDone tells [] m m n n
  none_done m n = record { run = run_none tells m; count = omega arith }

  -- nothing but time goes on
  pub idle_done : {old new : Meaning Shelf} {n m : ℕ} → Same old new → IsDurable old → m ≡ n → AreDone tells [] old new n m
  idle_done {old = old} same durable count = record {
    run = record { state = same.state; printed = λ told. same.printed ∙ sym (append-nil old.printed); moments = idle_since same durable };
    count = omega (arith, count);
  }

  pub done_then : {xs ys : List Item} {old mid new : Meaning Shelf} {n k m : ℕ} → AreDone tells xs old mid n k → AreDone tells ys mid new k m → AreDone tells (xs ++ ys) old new n m
  done_then {xs = xs} {ys = ys} {old = old} {new = new} {n = n} first second =
      let events : events_of (xs ++ ys) ≡ events_of xs ++ events_of ys = events_append xs ys in
      record {
        run = subst (λ (es : List Event). HasRun tells es old new) (sym events) (run_then first.run second.run);
        count = second.count ∙ ap (λ (a : ℕ). counted a (length (operations_of (events_of ys)))) first.count
            ∙ counted_twice n (length (operations_of (events_of xs))) (length (operations_of (events_of ys)))
            ∙ ap (counted n) (sym (length-append (operations_of (events_of xs)) (operations_of (events_of ys))) ∙ ap length (sym (operations_append (events_of xs) (events_of ys)) ∙ ap operations_of (sym events)));
      }

module _ {T : Type 0} {tells roomy : Bool} {items : List Item} {Answers : T → Type 0} {old new : Meaning Shelf} {n m : ℕ} where
  pub are_done : {x : T} → DoesItems tells roomy items Answers old new n m (Ok x) → AreDone tells items old new n m
  are_done does = record { run = record { state = does.runs.shelf; printed = does.runs.printed; moments = does.runs.moments }; count = does.count.count }

  pub does_ok : (x : T) → Answers x → AreDone tells items old new n m → DoesItems tells roomy items Answers old new n m (Ok x)
  does_ok x is done = record {
    runs = record { shelf = done.run.state; printed = done.run.printed; moments = done.run.moments };
    answer = is;
    count = record { count = done.count };
    memory = λ room failed. let no : ⊥ = cc in absurd no;
  }

  pub does_err : (r : Result T Stop) → IsErr r → Elapses old new (StopsSince tells (events_of items) old) → (IsTrue roomy → IsErrOf r Memory → EndsWhole items old.state new.state) → DoesItems tells roomy items Answers old new n m r
  does_err (Ok x) failed time ends = let no : ⊥ = cc in absurd no
  does_err (Err e) failed time ends = record { runs = record { shelf = tt; printed = tt; moments = time }; answer = tt; count = record { count = tt }; memory = ends }

-- nothing was done
pub does_nothing : {T : Type 0} {tells roomy : Bool} (items : List Item) (A : T → Type 0) (m : Meaning Shelf) {n k : ℕ} (e : Stop) → DoesItems tells roomy items A m m n k (Err e)
does_nothing items A m e = does_err (Err e) refl (elapses_none m _) (λ room memory. ends_now items m.state m.state refl)

-- the error of a call, handed on
pub same_stop : {T U : Type 0} (q : Result T Stop) (r : Result U Stop) (e : Stop) → q ≡ Err e → IsErrAnd r (λ f. f ≡ e) → IsErrOf r Memory → IsErrOf q Memory
same_stop q (Ok x) e is handed failed = absurd handed
same_stop q (Err f) e is handed failed = cc

-- nothing but time went on where items are stopped
pub does_idle : {T : Type 0} {tells roomy : Bool} (items : List Item) (Answers : T → Type 0) {old new : Meaning Shelf} {n m : ℕ} (r : Result T Stop) → IsErr r → Same old new → IsDurable old → DoesItems tells roomy items Answers old new n m r
does_idle items Answers {old = old} {new = new} r failed same durable =
    does_err r failed (since_first [] (events_of items) (idle_since same durable)) (λ room memory. ends_now items old.state new.state same.state)

-- items that are stopped, whatever is to be answered
pub does_handed : {T U : Type 0} {tells roomy : Bool} {items : List Item} {A : T → Type 0} (B : U → Type 0) {old new : Meaning Shelf} {n m k : ℕ} (q : Result T Stop) (r : Result U Stop) → IsErr r → (IsErrOf r Memory → IsErrOf q Memory) → DoesItems tells roomy items A old new n m q → DoesItems tells roomy items B old new n k r
does_handed B q r failed same does = does_err r failed does.runs.moments (λ room memory. does.memory room (same memory))

-- ---- the code of items

module _ {tells roomy : Bool} where
  -- items that are seen as others
  pub coded_as : {xs ys : List Item} {old new : Meaning Shelf} {n m : ℕ} (r : Result ℕ Stop) → xs ≡ ys → DoesItems tells roomy xs (λ c. c ≡ code_of xs) old new n m r → DoesItems tells roomy ys (λ c. c ≡ code_of ys) old new n m r
  coded_as {old = old} {new = new} {n = n} {m = m} r is does = subst (λ (l : List Item). DoesItems tells roomy l (λ (c : ℕ). c ≡ code_of l) old new n m r) is does

  later_by : (xs : List Item) {old mid new : Meaning Shelf} {n k m : ℕ} (r : Result ℕ Stop) → Same old mid → IsDurable old → k ≡ n → DoesItems tells roomy xs (λ c. c ≡ code_of xs) mid new k m r → DoesItems tells roomy xs (λ c. c ≡ code_of xs) old new n m r
  later_by xs (Ok x) same durable count does = does_ok x does.answer (done_then (idle_done same durable count) (are_done does))
  later_by xs {old = old} {mid = mid} {new = new} (Err e) same durable count does =
      does_err (Err e) refl (since_second (events_of xs) (idle_done {tells = tells} same durable (let k : ℕ = 0 in let is : k ≡ k = refl in is)).run does.runs.moments)
      (λ room memory. subst (λ (s : Shelf). EndsWhole xs s new.state) same.state (does.memory room memory))

  -- nothing but time went on before
  pub coded_later : (items : Shelf → List Item) {old mid new : Meaning Shelf} {n k m : ℕ} (r : Result ℕ Stop) → Same old mid → IsDurable old → k ≡ n → DoesItems tells roomy (items mid.state) (λ c. c ≡ code_of (items mid.state)) mid new k m r → DoesItems tells roomy (items old.state) (λ c. c ≡ code_of (items old.state)) old new n m r
  coded_later items {old = old} r same durable count does = later_by (items old.state) r same durable count (coded_as r (ap items same.state) does)

-- ---- some after others

-- Some items were done, with this highest code, and these of all are left.
pub record SoFar (tells : Bool) (all left : List Item) (code : ℕ) (old now : Meaning Shelf) (n m : ℕ) : Type 0 where
  pub done : List Item
  pub whole : all ≡ done ++ left
  pub are : AreDone tells done old now n m
  pub highest : code ≡ code_of done

pub so_begins : (tells : Bool) (all : List Item) (old : Meaning Shelf) (n : ℕ) → SoFar tells all all 0 old old n n
so_begins tells all old n = record { done = []; whole = refl; are = none_done old n; highest = refl }

max_assoc : (a b c : ℕ) → max a (max b c) ≡ max (max a b) c
max_assoc a b c = omega arith

pub code_append : (xs ys : List Item) → code_of (xs ++ ys) ≡ max (code_of xs) (code_of ys)
code_append [] ys = omega arith
code_append (x ∷ xs) ys = ap (max x.code) (code_append xs ys) ∙ max_assoc x.code (code_of xs) (code_of ys)

module _ {tells : Bool} {all left : List Item} {code : ℕ} {old now : Meaning Shelf} {n m : ℕ} (so : SoFar tells all left code old now n m) where
  -- more were done
  pub so_further : (xs after : List Item) {new : Meaning Shelf} {k : ℕ} (c highest : ℕ) → left ≡ xs ++ after → AreDone tells xs now new m k → c ≡ code_of xs → highest ≡ max code c → SoFar tells all after highest old new n k
  so_further xs after c highest is done own both = record {
    done = so.done ++ xs;
    whole = so.whole ∙ ap (λ (l : List Item). so.done ++ l) is ∙ sym (append_assoc so.done xs after);
    are = done_then so.are done;
    highest = both ∙ ap (λ (a : ℕ). max a c) so.highest ∙ ap (max (code_of so.done)) own ∙ sym (code_append so.done xs);
  }

  -- more were stopped
  pub so_stops : {T U : Type 0} {roomy : Bool} {A : T → Type 0} {B : U → Type 0} (xs after : List Item) {new : Meaning Shelf} {k c : ℕ} (q : Result T Stop) (r : Result U Stop) → IsErr r → (IsErrOf r Memory → IsErrOf q Memory) → left ≡ xs ++ after → DoesItems tells roomy xs A now new m k q → DoesItems tells roomy all B old new n c r
  so_stops {roomy = roomy} {B = B} xs after {new = new} {c = c} q r failed same is does =
      let whole : all ≡ so.done ++ (xs ++ after) = so.whole ∙ ap (λ (l : List Item). so.done ++ l) is in
      let here : Elapses now new (StopsSince tells (events_of (xs ++ after)) now) = subst (λ (es : List Event). Elapses now new (StopsSince tells es now)) (sym (events_append xs after)) (since_first (events_of xs) (events_of after) does.runs.moments) in
      subst (λ (l : List Item). DoesItems tells roomy l B old new n c r) (sym whole)
      (does_err r failed (subst (λ (es : List Event). Elapses old new (StopsSince tells es old)) (sym (events_append so.done (xs ++ after))) (since_second (events_of (xs ++ after)) so.are.run here))
      (λ room memory. ends_behind so.done (xs ++ after) old.state new.state (subst (λ (s : Shelf). EndsWhole (xs ++ after) s new.state) so.are.run.state (ends_first xs after now.state new.state (does.memory room (same memory))))))

  -- none is left
  all_done : left ≡ [] → so.done ≡ all
  all_done none = sym (so.whole ∙ ap (λ (l : List Item). so.done ++ l) none ∙ append-nil so.done)

  pub so_code : left ≡ [] → code ≡ code_of all
  so_code none = so.highest ∙ ap code_of (all_done none)

  pub so_ends : {T : Type 0} {roomy : Bool} {A : T → Type 0} (x : T) → left ≡ [] → A x → DoesItems tells roomy all A old now n m (Ok x)
  so_ends {roomy = roomy} {A = A} x none is = subst (λ (l : List Item). DoesItems tells roomy l A old now n m (Ok x)) (all_done none) (does_ok x is so.are)

-- ---- one item

single : (item : Item) → events_in item ≡ events_of (item ∷ [])
single item = sym (append-nil (events_in item))

-- the item of steps and of the lines that answer them
abbrev pub item_for : {X E : Type 0} → Did X E → List (List ℕ) → ℕ → Item
item_for did lines code = record { operations = did.operations; lines = lines; code = code }

time_as : {tells : Bool} (item : Item) {old new : Meaning Shelf} → Elapses old new (StopsSince tells (events_in item) old) → Elapses old new (StopsSince tells (events_of (item ∷ [])) old)
time_as {tells = tells} item {old = old} {new = new} time = subst (λ (es : List Event). Elapses old new (StopsSince tells es old)) (single item) time

max_zero : (a : ℕ) → max a 0 ≡ a
max_zero a = omega arith

-- an item of a report
pub does_one : {tells roomy : Bool} (item : Item) {old new : Meaning Shelf} {n m : ℕ} (r : Result ℕ Stop) → DoesItem tells item old new n m r → new.state ≡ old.state → DoesItems tells roomy (item ∷ []) (λ c. c ≡ code_of (item ∷ [])) old new n m r
does_one {tells = tells} item {old = old} {new = new} {n = n} (Ok c) does same =
    does_ok c (does.code ∙ sym (max_zero item.code)) (record {
      run = subst (λ (es : List Event). HasRun tells es old new) (single item) (record { state = does.runs.shelf; printed = does.runs.printed; moments = does.runs.moments });
      count = does.count.count ∙ ap (λ (es : List Event). counted n (length (operations_of es))) (single item);
    })
does_one item {old = old} {new = new} (Err e) does same = does_err (Err e) refl (time_as item does.runs.moments) (λ room memory. ends_now (item ∷ []) old.state new.state same)

module _ {X E T : Type 0} {tells roomy : Bool} (did : Did X E) (lines : List (List ℕ)) (code : ℕ) (A : T → Type 0) where
  -- its steps are stopped
  pub one_stopped : {old new : Meaning Shelf} {n m k : ℕ} (q : Result (Result X E) Stop) (r : Result T Stop) → IsErr r → (IsErrOf r Memory → IsErrOf q Memory) → Works tells did old new n m q → (IsTrue roomy → IsErrOf q Memory → HasPart did.operations old.state new.state)
      → DoesItems tells roomy (item_for did lines code ∷ []) A old new n k r
  one_stopped q r failed same works part = does_err r failed (time_as (item_for did lines code) (since_first (map Do did.operations) (map Say lines) works.runs.moments)) (λ room memory. inl (part room (same memory)))

  module _ {old mid : Meaning Shelf} {n k : ℕ} {answer : Result X E} (works : Works tells did old mid n k (Ok answer)) where
    -- they are done, and no line is printed as a whole
    pub one_unsaid : {U : Type 0} {new : Meaning Shelf} {m : ℕ} (q : Result U Stop) (r : Result T Stop) → IsErr r → Runs tells (map Say lines) mid new q → new.state ≡ mid.state → DoesItems tells roomy (item_for did lines code ∷ []) A old new n m r
    one_unsaid q r failed runs same = does_err r failed (time_as (item_for did lines code) (since_second (map Say lines) (has_done works).run runs.moments)) (λ room memory. inr (same ∙ done_state (has_done works)))

    -- no line is begun
    pub one_silent : {m : ℕ} (r : Result T Stop) → IsErr r → DoesItems tells roomy (item_for did lines code ∷ []) A old mid n m r
    one_silent r failed = does_err r failed (time_as (item_for did lines code) (since_second (map Say lines) (has_done works).run (elapses_none mid _))) (λ room memory. inr (done_state (has_done works)))

    -- they are done, and the lines are printed
    pub one_said : {U : Type 0} {new : Meaning Shelf} {m : ℕ} {y : U} (x : T) → Runs {T = U} {E = Stop} tells (map Say lines) mid new (Ok y) → m ≡ k → A x → DoesItems tells roomy (item_for did lines code ∷ []) A old new n m (Ok x)
    one_said {new = new} x runs count is =
        let second : HasRun tells (map Say lines) mid new = record { state = runs.shelf; printed = runs.printed; moments = runs.moments } in
        does_ok x is (record {
          run = subst (λ (es : List Event). HasRun tells es old new) (single (item_for did lines code)) (run_then (has_done works).run second);
          count = count ∙ works.count ∙ ap (λ (l : List Op). counted n (length l)) (sym (operations_in did.operations lines)) ∙ ap (λ (es : List Event). counted n (length (operations_of es))) (single (item_for did lines code));
        })
