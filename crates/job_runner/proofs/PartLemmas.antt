-- Parts of a run one after another, in a frame and in a loop.
use Rattle.std.proofs.Common.{◌≡◌, ℕ, Bool, max, List, [], ◌∷◌, ◌++◌, length, refl, sym, ◌∙◌, ap, subst, arith, append_assoc, length-append, ◌≤◌, false}
use Rattle.std.proofs.lemmas.List.{append-nil}
use Rattle.std.specs.Prelude.{Result, Ok, Err, IsErr, IfOk, IsTrue}
use Rattle.stop_model.specs.Moments.{Meaning, Elapses, IsDurable, Same}
use Rattle.stop_model.proofs.MomentLemmas.{elapses_none}
use Rattle.vol_model.specs.declared.answers.Stop.{Stop}
use Rattle.vol_model.specs.declared.contents.Shelf.{Shelf}
use Rattle.vol_model.specs.declared.machine.Machine.{Ghosts}
use Rattle.vol_model.specs.declared.requests.Op.{Op}
use Rattle.vol_model.specs.Calls.{Keeps, counted}
use Rattle.vol_model.specs.Events.{Do, Event, Item, Say, code_of, events_in, events_of, operations_of}
use Rattle.vol_model.specs.Runs.{Counts, RunCall, Runs}
use Rattle.vol_model.proofs.Stops.{HasRun, StopsSince, events_append, run_none, run_then, since_first, since_second}
use Rattle.vol_model.proofs.Working.{counted_twice, idle_since}
use Rattle.util_steps.specs.Items.{DoesItem}
use Rattle.util_steps.specs.Taking.{IsReady, RunsItems}
use Rattle.util_steps.proofs.Taking.{call_none}
use Rattle.job_runner.specs.Parts.{DoesCoded, DoesItems, and_next, behind_items, framed, says}

-- ---- codes

max_assoc : (a b c : ℕ) → max a (max b c) ≡ max (max a b) c
max_assoc a b c = omega arith

pub code_append : (xs ys : List Item) → code_of (xs ++ ys) ≡ max (code_of xs) (code_of ys)
code_append [] ys = omega arith
code_append (x ∷ xs) ys = ap (max x.code) (code_append xs ys) ∙ max_assoc x.code (code_of xs) (code_of ys)

-- the lines around items have the code 0
pub code_framed : (first : List ℕ) (last : ℕ → List ℕ) (items : List Item) → code_of (framed first last items) ≡ code_of items
code_framed first last items = code_append (says 0 first ∷ items) (says 0 (last (code_of items)) ∷ []) ∙ omega arith

operations_append : (es fs : List Event) → operations_of (es ++ fs) ≡ operations_of es ++ operations_of fs
operations_append [] fs = refl
operations_append (Do op ∷ es) fs = ap (λ (l : List Op). op ∷ l) (operations_append es fs)
operations_append (Say line ∷ es) fs = operations_append es fs

single : (item : Item) → events_in item ≡ events_of (item ∷ [])
single item = sym (append-nil (events_in item))

-- ---- items that are done, or stopped

module _ {tells : Bool} where
  run_of : {T : Type 0} {items : List Item} {old new : Meaning Shelf} {n m : ℕ} {x : T} → DoesItems tells items old new n m (Ok x) → HasRun tells (events_of items) old new
  run_of does = record { state = does.runs.shelf; printed = does.runs.printed; moments = does.runs.moments }

  done_by : {T : Type 0} {items : List Item} {old new : Meaning Shelf} {n m : ℕ} (x : T) → HasRun tells (events_of items) old new → m ≡ counted n (length (operations_of (events_of items))) → DoesItems tells items old new n m (Ok x)
  done_by x run count = record { runs = record { shelf = run.state; printed = run.printed; moments = run.moments }; count = record { count = count } }

  broken_by : {T : Type 0} {items : List Item} {old new : Meaning Shelf} {n m : ℕ} (r : Result T Stop) → IsErr r → Elapses old new (StopsSince tells (events_of items) old) → DoesItems tells items old new n m r
  broken_by (Ok x) failed time = let no : ⊥ = cc in absurd no
  broken_by (Err e) failed time = record { runs = record { shelf = tt; printed = tt; moments = time }; count = record { count = tt } }

  pub does_none : {T : Type 0} (m : Meaning Shelf) (n : ℕ) (x : T) → DoesItems tells [] m m n n (Ok x)
  does_none m n x = done_by x (run_none tells m) (omega arith)

  -- nothing is done yet where a run is stopped
  pub does_nothing : {T : Type 0} (items : List Item) (m : Meaning Shelf) {n k : ℕ} (e : Stop) → DoesItems {T = T} tells items m m n k (Err e)
  does_nothing items m e = broken_by (Err e) refl (elapses_none m _)

  pub does_one : {item : Item} {old new : Meaning Shelf} {n m : ℕ} (r : Result ℕ Stop) → DoesItem tells item old new n m r → DoesItems tells (item ∷ []) old new n m r
  does_one {item = item} {old = old} {new = new} {n = n} {m = m} r does = record {
    runs = subst (λ (es : List Event). Runs tells es old new r) (single item) does.runs;
    count = subst (λ (es : List Event). Counts es n m r) (single item) does.count;
  }

  -- one item, which has its code
  pub does_single : {item : Item} {old new : Meaning Shelf} {n m : ℕ} (r : Result ℕ Stop) → IfOk r (λ code. code ≡ item.code) → DoesItems tells (item ∷ []) old new n m r → DoesItem tells item old new n m r
  does_single {item = item} {old = old} {new = new} {n = n} {m = m} r code does = record {
    runs = subst (λ (es : List Event). Runs tells es old new r) (sym (single item)) does.runs;
    code = code;
    count = subst (λ (es : List Event). Counts es n m r) (sym (single item)) does.count;
  }

  -- the same with another answer
  pub does_with : {T U : Type 0} {items : List Item} {old new : Meaning Shelf} {n m : ℕ} {x : T} (y : U) → DoesItems tells items old new n m (Ok x) → DoesItems tells items old new n m (Ok y)
  does_with y does = done_by y (run_of does) does.count.count

  pub does_broken : {T U : Type 0} {items : List Item} {old new : Meaning Shelf} {n m k : ℕ} {q : Result T Stop} (r : Result U Stop) → IsErr r → DoesItems tells items old new n m q → DoesItems tells items old new n k r
  does_broken r failed does = broken_by r failed does.runs.moments

  pub does_state : {T : Type 0} {items : List Item} {old new : Meaning Shelf} {n m : ℕ} {x : T} → DoesItems tells items old new n m (Ok x) → new.state ≡ behind_items old.state items
  does_state does = does.runs.shelf

  -- some, and then others
  pub does_then : {T U : Type 0} {xs ys : List Item} {old mid new : Meaning Shelf} {n k m : ℕ} {x : T} (r : Result U Stop) → DoesItems tells xs old mid n k (Ok x) → DoesItems tells ys mid new k m r → DoesItems tells (xs ++ ys) old new n m r
  does_then {xs = xs} {ys = ys} {old = old} {new = new} {n = n} (Ok y) first second =
      let events : events_of (xs ++ ys) ≡ events_of xs ++ events_of ys = events_append xs ys in
      done_by y (subst (λ (es : List Event). HasRun tells es old new) (sym events) (run_then (run_of first) (run_of second)))
      (second.count.count ∙ ap (λ (a : ℕ). counted a (length (operations_of (events_of ys)))) first.count.count
      ∙ counted_twice n (length (operations_of (events_of xs))) (length (operations_of (events_of ys)))
      ∙ ap (counted n) (sym (length-append (operations_of (events_of xs)) (operations_of (events_of ys))) ∙ ap length (sym (operations_append (events_of xs) (events_of ys)) ∙ ap operations_of (sym events))))
  does_then {xs = xs} {ys = ys} {old = old} {new = new} (Err e) first second =
      broken_by (Err e) refl (subst (λ (es : List Event). Elapses old new (StopsSince tells es old)) (sym (events_append xs ys)) (since_second (events_of ys) (run_of first) second.runs.moments))

  -- the first are stopped
  pub does_stopped : {T U : Type 0} {xs : List Item} (ys : List Item) {old new : Meaning Shelf} {n m k : ℕ} {q : Result T Stop} (r : Result U Stop) → IsErr r → DoesItems tells xs old new n m q → DoesItems tells (xs ++ ys) old new n k r
  does_stopped {xs = xs} ys {old = old} {new = new} r failed first =
      broken_by r failed (subst (λ (es : List Event). Elapses old new (StopsSince tells es old)) (sym (events_append xs ys)) (since_first (events_of xs) (events_of ys) first.runs.moments))

  -- a part after items, which knows the shelf after them
  pub does_next : {T U : Type 0} {xs : List Item} (next : Shelf → List Item) {old mid new : Meaning Shelf} {n k m : ℕ} {x : T} (r : Result U Stop) → DoesItems tells xs old mid n k (Ok x) → DoesItems tells (next mid.state) mid new k m r → DoesItems tells (and_next old.state xs next) old new n m r
  does_next {xs = xs} next {old = old} {mid = mid} {new = new} {k = k} {m = m} r first second =
      does_then r first (subst (λ (s : Shelf). DoesItems tells (next s) mid new k m r) (does_state first) second)

  -- nothing but time goes on before items
  pub does_later : {U : Type 0} (items : Shelf → List Item) {old mid new : Meaning Shelf} {n k m : ℕ} (r : Result U Stop) → Same old mid → IsDurable old → k ≡ n → DoesItems tells (items mid.state) mid new k m r → DoesItems tells (items old.state) old new n m r
  does_later items {old = old} {mid = mid} {new = new} {n = n} {k = k} {m = m} r same durable count does =
      let idle : DoesItems {T = Unit {0}} tells [] old mid n k (Ok tt) = done_by tt (record { state = same.state; printed = λ told. same.printed ∙ sym (append-nil old.printed); moments = idle_since same durable }) (omega (arith, count)) in
      subst (λ (s : Shelf). DoesItems tells (items s) old new n m r) same.state (does_then r idle does)

  pub does_idle : {U : Type 0} {old mid : Meaning Shelf} {n k : ℕ} (x : U) → Same old mid → IsDurable old → k ≡ n → DoesItems tells [] old mid n k (Ok x)
  does_idle {old = old} x same durable count =
      done_by x (record { state = same.state; printed = λ told. same.printed ∙ sym (append-nil old.printed); moments = idle_since same durable }) (omega (arith, count))

  pub does_idle_broken : {U : Type 0} (items : List Item) {old mid : Meaning Shelf} {n k : ℕ} (r : Result U Stop) → IsErr r → Same old mid → IsDurable old → DoesItems tells items old mid n k r
  does_idle_broken items {old = old} r failed same durable = broken_by r failed (since_first [] (events_of items) (idle_since same durable))

-- ---- programs

module _ {X : Type 0} (g : Ghosts X) where
  -- the items of a program, with their code
  pub coded_by : {items : Shelf → List Item} {old new : X} {r : Result ℕ Stop} → RunsItems g items old new r → IsTrue g.tells → DoesCoded g.tells_prints (items (g.meaning old).state) (g.meaning old) (g.meaning new) (g.status old).done (g.status new).done r
  coded_by runs told = record { does = record { runs = runs.runs told; count = runs.count told }; code = runs.code told }

  pub runs_by : {items : Shelf → List Item} {old new : X} {r : Result ℕ Stop} → (IsTrue g.tells → DoesCoded g.tells_prints (items (g.meaning old).state) (g.meaning old) (g.meaning new) (g.status old).done (g.status new).done r) → IfOk r (λ code. code ≤ 16) → (IsTrue g.tells → Keeps (g.meaning old).clock (g.promise old) (g.promise new)) → RunCall false (g.status old) (g.status new) r → RunsItems g items old new r
  runs_by coded small promise faults = record {
    runs = λ told. (coded told).does.runs;
    code = λ told. (coded told).code;
    count = λ told. (coded told).does.count;
    small = small;
    promise = promise;
    faults = faults;
  }

  -- a program that does nothing
  pub runs_none : {machine : X} → IsReady g machine → RunsItems g (λ shelf. []) machine machine (Ok 0)
  runs_none {machine = machine} ready =
      let none : DoesItems {T = ℕ} g.tells_prints [] (g.meaning machine) (g.meaning machine) (g.status machine).done (g.status machine).done (Ok 0) = does_none (g.meaning machine) (g.status machine).done 0 in
      record {
        runs = λ told. none.runs;
        code = λ told. omega arith;
        count = λ told. none.count;
        small = omega arith;
        promise = λ told t known early kept. kept;
        faults = call_none g machine 0 ready;
      }

-- ---- frames

module _ {tells : Bool} (first : List ℕ) (last : ℕ → List ℕ) where
  -- the first line isn't printed as a whole
  pub frame_unsaid : {T U : Type 0} (items : List Item) {old new : Meaning Shelf} {n m k : ℕ} {q : Result T Stop} (r : Result U Stop) → IsErr r → DoesItems tells (says 0 first ∷ []) old new n m q → DoesItems tells (framed first last items) old new n k r
  frame_unsaid items r failed does = does_stopped (items ++ says 0 (last (code_of items)) ∷ []) r failed does

  module _ {T : Type 0} {x : T} (body : Shelf → List Item) {old one : Meaning Shelf} {n a : ℕ} (begins : DoesItems tells (says 0 first ∷ []) old one n a (Ok x)) where
    here : {U : Type 0} {two : Meaning Shelf} {b : ℕ} {q : Result U Stop} → DoesItems tells (body one.state) one two a b q → DoesItems tells (body old.state) one two a b q
    here {two = two} {b = b} {q = q} does = subst (λ (s : Shelf). DoesItems tells (body s) one two a b q) (does_state begins) does

    -- the items are stopped
    pub frame_stopped : {U V : Type 0} {two : Meaning Shelf} {b c : ℕ} {q : Result U Stop} (r : Result V Stop) → IsErr r → DoesItems tells (body one.state) one two a b q → DoesItems tells (framed first last (body old.state)) old two n c r
    frame_stopped {q = q} r failed does = does_stopped (says 0 (last (code_of (body old.state))) ∷ []) r failed (does_then q begins (here does))

    -- the items are done, and the last line is printed, or not as a whole
    pub frame_done : {U V : Type 0} {two new : Meaning Shelf} {b m : ℕ} {y : U} (code : ℕ) (r : Result V Stop) → DoesItems tells (body one.state) one two a b (Ok y) → code ≡ code_of (body one.state) → DoesItems tells (says 0 (last code) ∷ []) two new b m r → DoesItems tells (framed first last (body old.state)) old new n m r
    frame_done {two = two} {new = new} {b = b} {m = m} {y = y} code r does is says_code =
        let same : code ≡ code_of (body old.state) = is ∙ ap (λ (s : Shelf). code_of (body s)) (does_state begins) in
        does_then r (does_then (Ok y) begins (here does)) (subst (λ (c : ℕ). DoesItems tells (says 0 (last c) ∷ []) two new b m r) same says_code)

-- ---- loops

-- Some items were done, and these of all are left.
pub record SoFar (tells : Bool) (all left : List Item) (old now : Meaning Shelf) (n m : ℕ) : Type 0 where
  pub done : List Item
  pub whole : all ≡ done ++ left
  pub does : DoesItems {T = Unit {0}} tells done old now n m (Ok tt)

pub so_begins : (tells : Bool) (all : List Item) (old : Meaning Shelf) (n : ℕ) → SoFar tells all all old old n n
so_begins tells all old n = record { done = []; whole = refl; does = does_none old n tt }

module _ {tells : Bool} {all left : List Item} {old now : Meaning Shelf} {n m : ℕ} (so : SoFar tells all left old now n m) where
  pub so_further : {T : Type 0} (xs after : List Item) {new : Meaning Shelf} {k : ℕ} {x : T} → left ≡ xs ++ after → DoesItems tells xs now new m k (Ok x) → SoFar tells all after old new n k
  so_further xs after is does = record {
    done = so.done ++ xs;
    whole = so.whole ∙ ap (λ (l : List Item). so.done ++ l) is ∙ sym (append_assoc so.done xs after);
    does = does_then (Ok tt) so.does (does_with tt does);
  }

  whole_with : (xs after : List Item) → left ≡ xs ++ after → all ≡ so.done ++ (xs ++ after)
  whole_with xs after is = so.whole ∙ ap (λ (l : List Item). so.done ++ l) is

  pub so_stops : {T U : Type 0} (xs after : List Item) {new : Meaning Shelf} {k c : ℕ} {q : Result T Stop} (r : Result U Stop) → IsErr r → left ≡ xs ++ after → DoesItems tells xs now new m k q → DoesItems tells all old new n c r
  so_stops xs after {new = new} {c = c} r failed is does =
      subst (λ (l : List Item). DoesItems tells l old new n c r) (sym (whole_with xs after is)) (does_then r so.does (does_stopped after r failed does))

  pub so_last : {U : Type 0} {new : Meaning Shelf} {k : ℕ} (r : Result U Stop) → DoesItems tells left now new m k r → DoesItems tells all old new n k r
  so_last {new = new} {k = k} r does = subst (λ (l : List Item). DoesItems tells l old new n k r) (sym so.whole) (does_then r so.does does)

  pub so_ends : {U : Type 0} (x : U) → left ≡ [] → DoesItems tells all old now n m (Ok x)
  so_ends x none = so_last (Ok x) (subst (λ (l : List Item). DoesItems tells l now now m m (Ok x)) (sym none) (does_none now m x))
