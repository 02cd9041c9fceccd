-- Items: their operations, the lines that answer them, and how they are done one after another.
use Rattle.std.proofs.Common.{◌≡◌, ℕ, Bool, List, [], ◌∷◌, ◌++◌, length, map, refl, sym, ◌∙◌, ap, subst, arith}
use Rattle.std.proofs.lemmas.List.{append-nil}
use Rattle.std.specs.Prelude.{Option, Some, None, Result, Ok, Err, IsErr}
use Rattle.stop_model.specs.Moments.{Meaning, Elapses, IsDurable, Same}
use Rattle.stop_model.proofs.MomentLemmas.{elapses_none}
use Rattle.vol_model.specs.declared.answers.Stop.{Stop}
use Rattle.vol_model.specs.declared.contents.Shelf.{Shelf}
use Rattle.vol_model.specs.declared.requests.Op.{Op}
use Rattle.vol_model.specs.Calls.{counted}
use Rattle.vol_model.specs.Did.{Did}
use Rattle.vol_model.specs.Events.{Do, Event, Item, Say, after_operations, events_in, events_of, operations_of}
use Rattle.vol_model.specs.Runs.{Runs, Works}
use Rattle.vol_model.proofs.Stops.{HasRun, StopsSince, run_none, run_then, since_first, since_second}
use Rattle.vol_model.proofs.Working.{has_done, idle_since, works_behind}
use Rattle.util_steps.specs.Items.{DoesItem, DoesNext, items_along}

-- an item of lines alone
abbrev pub lines_item : List (List ℕ) → ℕ → Item
lines_item lines code = record { operations = []; lines = lines; code = code }

-- its line is printed
pub report_ok : {T : Type 0} {tells : Bool} {line : List ℕ} {old new : Meaning Shelf} {x : T} {n m : ℕ} (code : ℕ) → Runs {T = T} {E = Stop} tells (Say line ∷ []) old new (Ok x) → m ≡ n → DoesItem tells (lines_item (line ∷ []) code) old new n m (Ok code)
report_ok code runs count = record { runs = record { shelf = runs.shelf; printed = runs.printed; moments = runs.moments }; code = refl; count = record { count = omega (arith, count) } }

-- an item that is stopped
pub item_broken : {tells : Bool} {item : Item} {old new : Meaning Shelf} {n m : ℕ} (r : Result ℕ Stop) → IsErr r → Elapses old new (StopsSince tells (events_in item) old) → DoesItem tells item old new n m r
item_broken (Ok code) failed time = let no : ⊥ = cc in absurd no
item_broken (Err e) failed time = record { runs = record { shelf = tt; printed = tt; moments = time }; code = tt; count = record { count = tt } }

-- nothing is done for an item
pub item_none : (tells : Bool) (item : Item) (m : Meaning Shelf) {n k : ℕ} (e : Stop) → DoesItem tells item m m n k (Err e)
item_none tells item m e = item_broken (Err e) refl (elapses_none m _)

-- its line isn't printed as a whole
pub report_failed : {T : Type 0} {tells : Bool} {line : List ℕ} {old new : Meaning Shelf} {result : Result T Stop} {n m : ℕ} (code : ℕ) (e : Stop) → Runs tells (Say line ∷ []) old new result → DoesItem tells (lines_item (line ∷ []) code) old new n m (Err e)
report_failed code e runs = item_broken (Err e) refl runs.moments

operations_say : (lines : List (List ℕ)) → operations_of (map Say lines) ≡ []
operations_say [] = refl
operations_say (line ∷ lines) = operations_say lines

operations_in : (ops : List Op) (lines : List (List ℕ)) → operations_of (map Do ops ++ map Say lines) ≡ ops
operations_in [] lines = operations_say lines
operations_in (op ∷ ops) lines = ap (λ (l : List Op). op ∷ l) (operations_in ops lines)

-- the item of steps and the lines that answer them
abbrev pub item_for : {X E : Type 0} → Did X E → List (List ℕ) → ℕ → Item
item_for did lines code = record { operations = did.operations; lines = lines; code = code }

module _ {X E : Type 0} {tells : Bool} (did : Did X E) (lines : List (List ℕ)) (code : ℕ) where
  -- the steps are done, and then the lines are printed
  pub item_after : {old mid new : Meaning Shelf} {n k m : ℕ} {answer : Result X E} (result : Result ℕ Stop) → Works tells did old mid n k (Ok answer) → DoesItem tells (lines_item lines code) mid new k m result → DoesItem tells (item_for did lines code) old new n m result
  item_after {n = n} {m = m} (Ok c) works said =
      let runs = said.runs in
      let run = run_then (has_done works).run (let second : HasRun tells (map Say lines) _ _ = record { state = runs.shelf; printed = runs.printed; moments = runs.moments } in second) in
      record {
        runs = record { shelf = run.state; printed = run.printed; moments = run.moments };
        code = said.code;
        count = record { count = said.count.count ∙ ap (counted _) (ap length (operations_say lines)) ∙ omega (arith, works.count) ∙ ap (λ (l : List Op). counted n (length l)) (sym (operations_in did.operations lines)) };
      }
  item_after (Err e) works said = item_broken (Err e) refl (since_second (map Say lines) (has_done works).run said.runs.moments)

  -- the steps are stopped, or no line is printed after them
  pub item_stopped : {old new : Meaning Shelf} {n m : ℕ} {answer : Result (Result X E) Stop} (r : Result ℕ Stop) → IsErr r → Works tells did old new n m answer → DoesItem tells (item_for did lines code) old new n m r
  item_stopped r failed works = item_broken r failed (since_first (map Do did.operations) (map Say lines) works.runs.moments)

single : (item : Item) → events_of (item ∷ []) ≡ events_in item
single item = append-nil (events_in item)

behind_item : (s : Shelf) (item : Item) → after_operations s (operations_of (events_in item)) ≡ after_operations s item.operations
behind_item s item = ap (after_operations s) (operations_in item.operations item.lines)

-- of tasks the first is done, or stopped
pub next_item : {X : Type 0} {tells : Bool} {old new : Meaning Shelf} {n m : ℕ} (item_of : Shelf → X → Item) (x : X) (xs : List X) (code : ℕ) → DoesItem tells (item_of old.state x) old new n m (Ok code)
    → DoesNext tells (items_along item_of old.state (x ∷ xs)) (items_along item_of new.state xs) old new n m (Ok (Some code))
next_item {old = old} {new = new} item_of x xs code does =
    let item = item_of old.state x in
    let at : new.state ≡ after_operations old.state item.operations = does.runs.shelf ∙ behind_item old.state item in
    (item, ap (λ (s : Shelf). item ∷ items_along item_of s xs) (sym at), does.code, record { shelf = does.runs.shelf; printed = does.runs.printed; moments = does.runs.moments }, record { count = does.count.count })

pub next_stopped : {X : Type 0} {tells : Bool} {old new : Meaning Shelf} {n m : ℕ} (item_of : Shelf → X → Item) (x : X) (xs : List X) (after : List Item) {q : Result ℕ Stop} (r : Result (Option ℕ) Stop) → IsErr r → DoesItem tells (item_of old.state x) old new n m q
    → DoesNext tells (items_along item_of old.state (x ∷ xs)) after old new n m r
next_stopped item_of x xs after (Ok code) failed does = let no : ⊥ = cc in absurd no
next_stopped {old = old} item_of x xs after (Err e) failed does =
    let item = item_of old.state x in
    record { shelf = tt; printed = tt; moments = since_first (events_in item) (events_of (items_along item_of (after_operations old.state item.operations) xs)) does.runs.moments }

-- no task is left
pub next_none : (tells : Bool) (m : Meaning Shelf) (n : ℕ) (left after : List Item) → left ≡ [] → DoesNext tells left after m m n n (Ok None)
next_none tells m n left after none = let run = run_none tells m in (none, record { shelf = run.state; printed = run.printed; moments = run.moments }, refl)

-- steps after which nothing but time went on before
module _ {old mid : Meaning Shelf} (same : Same old mid) (durable : IsDurable old) where
  idle_run : {tells : Bool} → HasRun tells [] old mid
  idle_run = record { state = same.state; printed = λ told. same.printed ∙ sym (append-nil old.printed); moments = idle_since same durable }

  pub works_later : {X E : Type 0} {tells : Bool} {new : Meaning Shelf} {n k m : ℕ} (did : Shelf → Did X E) (r : Result (Result X E) Stop) → k ≡ n → Works tells (did mid.state) mid new k m r → Works tells (did old.state) old new n m r
  works_later {tells = tells} {new = new} {n = n} {m = m} did r count works =
      subst (λ (s : Shelf). Works tells (did s) old new n m r) same.state (works_behind {ops = []} r (record { run = idle_run; count = omega (arith, count) }) works)

-- ---- lines

say_append : (xs ys : List (List ℕ)) → map Say (xs ++ ys) ≡ map Say xs ++ map Say ys
say_append [] ys = refl
say_append (x ∷ xs) ys = ap (λ (es : List Event). Say x ∷ es) (say_append xs ys)

-- Lines are printed, and nothing is done.
abbrev pub HasSaid : Bool → List (List ℕ) → Meaning Shelf → Meaning Shelf → Type 0
HasSaid tells lines old new = HasRun tells (map Say lines) old new

-- a stop leaves a part of them
abbrev pub StopsSaying : Bool → List (List ℕ) → Meaning Shelf → Meaning Shelf → Type 0
StopsSaying tells lines old new = Elapses old new (StopsSince tells (map Say lines) old)

pub said_state : {tells : Bool} (lines : List (List ℕ)) {old new : Meaning Shelf} → HasSaid tells lines old new → new.state ≡ old.state
said_state lines {old = old} said = said.state ∙ ap (after_operations old.state) (operations_say lines)

pub said_none : (tells : Bool) (m : Meaning Shelf) → HasSaid tells [] m m
said_none tells m = run_none tells m

pub said_then : {tells : Bool} (xs ys : List (List ℕ)) {old mid new : Meaning Shelf} → HasSaid tells xs old mid → HasSaid tells ys mid new → HasSaid tells (xs ++ ys) old new
said_then {tells = tells} xs ys {old = old} {new = new} first second = subst (λ (es : List Event). HasRun tells es old new) (sym (say_append xs ys)) (run_then first second)

pub stops_behind : {tells : Bool} (xs ys : List (List ℕ)) {old mid new : Meaning Shelf} → HasSaid tells xs old mid → StopsSaying tells ys mid new → StopsSaying tells (xs ++ ys) old new
stops_behind {tells = tells} xs ys {old = old} {new = new} first second = subst (λ (es : List Event). Elapses old new (StopsSince tells es old)) (sym (say_append xs ys)) (since_second (map Say ys) first second)

pub stops_before : {tells : Bool} (xs ys : List (List ℕ)) {old new : Meaning Shelf} → StopsSaying tells xs old new → StopsSaying tells (xs ++ ys) old new
stops_before {tells = tells} xs ys {old = old} {new = new} time = subst (λ (es : List Event). Elapses old new (StopsSince tells es old)) (sym (say_append xs ys)) (since_first (map Say xs) (map Say ys) time)

-- nothing but time goes on after lines
pub said_idle : {tells : Bool} (lines : List (List ℕ)) {old mid new : Meaning Shelf} → HasSaid tells lines old mid → Same mid new → IsDurable mid → HasSaid tells lines old new
said_idle {tells = tells} lines {old = old} {new = new} said same durable =
    subst (λ (es : List Event). HasRun tells es old new) (append-nil (map Say lines)) (run_then said (idle_run same durable))

pub stops_idle : (tells : Bool) (lines : List (List ℕ)) {old new : Meaning Shelf} → Same old new → IsDurable old → StopsSaying tells lines old new
stops_idle tells lines same durable = since_first [] (map Say lines) (idle_since same durable)

pub runs_said : {T : Type 0} {tells : Bool} (lines : List (List ℕ)) {old new : Meaning Shelf} (x : T) → HasSaid tells lines old new → Runs {T = T} {E = Stop} tells (map Say lines) old new (Ok x)
runs_said lines x said = record { shelf = said.state; printed = said.printed; moments = said.moments }

pub runs_unsaid : {T : Type 0} {tells : Bool} (lines : List (List ℕ)) {old new : Meaning Shelf} (r : Result T Stop) → IsErr r → StopsSaying tells lines old new → Runs tells (map Say lines) old new r
runs_unsaid lines (Ok x) failed time = let no : ⊥ = cc in absurd no
runs_unsaid lines (Err e) failed time = record { shelf = tt; printed = tt; moments = time }

pub has_said : {T : Type 0} {tells : Bool} (lines : List (List ℕ)) {old new : Meaning Shelf} {x : T} → Runs {T = T} {E = Stop} tells (map Say lines) old new (Ok x) → HasSaid tells lines old new
has_said lines runs = record { state = runs.shelf; printed = runs.printed; moments = runs.moments }
