-- The items of a step, case by case.
use Rattle.std.proofs.Common.{◌≡◌, ◌+◌, ℕ, zero, suc, Bool, List, ◌∷◌, ◌++◌, [], drop, map, take, refl, sym, ◌∙◌, ap, subst}
use Rattle.std.proofs.lemmas.List.{drop_more, take_more}
use Rattle.std.proofs.lemmas.Option.{get_or_from_slice_get, slice_get_within}
use Rattle.std.specs.Prelude.{slice_get, Option, Some, None, Result, Ok, Err, IsErr}
use Rattle.std.specs.Map.{lookup}
use Rattle.stop_model.specs.Moments.{Meaning}
use Rattle.vol_model.specs.declared.answers.Stop.{Stop}
use Rattle.vol_model.specs.declared.contents.Shelf.{Shelf}
use Rattle.vol_model.specs.declared.requests.Op.{Op}
use Rattle.vol_model.specs.Events.{Do, Item, Say, after_operations, events_in, events_of, operations_of}
use Rattle.vol_model.proofs.Stops.{since_first}
use Rattle.util_steps.specs.Items.{DoesItem, DoesNext}
use Rattle.util_syntax.specs.declared.step.StepIn.{StepIn}
use Rattle.util_syntax.specs.Items.{ItemView}
use Rattle.util_syntax.specs.Program.{no_dd_item, sysin}
use Rattle.util_syntax.specs.Step.{same_name}
use Rattle.output_files.specs.declared.outputs.Output.{Output}
use Rattle.output_files.specs.Outputs.{set_in, sysut1, sysut2}
use Rattle.iebgener_util.specs.declared.orders.Order.{Order}
use Rattle.iebgener_util.specs.declared.orders.State.TheVariants.{Begun}
use Rattle.iebgener_util.specs.Items.{iebgener_items, input_in, items_if, order_item, order_items, statements_if}
use Rattle.record_files.specs.Inputs.{InputView}
use Rattle.iebgener_util.specs.Orders.{orders_of}

-- ---- the DDs

module _ (step : StepIn) (shelf : Shelf) where
  abbrev by_dds : Option (List ItemView) → Option InputView → Option Output → List Item
  by_dds statements input out = items_if shelf step.card statements input out

  abbrev input_of : Option InputView
  input_of = input_in (lookup (same_name sysut1) step.dds)

  abbrev output_of : Option Output
  output_of = set_in (lookup (same_name sysut2) step.dds)

  module _ (statements : Option (List ItemView)) (one : statements ≡ statements_if (lookup (same_name sysin) step.dds)) where
    by_statements : by_dds statements input_of output_of ≡ iebgener_items step shelf
    unfolding iebgener_items
    by_statements = ap (λ (s : Option (List ItemView)). by_dds s input_of output_of) one

    -- SYSIN is neither cards nor DUMMY
    pub no_sysin : statements ≡ None → no_dd_item step.card sysin ∷ [] ≡ iebgener_items step shelf
    no_sysin none = sym (ap (λ (s : Option (List ItemView)). by_dds s input_of output_of) none) ∙ by_statements

    module _ (xs : List ItemView) (some : statements ≡ Some xs) where
      on_statements : by_dds (Some xs) input_of output_of ≡ iebgener_items step shelf
      on_statements = sym (ap (λ (s : Option (List ItemView)). by_dds s input_of output_of) some) ∙ by_statements

      -- SYSUT1 is missing
      pub no_input : None ≡ input_of → no_dd_item step.card sysut1 ∷ [] ≡ iebgener_items step shelf
      no_input none = ap (λ (i : Option InputView). by_dds (Some xs) i output_of) none ∙ on_statements

      -- SYSUT2 is missing
      pub no_output : (input : InputView) → Some input ≡ input_of → None ≡ output_of → no_dd_item step.card sysut2 ∷ [] ≡ iebgener_items step shelf
      no_output input is none = ap (λ (o : Option Output). by_dds (Some xs) (Some input) o) none ∙ ap (λ (i : Option InputView). by_dds (Some xs) i output_of) is ∙ on_statements

      -- all are there
      pub all_there : (input : InputView) (out : Output) → Some input ≡ input_of → Some out ≡ output_of → order_items input out [] shelf (orders_of step.card (Begun None) xs) ≡ iebgener_items step shelf
      all_there input out is at = ap (λ (o : Option Output). by_dds (Some xs) (Some input) o) at ∙ ap (λ (i : Option InputView). by_dds (Some xs) i output_of) is ∙ on_statements

-- ---- orders

operations_say : (lines : List (List ℕ)) → operations_of (map Say lines) ≡ []
operations_say [] = refl
operations_say (line ∷ lines) = operations_say lines

operations_in : (ops : List Op) (lines : List (List ℕ)) → operations_of (map Do ops ++ map Say lines) ≡ ops
operations_in [] lines = operations_say lines
operations_in (op ∷ ops) lines = ap (λ (l : List Op). op ∷ l) (operations_in ops lines)

-- the first order is done, or stopped
module _ (input : InputView) (out : Output) {tells : Bool} {old new : Meaning Shelf} {n m : ℕ} (before : List Order) (o : Order) (os : List Order) where
  pub order_done : (code : ℕ) → DoesItem tells (order_item old.state input out before o) old new n m (Ok code) → DoesNext tells (order_items input out before old.state (o ∷ os)) (order_items input out (before ++ o ∷ []) new.state os) old new n m (Ok (Some code))
  order_done code does =
      let item = order_item old.state input out before o in
      let at : new.state ≡ after_operations old.state item.operations = does.runs.shelf ∙ ap (after_operations old.state) (operations_in item.operations item.lines) in
      (item, ap (λ (s : Shelf). item ∷ order_items input out (before ++ o ∷ []) s os) (sym at), does.code, record { shelf = does.runs.shelf; printed = does.runs.printed; moments = does.runs.moments }, record { count = does.count.count })

  pub order_stopped : (after : List Item) {q : Result ℕ Stop} (r : Result (Option ℕ) Stop) → IsErr r → DoesItem tells (order_item old.state input out before o) old new n m q → DoesNext tells (order_items input out before old.state (o ∷ os)) after old new n m r
  order_stopped after (Ok code) failed does = let no : ⊥ = cc in absurd no
  order_stopped after (Err e) failed does =
      let item = order_item old.state input out before o in
      record { shelf = tt; printed = tt; moments = since_first (events_in item) (events_of (order_items input out (before ++ o ∷ []) (after_operations old.state item.operations) os)) does.runs.moments }

-- past the last order none is left
pub none_left : (os : List Order) (k : ℕ) → slice_get os k ≡ None → drop k os ≡ []
none_left [] zero is = refl
none_left [] (suc k) is = refl
none_left (o ∷ os) zero is = cc
none_left (o ∷ os) (suc k) is = none_left os k is

-- the orders from a place on, and those in front of the next
orders_left : (os : List Order) (k : ℕ) (o : Order) → slice_get os k ≡ Some o → drop k os ≡ o ∷ drop (k + 1) os
orders_left os k o is = drop_more os k o (slice_get_within os k o is) ∙ ap (λ (x : Order). x ∷ drop (k + 1) os) (get_or_from_slice_get os k o o is)

orders_done : (os : List Order) (k : ℕ) (o : Order) → slice_get os k ≡ Some o → take (k + 1) os ≡ take k os ++ o ∷ []
orders_done os k o is = take_more os k o (slice_get_within os k o is) ∙ ap (λ (x : Order). take k os ++ x ∷ []) (get_or_from_slice_get os k o o is)

module _ (input : InputView) (out : Output) (os : List Order) (k : ℕ) (o : Order) (is : slice_get os k ≡ Some o) {tells : Bool} {old new : Meaning Shelf} {n m : ℕ} where
  -- the order at a place is done
  pub order_next : (code : ℕ) → DoesItem tells (order_item old.state input out (take k os) o) old new n m (Ok code) → DoesNext tells (order_items input out (take k os) old.state (drop k os)) (order_items input out (take (k + 1) os) new.state (drop (k + 1) os)) old new n m (Ok (Some code))
  order_next code does =
      subst (λ (l : List Order). DoesNext tells (order_items input out (take k os) old.state l) (order_items input out (take (k + 1) os) new.state (drop (k + 1) os)) old new n m (Ok (Some code))) (sym (orders_left os k o is))
      (subst (λ (l : List Order). DoesNext tells (order_items input out (take k os) old.state (o ∷ drop (k + 1) os)) (order_items input out l new.state (drop (k + 1) os)) old new n m (Ok (Some code))) (sym (orders_done os k o is))
      (order_done input out (take k os) o (drop (k + 1) os) code does))

  -- or it is stopped
  pub order_left : (after : List Item) {q : Result ℕ Stop} (r : Result (Option ℕ) Stop) → IsErr r → DoesItem tells (order_item old.state input out (take k os) o) old new n m q → DoesNext tells (order_items input out (take k os) old.state (drop k os)) after old new n m r
  order_left after r failed does =
      subst (λ (l : List Order). DoesNext tells (order_items input out (take k os) old.state l) after old new n m r) (sym (orders_left os k o is))
      (order_stopped input out (take k os) o (drop (k + 1) os) after r failed does)
