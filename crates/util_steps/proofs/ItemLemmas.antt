-- The loop over items.
use Rattle.std.proofs.Common.{◌≡◌, ℕ, Bool, max, List, [], ◌∷◌, ◌++◌, length, refl, sym, ◌∙◌, ap, subst, arith, append_assoc, length-append}
use Rattle.std.proofs.lemmas.List.{append-nil}
use Rattle.std.specs.Prelude.{Some, None, Result, Ok, Err, IsErr}
use Rattle.stop_model.specs.Moments.{Meaning}
use Rattle.vol_model.specs.declared.answers.Stop.{Stop}
use Rattle.vol_model.specs.declared.contents.Shelf.{Shelf}
use Rattle.vol_model.specs.declared.requests.Op.{Op}
use Rattle.vol_model.specs.Calls.{counted}
use Rattle.vol_model.specs.Events.{Do, Event, Item, Say, code_of, events_in, events_of, operations_of}
use Rattle.vol_model.specs.Runs.{Counts, Runs}
use Rattle.vol_model.proofs.Stops.{HasRun, events_append, run_none, run_then, since_second}
use Rattle.vol_model.proofs.Working.{counted_twice}
use Rattle.util_steps.specs.Items.{DoesNext}

code_append : (xs : List Item) (item : Item) → code_of (xs ++ item ∷ []) ≡ max (code_of xs) item.code
code_append [] item = omega arith
code_append (x ∷ xs) item = ap (max x.code) (code_append xs item) ∙ max_assoc x.code (code_of xs) item.code
  where
    max_assoc : (a b c : ℕ) → max a (max b c) ≡ max (max a b) c
    max_assoc a b c = omega arith

operations_append : (es fs : List Event) → operations_of (es ++ fs) ≡ operations_of es ++ operations_of fs
operations_append [] fs = refl
operations_append (Do op ∷ es) fs = ap (λ (l : List Op). op ∷ l) (operations_append es fs)
operations_append (Say line ∷ es) fs = operations_append es fs

-- Some items were done, with this highest code, and these are to come.
pub record ItemsDone (tells : Bool) (all left : List Item) (code : ℕ) (old now : Meaning Shelf) (n m : ℕ) : Type 0 where
  pub done : List Item
  pub whole : all ≡ done ++ left
  pub run : HasRun tells (events_of done) old now
  pub highest : code ≡ code_of done
  pub count : m ≡ counted n (length (operations_of (events_of done)))

pub items_begin : (tells : Bool) (all : List Item) (old : Meaning Shelf) (n : ℕ) → ItemsDone tells all all 0 old old n n
items_begin tells all old n = record { done = []; whole = refl; run = run_none tells old; highest = refl; count = omega arith }

single : (item : Item) → events_of (item ∷ []) ≡ events_in item
single item = append-nil (events_in item)

module _ {tells : Bool} {all left : List Item} {code : ℕ} {old now new : Meaning Shelf} {n m k : ℕ} (so : ItemsDone tells all left code old now n m) where
  pub items_further : (after : List Item) (c highest : ℕ) → highest ≡ max code c → DoesNext tells left after now new m k (Ok (Some c)) → ItemsDone tells all after highest old new n k
  items_further after c highest is next =
      let item = next.0 in
      let runs = next.3 in
      let run : HasRun tells (events_in item) now new = record { state = runs.shelf; printed = runs.printed; moments = runs.moments } in
      let events : events_of (so.done ++ item ∷ []) ≡ events_of so.done ++ events_in item = events_append so.done (item ∷ []) ∙ ap (λ (es : List Event). events_of so.done ++ es) (single item) in
      record {
        done = so.done ++ item ∷ [];
        whole = so.whole ∙ ap (λ (l : List Item). so.done ++ l) next.1 ∙ sym (append_assoc so.done (item ∷ []) after);
        run = subst (λ (es : List Event). HasRun tells es old new) (sym events) (run_then so.run run);
        highest = is ∙ ap (λ (a : ℕ). max a c) so.highest ∙ ap (max (code_of so.done)) next.2 ∙ sym (code_append so.done item);
        count = next.4.count ∙ ap (λ (a : ℕ). counted a (length (operations_of (events_in item)))) so.count
            ∙ counted_twice n (length (operations_of (events_of so.done))) (length (operations_of (events_in item)))
            ∙ ap (counted n) (sym (length-append (operations_of (events_of so.done)) (operations_of (events_in item))) ∙ ap length (sym (operations_append (events_of so.done) (events_in item)) ∙ ap operations_of (sym events)));
      }

module _ {tells : Bool} {all left : List Item} {code : ℕ} {old now : Meaning Shelf} {n m : ℕ} (so : ItemsDone tells all left code old now n m) where
  pub items_stop : {new : Meaning Shelf} (k : ℕ) (after : List Item) (e : Stop) {T : Type 0} (q : Result T Stop) → IsErr q → DoesNext tells left after now new m k (Err e) → Runs tells (events_of all) old new q
  items_stop k after e (Ok x) failed next = let no : ⊥ = cc in absurd no
  items_stop {new = new} k after e {T = T} (Err f) failed next =
      let events : events_of all ≡ events_of so.done ++ events_of left = ap events_of so.whole ∙ events_append so.done left in
      subst (λ (es : List Event). Runs {T = T} {E = Stop} tells es old new (Err f)) (sym events) (record { shelf = tt; printed = tt; moments = since_second (events_of left) so.run next.moments })

  all_done : left ≡ [] → all ≡ so.done
  all_done none = so.whole ∙ ap (λ (l : List Item). so.done ++ l) none ∙ append-nil so.done

  pub items_run : {new : Meaning Shelf} (k : ℕ) (after : List Item) → DoesNext tells left after now new m k (Ok None) → Runs {T = ℕ} {E = Stop} tells (events_of all) old new (Ok code)
  items_run {new = new} k after next =
      let runs = next.1 in
      let run : HasRun tells (events_of so.done ++ []) old new = run_then so.run (record { state = runs.shelf; printed = runs.printed; moments = runs.moments }) in
      let same : events_of so.done ++ [] ≡ events_of all = append-nil (events_of so.done) ∙ ap events_of (sym (all_done next.0)) in
      let whole : HasRun tells (events_of all) old new = subst (λ (es : List Event). HasRun tells es old new) same run in
      record { shelf = whole.state; printed = whole.printed; moments = whole.moments }

  pub items_code : {new : Meaning Shelf} (k : ℕ) (after : List Item) → DoesNext tells left after now new m k (Ok None) → code ≡ code_of all
  items_code k after next = so.highest ∙ ap code_of (sym (all_done next.0))

  pub items_count : {new : Meaning Shelf} (k : ℕ) (after : List Item) → DoesNext tells left after now new m k (Ok None) → Counts {T = ℕ} {E = Stop} (events_of all) n k (Ok code)
  items_count k after next = record { count = next.2 ∙ so.count ∙ ap (λ (l : List Item). counted n (length (operations_of (events_of l)))) (sym (all_done next.0)) }
