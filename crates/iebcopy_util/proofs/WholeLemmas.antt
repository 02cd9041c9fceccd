-- Where a copy ends for want of memory: no writing is done in part.
use Rattle.std.proofs.Common.{◌≡◌, inl, inr, ℕ, Bool, true, false, List, [], ◌∷◌, ◌++◌, map, refl, sym, ◌∙◌, ap, subst, append_assoc}
use Rattle.std.specs.Prelude.{Option, Some, None, Result, Ok, Err, IsErr, IsErrAnd, IsErrOf, IsTrue, if◌then◌else◌}
use Rattle.std.specs.List.{list_all}
use Rattle.stop_model.specs.Moments.{IsDurable}
use Rattle.stop_model.proofs.MomentLemmas.{elapses_none}
use Rattle.vol_model.specs.declared.answers.Mode.TheVariants as modes
use Rattle.vol_model.specs.declared.answers.Stop.{Stop}
use Rattle.vol_model.specs.declared.answers.Stop.TheVariants.{Memory}
use Rattle.vol_model.specs.declared.machine.Machine.{Ghosts}
use Rattle.vol_model.specs.declared.contents.Block.{Block}
use Rattle.vol_model.specs.declared.contents.Shelf.{Shelf}
use Rattle.vol_model.specs.declared.refusals.Refusal.{Refusal}
use Rattle.vol_model.specs.declared.refusals.Refusal.TheVariants.{NoRoom}
use Rattle.vol_model.specs.declared.requests.Op.{Op}
use Rattle.vol_model.specs.Did.{Did, and_then, answered, because, on_answer, with_reason}
use Rattle.vol_model.specs.Events.{Do, Event, Item, Say, after_operations, events_in, events_of, operations_of}
use Rattle.vol_model.specs.Places.{content}
use Rattle.vol_model.specs.Shelf.{step, written}
use Rattle.vol_model.specs.Writing.{Making, Target, begin_refusal, begun, blocks_for, by_refusal, by_step, did_apply, did_begin, did_puts, did_write, making_room, target_body, writes}
use Rattle.vol_model.proofs.Working.{after_append, done_state, goes_on, has_done, works_broken}
use Rattle.util_steps.specs.declared.calls.Fault.TheVariants.{Refused, BadRecord}
use Rattle.util_steps.specs.declared.calls.SetRef.{SetRef}
use Rattle.util_steps.specs.Copying.{did_all, filled, has_data, refusing, target, with_data}
use Rattle.util_steps.specs.Taking.{IsReady, Reads, Takes}
use Rattle.util_steps.proofs.Taking.{call_unmade, takes_as, takes_ends, takes_none, takes_read, takes_stops, takes_then, takes_unread}
use Rattle.util_program.specs.Outcomes.{performed}
use Rattle.record_files.proofs.AreaLemmas.{no_record}
use Rattle.iebcopy_util.specs.Steps.{EndsWhole, HasPart, IsClosed, TakesWhole, is_extension}

pub closed_then : (xs ys : List Op) → IsClosed xs → IsClosed ys → IsClosed (xs ++ ys)
closed_then [] ys one two = two
closed_then (x ∷ []) [] one two = one
closed_then (x ∷ []) (y ∷ ys) one two = two
closed_then (x ∷ z ∷ xs) ys one two = closed_then (z ∷ xs) ys one two

closed_end : (xs : List Op) (op : Op) → is_extension op ≡ false → IsClosed (xs ++ op ∷ [])
closed_end [] op last = last
closed_end (x ∷ []) op last = last
closed_end (x ∷ z ∷ xs) op last = closed_end (z ∷ xs) op last

-- nothing was done
pub part_same : (ops : List Op) (old new : Shelf) → new ≡ old → HasPart ops old new
part_same ops old new same = record { done = []; left = ops; whole = refl; state = same; closed = tt }

-- a part of the first is one of all
pub part_first : (xs ys : List Op) (old new : Shelf) → HasPart xs old new → HasPart (xs ++ ys) old new
part_first xs ys old new part = record { done = part.done; left = part.left ++ ys; whole = ap (λ (l : List Op). l ++ ys) part.whole ∙ append_assoc part.done part.left ys; state = part.state; closed = part.closed }

-- and so is a part of the others, where the first were done
pub part_behind : (xs ys : List Op) (old new : Shelf) → IsClosed xs → HasPart ys (after_operations old xs) new → HasPart (xs ++ ys) old new
part_behind xs ys old new closed part = record {
  done = xs ++ part.done;
  left = part.left;
  whole = ap (λ (l : List Op). xs ++ l) part.whole ∙ sym (append_assoc xs part.done part.left);
  state = part.state ∙ sym (after_append old xs part.done);
  closed = closed_then xs part.done closed part.closed;
}

module _ {X Y E : Type 0} (s t : Shelf) (first : Did X E) (more : X → Shelf → Did Y E) where
  -- steps and more steps: the first were done
  pub part_then : (x : X) → Ok x ≡ first.answer → IsClosed first.operations → HasPart (more x (after_operations s first.operations)).operations (after_operations s first.operations) t → HasPart (and_then s first more).operations s t
  part_then x is closed part =
      subst (λ (d : Did Y E). HasPart d.operations s t) (sym (goes_on first more s x is)) (part_behind first.operations (more x (after_operations s first.operations)).operations s t closed part)

  -- the first were done in part
  pub part_stops : HasPart first.operations s t → HasPart (and_then s first more).operations s t
  unfolding and_then
  part_stops part = by_answer first.answer
    where
      by_answer : (a : Result X E) → HasPart (on_answer s first.operations a more).operations s t
      by_answer (Ok x) = part_first first.operations (more x (after_operations s first.operations)).operations s t part
      by_answer (Err e) = part

-- ---- blocks written as a whole

module _ (s : Shelf) (out : SetRef) (bs : List Block) (x : Unit {0}) where
  abbrev t : Target
  t = target out modes.Area

  abbrev blocks : Op
  blocks = writes t (blocks_for s t (map content bs))

  made_closed : (made : Making) (b : Bool) → Ok x ≡ because Refused (if b then (let d : Did (Unit {0}) Refusal = record { operations = made.extends ++ blocks ∷ []; answer = Ok tt } in d) else record { operations = made.extends; answer = Err NoRoom }).answer
      → IsClosed (if b then (let d : Did (Unit {0}) Refusal = record { operations = made.extends ++ blocks ∷ []; answer = Ok tt } in d) else record { operations = made.extends; answer = Err NoRoom }).operations
  made_closed made true is = closed_end made.extends blocks refl
  made_closed made false is = let never : ⊥ = cc in absurd never

  all_closed : Ok x ≡ (did_all s t bs).answer → IsClosed (did_all s t bs).operations
  unfolding did_all did_write with_reason
  all_closed is = by_data (list_all has_data bs) is
    where
      by_data : (k : Bool) → Ok x ≡ (if k then refusing (did_write s t (map content bs)) else and_then s (refusing (did_puts s (begun t) (map content (with_data bs)))) (λ (y : Unit {0}) u. answered (Err BadRecord))).answer
          → IsClosed (if k then refusing (did_write s t (map content bs)) else and_then s (refusing (did_puts s (begun t) (map content (with_data bs)))) (λ (y : Unit {0}) u. answered (Err BadRecord))).operations
      by_data true at = let made = making_room s t [] (written t.mode (target_body s t) (map content bs)) in made_closed made made.all at
      by_data false at = absurd (no_record s x (refusing (did_puts s (begun t) (map content (with_data bs)))) at)

  -- a writing that is done ends with its blocks
  pub filled_closed : Ok x ≡ (filled s out modes.Area bs).answer → IsClosed (filled s out modes.Area bs).operations
  unfolding filled and_then did_begin with_reason
  filled_closed is = by_begin (begin_refusal s t) is
    where
      by_begin : (o : Option Refusal) → Ok x ≡ (on_answer s (by_refusal o).operations (because Refused (by_refusal o).answer) (λ (y : Unit {0}) u. did_all u t bs)).answer
          → IsClosed (on_answer s (by_refusal o).operations (because Refused (by_refusal o).answer) (λ (y : Unit {0}) u. did_all u t bs)).operations
      by_begin None at = all_closed at
      by_begin (Some r) at = let never : ⊥ = cc in absurd never

-- so does one operation but for an extension
pub performed_closed : (s : Shelf) (op : Op) → is_extension op ≡ false → IsClosed (performed s op).operations
unfolding did_apply with_reason
performed_closed s op other = by_result (step s op)
  where
    by_result : (q : Result Shelf Refusal) → IsClosed (by_step op q).operations
    by_result (Ok after) = other
    by_result (Err r) = tt

-- ---- items

-- at the end of items
pub ends_now : (items : List Item) (s t : Shelf) → t ≡ s → EndsWhole items s t
ends_now [] s t same = same
ends_now (item ∷ items) s t same = inl (part_same item.operations s t same)

pub operations_append : (es fs : List Event) → operations_of (es ++ fs) ≡ operations_of es ++ operations_of fs
operations_append [] fs = refl
operations_append (Do op ∷ es) fs = ap (λ (l : List Op). op ∷ l) (operations_append es fs)
operations_append (Say line ∷ es) fs = operations_append es fs

operations_said : (lines : List (List ℕ)) → operations_of (map Say lines) ≡ []
operations_said [] = refl
operations_said (line ∷ lines) = operations_said lines

pub operations_in : (ops : List Op) (lines : List (List ℕ)) → operations_of (map Do ops ++ map Say lines) ≡ ops
operations_in [] lines = operations_said lines
operations_in (op ∷ ops) lines = ap (λ (l : List Op). op ∷ l) (operations_in ops lines)

-- the shelf after an item and others
pub after_item : (s : Shelf) (item : Item) (items : List Item) → after_operations s (operations_of (events_of (item ∷ items))) ≡ after_operations (after_operations s item.operations) (operations_of (events_of items))
after_item s item items =
    ap (after_operations s) (operations_append (events_in item) (events_of items) ∙ ap (λ (l : List Op). l ++ operations_of (events_of items)) (operations_in item.operations item.lines))
    ∙ after_append s item.operations (operations_of (events_of items))

-- in the first of items
pub ends_first : (xs ys : List Item) (s t : Shelf) → EndsWhole xs s t → EndsWhole (xs ++ ys) s t
ends_first [] ys s t same = ends_now ys s t same
ends_first (x ∷ xs) ys s t (inl here) = inl here
ends_first (x ∷ xs) ys s t (inr there) = inr (ends_first xs ys (after_operations s x.operations) t there)

-- in the items after others
pub ends_behind : (done left : List Item) (s t : Shelf) → EndsWhole left (after_operations s (operations_of (events_of done))) t → EndsWhole (done ++ left) s t
ends_behind [] left s t ends = ends
ends_behind (item ∷ done) left s t ends = inr (ends_behind done left (after_operations s item.operations) t (subst (λ (u : Shelf). EndsWhole left u t) (after_item s item done) ends))

-- ---- steps one after another

pub memory_of : {T U : Type 0} {e : Stop} (q : Result U Stop) → IsErrAnd q (λ f. f ≡ e) → IsErrOf q Memory → (let r : Result T Stop = Err e in r) ≡ Err Memory
memory_of (Ok x) same failed = absurd same
memory_of {e = e} (Err f) same failed = let is : e ≡ Memory = cc in ap Err is

no_memory : {T : Type 0} (x : T) → (let r : Result T Stop = Ok x in r) ≡ Err Memory → ⊥
no_memory x is = cc

module _ {X : Type 0} (g : Ghosts X) where
  -- steps that are not taken where memory runs out
  pub whole_kept : {A E : Type 0} {did : Shelf → Did A E} {old new : X} {r : Result (Result A E) Stop} → Takes g did old new r → (IsTrue g.tells → IsErrOf r Memory → (g.meaning new).state ≡ (g.meaning old).state) → TakesWhole g did old new r
  whole_kept {did = did} {old = old} {new = new} takes same = record { takes = takes; whole = λ told roomy failed. part_same (did (g.meaning old).state).operations (g.meaning old).state (g.meaning new).state (same told failed) }

  -- nor where memory runs out on a roomy machine
  pub whole_roomy : {A E : Type 0} {did : Shelf → Did A E} {old new : X} {r : Result (Result A E) Stop} → Takes g did old new r → (IsTrue g.tells → IsTrue g.roomy → IsErrOf r Memory → (g.meaning new).state ≡ (g.meaning old).state) → TakesWhole g did old new r
  whole_roomy {did = did} {old = old} {new = new} takes same = record { takes = takes; whole = λ told roomy failed. part_same (did (g.meaning old).state).operations (g.meaning old).state (g.meaning new).state (same told roomy failed) }

  -- steps that are answered
  pub whole_done : {A E : Type 0} {did : Shelf → Did A E} {old new : X} {r : Result A E} → Takes g did old new (Ok r) → TakesWhole g did old new (Ok r)
  whole_done {r = r} takes = record { takes = takes; whole = λ told roomy failed. absurd (no_memory r failed) }

  -- an answer without a call
  pub whole_none : {A E : Type 0} {machine : X} (r : Result A E) → IsReady g machine → TakesWhole g (λ shelf. answered r) machine machine (Ok r)
  whole_none r ready = whole_done (takes_none g r ready)

  -- no step, since memory ran out
  pub whole_unmade : {A E : Type 0} (did : Shelf → Did A E) {machine : X} (q : Result (Result A E) Stop) → IsErr q × IsErrAnd q (λ f. f ≡ Memory) → IsReady g machine → TakesWhole g did machine machine q
  whole_unmade did {machine = machine} q same ready = record {
    takes = record {
      works = λ told. works_broken (did (g.meaning machine).state) q same.0 (elapses_none (g.meaning machine) _);
      promise = λ told t known early kept. kept;
      faults = call_unmade g machine q same.1 ready;
    };
    whole = λ told roomy failed. part_same (did (g.meaning machine).state).operations (g.meaning machine).state (g.meaning machine).state refl;
  }

  -- steps by another definition
  pub whole_as : {A E : Type 0} {did whole : Shelf → Did A E} {old new : X} {r : Result (Result A E) Stop} → (IsTrue g.tells → whole (g.meaning old).state ≡ did (g.meaning old).state) → TakesWhole g did old new r → TakesWhole g whole old new r
  whole_as {A = A} {E = E} {old = old} {new = new} same one = record {
    takes = takes_as g same one.takes;
    whole = λ told roomy failed. subst (λ (d : Did A E). HasPart d.operations (g.meaning old).state (g.meaning new).state) (sym (same told)) (one.whole told roomy failed);
  }

  module _ {A B E : Type 0} (first : Shelf → Did A E) (more : A → Shelf → Did B E) where
    -- steps, and then those that know their answer
    pub whole_then : {old mid new : X} {x : A} {r : Result (Result B E) Stop} → (IsTrue g.tells → IsClosed (first (g.meaning old).state).operations) → Takes g first old mid (Ok (Ok x)) → TakesWhole g (more x) mid new r
        → TakesWhole g (λ shelf. and_then shelf (first shelf) more) old new r
    whole_then {old = old} {new = new} {x = x} closed one two = record {
      takes = takes_then g first more one two.takes;
      whole = λ told roomy failed.
          part_then (g.meaning old).state (g.meaning new).state (first (g.meaning old).state) more x (one.works told).answer (closed told)
          (subst (λ (u : Shelf). HasPart (more x u).operations u (g.meaning new).state) (done_state (has_done (one.works told))) (two.whole told roomy failed));
    }

    -- the first of them end with a reason
    pub whole_ends : {old new : X} {e : E} → Takes g first old new (Ok (Err e)) → TakesWhole g (λ shelf. and_then shelf (first shelf) more) old new (Ok (Err e))
    whole_ends one = whole_done (takes_ends g first more one)

    -- they are stopped
    pub whole_stops : {old new : X} {e : Stop} (q : Result (Result B E) Stop) → IsErr q × IsErrAnd q (λ f. f ≡ e) → TakesWhole g first old new (Err e) → TakesWhole g (λ shelf. and_then shelf (first shelf) more) old new q
    whole_stops {old = old} {new = new} q same one = record {
      takes = takes_stops g first more q same one.takes;
      whole = λ told roomy failed. part_stops (g.meaning old).state (g.meaning new).state (first (g.meaning old).state) more (one.whole told roomy (memory_of q same.1 failed));
    }

  module _ {T A E : Type 0} {Holds : Shelf → T → Type 0} {old mid : X} (durable : IsTrue g.tells → IsDurable (g.meaning old)) where
    -- steps after something was read, by what is known of that
    pub whole_read : {x : T} {did whole : Shelf → Did A E} {new : X} {r : Result (Result A E) Stop} → Reads g Holds old mid (Ok x) → (IsTrue g.tells → Holds (g.meaning old).state x → whole (g.meaning old).state ≡ did (g.meaning old).state)
        → TakesWhole g did mid new r → TakesWhole g whole old new r
    whole_read {did = did} {whole = whole} {new = new} one same two = record {
      takes = takes_read g durable one same two.takes;
      whole = λ told roomy failed.
          subst (λ (d : Did A E). HasPart d.operations (g.meaning old).state (g.meaning new).state) (sym (same told (one.value told)))
          (subst (λ (u : Shelf). HasPart (did u).operations u (g.meaning new).state) (one.same told).state (two.whole told roomy failed));
    }

    -- steps that are stopped while something is read
    pub whole_unread : {e : Stop} (whole : Shelf → Did A E) (q : Result (Result A E) Stop) → IsErr q × IsErrAnd q (λ f. f ≡ e) → Reads g Holds old mid (Err e) → TakesWhole g whole old mid q
    whole_unread whole q same one = whole_kept (takes_unread g whole q same durable one) (λ told failed. (one.same told).state)
