-- A copy as a whole: emptied, filled, written and answered.
use Rattle.std.proofs.Common.{◌≡◌, ℕ, Bool, List, [], map, refl, sym, ◌∙◌, ap, subst}
use Rattle.std.specs.Prelude.{Option, Some, None, Result, Ok, Err, IsErr}
use Rattle.stop_model.specs.Moments.{Meaning, Same, IsDurable}
use Rattle.vol_model.specs.declared.answers.Mode.{Mode}
use Rattle.vol_model.specs.declared.answers.Stop.{Stop}
use Rattle.vol_model.specs.declared.contents.Attr.{Attr}
use Rattle.vol_model.specs.declared.contents.Block.{Block}
use Rattle.vol_model.specs.declared.contents.Shelf.{Shelf}
use Rattle.vol_model.specs.declared.refusals.Refusal.{Refusal}
use Rattle.vol_model.specs.declared.requests.Op.{Op}
use Rattle.vol_model.specs.declared.requests.Op.TheVariants.{Empty}
use Rattle.vol_model.specs.Did.{Did, and_then, because, with_reason}
use Rattle.vol_model.specs.Events.{after_operations, behind}
use Rattle.vol_model.specs.Places.{content}
use Rattle.vol_model.specs.Reading.{readable}
use Rattle.vol_model.specs.Runs.{Works}
use Rattle.vol_model.specs.Shelf.{step}
use Rattle.vol_model.specs.Writing.{OpenWriter, Target, begin_refusal, begun, by_refusal, by_step, did_apply, did_begin, did_commit, with_puts}
use Rattle.vol_model.proofs.Keeping.{emptying_keeps}
use Rattle.vol_model.proofs.Working.{done_state, has_done, works_ends, works_kept, works_stops, works_then}
use Rattle.util_steps.specs.declared.calls.Fault.{Fault}
use Rattle.util_steps.specs.declared.calls.Fault.TheVariants.{Refused}
use Rattle.util_steps.specs.declared.calls.SetRef.{SetRef}
use Rattle.util_steps.specs.Copying.{did_all, did_blocks, filled, refusing, source, target}
use Rattle.util_steps.specs.Steps.{AreApart}
use Rattle.util_steps.proofs.Blocks.{all_parts}

-- ---- written and closed

module _ {tells : Bool} (t : Target) (bs : List Block) where
  as_written : {old new : Meaning Shelf} {n m : ℕ} (r : Result (Result (Unit {0}) Fault) Stop) → Works tells (and_then old.state (did_blocks old.state (begun t) bs) (λ x u. refusing (did_commit u (with_puts (begun t) (map content bs))))) old new n m r → Works tells (did_all old.state t bs) old new n m r
  as_written {old = old} {new = new} {n = n} {m = m} r works = subst (λ (d : Did (Unit {0}) Fault). Works tells d old new n m r) (sym (all_parts old.state t bs)) works

  pub written_all : {old mid new : Meaning Shelf} {n k m : ℕ} (w v : OpenWriter) (x : Unit {0}) (r : Result (Result (Unit {0}) Fault) Stop) → w ≡ begun t → v ≡ with_puts w (map content bs)
      → Works tells (did_blocks old.state w bs) old mid n k (Ok (Ok x)) → Works tells (refusing (did_commit mid.state v)) mid new k m r → Works tells (did_all old.state t bs) old new n m r
  written_all {old = old} {mid = mid} {new = new} {n = n} {k = k} {m = m} w v x r is at puts commits =
      as_written r (works_then (did_blocks old.state (begun t) bs) (λ y u. refusing (did_commit u (with_puts (begun t) (map content bs)))) x r
      (subst (λ (z : OpenWriter). Works tells (did_blocks old.state z bs) old mid n k (Ok (Ok x))) is puts)
      (subst (λ (z : OpenWriter). Works tells (refusing (did_commit mid.state z)) mid new k m r) (at ∙ ap (λ (z : OpenWriter). with_puts z (map content bs)) is) commits))

  pub written_fault : {old mid new : Meaning Shelf} {n k m : ℕ} (w : OpenWriter) (e : Fault) → w ≡ begun t → Works tells (did_blocks old.state w bs) old mid n k (Ok (Err e)) → Same mid new → IsDurable mid → m ≡ k → Works tells (did_all old.state t bs) old new n m (Ok (Err e))
  written_fault {old = old} {mid = mid} {n = n} {k = k} w e is puts same durable count =
      works_kept (Err e) (as_written (Ok (Err e)) (works_ends (did_blocks old.state (begun t) bs) (λ y u. refusing (did_commit u (with_puts (begun t) (map content bs)))) e
      (subst (λ (z : OpenWriter). Works tells (did_blocks old.state z bs) old mid n k (Ok (Err e))) is puts))) same durable count

  pub written_stopped : {old mid : Meaning Shelf} {n k : ℕ} (w : OpenWriter) (q r : Result (Result (Unit {0}) Fault) Stop) → IsErr r → w ≡ begun t → Works tells (did_blocks old.state w bs) old mid n k q → Works tells (did_all old.state t bs) old mid n k r
  written_stopped {old = old} {mid = mid} {n = n} {k = k} w q r failed is puts =
      as_written r (works_stops (did_blocks old.state (begun t) bs) (λ y u. refusing (did_commit u (with_puts (begun t) (map content bs)))) q r failed
      (subst (λ (z : OpenWriter). Works tells (did_blocks old.state z bs) old mid n k q) is puts))

-- ---- what a step that is done leaves

begun_nothing : (s : Shelf) (t : Target) → (refusing (did_begin s t)).operations ≡ []
unfolding did_begin with_reason
begun_nothing s t = by_refused (begin_refusal s t)
  where
    by_refused : (o : Option Refusal) → (by_refusal o).operations ≡ []
    by_refused None = refl
    by_refused (Some r) = refl

pub begin_state : {tells : Bool} (t : Target) {old mid : Meaning Shelf} {n k : ℕ} (r : Result (Unit {0}) Fault) → Works tells (refusing (did_begin old.state t)) old mid n k (Ok r) → mid.state ≡ old.state
begin_state t {old = old} r works = done_state (has_done works) ∙ ap (after_operations old.state) (begun_nothing old.state t)

step_done : (s : Shelf) (op : Op) (x : Unit {0}) → Ok x ≡ (refusing (did_apply s op)).answer → step s op ≡ Ok (after_operations s (refusing (did_apply s op)).operations)
unfolding did_apply with_reason
step_done s op x is = by_result (step s op) refl is
  where
    by_result : (q : Result Shelf Refusal) → step s op ≡ q → Ok x ≡ because Refused (by_step op q).answer → q ≡ Ok (after_operations s (by_step op q).operations)
    by_result (Ok after) at is = ap Ok (sym (ap (behind s) at))
    by_result (Err r) at is = cc

pub apply_state : {tells : Bool} (op : Op) {old mid : Meaning Shelf} {n k : ℕ} (x : Unit {0}) → Works tells (refusing (did_apply old.state op)) old mid n k (Ok (Ok x)) → step old.state op ≡ Ok mid.state
apply_state op {old = old} x works = step_done old.state op x works.answer ∙ ap Ok (sym (done_state (has_done works)))

-- emptying another set keeps the blocks that are copied
pub source_kept : (s after : Shelf) (from to : SetRef) (attr : Attr) → AreApart to from → step s (Empty to.v to.dsn attr) ≡ Ok after → source after from ≡ source s from
source_kept s after from to attr apart done = ap readable (emptying_keeps s after to.v to.dsn attr from.v from.dsn.bytes apart done)

-- ---- filled

module _ {tells : Bool} (to : SetRef) (mode : Mode) (bs : List Block) {old mid : Meaning Shelf} {n k : ℕ} where
  pub filled_stopped : (q r : Result (Result (Unit {0}) Fault) Stop) → IsErr r → Works tells (refusing (did_begin old.state (target to mode))) old mid n k q → Works tells (filled old.state to mode bs) old mid n k r
  unfolding filled
  filled_stopped q r failed works = works_stops (refusing (did_begin old.state (target to mode))) (λ x u. did_all u (target to mode) bs) q r failed works

  pub filled_fault : (e : Fault) → Works tells (refusing (did_begin old.state (target to mode))) old mid n k (Ok (Err e)) → Works tells (filled old.state to mode bs) old mid n k (Ok (Err e))
  unfolding filled
  filled_fault e works = works_ends (refusing (did_begin old.state (target to mode))) (λ x u. did_all u (target to mode) bs) e works

  pub filled_all : {new : Meaning Shelf} {m : ℕ} (w : OpenWriter) (x : Unit {0}) (r : Result (Result (Unit {0}) Fault) Stop) → w ≡ begun (target to mode) → Works tells (refusing (did_begin old.state (target to mode))) old mid n k (Ok (Ok x)) → Works tells (did_all mid.state w.target bs) mid new k m r → Works tells (filled old.state to mode bs) old new n m r
  unfolding filled
  filled_all {new = new} {m = m} w x r is one two =
      works_then (refusing (did_begin old.state (target to mode))) (λ y u. did_all u (target to mode) bs) x r one (subst (λ (z : OpenWriter). Works tells (did_all mid.state z.target bs) mid new k m r) is two)
