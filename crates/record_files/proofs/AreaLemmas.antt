-- A library can be read after a member that is written to it.
use Rattle.std.proofs.Common.{◌≡◌, ℕ, Bool, true, false, List, [], ◌∷◌, ◌++◌, map, sym, subst}
use Rattle.std.specs.Prelude.{Option, Some, None, Result, Ok, Err, if◌then◌else◌}
use Rattle.std.specs.List.{list_all}
use Rattle.stop_model.specs.Moments.{Meaning}
use Rattle.vol_model.specs.declared.answers.Mode.TheVariants as modes
use Rattle.vol_model.specs.declared.contents.Block.{Block}
use Rattle.vol_model.specs.declared.contents.Shelf.{Shelf}
use Rattle.vol_model.specs.declared.refusals.Refusal.{Refusal}
use Rattle.vol_model.specs.declared.refusals.Refusal.TheVariants.{NoRoom}
use Rattle.vol_model.specs.declared.requests.Op.{Op}
use Rattle.vol_model.specs.Did.{Did, and_then, answered, because, on_answer, with_reason}
use Rattle.vol_model.specs.Events.{after_operations}
use Rattle.vol_model.specs.Places.{content}
use Rattle.vol_model.specs.Runs.{Works}
use Rattle.vol_model.specs.Shelf.{blocks_of, written as all_written}
use Rattle.vol_model.specs.Writing.{Making, Target, begin_refusal, begun, blocks_for, body_on, by_refusal, did_begin, did_puts, did_write, making_room, target_body, writes}
use Rattle.vol_model.proofs.Filling.{made, making_keeps}
use Rattle.vol_model.proofs.Working.{after_append, done_state, has_done}
use Rattle.util_steps.specs.declared.calls.Fault.{Fault}
use Rattle.util_steps.specs.declared.calls.Fault.TheVariants.{Refused, BadRecord}
use Rattle.util_steps.specs.declared.calls.SetRef.{SetRef}
use Rattle.util_steps.specs.Copying.{did_all, did_blocks, has_data, refusing, source, target, with_data}
use Rattle.record_files.specs.Writing.{Coming, all_but_last, appended, written}
use Rattle.record_files.proofs.KeepLemmas.{IsReadable, area_readable, read_all}

-- a fault after steps is no success
pub no_record : (s : Shelf) (x : Unit {0}) (d : Did (Unit {0}) Fault) → Ok x ≡ (and_then s d (λ (y : Unit {0}) u. answered {X = Unit {0}} (Err BadRecord))).answer → ⊥
unfolding and_then
no_record s x d at = by_answer d.answer at
  where
    by_answer : (a : Result (Unit {0}) Fault) → Ok x ≡ (on_answer s d.operations a (λ (y : Unit {0}) u. answered {X = Unit {0}} (Err BadRecord))).answer → ⊥
    by_answer (Ok y) e = cc
    by_answer (Err f) e = cc

-- ---- the library after an area

module _ (s : Shelf) (out : SetRef) (c : Coming) (x : Unit {0}) (is : IsReadable (body_on s out.v out.dsn.bytes)) where
  abbrev t : Target
  t = target out modes.Area

  abbrev blocks : Op
  blocks = writes t (blocks_for s t (map content c.blocks))

  abbrev making : Making
  making = making_room s t [] (all_written t.mode (target_body s t) (map content c.blocks))

  made_readable : IsReadable (body_on (made s making) out.v out.dsn.bytes)
  made_readable = subst IsReadable (sym ((making_keeps t (all_written t.mode (target_body s t) (map content c.blocks)) [] s).bodies out.v out.dsn.bytes)) is

  room_readable : (b : Bool) → Ok x ≡ because Refused (if b then (let d : Did (Unit {0}) Refusal = record { operations = making.extends ++ blocks ∷ []; answer = Ok tt } in d) else record { operations = making.extends; answer = Err NoRoom }).answer
      → IsReadable (body_on (after_operations s (if b then (let d : Did (Unit {0}) Refusal = record { operations = making.extends ++ blocks ∷ []; answer = Ok tt } in d) else record { operations = making.extends; answer = Err NoRoom }).operations) out.v out.dsn.bytes)
  room_readable true at =
      subst (λ (u : Shelf). IsReadable (body_on u out.v out.dsn.bytes)) (sym (after_append s making.extends (blocks ∷ [])))
      (area_readable (made s making) out.v out.dsn (blocks_for s t (map content c.blocks)) out.v out.dsn.bytes made_readable)
  room_readable false at = let never : ⊥ = cc in absurd never

  all_readable : Ok x ≡ (did_all s t c.blocks).answer → IsReadable (body_on (after_operations s (did_all s t c.blocks).operations) out.v out.dsn.bytes)
  unfolding did_all did_write with_reason
  all_readable at = by_data (list_all has_data c.blocks) at
    where
      by_data : (k : Bool) → Ok x ≡ (if k then refusing (did_write s t (map content c.blocks)) else and_then s (refusing (did_puts s (begun t) (map content (with_data c.blocks)))) (λ (y : Unit {0}) u. answered (Err BadRecord))).answer
          → IsReadable (body_on (after_operations s (if k then refusing (did_write s t (map content c.blocks)) else and_then s (refusing (did_puts s (begun t) (map content (with_data c.blocks)))) (λ (y : Unit {0}) u. answered (Err BadRecord))).operations) out.v out.dsn.bytes)
      by_data true e = room_readable making.all e
      by_data false e = absurd (no_record s x (refusing (did_puts s (begun t) (map content (with_data c.blocks)))) e)

  written_readable : Ok x ≡ (written s t c).answer → IsReadable (body_on (after_operations s (written s t c).operations) out.v out.dsn.bytes)
  unfolding written
  written_readable at = by_fault c.broken at
    where
      by_fault : (b : Bool) → Ok x ≡ (if b then and_then s (did_blocks s (begun t) (all_but_last c.blocks)) (λ (y : Unit {0}) u. answered (Err BadRecord)) else did_all s t c.blocks).answer
          → IsReadable (body_on (after_operations s (if b then and_then s (did_blocks s (begun t) (all_but_last c.blocks)) (λ (y : Unit {0}) u. answered (Err BadRecord)) else did_all s t c.blocks).operations) out.v out.dsn.bytes)
      by_fault true e = absurd (no_record s x (did_blocks s (begun t) (all_but_last c.blocks)) e)
      by_fault false e = all_readable e

  pub appended_readable : Ok x ≡ (appended s out modes.Area c).answer → IsReadable (body_on (after_operations s (appended s out modes.Area c).operations) out.v out.dsn.bytes)
  unfolding appended and_then did_begin with_reason
  appended_readable at = by_begin (begin_refusal s t) at
    where
      by_begin : (o : Option Refusal) → Ok x ≡ (on_answer s (by_refusal o).operations (because Refused (by_refusal o).answer) (λ (y : Unit {0}) u. written u t c)).answer
          → IsReadable (body_on (after_operations s (on_answer s (by_refusal o).operations (because Refused (by_refusal o).answer) (λ (y : Unit {0}) u. written u t c)).operations) out.v out.dsn.bytes)
      by_begin None e = written_readable e
      by_begin (Some r) e = let never : ⊥ = cc in absurd never

module _ (to : SetRef) (c : Coming) {tells : Bool} {old mid : Meaning Shelf} {m k : ℕ} (x : Unit {0}) (works : Works tells (appended old.state to modes.Area c) old mid m k (Ok (Ok x))) where
  -- the library can be read after it
  pub library_read : (obs : List Block) → source old.state to ≡ Ok obs → source mid.state to ≡ Ok (blocks_of (body_on mid.state to.v to.dsn.bytes))
  library_read obs there =
      subst (λ (u : Shelf). IsReadable (body_on u to.v to.dsn.bytes)) (sym (done_state (has_done works)))
      (appended_readable old.state to c x (read_all (body_on old.state to.v to.dsn.bytes) obs there) works.answer)
