-- The block that is held back is put, or there is none.
use Rattle.std.proofs.Common.{◌≡◌, ℕ, Bool, true, false, List, [], ◌∷◌, ◌++◌, sym, subst}
use Rattle.std.specs.Prelude.{Option, Some, Result, Ok, Err, IsErr, unwrap_or}
use Rattle.stop_model.specs.Moments.{Meaning}
use Rattle.vol_model.specs.declared.answers.Stop.{Stop}
use Rattle.vol_model.specs.declared.contents.Place.{Place}
use Rattle.vol_model.specs.declared.contents.Shelf.{Shelf}
use Rattle.vol_model.specs.Places.{content}
use Rattle.vol_model.specs.Runs.{Works}
use Rattle.vol_model.specs.Writing.{OpenWriter, with_puts}
use Rattle.util_steps.specs.declared.calls.Fault.{Fault}
use Rattle.util_steps.specs.Copying.{did_block}
use Rattle.record_files.specs.Advancing.{Advanced, HasLast}
use Rattle.record_files.specs.RecordWriter.{held_if}
use Rattle.record_files.specs.Writing.{coming_of, data_block, did_output}
use Rattle.record_files.proofs.AdvanceLemmas.{advanced_none, one_fault, one_put, one_stops}

module _ {tells : Bool} (holds : Bool) (held : List ℕ) (more : List (List ℕ)) (broken : Bool) (w : OpenWriter) {old : Meaning Shelf} {n : ℕ} where
  -- no block is held back
  pub held_none : (p : Option Place) → holds ≡ false → Advanced tells (coming_of (held_if holds held ++ more) broken) (coming_of more broken) w w p p old old n n
  held_none p is = subst (λ (h : Bool). Advanced tells (coming_of (held_if h held ++ more) broken) (coming_of more broken) w w p p old old n n) (sym is) (advanced_none tells (coming_of more broken) w old n)

  module _ (last : HasLast broken more) (is : holds ≡ true) {new : Meaning Shelf} {m : ℕ} where
    -- it is put
    pub held_put : (v : OpenWriter) (p : Place) (start : Option Place) → Works tells (did_block old.state w (data_block held)) old new n m (Ok (Ok p)) → v ≡ with_puts w (content (data_block held) ∷ []) → Advanced tells (coming_of (held_if holds held ++ more) broken) (coming_of more broken) w v start (Some (unwrap_or start p)) old new n m
    held_put v p start works writes = subst (λ (h : Bool). Advanced tells (coming_of (held_if h held ++ more) broken) (coming_of more broken) w v start (Some (unwrap_or start p)) old new n m) (sym is) (one_put w held more broken last v p start works writes)

    -- it isn't
    pub held_fault : (e : Fault) → Works tells (did_block old.state w (data_block held)) old new n m (Ok (Err e)) → Works tells (did_output old.state w (coming_of (held_if holds held ++ more) broken)) old new n m (Ok (Err e))
    held_fault e works = subst (λ (h : Bool). Works tells (did_output old.state w (coming_of (held_if h held ++ more) broken)) old new n m (Ok (Err e))) (sym is) (one_fault w held more broken last e works)

    -- the run is stopped
    pub held_stops : (q : Result (Result Place Fault) Stop) (r : Result (Result (Unit {0}) Fault) Stop) → IsErr r → Works tells (did_block old.state w (data_block held)) old new n m q → Works tells (did_output old.state w (coming_of (held_if holds held ++ more) broken)) old new n m r
    held_stops q r failed works = subst (λ (h : Bool). Works tells (did_output old.state w (coming_of (held_if h held ++ more) broken)) old new n m r) (sym is) (one_stops w held more broken last q r failed works)
