-- A member is written to a library, and its names are entered.
use Rattle.std.proofs.Common.{◌≡◌, ℕ, Bool, subst}
use Rattle.std.specs.Prelude.{Result, Ok, Err, IsErr}
use Rattle.stop_model.specs.Moments.{Meaning}
use Rattle.vol_model.specs.declared.answers.Mode.TheVariants as modes
use Rattle.vol_model.specs.declared.answers.Stop.{Stop}
use Rattle.vol_model.specs.declared.contents.Place.{Place}
use Rattle.vol_model.specs.declared.contents.Shelf.{Shelf}
use Rattle.vol_model.specs.Did.{Did}
use Rattle.vol_model.specs.Runs.{Works}
use Rattle.vol_model.proofs.Working.{works_ends, works_stops, works_then}
use Rattle.util_steps.specs.declared.calls.Fault.{Fault}
use Rattle.util_steps.specs.declared.calls.SetRef.{SetRef}
use Rattle.record_files.specs.Members.{member_start}
use Rattle.record_files.specs.Writing.{Coming, appended}
use Rattle.output_files.specs.Members.{MemberNames, did_enter, stored}

abbrev entering : Shelf → SetRef → MemberNames → Coming → Unit {0} → Shelf → Did (Unit {0}) Fault
entering s to n c x u = did_enter u to (member_start s u to c.blocks) n

module _ (to : SetRef) (n : MemberNames) (c : Coming) {tells : Bool} {old mid : Meaning Shelf} {m k : ℕ} where
  pub stored_stopped : (q r : Result (Result (Unit {0}) Fault) Stop) → IsErr r → Works tells (appended old.state to modes.Area c) old mid m k q → Works tells (stored old.state to n c) old mid m k r
  unfolding stored
  stored_stopped q r failed works = works_stops (appended old.state to modes.Area c) (entering old.state to n c) q r failed works

  pub stored_fault : (e : Fault) → Works tells (appended old.state to modes.Area c) old mid m k (Ok (Err e)) → Works tells (stored old.state to n c) old mid m k (Ok (Err e))
  unfolding stored
  stored_fault e works = works_ends (appended old.state to modes.Area c) (entering old.state to n c) e works

  -- the blocks are written, and the names follow
  module _ (x : Unit {0}) (works : Works tells (appended old.state to modes.Area c) old mid m k (Ok (Ok x))) where
    pub stored_all : {new : Meaning Shelf} {l : ℕ} (place : Place) (r : Result (Result (Unit {0}) Fault) Stop) → place ≡ member_start old.state mid.state to c.blocks → Works tells (did_enter mid.state to place n) mid new k l r → Works tells (stored old.state to n c) old new m l r
    unfolding stored
    stored_all {new = new} {l = l} place r at second =
        works_then (appended old.state to modes.Area c) (entering old.state to n c) x r works
        (subst (λ (p : Place). Works tells (did_enter mid.state to p n) mid new k l r) at second)
