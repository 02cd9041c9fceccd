-- How far the putting of blocks has come.
use Rattle.std.specs.Prelude.{◌≡◌, ℕ, Bool, true, false, List, [], ◌∷◌, ◌++◌, map, Option, Some, None, Result, Ok, Err}
use Rattle.stop_model.specs.Moments.{Meaning}
use Rattle.vol_model.specs.declared.answers.Stop.{Stop}
use Rattle.vol_model.specs.declared.contents.Block.{Block}
use Rattle.vol_model.specs.declared.contents.Place.{Place}
use Rattle.vol_model.specs.declared.contents.Shelf.{Shelf}
use Rattle.vol_model.specs.declared.requests.Op.{Op}
use Rattle.vol_model.specs.Did.{Did, behind_them}
use Rattle.vol_model.specs.Places.{Content, content}
use Rattle.vol_model.specs.Runs.{Works}
use Rattle.vol_model.specs.Shelf.{put_first}
use Rattle.vol_model.specs.Writing.{OpenWriter, Target, body_on, device_on, place_on, target_body, with_puts}
use Rattle.util_steps.specs.declared.calls.Fault.{Fault}
use Rattle.record_files.specs.Writing.{Coming, did_output}

-- these operations are done
abbrev pub done : List Op → Did (Unit {0}) Fault
done ops = record { operations = ops; answer = Ok tt }

-- the place of a content that is put by a writer
abbrev pub put_place : Shelf → OpenWriter → Content → Place
put_place shelf w c = place_on shelf w.target (put_first w.target.mode (target_body shelf w.target) ++ w.puts) c

-- where the first of contents is put by a writer that has just begun, if there is one
abbrev pub first_at : Shelf → Target → List Content → Option Place
first_at shelf t [] = None
first_at shelf t (c ∷ cs) = Some (place_on shelf t (put_first t.mode (target_body shelf t)) c)

-- where the first of the contents that were put by a writer is put, if one was
abbrev pub start_by : Shelf → OpenWriter → Option Place
start_by shelf w = first_at shelf w.target w.puts

-- where the first of blocks is put by a writer that has just begun
abbrev pub first_place_put : Shelf → Target → List Block → Option Place
first_place_put shelf t bs = first_at shelf t (map content bs)

-- Some of the blocks that were to come are put, and the others are still to come.
pub record Advanced (tells : Bool) (whole rest : Coming) (v w : OpenWriter) (before after : Option Place) (old now : Meaning Shelf) (n m : ℕ) : Type 0 where
  pub ops : List Op
  pub put : Works tells (done ops) old now n m (Ok (Ok tt))
  pub did : did_output old.state v whole ≡ behind_them ops (did_output now.state w rest)
  pub bodies : (v : ℕ) (name : List ℕ) → body_on now.state v name ≡ body_on old.state v name
  pub devices : (v : ℕ) → device_on now.state v ≡ device_on old.state v
  pub puts : with_puts w (map content rest.blocks) ≡ with_puts v (map content whole.blocks)
  pub start : before ≡ start_by old.state v → after ≡ start_by now.state w

-- what that says, by the answer
abbrev pub AdvancesBy : Bool → Coming → Coming → OpenWriter → OpenWriter → Option Place → Option Place → Meaning Shelf → Meaning Shelf → ℕ → ℕ → Result (Result (Unit {0}) Fault) Stop → Type 0
AdvancesBy tells whole rest v w before after old now n m (Ok (Ok x)) = Advanced tells whole rest v w before after old now n m
AdvancesBy tells whole rest v w before after old now n m (Ok (Err e)) = Works tells (did_output old.state v whole) old now n m (Ok (Err e))
AdvancesBy tells whole rest v w before after old now n m (Err e) = Works tells (did_output old.state v whole) old now n m (Err e)

-- A part of the work is done, or it ended the whole: by a fault, or because it was stopped.
pub record Advances (tells : Bool) (whole rest : Coming) (v w : OpenWriter) (before after : Option Place) (old now : Meaning Shelf) (n m : ℕ) (result : Result (Result (Unit {0}) Fault) Stop) : Type 0 where
  pub step : AdvancesBy tells whole rest v w before after old now n m result

-- where a fault ends blocks, there is a last one that isn't finished
abbrev pub HasLast : Bool → List (List ℕ) → Type 0
HasLast false blocks = Unit {0}
HasLast true [] = ⊥
HasLast true (b ∷ bs) = Unit {0}

-- the same result, whatever was answered
abbrev pub forgetting : {X : Type 0} → Result (Result X Fault) Stop → Result (Result (Unit {0}) Fault) Stop
forgetting (Ok (Ok x)) = Ok (Ok tt)
forgetting (Ok (Err e)) = Ok (Err e)
forgetting (Err e) = Err e

-- the place that was answered
abbrev pub start_in : Result (Result (Option Place) Fault) Stop → Option Place
start_in (Ok (Ok p)) = p
start_in _ = None
