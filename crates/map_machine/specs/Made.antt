-- What making room leaves of a machine in memory.
use Rattle.std.specs.Prelude.{◌≡◌, ℕ, ◌≤◌, Bool, true, false, List, [], length, map, take, Result, Ok, Err}
use Rattle.std.specs.declared.alloc.AllocError.{AllocError}
use Rattle.stop_model.specs.Moments.{Elapses}
use Rattle.map_machine.specs.Held.{Held, meaning_in}
use Rattle.vol_model.specs.declared.answers.MachErr.TheVariants.{Refused, Memory}
use Rattle.vol_model.specs.declared.refusals.Refusal.{Refusal}
use Rattle.vol_model.specs.declared.requests.Op.{Op}
use Rattle.vol_model.specs.Calls.{Applies, counted}
use Rattle.vol_model.specs.Events.{Do, StopsIn, after_operations}
use Rattle.vol_model.specs.Writing.{Making}

-- An operation for an open writer, which stays: whether it was done, and not refused. Only memory may run out.
abbrev pub Extends : Op → Held → Held → Result Bool AllocError → Type 0
Extends op old new (Ok true) = Applies {T = Unit {0}} op (meaning_in old) (meaning_in new) (Ok tt) × (new.done ≡ counted old.done 1) × (new.writer ≡ old.writer)
Extends op old new (Ok false) = (r : Refusal) × Applies {T = Unit {0}} op (meaning_in old) (meaning_in new) (Err (Refused r)) × (new.done ≡ old.done) × (new.writer ≡ old.writer)
Extends op old new (Err e) = Applies {T = Unit {0}} op (meaning_in old) (meaning_in new) (Err Memory) × (new.done ≡ old.done) × (new.writer ≡ old.writer)

-- These operations were done, the first of some in whose course a stop may have come, and the writer stays.
pub record Came (way ops : List Op) (old new : Held) : Type 0 where
  pub state : new.now.shelf ≡ after_operations old.now.shelf ops
  pub count : new.done ≡ counted old.done (length ops)
  pub printed : new.now.text ≡ old.now.text
  pub writer : new.writer ≡ old.writer
  pub moments : Elapses (meaning_in old) (meaning_in new) (λ shelf p. StopsIn old.now.shelf (map Do way) shelf [] × (p ≡ old.now.text))

-- Room is made by extensions, and it is said whether there was room for all; where memory ran out, some of them are done.
abbrev pub MakesRoom : Making → Held → Held → Result Bool AllocError → Type 0
MakesRoom made old new (Ok b) = (b ≡ made.all) × Came made.extends made.extends old new
MakesRoom made old new (Err e) = (k : ℕ) × (k ≤ length made.extends) × Came made.extends (take k made.extends) old new
