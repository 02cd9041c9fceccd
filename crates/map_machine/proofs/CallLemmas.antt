-- What the calls of a machine in memory leave.
use Rattle.std.proofs.Common.{◌≡◌, Bool, true, refl, arith}
use Rattle.std.specs.Prelude.{IsErrOf, Result, Ok, Err, is_some}
use Rattle.map_machine.specs.Held.{Held, meaning_in, status_in}
use Rattle.map_machine.proofs.PastLemmas.{same_held}
use Rattle.vol_model.specs.declared.answers.MachErr.{MachErr}
use Rattle.vol_model.specs.declared.answers.MachErr.TheVariants.{Refused, Memory, Device, Print}
use Rattle.vol_model.specs.Calls.{Idles, MachineCall, ReadCall, sound_after}
use Rattle.vol_model.specs.Writing.{OpenWriter}

-- all is as it was
pub idles : (held : Held) (w : OpenWriter) → Idles (meaning_in held) (meaning_in held) w w (λ t known. Unit {0}) (λ t known. Unit {0}) (λ t files. Unit {0}) (λ t files. Unit {0})
idles held w = record { same = same_held held held refl; writer = refl; promise_kept = λ t known early kept. tt; stays_kept = λ t files early kept. tt }

-- and no device failed
pub reads : {T E : Type 0} (device : E) (held : Held) (r : Result T E) → (IsErrOf r device → ⊥) → ReadCall device (status_in held) (status_in held) r
reads device held r never = record {
  base = refl;
  opened = refl;
  done = refl;
  prints = refl;
  devices = omega arith;
  failed = λ is. absurd (never is);
  others = λ fine. (refl, refl);
}

sound : {T : Type 0} (r : Result T MachErr) → (IsErrOf r Device → ⊥) → (IsErrOf r Print → ⊥) → true ≡ sound_after r
sound (Ok x) device print = refl
sound (Err (Refused r)) device print = refl
sound (Err Memory) device print = refl
sound (Err Device) device print = absurd (device refl)
sound (Err Print) device print = absurd (print refl)

-- a call that may open or close a writer
pub calls : {T : Type 0} (opens : Bool) (old new : Held) (r : Result T MachErr) → (IsErrOf r Device → ⊥) → (IsErrOf r Print → ⊥) → is_some new.writer ≡ opens → MachineCall opens (status_in old) (status_in new) r
calls opens old new r device print opened = record {
  base = refl;
  sound = sound r device print;
  opened = λ told. opened;
  devices = omega arith;
  prints = omega arith;
  device = λ is. absurd (device is);
  print = λ is. absurd (print is);
  no_device = λ fine. refl;
  no_print = λ fine. refl;
}
