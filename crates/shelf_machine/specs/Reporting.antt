-- What a machine makes of the answer of an operation on a volume.
use Rattle.std.specs.Prelude.{◌≡◌, ◌&&◌, ℕ, Bool, Result}
use Rattle.vol_model.specs.Calls.{CountsOne, sound_after}
use Rattle.vol_model.specs.declared.answers.MachErr.{MachErr}
use Rattle.vol_model.specs.declared.answers.StoreErr.{StoreErr}
use Rattle.pack_machine.specs.Ready.{reported}

-- It is answered so, counted where it was done, and ends the soundness of the machine where the device failed.
pub record Reports {T : Type 0} (ran : Result T StoreErr) (was is : Bool) (done done' : ℕ)
    (result : Result T MachErr) : Type 0 where
  pub answer : result ≡ reported ran
  pub sound : is ≡ (was && sound_after result)
  pub count : CountsOne result done done'
