-- What a machine answers, by what an operation on a pack answered.
use Rattle.std.proofs.Common.{◌≡◌, ℕ, Bool, true, false, List, Option, refl, sym, ap, subst, ◌∙◌, arith}
use Rattle.std.specs.Prelude.{◌&&◌, IsErrOf, Result, Ok, Err}
use Rattle.dadsm_ops.specs.Operations.{StoreCall}
use Rattle.hall_core.specs.Facts.{Facts}
use Rattle.stop_model.specs.Moments.{Meaning}
use Rattle.vol_model.specs.Calls.{Applies, IsIdle, MachineCall, sound_after}
use Rattle.vol_model.specs.declared.answers.MachErr.{MachErr}
use Rattle.vol_model.specs.declared.answers.MachErr.TheVariants as mach
use Rattle.vol_model.specs.declared.answers.StoreErr.{StoreErr}
use Rattle.vol_model.specs.declared.answers.StoreErr.TheVariants as store
use Rattle.vol_model.specs.declared.contents.Shelf.{Shelf}
use Rattle.vol_model.specs.declared.refusals.Refusal.{Refusal}
use Rattle.vol_model.specs.declared.requests.Op.{Op}
use Rattle.vtoc_index.specs.declared.vol.Vol.{Vol}
use Rattle.shelf_machine.specs.Machine.{base_of, is_open_in, status_with}
use Rattle.shelf_machine.specs.Reporting.{Reports}
use Rattle.pack_machine.specs.Ready.{reported}
use Rattle.shelf_machine.specs.declared.writer.Writer.{Writer}

-- no operation on a pack answers a fault of the printer
never_print : {T : Type 0} (ran : Result T StoreErr) → reported ran ≡ Err mach.Print → ⊥
never_print (Ok x) is = cc
never_print (Err (store.Refused r)) is = cc
never_print (Err store.Memory) is = cc
never_print (Err store.Device) is = cc

-- one of the device is one
device_of : {T : Type 0} (ran : Result T StoreErr) → reported ran ≡ Err mach.Device → ran ≡ Err store.Device
device_of (Ok x) is = absurd cc
device_of (Err (store.Refused r)) is = absurd cc
device_of (Err store.Memory) is = absurd cc
device_of (Err store.Device) is = refl

module _ {T : Type 0} {ran : Result T StoreErr} {result : Result T MachErr} {sound sound' : Bool} {done done' : ℕ} (reports : Reports ran sound sound' done done' result) where
  pub applies_reported : {op : Op} {old new : Meaning Shelf} → Applies op old new (reported ran) → Applies op old new result
  applies_reported {op} {old} {new} run = subst (λ (r : Result T MachErr). Applies op old new r) (sym reports.answer) run

  pub idle_reported : (stepped : Result Shelf Refusal) → IsIdle stepped result → IsIdle stepped (reported ran)
  idle_reported stepped idle = subst (λ (r : Result T MachErr). IsIdle stepped r) reports.answer idle

  pub not_print : IsErrOf result mach.Print → ⊥
  not_print is = never_print ran (sym reports.answer ∙ is)

  sound_same : sound ≡ true → sound' ≡ sound_after result
  sound_same is = reports.sound ∙ ap (λ (b : Bool). b && sound_after result) is

  -- where the machine is sound still, the device didn't fail
  pub still_sound : sound ≡ true → sound' ≡ true → sound_after (reported ran) ≡ true
  still_sound was is = ap sound_after (sym reports.answer) ∙ sym (sound_same was) ∙ is

  -- the calls of the operation are those of the machine
  pub machine_call : (old new : Facts) (vols vols' : List Vol) (writer writer' : Option Writer) → sound ≡ true → (sound_after result ≡ true → is_open_in writer' ≡ false) → base_of new vols' ≡ base_of old vols → StoreCall old new ran
      → MachineCall false (status_with sound writer done old vols) (status_with sound' writer' done' new vols') result
  machine_call old new vols vols' writer writer' was closed base call = record {
    base = base;
    sound = sound_same was;
    opened = λ still. closed still;
    devices = call.later;
    prints = omega (arith, call.prints);
    device = λ is. call.device (device_of ran (sym reports.answer ∙ is));
    print = λ is. absurd (not_print is);
    no_device = λ differs. call.others (λ is. differs (reports.answer ∙ ap reported is));
    no_print = λ differs. call.prints;
  }
