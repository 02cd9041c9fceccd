-- What a machine leaves that opens a writer after a sync: nothing changes but the time.
use Rattle.std.proofs.Common.{◌≡◌, ⊎_elim, ℕ, true, false, List, Option, None, Result, Ok, Err, refl, sym, subst, arith}
use Rattle.std.specs.Prelude.{◌⊎◌, IfErr, IsErrOf}
use Rattle.hall_core.specs.Facts.{Attached, DeviceCall, Facts}
use Rattle.stop_model.specs.Files.{File}
use Rattle.stop_model.specs.Moments.{Meaning, Same}
use Rattle.stop_model.specs.Steps.{seen}
use Rattle.stop_model.proofs.MomentLemmas.{CountsNow}
use Rattle.vol_model.specs.Calls.{Keeps, MachineCall, Opens, open_at_ok, sound_after}
use Rattle.vol_model.specs.declared.answers.MachErr.{MachErr}
use Rattle.vol_model.specs.declared.answers.MachErr.TheVariants as mach
use Rattle.vol_model.specs.declared.refusals.Refusal.{Refusal}
use Rattle.vtoc_index.specs.declared.vol.Vol.{Vol}
use Rattle.shelf_machine.specs.Machine.{ByFiles, KeepsSafe, is_open_in, shelf_under, status_with}
use Rattle.shelf_machine.specs.Opening.{names_of}
use Rattle.shelf_machine.specs.Pending.{Settles}
use Rattle.shelf_machine.specs.declared.writer.Writer.{Writer}
use Rattle.shelf_machine.proofs.Machines.{by_files, printed_at}
use Rattle.shelf_machine.proofs.Settling.{base_called, keeps_time, same_settled}

module _ (attached attached' : List Attached) (numbers : List ℕ) (units : attached' ≡ attached) (vols : List Vol) (m m' : Meaning (List File)) where
  -- the shelf is the same
  pub same_at : {T E : Type 0} → ((j : List File) → m.left j → shelf_under (names_of attached numbers) j ≡ shelf_under (names_of attached numbers) m.state) → m.left m.state → m'.left m'.state → (r : Result T E) → Settles m m' r
      → Same (seen (shelf_under (names_of attached numbers)) m) (seen (shelf_under (names_of attached' numbers)) m')
  same_at durable here here' r s =
      subst (λ (us : List Attached). Same (seen (shelf_under (names_of attached numbers)) m) (seen (shelf_under (names_of us numbers)) m')) (sym units)
      (same_settled (shelf_under (names_of attached numbers)) m m' durable here here' r s)

  -- and what was promised is promised
  pub promise_at : {T E : Type 0} → CountsNow m → (r : Result T E) → Settles m m' r → Keeps m.clock (ByFiles (KeepsSafe (names_of attached numbers) vols m)) (ByFiles (KeepsSafe (names_of attached' numbers) vols m'))
  promise_at counts r s = by_files (printed_at attached attached' numbers units vols m m' (keeps_time counts s.time))

-- the device's calls are the machine's: done, whatever the machine answers but a fault, and failed
pub call_done : {T E U : Type 0} (old new : Facts) (vols : List Vol) (w w' : Option Writer) (n : ℕ) (x : T) (result : Result U MachErr) → DeviceCall {E = E} old new (Ok x) → sound_after result ≡ true → (IsErrOf result mach.Device → ⊥) → (IsErrOf result mach.Print → ⊥)
    → is_open_in w' ≡ open_at_ok result → MachineCall (open_at_ok result) (status_with true w n old vols) (status_with true w' n new vols) result
call_done old new vols w w' n x result call sound device print opened = record {
  base = base_called old new vols call.references call.units;
  sound = sym sound;
  opened = λ _. opened;
  devices = call.later;
  prints = omega (arith, call.prints);
  device = λ is. absurd (device is);
  print = λ is. absurd (print is);
  no_device = λ _. call.done;
  no_print = λ _. call.prints;
}

pub call_failed : {T E U : Type 0} (old new : Facts) (vols : List Vol) (w w' : Option Writer) (n : ℕ) (e : E) → DeviceCall {T = T} old new (Err e) → MachineCall {T = U} false (status_with true w n old vols) (status_with false w' n new vols) (Err mach.Device)
call_failed old new vols w w' n e call = record {
  base = base_called old new vols call.references call.units;
  sound = refl;
  opened = λ sound. absurd cc;
  devices = call.later;
  prints = omega (arith, call.prints);
  device = λ is. call.failed;
  print = λ is. absurd (let wrong = is in cc);
  no_device = λ none. absurd (none refl);
  no_print = λ _. call.prints;
}

-- what opens a writer that isn't refused stops for memory or the device alone
pub opens_well : {T : Type 0} (r : Result T MachErr) {refusal : Option Refusal} → refusal ≡ None → IfErr r (λ e. (e ≡ mach.Memory) ⊎ (e ≡ mach.Device)) → Opens r refusal
opens_well (Ok x) none error = none
opens_well (Err (mach.Refused why)) none error = absurd (⊎_elim (λ memory. let wrong : mach.Refused why ≡ mach.Memory = memory in cc) (λ device. let wrong : mach.Refused why ≡ mach.Device = device in cc) error)
opens_well (Err mach.Memory) none error = tt
opens_well (Err mach.Device) none error = tt
opens_well (Err mach.Print) none error = ⊎_elim (λ memory. let wrong : mach.Print ≡ mach.Memory = memory in cc) (λ device. let wrong : mach.Print ≡ mach.Device = device in cc) error
