-- What a machine answers of directories, by the libraries that it holds.
use Rattle.std.proofs.Common.{◌≡◌, false, List, [], Option, Some, None, sym, ap, subst, ◌∙◌, ◌≤◌, ⊎_elim, arith, ℕ, refl}
use Rattle.std.specs.Prelude.{◌⊎◌, IfErr, IfOk, IsErrOf, Result, Ok, Err}
use Rattle.hall_core.specs.Facts.{Attached}
use Rattle.stop_model.specs.Files.{File}
use Rattle.stop_model.specs.Moments.{Meaning, Same}
use Rattle.stop_model.specs.Steps.{seen}
use Rattle.stop_model.proofs.MomentLemmas.{CountsNow, elapses_none, same_none}
use Rattle.stop_model.specs.Counts.{Rose}
use Rattle.vol_model.specs.Calls.{Applies, CountsOne, Idles, Keeps, MachineCall, ReadCall, Status, sound_after}
use Rattle.vol_model.specs.declared.answers.MachErr.{MachErr}
use Rattle.vol_model.specs.declared.answers.MachErr.TheVariants as mach
use Rattle.vol_model.specs.declared.contents.Shelf.{Shelf}
use Rattle.vol_model.specs.declared.requests.Op.{Op}
use Rattle.vol_model.specs.declared.answers.ReadErr.{ReadErr}
use Rattle.vol_model.specs.declared.answers.ReadErr.TheVariants as errors
use Rattle.vol_model.specs.declared.contents.Body.{Body}
use Rattle.vol_model.specs.declared.contents.Entry.{Entry}
use Rattle.vol_model.specs.Reading.{Picks, directory_size, entries_in}
use Rattle.pack_machine.specs.Libraries.{HoldsLibrary, IsAnswered, IsHeld, entries_held, size_by, size_held}
use Rattle.shelf_machine.specs.Machine.{ByFiles, KeepsSafe, LeavesJust, shelf_under, units_of, writer_in}
use Rattle.shelf_machine.specs.Opening.{names_of}
use Rattle.mount_repair.specs.declared.library.Library.{Library}
use Rattle.shelf_machine.specs.declared.writer.Writer.{Writer}
use Rattle.vtoc_index.specs.declared.vol.Vol.{Vol}
use Rattle.shelf_machine.proofs.Pendings.{writer_same}
use Rattle.shelf_machine.proofs.Settling.{applies_behind, applies_failed}
use Rattle.shelf_machine.proofs.ReadMachines.{idles_read}

-- the size of a directory
pub size_is : (held : Result (Option ℕ) ReadErr) (body : Body) (libraries : ℕ → Option Library) → HoldsLibrary held body libraries → IsAnswered held → size_by held (λ at. size_held (libraries at)) ≡ directory_size body
size_is (Ok (Some at)) body libraries is answered = ap size_held is.1 ∙ sym (ap directory_size is.2)
size_is (Ok None) body libraries is answered = sym is.1
size_is (Err (errors.Unreadable t)) body libraries is answered = sym is.1
size_is (Err errors.Memory) body libraries is answered = absurd answered
size_is (Err errors.Device) body libraries is answered = absurd answered

-- what is answered is no fault of the device
pub answered_sound : (held : Result (Option ℕ) ReadErr) → IsAnswered held → ¬ IsErrOf held errors.Device
answered_sound (Ok b) answered is = absurd cc
answered_sound (Err (errors.Unreadable t)) answered is = absurd cc
answered_sound (Err errors.Memory) answered is = absurd answered
answered_sound (Err errors.Device) answered is = absurd answered

-- an entry of the library that is held
pub picks_entry : (r : Result (Option Entry) ReadErr) (body : Body) (library : Option Library) (pick : List Entry → Option Entry) → IsHeld library body
    → IfOk r (λ found. found ≡ pick (entries_held library)) → IfErr r (λ e. e ≡ errors.Memory) → Picks r (entries_in body) pick
picks_entry (Ok x) body library pick held is memory = subst (λ q. Picks (Ok x) q pick) (sym (ap entries_in held.2)) (is ∙ ap (λ (o : Option Library). pick (entries_held o)) held.1)
picks_entry (Err e) body library pick held is memory = subst (λ (x : ReadErr). Picks {X = Entry} {L = List Entry} (Err x) (entries_in body) pick) (sym memory) tt

-- none where there is none
pub picks_nothing : (body : Body) (libraries : ℕ → Option Library) (pick : List Entry → Option Entry) → HoldsLibrary (Ok None) body libraries → pick [] ≡ None → Picks (Ok None) (entries_in body) pick
picks_nothing body libraries pick none empty = subst (λ q. Picks (Ok None) q pick) (sym none.0) (sym empty)

-- and where it can't be read
pub picks_unread : (e : ReadErr) (body : Body) (libraries : ℕ → Option Library) (pick : List Entry → Option Entry) → HoldsLibrary (Err e) body libraries → Picks {X = Entry} {L = List Entry} (Err e) (entries_in body) pick
picks_unread (errors.Unreadable t) body libraries pick is = is.0
picks_unread errors.Memory body libraries pick is = tt
picks_unread errors.Device body libraries pick is = tt

-- the calls of a read, by another answer that has a fault of the device where it does
pub read_as : {T E S D : Type 0} (device : E) (r : Result T E) (fault : D) (s : Result S D) (old new : Status) → (IsErrOf s fault → IsErrOf r device) → (IsErrOf r device → IsErrOf s fault) → ReadCall device old new r → ReadCall fault old new s
read_as device r fault s old new from to call = record {
  base = call.base;
  opened = call.opened;
  done = call.done;
  prints = call.prints;
  devices = call.devices;
  failed = λ is. call.failed (from is);
  others = λ differs. call.others (λ is. differs (to is));
}

-- an error of one answer is that of another
pub err_as : {T S E : Type 0} (e x : E) → IsErrOf {T = T} (Err e) x → IsErrOf {T = S} (Err e) x
err_as e x is = let same : e ≡ x = cc in cc

-- a read after which the indexes are as they were
pub idles_through : (attached attached' : List Attached) → attached' ≡ attached → (vols vols' : List Vol) → vols' ≡ vols → (m m' : Meaning (List File)) → CountsNow m → Same m m' → (writer : Option Writer)
    → Idles (seen (shelf_under (names_of attached (units_of vols))) m) (seen (shelf_under (names_of attached' (units_of vols'))) m') (writer_in m.state attached vols writer) (writer_in m'.state attached' vols' writer)
    (ByFiles (KeepsSafe (names_of attached (units_of vols)) vols m)) (ByFiles (KeepsSafe (names_of attached' (units_of vols')) vols' m')) (LeavesJust m) (LeavesJust m')
idles_through attached attached' units vols vols' same m m' counts run writer =
    subst (λ (vs : List Vol). Idles (seen (shelf_under (names_of attached (units_of vols))) m) (seen (shelf_under (names_of attached' (units_of vs))) m') (writer_in m.state attached vols writer) (writer_in m'.state attached' vs writer)
    (ByFiles (KeepsSafe (names_of attached (units_of vols)) vols m)) (ByFiles (KeepsSafe (names_of attached' (units_of vs)) vs m')) (LeavesJust m) (LeavesJust m')) (sym same)
    (idles_read attached attached' (units_of vols) units vols m m' counts run (writer_same m.state m'.state attached attached' vols writer run.state units))

-- ---- an operation after a read

pub keeps_behind : {X : Type 0} {old mid : ℕ} {P Q R : ℕ → X → Type 0} → old ≤ mid → Keeps old P Q → Keeps mid Q R → Keeps old P R
keeps_behind {old = old} {mid = mid} later first second t x early was = second t x (omega (arith, early, later)) (first t x early was)

pub call_behind : {T S : Type 0} (a b c : Status) (x : T) (r : Result S MachErr) → ReadCall mach.Device a b (Ok x) → MachineCall false b c r → MachineCall false a c r
call_behind a b c x r first second =
    let none = first.others (λ is. absurd cc) in
    record {
      base = second.base ∙ first.base;
      sound = second.sound;
      opened = second.opened;
      devices = omega (arith, second.devices, first.devices);
      prints = omega (arith, second.prints, first.prints);
      device = λ is. subst (λ (n : ℕ). Rose n c.dev_faults) none.1 (second.device is);
      print = λ is. subst (λ (n : ℕ). Rose n c.print_faults) first.prints (second.print is);
      no_device = λ differs. second.no_device differs ∙ none.1;
      no_print = λ differs. second.no_print differs ∙ first.prints;
    }

-- the read failed, so nothing is done
module _ (e : MachErr) (why : (e ≡ mach.Memory) ⊎ (e ≡ mach.Device)) where
  pub stopped_count : (T : Type 0) (n n' : ℕ) → n' ≡ n → CountsOne {T = T} (Err e) n n'
  stopped_count T n n' same = ⊎_elim (λ is. subst (λ (x : MachErr). CountsOne {T = T} (Err x) n n') (sym is) same) (λ is. subst (λ (x : MachErr). CountsOne {T = T} (Err x) n n') (sym is) tt) why

  pub stopped_shelf : {T : Type 0} (op : Op) (old mid : Meaning Shelf) (durable : (s : Shelf) → old.left s → s ≡ old.state) → Same old mid → CountsNow mid → Applies {T = T} op old mid (Err e)
  stopped_shelf {T} op old mid durable same counts = ⊎_elim
      (λ is. subst (λ (x : MachErr). Applies {T = T} op old mid (Err x)) (sym is)
      (applies_behind op old mid durable same mid (Err mach.Memory) (record { answer = refl; idle = λ idle. same_none mid counts; printed = refl; moments = elapses_none mid _ })))
      (λ is. subst (λ (x : MachErr). Applies {T = T} op old mid (Err x)) (sym is) (applies_failed op old mid durable same)) why

  pub stopped_call : {T : Type 0} (a b : Status) → a.is_open ≡ false → ReadCall {T = T} mach.Device a b (Err e) → MachineCall {T = T} false a b (Err e)
  stopped_call {T} a b closed call = record {
    base = call.base;
    sound = ⊎_elim (λ is. (call.others (λ other. let wrong : ◌≡◌ {A = Result T MachErr} (Err mach.Memory) (Err mach.Device) = ap (λ (x : MachErr). Err x) (sym is) ∙ other in cc)).0 ∙ sym (ap (λ (x : MachErr). sound_after {T = T} (Err x)) is)) (λ is. (call.failed (ap (λ (x : MachErr). Err x) is)).0 ∙ sym (ap (λ (x : MachErr). sound_after {T = T} (Err x)) is)) why;
    opened = λ still. call.opened ∙ closed;
    devices = call.devices;
    prints = omega (arith, call.prints);
    device = λ is. (call.failed is).1;
    print = λ is. absurd (⊎_elim (λ memory. cc) (λ device. cc) why);
    no_device = λ differs. (call.others differs).1;
    no_print = λ differs. call.prints;
  }
