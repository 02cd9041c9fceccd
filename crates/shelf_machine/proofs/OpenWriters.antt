-- What puts leave of the packs and the writer in any case, one after another.
use Rattle.std.proofs.Common.{◌≡◌, ◌≢◌, Bool, List, Some, true, refl, sym, ap, ◌∙◌}
use Rattle.std.specs.Prelude.{Err, IsErrOf, Ok, Result}
use Rattle.hall_core.specs.Facts.{Facts, ReportedCall}
use Rattle.stop_model.specs.Files.{File}
use Rattle.stop_model.specs.Moments.{Meaning}
use Rattle.mount_repair.proofs.DeviceCalls.{Unreported, reported_more, reported_none, unreported}
use Rattle.seq_access.specs.declared.writer.PutErr.{PutErr}
use Rattle.seq_access.specs.declared.writer.PutErr.TheVariants as put_err
use Rattle.vol_model.specs.Calls.{sound_after}
use Rattle.vol_model.specs.declared.answers.MachErr.{MachErr}
use Rattle.vol_model.specs.declared.answers.MachErr.TheVariants as mach
use Rattle.vol_model.specs.declared.answers.StoreErr.{StoreErr}
use Rattle.vol_model.specs.declared.answers.StoreErr.TheVariants as store
use Rattle.vol_model.specs.declared.contents.Place.{Place}
use Rattle.vol_model.specs.declared.refusals.Refusal.{Refusal}
use Rattle.vol_model.specs.declared.refusals.Refusal.TheVariants.{NoRoom}
use Rattle.vol_model.specs.declared.requests.Op.{Op}
use Rattle.pack_machine.specs.Ready.{reported}
use Rattle.pack_machine.specs.declared.pack.Pack.{Pack}
use Rattle.shelf_machine.specs.Machine.{AreIndexes, base_of}
use Rattle.shelf_machine.specs.OpenWriters.{HasWriter, KeepsWriter}
use Rattle.shelf_machine.specs.Pending.{HasSlot}
use Rattle.shelf_machine.specs.PutBlocks.{put_answer, room_answer}
use Rattle.shelf_machine.specs.ReadyPacks.{AreReady, LeavesPacks, vols_of}
use Rattle.shelf_machine.specs.declared.writer.Writer.{Writer}
use Rattle.shelf_machine.proofs.PutBlocks.{sound_put, still_sound}

-- one that is done has no error
no_error : {T : Type 0} (x : T) (e : MachErr) → IsErrOf {T = T} (Ok x) e → ⊥
no_error {T} x e is = absurd (let wrong : ◌≡◌ {A = Result T MachErr} (Ok x) (Err e) = is in cc)

-- the error of one is that of another
one_error : {T U : Type 0} (e d : MachErr) → IsErrOf {T = U} (Err e) d → IsErrOf {T = T} (Err e) d
one_error {T} {U} e d is = let same : e ≡ d = cc in ap (λ (x : MachErr). Err x) same

-- ---- the same of another type

pub keeps_done : {T U : Type 0} {tells : Bool} {f f' : Facts} {m' : Meaning (List File)} {packs packs' : List Pack} {w w' : Writer} {x : T} (y : U) → KeepsWriter tells f f' m' packs packs' w w' (Ok x) → KeepsWriter tells f f' m' packs packs' w w' (Ok y)
keeps_done {T} {U} {tells} {f} {f'} {m'} {packs} {packs'} {w} {w'} {x} y keeps = record {
  indexes = keeps.indexes;
  base = keeps.base;
  ready = λ sound. keeps.ready refl;
  slot = λ sound. keeps.slot refl;
  same = keeps.same;
  refused = λ r is. absurd (no_error y (mach.Refused r) is);
  memory = no_error y mach.Memory;
  print = no_error y mach.Print;
  faults = reported_more f f f' (unreported f) keeps.faults (λ is. absurd (no_error y mach.Device is)) (λ is. absurd (no_error x mach.Device is));
}

pub keeps_failed : {T U : Type 0} {tells : Bool} {f f' : Facts} {m' : Meaning (List File)} {packs packs' : List Pack} {w w' : Writer} {e : MachErr} → KeepsWriter {T = T} tells f f' m' packs packs' w w' (Err e) → KeepsWriter {T = U} tells f f' m' packs packs' w w' (Err e)
keeps_failed {T} {U} {tells} {f} {f'} {m'} {packs} {packs'} {w} {w'} {e} keeps = record {
  indexes = keeps.indexes;
  base = keeps.base;
  ready = λ sound. keeps.ready sound;
  slot = λ sound. keeps.slot sound;
  same = keeps.same;
  refused = λ r is. keeps.refused r (one_error {T = T} {U = U} e (mach.Refused r) is);
  memory = λ is. keeps.memory (one_error {T = T} {U = U} e mach.Memory is);
  print = λ is. keeps.print (one_error {T = T} {U = U} e mach.Print is);
  faults = reported_more f f f' (unreported f) keeps.faults (one_error {T = T} {U = U} e mach.Device) (one_error {T = U} {U = T} e mach.Device);
}

-- ---- one after another

-- nothing is done
pub keeps_none : {T : Type 0} {tells : Bool} {f : Facts} {m : Meaning (List File)} {packs : List Pack} {w : Writer} (x : T) → HasWriter tells f m packs w → KeepsWriter tells f f m packs packs w w (Ok x)
keeps_none {T} {tells} {f} {m} {packs} {w} x has = record {
  indexes = has.ready.indexes;
  base = refl;
  ready = λ sound. has.ready;
  slot = λ sound. has.slot;
  same = refl;
  refused = λ r is. absurd (no_error x (mach.Refused r) is);
  memory = no_error x mach.Memory;
  print = no_error x mach.Print;
  faults = reported_more f f f (unreported f) (unreported f) (no_error x mach.Device) (λ never. absurd never);
}

-- after a call that left these packs and this writer, and reported no fault
pub keeps_after : {T : Type 0} {tells : Bool} {f f1 f2 : Facts} {m2 : Meaning (List File)} {packs packs1 packs2 : List Pack} {w w1 w2 : Writer} {r : Result T MachErr} → base_of f1 (vols_of packs1) ≡ base_of f (vols_of packs) → w1 ≡ record w { inner = w1.inner }
    → Unreported f f1 → KeepsWriter tells f1 f2 m2 packs1 packs2 w1 w2 r → KeepsWriter tells f f2 m2 packs packs2 w w2 r
keeps_after {T} {tells} {f} {f1} {f2} {m2} {packs} {packs1} {packs2} {w} {w1} {w2} {r} base same call next = record {
  indexes = next.indexes;
  base = next.base ∙ base;
  ready = next.ready;
  slot = next.slot;
  same = next.same ∙ ap (λ (x : Writer). record x { inner = w2.inner }) same;
  refused = next.refused;
  memory = next.memory;
  print = next.print;
  faults = reported_more f f1 f2 call next.faults (λ is. is) (λ is. is);
}

pub keeps_then : {T U : Type 0} {tells : Bool} {f f1 f2 : Facts} {m1 m2 : Meaning (List File)} {packs packs1 packs2 : List Pack} {w w1 w2 : Writer} {x : T} {r : Result U MachErr} → KeepsWriter tells f f1 m1 packs packs1 w w1 (Ok x) → KeepsWriter tells f1 f2 m2 packs1 packs2 w1 w2 r
    → KeepsWriter tells f f2 m2 packs packs2 w w2 r
keeps_then {T} {U} {tells} {f} {f1} {f2} {m1} {m2} {packs} {packs1} {packs2} {w} {w1} {w2} {x} {r} first next =
    keeps_after first.base first.same (reported_none f f f1 (unreported f) first.faults (no_error x mach.Device)) next

-- ---- by a put on a track that is owned

put_refused : (r : Result Place PutErr) (q : Refusal) → IsErrOf (put_answer r) (mach.Refused q) → q ≡ NoRoom
put_refused (Ok place) q is = absurd (no_error place (mach.Refused q) is)
put_refused (Err put_err.TooLong) q is = let same : mach.Refused NoRoom ≡ mach.Refused q = cc in cc
put_refused (Err put_err.NeedExtent) q is = let same : mach.Refused NoRoom ≡ mach.Refused q = cc in cc
put_refused (Err put_err.Device) q is = absurd (let wrong : mach.Device ≡ mach.Refused q = cc in cc)

put_never : (r : Result Place PutErr) (e : MachErr) → mach.Device ≢ e → mach.Refused NoRoom ≢ e → IsErrOf (put_answer r) e → ⊥
put_never (Ok place) e device refused is = no_error place e is
put_never (Err put_err.TooLong) e device refused is = refused cc
put_never (Err put_err.NeedExtent) e device refused is = refused cc
put_never (Err put_err.Device) e device refused is = device cc

put_fails : (r : Result Place PutErr) → IsErrOf (put_answer r) mach.Device → IsErrOf r put_err.Device
put_fails (Ok place) is = absurd (no_error place mach.Device is)
put_fails (Err put_err.TooLong) is = absurd (let wrong : mach.Refused NoRoom ≡ mach.Device = cc in cc)
put_fails (Err put_err.NeedExtent) is = absurd (let wrong : mach.Refused NoRoom ≡ mach.Device = cc in cc)
put_fails (Err put_err.Device) is = refl

put_failed : (r : Result Place PutErr) → IsErrOf r put_err.Device → IsErrOf (put_answer r) mach.Device
put_failed r is = ap put_answer is

pub keeps_put : {tells : Bool} {f f' : Facts} {m' : Meaning (List File)} {packs packs' : List Pack} {w w' : Writer} (r : Result Place PutErr) → AreIndexes f'.units (vols_of packs') → base_of f' (vols_of packs') ≡ base_of f (vols_of packs)
    → (¬ IsErrOf r put_err.Device → AreReady tells f' m' packs') → HasSlot (vols_of packs') (Some w') → w' ≡ record w { inner = w'.inner } → ReportedCall (IsErrOf r put_err.Device) f f' → KeepsWriter tells f f' m' packs packs' w w' (put_answer r)
keeps_put {tells} {f} {f'} {m'} {packs} {packs'} {w} {w'} r indexes base ready slot same faults = record {
  indexes = indexes;
  base = base;
  ready = λ sound. ready (sound_put r sound);
  slot = λ sound. slot;
  same = same;
  refused = put_refused r;
  memory = put_never r mach.Memory (λ is. cc) (λ is. cc);
  print = put_never r mach.Print (λ is. cc) (λ is. cc);
  faults = reported_more f f f' (unreported f) faults (put_fails r) (put_failed r);
}

-- ---- by an extension that isn't done

room_refused : (e : StoreErr) (q : Refusal) → room_answer e ≡ mach.Refused q → q ≡ NoRoom
room_refused (store.Refused r) q is = cc
room_refused store.Memory q is = cc
room_refused store.Device q is = absurd cc

room_never : (e : StoreErr) (d : MachErr) → mach.Device ≢ d → mach.Refused NoRoom ≢ d → room_answer e ≡ d → ⊥
room_never (store.Refused r) d device refused is = refused is
room_never store.Memory d device refused is = refused is
room_never store.Device d device refused is = device is

room_fails : (e : StoreErr) → room_answer e ≡ mach.Device → e ≡ store.Device
room_fails (store.Refused r) is = absurd cc
room_fails store.Memory is = absurd cc
room_fails store.Device is = refl

-- the error itself
error_is : {T E : Type 0} (e d : E) → IsErrOf {T = T} (Err e) d → e ≡ d
error_is e d is = cc

pub keeps_room : {tells : Bool} {op : Op} {f f' : Facts} {m m' : Meaning (List File)} {packs packs' : List Pack} {w w' : Writer} (ran : Result (Unit {0}) StoreErr) (e : StoreErr) → ran ≡ Err e → LeavesPacks tells op f f' m m' packs packs' ran
    → (sound_after (reported ran) ≡ true → HasSlot (vols_of packs') (Some w')) → w' ≡ record w { inner = w'.inner } → KeepsWriter {T = Place} tells f f' m' packs packs' w w' (Err (room_answer e))
keeps_room {tells} {op} {f} {f'} {m} {m'} {packs} {packs'} {w} {w'} ran e is leaves slot same = record {
  indexes = leaves.indexes;
  base = leaves.base;
  ready = λ sound. leaves.ready (still_sound ran e (room_answer e) is refl sound);
  slot = λ sound. slot (still_sound ran e (room_answer e) is refl sound);
  same = same;
  refused = λ r answer. room_refused e r (error_is {T = Place} (room_answer e) (mach.Refused r) answer);
  memory = λ answer. room_never e mach.Memory (λ no. cc) (λ no. cc) (error_is {T = Place} (room_answer e) mach.Memory answer);
  print = λ answer. room_never e mach.Print (λ no. cc) (λ no. cc) (error_is {T = Place} (room_answer e) mach.Print answer);
  faults = reported_more f f f' (unreported f) leaves.faults
      (λ answer. is ∙ ap (λ (x : StoreErr). Err x) (room_fails e (error_is {T = Place} (room_answer e) mach.Device answer)))
      (λ failed. let device : e ≡ store.Device = error_is {T = Unit {0}} e store.Device (sym is ∙ failed) in ap (λ (x : StoreErr). Err (room_answer x)) device);
}
