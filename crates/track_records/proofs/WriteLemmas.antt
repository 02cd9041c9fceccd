-- A write to a track, as a write to the image.
use Rattle.std.proofs.Common.{true, false, ◌≡◌, ◌≤◌, ◌+◌, ◌*◌, ℕ, List, inl, inr, ⊎_elim, subst, arith}
use Rattle.std.proofs.Math.Nat.{mul-le-mul_left}
use Rattle.std.specs.Prelude.{Result, Ok, Err, IsErr, OnErr}
use Rattle.std.proofs.lemmas.Result.{IfOk-from_err}
use Rattle.ckd_image.specs.declared.header.Geometry.{Geometry}
use Rattle.ckd_image.specs.Device.{row_of}
use Rattle.hall_core.specs.Facts.{Attached, unit_of}
use Rattle.stop_model.specs.Files.{File, AfterWrite}
use Rattle.stop_model.specs.Moments.{Meaning}
use Rattle.track_records.specs.Calls.{HasTrack}

on_err : {T E : Type 0} (answer : Result T E) (P : Type 0) → P → OnErr answer P
on_err (Ok x) P here = tt
on_err (Err e) P here = here

-- a write that failed has failed, whatever its error is called
pub write_failed : {T E T' E' : Type 0} {name : List ℕ} {at : ℕ} {bytes : List ℕ} {old new : Meaning (List File)} {e : E} (answer : Result T' E') → IsErr answer → AfterWrite {T = T} {E = E} name at bytes old new (Err e) → AfterWrite name at bytes old new answer
write_failed answer failed write = record {
  printed = write.printed;
  done = IfOk-from_err answer _ failed;
  failed = on_err answer _ write.failed;
  pending = ⊎_elim (λ pending. inl pending) (λ nothing. inr (failed, nothing.1)) write.pending;
  ticks = IfOk-from_err answer _ failed;
  time = write.time;
}

never : false ≡ true → ⊥
never is = cc

-- and one that is done is done, whatever it gives
pub write_done : {T E T' E' : Type 0} {name : List ℕ} {at : ℕ} {bytes : List ℕ} {old new : Meaning (List File)} {x : T} (y : T') → AfterWrite {T = T} {E = E} name at bytes old new (Ok x) → AfterWrite {T = T'} {E = E'} name at bytes old new (Ok y)
write_done y write = record {
  printed = write.printed;
  done = write.done;
  failed = tt;
  pending = ⊎_elim (λ pending. inl pending) (λ nothing. absurd (never nothing.0)) write.pending;
  ticks = write.ticks;
  time = write.time;
}

-- a write of the same bytes to the same place
pub same_write : {T E : Type 0} {old new : Meaning (List File)} {result : Result T E} (name name' : List ℕ) (at at' : ℕ) (bytes bytes' : List ℕ) → name ≡ name' → at ≡ at' → bytes ≡ bytes' → AfterWrite name at bytes old new result → AfterWrite name' at' bytes' old new result
same_write {old = old} {new = new} {result = result} name name' at at' bytes bytes' names places contents write =
    subst (λ (n : List ℕ). AfterWrite n at' bytes' old new result) names
    (subst (λ (a : ℕ). AfterWrite name a bytes' old new result) places (subst (λ (b : List ℕ). AfterWrite name at b old new result) contents write))

-- a track of an image ends within the image
pub track_fits : (units : List Attached) (unit : ℕ) (g : Geometry) (track : ℕ) → HasTrack units unit g track → 512 + (track * g.track_size + g.track_size) ≤ (unit_of units unit).size
track_fits units unit g track has =
    let heads : ℕ = (row_of g.device).heads in
    let whole : g.track_size * (track + 1) ≤ g.track_size * (g.cylinders * heads) = mul-le-mul_left g.track_size (omega (arith, has.inside)) in
    omega (arith, whole, has.whole.whole)
