-- What calls of a hall leave, one after another.
use Rattle.std.proofs.Common.{◌≡◌, ◌≢◌, ◌⊎◌, ⊎_elim, ℕ, ◌<◌, List, length, None, Some, refl, sym, ap, subst, ◌∙◌, arith}
use Rattle.std.specs.Prelude.{Result, Ok, Err, IfErr, IfOk, IsErrOf, IsTrue, Bool, Option, option_and_then}
use Rattle.ckd_image.specs.declared.header.Geometry.{Geometry}
use Rattle.ckd_image.specs.Header.{HasGeometry}
use Rattle.ckd_image.specs.Track.{Record}
use Rattle.hall_core.specs.Facts.{Attached, Facts, unit_of}
use Rattle.stop_model.specs.Counts.{Rose}
use Rattle.stop_model.specs.Files.{File}
use Rattle.stop_model.specs.Moments.{Meaning, Same}
use Rattle.pack_spec.specs.Label.{label_in, label_of, records_on, tracks_of}
use Rattle.pack_spec.specs.declared.MountErr.{MountErr}
use Rattle.pack_spec.specs.declared.MountErr.TheVariants.{Memory, Device, VtocTrack}
use Rattle.pack_spec.specs.declared.slot.VtocSlot.{VtocSlot}
use Rattle.vtoc_index.specs.Calls.{MountCall}
use Rattle.vtoc_index.specs.Index.{IsReason}
use Rattle.vtoc_index.specs.Reading.{AreNumbered, AreTracksRead, Refuses}
use Rattle.vtoc_index.specs.declared.tracks.ReadSlots.{ReadSlots}
use Rattle.track_records.specs.Buffers.{Buffer}
use Rattle.track_records.specs.Calls.{HasTrack}
use Rattle.track_records.specs.Reads.{IsBroken}
use Rattle.track_records.specs.Written.{StandsOn}
use Rattle.track_records.specs.declared.error.TrackErr.{TrackErr}
use Rattle.track_records.specs.declared.error.TrackErr.TheVariants as track_errors

-- a track that is reported broken has no records
pub broken_none : (image : List ℕ) (g : Geometry) (upto : Option ℕ) (track : ℕ) (e : TrackErr) (at : ℕ) → e ≡ track_errors.BadCount at → IsBroken image g upto track e → records_on image g upto track ≡ None
unfolding records_on
broken_none image g upto track (track_errors.BadCount at') at is broken = broken.0
broken_none image g upto track track_errors.Device at is broken = cc

-- the label, where its track is read or broken
pub label_read : (image : List ℕ) (g : Geometry) (records : List Record) → records_on image g (Some 3) 0 ≡ Some records → label_of image g ≡ label_in records
unfolding label_of
label_read image g records is = ap (option_and_then label_in) is

pub label_broken : (image : List ℕ) (g : Geometry) → records_on image g (Some 3) 0 ≡ None → label_of image g ≡ None
unfolding label_of
label_broken image g none = ap (option_and_then label_in) none

-- an answer that is seen otherwise
pub if_err : {T E : Type 0} {P Q : E → Type 0} (r : Result T E) → ((e : E) → P e → Q e) → IfErr r P → IfErr r Q
if_err (Ok x) weaker has = tt
if_err (Err e) weaker has = weaker e has

pub if_ok : {T E : Type 0} {P Q : T → Type 0} (r : Result T E) → ((x : T) → P x → Q x) → IfOk r P → IfOk r Q
if_ok (Ok x) weaker has = weaker x has
if_ok (Err e) weaker has = tt

-- the units of a hall have the track
pub has_track : (units units0 : List Attached) (unit track : ℕ) (g g0 : Geometry) → units ≡ units0 → g ≡ g0 → unit < length units0 → HasGeometry (unit_of units0 unit).size g0 → track < tracks_of g0 → HasTrack units unit g track
has_track units units0 unit track g g0 same alike attached whole inside =
    subst (λ u. HasTrack u unit g track) (sym same) (subst (λ x. HasTrack units0 unit x track) (sym alike) (record { attached = attached; whole = whole; inside = inside }))

-- an error that is known
pub refuses_at : {X T : Type 0} (given : Result X MountErr) (r : Result T MountErr) (e : MountErr) → r ≡ Err e → Refuses given e → IfErr r (Refuses given)
refuses_at given r e is refused = subst (λ x. IfErr x (Refuses given)) (sym is) refused

-- what holds of the error that a result is
pub err_at : {T E : Type 0} (r : Result T E) (P : E → Type 0) (e : E) → r ≡ Err e → P e → IfErr r P
err_at r P e is holds = subst (λ x. IfErr x P) (sym is) holds

pub reason_at : {T : Type 0} (image : List ℕ) (r : Result T MountErr) (e : MountErr) → r ≡ Err e → IsReason image e → IfErr r (IsReason image)
reason_at image r e is reason = subst (λ x. IfErr x (IsReason image)) (sym is) reason

-- what a hall tells is as it was
pub record FactsStay (old new : Facts) : Type 0 where
  pub units : new.units ≡ old.units
  pub references : new.references ≡ old.references
  pub prints : new.print_faults ≡ old.print_faults
  pub done : new.dev_faults ≡ old.dev_faults

pub stay_none : (f : Facts) → FactsStay f f
stay_none f = record { units = refl; references = refl; prints = refl; done = refl }

pub stay_more : {T : Type 0} (f0 f f' : Facts) (x : T) → FactsStay f0 f → MountCall f f' (Ok x) → FactsStay f0 f'
stay_more f0 f f' x before call = record {
  units = call.units ∙ before.units;
  references = call.references ∙ before.references;
  prints = call.prints ∙ before.prints;
  done = call.others (λ is. cc) ∙ before.done;
}

pub call_stays : {T : Type 0} (f0 f : Facts) (r : Result T MountErr) → FactsStay f0 f → ¬ IsErrOf r Device → MountCall f0 f r
call_stays f0 f r stay other = record {
  units = stay.units;
  references = stay.references;
  prints = stay.prints;
  later = omega (arith, stay.done);
  device = λ is. absurd (other is);
  others = λ _. stay.done;
}

pub call_done : {T : Type 0} (f0 f : Facts) (x : T) → FactsStay f0 f → MountCall f0 f (Ok x)
call_done f0 f x stay = record {
  units = stay.units;
  references = stay.references;
  prints = stay.prints;
  later = omega (arith, stay.done);
  device = λ is. cc;
  others = λ _. stay.done;
}

same_error : {T : Type 0} {e d : MountErr} {r : Result T MountErr} → r ≡ Err e → IsErrOf r d → e ≡ d
same_error is err = cc

pub not_device : {T : Type 0} {e : MountErr} {r : Result T MountErr} → r ≡ Err e → e ≢ Device → ¬ IsErrOf r Device
not_device is other err = other (same_error is err)

pub call_fails : {S T : Type 0} (f0 f f' : Facts) (e : MountErr) (r : Result T MountErr) → FactsStay f0 f → MountCall {T = S} f f' (Err e) → r ≡ Err e → MountCall f0 f' r
call_fails f0 f f' e r stay call is = record {
  units = call.units ∙ stay.units;
  references = call.references ∙ stay.references;
  prints = call.prints ∙ stay.prints;
  later = omega (arith, stay.done, call.later);
  device = λ err. subst (λ (n : ℕ). Rose n f'.dev_faults) stay.done (call.device (let same : e ≡ Device = same_error is err in ap Err same));
  others = λ other. call.others (λ err. other (is ∙ (let same : e ≡ Device = cc in ap Err same))) ∙ stay.done;
}

-- why a track is refused
pub track_reason : {X : Type 0} (given : Result X MountErr) (e other : MountErr) (track : ℕ) (slots : Option (List VtocSlot)) → (other ≡ Memory) ⊎ (other ≡ Device) → (e ≡ other) ⊎ ((e ≡ VtocTrack track) × (slots ≡ None)) → (slots ≡ None → given ≡ Err (VtocTrack track)) → Refuses given e
track_reason given e other track slots free why refused = record {
  why = λ memory device. ⊎_elim (λ is. absurd (⊎_elim (λ m. memory (is ∙ m)) (λ d. device (is ∙ d)) free)) (λ none. refused none.1 ∙ ap Err (sym none.0)) why;
}

-- what a read leaves of a buffer
pub record BufferRead (old new : Buffer) (unit track : ℕ) : Type 0 where
  pub geometry : new.geometry ≡ old.geometry
  pub unit_is : new.unit ≡ unit
  pub track_is : new.track ≡ track

pub buffer_read : (old new : Buffer) (unit track : ℕ) (records : List Record) → new ≡ record old { unit = unit; track = track; records = records } → BufferRead old new unit track
buffer_read old new unit track records is = record { geometry = ap (λ (b : Buffer). b.geometry) is; unit_is = ap (λ (b : Buffer). b.unit) is; track_is = ap (λ (b : Buffer). b.track) is }

-- the buffer holds a track that was read to its end
pub stands_whole : (image : List ℕ) (b : Buffer) (g : Geometry) (track : ℕ) → b.geometry ≡ g → b.track ≡ track → records_on image g None track ≡ Some b.records → StandsOn image b
stands_whole image b g track same at is = (None, ap (λ (x : Geometry). records_on image x None b.track) same ∙ ap (λ (t : ℕ). records_on image g None t) at ∙ is)

-- what a loop over tracks keeps
pub record KeepsReading (tells : Bool) (f0 f : Facts) (m0 m : Meaning (List File)) (image : List ℕ) (g : Geometry) (unit start len : ℕ) (b0 b : Buffer) (r0 r : ReadSlots) : Type 0 where
  pub facts : FactsStay f0 f
  pub told : IsTrue tells → Same m0 m
  pub geometry : b.geometry ≡ g
  pub unit_is : b.unit ≡ unit
  pub numbers : AreNumbered len r
  pub read : IsTrue tells → AreTracksRead image g start 1 r0 → AreTracksRead image g start len r
  pub stands : IsTrue tells → StandsOn image b0 → StandsOn image b
