-- An index with another buffer, and calls that differ in their count of faults alone.
use Rattle.std.proofs.Common.{◌≡◌, ◌⊎◌, ℕ, List, [], Option, refl, sym, ap, ◌∙◌, subst, arith}
use Rattle.std.specs.Prelude.{Ok}
use Rattle.ckd_image.specs.Track.{Record}
use Rattle.ckd_image.specs.declared.header.Geometry.{Geometry}
use Rattle.dscb_codec.specs.declared.F1.{F1}
use Rattle.hall_core.specs.Facts.{Attached, DeviceCall, Facts, ReportedCall}
use Rattle.pack_spec.specs.Label.{records_on}
use Rattle.track_records.specs.Buffers.{Buffer}
use Rattle.track_records.specs.Written.{StandsOn}
use Rattle.vtoc_index.specs.declared.vol.Vol.{Vol}
use Rattle.vtoc_index.specs.Index.{IsMounted, IsOfUnit}
use Rattle.vtoc_sets.specs.Sets.{IsSetIn}

-- the records of a track, by what is equal to its geometry
pub read_as : {g h : Geometry} (image : List ℕ) (u : Option ℕ) (t : ℕ) (o : Option (List Record)) → h ≡ g → records_on image h u t ≡ o → records_on image g u t ≡ o
read_as image u t o geometry is = ap (λ (x : Geometry). records_on image x u t) (sym geometry) ∙ is

-- an index with another buffer
pub mounted_with : (image : List ℕ) (v : Vol) (b : Buffer) → IsMounted image v → (b.records ≡ []) ⊎ StandsOn image b → IsMounted image (record v { buf = b })
mounted_with image v b m held = record {
  index = record {
    header = m.index.header;
    serial = m.index.serial;
    tracks = m.index.tracks;
    slots = m.index.slots;
    firsts = m.index.firsts;
    buffer = held;
  };
  vtoc = m.vtoc;
  lawful = m.lawful;
  whole = m.whole;
  free = m.free;
  volume = m.volume;
}

pub set_with : (image : List ℕ) (v : Vol) (b : Buffer) (f : F1) → IsSetIn image v f → IsMounted image (record v { buf = b }) → IsSetIn image (record v { buf = b }) f
set_with image v b f set m = record {
  set = record { mounted = m; extents = set.set.extents };
  slot = set.slot;
  dscb = set.dscb;
}

pub unit_with : (us us' : List Attached) (v : Vol) (b : Buffer) → us' ≡ us → b.geometry ≡ v.buf.geometry → b.unit ≡ v.unit → IsOfUnit us v → IsOfUnit us' (record v { buf = b })
unit_with us us' v b same geometry unit is =
    let P : List Attached → Type 0 = λ l. IsOfUnit l (record v { buf = b }) in
    subst P (sym same) (record {
      attached = is.attached;
      whole = is.whole;
      inside = is.inside;
      tracks = is.tracks;
      few = is.few;
      most = is.most;
      firsts = is.firsts;
      free = is.free;
      buffer = (geometry ∙ is.buffer.0, unit);
    })

-- ---- the count of faults

pub call_none : (f : Facts) → ReportedCall ⊥ f f
call_none f = record {
  units = refl;
  references = refl;
  prints = refl;
  later = omega arith;
  device = λ none. absurd none;
  others = λ _. refl;
}

-- a call of a device that is done
pub call_done : {T E : Type 0} {f1 f2 : Facts} {x : T} → DeviceCall {T = T} {E = E} f1 f2 (Ok x) → ReportedCall ⊥ f1 f2
call_done call = record {
  units = call.units;
  references = call.references;
  prints = call.prints;
  later = call.later;
  device = λ none. absurd none;
  others = λ _. call.done;
}

-- calls without a fault, and one more
pub call_then : {A : Type 0} (f0 f1 f2 : Facts) → ReportedCall ⊥ f0 f1 → ReportedCall A f1 f2 → ReportedCall A f0 f2
call_then f0 f1 f2 first second =
    let still : f1.dev_faults ≡ f0.dev_faults = first.others (λ none. none) in
    record {
      units = second.units ∙ first.units;
      references = second.references ∙ first.references;
      prints = second.prints ∙ first.prints;
      later = omega (arith, first.later, second.later);
      device = λ a. omega (arith, second.device a, still);
      others = λ none. second.others none ∙ still;
    }

pub call_as : {A B : Type 0} {old new : Facts} → ReportedCall A old new → (A → B) → (B → A) → ReportedCall B old new
call_as call to from = record {
  units = call.units;
  references = call.references;
  prints = call.prints;
  later = call.later;
  device = λ b. call.device (from b);
  others = λ none. call.others (λ a. none (to a));
}
