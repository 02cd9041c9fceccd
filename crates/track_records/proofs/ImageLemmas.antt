-- The tracks of an image, as they are read and written.
use Rattle.std.proofs.Common.{Bool, true, false, ◌∷◌, ◌<◌, refl, ◌≡◌, ◌+◌, ◌*◌, ◌/◌, ◌%◌, ℕ, List, [], length, take, drop, Option, Some, sym, ap, ◌∙◌}
use Rattle.std.specs.Option.{option_map}
use Rattle.std.specs.Str.{bytes_eq}
use Rattle.std.proofs.lemmas.Bool.{cond-true, cond-false}
use Rattle.hall_core.specs.Facts.{Facts, Attached, unit_of}
use Rattle.std.specs.Prelude.{unwrap_or, Result, Ok, Err, IfOk}
use Rattle.ckd_image.specs.Reading.{records_of}
use Rattle.ckd_image.specs.declared.header.Geometry.{Geometry}
use Rattle.stop_model.specs.Files.{File, file_of, patched, written, HasBytesAt}
use Rattle.hall_core.specs.Images.{image_of, AreWhole}
use Rattle.pack_spec.specs.Label.{heads_of, records_on, track_bytes}
use Rattle.track_records.specs.Buffers.{records_at}

-- the bytes that were read where a track stands are the track's
pub track_read : (files : List File) (name : List ℕ) (g : Geometry) (track at : ℕ) (bytes : List ℕ) → HasBytesAt files name at bytes → length bytes ≡ g.track_size → at ≡ 512 + track * g.track_size → bytes ≡ track_bytes (unwrap_or (file_of files name) []) g track
unfolding track_bytes
track_read files name g track at bytes has size place =
    has.2 ∙ ap (λ (n : ℕ). take n (drop at has.0)) size ∙ ap (λ (n : ℕ). take g.track_size (drop n has.0)) place ∙ ap (λ o. take g.track_size (drop (512 + track * g.track_size) (unwrap_or o []))) (sym has.1)

-- the records that stand in a track's bytes are those on the image
pub records_read : {T E : Type 0} (image bytes held places : List ℕ) (g far : Geometry) (c h track : ℕ) (u : Option ℕ) (result : Result T E) → g ≡ far → c ≡ track / heads_of g → h ≡ track % heads_of g → bytes ≡ held → held ≡ track_bytes image g track
    → IfOk result (λ _. records_of c h u bytes ≡ Some (records_at bytes places)) → IfOk result (λ _. records_on image far u track ≡ Some (records_at held places))
unfolding records_on
records_read image bytes held places g far c h track u (Err e) geometry cylinder head same is found = tt
records_read image bytes held places g far c h track u (Ok x) geometry cylinder head same is found =
    ap (λ (y : Geometry). records_of (track / heads_of y) (track % heads_of y) u (track_bytes image y track)) (sym geometry) ∙ sym (ap (λ (n : ℕ). records_of n h u bytes) cylinder ∙ ap (λ (n : ℕ). records_of (track / heads_of g) n u bytes) head ∙ ap (λ (b : List ℕ). records_of (track / heads_of g) (track % heads_of g) u b) (same ∙ is))
    ∙ found ∙ ap (λ (b : List ℕ). Some (records_at b places)) same

-- the file that bytes were written over
file_written : (files : List File) (name : List ℕ) (at : ℕ) (bytes image : List ℕ) → file_of files name ≡ Some image → file_of (written files name at bytes) name ≡ Some (patched image at bytes)
unfolding written
file_written [] name at bytes image is = cc
file_written (f ∷ files) name at bytes image is = here (bytes_eq f.name name) refl (λ found. file_written files name at bytes image found)
  where
    here : (same : Bool) → bytes_eq f.name name ≡ same → (file_of files name ≡ Some image → file_of (written files name at bytes) name ≡ Some (patched image at bytes)) → file_of (written (f ∷ files) name at bytes) name ≡ Some (patched image at bytes)
    here true same behind =
        ap (λ (l : List File). file_of l name) (cond-true (bytes_eq f.name name) (record f { bytes = patched f.bytes at bytes } ∷ files) (f ∷ written files name at bytes) same)
        ∙ cond-true (bytes_eq f.name name) (Some (patched f.bytes at bytes)) (file_of files name) same
        ∙ ap (λ (o : Option (List ℕ)). option_map (λ (b : List ℕ). patched b at bytes) o) (sym (cond-true (bytes_eq f.name name) (Some f.bytes) (file_of files name) same) ∙ is)
    here false same behind =
        ap (λ (l : List File). file_of l name) (cond-false (bytes_eq f.name name) (record f { bytes = patched f.bytes at bytes } ∷ files) (f ∷ written files name at bytes) same)
        ∙ cond-false (bytes_eq f.name name) (Some f.bytes) (file_of (written files name at bytes) name) same
        ∙ behind (sym (cond-false (bytes_eq f.name name) (Some f.bytes) (file_of files name) same) ∙ is)

-- A unit whose file bytes were written over.
pub record UnitWritten (files files' : List File) (old new : Facts) (unit at : ℕ) (bytes : List ℕ) : Type 0 where
  pub image : image_of files' new unit ≡ patched (image_of files old unit) at bytes
  pub size : length (image_of files old unit) ≡ (unit_of old.units unit).size

pub unit_written : (files files' : List File) (old new : Facts) (unit at : ℕ) (bytes : List ℕ) → AreWhole files old.units → unit < length old.units → new.units ≡ old.units → files' ≡ written files (unit_of old.units unit).name at bytes → UnitWritten files files' old new unit at bytes
unit_written files files' old new unit at bytes whole attached units is =
    let name : List ℕ = (unit_of old.units unit).name in
    let w = whole unit attached in
    record {
      image =
          ap (λ (us : List Attached). unwrap_or (file_of files' (unit_of us unit).name) []) units
          ∙ ap (λ (fs : List File). unwrap_or (file_of fs name) []) is
          ∙ ap (λ (o : Option (List ℕ)). unwrap_or o []) (file_written files name at bytes w.0 w.1)
          ∙ sym (ap (λ (o : Option (List ℕ)). patched (unwrap_or o []) at bytes) w.1);
      size = ap (λ (o : Option (List ℕ)). length (unwrap_or o [])) w.1 ∙ w.2;
    }
