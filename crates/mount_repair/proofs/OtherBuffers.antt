-- After a call that changes the buffer of an index alone.
use Rattle.std.proofs.Common.{◌≡◌, ℕ, List, sym, ap, subst, ◌∙◌}
use Rattle.dscb_codec.specs.declared.F1.{F1}
use Rattle.free_rebuild.specs.Repairs.{image_named}
use Rattle.hall_core.specs.Facts.{Attached, Facts, unit_of}
use Rattle.hall_core.specs.Images.{image_in}
use Rattle.pds_directory.specs.Directories.{IsPartIn}
use Rattle.seq_access.specs.Bodies.{IsSetIn}
use Rattle.stop_model.specs.Files.{File}
use Rattle.stop_model.specs.Moments.{Meaning}
use Rattle.vtoc_index.specs.Index.{IsMounted}
use Rattle.vtoc_index.specs.declared.vol.Vol.{Vol}

-- the image of a pack
abbrev pub image_at : Meaning (List File) → Facts → Vol → List ℕ
image_at m facts v = image_named m.state (unit_of facts.units v.unit).name

-- the image of a unit is that of the pack on it
pub image_of_unit : (m m' : Meaning (List File)) (old new : Facts) (v : Vol) (unit : ℕ) → m'.state ≡ m.state → new.units ≡ old.units → v.unit ≡ unit → image_in m' new v.unit ≡ image_in m old unit
image_of_unit m m' old new v unit state units is =
    ap (λ (fs : List File). image_named fs (unit_of new.units v.unit).name) state
    ∙ ap (λ (us : List Attached). image_named m.state (unit_of us v.unit).name) units
    ∙ ap (λ (n : ℕ). image_named m.state (unit_of old.units n).name) is

module _ (m m' : Meaning (List File)) (old new : Facts) (v v' : Vol) (state : m'.state ≡ m.state) (units : new.units ≡ old.units) (others : v' ≡ record v { buf = v'.buf }) where
  pub same_image : image_at m' new v' ≡ image_at m old v
  same_image =
      ap (λ (fs : List File). image_named fs (unit_of new.units v'.unit).name) state
      ∙ ap (λ (us : List Attached). image_named m.state (unit_of us v'.unit).name) units
      ∙ ap (λ (w : Vol). image_named m.state (unit_of old.units w.unit).name) others

  pub moved : (P : List ℕ → Vol → Type 0) → P (image_at m old v) (record v { buf = v'.buf }) → P (image_at m' new v') v'
  moved P is = subst (λ (i : List ℕ). P i v') (sym same_image) (subst (P (image_at m old v)) (sym others) is)

  pub back : (P : List ℕ → Vol → Type 0) → P (image_at m' new v') v' → P (image_at m old v) (record v { buf = v'.buf })
  back P is = subst (P (image_at m old v)) others (subst (λ (i : List ℕ). P i v') same_image is)

  -- a partitioned set is one still
  pub set_still : (f : F1) → IsPartIn (image_at m old v) v f → IsMounted (image_at m old v) v' → IsSetIn (image_at m' new v') v' f
  set_still f part mounted = moved (λ (i : List ℕ) (w : Vol). IsSetIn i w f) (record {
    set = record { mounted = subst (IsMounted (image_at m old v)) others mounted; extents = part.set.extents };
    slot = part.slot;
    dscb = part.dscb;
  })
