-- Calls that write nothing, and leave an index as it is but for its buffer.
use Rattle.std.proofs.Common.{◌≡◌, ℕ, Bool, IsTrue, List, refl, sym, ap, ◌∙◌, subst}
use Rattle.hall_core.specs.Facts.{Facts, ReportedCall}
use Rattle.hall_core.specs.Images.{image_in}
use Rattle.stop_model.specs.Files.{File}
use Rattle.stop_model.specs.Moments.{Meaning, Same}
use Rattle.stop_model.proofs.MomentLemmas.{same_then}
use Rattle.vtoc_index.specs.declared.vol.Vol.{Vol}
use Rattle.vtoc_index.specs.Index.{IsMounted, IsOfUnit}
use Rattle.vtoc_index.proofs.Images.{same_image}
use Rattle.vtoc_sets.proofs.OtherBuffers.{call_none, call_then}

-- Calls that only read: no fault was reported, the meaning of the hall is the same, and the index differs in its buffer alone.
pub record OnlyReads (tells : Bool) (f0 f1 : Facts) (m0 m1 : Meaning (List File)) (v0 v1 : Vol) : Type 0 where
  pub facts : ReportedCall ⊥ f0 f1
  pub same : IsTrue tells → Same m0 m1
  pub mounted : IsTrue tells → IsMounted (image_in m0 f0 v0.unit) v1
  pub others : v1 ≡ record v0 { buf = v1.buf }
  pub unit : IsOfUnit f1.units v1

pub reads_none : (tells : Bool) (f0 : Facts) (m0 : Meaning (List File)) (v0 : Vol) → (IsTrue tells → Same m0 m0) → (IsTrue tells → IsMounted (image_in m0 f0 v0.unit) v0) → IsOfUnit f0.units v0 → OnlyReads tells f0 f0 m0 m0 v0 v0
reads_none tells f0 m0 v0 same mounted unit = record { facts = call_none f0; same = same; mounted = mounted; others = refl; unit = unit }

module _ (tells : Bool) (f0 f1 : Facts) (m0 m1 : Meaning (List File)) (v0 v1 : Vol) (w : OnlyReads tells f0 f1 m0 m1 v0 v1) where
  abbrev image : List ℕ
  image = image_in m0 f0 v0.unit

  abbrev now : List ℕ
  now = image_in m1 f1 v1.unit

  -- the image is the same
  pub image_now : IsTrue tells → now ≡ image
  image_now told = ap (λ (v : Vol). image_in m1 f1 v.unit) w.others ∙ same_image m1.state m0.state f1 f0 v0.unit (w.same told).state w.facts.units

  -- what holds of it with the index as it was holds now
  pub onward : IsTrue tells → (P : List ℕ → Vol → Type 0) → P image (record v0 { buf = v1.buf }) → P now v1
  onward told P is = subst (λ (i : List ℕ). P i v1) (sym (image_now told)) (subst (λ (v : Vol). P image v) (sym w.others) is)

  -- and the other way round
  pub back : IsTrue tells → (P : List ℕ → Vol → Type 0) → P now v1 → P image (record v0 { buf = v1.buf })
  back told P is = subst (λ (v : Vol). P image v) w.others (subst (λ (i : List ℕ). P i v1) (image_now told) is)

  module _ (f2 : Facts) (m2 : Meaning (List File)) (v2 : Vol) where
    pub same_more : (IsTrue tells → Same m1 m2) → IsTrue tells → Same m0 m2
    same_more same told = same_then (w.same told) (same told)

    pub mounted_more : (IsTrue tells → IsMounted now v2) → IsTrue tells → IsMounted image v2
    mounted_more mounted told = subst (λ (i : List ℕ). IsMounted i v2) (image_now told) (mounted told)

    pub others_more : v2 ≡ record v1 { buf = v2.buf } → v2 ≡ record v0 { buf = v2.buf }
    others_more is = is ∙ ap (λ (v : Vol). record v { buf = v2.buf }) w.others

    pub reads_more : ReportedCall ⊥ f1 f2 → (IsTrue tells → Same m1 m2) → (IsTrue tells → IsMounted now v2) → v2 ≡ record v1 { buf = v2.buf } → IsOfUnit f2.units v2 → OnlyReads tells f0 f2 m0 m2 v0 v2
    reads_more call same mounted others unit = record {
      facts = call_then f0 f1 f2 w.facts call;
      same = same_more same;
      mounted = mounted_more mounted;
      others = others_more others;
      unit = unit;
    }
