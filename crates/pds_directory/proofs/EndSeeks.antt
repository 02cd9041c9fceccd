-- The search for a track's first end-of-file record, read by read.
use Rattle.std.proofs.Common.{◌≡◌, ◌+◌, ◌≤◌, ◌<◌, ℕ, Bool, IsTrue, List, Option, Some, None, ◌∙◌}
use Rattle.std.specs.Prelude.{Ok}
use Rattle.ckd_image.specs.Track.{Record}
use Rattle.hall_core.specs.Facts.{Facts, ReportedCall}
use Rattle.hall_core.specs.Images.{image_in}
use Rattle.stop_model.specs.Files.{File}
use Rattle.stop_model.specs.Moments.{Meaning, Same}
use Rattle.pack_spec.specs.Label.{records_on}
use Rattle.vtoc_index.specs.declared.vol.Vol.{Vol}
use Rattle.vtoc_index.specs.Index.{IsMounted, IsOfUnit}
use Rattle.pds_directory.specs.declared.ends.Reached.{Reached}
use Rattle.pds_directory.specs.Reading.{HasBytesOf, IsLastEnd, Reaches}
use Rattle.pds_directory.proofs.EndReads.{NoEndBy, no_end_0, no_end_all, no_end_broken, no_end_more, reached_next}
use Rattle.pds_directory.proofs.OnlyReading.{OnlyReads, back, reads_more, reads_none}

-- No end-of-file record was read up to a record of the first numbers.
pub record SeeksEnd (tells : Bool) (f0 f1 : Facts) (m0 m1 : Meaning (List File)) (v0 v1 : Vol) (track n : ℕ) : Type 0 where
  pub reads : OnlyReads tells f0 f1 m0 m1 v0 v1
  pub none : IsTrue tells → (tracks : List (List ℕ)) → HasBytesOf (image_in m0 f0 v0.unit) v0.geometry tracks track → NoEndBy v0.geometry tracks track n

pub seeks_first : (tells : Bool) (f0 : Facts) (m0 : Meaning (List File)) (v0 : Vol) (track : ℕ) → (IsTrue tells → Same m0 m0) → (IsTrue tells → IsMounted (image_in m0 f0 v0.unit) v0) → IsOfUnit f0.units v0 → SeeksEnd tells f0 f0 m0 m0 v0 v0 track 0
seeks_first tells f0 m0 v0 track same mounted unit = record {
  reads = reads_none tells f0 m0 v0 same mounted unit;
  none = λ told tracks has. no_end_0 v0.geometry tracks track;
}

module _ (tells : Bool) (f0 f1 : Facts) (m0 m1 : Meaning (List File)) (v0 v1 : Vol) (track n : ℕ) (w : SeeksEnd tells f0 f1 m0 m1 v0 v1 track n) where
  abbrev image : List ℕ
  image = image_in m0 f0 v0.unit

  abbrev now : List ℕ
  now = image_in m1 f1 v1.unit

  -- what was read up to the next record
  next_is : (o : Option (List Record)) → (IsTrue tells → records_on now v1.geometry (Some (n + 1)) track ≡ o) → IsTrue tells → records_on image v0.geometry (Some (n + 1)) track ≡ o
  next_is o read told = back tells f0 f1 m0 m1 v0 v1 w.reads told (λ (i : List ℕ) (v : Vol). records_on i v.geometry (Some (n + 1)) track ≡ o) (read told)

  pub seeks_more : (f2 : Facts) (m2 : Meaning (List File)) (v2 : Vol) → ReportedCall ⊥ f1 f2 → (IsTrue tells → Same m1 m2) → (IsTrue tells → IsMounted now v2) → v2 ≡ record v1 { buf = v2.buf } → IsOfUnit f2.units v2
      → (xs : List Record) → (IsTrue tells → records_on now v1.geometry (Some (n + 1)) track ≡ Some xs) → IsLastEnd xs None → SeeksEnd tells f0 f2 m0 m2 v0 v2 track (n + 1)
  seeks_more f2 m2 v2 call same mounted others unit xs read last = record {
    reads = reads_more tells f0 f1 m0 m1 v0 v1 w.reads f2 m2 v2 call same mounted others unit;
    none = λ told tracks has. no_end_more v0.geometry tracks track n (w.none told tracks has) xs (has (Some (n + 1)) ∙ next_is (Some xs) read told) last;
  }

  -- the next record is one
  pub seeks_found : (xs : List Record) (r : Reached) → (IsTrue tells → records_on now v1.geometry (Some (n + 1)) track ≡ Some xs) → IsLastEnd xs (Some r) → n < 255 → IsTrue tells → (tracks : List (List ℕ)) → HasBytesOf image v0.geometry tracks track → Reaches (Ok (Some r)) v0.geometry tracks track xs
  seeks_found xs r read last few told tracks has = reached_next v0.geometry tracks track n (w.none told tracks has) xs r (has (Some (n + 1)) ∙ next_is (Some xs) read told) last few

  -- the track, which breaks the grammar before its end marker, does so before the next record
  pub seeks_broken : (xs : List Record) → (IsTrue tells → records_on image v0.geometry None track ≡ None) → (IsTrue tells → records_on now v1.geometry (Some (n + 1)) track ≡ None) → IsTrue tells → (tracks : List (List ℕ)) → HasBytesOf image v0.geometry tracks track → Reaches (Ok None) v0.geometry tracks track xs
  seeks_broken xs broken read told tracks has = (no_end_broken v0.geometry tracks track n (w.none told tracks has) (has (Some (n + 1)) ∙ next_is None read told), has None ∙ broken told)

  -- or has no end-of-file record
  pub seeks_all : (xs : List Record) → (IsTrue tells → records_on image v0.geometry None track ≡ None) → 255 ≤ n → IsTrue tells → (tracks : List (List ℕ)) → HasBytesOf image v0.geometry tracks track → Reaches (Ok None) v0.geometry tracks track xs
  seeks_all xs broken all told tracks has = (no_end_all v0.geometry tracks track n all (w.none told tracks has), has None ∙ broken told)
