-- A directory's end, sought track by track.
use Rattle.std.proofs.Common.{◌≡◌, ◌≢◌, ◌+◌, ◌≤◌, ◌<◌, ℕ, Bool, IsTrue, List, Option, Some, None, sym, ap, ◌∙◌, subst, arith}
use Rattle.std.specs.Prelude.{Ok, slice_get}
use Rattle.ckd_image.specs.Track.{Record}
use Rattle.dscb_codec.specs.declared.F1.{F1}
use Rattle.hall_core.specs.Facts.{Facts, ReportedCall}
use Rattle.hall_core.specs.Images.{image_in}
use Rattle.stop_model.specs.Files.{File}
use Rattle.stop_model.specs.Moments.{Meaning, Same}
use Rattle.vol_model.specs.declared.contents.Place.{Place}
use Rattle.vol_model.specs.Shelf.{unreadable}
use Rattle.pack_spec.specs.Directories.{read_to}
use Rattle.pack_spec.specs.Label.{tracks_of}
use Rattle.vtoc_index.specs.declared.vol.Vol.{Vol}
use Rattle.vtoc_index.specs.Index.{IsMounted, IsOfUnit}
use Rattle.pds_directory.specs.declared.ends.Reached.{Reached}
use Rattle.pds_directory.specs.Directories.{IsReadablePart, data_in, end_in, owned_in}
use Rattle.pds_directory.specs.Reading.{HasBytesOf, Reaches, SeeksOn, at_in, end_on}
use Rattle.pds_directory.proofs.PartSets.{few_owned_tracks, records_are}
use Rattle.pds_directory.proofs.DirectoryWalks.{part_with}
use Rattle.pds_directory.proofs.OnlyReading.{OnlyReads, back, onward, reads_more, reads_none}
use Rattle.pds_directory.proofs.PartWalks.{readable_at}
use Rattle.pds_directory.proofs.ReadSteps.{part_is}
use Rattle.pds_directory.proofs.TrackReads.{end_within, none_owned, none_read, past, seeks_on}

-- ---- a track of a directory that can be read

module _ (image : List ℕ) (v : Vol) (f : F1) (set : IsReadablePart image v f) (k : ℕ) (low : k ≤ (end_in image v f).tt) where
  abbrev end : Place
  end = end_in image v f

  abbrev owned : List ℕ
  owned = owned_in image v f

  -- the set owns so many tracks
  pub few : k < 65535
  few = omega (arith, low, end_within v.geometry (data_in image v) 0 owned, few_owned_tracks image v f set.part)

  some_at : at_in image v f k ≢ None
  some_at =
      let beyond = past v.geometry (data_in image v) owned f.lstar in
      readable_at v.geometry (data_in image v) owned end (read_to end f.lstar) (ap unreadable (sym (part_is image v f)) ∙ set.readable) k (omega (arith, low, beyond.track))

  pub there_is : None ≡ slice_get owned k → ⊥
  there_is is = some_at (none_owned v.geometry (data_in image v) owned f.lstar k (sym is))

  module _ (t : ℕ) (there : Some t ≡ slice_get owned k) (inside : t < tracks_of v.geometry) where
    pub bytes : HasBytesOf image v.geometry (data_in image v) t
    bytes upto = records_are image v f set.part upto k t (sym there) inside

    pub unbroken : (xs : List Record) → Reaches (Ok None) v.geometry (data_in image v) t xs → ⊥
    unbroken xs reaches = some_at (none_read v.geometry (data_in image v) owned f.lstar k t (sym there) low reaches.0 reaches.1)

    pub seeks : (xs : List Record) (r : Reached) → Reaches (Ok (Some r)) v.geometry (data_in image v) t xs → (o : Option Place) → o ≡ end_on k r → SeeksOn end k o
    seeks xs r reaches o is = seeks_on v.geometry (data_in image v) owned f.lstar k t (sym there) low xs r reaches o is

-- ---- the walk

-- A directory's end doesn't stand on the first relative tracks, so many.
pub record Seeks (tells : Bool) (f0 f1 : Facts) (m0 m1 : Meaning (List File)) (v0 v1 : Vol) (f : F1) (k : ℕ) : Type 0 where
  pub reads : OnlyReads tells f0 f1 m0 m1 v0 v1
  pub behind : IsTrue tells → k ≤ (end_in (image_in m0 f0 v0.unit) v0 f).tt

pub seeks_first : (tells : Bool) (f0 : Facts) (m0 : Meaning (List File)) (v0 : Vol) (f : F1) → (IsTrue tells → Same m0 m0) → (IsTrue tells → IsReadablePart (image_in m0 f0 v0.unit) v0 f) → IsOfUnit f0.units v0 → Seeks tells f0 f0 m0 m0 v0 v0 f 0
seeks_first tells f0 m0 v0 f same set unit = record {
  reads = reads_none tells f0 m0 v0 same (λ told. let is = set told in is.part.set.mounted) unit;
  behind = λ told. omega arith;
}

module _ (tells : Bool) (f0 f1 : Facts) (m0 m1 : Meaning (List File)) (v0 v1 : Vol) (f : F1) (k : ℕ) (w : Seeks tells f0 f1 m0 m1 v0 v1 f k) where
  abbrev image : List ℕ
  image = image_in m0 f0 v0.unit

  abbrev now : List ℕ
  now = image_in m1 f1 v1.unit

  pub set_now : IsTrue tells → IsReadablePart image v0 f → IsReadablePart now v1 f
  set_now told set =
      let mounted : IsMounted image (record v0 { buf = v1.buf }) = subst (λ (v : Vol). IsMounted image v) w.reads.others (w.reads.mounted told) in
      onward tells f0 f1 m0 m1 v0 v1 w.reads told (λ i v. IsReadablePart i v f) (record { part = part_with image v0 v1.buf f mounted set.part; readable = set.readable })

  pub behind_now : IsTrue tells → k ≤ (end_in now v1 f).tt
  behind_now told = onward tells f0 f1 m0 m1 v0 v1 w.reads told (λ i v. k ≤ (end_in i v f).tt) (w.behind told)

  -- what is found on the next track
  found_as : (o : Option Place) → (IsTrue tells → SeeksOn (end_in now v1 f) k o) → IsTrue tells → SeeksOn (end_in image v0 f) k o
  found_as o found told = back tells f0 f1 m0 m1 v0 v1 w.reads told (λ i v. SeeksOn (end_in i v f) k o) (found told)

  pub seeks_more : (f2 : Facts) (m2 : Meaning (List File)) (v2 : Vol) → ReportedCall ⊥ f1 f2 → (IsTrue tells → Same m1 m2) → (IsTrue tells → IsMounted now v2) → v2 ≡ record v1 { buf = v2.buf } → IsOfUnit f2.units v2
      → (IsTrue tells → SeeksOn (end_in now v1 f) k None) → Seeks tells f0 f2 m0 m2 v0 v2 f (k + 1)
  seeks_more f2 m2 v2 call same mounted others unit found = record {
    reads = reads_more tells f0 f1 m0 m1 v0 v1 w.reads f2 m2 v2 call same mounted others unit;
    behind = λ told. omega (arith, found_as None found told);
  }

  pub seeks_end : (place : Place) → (IsTrue tells → SeeksOn (end_in now v1 f) k (Some place)) → IsTrue tells → place ≡ end_in image v0 f
  seeks_end place found told = found_as (Some place) found told

  -- a set has fewer tracks than are sought on
  pub seeks_past : 65535 ≤ k → (IsTrue tells → IsReadablePart image v0 f) → IsTrue tells → ⊥
  seeks_past all set told = omega (arith, all, few image v0 f (set told) k (w.behind told))
