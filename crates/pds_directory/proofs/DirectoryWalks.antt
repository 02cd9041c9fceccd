-- A directory read track by track.
use Rattle.std.proofs.Common.{◌≡◌, ◌≢◌, ◌+◌, ◌*◌, ◌≤◌, ◌<◌, ℕ, Bool, true, false, IsTrue, List, [], None, length, map, refl, sym, ap, ◌∙◌, subst, arith}
use Rattle.std.specs.Prelude.{Err, Ok, IfOk, IsErrOf, Result, vec_items}
use Rattle.std.specs.List.{AllByRecursion}
use Rattle.pds_directory.specs.Entries.{IsReadEntry}
use Rattle.dscb_codec.specs.declared.F1.{F1}
use Rattle.hall_core.specs.Facts.{Facts, ReportedCall}
use Rattle.hall_core.specs.Images.{image_in}
use Rattle.stop_model.specs.Files.{File}
use Rattle.stop_model.specs.Moments.{Meaning, Same}
use Rattle.track_records.specs.Buffers.{Buffer}
use Rattle.vol_model.specs.declared.answers.ReadErr.{ReadErr}
use Rattle.vol_model.specs.declared.answers.ReadErr.TheVariants as errors
use Rattle.vol_model.specs.declared.contents.Place.{Place}
use Rattle.vtoc_index.specs.declared.vol.Vol.{Vol}
use Rattle.vtoc_index.specs.Index.{IsMounted, IsOfUnit}
use Rattle.pds_directory.specs.declared.dir.Dir.{Dir}
use Rattle.pds_directory.specs.declared.dir.DirWalk.{DirWalk}
use Rattle.pds_directory.specs.declared.reading.Reading.{Reading}
use Rattle.pds_directory.specs.Directories.{IsLawfulDir, IsOfRecord, IsPartIn, ReadsDir, end_in, entries_read}
use Rattle.pds_directory.specs.Reading.{AreReadSoFar, FitSoFar, HoldEntries, HoldsWhole, IsLawfulReading, IsReadBefore, IsReadToEnd, ReadsTrack, at_in, dir_walked, open_block}
use Rattle.pds_directory.proofs.OnlyReading.{OnlyReads, back, onward, reads_more, reads_none}
use Rattle.pds_directory.proofs.ReadSteps.{finish_ended, finish_open, never_all}

-- ---- an index with another buffer

module _ (image : List ℕ) (v : Vol) (b : Buffer) (f : F1) where
  pub part_with : IsMounted image (record v { buf = b }) → IsPartIn image v f → IsPartIn image (record v { buf = b }) f
  part_with mounted part = record {
    set = record { mounted = mounted; extents = part.set.extents };
    slot = part.slot;
    dscb = part.dscb;
    partitioned = part.partitioned;
  }

  before_with : (k : ℕ) (r : Reading) → IsReadBefore image v f k r → IsReadBefore image (record v { buf = b }) f k r
  before_with k r is = record { end = is.end; whole = is.whole; read = is.read }

  before_as : (k : ℕ) (r : Reading) → IsReadBefore image (record v { buf = b }) f k r → IsReadBefore image v f k r
  before_as k r is = record { end = is.end; whole = is.whole; read = is.read }

  to_end_as : (k : ℕ) (r : Reading) → IsReadToEnd image (record v { buf = b }) f k r → IsReadToEnd image v f k r
  to_end_as k r is = record { end = is.end; place = is.place; whole = is.whole; unbroken = is.unbroken; read = is.read }

  track_as : (result : Result Bool ReadErr) (k : ℕ) (r : Reading) → ReadsTrack result image (record v { buf = b }) f k r → ReadsTrack result image v f k r
  track_as (Ok false) k r is = before_as (k + 1) r is
  track_as (Ok true) k r is = to_end_as k r is
  track_as (Err (errors.Unreadable j)) k r is = is
  track_as (Err errors.Memory) k r is = tt
  track_as (Err errors.Device) k r is = tt

-- ---- the walk

-- The first relative tracks of a directory were read, so many.
pub record Walks (tells : Bool) (f0 f1 : Facts) (m0 m1 : Meaning (List File)) (v0 v1 : Vol) (f : F1) (k : ℕ) (r : Reading) : Type 0 where
  pub reads : OnlyReads tells f0 f1 m0 m1 v0 v1
  pub before : IsTrue tells → IsReadBefore (image_in m0 f0 v0.unit) v0 f k r
  pub lawful : IsLawfulReading (255 * k) r

-- nothing was read
pub record IsNew (r : Reading) : Type 0 where
  pub ended : r.ended ≡ false
  pub blocks : r.dir.blocks.items ≡ []
  pub places : r.dir.places.items ≡ []

new_so_far : (r : Reading) → IsNew r → AreReadSoFar [] r
new_so_far r is = record {
  places = is.places;
  entries = subst (λ (c : Bool). HoldEntries c [] (entries_read r.dir)) (sym is.ended) (ap (λ bs. map open_block (map vec_items bs)) (sym is.blocks));
}

new_lawful : (r : Reading) → IsNew r → IsLawfulReading (255 * 0) r
new_lawful r is =
    let none : entries_read r.dir ≡ [] = ap (λ bs. map vec_items bs) is.blocks in
    record {
      room = omega (arith, ap (λ bs. length bs) is.blocks);
      few = omega (arith, ap (λ ps. length ps) is.places);
      entries = subst (λ es. AllByRecursion (AllByRecursion IsReadEntry) es) (sym none) tt;
      fit = subst (λ (c : Bool). FitSoFar c (entries_read r.dir)) (sym is.ended) (subst (λ es. FitSoFar false es) (sym none) tt);
      places = subst (λ ps. AllByRecursion IsOfRecord ps) (sym is.places) tt;
    }

pub walk_none : (tells : Bool) (f0 : Facts) (m0 : Meaning (List File)) (v0 : Vol) (f : F1) (r : Reading) → (IsTrue tells → Same m0 m0) → (IsTrue tells → IsPartIn (image_in m0 f0 v0.unit) v0 f) → IsOfUnit f0.units v0 → IsNew r → Walks tells f0 f0 m0 m0 v0 v0 f 0 r
walk_none tells f0 m0 v0 f r same part unit new = record {
  reads = reads_none tells f0 m0 v0 same (λ told. let is = part told in is.set.mounted) unit;
  before = λ told. record { end = omega arith; whole = λ j low. absurd (omega (arith, low)); read = new_so_far r new };
  lawful = new_lawful r new;
}

-- what was read is given where a block ends the directory
abbrev pub Finishes : Reading → Result DirWalk ReadErr → Type 0
Finishes r result = IfOk result (λ walk. (r.ended ≡ true) × (walk.dir ≡ r.dir))

module _ (tells : Bool) (f0 f1 : Facts) (m0 m1 : Meaning (List File)) (v0 v1 : Vol) (f : F1) (k : ℕ) (r : Reading) (w : Walks tells f0 f1 m0 m1 v0 v1 f k r) where
  abbrev image : List ℕ
  image = image_in m0 f0 v0.unit

  abbrev now : List ℕ
  now = image_in m1 f1 v1.unit

  pub part_now : IsTrue tells → IsPartIn image v0 f → IsPartIn now v1 f
  part_now told part =
      let mounted : IsMounted image (record v0 { buf = v1.buf }) = subst (λ (v : Vol). IsMounted image v) w.reads.others (w.reads.mounted told) in
      onward tells f0 f1 m0 m1 v0 v1 w.reads told (λ i v. IsPartIn i v f) (part_with image v0 v1.buf f mounted part)

  pub before_now : IsTrue tells → IsReadBefore now v1 f k r
  before_now told = onward tells f0 f1 m0 m1 v0 v1 w.reads told (λ i v. IsReadBefore i v f k r) (before_with image v0 v1.buf f k r (w.before told))

  -- what the next track is read as
  read_as : (result : Result Bool ReadErr) (new : Reading) → (IsTrue tells → ReadsTrack result now v1 f k new) → IsTrue tells → ReadsTrack result image v0 f k new
  read_as result new read told = track_as image v0 v1.buf f result k new (back tells f0 f1 m0 m1 v0 v1 w.reads told (λ i v. ReadsTrack result i v f k new) (read told))

  pub walk_more : (f2 : Facts) (m2 : Meaning (List File)) (v2 : Vol) (new : Reading) → ReportedCall ⊥ f1 f2 → (IsTrue tells → Same m1 m2) → (IsTrue tells → IsMounted now v2) → v2 ≡ record v1 { buf = v2.buf } → IsOfUnit f2.units v2
      → (IsTrue tells → ReadsTrack (Ok false) now v1 f k new) → IsLawfulReading (255 * (k + 1)) new → Walks tells f0 f2 m0 m2 v0 v2 f (k + 1) new
  walk_more f2 m2 v2 new call same mounted others unit read lawful = record {
    reads = reads_more tells f0 f1 m0 m1 v0 v1 w.reads f2 m2 v2 call same mounted others unit;
    before = λ told. read_as (Ok false) new read told;
    lawful = lawful;
  }

  -- a track breaks the body
  pub walk_err : (new : Reading) (e : ReadErr) → (IsTrue tells → ReadsTrack (Err e) now v1 f k new) → IsTrue tells → ReadsDir (Err e) image v0 f
  walk_err new (errors.Unreadable j) read told = read_as (Err (errors.Unreadable j)) new read told
  walk_err new errors.Memory read told = tt
  walk_err new errors.Device read told = tt

  -- the directory's end is on the track
  pub walk_end : (new : Reading) (result : Result DirWalk ReadErr) → (IsTrue tells → ReadsTrack (Ok true) now v1 f k new) → Finishes new result → ((e : ReadErr) → IsErrOf result e → (new.ended ≡ false) × (e ≡ errors.Unreadable k)) → IsTrue tells → ReadsDir (dir_walked result) image v0 f
  walk_end new (Ok walk) read done unended told = subst (λ (d : Dir). ReadsDir (Ok d) image v0 f) (sym done.1) (finish_ended image v0 f k new (read_as (Ok true) new read told) done.0)
  walk_end new (Err e) read done unended told =
      let is = unended e refl in
      subst (λ (x : ReadErr). ReadsDir (Err x) image v0 f) (sym is.1) (finish_open image v0 f k new (read_as (Ok true) new read told) is.0)

  -- and its place is known
  place_is : (new : Reading) (walk : DirWalk) → (IsTrue tells → ReadsTrack (Ok true) now v1 f k new) → walk.dir ≡ new.dir → IsTrue tells → walk.dir.end ≡ end_in image v0 f
  place_is new walk read same told = ap (λ (d : Dir). d.end) same ∙ (read_as (Ok true) new read told).place

  pub walk_place : (new : Reading) (result : Result DirWalk ReadErr) → (IsTrue tells → ReadsTrack (Ok true) now v1 f k new) → Finishes new result → IsTrue tells → IfOk result (λ walk. walk.dir.end ≡ end_in image v0 f)
  walk_place new (Ok walk) read done told = place_is new walk read done.1 told
  walk_place new (Err e) read done told = tt

  -- it stands on that track
  track_is : (new : Reading) (walk : DirWalk) → (IsTrue tells → ReadsTrack (Ok true) now v1 f k new) → walk.dir ≡ new.dir → IsTrue tells → walk.dir.end.tt ≡ k
  track_is new walk read same told = ap (λ (p : Place). p.tt) (place_is new walk read same told) ∙ (read_as (Ok true) new read told).end

  -- no track before it breaks the body
  pub walk_front : (new : Reading) (result : Result DirWalk ReadErr) → (IsTrue tells → ReadsTrack (Ok true) now v1 f k new) → Finishes new result → IsTrue tells → IfOk result (λ walk. (j : ℕ) → j < walk.dir.end.tt → at_in image v0 f j ≢ None)
  walk_front new (Ok walk) read done told = λ j low. (read_as (Ok true) new read told).whole j (omega (arith, low, track_is new walk read done.1 told))
  walk_front new (Err e) read done told = tt

  -- a buffer holds it whole
  holds_as : (b : Buffer) → HoldsWhole now v1 f k b → IsTrue tells → HoldsWhole image v0 f k b
  holds_as b holds told = back tells f0 f1 m0 m1 v0 v1 w.reads told (λ i v. HoldsWhole i v f k b) holds

  pub walk_held : (new : Reading) (result : Result DirWalk ReadErr) (b : Buffer) → (IsTrue tells → ReadsTrack (Ok true) now v1 f k new) → (IsTrue tells → IsTrue new.whole → HoldsWhole now v1 f k b) → Finishes new result → IfOk result (λ walk. walk.whole ≡ new.whole) → IsTrue tells
      → IfOk result (λ walk. IsTrue walk.whole → HoldsWhole image v0 f walk.dir.end.tt b)
  walk_held new (Ok walk) b read holds done same told = λ whole. subst (λ (n : ℕ). HoldsWhole image v0 f n b) (sym (track_is new walk read done.1 told)) (holds_as b (holds told (subst (λ (c : Bool). IsTrue c) same whole)) told)
  walk_held new (Err e) b read holds done same told = tt

  -- a set has fewer tracks than are read
  pub walk_past : 65535 ≤ k → (IsTrue tells → IsPartIn image v0 f) → IsTrue tells → ReadsDir (Err (errors.Unreadable 65535)) image v0 f
  walk_past all part told = absurd (never_all image v0 f (part told) k r (w.before told) all)

-- what is given is lawful
pub lawful_dir : (k : ℕ) (r : Reading) (result : Result DirWalk ReadErr) → IsLawfulReading (255 * (k + 1)) r → k < 65535 → Finishes r result → IfOk result (λ walk. IsLawfulDir walk.dir)
lawful_dir k r (Ok walk) lawful few done = subst IsLawfulDir (sym done.1) (record {
  room = lawful.room;
  few = omega (arith, lawful.few, few);
  entries = lawful.entries;
  fit = subst (λ (c : Bool). FitSoFar c (entries_read r.dir)) done.0 lawful.fit;
  places = lawful.places;
})
lawful_dir k r (Err e) lawful few done = tt
