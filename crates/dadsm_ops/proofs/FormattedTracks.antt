-- Records that are written on a track which nothing owns: what a stop leaves, and what the track has then.
use Rattle.std.proofs.Common.{◌≡◌, ◌≢◌, ◌+◌, ◌*◌, ◌/◌, ◌%◌, ◌≤◌, ◌<◌, ℕ, List, [], ◌∷◌, ◌++◌, length, Option, Some, None, Result, Ok, Err, inl, inr, refl, sym, ap, ◌∙◌, subst, arith}
use Rattle.std.specs.Prelude.{IsErr, OnOk, slice_get, unwrap_or}
use Rattle.ckd_image.specs.declared.header.Geometry.{Geometry}
use Rattle.ckd_image.specs.Header.{HasGeometry}
use Rattle.ckd_image.specs.Track.{Record}
use Rattle.hall_core.specs.Facts.{Attached, Facts, name_in, unit_of}
use Rattle.hall_core.specs.Images.{AreWhole}
use Rattle.stop_model.specs.Files.{AfterWrite, File, file_of, patched, written}
use Rattle.stop_model.specs.Moments.{Meaning}
use Rattle.stop_model.proofs.BlockLemmas.{keeps_more, keeps_none, keeps_not, keeps_then, pends_of_write}
use Rattle.pack_spec.specs.Blocks.{owned_tracks}
use Rattle.pack_spec.specs.Label.{heads_of, records_on, track_bytes, tracks_of}
use Rattle.vol_model.specs.declared.contents.Run.{Run}
use Rattle.track_records.specs.Appends.{IsAppended, MayContinue, continuation, end_of, place_behind, record_of, start_behind}
use Rattle.track_records.specs.Buffers.{Buffer}
use Rattle.track_records.specs.Calls.{HasTrack}
use Rattle.track_records.proofs.ContinueLemmas.{TrackPatched, length-behind, track_patched}
use Rattle.dadsm_ops.specs.Operations.{image_named}
use Rattle.dadsm_ops.specs.Formatting.{AreAll, AreOn, DifferOn, KeepsOn, WritesOn}
use Rattle.free_rebuild.proofs.PutLemmas.{written_other, written_there}

on_ok : {T E P : Type 0} (r : Result T E) → P → OnOk r P
on_ok (Ok x) p = p
on_ok (Err e) p = tt

-- a write on a track of runs
differ_more : (g : Geometry) (runs : List Run) (track o k : ℕ) (new before image : List ℕ) → HasGeometry (length image) g → track < tracks_of g → o + length new ≤ g.track_size → slice_get (owned_tracks runs) k ≡ Some track
    → DifferOn g runs before image → DifferOn g runs before (patched image (512 + track * g.track_size + o) new)
differ_more g runs track o k new before image has low room there differ =
    let p : TrackPatched g track o new image (patched image (512 + track * g.track_size + o) new) = track_patched g track o new image has low room in
    record {
      size = p.size ∙ differ.size;
      header = p.header ∙ differ.header;
      others = λ other out. p.others other (λ e. out k (there ∙ ap (λ (t : ℕ). Some t) (sym e))) ∙ differ.others other out;
    }

-- a file of a pack is there
file_there : (files : List File) (name : List ℕ) (g : Geometry) → HasGeometry (length (image_named files name)) g → file_of files name ≡ Some (image_named files name)
file_there files name g has = by (file_of files name) refl some
  where
    some : 512 ≤ length (image_named files name)
    some = omega (arith, has.whole)

    by : (o : Option (List ℕ)) → file_of files name ≡ o → 512 ≤ length (unwrap_or o []) → file_of files name ≡ Some (image_named files name)
    by None is e = absurd (omega (arith, e))
    by (Some l) is e = is ∙ ap (λ (o : Option (List ℕ)). Some (unwrap_or o [])) (sym is)

-- A record is written after those of a buffer.
module _ (name : List ℕ) (b : Buffer) (key content : List ℕ) (old : Meaning (List File)) (here : old.left old.state) (has : HasGeometry (length (image_named old.state name)) b.geometry) (low : b.track < tracks_of b.geometry)
    (room : end_of b + (8 + length key + length content) + 8 ≤ b.geometry.track_size) where
  abbrev g : Geometry
  g = b.geometry

  abbrev new : List Record
  new = record_of b key content ∷ []

  fit : start_behind b.records + length (continuation b new) ≤ g.track_size
  fit = omega (arith, room, length-behind (b.track / heads_of g) (b.track % heads_of g) b.records key content)

  files_more : (runs : List Run) (k : ℕ) (before files : List File) → slice_get (owned_tracks runs) k ≡ Some b.track → HasGeometry (length (image_named before name)) g → AreOn name g runs before files → AreOn name g runs before (written files name (place_behind b) (continuation b new))
  files_more runs k before files there whole on =
      let image : List ℕ = image_named files name in
      let has' : HasGeometry (length image) g = subst (λ (n : ℕ). HasGeometry n g) (sym on.image.size) whole in
      let differ = differ_more g runs b.track (start_behind b.records) k (continuation b new) (image_named before name) image has' low fit there on.image in
      record {
        image = subst (DifferOn g runs (image_named before name)) (sym (ap (λ (o : Option (List ℕ)). unwrap_or o []) (written_there files name (place_behind b) (continuation b new) image (file_there files name g has')))) differ;
        others = λ other apart. written_other files name other (place_behind b) (continuation b new) apart ∙ on.others other apart;
      }

  keeps_one : {T E : Type 0} (now : Meaning (List File)) (result : Result T E) → AfterWrite name (place_behind b) (continuation b new) old now result → KeepsOn name g b.track old now result
  keeps_one {E = E} now result wrote runs k before there left =
      let whole : HasGeometry (length (image_named before name)) g = subst (λ (n : ℕ). HasGeometry n g) (left old.state here).image.size has in
      let kept = keeps_more (keeps_none {E = E} (AreOn name g runs before) old left) (pends_of_write wrote) (λ files on. files_more runs k before files there whole on) in
      record { printed = kept.printed; done = on_ok result refl; left = kept.left; moments = kept.moments }

  may_continue : AreAll (image_named old.state name) g b.track b.records → MayContinue (image_named old.state name) b
  may_continue (inl none) = inl none
  may_continue (inr all) = inr (None, all)

  pub writes_one : {T E : Type 0} (now : Meaning (List File)) (result : Result T E) → AfterWrite name (place_behind b) (continuation b new) old now result → AreAll (image_named old.state name) g b.track b.records
      → (MayContinue (image_named old.state name) b → IsAppended b key content (image_named old.state name) (patched (image_named old.state name) (place_behind b) (continuation b new))) → WritesOn name g b.track (b.records ++ new) old now result
  writes_one now result wrote all appended = record {
    keeps = keeps_one now result wrote;
    others = by result wrote.done (λ is other apart. ap (λ (i : List ℕ). track_bytes i g other) (now_is is) ∙ put.others other apart);
    all = by result wrote.done (λ is. inr (ap (λ (i : List ℕ). records_on i g None b.track) (now_is is) ∙ put.records));
  }
    where
      put : IsAppended b key content (image_named old.state name) (patched (image_named old.state name) (place_behind b) (continuation b new))
      put = appended (may_continue all)

      now_is : now.state ≡ written old.state name (place_behind b) (continuation b new) → image_named now.state name ≡ patched (image_named old.state name) (place_behind b) (continuation b new)
      now_is is =
          ap (λ (files : List File). image_named files name) is
          ∙ ap (λ (o : Option (List ℕ)). unwrap_or o []) (written_there old.state name (place_behind b) (continuation b new) (image_named old.state name) (file_there old.state name g has))

      by : {T E P Q : Type 0} (r : Result T E) → OnOk r P → (P → Q) → OnOk r Q
      by (Ok x) p f = f p
      by (Err e) p f = tt

-- ---- one write after another

-- what failed, whatever error the caller makes of its own
pub writes_not : {T E A B : Type 0} {name : List ℕ} {g : Geometry} {track : ℕ} {xs ys : List Record} {old new : Meaning (List File)} {result : Result T E} (answer : Result A B) → IsErr answer → WritesOn name g track xs old new result → WritesOn name g track ys old new answer
writes_not {A = A} {B = B} answer failed w = record {
  keeps = λ runs k before there left. keeps_not answer failed (w.keeps runs k before there left);
  others = none _ answer failed;
  all = none _ answer failed;
}
  where
    none : (P : Type 0) (r : Result A B) → IsErr r → OnOk r P
    none P (Ok x) is = cc
    none P (Err e) is = tt

-- what is done, whatever it gives
pub writes_done : {T E A B : Type 0} {name : List ℕ} {g : Geometry} {track : ℕ} {xs : List Record} {old new : Meaning (List File)} {x : T} (a : A) → WritesOn {T = T} {E = E} name g track xs old new (Ok x) → WritesOn {T = A} {E = B} name g track xs old new (Ok a)
writes_done a w = record {
  keeps = λ runs k before there left. let kept = w.keeps runs k before there left in record { printed = kept.printed; done = kept.done; left = kept.left; moments = kept.moments };
  others = w.others;
  all = w.all;
}

-- and of the same records
pub writes_as : {T E : Type 0} {name : List ℕ} {g : Geometry} {track : ℕ} {old new : Meaning (List File)} {result : Result T E} (xs ys : List Record) → xs ≡ ys → WritesOn name g track xs old new result → WritesOn name g track ys old new result
writes_as {name = name} {g = g} {track = track} {old = old} {new = new} {result = result} xs ys same w = subst (λ (zs : List Record). WritesOn name g track zs old new result) same w

-- more records after those that are written
pub writes_then : {T E A B : Type 0} {name : List ℕ} {g : Geometry} {track : ℕ} {xs ys : List Record} {old mid new : Meaning (List File)} {x : T} {result : Result A B} → WritesOn {T = T} {E = E} name g track xs old mid (Ok x) → WritesOn name g track ys mid new result
    → WritesOn name g track ys old new result
writes_then {A = A} {B = B} {name = name} {g = geometry} {track = track} {old = old} {mid = mid} {new = now} {result = result} one two = record {
  keeps = λ runs k before there left. let first = one.keeps runs k before there left in keeps_then first (two.keeps runs k before there first.left);
  others = by result two.others;
  all = two.all;
}
  where
    by : (r : Result A B) → OnOk r ((other : ℕ) → other ≢ track → track_bytes (image_named now.state name) geometry other ≡ track_bytes (image_named mid.state name) geometry other)
        → OnOk r ((other : ℕ) → other ≢ track → track_bytes (image_named now.state name) geometry other ≡ track_bytes (image_named old.state name) geometry other)
    by (Ok a) later = λ other apart. later other apart ∙ one.others other apart
    by (Err e) later = tt

-- none are written
pub writes_none : {E : Type 0} (name : List ℕ) (g : Geometry) (track : ℕ) (m : Meaning (List File)) → WritesOn {T = Unit {0}} {E = E} name g track [] m m (Ok tt)
writes_none name g track m = record {
  keeps = λ runs k before there left. keeps_none (AreOn name g runs before) m left;
  others = λ other apart. refl;
  all = inl refl;
}

-- the image of a unit has the geometry of its pack
pub pack_there : (files : List File) (units : List Attached) (unit : ℕ) (g : Geometry) (track : ℕ) → AreWhole files units → HasTrack units unit g track → HasGeometry (length (image_named files (unit_of units unit).name)) g
pack_there files units unit g track whole has =
    let there = whole unit has.attached in
    let size : length (image_named files (unit_of units unit).name) ≡ (unit_of units unit).size = ap (λ (o : Option (List ℕ)). length (unwrap_or o [])) there.1 ∙ there.2 in
    subst (λ (n : ℕ). HasGeometry n g) (sym size) has.whole

-- writes on the track of a buffer, by a later buffer of that
pub writes_by : {T E : Type 0} {xs : List Record} {old new : Meaning (List File)} {result : Result T E} (f0 f1 : Facts) (b0 b1 : Buffer) → f1.units ≡ f0.units → b1 ≡ record b0 { records = b1.records } → WritesOn (name_in f1 b1.unit) b1.geometry b1.track xs old new result
    → WritesOn (name_in f0 b0.unit) b0.geometry b0.track xs old new result
writes_by {xs = xs} {old = old} {new = new} {result = result} f0 f1 b0 b1 units buffer w =
    subst (λ (us : List Attached). WritesOn (unit_of us b0.unit).name b0.geometry b0.track xs old new result) units
    (subst (λ (b : Buffer). WritesOn (name_in f1 b.unit) b.geometry b.track xs old new result) buffer w)

pub writes_at : {T E : Type 0} {xs : List Record} {old new : Meaning (List File)} {result : Result T E} (f : Facts) (b0 b1 : Buffer) → b1 ≡ b0 → WritesOn (name_in f b1.unit) b1.geometry b1.track xs old new result → WritesOn (name_in f b0.unit) b0.geometry b0.track xs old new result
writes_at {xs = xs} {old = old} {new = new} {result = result} f b0 b1 buffer w = subst (λ (b : Buffer). WritesOn (name_in f b.unit) b.geometry b.track xs old new result) buffer w

-- writes on a track of its unit, by a later buffer of that unit
pub writes_in : {T E : Type 0} {track : ℕ} {xs : List Record} {old new : Meaning (List File)} {result : Result T E} (f0 f1 : Facts) (unit : ℕ) (b0 b1 : Buffer) → f1.units ≡ f0.units → b1 ≡ record b0 { track = b1.track; records = b1.records } → WritesOn (name_in f1 unit) b1.geometry track xs old new result
    → WritesOn (name_in f0 unit) b0.geometry track xs old new result
writes_in {track = track} {xs = xs} {old = old} {new = new} {result = result} f0 f1 unit b0 b1 units buffer w =
    subst (λ (us : List Attached). WritesOn (unit_of us unit).name b0.geometry track xs old new result) units
    (subst (λ (b : Buffer). WritesOn (name_in f1 unit) b.geometry track xs old new result) buffer w)

pub same_unit : (b0 b1 b2 : Buffer) (unit track : ℕ) → b0.unit ≡ unit → b1 ≡ record b0 { track = b1.track; records = b1.records } → b2 ≡ record b1 { unit = unit; track = track; records = b2.records } → b2 ≡ record b0 { track = b2.track; records = b2.records }
same_unit b0 b1 b2 unit track same one two =
    let geometry : b1.geometry ≡ b0.geometry = ap (λ (b : Buffer). b.geometry) one in
    let on : track ≡ b2.track = sym (ap (λ (b : Buffer). b.track) two) in
    let number : unit ≡ b0.unit = sym same in
    two ∙ (λ i. record { geometry = geometry i; unit = number i; track = on i; records = b2.records })
