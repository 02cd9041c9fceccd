-- The records that the buffer of an index holds of its track, up to the last block of a data set.
use Rattle.std.proofs.Common.{◌≡◌, ◌⊎◌, ◌+◌, ◌/◌, ◌%◌, ◌≤◌, ◌<◌, ℕ, true, List, [], length, take, None, Option, Some, ⊎_elim, sym, ap, ◌∙◌, subst, arith}
use Rattle.std.specs.Prelude.{slice_get}
use Rattle.std.specs.List.{list_all}
use Rattle.std.proofs.lemmas.List.{take_all}
use Rattle.ckd_image.specs.declared.header.Geometry.{Geometry}
use Rattle.ckd_image.specs.Header.{HasGeometry}
use Rattle.ckd_image.specs.Track.{Record}
use Rattle.ckd_image.proofs.GeometryLemmas.{has_geometry}
use Rattle.dscb_codec.specs.declared.F1.{F1}
use Rattle.hall_core.specs.Facts.{Attached}
use Rattle.pack_spec.specs.Blocks.{is_block}
use Rattle.pack_spec.specs.Label.{heads_of, records_on, track_bytes, tracks_of}
use Rattle.track_records.specs.Appends.{end_of}
use Rattle.track_records.specs.Buffers.{Buffer}
use Rattle.track_records.specs.Calls.{HasTrack}
use Rattle.track_records.specs.Updates.{offset_of}
use Rattle.track_records.specs.Written.{StandsOn}
use Rattle.track_records.proofs.ContinueLemmas.{track_patched}
use Rattle.track_records.proofs.FrontLemmas.{first_of, room_of}
use Rattle.vol_model.specs.declared.contents.Place.{Place}
use Rattle.vtoc_index.specs.declared.vol.Vol.{Vol}
use Rattle.vtoc_index.specs.Index.{IsOfUnit}
use Rattle.vtoc_sets.specs.Sets.{HasSet}
use Rattle.seq_access.specs.Bodies.{owned_in}
use Rattle.seq_access.specs.Writing.{AreThere, HoldsLast, IsRoomy}

stands_up_to : (image : List ℕ) (b : Buffer) → StandsOn image b → records_on image b.geometry (Some (length b.records)) b.track ≡ Some b.records
unfolding records_on
stands_up_to image b stands =
    first_of (b.track / heads_of b.geometry) (b.track % heads_of b.geometry) stands.0 (track_bytes image b.geometry b.track) b.records stands.1 (length b.records) (omega arith)
    ∙ ap (λ (l : List Record). Some l) (take_all (length b.records) b.records (omega arith))

-- a buffer with so many records holds those up to the one of that number
pub held_up_to : (image : List ℕ) (b : Buffer) (g : Geometry) (r t : ℕ) → b.geometry ≡ g → b.track ≡ t → length b.records ≡ r → 1 ≤ r → (b.records ≡ []) ⊎ StandsOn image b → records_on image g (Some r) t ≡ Some b.records
held_up_to image b g r t geometry track count first held =
    let P : Geometry → ℕ → ℕ → Type 0 = λ g r t. records_on image g (Some r) t ≡ Some b.records in
    subst (λ (x : Geometry). P x r t) geometry (subst (λ (n : ℕ). P b.geometry n t) count (subst (λ (n : ℕ). P b.geometry (length b.records) n) track (stands_up_to image b (⊎_elim (λ empty. absurd (omega (arith, ap length empty, count, first))) (λ stands. stands) held))))

-- a track has room for the records that are read of it, and an end marker
room_on : (image : List ℕ) (g : Geometry) (u : Option ℕ) (t : ℕ) (xs : List Record) → HasGeometry (length image) g → t < tracks_of g → records_on image g u t ≡ Some xs → 21 + offset_of xs (length xs) + 8 ≤ g.track_size
unfolding records_on
room_on image g u t xs has inside is =
    let long : length (track_bytes image g t) ≡ g.track_size = (track_patched g t 0 [] image has inside (omega arith)).long in
    omega (arith, room_of (t / heads_of g) (t % heads_of g) u (track_bytes image g t) xs is, long)

one_some : {X : Type 0} {a b : X} {o : Option X} → o ≡ Some a → o ≡ Some b → a ≡ b
one_some {a = a} {b = b} one other = let both : Some a ≡ Some b = sym one ∙ other in cc

module _ (image : List ℕ) (v : Vol) (set : F1) (last : Place) (track : ℕ) (there : AreThere image v set last) (owned : slice_get (owned_in image v set) last.tt ≡ Some track) where
  stands_there : records_on image v.geometry (Some last.r) track ≡ Some there.records
  stands_there = ap (records_on image v.geometry (Some last.r)) (one_some owned there.owned) ∙ there.stand

  pub some_there : records_on image v.geometry (Some last.r) track ≡ None → ⊥
  some_there none = let both : Some there.records ≡ None = sym stands_there ∙ none in cc

  -- its records can be blocks and leave that room
  pub roomy_there : (xs : List Record) → HasSet image v set → track < tracks_of v.geometry → records_on image v.geometry (Some last.r) track ≡ Some xs → (list_all is_block xs ≡ true) × (21 + offset_of xs (length xs) + 8 ≤ v.geometry.track_size)
  roomy_there xs has inside is = (
    ap (list_all is_block) (one_some is stands_there) ∙ there.blocks,
    room_on image v.geometry (Some last.r) track xs (has_geometry (take 512 image) (length image) v.geometry has.mounted.index.header) inside is,
  )

pub roomy_by : (units : List Attached) (v : Vol) → IsOfUnit units v → v.buf.track < tracks_of v.geometry → length v.buf.records ≤ 255 → list_all is_block v.buf.records ≡ true → end_of v.buf + 8 ≤ v.geometry.track_size → IsRoomy units v.buf
roomy_by units v unit inside few blocks room =
    let P : ℕ → Geometry → Type 0 = λ n g. HasTrack units n g v.buf.track in
    let here : P v.unit v.geometry = record { attached = unit.attached; whole = unit.whole; inside = inside } in
    record {
      track = subst (λ (g : Geometry). P v.buf.unit g) (sym unit.buffer.0) (subst (λ (n : ℕ). P n v.geometry) (sym unit.buffer.1) here);
      few = few;
      blocks = blocks;
      room = omega (arith, room, ap (λ (g : Geometry). g.track_size) unit.buffer.0);
    }

pub held_by : (image : List ℕ) (v v' : Vol) (set : F1) (last : Place) (track : ℕ) → v' ≡ record v { buf = v'.buf } → v'.buf.track ≡ track → slice_get (owned_in image v set) last.tt ≡ Some track → records_on image v.geometry (Some last.r) track ≡ Some v'.buf.records → HoldsLast image v' set last
held_by image v v' set last track same at owned stand =
    subst (λ (x : Vol). HoldsLast image x set last) (sym same) (record {
      owned = owned ∙ ap (λ (t : ℕ). Some t) (sym at);
      stand = ap (records_on image v.geometry (Some last.r)) at ∙ stand;
    })
