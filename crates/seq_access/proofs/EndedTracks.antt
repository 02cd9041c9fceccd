-- The end marker is written after the last block of a set into which none was put yet.
use Rattle.std.proofs.Common.{◌≡◌, ◌+◌, ◌/◌, ◌%◌, ◌≤◌, ◌<◌, ℕ, false, List, [], length, take, drop, None, Some, Result, inr, refl, sym, ap, ◌∙◌, subst, arith}
use Rattle.std.specs.Prelude.{slice_get}
use Rattle.std.proofs.lemmas.List.{append-nil, take_all}
use Rattle.ckd_image.specs.declared.header.Geometry.{Geometry}
use Rattle.ckd_image.specs.Track.{Record}
use Rattle.ckd_image.proofs.GeometryLemmas.{has_geometry}
use Rattle.ckd_image.proofs.Grammar.{read_past, reads_front}
use Rattle.hall_core.specs.Facts.{Attached}
use Rattle.free_rebuild.specs.Repairs.{image_named}
use Rattle.stop_model.specs.Files.{AfterWrite, File}
use Rattle.stop_model.specs.Moments.{Meaning}
use Rattle.pack_spec.specs.Blocks.{owned_tracks}
use Rattle.pack_spec.specs.Label.{heads_of, records_on, track_bytes, tracks_of}
use Rattle.track_records.specs.Appends.{IsSealed, continuation, place_behind, start_behind}
use Rattle.track_records.specs.Buffers.{Buffer}
use Rattle.track_records.specs.Written.{StandsOn}
use Rattle.track_records.proofs.ContinueLemmas.{length-end}
use Rattle.pack_spec.proofs.FrontRecords.{count_up}
use Rattle.vol_model.specs.declared.contents.Body.{Body}
use Rattle.vol_model.specs.declared.contents.Body.TheVariants.{Seq}
use Rattle.vol_model.specs.declared.contents.Place.{Place}
use Rattle.vol_model.specs.declared.contents.Run.{Run}
use Rattle.vtoc_index.specs.declared.vol.Vol.{Vol}
use Rattle.vtoc_index.specs.Last.{lstar_of}
use Rattle.vtoc_sets.specs.Sets.{HasSet, extents_in}
use Rattle.seq_access.specs.declared.writer.Writer.{Writer}
use Rattle.seq_access.specs.Bodies.{IsSetIn, IsWritable, body_of_set, body_upto, last_in, last_read, owned_in}
use Rattle.seq_access.specs.Writing.{DifferBehind, HasSetBy, HoldsLast, IsEnded, IsRoomy, IsWriting, Spares, front_in, has_put}
use Rattle.seq_access.proofs.Begins.{begun_at}
use Rattle.seq_access.proofs.PutPlaces.{ends_of, last_low, last_small, set_of, some_of}
use Rattle.seq_access.proofs.SparedCalls.{differ_by, differ_none}
use Rattle.seq_access.proofs.SparedFiles.{MayWrite, spared_pends}
use Rattle.seq_access.proofs.SparedImages.{same_extents, spared_write}
use Rattle.seq_access.proofs.SparedSets.{bare, bare_set, body_kept, front_kept, set_kept, tracks_kept}
use Rattle.seq_access.proofs.WritersKept.{set_by}

-- so many records are read up to one of that number
pub count_on : (image : List ℕ) (g : Geometry) (r t : ℕ) (xs : List Record) → records_on image g (Some r) t ≡ Some xs → length xs ≡ r
unfolding records_on
count_on image g r t xs is =
    let c : ℕ = t / heads_of g in
    let h : ℕ = t % heads_of g in
    let bytes : List ℕ = track_bytes image g t in
    count_up r 1 (drop 21 bytes) xs (sym (read_past c h (Some r) bytes (reads_front c h (Some r) xs bytes is)) ∙ is)

module _ (units : List Attached) (image : List ℕ) (v : Vol) (w : Writer) (is : IsWriting image v w) (held : HoldsLast image v is.f w.last)
    (fresh : has_put w ≡ false) (first : 1 ≤ w.last.r) (geometry : v.buf.geometry ≡ v.geometry) (roomy : IsRoomy units v.buf) where
  abbrev b : Buffer
  b = v.buf

  abbrev last : Place
  last = last_in image v is.f

  at : w.last ≡ last
  at = is.begun fresh

  first_own : 1 ≤ last.r
  first_own = subst (λ (p : Place). 1 ≤ p.r) at first

  owned_own : slice_get (owned_in image v is.f) last.tt ≡ Some b.track
  owned_own = subst (λ (p : Place). slice_get (owned_in image v is.f) p.tt ≡ Some b.track) at held.owned

  stand_own : records_on image v.geometry (Some last.r) b.track ≡ Some b.records
  stand_own = subst (λ (p : Place). records_on image v.geometry (Some p.r) b.track ≡ Some b.records) at held.stand

  count_own : length b.records ≡ last.r
  count_own = count_on image v.geometry last.r b.track b.records stand_own

  room_own : start_behind b.records + length (continuation b []) ≤ v.geometry.track_size
  room_own = omega (arith, roomy.room, length-end (b.track / heads_of b.geometry) (b.track % heads_of b.geometry) b.records, ap (λ (g : Geometry). g.track_size) geometry)

  -- it may be written
  pub may_seal : (before : List ℕ) → HasSetBy before v is.f → DifferBehind v is.f last before image → MayWrite before v is.f last b []
  may_seal before set differ =
      let empty : Buffer = record b { records = [] } in
      let there : IsSetIn before (record v { buf = empty }) is.f = record { set = set; slot = w.slot; dscb = is.slot } in
      let extents : extents_in image v is.f ≡ extents_in before v is.f = same_extents before image (record v { buf = empty }) is.f there last (differ_by v empty is.f last before image differ) is.f in
      let mine : slice_get (owned_in before v is.f) last.tt ≡ Some b.track = ap (λ (xs : List Run). slice_get (owned_tracks xs) last.tt) (sym extents) ∙ owned_own in
      let all : take last.r b.records ≡ b.records = take_all last.r b.records (omega (arith, count_own)) in
      record {
        geometry = geometry;
        whole = has_geometry (take 512 before) (length before) v.geometry set.mounted.index.header;
        inside = subst (λ (g : Geometry). b.track < tracks_of g) geometry roomy.track.inside;
        room = room_own;
        k = last.tt;
        owned = mine;
        past = omega arith;
        first = λ same low. (omega (arith, count_own), sym (differ.kept b.track mine first_own) ∙ stand_own ∙ ap (λ (l : List Record). Some l) (sym all));
      }

  -- files in which it is written or pending
  pub spares_sealed : {T E : Type 0} (name other : List ℕ) (old new : Meaning (List File)) (result : Result T E) → image ≡ image_named old.state name → other ≡ name → AfterWrite {T = T} {E = E} other (place_behind b) (continuation b []) old new result → Spares name v is.f last old new result
  spares_sealed {T = T} {E = E} name other old new result same alike wrote before set left here =
      spared_pends name before v is.f last b [] (may_seal (image_named before name) set (subst (DifferBehind v is.f last (image_named before name)) (sym same) here.image)) old new result
      (subst (λ (n : List ℕ). AfterWrite {T = T} {E = E} n (place_behind b) (continuation b []) old new result) alike wrote) left here

  module _ (image' : List ℕ) (sealed : IsSealed b image image') (stands : StandsOn image' b) where
    differ_own : DifferBehind v is.f last image image'
    differ_own =
        let may = may_seal image (set_by image v (record b { records = [] }) is.f is.set refl) (differ_none v is.f last image) in
        subst (DifferBehind v is.f last image) (sym sealed.bytes)
        (spared_write image image v is.f last b [] may.k may.geometry may.whole may.inside may.room may.owned may.past may.first (differ_none v is.f last image))

    abbrev there_own : IsSetIn image (bare v) is.f
    there_own = bare_set image v is.f (set_of image v w is)

    set_own : HasSet image' v is.f
    set_own = set_kept image image' v is.f there_own last differ_own (ends_of image v w is) b (inr stands)

    body_own : body_of_set image' v is.f ≡ body_of_set image v is.f
    body_own = body_kept image image' v is.f there_own last differ_own (ends_of image v w is)

    last_own : last_in image' v is.f ≡ last
    last_own = ap (λ (x : Body). last_read x is.f.lstar) body_own

    ended_own : (track : ℕ) → slice_get (owned_in image v is.f) w.last.tt ≡ Some track → records_on image' v.geometry None track ≡ records_on image' v.geometry (Some w.last.r) track
    ended_own track mine =
        let both : Some b.track ≡ Some track = sym held.owned ∙ mine in
        let same : b.track ≡ track = cc in
        let before : records_on image b.geometry (Some w.last.r) b.track ≡ Some b.records = ap (λ (g : Geometry). records_on image g (Some w.last.r) b.track) geometry ∙ held.stand in
        let here : records_on image' b.geometry None b.track ≡ records_on image' b.geometry (Some w.last.r) b.track =
        sealed.records ∙ ap (λ (l : List Record). Some l) (append-nil b.records) ∙ sym before ∙ sym (sealed.earlier w.last.r first (omega (arith, count_on image v.geometry w.last.r b.track b.records held.stand))) in
        let there : records_on image' v.geometry None b.track ≡ records_on image' v.geometry (Some w.last.r) b.track = subst (λ (g : Geometry). records_on image' g None b.track ≡ records_on image' g (Some w.last.r) b.track) geometry here in
        subst (λ (t : ℕ). records_on image' v.geometry None t ≡ records_on image' v.geometry (Some w.last.r) t) same there

    -- and the writer stands as before
    pub ended_sealed : w.last.tt < 65536 → w.last.r < 256 → IsEnded image v is.f is.old w image' v
    ended_sealed low small =
        let front : front_in image' v is.f ≡ Seq is.old =
        ap (λ (p : Place). body_upto image' v is.f (lstar_of p)) last_own
        ∙ front_kept image image' v is.f there_own last differ_own (last_low image v w is low) (last_small image v w is) (some_of image v w is)
        ∙ is.front
        in
        let now = begun_at image' v is.f w is.old fresh is.slot set_own (subst IsWritable (sym body_own) is.writable) front (at ∙ sym last_own) in
        let was = begun_at image v is.f w is.old fresh is.slot is.set is.writable is.front at in
        record {
          writing = now.0;
          same = now.1;
          body = body_own;
          old = now.2;
          puts = now.3 ∙ sym was.3;
          tracks = tracks_kept image image' v is.f there_own last differ_own;
          ended = ended_own;
        }
