-- The end of a writer's blocks: what is written after the last one is none of them, and all is made durable.
use Rattle.std.proofs.Common.{◌≡◌, ◌≤◌, ◌<◌, ℕ, zero, suc, true, List, [], ◌++◌, length, map, drop, Result, refl, sym, ap, ◌∙◌, subst, arith, ⊎_elim}
use Rattle.std.specs.Prelude.{OnOk, Some, slice_get}
use Rattle.std.proofs.lemmas.Result.{on_ok_weaker}
use Rattle.ckd_image.specs.Fit.{balance, fits}
use Rattle.ckd_image.specs.Track.{Record}
use Rattle.ckd_image.specs.declared.device.DiskType.{DiskType}
use Rattle.ckd_image.specs.declared.device.DiskType.TheVariants.{D2311, D2314, D3330, D3350}
use Rattle.dscb_codec.specs.declared.F1.{F1}
use Rattle.stop_model.specs.Files.{AfterSync, File}
use Rattle.stop_model.specs.Moments.{Elapses, IsDurable, LeftNow, Meaning, Same}
use Rattle.stop_model.proofs.MomentLemmas.{elapses_from_exactly, elapses_none, elapses_then, elapses_weaker}
use Rattle.vol_model.specs.declared.contents.Block.{Block}
use Rattle.vol_model.specs.declared.contents.Body.TheVariants as bodies
use Rattle.vol_model.specs.declared.contents.Place.{Place}
use Rattle.pack_spec.specs.Label.{records_on}
use Rattle.pack_spec.specs.Volume.{attr_of}
use Rattle.vol_model.specs.declared.answers.Mode.TheVariants.{Fill}
use Rattle.vol_model.specs.Places.{Content, content, next_place, placed}
use Rattle.vol_model.specs.Shelf.{fits_mode}
use Rattle.vtoc_index.specs.declared.vol.Vol.{Vol}
use Rattle.vtoc_index.specs.Index.{IsMounted}
use Rattle.free_rebuild.specs.Durable.{LeavesAll}
use Rattle.free_rebuild.specs.Repairs.{image_named}
use Rattle.seq_access.specs.declared.writer.Writer.{Writer}
use Rattle.seq_access.specs.Bodies.{HasBlocks, last_in, owned_in}
use Rattle.seq_access.specs.Writing.{AreSpared, AreThere, EndsWithNothing, HasEnd, HasSetBy, HoldsLast, IsBalanceOf, IsWriting, Spares, sizes, body_so_far, has_put, puts_in, written_by}
use Rattle.seq_access.proofs.NextPlaces.{contents_behind}
use Rattle.vtoc_sets.proofs.OwnedSets.{outside}
use Rattle.vtoc_sets.proofs.Owners.{data_read}
use Rattle.seq_access.proofs.PutPlaces.{set_of, standing}
use Rattle.seq_access.proofs.SparedCalls.{spares_then, spares_with}
use Rattle.vtoc_sets.proofs.OwnedSets.{own_inside}
use Rattle.seq_access.proofs.WritersKept.{puts_with, writing_with}

-- an end-of-file record fits an empty track
pub fits_end : (device : DiskType) → fits device [] 0 0 ≡ true
fits_end D2311 = refl
fits_end D2314 = refl
fits_end D3330 = refl
fits_end D3350 = refl

nothing_dropped : (n : ℕ) → map content (drop n []) ≡ []
nothing_dropped zero = refl
nothing_dropped (suc n) = refl

-- where a block was put, the last one is a record after R0
pub first_put : (image : List ℕ) (v : Vol) (w : Writer) (is : IsWriting image v w) → has_put w ≡ true → w.last.tt < 65536 → w.last.r < 256 → 1 ≤ w.last.r
first_put image v w is put low small = ⊎_elim
    (λ none. absurd (is.some put (
    sym (contents_behind v.geometry.device is.old (puts_in image v is.f w))
    ∙ ap (λ (bs : List Block). map content (drop (length is.old) bs)) none.1
    ∙ nothing_dropped (length is.old))))
    (λ parts. parts.first)
    (standing image v w is low small)

-- and its track is read up to it
pub there_put : (image : List ℕ) (v : Vol) (w : Writer) (is : IsWriting image v w) → has_put w ≡ true → w.last.tt < 65536 → w.last.r < 256 → AreThere image v is.f w.last
there_put image v w is put low small = ⊎_elim
    (λ none. absurd (omega (arith, first_put image v w is put low small, ap (λ (p : Place). p.r) none.0)))
    (λ parts. record {
      first = parts.first;
      track = parts.track;
      owned = parts.there;
      records = parts.records;
      stand =
          sym (data_read image v.geometry v.vtoc (Some w.last.r) parts.track (outside image v is.f (set_of image v w is) w.last.tt parts.track parts.there) (own_inside image v is.f (set_of image v w is) w.last.tt parts.track parts.there))
          ∙ parts.read;
      blocks = parts.blocks;
    })
    (standing image v w is low small)

-- the balance of the track that a buffer holds up to the last block
pub balance_held : (image : List ℕ) (v0 v1 : Vol) (f : F1) (last : Place) (n : ℕ) → v1 ≡ record v0 { buf = v1.buf } → HoldsLast image v1 f last → n ≡ balance v0.geometry.device (map sizes v1.buf.records) → IsBalanceOf image v0 f last n
balance_held image v0 v1 f last n same held is track records own read =
    let here : HoldsLast image (record v0 { buf = v1.buf }) f last = subst (λ (u : Vol). HoldsLast image u f last) same held in
    let one : v1.buf.track ≡ track = same_track v1.buf.track track (sym here.owned ∙ own) in
    let both : v1.buf.records ≡ records = same_records v1.buf.records records (sym here.stand ∙ ap (records_on image v0.geometry (Some last.r)) one ∙ read) in
    is ∙ ap (λ (rs : List Record). balance v0.geometry.device (map sizes rs)) both
  where
    same_track : (x y : ℕ) → Some x ≡ Some y → x ≡ y
    same_track x y e = cc

    same_records : (x y : List Record) → Some x ≡ Some y → x ≡ y
    same_records x y e = cc

-- a writer stands on the same image with another buffer of the index
module _ (i0 i1 : List ℕ) (v0 v1 : Vol) (w : Writer) (image : i1 ≡ i0) (same : v1 ≡ record v0 { buf = v1.buf }) (mounted : IsMounted i0 v1) where
  abbrev now : Vol
  now = record v0 { buf = v1.buf }

  there : IsMounted i0 now
  there = subst (IsMounted i0) same mounted

  pub moved_writing : IsWriting i0 v0 w → IsWriting i1 v1 w
  moved_writing is =
      let here : IsWriting i0 now w = writing_with i0 v0 v1.buf w is there in
      subst (λ (v : Vol). IsWriting i1 v w) (sym same) (subst (λ (i : List ℕ). IsWriting i now w) (sym image) here)

  -- what is told of it by that buffer holds
  pub blocks_back : (is : IsWriting i0 v0 w) (i2 : List ℕ) (v2 : Vol) → ((x : IsWriting i1 v1 w) → HasBlocks (body_so_far i2 v2 x.f w) (written_by x)) → HasBlocks (body_so_far i2 v2 is.f w) (written_by is)
  blocks_back is i2 v2 told =
      let by_image : (x : IsWriting i0 v1 w) → HasBlocks (body_so_far i2 v2 x.f w) (written_by x) = subst (λ (i : List ℕ). (x : IsWriting i v1 w) → HasBlocks (body_so_far i2 v2 x.f w) (written_by x)) image told in
      let by_index : (x : IsWriting i0 now w) → HasBlocks (body_so_far i2 v2 x.f w) (written_by x) = subst (λ (v : Vol). (x : IsWriting i0 v w) → HasBlocks (body_so_far i2 v2 x.f w) (written_by x)) same by_image in
      by_index (writing_with i0 v0 v1.buf w is there) ∙ ap (λ (cs : List Content). bodies.Seq (is.old ++ placed v0.geometry.device (bodies.Seq is.old) cs)) (puts_with i0 v0 v1.buf is.f w)

  pub end_back : (is : IsWriting i0 v0 w) (i2 : List ℕ) → ((x : IsWriting i1 v1 w) → fits_mode Fill x.f.name (attr_of x.f) ≡ true → HasEnd x i2) → fits_mode Fill is.f.name (attr_of is.f) ≡ true → HasEnd is i2
  end_back is i2 told fill =
      let by_image : (x : IsWriting i0 v1 w) → fits_mode Fill x.f.name (attr_of x.f) ≡ true → HasEnd x i2 = subst (λ (i : List ℕ). (x : IsWriting i v1 w) → fits_mode Fill x.f.name (attr_of x.f) ≡ true → HasEnd x i2) image told in
      let by_index : (x : IsWriting i0 now w) → fits_mode Fill x.f.name (attr_of x.f) ≡ true → HasEnd x i2 = subst (λ (v : Vol). (x : IsWriting i0 v w) → fits_mode Fill x.f.name (attr_of x.f) ≡ true → HasEnd x i2) same by_image in
      subst (λ (cs : List Content). (track : ℕ) → slice_get (owned_in i0 v0 is.f) (next_place v0.geometry.device (bodies.Seq (is.old ++ placed v0.geometry.device (bodies.Seq is.old) cs)) ([], [])).tt ≡ Some track
      → EndsWithNothing i2 v0.geometry track (next_place v0.geometry.device (bodies.Seq (is.old ++ placed v0.geometry.device (bodies.Seq is.old) cs)) ([], [])).r)
      (puts_with i0 v0 v1.buf is.f w) (by_index (writing_with i0 v0 v1.buf w is there) fill)

  pub spares_from : {T E : Type 0} (is : IsWriting i0 v0 w) (n0 n1 : List ℕ) (m0 m1 m2 : Meaning (List File)) (r : Result T E) → n1 ≡ n0 → Same m0 m1 → ((x : IsWriting i1 v1 w) → Spares n1 v1 x.f (last_in i1 v1 x.f) m1 m2 r) → Spares n0 v0 is.f (last_in i0 v0 is.f) m0 m2 r
  spares_from is n0 n1 m0 m1 m2 r names quiet told =
      let by_name : (x : IsWriting i1 v1 w) → Spares n0 v1 x.f (last_in i1 v1 x.f) m1 m2 r = subst (λ (n : List ℕ). (x : IsWriting i1 v1 w) → Spares n v1 x.f (last_in i1 v1 x.f) m1 m2 r) names told in
      let by_image : (x : IsWriting i0 v1 w) → Spares n0 v1 x.f (last_in i0 v1 x.f) m1 m2 r = subst (λ (i : List ℕ). (x : IsWriting i v1 w) → Spares n0 v1 x.f (last_in i v1 x.f) m1 m2 r) image by_name in
      let by_index : (x : IsWriting i0 now w) → Spares n0 now x.f (last_in i0 now x.f) m1 m2 r = subst (λ (v : Vol). (x : IsWriting i0 v w) → Spares n0 v x.f (last_in i0 v x.f) m1 m2 r) same by_image in
      spares_then n0 v0 is.f (last_in i0 v0 is.f) m0 m1 m2 r quiet (spares_with n0 v0 is.f (last_in i0 v0 is.f) v1.buf m1 m2 r (by_index (writing_with i0 v0 v1.buf w is there)))

-- the same blocks on an image that is the same
pub blocks_same_image : (i0 i1 : List ℕ) (v0 v1 : Vol) (w : Writer) (is : IsWriting i0 v0 w) → i1 ≡ i0 → v1 ≡ record v0 { buf = v1.buf } → HasBlocks (body_so_far i1 v1 is.f w) (written_by is)
blocks_same_image i0 i1 v0 v1 w is image same =
    ap (λ (i : List ℕ). body_so_far i v1 is.f w) image ∙ ap (λ (v : Vol). body_so_far i0 v is.f w) same ∙ is.so_far

-- What a stop leaves of calls after which only a sync comes, or nothing.
pub leaves_all : {T E U D : Type 0} (name : List ℕ) (v : Vol) (f : F1) (last : Place) (m0 m1 m2 : Meaning (List File)) (r : Result T E) (answer : Result U D) → Spares name v f last m0 m1 r → OnOk answer (IsDurable m2) → m2.state ≡ m1.state → m2.printed ≡ m1.printed → Elapses m1 m2 (LeftNow m1)
    → (before : List File) → HasSetBy (image_named before name) v f → ((files : List File) → m0.left files → AreSpared name v f last before files) → AreSpared name v f last before m0.state → LeavesAll (AreSpared name v f last before) m0 m2 answer
leaves_all name v f last m0 m1 m2 r answer spares durable state printed time before set left here =
    let k = spares before set left here in
    record {
      done = on_ok_weaker answer (λ d. (d, subst (AreSpared name v f last before) (sym state) k.1)) durable;
      printed = printed ∙ k.0.printed;
      moments = elapses_then k.0.moments (elapses_weaker time (λ files p now. (k.0.left files now.0, now.1 ∙ k.0.printed)));
    }

pub no_time : (m : Meaning (List File)) → Elapses m m (LeftNow m)
no_time m = elapses_none m (LeftNow m)

pub sync_time : {T E : Type 0} (m1 m2 : Meaning (List File)) (r : Result T E) → AfterSync m1 m2 r → Elapses m1 m2 (LeftNow m1)
sync_time m1 m2 r sync = elapses_from_exactly sync.time (λ files p now. now)
