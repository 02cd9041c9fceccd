-- What a block that is put on one of several packs leaves of their files: they differ after the last block of one set alone.
use Rattle.std.proofs.Common.{◌≡◌, ℕ, List, [], Some, refl, sym, ap, ◌∙◌, subst}
use Rattle.std.specs.Prelude.{Result, slice_get}
use Rattle.dscb_codec.specs.declared.Dscb.TheVariants as formats
use Rattle.dscb_codec.specs.declared.F1.{F1}
use Rattle.free_rebuild.specs.Repairs.{image_named}
use Rattle.free_rebuild.proofs.SettledBool.{settled_vtoc}
use Rattle.stop_model.specs.Files.{File}
use Rattle.stop_model.specs.Moments.{Elapses, Meaning}
use Rattle.stop_model.specs.Steps.{seen}
use Rattle.stop_model.proofs.MomentLemmas.{elapses_seen, elapses_weaker}
use Rattle.pack_spec.specs.Settled.{IsGuarded}
use Rattle.track_records.specs.Buffers.{Buffer}
use Rattle.vol_model.specs.declared.contents.Place.{Place}
use Rattle.vol_model.specs.Shelf.{put_first}
use Rattle.vtoc_index.specs.declared.vol.Vol.{Vol}
use Rattle.vtoc_index.specs.Index.{IsMounted}
use Rattle.vtoc_index.proofs.KeptLemmas.{kept_of, mounted_of}
use Rattle.vtoc_sets.specs.Sets.{volume_in}
use Rattle.seq_access.specs.declared.writer.Writer.{Writer as BlockWriter}
use Rattle.seq_access.specs.Bodies.{IsLastOf, IsSetIn, body_of_set, last_in}
use Rattle.seq_access.specs.Writing.{AreSpared, HasSetBy, IsWriting, Spares, puts_in}
use Rattle.seq_access.proofs.SparedCalls.{differ_by, differ_none}
use Rattle.seq_access.proofs.SparedSets.{bare}
use Rattle.seq_access.proofs.WritersKept.{puts_with, set_by, writing_with}
use Rattle.shelf_machine.specs.Fronts.{BeginsWell}
use Rattle.pack_machine.specs.Ready.{IsKeptSettled}
use Rattle.shelf_machine.specs.Machine.{shelf_under}
use Rattle.shelf_machine.specs.Pending.{IsWriterOn, IsWritingBy, LeavesSpared}
use Rattle.shelf_machine.specs.SparedShelves.{guarded_still, last_same, settled_still, shelf_spared, spared_rebased}
use Rattle.pack_machine.specs.Standing.{DirectoriesStay}
use Rattle.shelf_machine.specs.declared.writer.Writer.{Writer}
use Rattle.pack_machine.proofs.PackedBlocks.{pending_image}
use Rattle.pack_machine.proofs.PackedImages.{image_packed, packed_image}
use Rattle.shelf_machine.proofs.Pendings.{by_writing, writing_of}
use Rattle.shelf_machine.proofs.Promises.{settled_guarded}
use Rattle.pack_machine.proofs.StayingBlocks.{pending_stays, pending_volume}

-- What a call leaves that spared the images: what is read, what a stop leaves and what one in it left differ after the last record of the set alone.
pub record LeavesBehind (name : List ℕ) (v : Vol) (f : F1) (m m' : Meaning (List File)) : Type 0 where
  pub here : AreSpared name v f (last_in (image_named m.state name) v f) m.state m'.state
  pub left : (files : List File) → m'.left files
      → AreSpared name v f (last_in (image_named m.state name) v f) m.state files
  pub printed : m'.printed ≡ m.printed
  pub moments : Elapses m m' (λ files p. AreSpared name v f (last_in (image_named m.state name) v f)
      m.state files × (p ≡ m.printed))

-- a writer whose blocks stand on another image, under another buffer
pub writer_stands : (image after : List ℕ) (v : Vol) (b : Buffer) (w : Writer) (i : BlockWriter) → i.slot ≡ w.inner.slot → IsWriterOn image v w → (is : IsWriting after (record v { buf = b }) i) → body_of_set after v is.f ≡ body_of_set image v is.f → BeginsWell w.owes_end_of_file (puts_in after (record v { buf = b }) is.f i)
    → IsWriterOn after (record v { buf = b }) (record w { inner = i })
writer_stands image after v b w i slot on is body begins = record {
  fits = λ x at. on.fits x (was x at);
  first = λ x at. ap (put_first w.mode) (subst (λ (y : F1). body_of_set after v y ≡ body_of_set image v y) (one_set x at) body) ∙ on.first x (was x at);
  begins = λ x at. subst (λ (y : F1). BeginsWell w.owes_end_of_file (puts_in after (record v { buf = b }) y i)) (one_set x at) begins;
  writing = λ x at. subst (λ (y : F1). IsWritingBy after (record v { buf = b }) y i) (one_set x at) (by_writing after (record v { buf = b }) i is);
}
  where
    was : (x : F1) → slice_get v.slots.items i.slot ≡ Some (formats.F1 x) → slice_get v.slots.items w.inner.slot ≡ Some (formats.F1 x)
    was x at = ap (slice_get v.slots.items) (sym slot) ∙ at

    one_set : (x : F1) → slice_get v.slots.items i.slot ≡ Some (formats.F1 x) → is.f ≡ x
    one_set x at = let both : Some (formats.F1 is.f) ≡ Some (formats.F1 x) = sym is.slot ∙ at in cc

module _ (name : List ℕ) (m : Meaning (List File)) (v : Vol) (kept : IsKeptSettled (image_named m.state name) v) (w : Writer) (on : IsWriterOn (image_named m.state name) v w) (spared : LeavesSpared name m v w)
    (f : F1) (there : slice_get v.slots.items w.inner.slot ≡ Some (formats.F1 f)) where
  abbrev image : List ℕ
  image = image_named m.state name

  abbrev by : IsWritingBy image v f w.inner
  by = on.writing f there

  -- the last record of the set, after which blocks may be put
  abbrev last : Place
  last = last_in image v f

  ends : IsLastOf image v f last
  ends = (by.writable, refl)

  set_here : HasSetBy image v f
  set_here = set_by image v (record (v.buf) { records = [] }) f (record { mounted = mounted_of image v kept.kept; extents = by.extents }) refl

  -- where a block isn't put the writer stands as before, under another buffer
  pub stands_still : (m' : Meaning (List File)) (b : Buffer) → m'.state ≡ m.state → IsMounted (image_named m'.state name) (record v { buf = b }) → IsWriterOn (image_named m'.state name) (record v { buf = b }) w
  stands_still m' b state mounted =
      let is : IsWriting image v w.inner = writing_of image v f w.inner kept.kept there by in
      let now : IsMounted image (record v { buf = b }) = subst (λ (fs : List File). IsMounted (image_named fs name) (record v { buf = b })) state mounted in
      subst (λ (fs : List File). IsWriterOn (image_named fs name) (record v { buf = b }) w) (sym state) (writer_stands image image v b w w.inner refl on (writing_with image v b w.inner is now) refl (subst (BeginsWell w.owes_end_of_file) (sym (puts_with image v b f w.inner)) (on.begins f there)))

  -- by the clause of a put
  pub leaves_behind : {T E : Type 0} (m' : Meaning (List File)) (r : Result T E) → Spares name v f last m m' r → LeavesBehind name v f m m'
  leaves_behind m' r spares =
      let none : AreSpared name v f last m.state m.state = record { image = differ_none v f last image; others = λ other apart. refl } in
      let k = spares m.state set_here (spared f there) none in
      record { here = k.1; left = k.0.left; printed = k.0.printed; moments = k.0.moments }

  module _ (m' : Meaning (List File)) (leaves : LeavesBehind name v f m m') (names : List (List ℕ)) where
    same_shelf : (files : List File) → AreSpared name v f last m.state files → shelf_under names files ≡ shelf_under names m.state
    same_shelf files differ = shelf_spared name m.state v f w.inner.slot there kept.kept by.extents last ends files differ names

    -- the shelf stays
    pub shelf_stays : shelf_under names m'.state ≡ shelf_under names m.state
    shelf_stays = same_shelf m'.state leaves.here

    pub shelf_moments : Elapses (seen (shelf_under names) m) (seen (shelf_under names) m') (λ s p. (s ≡ shelf_under names m.state) × (p ≡ m.printed))
    shelf_moments = elapses_seen (shelf_under names) (elapses_weaker leaves.moments (λ files p has. (same_shelf files has.0, has.1)))

    -- each image that is left is guarded
    pub guarded_left : (files : List File) → AreSpared name v f last m.state files → IsGuarded (image_named files name)
    guarded_left files differ =
        guarded_still image v f w.inner.slot there kept.kept by.extents last ends (image_named files name) differ.image (settled_guarded image (settled_vtoc image kept.settled))

    -- the index with another buffer is the image's, which is settled
    pub kept_still : (b : Buffer) → IsMounted (image_named m'.state name) (record v { buf = b }) → IsKeptSettled (image_named m'.state name) (record v { buf = b })
    kept_still b mounted = record {
      kept = kept_of (image_named m'.state name) (record v { buf = b }) mounted;
      settled = settled_still image v f w.inner.slot there kept.kept by.extents last ends (image_named m'.state name) leaves.here.image kept.settled;
      packed = image_packed (image_named m'.state name)
          (pending_image image (image_named m'.state name) v f (record { set = set_here; slot = w.inner.slot; dscb = there }) last leaves.here.image ends (packed_image image kept.packed));
    }

    -- the directories stay
    pub directories_still : DirectoriesStay image (image_named m'.state name) (volume_in image v) (volume_in (image_named m'.state name) v)
    directories_still =
        let image' : List ℕ = image_named m'.state name in
        let is_set : IsSetIn image (bare v) f = record { set = set_here; slot = w.inner.slot; dscb = there } in
        subst (DirectoriesStay image image' (volume_in image v)) (sym (pending_volume image image' v f is_set last leaves.here.image ends))
        (pending_stays image image' v f is_set last leaves.here.image ends (volume_in image v) set_here.mounted.volume)

    -- and what a stop leaves differs from what is read now after that block alone
    pub spared_still : (b : Buffer) (w' : Writer) → w'.inner.slot ≡ w.inner.slot → LeavesSpared name m' (record v { buf = b }) w'
    spared_still b w' same x at files left =
        let one : f ≡ x = one_set x (ap (slice_get v.slots.items) (sym same) ∙ at) in
        let differ : AreSpared name v f last m'.state files = spared_rebased name m.state v f w.inner.slot there kept.kept by.extents last ends m'.state leaves.here files (leaves.left files left) in
        let same_last : last_in (image_named m'.state name) v f ≡ last = last_same image v f w.inner.slot there kept.kept by.extents last ends (image_named m'.state name) leaves.here.image in
        let now : AreSpared name (record v { buf = b }) f last m'.state files = record { image = differ_by v b f last (image_named m'.state name) (image_named files name) differ.image; others = differ.others } in
        subst (λ (y : F1). AreSpared name (record v { buf = b }) y (last_in (image_named m'.state name) v y) m'.state files) one
        (subst (λ (p : Place). AreSpared name (record v { buf = b }) f p m'.state files) (sym same_last) now)
      where
        one_set : (x : F1) → slice_get v.slots.items w.inner.slot ≡ Some (formats.F1 x) → f ≡ x
        one_set x other = let both : Some (formats.F1 f) ≡ Some (formats.F1 x) = sym there ∙ other in cc
