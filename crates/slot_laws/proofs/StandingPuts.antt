-- An image of which one slot of the VTOC is put, but not slot 0: the volume that it stands for, the mark of an update, and its index.
use Rattle.std.proofs.Common.{◌≡◌, ◌≢◌, ℕ, ◌<◌, List, [], length, take, sym, ap, subst, ◌∙◌, arith}
use Rattle.std.specs.Prelude.{Ok, option_and_then, unwrap_or}
use Rattle.ckd_image.specs.Header.{geometry_of}
use Rattle.dscb_codec.specs.declared.Dscb.{Dscb}
use Rattle.dscb_codec.specs.Layout.{decoded}
use Rattle.stop_model.specs.Files.{patched}
use Rattle.pack_spec.specs.Alike.{DifferInVtoc}
use Rattle.pack_spec.specs.declared.slot.VtocSlot.{VtocSlot}
use Rattle.pack_spec.specs.Label.{label_of}
use Rattle.pack_spec.specs.Owned.{volume_faults}
use Rattle.pack_spec.specs.Rules.{slots_faults}
use Rattle.pack_spec.specs.Settled.{IsMarked, head_in}
use Rattle.pack_spec.specs.Slots.{slots_of_vtoc}
use Rattle.pack_spec.specs.Blocks.{data_tracks}
use Rattle.pack_spec.specs.Volume.{volume_by, volume_of, volume_with}
use Rattle.pack_spec.specs.Vtoc.{vtoc_of}
use Rattle.pack_spec.proofs.AlikeVolumes.{volume_is}
use Rattle.vol_model.specs.declared.contents.Volume.{Volume}
use Rattle.vol_model.specs.Space.{free_runs}
use Rattle.vtoc_index.specs.declared.vol.Vol.{Vol}
use Rattle.vtoc_index.specs.Index.{IsIndexOf, IsMounted, IsPut, place_of_slot, with_dscb}
use Rattle.vtoc_index.proofs.ExtentLaw.{extent_put, keeps_other, volume_put}
use Rattle.vtoc_index.proofs.PutLaw.{slot_found}
use Rattle.slot_laws.proofs.ChangedSlots.{changed_elsewhere}

-- the slots of the VTOC of an image, by an index
abbrev pub slots_by : List ℕ → Vol → List VtocSlot
slots_by image v = slots_of_vtoc image v.geometry v.vtoc

-- and its label
abbrev pub label_by : List ℕ → Vol → List ℕ
label_by image v = unwrap_or (label_of image v.geometry) []

-- the mark of an update stands in slot 0
pub marked_put : (slot : ℕ) (d : Dscb) (ss : List VtocSlot) → slot ≢ 0 → IsMarked ss → IsMarked (with_dscb slot d ss)
marked_put slot d ss other marked =
    (marked.0, ap (option_and_then (λ (s : VtocSlot). head_in s.content)) (changed_elsewhere slot 0 d ss (λ same. other (sym same))) ∙ marked.1, marked.2)

module _ (image put : List ℕ) (v : Vol) (slot : ℕ) (d : Dscb) (bytes : List ℕ) (mounted : IsMounted image v) (low : slot < length v.slots.items) (size : length bytes ≡ 140) (dscb : decoded bytes ≡ Ok d)
    (written : put ≡ patched image (place_of_slot v slot) bytes) (is : IsPut v slot d image put) (other : slot ≢ 0) where
  abbrev pub slots_put : List VtocSlot
  slots_put = with_dscb slot d (slots_by image v)

  abbrev pub volume_after : Volume
  volume_after = volume_with v.geometry (data_tracks image v.geometry v.vtoc) (label_by image v) v.vtoc slots_put

  extent : vtoc_of put v.geometry ≡ Ok v.vtoc
  extent = extent_put image put v slot d bytes mounted.index low size dscb written is mounted.vtoc (keeps_other slot d (slots_by image v) other)

  -- the VTOC alone is changed
  pub put_differs : DifferInVtoc v.geometry v.vtoc image put
  put_differs =
      let stands = (slot_found image v slot mounted.index low).stands in
      record {
        size = is.size;
        header = is.header;
        tracks = λ track outside. is.others track (λ same. outside (omega (arith, same), omega (arith, same, stands.inside)));
      }

  -- the mark stays
  pub put_marked : IsMarked (slots_by image v) → IsMarked (slots_by put v)
  put_marked marked = subst IsMarked (sym is.slots) (marked_put slot d (slots_by image v) other marked)

  module _ (lawful : slots_faults v.geometry slots_put ≡ []) (whole : volume_faults volume_after ≡ []) where
    header : geometry_of (take 512 put) (length put) ≡ Ok v.geometry
    header = ap (λ (bytes : List ℕ). geometry_of bytes (length put)) is.header ∙ ap (geometry_of (take 512 image)) is.size ∙ mounted.index.header

    good : slots_faults v.geometry (slots_by put v) ≡ []
    good = ap (slots_faults v.geometry) is.slots ∙ lawful

    same : volume_by put v.geometry v.vtoc ≡ volume_after
    same = volume_put image put v slot d is

    fine : volume_faults (volume_by put v.geometry v.vtoc) ≡ []
    fine = ap volume_faults same ∙ whole

    -- the image stands for the volume of these slots
    pub put_stands : volume_of put ≡ Ok volume_after
    put_stands = volume_is put v.geometry v.vtoc header extent is.tracks good fine ∙ ap (λ (x : Volume). Ok x) same

    -- and an index of it, with the free runs of that volume, is mounted
    pub put_mounted : (w : Vol) → w ≡ record v { slots = w.slots; free = w.free; by_name = w.by_name; buf = w.buf } → IsIndexOf put w → w.free.items ≡ free_runs volume_after → IsMounted put w
    put_mounted w others index free =
        let u : Vol = record v { slots = w.slots; free = w.free; by_name = w.by_name; buf = w.buf } in
        let read : IsMounted put u = record {
          index = subst (IsIndexOf put) others index;
          vtoc = extent;
          lawful = good;
          whole = fine;
          free = free ∙ sym (ap free_runs same);
          volume = volume_is put v.geometry v.vtoc header extent is.tracks good fine;
        } in
        subst (IsMounted put) (sym others) read
