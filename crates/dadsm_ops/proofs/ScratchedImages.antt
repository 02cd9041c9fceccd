-- An image of which one slot that held a data set's format 1 is cleared: it stands for the volume after a Scratch of that.
use Rattle.std.proofs.Common.{◌≡◌, ◌≢◌, ℕ, true, List, [], length, map, take, Some, Ok, refl, sym, ap, subst, ◌∙◌}
use Rattle.std.specs.Prelude.{option_and_then, slice_get, unwrap_or}
use Rattle.ckd_image.specs.declared.header.Geometry.{Geometry}
use Rattle.ckd_image.specs.Header.{geometry_of}
use Rattle.dscb_codec.specs.declared.Dscb.TheVariants as formats
use Rattle.dscb_codec.specs.declared.F1.{F1}
use Rattle.dscb_codec.specs.Layout.{decoded}
use Rattle.ebcdic_names.specs.declared.names.Dsn.{Dsn}
use Rattle.stop_model.specs.Files.{patched}
use Rattle.pack_spec.specs.declared.slot.VtocSlot.{VtocSlot}
use Rattle.pack_spec.specs.Alike.{DifferInVtoc}
use Rattle.pack_spec.specs.Label.{label_of}
use Rattle.pack_spec.specs.Owned.{volume_faults}
use Rattle.pack_spec.specs.Rules.{counted_extents, has_extents, set_in, slots_faults}
use Rattle.pack_spec.specs.Settled.{head_in, head_of}
use Rattle.pack_spec.specs.Blocks.{data_tracks}
use Rattle.pack_spec.specs.Volume.{data_set_of, volume_by, volume_of, volume_with}
use Rattle.pack_spec.specs.Vtoc.{run_of_extent, vtoc_of}
use Rattle.pack_spec.proofs.Lawful.{good_sets, lawful_volume}
use Rattle.vol_model.specs.declared.contents.Run.{Run}
use Rattle.vol_model.specs.declared.contents.Volume.{Volume}
use Rattle.vol_model.specs.Lawful.{IsLawfulVolume}
use Rattle.vol_model.specs.Shelf.{scratch_on}
use Rattle.vol_model.specs.Space.{covers, free_runs}
use Rattle.vtoc_index.specs.declared.vol.Vol.{Vol}
use Rattle.vtoc_index.specs.Index.{IsIndexOf, IsMounted, IsPut, place_of_slot, with_dscb}
use Rattle.vtoc_index.proofs.ExtentLaw.{extent_put, keeps_other, volume_is, volume_put}
use Rattle.dadsm_ops.specs.Scratching.{AreFreed, usable_tracks}
use Rattle.slot_laws.proofs.ChangedSlots.{changed_elsewhere}
use Rattle.dadsm_ops.proofs.ClearedSets.{cleared_faults}
use Rattle.slot_laws.proofs.FoundSlots.{content_at, low_of, set_behind, slot_there}
use Rattle.dadsm_ops.proofs.FreedRuns.{freed_runs}
use Rattle.dadsm_ops.proofs.LawfulFaults.{lawful_faults, scratched_lawful}
use Rattle.dadsm_ops.proofs.RenamedImages.{differs_in_vtoc, slots_on_image, volume_on_image}
use Rattle.dadsm_ops.proofs.ScratchedSets.{among, volume_left}

-- the volume of an image by its index, with one slot cleared
abbrev pub volume_after : List ℕ → Vol → ℕ → Volume
volume_after image v slot = volume_with v.geometry (data_tracks image v.geometry v.vtoc) (unwrap_or (label_of image v.geometry) []) v.vtoc (with_dscb slot formats.F0 (slots_on_image image v))

-- An image with the slot cleared: it breaks no rule, stands for the volume after the Scratch, and has the format 4 that it had.
pub record IsScratched (image put : List ℕ) (v : Vol) (slot : ℕ) (f : F1) : Type 0 where
  pub extent : vtoc_of put v.geometry ≡ Ok v.vtoc
  pub lawful : slots_faults v.geometry (slots_on_image put v) ≡ []
  pub made : volume_by put v.geometry v.vtoc ≡ volume_after image v slot
  pub whole : volume_faults (volume_by put v.geometry v.vtoc) ≡ []
  pub stands : volume_of put ≡ Ok (volume_by put v.geometry v.vtoc)
  pub step : (dsn : Dsn) → dsn.bytes ≡ f.name → scratch_on dsn (volume_on_image image v) ≡ Ok (volume_after image v slot)
  pub head : head_of (slots_on_image put v) ≡ head_of (slots_on_image image v)
  pub changes : DifferInVtoc v.geometry v.vtoc image put
  pub free : (runs new : List Run) → ((t : ℕ) → covers runs t ≡ covers (map (run_of_extent v.geometry) (counted_extents (slots_on_image image v) f)) t)
      → AreFreed (usable_tracks v.geometry) v.free.items runs new → new ≡ free_runs (volume_by put v.geometry v.vtoc)

pub is_scratched : (image put : List ℕ) (v : Vol) (slot : ℕ) (f : F1) (bytes : List ℕ) → IsMounted image v → slice_get v.slots.items slot ≡ Some (formats.F1 f) → length bytes ≡ 140 → decoded bytes ≡ Ok formats.F0 → put ≡ patched image (place_of_slot v slot) bytes → IsPut v slot formats.F0 image put → IsScratched image put v slot f
unfolding data_set_of
is_scratched image put v slot f bytes mounted set size dscb written is =
    let g : Geometry = v.geometry in
    let slots : List VtocSlot = slots_on_image image v in
    let label : List ℕ = unwrap_or (label_of image g) [] in
    let at = slot_there (slice_get slots slot) (Ok (formats.F1 f)) (content_at v.slots.items slots slot (formats.F1 f) mounted.index.slots set) in
    let low = low_of v.slots.items slot (formats.F1 f) set in
    let behind : slot ≢ 0 = set_behind g slots slot at.0 f at.1.0 at.1.1 mounted.lawful in
    let extent = extent_put image put v slot formats.F0 bytes mounted.index low size dscb written is mounted.vtoc (keeps_other slot formats.F0 slots behind) in
    let header : geometry_of (take 512 put) (length put) ≡ Ok g =
    ap (λ (bs : List ℕ). geometry_of bs (length put)) is.header ∙ ap (geometry_of (take 512 image)) is.size ∙ mounted.index.header in
    let made : volume_by put g v.vtoc ≡ volume_after image v slot = volume_put image put v slot formats.F0 is in
    let step : (dsn : Dsn) → dsn.bytes ≡ f.name → scratch_on dsn (volume_on_image image v) ≡ Ok (volume_after image v slot) =
    λ dsn named. volume_left g (data_tracks image v.geometry v.vtoc) slots slot at.0 f at.1.0 at.1.1 mounted.lawful label v.vtoc dsn named in
    let law : IsLawfulVolume (volume_on_image image v) = lawful_volume image (volume_by image g v.vtoc) mounted.volume in
    let lawful : slots_faults g (slots_on_image put v) ≡ [] = ap (slots_faults g) is.slots ∙ cleared_faults g slots slot at.0 f at.1.0 at.1.1 mounted.lawful in
    let whole : volume_faults (volume_by put g v.vtoc) ≡ [] =
    ap volume_faults made ∙ lawful_faults (volume_after image v slot) (scratched_lawful (record { bytes = f.name }) (volume_on_image image v) (volume_after image v slot) law (step (record { bytes = f.name }) refl)) in
    record {
      extent = extent;
      lawful = lawful;
      made = made;
      whole = whole;
      stands = volume_is put g v.vtoc header extent is.tracks lawful whole;
      step = step;
      head = ap head_of is.slots ∙ ap (option_and_then (λ (s : VtocSlot). head_in s.content)) (changed_elsewhere slot 0 formats.F0 slots (λ none. behind (sym none)));
      changes = differs_in_vtoc image put v slot formats.F0 mounted.index low is;
      free = λ runs new same are. freed_runs g (data_tracks image v.geometry v.vtoc) label v.vtoc slots (with_dscb slot formats.F0 slots) (data_set_of g (data_tracks image v.geometry v.vtoc) slots f) (among g (data_tracks image v.geometry v.vtoc) slots slot at.0 f at.1.0 at.1.1 mounted.lawful) law.owned v.free.items runs new mounted.free same are ∙ ap free_runs (sym made);
    }

-- where the index is the image's and its free runs are those of the volume then, it is mounted
pub mounted_scratched : (image put : List ℕ) (v w : Vol) (slot : ℕ) (f : F1) → IsScratched image put v slot f → w ≡ record v { slots = w.slots; free = w.free; by_name = w.by_name; buf = w.buf } → IsIndexOf put w → w.free.items ≡ free_runs (volume_by put v.geometry v.vtoc) → IsMounted put w
mounted_scratched image put v w slot f s same index free =
    let u : Vol = record v { slots = w.slots; free = w.free; by_name = w.by_name; buf = w.buf } in
    let there : IsMounted put u = record { index = subst (IsIndexOf put) same index; vtoc = s.extent; lawful = s.lawful; whole = s.whole; free = free; volume = s.stands } in
    subst (IsMounted put) (sym same) there

-- no data set stands in slot 0
pub not_first_slot : (image : List ℕ) (v : Vol) (slot : ℕ) (f : F1) → IsMounted image v → slice_get v.slots.items slot ≡ Some (formats.F1 f) → slot ≢ 0
not_first_slot image v slot f mounted set =
    let slots : List VtocSlot = slots_on_image image v in
    let at = slot_there (slice_get slots slot) (Ok (formats.F1 f)) (content_at v.slots.items slots slot (formats.F1 f) mounted.index.slots set) in
    set_behind v.geometry slots slot at.0 f at.1.0 at.1.1 mounted.lawful

-- the extents of a data set are runs of the pack
pub set_extents : (image : List ℕ) (v : Vol) (slot : ℕ) (f : F1) → IsMounted image v → slice_get v.slots.items slot ≡ Some (formats.F1 f) → has_extents v.geometry (slots_on_image image v) f ≡ true
set_extents image v slot f mounted set =
    let slots : List VtocSlot = slots_on_image image v in
    let at = slot_there (slice_get slots slot) (Ok (formats.F1 f)) (content_at v.slots.items slots slot (formats.F1 f) mounted.index.slots set) in
    good_sets v.geometry slots mounted.lawful slot at.0 f at.1.0 (ap set_in at.1.1)
