-- Images of which one differs after the last block of a data set alone stand for one shelf, and are settled alike.
use Rattle.std.proofs.Common.{◌≡◌, ◌≢◌, ◌+◌, ◌≤◌, ℕ, Bool, true, false, List, [], ◌∷◌, Option, Some, Result, Ok, inl, refl, sym, ap, ap₂, ◌∙◌, subst}
use Rattle.std.specs.Prelude.{slice_get, unwrap_or}
use Rattle.std.specs.Str.{bytes_eq}
use Rattle.std.proofs.lemmas.Slice.Eq.{bytes_eq-Decides}
use Rattle.dscb_codec.specs.declared.Dscb.TheVariants as formats
use Rattle.dscb_codec.specs.declared.F1.{F1}
use Rattle.free_rebuild.specs.Repairs.{image_named}
use Rattle.free_rebuild.specs.Settled.{is_settled_vtoc}
use Rattle.free_rebuild.proofs.SettledBool.{settled_true, settled_vtoc}
use Rattle.stop_model.specs.Files.{File, file_of}
use Rattle.pack_spec.specs.declared.MountErr.{MountErr}
use Rattle.pack_spec.specs.declared.slot.VtocSlot.{VtocSlot}
use Rattle.pack_spec.specs.Blocks.{owned_tracks}
use Rattle.pack_spec.specs.Rules.{has_extents}
use Rattle.pack_spec.specs.Settled.{AreGuarded, AreSettled, IsGuarded, IsSettledVtoc, slots_for}
use Rattle.pack_spec.specs.Shelf.{UnitRefusal, shelf_of, shelf_with, volume_then, volumes_from}
use Rattle.pack_spec.specs.Slots.{slots_of_vtoc}
use Rattle.pack_spec.specs.Volume.{volume_of, volume_with}
use Rattle.vol_model.specs.declared.contents.Body.{Body}
use Rattle.vol_model.specs.declared.contents.Place.{Place}
use Rattle.vol_model.specs.declared.contents.Volume.{Volume}
use Rattle.vtoc_index.specs.declared.vol.Vol.{Vol}
use Rattle.vtoc_index.specs.Index.{IsMounted}
use Rattle.vtoc_index.specs.Kept.{IsKept}
use Rattle.vtoc_index.proofs.KeptLemmas.{mounted_of}
use Rattle.vtoc_sets.specs.Sets.{volume_in}
use Rattle.seq_access.specs.Bodies.{IsLastOf, IsSetIn, last_in, last_read, owned_in}
use Rattle.seq_access.specs.Writing.{AreSpared, DifferBehind}
use Rattle.seq_access.proofs.SparedCalls.{differ_by}
use Rattle.seq_access.proofs.SparedImages.{same_extents, slots_kept, spared_mounted, volume_kept}
use Rattle.seq_access.proofs.SparedSets.{body_kept}
use Rattle.seq_access.proofs.WritersKept.{set_by}
use Rattle.shelf_machine.specs.Machine.{shelf_or_none, shelf_under}
use Rattle.shelf_machine.specs.Opening.{images_named}

-- what stands for two volumes stands for one
one_volume : {a b : Volume} (image : List ℕ) → volume_of image ≡ Ok a → volume_of image ≡ Ok b → a ≡ b
one_volume {a} {b} image first second = ok_same (sym first ∙ second)
  where
    ok_same : ◌≡◌ {A = Result Volume MountErr} (Ok a) (Ok b) → a ≡ b
    ok_same same = cc

-- an index without the records in its buffer
abbrev bare : Vol → Vol
bare v = record v { buf = record (v.buf) { records = [] } }

-- a data set of an image by its index, after whose last record blocks may be put
module _ (before : List ℕ) (v : Vol) (f : F1) (slot : ℕ) (dscb : slice_get v.slots.items slot ≡ Some (formats.F1 f)) (kept : IsKept before v)
    (extents : has_extents v.geometry (slots_of_vtoc before v.geometry v.vtoc) f ≡ true) (last : Place) (ends : IsLastOf before v f last) where
  set_bare : IsSetIn before (bare v) f
  set_bare = record {
    set = set_by before v (record (v.buf) { records = [] }) f (record { mounted = mounted_of before v kept; extents = extents }) refl;
    slot = slot;
    dscb = dscb;
  }

  module _ (after : List ℕ) (differ : DifferBehind v f last before after) where
    differ_bare : DifferBehind (bare v) f last before after
    differ_bare = differ_by v (record (v.buf) { records = [] }) f last before after differ

    pub tracks_same : owned_in after v f ≡ owned_in before v f
    tracks_same = ap owned_tracks (same_extents before after (bare v) f set_bare last differ_bare f)

    -- the set's last record has the same place
    pub last_same : last_in after v f ≡ last_in before v f
    last_same = ap (λ (b : Body). last_read b f.lstar) (body_kept before after v f set_bare last differ ends)

    -- the index of the one is that of the other, but for its buffer
    pub mounted_after : IsMounted after (bare v)
    mounted_after = spared_mounted before after (bare v) f set_bare last differ_bare ends (inl refl)

    pub volume_same : volume_of after ≡ volume_of before
    volume_same =
        mounted_after.volume
        ∙ ap (λ (x : Volume). Ok x) (volume_kept before after (bare v) f set_bare last differ_bare ends)
        ∙ sym (mounted_of before v kept).volume

    slots_same : slots_of_vtoc after v.geometry v.vtoc ≡ slots_of_vtoc before v.geometry v.vtoc
    slots_same = slots_kept before after (bare v) f set_bare last differ_bare

    slots_at : (x : Volume) → volume_in before v ≡ x → slots_for after x ≡ slots_for before x
    unfolding volume_with
    slots_at x is = subst (λ (y : Volume). slots_for after y ≡ slots_for before y) is slots_same

    slots_of : (x : Volume) → volume_of before ≡ Ok x → slots_for after x ≡ slots_for before x
    slots_of x stands = slots_at x (one_volume before (mounted_of before v kept).volume stands)

    settled_same : IsSettledVtoc before → IsSettledVtoc after
    settled_same was = (was.0, volume_same ∙ was.1, subst (λ (ss : List VtocSlot). AreSettled ss was.0) (sym (slots_of was.0 was.1)) was.2)

    pub settled_still : is_settled_vtoc before ≡ true → is_settled_vtoc after ≡ true
    settled_still is = settled_true after (settled_same (settled_vtoc before is))

    pub guarded_still : IsGuarded before → IsGuarded after
    guarded_still was = (was.0, volume_same ∙ was.1, subst (λ (ss : List VtocSlot). AreGuarded ss was.0) (sym (slots_of was.0 was.1)) was.2)

    -- what differs so from the one differs so from the other
    pub differ_rebased : (x : List ℕ) → DifferBehind v f last before x → DifferBehind v f last after x
    differ_rebased x d = record {
      size = d.size ∙ sym differ.size;
      header = d.header ∙ sym differ.header;
      others = λ track out.
          let out' = λ (k : ℕ) (there : slice_get (owned_in before v f) k ≡ Some track) (past : last.tt ≤ k). out k (ap (λ (ts : List ℕ). slice_get ts k) tracks_same ∙ there) past in
          d.others track out' ∙ sym (differ.others track out');
      kept = λ track at first.
          let at' : slice_get (owned_in before v f) last.tt ≡ Some track = ap (λ (ts : List ℕ). slice_get ts last.tt) (sym tracks_same) ∙ at in
          d.kept track at' first ∙ sym (differ.kept track at' first);
    }

-- ---- several images

-- images stand for one shelf where each stands for the same volume as another
volumes_under : (a b : List File) (names : List (List ℕ)) (unit : ℕ) → ((n : List ℕ) → volume_of (image_named b n) ≡ volume_of (image_named a n)) → volumes_from unit (images_named b names) ≡ volumes_from unit (images_named a names)
volumes_under a b [] unit same = refl
volumes_under a b (n ∷ names) unit same =
    ap₂ (λ (x : Result Volume MountErr) (rest : Result (List Volume) UnitRefusal). volume_then unit x rest) (same n) (volumes_under a b names (unit + 1) same)

pub shelf_by : (a b : List File) (names : List (List ℕ)) → ((n : List ℕ) → volume_of (image_named b n) ≡ volume_of (image_named a n)) → shelf_under names b ≡ shelf_under names a
unfolding shelf_of
shelf_by a b names same = ap (λ (r : Result (List Volume) UnitRefusal). shelf_or_none (shelf_with r)) (volumes_under a b names 0 same)

-- files of which this image alone may be another
pub volumes_by : (a b : List File) (name : List ℕ) → volume_of (image_named b name) ≡ volume_of (image_named a name) → ((other : List ℕ) → other ≢ name → file_of b other ≡ file_of a other)
    → (n : List ℕ) → volume_of (image_named b n) ≡ volume_of (image_named a n)
volumes_by a b name here others n = by (bytes_eq n name) refl
  where
    by : (t : Bool) → bytes_eq n name ≡ t → volume_of (image_named b n) ≡ volume_of (image_named a n)
    by true is = subst (λ (m : List ℕ). volume_of (image_named b m) ≡ volume_of (image_named a m)) (sym ((bytes_eq-Decides n name).0 is)) here
    by false is =
        let apart : n ≢ name = λ same. let found = (bytes_eq-Decides n name).1 same in absurd (cc (found, is)) in
        ap (λ (o : Option (List ℕ)). volume_of (unwrap_or o [])) (others n apart)

module _ (name : List ℕ) (files : List File) (v : Vol) (f : F1) (slot : ℕ) (dscb : slice_get v.slots.items slot ≡ Some (formats.F1 f)) (kept : IsKept (image_named files name) v)
    (extents : has_extents v.geometry (slots_of_vtoc (image_named files name) v.geometry v.vtoc) f ≡ true) (last : Place) (ends : IsLastOf (image_named files name) v f last)
    (after : List File) (spared : AreSpared name v f last files after) where
  pub shelf_spared : (names : List (List ℕ)) → shelf_under names after ≡ shelf_under names files
  shelf_spared names = shelf_by files after names (volumes_by files after name
      (volume_same (image_named files name) v f slot dscb kept extents last ends (image_named after name) spared.image) spared.others)

  pub spared_rebased : (x : List File) → AreSpared name v f last files x → AreSpared name v f last after x
  spared_rebased x other = record {
    image = differ_rebased (image_named files name) v f slot dscb kept extents last ends (image_named after name) spared.image (image_named x name) other.image;
    others = λ o apart. other.others o apart ∙ sym (spared.others o apart);
  }
