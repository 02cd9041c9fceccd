-- An image in which one slot holds a data set's format 1 with a further last block: it stands for the volume after the Fill or Area.
use Rattle.std.proofs.Common.{◌≡◌, ◌≢◌, ℕ, ◌<◌, Bool, true, false, cond, List, [], map, length, get_or, Some, Result, Ok, Err, refl, sym, ap, subst, ◌∙◌}
use Rattle.std.specs.Prelude.{slice_get, unwrap_or, None}
use Rattle.std.specs.Option.{option_map}
use Rattle.std.specs.Str.{bytes_eq}
use Rattle.std.proofs.lemmas.Slice.Eq.{bytes_eq-Decides}
use Rattle.dscb_codec.specs.declared.Dscb.{Dscb}
use Rattle.dscb_codec.specs.declared.Dscb.TheVariants as formats
use Rattle.dscb_codec.specs.declared.DscbErr.{DscbErr}
use Rattle.dscb_codec.specs.declared.F1.{F1}
use Rattle.dscb_codec.specs.Layout.{decoded}
use Rattle.ebcdic_names.specs.declared.names.Dsn.{Dsn}
use Rattle.stop_model.specs.Files.{patched}
use Rattle.pack_spec.specs.Alike.{DifferInVtoc}
use Rattle.pack_spec.specs.declared.slot.VtocSlot.{VtocSlot}
use Rattle.pack_spec.specs.Blocks.{data_tracks}
use Rattle.pack_spec.specs.Bodies.{body_of}
use Rattle.pack_spec.specs.FreeChain.{entries_of, free_entries}
use Rattle.pack_spec.specs.Label.{heads_of, label_of}
use Rattle.pack_spec.specs.Owned.{volume_faults}
use Rattle.pack_spec.specs.Rules.{is_named, slots_faults}
use Rattle.pack_spec.specs.Settled.{AreGuarded, AreSettled, IsGuarded, IsSettledVtoc, slots_for}
use Rattle.pack_spec.specs.Volume.{attr_of, volume_by, volume_of, volume_with}
use Rattle.pack_spec.proofs.Lawful.{groups_hold}
use Rattle.vol_model.specs.declared.answers.Mode.{Mode}
use Rattle.vol_model.specs.declared.contents.Body.{Body}
use Rattle.vol_model.specs.declared.contents.DataSet.{DataSet}
use Rattle.vol_model.specs.declared.contents.Place.{Place}
use Rattle.vol_model.specs.declared.contents.Volume.{Volume}
use Rattle.vol_model.specs.Places.{Content, placed, with_blocks}
use Rattle.vol_model.specs.Shelf.{fits_mode, unreadable, with_set, with_written, write_on, written}
use Rattle.vol_model.specs.Space.{free_runs}
use Rattle.vtoc_index.specs.declared.vol.Vol.{Vol}
use Rattle.vtoc_index.specs.Index.{IsIndexOf, IsMounted, IsPut, place_of_slot, with_dscb}
use Rattle.vtoc_index.specs.Last.{lstar_of}
use Rattle.vtoc_sets.specs.Sets.{extents_in}
use Rattle.seq_access.specs.Bodies.{body_of_set, data_in}
use Rattle.slot_laws.proofs.ChangedSets.{faults_kept, free_kept}
use Rattle.slot_laws.proofs.FoundSlots.{content_at, has_named, low_of, others_apart, set_behind, slot_there}
use Rattle.slot_laws.proofs.KeptGuards.{guarded_alike, settled_alike}
use Rattle.slot_laws.proofs.KeptSlots.{HasExtentsOf, changed_content, changed_slot, faults_alike, put_is_change}
use Rattle.seq_access.proofs.RaisedSets.{raised, volume_written, written_on}
use Rattle.slot_laws.proofs.StandingPuts.{put_differs, put_mounted, put_stands, slots_by, volume_after}

-- a format 1, with the last block raised where it has this name
abbrev one_raised : List ℕ → Place → ℕ → F1 → F1
one_raised name last balance f = cond (bytes_eq f.name name) (raised last balance f) f

module _ (name : List ℕ) (last : Place) (balance : ℕ) where
  keeps : (f : F1) → HasExtentsOf f (one_raised name last balance f)
  keeps f = by_test (bytes_eq f.name name)
    where
      by_test : (b : Bool) → HasExtentsOf f (cond b (raised last balance f) f)
      by_test true = record { count = refl; runs = refl; pointer = refl }
      by_test false = record { count = refl; runs = refl; pointer = refl }

  names : (f : F1) → (one_raised name last balance f).name ≡ f.name
  names f = by_test (bytes_eq f.name name)
    where
      by_test : (b : Bool) → (cond b (raised last balance f) f).name ≡ f.name
      by_test true = refl
      by_test false = refl

  -- what is in a slot without the name stays
  unnamed : (d : Result Dscb DscbErr) → is_named name d ≡ false → changed_content (one_raised name last balance) d ≡ d
  unnamed (Ok formats.F0) apart = refl
  unnamed (Ok (formats.F1 f)) apart = ap (λ (b : Bool). Ok (formats.F1 (cond b (raised last balance f) f))) apart
  unnamed (Ok (formats.F3 f)) apart = refl
  unnamed (Ok (formats.F4 f)) apart = refl
  unnamed (Ok (formats.F5 f)) apart = refl
  unnamed (Err e) apart = refl

  same_slot : (s : VtocSlot) → has_named name s ≡ false → s ≡ changed_slot (one_raised name last balance) s
  same_slot s apart = ap (λ (d : Result Dscb DscbErr). record s { content = d }) (sym (unnamed s.content apart))

-- A data set in a slot has this body, and these contents after its blocks up to another last block.
pub record CanRaise (image : List ℕ) (v : Vol) (slot : ℕ) (f : F1) (last : Place) (mode : Mode) (body : Body) (cs : List Content) : Type 0 where
  pub mounted : IsMounted image v
  pub set : slice_get v.slots.items slot ≡ Some (formats.F1 f)
  pub kind : fits_mode mode f.name (attr_of f) ≡ true
  pub readable : unreadable body ≡ None
  pub was : body_of_set image v f ≡ body
  pub is : body_of v.geometry (data_in image v) f.name (attr_of f) (extents_in image v f) (lstar_of last) ≡ with_blocks body (placed v.geometry.device body (written mode body cs))

-- An image after a Fill or Area stands for the volume then, and is guarded and settled where the one before it is.
pub record StandsWritten (volume : Volume) (dsn : Dsn) (mode : Mode) (cs : List Content) (image put : List ℕ) : Type 0 where
  pub after : Volume
  pub step : write_on mode dsn cs volume ≡ Ok after
  pub stands : volume_of put ≡ Ok after
  pub guarded : IsGuarded image → IsGuarded put
  pub settled : IsSettledVtoc image → IsSettledVtoc put

module _ (image put : List ℕ) (v : Vol) (slot : ℕ) (f : F1) (last : Place) (balance : ℕ) (mode : Mode) (body : Body) (cs : List Content) (bytes : List ℕ) (can : CanRaise image v slot f last mode body cs) (size : length bytes ≡ 140) (dscb : decoded bytes ≡ Ok (formats.F1 (raised last balance f)))
    (put_is : put ≡ patched image (place_of_slot v slot) bytes) (is : IsPut v slot (formats.F1 (raised last balance f)) image put) where
  abbrev d : Dscb
  d = formats.F1 (raised last balance f)

  abbrev c : F1 → F1
  c = one_raised f.name last balance

  abbrev slots : List VtocSlot
  slots = slots_by image v

  abbrev before : Volume
  before = volume_by image v.geometry v.vtoc

  abbrev more : DataSet → DataSet
  more x = with_written v.geometry.device mode cs x

  low : slot < length v.slots.items
  low = low_of v.slots.items slot (formats.F1 f) can.set

  content : option_map (λ (s : VtocSlot). s.content) (slice_get slots slot) ≡ Some (Ok (formats.F1 f))
  content = content_at v.slots.items slots slot (formats.F1 f) can.mounted.index.slots can.set

  at : (s : VtocSlot) × ((slice_get slots slot ≡ Some s) × (s.content ≡ Ok (formats.F1 f)))
  at = slot_there (slice_get slots slot) (Ok (formats.F1 f)) content

  behind : slot ≢ 0
  behind = set_behind v.geometry slots slot at.0 f at.1.0 at.1.1 can.mounted.lawful

  change : with_dscb slot d slots ≡ map (changed_slot c) slots
  change =
      let itself : bytes_eq f.name f.name ≡ true = (bytes_eq-Decides f.name f.name).1 refl in
      let this : c f ≡ raised last balance f = ap (λ (b : Bool). cond b (raised last balance f) f) itself in
      let groups = groups_hold v.geometry slots can.mounted.lawful in
      let only = others_apart f.name slots slot at.0 at.1.0 (ap (is_named f.name) at.1.1 ∙ itself) groups.2 in
      ap (λ (h : F1). with_dscb slot (formats.F1 h) slots) (sym this)
      ∙ put_is_change c slot slots f content (λ k e under other. same_slot f.name last balance (get_or slots k e) (only k e under other))

  lawful : slots_faults v.geometry (with_dscb slot d slots) ≡ []
  lawful = ap (slots_faults v.geometry) change ∙ faults_alike c (keeps f.name last balance) (names f.name last balance) v.geometry slots ∙ can.mounted.lawful

  made : volume_after image put v slot d bytes can.mounted low size dscb put_is is behind ≡ with_set before f.name more
  made = volume_written v.geometry (data_tracks image v.geometry v.vtoc) slots slot at.0 f last balance at.1.0 at.1.1 can.mounted.lawful mode cs body can.kind can.readable can.was can.is (unwrap_or (label_of image v.geometry) []) v.vtoc

  whole : volume_faults (volume_after image put v slot d bytes can.mounted low size dscb put_is is behind) ≡ []
  whole = ap volume_faults made ∙ faults_kept f.name more (λ x. refl) before ∙ can.mounted.whole

  -- where it is done, the index is the image's
  pub raised_mounted : (w : Vol) → w ≡ record v { slots = w.slots; buf = w.buf } → IsIndexOf put w → IsMounted put w
  raised_mounted w others index =
      let full : w ≡ record v { slots = w.slots; free = w.free; by_name = w.by_name; buf = w.buf } = others ∙ ap (λ (u : Vol). record v { slots = w.slots; free = u.free; by_name = u.by_name; buf = w.buf }) (sym others) in
      put_mounted image put v slot d bytes can.mounted low size dscb put_is is behind lawful whole w full index
      (ap (λ (u : Vol). u.free.items) others ∙ can.mounted.free ∙ sym (ap free_runs made ∙ free_kept f.name more (λ x. refl) before))

  -- the VTOC alone is changed
  pub raised_differs : DifferInVtoc v.geometry v.vtoc image put
  raised_differs = put_differs image put v slot d bytes can.mounted low size dscb put_is is behind

  stands : volume_of put ≡ Ok (with_set before f.name more)
  stands = put_stands image put v slot d bytes can.mounted low size dscb put_is is behind lawful whole ∙ ap (λ (x : Volume). Ok x) made

  same_space : free_entries (with_set before f.name more) ≡ free_entries before
  same_space = ap (entries_of (heads_of before.geometry)) (free_kept f.name more (λ x. refl) before)

  same_volume : (volume : Volume) → volume_of image ≡ Ok volume → volume ≡ before
  same_volume volume there = let same : Ok volume ≡ Ok before = sym there ∙ can.mounted.volume in cc

  slots_now : slots_for put (with_set before f.name more) ≡ map (changed_slot c) slots
  unfolding volume_with
  slots_now = is.slots ∙ change

  slots_then : slots_for image before ≡ slots
  unfolding volume_with
  slots_then = refl

  keeps_guarded : IsGuarded image → IsGuarded put
  keeps_guarded was =
      let here : AreGuarded (slots_for image before) before = subst (λ (x : Volume). AreGuarded (slots_for image x) x) (same_volume was.0 was.1) was.2 in
      let there : AreGuarded slots before = subst (λ (ss : List VtocSlot). AreGuarded ss before) slots_then here in
      (with_set before f.name more, stands, subst (λ (ss : List VtocSlot). AreGuarded ss (with_set before f.name more)) (sym slots_now) (guarded_alike c (keeps f.name last balance) slots before (with_set before f.name more) same_space there))

  keeps_settled : IsSettledVtoc image → IsSettledVtoc put
  keeps_settled was =
      let here : AreSettled (slots_for image before) before = subst (λ (x : Volume). AreSettled (slots_for image x) x) (same_volume was.0 was.1) was.2 in
      let there : AreSettled slots before = subst (λ (ss : List VtocSlot). AreSettled ss before) slots_then here in
      (with_set before f.name more, stands, subst (λ (ss : List VtocSlot). AreSettled ss (with_set before f.name more)) (sym slots_now) (settled_alike c (keeps f.name last balance) slots before (with_set before f.name more) same_space there))

  -- Each image with the slot put, also one that a stop leaves, stands for the volume after the Fill or Area.
  pub raised_stands : (volume : Volume) → volume_of image ≡ Ok volume → StandsWritten volume (record { bytes = f.name }) mode cs image put
  raised_stands volume there = record {
    after = with_set before f.name more;
    step =
        ap (write_on mode (record { bytes = f.name }) cs) (same_volume volume there)
        ∙ written_on v.geometry (data_tracks image v.geometry v.vtoc) slots slot at.0 f last balance at.1.0 at.1.1 can.mounted.lawful mode cs body can.kind can.readable can.was can.is (unwrap_or (label_of image v.geometry) []) v.vtoc;
    stands = stands;
    guarded = keeps_guarded;
    settled = keeps_settled;
  }
