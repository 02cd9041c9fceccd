-- The two writes of a new data set, each made durable, as steps of an update.
use Rattle.std.proofs.Common.{◌≡◌, ◌≢◌, inl, inr, ⊎_elim, ℕ, ◌+◌, ◌^◌, ◌<◌, ◌≤◌, true, false, List, [], length, Some, refl, sym, ap, subst, ◌∙◌, arith}
use Rattle.std.specs.Prelude.{Result, Ok, Err, OnOk, slice_get}
use Rattle.std.specs.List.{AllByRecursion, list_any}
use Rattle.std.specs.Option.{option_map}
use Rattle.dscb_codec.specs.declared.Dscb.{Dscb}
use Rattle.dscb_codec.specs.declared.Dscb.TheVariants as formats
use Rattle.dscb_codec.specs.declared.F1.{F1}
use Rattle.dscb_codec.specs.declared.F3.{F3}
use Rattle.ebcdic_names.specs.declared.names.Dsn.{Dsn}
use Rattle.stop_model.specs.Files.{File}
use Rattle.stop_model.specs.Moments.{Meaning}
use Rattle.stop_model.proofs.MomentLemmas.{elapses_weaker}
use Rattle.pack_spec.specs.declared.slot.VtocSlot.{VtocSlot}
use Rattle.pack_spec.specs.Label.{tracks_of}
use Rattle.pack_spec.specs.Owned.{volume_faults}
use Rattle.pack_spec.specs.Rules.{is_named, slots_faults}
use Rattle.pack_spec.specs.Settled.{IsMarked}
use Rattle.pack_spec.specs.Blocks.{data_tracks}
use Rattle.pack_spec.specs.Bodies.{body_of}
use Rattle.pack_spec.specs.Volume.{volume_by, volume_with}
use Rattle.pack_spec.proofs.AddressesApart.{AreApart, slots_apart}
use Rattle.pack_spec.proofs.AlikeVolumes.{alike_faults, alike_volume}
use Rattle.pack_spec.proofs.Lawful.{lawful_volume}
use Rattle.space_alloc.specs.Edits.{AreWithout}
use Rattle.vol_model.specs.declared.contents.Attr.{Attr}
use Rattle.vol_model.specs.declared.contents.Run.{Run}
use Rattle.vol_model.specs.declared.contents.Volume.{Volume}
use Rattle.vol_model.specs.declared.requests.Request.{Request}
use Rattle.vol_model.specs.Lawful.{IsOnPack}
use Rattle.vol_model.specs.Shelf.{allocate_on, is_catalog, lacks_room, new_body, with_new}
use Rattle.vol_model.specs.Places.{tracks_in}
use Rattle.vol_model.specs.Slots.{slots_needed}
use Rattle.vol_model.specs.Space.{free_runs}
use Rattle.vtoc_index.specs.declared.vol.Vol.{Vol}
use Rattle.vtoc_index.specs.Index.{IsIndexOf, IsMounted, address_in, with_dscb}
use Rattle.free_rebuild.specs.Chain.{is_open}
use Rattle.free_rebuild.specs.Updates.{IsMarkedFor, Marks}
use Rattle.free_rebuild.proofs.AddressLemmas.{held_slots}
use Rattle.dadsm_ops.specs.Allocating.{Decides, HasChoice, HasFurther, HasFurtherIfMany, extent_type, new_f1, new_f3, new_lstar}
use Rattle.dadsm_ops.specs.Operations.{image_named}
use Rattle.free_rebuild.specs.Durable.{PutsDurably}
use Rattle.dadsm_ops.proofs.NewAttributes.{asked}
use Rattle.dadsm_ops.proofs.NewSetPuts.{can_put, further_put, set_read, third_alike}
use Rattle.dadsm_ops.proofs.NewSets.{volume_with_new}
use Rattle.dadsm_ops.proofs.NewSlots.{CanPut, faults_put}
use Rattle.dadsm_ops.proofs.LawfulFaults.{lawful_faults}
use Rattle.dadsm_ops.proofs.NewVolumes.{allocate_keeps, allocate_ok, free_runs_new}
use Rattle.dadsm_ops.proofs.RenamedSets.{has_set_found}
use Rattle.slot_laws.proofs.ChangedLists.{any_first}
use Rattle.slot_laws.proofs.StandingPuts.{label_by, put_differs, put_marked, put_mounted, put_stands, slots_by}
use Rattle.free_rebuild.proofs.DurableLemmas.{slot_put, slot_written}

-- a slot that can be put is there, open, and after the first two
pub record IsOpenSlot (v : Vol) (slot : ℕ) : Type 0 where
  pub item : Dscb
  pub there : slice_get v.slots.items slot ≡ Some item
  pub opened : is_open item ≡ true
  pub behind : 2 ≤ slot
  pub low : slot < length v.slots.items

module _ (name : List ℕ) (v v' : Vol) (slot : ℕ) (m n : Meaning (List File)) (mounted : IsMounted (image_named m.state name) v) (few : v.vtoc.start + v.vtoc.len ≤ 65536) (at : IsOpenSlot v slot) (marked : IsMarked (slots_by (image_named m.state name) v)) where
  abbrev image : List ℕ
  image = image_named m.state name

  abbrev slots : List VtocSlot
  slots = slots_by image v

  abbrev here : VtocSlot
  here = record { address = address_in v slot; content = Ok at.item }

  abbrev volume : Volume
  volume = volume_by image v.geometry v.vtoc

  there : slice_get slots slot ≡ Some here
  there = held_slots image v mounted.index slot ∙ ap (option_map (λ (d : Dscb). record { address = address_in v slot; content = Ok d })) at.there

  apart : AreApart slots
  apart = slots_apart image v.geometry v.vtoc few

  not_zero : slot ≢ 0
  not_zero is = omega (arith, is, at.behind)

  -- ---- the format 3

  module _ (h : F3) {T E : Type 0} {result : Result T E} (put : PutsDurably name v slot (formats.F3 h) v' m n result) where
    third_lawful : slots_faults v.geometry (with_dscb slot (formats.F3 h) slots) ≡ []
    third_lawful = alike_faults v.geometry slots mounted.lawful apart (with_dscb slot (formats.F3 h) slots) (third_alike slots slot here h at.behind there at.opened)

    third_same : volume_with v.geometry (data_tracks image v.geometry v.vtoc) (label_by image v) v.vtoc (with_dscb slot (formats.F3 h) slots) ≡ volume
    third_same = alike_volume v.geometry slots mounted.lawful apart (with_dscb slot (formats.F3 h) slots) (third_alike slots slot here h at.behind there at.opened) (data_tracks image v.geometry v.vtoc) (label_by image v) v.vtoc

    third_whole : volume_faults (volume_with v.geometry (data_tracks image v.geometry v.vtoc) (label_by image v) v.vtoc (with_dscb slot (formats.F3 h) slots)) ≡ []
    third_whole = ap volume_faults third_same ∙ mounted.whole

    third_marked : IsMarkedFor name volume m.state put.after
    unfolding volume_with
    third_marked = record {
      stands = put_stands image (image_named put.after name) v slot (formats.F3 h) put.bytes mounted at.low put.size put.dscb (slot_written put.put) (slot_put put.put) not_zero third_lawful third_whole ∙ ap (λ (x : Volume). Ok x) third_same;
      marked = put_marked image (image_named put.after name) v slot (formats.F3 h) put.bytes mounted at.low put.size put.dscb (slot_written put.put) (slot_put put.put) not_zero marked;
      tracks = put_differs image (image_named put.after name) v slot (formats.F3 h) put.bytes mounted at.low put.size put.dscb (slot_written put.put) (slot_put put.put) not_zero;
      others = put.put.others;
    }

    third_index : v' ≡ record v { slots = v'.slots; buf = v'.buf } → IsIndexOf (image_named put.after name) v' → IsMounted (image_named put.after name) v'
    third_index others index =
        let parts : v' ≡ record v { slots = v'.slots; free = v'.free; by_name = v'.by_name; buf = v'.buf } = all_parts v v' others in
        let free : v'.free.items ≡ v.free.items = ap (λ (x : Vol). x.free.items) others in
        put_mounted image (image_named put.after name) v slot (formats.F3 h) put.bytes mounted at.low put.size put.dscb (slot_written put.put) (slot_put put.put) not_zero third_lawful third_whole v' parts index
        (free ∙ mounted.free ∙ sym (ap free_runs third_same))
      where
        all_parts : (v v' : Vol) → v' ≡ record v { slots = v'.slots; buf = v'.buf } → v' ≡ record v { slots = v'.slots; free = v'.free; by_name = v'.by_name; buf = v'.buf }
        all_parts v v' is =
            is ∙ sym (ap (λ (x : Vol). record v { slots = v'.slots; free = x.free; by_name = x.by_name; buf = v'.buf }) is)

  -- The format 3 is put and made durable: the image stands for the same volume.
  pub third_marks : {T E : Type 0} (result : Result T E) (h : F3) → v' ≡ record v { slots = v'.slots; buf = v'.buf } → PutsDurably name v slot (formats.F3 h) v' m n result → Marks name v' m n result
  third_marks (Ok x) h others put =
      let is : n.state ≡ put.after = put.step.done.0 in
      record {
        volume = volume;
        before = mounted.volume;
        marked = subst (IsMarkedFor name volume m.state) (sym is) (third_marked h put);
        index = subst (λ (files : List File). IsMounted (image_named files name) v') (sym is) (third_index h put others (subst (λ (files : List File). IsIndexOf (image_named files name) v') is put.index));
        durable = put.step.done.1;
        printed = put.step.printed;
        moments = elapses_weaker put.step.moments (λ files p (which, text). (⊎_elim (λ same. inl same) (λ same. inr (subst (IsMarkedFor name volume m.state) (sym same) (third_marked h put))) which, text));
      }
  third_marks (Err e) h others put = record {
    volume = volume;
    before = mounted.volume;
    marked = tt;
    index = tt;
    durable = tt;
    printed = put.step.printed;
    moments = elapses_weaker put.step.moments (λ files p (which, text). (⊎_elim (λ same. inl same) (λ same. inr (subst (IsMarkedFor name volume m.state) (sym same) (third_marked h put))) which, text));
  }

  -- and it is there, and nothing leads to it yet
  pub third_further : {T E : Type 0} {x : T} (kind : ℕ) (runs : List Run) → PutsDurably {T = T} {E = E} name v slot (formats.F3 (new_f3 v.geometry kind runs)) v' m n (Ok x) → HasFurther (slots_by (image_named n.state name) v) v.geometry kind runs (address_in v slot)
  third_further kind runs put =
      let is : n.state ≡ put.after = put.step.done.0 in
      subst (λ (files : List File). HasFurther (slots_by (image_named files name) v) v.geometry kind runs (address_in v slot)) (sym is)
      (subst (λ (ss : List VtocSlot). HasFurther ss v.geometry kind runs (address_in v slot)) (sym (slot_put put.put).slots) (further_put v.geometry slots mounted.lawful apart slot here there at.opened kind runs))

  -- ---- the format 1

  module _ (dsn : Dsn) (attr : Attr) (q : Request) (dir : ℕ) (blocks : dir ≤ 2000) (runs : List Run) (pointer serial : List ℕ) (other : is_catalog dsn.bytes ≡ false) (secondary : q.secondary < 2 ^ 24) (low : tracks_of v.geometry ≤ 65536)
      (five : length runs ≤ 5) (on_pack : AllByRecursion (IsOnPack v.geometry) runs) (third : HasFurtherIfMany slots v.geometry (extent_type q.unit) runs pointer) (has : HasChoice dsn attr q dir volume runs) (fits : slots_needed (with_new dsn attr q dir volume runs) ≤ volume.slots) (roomy : lacks_room v.geometry.device dsn.bytes dir (tracks_in runs) ≡ false)
      (body : body_of v.geometry (data_tracks image v.geometry v.vtoc) dsn.bytes (asked attr q) runs (new_lstar v.geometry.device dir) ≡ new_body v.geometry.device dsn.bytes attr dir) where
    abbrev f : F1
    f = new_f1 dsn.bytes serial (asked attr q) v.geometry (extent_type q.unit) runs pointer dir

    abbrev after : Volume
    after = with_new dsn attr q dir volume runs

    absent : list_any (λ (t : VtocSlot). is_named dsn.bytes t.content) slots ≡ false
    absent = any_first (λ (t : VtocSlot). is_named dsn.bytes t.content) slots ∙ sym (has_set_found v.geometry (data_tracks image v.geometry v.vtoc) (label_by image v) v.vtoc slots dsn.bytes) ∙ has.absent

    can : CanPut v.geometry slots slot f
    can = can_put v.geometry low slots mounted.lawful apart dsn serial attr q runs pointer dir other secondary five on_pack third slot here at.behind there at.opened absent

    set_lawful : slots_faults v.geometry (with_dscb slot (formats.F1 f) slots) ≡ []
    set_lawful = faults_put v.geometry slots slot f can

    set_after : volume_with v.geometry (data_tracks image v.geometry v.vtoc) (label_by image v) v.vtoc (with_dscb slot (formats.F1 f) slots) ≡ after
    unfolding new_f1
    set_after = volume_with_new v.geometry (data_tracks image v.geometry v.vtoc) slots slot f can (label_by image v) v.vtoc dsn attr q dir runs other refl
        (set_read v.geometry low slots mounted.lawful apart dsn serial attr q runs pointer dir other secondary five on_pack third (data_tracks image v.geometry v.vtoc) body)

    stepped : allocate_on dsn attr q dir volume ≡ Ok after
    unfolding volume_with
    stepped = allocate_ok dsn attr q dir volume has.absent has.right runs has.chosen fits roomy

    set_whole : volume_faults (volume_with v.geometry (data_tracks image v.geometry v.vtoc) (label_by image v) v.vtoc (with_dscb slot (formats.F1 f) slots)) ≡ []
    set_whole = ap volume_faults set_after ∙ lawful_faults after (allocate_keeps dsn attr q dir volume blocks secondary after (lawful_volume image volume mounted.volume) stepped)

    module _ {T E : Type 0} {result : Result T E} (put : PutsDurably name v slot (formats.F1 f) v' m n result) where
      set_marked : IsMarkedFor name after m.state put.after
      unfolding volume_with
      set_marked = record {
        stands = put_stands image (image_named put.after name) v slot (formats.F1 f) put.bytes mounted at.low put.size put.dscb (slot_written put.put) (slot_put put.put) not_zero set_lawful set_whole ∙ ap (λ (x : Volume). Ok x) set_after;
        marked = put_marked image (image_named put.after name) v slot (formats.F1 f) put.bytes mounted at.low put.size put.dscb (slot_written put.put) (slot_put put.put) not_zero marked;
        tracks = put_differs image (image_named put.after name) v slot (formats.F1 f) put.bytes mounted at.low put.size put.dscb (slot_written put.put) (slot_put put.put) not_zero;
        others = put.put.others;
      }

      set_index : (w : Vol) → w ≡ record v { slots = w.slots; free = w.free; by_name = w.by_name; buf = w.buf } → IsIndexOf (image_named put.after name) w → AreWithout v.free.items runs w.free.items → IsMounted (image_named put.after name) w
      set_index w others index without =
          put_mounted image (image_named put.after name) v slot (formats.F1 f) put.bytes mounted at.low put.size put.dscb (slot_written put.put) (slot_put put.put) not_zero set_lawful set_whole w others index
          (free_runs_new dsn attr q dir volume runs v.free.items w.free.items mounted.free without ∙ sym (ap free_runs set_after))

    -- The format 1 is put and made durable: the image stands for the volume with the set.
    pub set_decides : {T E : Type 0} (result : Result T E) (w : Vol) → OnOk result (w ≡ record v { slots = w.slots; free = w.free; by_name = w.by_name; buf = w.buf }) → OnOk result (IsIndexOf (image_named n.state name) v' → IsIndexOf (image_named n.state name) w) → OnOk result (AreWithout v.free.items runs w.free.items)
        → PutsDurably name v slot (formats.F1 f) v' m n result → Decides name (allocate_on dsn attr q dir) w m n result
    unfolding volume_with
    set_decides (Ok x) w others indexed without put =
        let is : n.state ≡ put.after = put.step.done.0 in
        record {
          volume = volume;
          before = mounted.volume;
          after = after;
          step = stepped;
          geometry = refl;
          vtoc = refl;
          decided = subst (IsMarkedFor name after m.state) (sym is) (set_marked put);
          index = subst (λ (files : List File). IsMounted (image_named files name) w) (sym is) (set_index put w others (subst (λ (files : List File). IsIndexOf (image_named files name) w) is (indexed put.index)) without);
          durable = put.step.done.1;
          printed = put.step.printed;
          moments = elapses_weaker put.step.moments (λ files p (which, text). (⊎_elim (λ same. inl same) (λ same. inr (subst (IsMarkedFor name after m.state) (sym same) (set_marked put))) which, text));
        }
    set_decides (Err e) w others indexed without put = record {
      volume = volume;
      before = mounted.volume;
      after = after;
      step = stepped;
      geometry = refl;
      vtoc = refl;
      decided = tt;
      index = tt;
      durable = tt;
      printed = put.step.printed;
      moments = elapses_weaker put.step.moments (λ files p (which, text). (⊎_elim (λ same. inl same) (λ same. inr (subst (IsMarkedFor name after m.state) (sym same) (set_marked put))) which, text));
    }
