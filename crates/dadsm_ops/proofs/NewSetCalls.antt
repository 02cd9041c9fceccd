-- What one call of a new data set's writes hands to the next: the plan, the mark, and the open slots.
use Rattle.std.proofs.Common.{◌≡◌, ◌+◌, ◌^◌, ◌≤◌, ◌<◌, ℕ, zero, suc, Bool, true, false, cond, List, [], ◌∷◌, drop, length, get_or, Option, Some, None, refl, sym, ap, ap₂, subst, ◌∙◌, arith}
use Rattle.std.specs.Prelude.{Result, Ok, IsErr, OnOk, count_by, is_some, nat_lt, position, slice_get, slice_set}
use Rattle.std.specs.List.{AllByRecursion}
use Rattle.std.specs.Option.{option_map}
use Rattle.std.proofs.lemmas.Bool.Decides.{nat_tests}
use Rattle.std.proofs.lemmas.List.Quantifiers.{position-Some}
use Rattle.std.proofs.lemmas.Option.{slice_get-get_or}
use Rattle.std.proofs.lemmas.Result.{IfOk-from_err}
use Rattle.ckd_image.specs.declared.header.Geometry.{Geometry}
use Rattle.dscb_codec.specs.declared.Dscb.{Dscb}
use Rattle.dscb_codec.specs.declared.Dscb.TheVariants as formats
use Rattle.dscb_codec.specs.declared.F1.{F1}
use Rattle.dscb_codec.specs.declared.F3.{F3}
use Rattle.ebcdic_names.specs.declared.names.Dsn.{Dsn}
use Rattle.hall_core.specs.Facts.{Attached, unit_of}
use Rattle.stop_model.specs.Files.{File}
use Rattle.stop_model.specs.Moments.{Meaning, IsDurable}
use Rattle.stop_model.proofs.MomentLemmas.{elapses_none}
use Rattle.pack_spec.specs.declared.slot.VtocSlot.{VtocSlot}
use Rattle.pack_spec.specs.Blocks.{data_tracks, owned_tracks}
use Rattle.pack_spec.specs.Bodies.{body_of}
use Rattle.pack_spec.specs.Label.{tracks_of}
use Rattle.pack_spec.specs.Settled.{AreSettled, IsMarked, IsSettledVtoc, slots_for}
use Rattle.pack_spec.specs.Volume.{volume_by, volume_of, volume_with}
use Rattle.space_alloc.specs.Edits.{AreWithout}
use Rattle.shelf_laws.proofs.Tracks.{AreNew, choice_new}
use Rattle.vol_model.specs.declared.contents.Attr.{Attr}
use Rattle.vol_model.specs.declared.contents.Run.{Run}
use Rattle.vol_model.specs.declared.contents.Volume.{Volume}
use Rattle.vol_model.specs.declared.refusals.Refusal.{Refusal}
use Rattle.vol_model.specs.declared.requests.Request.{Request}
use Rattle.vol_model.specs.Lawful.{IsOnPack}
use Rattle.vol_model.specs.Places.{tracks_in}
use Rattle.vol_model.specs.Shelf.{allocate_on, is_catalog, lacks_room, new_body, with_new}
use Rattle.vol_model.specs.Slots.{slots_needed}
use Rattle.vol_model.specs.Space.{is_in}
use Rattle.vtoc_index.specs.declared.vol.Vol.{Vol}
use Rattle.vtoc_index.specs.Free.{open_slot}
use Rattle.vtoc_index.specs.Index.{IsIndexOf, IsMounted, IsOfUnit}
use Rattle.vtoc_index.specs.Names.{IsEntered}
use Rattle.vtoc_index.proofs.OwnedVolumes.{few_tracks}
use Rattle.free_rebuild.specs.Chain.{is_open}
use Rattle.free_rebuild.specs.Updates.{Marks}
use Rattle.free_rebuild.proofs.ChainLemmas.{get_low, get_set}
use Rattle.free_rebuild.proofs.RunCounts.{low_tracks}
use Rattle.dadsm_ops.specs.Allocating.{Decides, HasChoice, HasDirectory, HasPlan, HasFurtherIfMany, IsAbsent, PutsDirectory, extent_type, new_f1, new_lstar, open_slots, own_slots}
use Rattle.dadsm_ops.specs.Operations.{HasVtocOf, image_named}
use Rattle.free_rebuild.specs.Durable.{PutsDurably}
use Rattle.dadsm_ops.proofs.ChosenTracks.{chosen_spare, runs_inside}
use Rattle.dadsm_ops.proofs.DirectorySets.{new_read, spare_outside}
use Rattle.dadsm_ops.proofs.NewAttributes.{asked}
use Rattle.dadsm_ops.proofs.NewChoices.{volume_is}
use Rattle.dadsm_ops.proofs.NewNames.{set_entered}
use Rattle.dadsm_ops.proofs.NewSetSteps.{IsOpenSlot, set_decides}
use Rattle.dadsm_ops.proofs.OpenRoom.{open_room}
use Rattle.dadsm_ops.proofs.OpenSlots.{count_less, found_first, get_behind, set_behind}
use Rattle.slot_laws.proofs.StandingPuts.{slots_by}

-- what is planned on a volume is planned on each image that stands for it
pub plan_stays : (before after : List ℕ) (w : Volume) (dsn : Dsn) (attr : Attr) (q : Request) (dir : ℕ) (runs : List Run) → HasPlan before dsn attr q dir runs → volume_of before ≡ Ok w → volume_of after ≡ Ok w → HasPlan after dsn attr q dir runs
plan_stays before after w dsn attr q dir runs plan one two = record {
  volume = plan.volume;
  stands = two ∙ sym one ∙ plan.stands;
  has = plan.has;
  fits = plan.fits;
  roomy = plan.roomy;
}

module _ (image : List ℕ) (v : Vol) (w : Volume) (mounted : IsMounted image v) (stands : volume_of image ≡ Ok w) where
  -- the slots of the volume are those of the index
  same_slots : slots_for image w ≡ slots_by image v
  unfolding volume_with
  same_slots = ap (slots_for image) (volume_is image v w mounted stands)

  -- so is the mark
  pub marked_by : IsMarked (slots_for image w) → IsMarked (slots_by image v)
  marked_by marked = subst IsMarked same_slots marked

  settled_by : AreSettled (slots_for image w) w → AreSettled (slots_by image v) (volume_by image v.geometry v.vtoc)
  settled_by settled =
      subst (λ (x : Volume). AreSettled (slots_by image v) x) (volume_is image v w mounted stands)
      (subst (λ (ss : List VtocSlot). AreSettled ss w) same_slots settled)

-- a settled image has the open slots that a planned set takes
pub plan_room : (image : List ℕ) (v : Vol) (dsn : Dsn) (attr : Attr) (q : Request) (dir : ℕ) (runs : List Run) → IsMounted image v → v.vtoc.start + v.vtoc.len ≤ 65536 → IsSettledVtoc image → HasPlan image dsn attr q dir runs → own_slots runs ≤ open_slots v.slots.items
plan_room image v dsn attr q dir runs mounted few settled plan =
    let is : plan.volume ≡ volume_by image v.geometry v.vtoc = volume_is image v plan.volume mounted plan.stands in
    let fits : slots_needed (with_new dsn attr q dir (volume_by image v.geometry v.vtoc) runs) ≤ (volume_by image v.geometry v.vtoc).slots =
    subst (λ (x : Volume). slots_needed (with_new dsn attr q dir x runs) ≤ x.slots) is plan.fits in
    open_room image v mounted few (settled_by image v settled.0 mounted settled.1 settled.2) dsn attr q dir runs fits

-- slot 0 isn't among them
pub open_marked : (items : List Dscb) (d : Dscb) → open_slots (slice_set items 0 d) ≡ open_slots items
open_marked [] d = refl
open_marked (x ∷ items) d = refl

-- the open slot that is found is one
pub found_open : (v : Vol) (slot : ℕ) → open_slot v.slots.items ≡ Some slot → IsOpenSlot v slot
found_open v slot found = by_place (position is_open (drop 2 v.slots.items)) refl found
  where
    by_place : (o : Option ℕ) → position is_open (drop 2 v.slots.items) ≡ o → option_map (λ (i : ℕ). 2 + i) o ≡ Some slot → IsOpenSlot v slot
    by_place None is given = cc
    by_place (Some k) is given =
        let at = position-Some is_open (drop 2 v.slots.items) k formats.F0 is in
        let number : 2 + k ≡ slot = cc in
        let item : Dscb = get_or (drop 2 v.slots.items) k formats.F0 in
        let there : slice_get v.slots.items slot ≡ Some item = ap (slice_get v.slots.items) (sym number) ∙ sym (get_behind v.slots.items k) ∙ slice_get-get_or (drop 2 v.slots.items) k formats.F0 at.0 in
        record {
          item = item;
          there = there;
          opened = at.1;
          behind = omega (arith, number);
          low = get_low v.slots.items slot item there;
        }

-- and there is one where there are some
pub open_there : (items : List Dscb) → 1 ≤ open_slots items → is_some (open_slot items) ≡ true
open_there items some = ap (λ (o : Option ℕ). is_some (option_map (λ (i : ℕ). 2 + i) o)) (found_first is_open (drop 2 items) some).is

-- a slot that is put is there still
pub put_low : (v : Vol) (slot : ℕ) (d : Dscb) (items : List Dscb) → slot < length v.slots.items → items ≡ slice_set v.slots.items slot d → slot < length items
put_low v slot d items low is =
    subst (λ (l : List Dscb). slot < length l) (sym is) (get_low (slice_set v.slots.items slot d) slot d (get_set v.slots.items slot d low))

-- a set takes one slot, or two where it has more than three extents
pub own_one : (runs : List Run) → length runs ≤ 3 → own_slots runs ≡ 1
own_one runs few = ap {B = ℕ} (λ (b : Bool). cond b 2 1) (not_less 3 (length runs) few)
  where
    not_less : (a b : ℕ) → b ≤ a → nat_lt a b ≡ false
    not_less a b l = grind (arith, nat_tests)

pub own_two : (runs : List Run) → 3 < length runs → own_slots runs ≡ 2
own_two runs more = ap {B = ℕ} (λ (b : Bool). cond b 2 1) (less 3 (length runs) more)
  where
    less : (a b : ℕ) → a < b → nat_lt a b ≡ true
    less a b l = grind (arith, nat_tests)

pub own_some : (runs : List Run) → 1 ≤ own_slots runs
own_some runs = by_third (nat_lt 3 (length runs))
  where
    by_third : (b : Bool) → 1 ≤ cond b 2 1
    by_third true = omega arith
    by_third false = omega arith

-- the set gets its name
pub set_enters : (v : Vol) (slot : ℕ) (f : F1) (name : List ℕ) (items : List Dscb) → IsOpenSlot v slot → f.name ≡ name → IsAbsent name v.slots.items → items ≡ slice_set v.slots.items slot (formats.F1 f) → IsEntered slot v.slots.items items
set_enters v slot f name items at named absent is =
    subst (IsEntered slot v.slots.items) (sym is)
    (set_entered v.slots.items slot at.item at.there at.opened f (subst (λ (l : List ℕ). IsAbsent l v.slots.items) (sym named) absent))

module _ (f : F1) (name serial : List ℕ) (a : Attr) (g : Geometry) (k : ℕ) (runs : List Run) (pointer : List ℕ) (dir : ℕ) (is : f ≡ new_f1 name serial a g k runs pointer dir) where
  -- its format 1, by the attributes and the type that are meant
  pub set_is : (b : Attr) (l : ℕ) → a ≡ b → k ≡ l → f ≡ new_f1 name serial b g l runs pointer dir
  set_is b l attr kind = is ∙ ap₂ (λ (x : Attr) (n : ℕ). new_f1 name serial x g n runs pointer dir) attr kind

  pub set_named : f.name ≡ name
  unfolding new_f1
  set_named = ap (λ (x : F1). x.name) is

-- ---- what is planned on a mounted image

module _ (image : List ℕ) (v : Vol) (mounted : IsMounted image v) (dsn : Dsn) (attr : Attr) (q : Request) (dir : ℕ) (runs : List Run) (plan : HasPlan image dsn attr q dir runs) where
  abbrev volume : Volume
  volume = volume_by image v.geometry v.vtoc

  plan_is : plan.volume ≡ volume
  plan_is = volume_is image v plan.volume mounted plan.stands

  pub plan_has : HasChoice dsn attr q dir volume runs
  plan_has = subst (λ (x : Volume). HasChoice dsn attr q dir x runs) plan_is plan.has

  pub plan_slots : slots_needed (with_new dsn attr q dir volume runs) ≤ volume.slots
  plan_slots = subst (λ (x : Volume). slots_needed (with_new dsn attr q dir x runs) ≤ x.slots) plan_is plan.fits

  plan_new : AreNew volume runs
  plan_new = choice_new volume q.unit q.contig q.primary runs plan_has.chosen

  pub plan_few : length runs ≤ 5
  plan_few = plan_new.few

  pub plan_on_pack : AllByRecursion (IsOnPack v.geometry) runs
  unfolding volume_with
  plan_on_pack = plan_new.on_pack

  pub plan_roomy : lacks_room v.geometry.device dsn.bytes dir (tracks_in runs) ≡ false
  unfolding volume_with
  plan_roomy = subst (λ (x : Volume). lacks_room x.geometry.device dsn.bytes dir (tracks_in runs) ≡ false) plan_is plan.roomy

  -- none of its tracks is the VTOC's, and each is on the pack
  pub plan_outside : (k t : ℕ) → slice_get (owned_tracks runs) k ≡ Some t → (is_in t v.vtoc ≡ false) × (t < tracks_of v.geometry)
  unfolding volume_with
  plan_outside k t there = (spare_outside volume runs (chosen_spare volume q.unit q.contig q.primary runs plan_has.chosen) k t there, runs_inside v.geometry runs plan_on_pack k t there)

  -- where they hold its directory, they are read as the body of the set
  pub plan_body : dir ≤ 2000 → is_catalog dsn.bytes ≡ false → HasDirectory image v.geometry runs dir
      → body_of v.geometry (data_tracks image v.geometry v.vtoc) dsn.bytes (asked attr q) runs (new_lstar v.geometry.device dir) ≡ new_body v.geometry.device dsn.bytes attr dir
  plan_body most other formatted = new_read image v.geometry v.vtoc dsn attr q dir runs most other plan_has.right plan_outside formatted

-- The format 1 of a planned set decides the operation.
pub put_decides : {T E : Type 0} (name : List ℕ) (v v' : Vol) (slot : ℕ) (m n : Meaning (List File)) (units : List Attached) → IsOfUnit units v → IsMounted (image_named m.state name) v → open_slot v.slots.items ≡ Some slot → IsMarked (slots_by (image_named m.state name) v)
    → (dsn : Dsn) (attr : Attr) (q : Request) (dir : ℕ) (runs : List Run) (pointer : List ℕ) → dir ≤ 2000 → is_catalog dsn.bytes ≡ false → q.secondary < 2 ^ 24 → HasFurtherIfMany (slots_by (image_named m.state name) v) v.geometry (extent_type q.unit) runs pointer → HasPlan (image_named m.state name) dsn attr q dir runs → HasDirectory (image_named m.state name) v.geometry runs dir
    → (f : F1) → f ≡ new_f1 dsn.bytes v.serial.bytes (asked attr q) v.geometry (extent_type q.unit) runs pointer dir
    → (result : Result T E) (w : Vol) → OnOk result (HasVtocOf v w) → OnOk result (IsIndexOf (image_named n.state name) v' → IsIndexOf (image_named n.state name) w) → OnOk result (AreWithout v.free.items runs w.free.items)
    → PutsDurably name v slot (formats.F1 f) v' m n result → Decides name (allocate_on dsn attr q dir) w m n result
put_decides name v v' slot m n units unit mounted found marked dsn attr q dir runs pointer most other secondary third plan formatted f is result w others indexed without put =
    let image = image_named m.state name in
    let small : tracks_of v.geometry ≤ 65536 = omega (arith, few_tracks v.geometry ((unit_of units v.unit).size, unit.whole)) in
    set_decides name v v' slot m n mounted (low_tracks units v unit) (found_open v slot found) marked dsn attr q dir most runs pointer v.serial.bytes other secondary small
    (plan_few image v mounted dsn attr q dir runs plan) (plan_on_pack image v mounted dsn attr q dir runs plan) third (plan_has image v mounted dsn attr q dir runs plan) (plan_slots image v mounted dsn attr q dir runs plan)
    (plan_roomy image v mounted dsn attr q dir runs plan) (plan_body image v mounted dsn attr q dir runs plan most other formatted)
    result w others indexed without (subst (λ (x : F1). PutsDurably name v slot (formats.F1 x) v' m n result) is put)

-- ---- what a step that marks an image leaves

module _ {T E : Type 0} {x : T} (name : List ℕ) (v : Vol) (m n : Meaning (List File)) (marks : Marks {T = T} {E = E} name v m n (Ok x)) where
  pub still_planned : (dsn : Dsn) (attr : Attr) (q : Request) (dir : ℕ) (runs : List Run) → HasPlan (image_named m.state name) dsn attr q dir runs → HasPlan (image_named n.state name) dsn attr q dir runs
  still_planned dsn attr q dir runs plan = plan_stays (image_named m.state name) (image_named n.state name) marks.volume dsn attr q dir runs plan marks.before marks.marked.stands

  pub still_marked : IsMarked (slots_by (image_named n.state name) v)
  still_marked = marked_by (image_named n.state name) v marks.volume marks.index marks.marked.stands marks.marked.marked

  -- the same, whatever else it gives
  pub marks_as : {A B : Type 0} (y : A) → Marks {T = A} {E = B} name v m n (Ok y)
  marks_as y = record {
    volume = marks.volume;
    before = marks.before;
    marked = marks.marked;
    index = marks.index;
    durable = marks.durable;
    printed = marks.printed;
    moments = marks.moments;
  }

-- ---- what the directory leaves

module _ {T E : Type 0} {x : T} (name : List ℕ) (runs : List Run) (dir : ℕ) (v : Vol) (m n : Meaning (List File)) (puts : PutsDirectory {T = T} {E = E} name runs dir v m n (Ok x)) where
  pub puts_planned : (dsn : Dsn) (attr : Attr) (q : Request) → HasPlan (image_named m.state name) dsn attr q dir runs → HasPlan (image_named n.state name) dsn attr q dir runs
  puts_planned dsn attr q plan = plan_stays (image_named m.state name) (image_named n.state name) puts.volume dsn attr q dir runs plan puts.before puts.spared.stands

  pub puts_marked : IsMarked (slots_by (image_named n.state name) v)
  puts_marked = marked_by (image_named n.state name) v puts.volume puts.index puts.spared.stands puts.spared.marked

-- ---- a step that marks an image, again

-- it failed
pub marks_not : {T E A B : Type 0} {result : Result T E} (name : List ℕ) (v : Vol) (m n : Meaning (List File)) (answer : Result A B) → IsErr answer → Marks name v m n result → Marks name v m n answer
marks_not name v m n answer failed marks = record {
  volume = marks.volume;
  before = marks.before;
  marked = IfOk-from_err answer _ failed;
  index = IfOk-from_err answer _ failed;
  durable = IfOk-from_err answer _ failed;
  printed = marks.printed;
  moments = marks.moments;
}

-- nothing is written
pub marks_none : {T E : Type 0} (name : List ℕ) (v : Vol) (m : Meaning (List File)) (x : T) → IsMounted (image_named m.state name) v → IsMarked (slots_by (image_named m.state name) v) → IsDurable m → Marks {T = T} {E = E} name v m m (Ok x)
unfolding volume_with
marks_none name v m x mounted marked durable = record {
  volume = volume_by (image_named m.state name) v.geometry v.vtoc;
  before = mounted.volume;
  marked = record { stands = mounted.volume; marked = marked; tracks = record { size = refl; header = refl; tracks = λ track outside. refl }; others = λ other apart. refl };
  index = mounted;
  durable = durable;
  printed = refl;
  moments = elapses_none m _;
}

-- ---- what the deciding write leaves

pub decides_not : {T E A B : Type 0} {result : Result T E} (name : List ℕ) (operation : Volume → Result Volume Refusal) (v : Vol) (m n : Meaning (List File)) (answer : Result A B) → IsErr answer → Decides name operation v m n result → Decides name operation v m n answer
decides_not name operation v m n answer failed decides = record {
  volume = decides.volume;
  before = decides.before;
  after = decides.after;
  step = decides.step;
  geometry = decides.geometry;
  vtoc = decides.vtoc;
  decided = IfOk-from_err answer _ failed;
  index = IfOk-from_err answer _ failed;
  durable = IfOk-from_err answer _ failed;
  printed = decides.printed;
  moments = decides.moments;
}

pub decided_marked : {T E : Type 0} {x : T} (name : List ℕ) (operation : Volume → Result Volume Refusal) (v : Vol) (m n : Meaning (List File)) → Decides {T = T} {E = E} name operation v m n (Ok x) → IsMarked (slots_by (image_named n.state name) v)
decided_marked name operation v m n decides = marked_by (image_named n.state name) v decides.after decides.index decides.decided.stands decides.decided.marked

-- the free runs change, and then the order of names
pub entered_changes : (v u w : Vol) → u ≡ record v { free = u.free } → w ≡ record u { by_name = w.by_name } → w ≡ record v { free = w.free; by_name = w.by_name }
entered_changes v u w first second =
    second ∙ ap (λ (x : Vol). record x { by_name = w.by_name }) first ∙ (λ i. record v { free = sym (ap (λ (x : Vol). x.free) second) i; by_name = w.by_name })

-- the name of the unit's file is the same
pub name_kept : (us vs : List Attached) (v w : Vol) → vs ≡ us → HasVtocOf v w → (unit_of vs w.unit).name ≡ (unit_of us v.unit).name
name_kept us vs v w same is =
    ap (λ (x : Vol). (unit_of vs x.unit).name) is ∙ ap (λ (l : List Attached). (unit_of l v.unit).name) same

-- a format 3 takes one of them
pub open_less : (v : Vol) (slot : ℕ) (h : F3) (runs : List Run) → IsOpenSlot v slot → 2 ≤ open_slots v.slots.items → 1 ≤ open_slots (slice_set v.slots.items slot (formats.F3 h))
open_less v slot h runs at more = by_place slot at.item at.there at.opened at.behind
  where
    by_place : (k : ℕ) (d : Dscb) → slice_get v.slots.items k ≡ Some d → is_open d ≡ true → 2 ≤ k → 1 ≤ open_slots (slice_set v.slots.items k (formats.F3 h))
    by_place zero d there opened behind = absurd (omega (arith, behind))
    by_place (suc zero) d there opened behind = absurd (omega (arith, behind))
    by_place (suc (suc k)) d there opened behind =
        let two : 2 + k ≡ suc (suc k) = omega arith in
        let here : slice_get (drop 2 v.slots.items) k ≡ Some d = get_behind v.slots.items k ∙ ap (slice_get v.slots.items) two ∙ there in
        let less = count_less is_open (drop 2 v.slots.items) k d (formats.F3 h) here opened refl in
        let set : drop 2 (slice_set v.slots.items (suc (suc k)) (formats.F3 h)) ≡ slice_set (drop 2 v.slots.items) k (formats.F3 h) =
        ap (λ (n : ℕ). drop 2 (slice_set v.slots.items n (formats.F3 h))) (sym two) ∙ set_behind v.slots.items k (formats.F3 h) in
        omega (arith, more, less, ap (count_by is_open) set)
