-- The directories of a volume are packed where those of the data sets in the index of its image are.
use Rattle.std.proofs.Common.{◌≡◌, ℕ, zero, suc, Bool, true, false, cond, List, [], ◌∷◌, map, Option, Some, None, Result, Ok, refl, sym, ap, ◌∙◌, subst}
use Rattle.std.specs.Prelude.{slice_get}
use Rattle.std.specs.List.{All, AllByRecursion, cons_option}
use Rattle.std.proofs.lemmas.List.Elements.{All-cons, All-get_or, All-head, All-nil, All-tail}
use Rattle.std.proofs.lemmas.List.Sorted.{All-permutation, IsPermutation-sym}
use Rattle.std.proofs.lemmas.Option.{get_or_from_slice_get, slice_get_within}
use Rattle.dscb_codec.specs.declared.Dscb.{Dscb}
use Rattle.dscb_codec.specs.declared.Dscb.TheVariants as formats
use Rattle.dscb_codec.specs.declared.DscbErr.{DscbErr}
use Rattle.dscb_codec.specs.declared.F1.{F1}
use Rattle.vol_model.specs.declared.contents.Block.{Block}
use Rattle.vol_model.specs.declared.contents.Body.{Body}
use Rattle.vol_model.specs.declared.contents.Body.TheVariants as bodies
use Rattle.vol_model.specs.declared.contents.DataSet.{DataSet}
use Rattle.vol_model.specs.declared.contents.Place.{Place}
use Rattle.vol_model.specs.declared.contents.Volume.{Volume}
use Rattle.vol_model.specs.Order.{in_order}
use Rattle.vol_model.specs.Shelf.{is_catalog, is_partitioned, is_sequential, unreadable}
use Rattle.vol_model.proofs.InOrder.{in_order-permutation}
use Rattle.pack_spec.specs.declared.slot.VtocSlot.{VtocSlot}
use Rattle.pack_spec.specs.Blocks.{data_tracks, seq_body}
use Rattle.pack_spec.specs.Bodies.{body_of}
use Rattle.pack_spec.specs.Rules.{set_in}
use Rattle.pack_spec.specs.Settled.{ArePacked, HasPacked, HavePacked, IsPacked, directory_upto}
use Rattle.pack_spec.specs.Slots.{slots_of_vtoc}
use Rattle.pack_spec.specs.Volume.{attr_of, data_set_of, data_sets_in, volume_by, volume_of, volume_with}
use Rattle.pack_spec.proofs.BodyKinds.{partitioned_body}
use Rattle.pack_spec.proofs.PartBodies.{part_end, part_or_unread}
use Rattle.pack_spec.proofs.SeqBodies.{seq_or_unread}
use Rattle.pack_spec.proofs.SetNames.{all_sets, sets_among}
use Rattle.vtoc_index.specs.declared.vol.Vol.{Vol}
use Rattle.vtoc_index.specs.Index.{AreDscbs, IsMounted}
use Rattle.vtoc_sets.specs.Sets.{extents_in}
use Rattle.pds_directory.specs.Directories.{data_in, directory_in, owned_in, part_in}
use Rattle.pds_directory.proofs.PackedDirectories.{directory_in_is}

-- ---- lists

module _ {X : Type 0} (P : X → Type 0) where
  all_of : (xs : List X) → ((k : ℕ) (x : X) → slice_get xs k ≡ Some x → P x) → All P xs
  all_of [] each = All-nil P
  all_of (x ∷ xs) each = All-cons P x xs (each zero x refl) (all_of xs (λ k y at. each (suc k) y at))

  all_at : (xs : List X) (k : ℕ) (x : X) → All P xs → slice_get xs k ≡ Some x → P x
  all_at xs k x all at = subst P (get_or_from_slice_get xs k x x at) (All-get_or P xs k x (slice_get_within xs k x at) all)

  by_each : (xs : List X) → All P xs → AllByRecursion P xs
  by_each [] all = tt
  by_each (x ∷ xs) all = (All-head P x xs all, by_each xs (All-tail P x xs all))

all_mapped : {X Y : Type 0} (P : Y → Type 0) (h : X → Y) (xs : List X) → AllByRecursion (λ (x : X). P (h x)) xs → All P (map h xs)
all_mapped P h [] all = All-nil P
all_mapped P h (x ∷ xs) all = All-cons P (h x) (map h xs) all.0 (all_mapped P h xs all.1)

each_mapped : {X Y : Type 0} (P : Y → Type 0) (h : X → Y) (xs : List X) → All P (map h xs) → AllByRecursion (λ (x : X). P (h x)) xs
each_mapped P h [] all = tt
each_mapped P h (x ∷ xs) all = (All-head P (h x) (map h xs) all, each_mapped P h xs (All-tail P (h x) (map h xs) all))

-- ---- slots and their data sets

module _ (Q : F1 → Type 0) where
  abbrev OfSet : VtocSlot → Type 0
  OfSet s = (f : F1) → set_in s.content ≡ Some f → Q f

  all_slots : (slots : List VtocSlot) (dscbs : List Dscb) → AreDscbs dscbs slots → ((k : ℕ) (f : F1) → slice_get dscbs k ≡ Some (formats.F1 f) → Q f) → AllByRecursion OfSet slots
  all_slots [] dscbs are each = tt
  all_slots (s ∷ slots) [] are each = absurd (empty s.content (map (λ (t : VtocSlot). t.content) slots) are)
    where
      empty : (c : Result Dscb DscbErr) (rest : List (Result Dscb DscbErr)) → c ∷ rest ≡ [] → ⊥
      empty c rest same = cc
  all_slots (s ∷ slots) (d ∷ dscbs) are each =
      let content : s.content ≡ Ok d = cc in
      let more : AreDscbs dscbs slots = cc in
      ((λ f is. each zero f (ap Some (held d f (sym (ap set_in content) ∙ is)))), all_slots slots dscbs more (λ k f at. each (suc k) f at))
    where
      held : (d : Dscb) (f : F1) → set_in (Ok d) ≡ Some f → d ≡ formats.F1 f
      held (formats.F1 h) f is = cc
      held d f is = cc

  set_at : (slots : List VtocSlot) (dscbs : List Dscb) (k : ℕ) (f : F1) → AreDscbs dscbs slots → slice_get dscbs k ≡ Some (formats.F1 f) → AllByRecursion Q (sets_among slots) → Q f
  set_at slots [] k f are is all = cc
  set_at [] (d ∷ dscbs) k f are is all = absurd (empty (Ok d) (map Ok dscbs) are)
    where
      empty : (c : Result Dscb DscbErr) (rest : List (Result Dscb DscbErr)) → [] ≡ c ∷ rest → ⊥
      empty c rest same = cc
  set_at (s ∷ slots) (d ∷ dscbs) zero f are is all =
      let same : d ≡ formats.F1 f = cc in
      let content : s.content ≡ Ok d = cc in
      (subst (λ (o : Option F1). AllByRecursion Q (cons_option o (sets_among slots))) (ap set_in (content ∙ ap Ok same)) all).0
  set_at (s ∷ slots) (d ∷ dscbs) (suc k) f are is all =
      let more : AreDscbs dscbs slots = cc in
      set_at slots dscbs k f more is (rest (set_in s.content) (sets_among slots) all)
    where
      rest : (o : Option F1) (fs : List F1) → AllByRecursion Q (cons_option o fs) → AllByRecursion Q fs
      rest None fs all = all
      rest (Some x) fs all = all.1

-- ---- the directory of a data set

module _ (image : List ℕ) (v : Vol) (f : F1) where
  abbrev Has : Body → Type 0
  Has body = HasPacked v.geometry (data_in image v) (extents_in image v f) body

  abbrev upto : Place → List Block
  upto p = directory_upto v.geometry (data_in image v) (owned_in image v f) p

  own_packed : unreadable (part_in image v f) ≡ None → Has (part_in image v f) → IsPacked (directory_in image v f)
  own_packed readable = part_or_unread v.geometry (data_in image v) (extents_in image v f) f.lstar (λ body. part_in image v f ≡ body → Has body → IsPacked (directory_in image v f))
      (λ n end es bs is has. subst IsPacked (sym (directory_in_is image v f readable)) (subst (λ (p : Place). IsPacked (upto p)) (sym (part_end v.geometry (data_in image v) (extents_in image v f) f.lstar n end es bs is)) has))
      (λ k is has. absurd (broken k (ap unreadable (sym is) ∙ readable)))
      refl
    where
      broken : (k : ℕ) → unreadable (bodies.Unreadable k) ≡ None → ⊥
      broken k none = cc

  packed_own : (unreadable (part_in image v f) ≡ None → IsPacked (directory_in image v f)) → Has (part_in image v f)
  packed_own packed = part_or_unread v.geometry (data_in image v) (extents_in image v f) f.lstar (λ body. part_in image v f ≡ body → Has body)
      (λ n end es bs is.
      let readable : unreadable (part_in image v f) ≡ None = ap unreadable is in
      subst (λ (p : Place). IsPacked (upto p)) (part_end v.geometry (data_in image v) (extents_in image v f) f.lstar n end es bs is) (subst IsPacked (directory_in_is image v f readable) (packed readable)))
      (λ k is. tt)
      refl

  abbrev body : Body
  body = body_of v.geometry (data_in image v) f.name (attr_of f) (extents_in image v f) f.lstar

  of_body : is_partitioned f.name (attr_of f) ≡ true → Has body → Has (part_in image v f)
  of_body is has = subst Has (partitioned_body v.geometry (data_in image v) f.name (attr_of f) (extents_in image v f) f.lstar is) has

  to_body : (is_partitioned f.name (attr_of f) ≡ true → Has (part_in image v f)) → Has body
  unfolding body_of
  to_body has = by (is_sequential f.name (attr_of f)) (is_partitioned f.name (attr_of f)) (is_catalog f.name) has
    where
      by : (s p c : Bool) → (p ≡ true → Has (part_in image v f))
          → Has (cond s (seq_body v.geometry (data_in image v) (extents_in image v f) f.lstar) (cond p (part_in image v f) (cond c (bodies.Unreadable 0) bodies.Other)))
      by true p c part = seq_or_unread v.geometry (data_in image v) (extents_in image v f) f.lstar Has (λ bs. tt) (λ k. tt)
      by false true c part = part refl
      by false false true part = tt
      by false false false part = tt

-- ---- those of all

module _ (image : List ℕ) (v : Vol) (w : Volume) (mounted : IsMounted image v) (stands : volume_of image ≡ Ok w) where
  abbrev slots : List VtocSlot
  slots = slots_of_vtoc image v.geometry v.vtoc

  abbrev make : F1 → DataSet
  make x = data_set_of v.geometry (data_in image v) slots x

  abbrev HasSetPacked : DataSet → Type 0
  HasSetPacked d = HasPacked v.geometry (data_in image v) d.extents d.body

  same : volume_by image v.geometry v.vtoc ≡ w
  same = let both : Ok (volume_by image v.geometry v.vtoc) ≡ Ok w = sym mounted.volume ∙ stands in cc

  -- in the order of their slots
  made : (x : F1) → HasSetPacked (make x) ≡ Has image v x (body image v x)
  unfolding data_set_of
  made x = refl

  sets_are : w.sets ≡ in_order (map make (sets_among slots))
  unfolding volume_with data_sets_in
  sets_are = ap (λ (u : Volume). u.sets) (sym same)

  as_index : HavePacked w.geometry (data_tracks image w.geometry w.vtoc) w.sets ≡ HavePacked v.geometry (data_in image v) (in_order (map make (sets_among slots)))
  unfolding volume_with
  as_index = ap (λ (u : Volume). HavePacked u.geometry (data_tracks image u.geometry u.vtoc) w.sets) (sym same) ∙ ap (HavePacked v.geometry (data_in image v)) sets_are

  -- The directory of a data set in the index is packed where those of the volume are.
  pub packed_in : ArePacked image w → (f : F1) (slot : ℕ) → slice_get v.slots.items slot ≡ Some (formats.F1 f) → is_partitioned f.name (attr_of f) ≡ true → unreadable (part_in image v f) ≡ None → IsPacked (directory_in image v f)
  packed_in packed f slot there kind readable =
      let listed : HavePacked v.geometry (data_in image v) (in_order (map make (sets_among slots))) = subst (λ (T : Type 0). T) as_index packed in
      let ordered : All HasSetPacked (in_order (map make (sets_among slots))) = all_of HasSetPacked (in_order (map make (sets_among slots))) listed in
      let all = each_mapped HasSetPacked make (sets_among slots) (All-permutation HasSetPacked (in_order (map make (sets_among slots))) (map make (sets_among slots)) (IsPermutation-sym (map make (sets_among slots)) (in_order (map make (sets_among slots))) (in_order-permutation (map make (sets_among slots)))) ordered) in
      own_packed image v f readable (of_body image v f kind (subst (λ (T : Type 0). T) (made f) (set_at (λ (x : F1). HasSetPacked (make x)) slots v.slots.items slot f mounted.index.slots there all)))

  -- Those of the volume are packed where those of all data sets in the index are.
  pub packed_all : ((f : F1) (slot : ℕ) → slice_get v.slots.items slot ≡ Some (formats.F1 f) → is_partitioned f.name (attr_of f) ≡ true → unreadable (part_in image v f) ≡ None → IsPacked (directory_in image v f)) → ArePacked image w
  packed_all each =
      let Q : F1 → Type 0 = λ (x : F1). HasSetPacked (make x) in
      let all : AllByRecursion Q (sets_among slots) = all_sets Q (OfSet Q) (λ s x is of. of x is) slots (all_slots Q slots v.slots.items mounted.index.slots
      (λ k x there. subst (λ (T : Type 0). T) (sym (made x)) (to_body image v x (λ kind. packed_own image v x (λ readable. each x k there kind readable))))) in
      let ordered : All HasSetPacked (in_order (map make (sets_among slots))) = All-permutation HasSetPacked (map make (sets_among slots)) (in_order (map make (sets_among slots))) (in_order-permutation (map make (sets_among slots))) (all_mapped HasSetPacked make (sets_among slots) all) in
      subst (λ (T : Type 0). T) (sym as_index) (λ k d there. all_at HasSetPacked (in_order (map make (sets_among slots))) k d ordered there)
