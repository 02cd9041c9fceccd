-- The index of a volume after a data set's format 1 is cleared in it: the order of names, and the free runs.
use Rattle.std.proofs.Common.{◌≡◌, ℕ, zero, suc, ◌<◌, true, List, [], ◌∷◌, length, Option, Some, None, refl, sym, ap, subst, ◌∙◌}
use Rattle.std.specs.Prelude.{Ok, is_some, option_and_then, slice_get, slice_index_or, slice_set}
use Rattle.std.specs.Option.{option_map}
use Rattle.dscb_codec.specs.declared.Dscb.{Dscb}
use Rattle.dscb_codec.specs.declared.Dscb.TheVariants as formats
use Rattle.dscb_codec.specs.declared.F1.{F1}
use Rattle.hall_core.specs.Facts.{Attached}
use Rattle.pack_spec.specs.Label.{tracks_of}
use Rattle.pack_spec.specs.Rules.{set_in}
use Rattle.vol_model.specs.declared.contents.Run.{Run}
use Rattle.vol_model.specs.Space.{AreMaximal, EndBy}
use Rattle.vtoc_index.specs.declared.vol.Vol.{Vol}
use Rattle.vtoc_index.specs.Index.{IsIndexOf, IsMounted, IsOfUnit}
use Rattle.vtoc_index.specs.Bits.{with_bit}
use Rattle.vtoc_index.specs.Names.{IsForgotten, name_at}
use Rattle.dadsm_ops.specs.Scratching.{AreFreed, usable_tracks}
use Rattle.dadsm_ops.proofs.FreedLists.{usable_inside}
use Rattle.dadsm_ops.proofs.Reordering.{set_elsewhere, set_there}
use Rattle.slot_laws.proofs.FoundSlots.{low_of}
use Rattle.dadsm_ops.proofs.ScratchedImages.{not_first_slot}

-- an index that differs in its free runs and the order of its names alone
abbrev pub IsFreed : Vol → Vol → Type 0
IsFreed v w = w ≡ record v { free = w.free; by_name = w.by_name }

-- it is that of the same image
pub index_freed : (image : List ℕ) (v w : Vol) → IsFreed v w → IsIndexOf image v → IsIndexOf image w
index_freed image v w same is =
    let there : IsIndexOf image (record v { free = w.free; by_name = w.by_name }) = record { header = is.header; serial = is.serial; tracks = is.tracks; slots = is.slots; firsts = is.firsts; buffer = is.buffer } in
    subst (IsIndexOf image) (sym same) there

-- and of the same unit, where its free runs are maximal and lie on the pack
pub unit_freed : (units : List Attached) (v w : Vol) → IsFreed v w → AreMaximal w.free.items × EndBy (tracks_of v.geometry) w.free.items → IsOfUnit units v → IsOfUnit units w
unit_freed units v w same free of =
    let there : IsOfUnit units (record v { free = w.free; by_name = w.by_name }) = record {
      attached = of.attached;
      whole = of.whole;
      inside = of.inside;
      tracks = of.tracks;
      few = of.few;
      most = of.most;
      firsts = of.firsts;
      free = free;
      buffer = of.buffer;
    } in
    subst (IsOfUnit units) (sym same) there

-- the name that a DSCB gives
abbrev name_of : Option Dscb → Option (List ℕ)
name_of o = option_and_then (λ d. option_map (λ (h : F1). h.name) (set_in (Ok d))) o

-- a slot that has a name holds a format 1 of it
pub set_at : (items : List Dscb) (slot : ℕ) (name : List ℕ) → name_at items slot ≡ Some name → (f : F1) × ((slice_get items slot ≡ Some (formats.F1 f)) × (name ≡ f.name))
set_at items slot name is = by_item (slice_get items slot) is
  where
    by_item : (o : Option Dscb) → name_of o ≡ Some name → (f : F1) × ((o ≡ Some (formats.F1 f)) × (name ≡ f.name))
    by_item None given = cc
    by_item (Some formats.F0) given = cc
    by_item (Some (formats.F1 f)) given = (f, (refl, cc))
    by_item (Some (formats.F3 f)) given = cc
    by_item (Some (formats.F4 f)) given = cc
    by_item (Some (formats.F5 f)) given = cc

-- a cleared slot has no name any more
pub forgotten : (items new : List Dscb) (slot : ℕ) → is_some (name_at items slot) ≡ true → slot < length items → new ≡ slice_set items slot formats.F0 → IsForgotten slot items new
forgotten items new slot was low is = record {
  was = was;
  is = ap (λ (l : List Dscb). name_at l slot) is ∙ ap name_of (set_there items slot formats.F0 low);
  others = λ other apart. ap (λ (l : List Dscb). name_at l other) is ∙ ap name_of (set_elsewhere items slot other formats.F0 apart);
}

-- An index has the unit, the serial, the geometry and the VTOC of another.
pub record HasBase (v w : Vol) : Type 0 where
  pub unit : w.unit ≡ v.unit
  pub serial : w.serial ≡ v.serial
  pub geometry : w.geometry ≡ v.geometry
  pub vtoc : w.vtoc ≡ v.vtoc
  pub firsts : w.firsts ≡ v.firsts

pub base_put : (v w : Vol) → w ≡ record v { slots = w.slots; buf = w.buf } → HasBase v w
base_put v w same = record {
  unit = ap (λ (x : Vol). x.unit) same;
  serial = ap (λ (x : Vol). x.serial) same;
  geometry = ap (λ (x : Vol). x.geometry) same;
  vtoc = ap (λ (x : Vol). x.vtoc) same;
  firsts = ap (λ (x : Vol). x.firsts) same;
}

pub base_freed : (v w : Vol) → IsFreed v w → HasBase v w
base_freed v w same = record {
  unit = ap (λ (x : Vol). x.unit) same;
  serial = ap (λ (x : Vol). x.serial) same;
  geometry = ap (λ (x : Vol). x.geometry) same;
  vtoc = ap (λ (x : Vol). x.vtoc) same;
  firsts = ap (λ (x : Vol). x.firsts) same;
}

pub base_then : (u v w : Vol) → HasBase u v → HasBase v w → HasBase u w
base_then u v w one two = record {
  unit = two.unit ∙ one.unit;
  serial = two.serial ∙ one.serial;
  geometry = two.geometry ∙ one.geometry;
  vtoc = two.vtoc ∙ one.vtoc;
  firsts = two.firsts ∙ one.firsts;
}

-- so it differs in what else it has alone
pub base_differs : (v w : Vol) → HasBase v w → w ≡ record v { slots = w.slots; free = w.free; by_name = w.by_name; buf = w.buf }
base_differs v w base = λ i. record w {
  unit = base.unit i;
  serial = base.serial i;
  geometry = base.geometry i;
  vtoc = base.vtoc i;
  firsts = base.firsts i;
}

-- a slot that has a name is there
pub named_low : (items : List Dscb) (slot : ℕ) → is_some (name_at items slot) ≡ true → slot < length items
named_low items slot is = by_name (name_at items slot) refl is
  where
    by_name : (o : Option (List ℕ)) → name_at items slot ≡ o → is_some o ≡ true → slot < length items
    by_name None there given = cc
    by_name (Some name) there given = let set = set_at items slot name there in low_of items slot (formats.F1 set.0) set.1.0

-- a data set's format 1 stays while another slot changes
pub set_still : (image : List ℕ) (v w : Vol) (slot : ℕ) (f : F1) (d : Dscb) → IsMounted image v → slice_get v.slots.items slot ≡ Some (formats.F1 f) → w.slots.items ≡ slice_set v.slots.items 0 d → slice_get w.slots.items slot ≡ Some (formats.F1 f)
set_still image v w slot f d mounted set items =
    ap (λ (l : List Dscb). slice_get l slot) items ∙ set_elsewhere v.slots.items 0 slot d (not_first_slot image v slot f mounted set) ∙ set

-- its name, too, whatever slot it is
pub name_marked : (items new : List Dscb) (slot : ℕ) → new ≡ slice_set items 0 (with_bit true (slice_index_or items 0 formats.F0)) → name_at new slot ≡ name_at items slot
name_marked items new slot is = ap (λ (l : List Dscb). name_at l slot) is ∙ by_items items slot
  where
    same_name : (d : Dscb) → name_of (Some (with_bit true d)) ≡ name_of (Some d)
    same_name formats.F0 = refl
    same_name (formats.F1 f) = refl
    same_name (formats.F3 f) = refl
    same_name (formats.F4 f) = refl
    same_name (formats.F5 f) = refl

    by_items : (ds : List Dscb) (k : ℕ) → name_at (slice_set ds 0 (with_bit true (slice_index_or ds 0 formats.F0))) k ≡ name_at ds k
    by_items [] k = refl
    by_items (d ∷ ds) zero = same_name d
    by_items (d ∷ ds) (suc k) = refl

-- a slot that has a name holds a format 1
pub set_of : (items : List Dscb) (slot : ℕ) → is_some (name_at items slot) ≡ true → (f : F1) × (slice_get items slot ≡ Some (formats.F1 f))
set_of items slot is = by_name (name_at items slot) refl is
  where
    by_name : (o : Option (List ℕ)) → name_at items slot ≡ o → is_some o ≡ true → (f : F1) × (slice_get items slot ≡ Some (formats.F1 f))
    by_name None there given = cc
    by_name (Some name) there given = let set = set_at items slot name there in (set.0, set.1.0)

-- the free runs lie on the pack then
pub freed_within : (units : List Attached) (v w : Vol) (runs : List Run) → IsOfUnit units v → AreFreed (usable_tracks v.geometry) v.free.items runs w.free.items → AreMaximal w.free.items × EndBy (tracks_of v.geometry) w.free.items
freed_within units v w runs of are = (are.maximal, are.within (tracks_of v.geometry) (usable_inside v.geometry) of.free.1)
