-- The index of a VTOC when a new data set is in it: its slots, its free runs and its order of names.
use Rattle.std.proofs.Common.{◌≡◌, ◌≤◌, ◌+◌, ℕ, List, sym, ap, subst, ◌∙◌}
use Rattle.std.specs.Prelude.{vec_len}
use Rattle.std.specs.Vec.{vec_capacity}
use Rattle.hall_core.specs.Facts.{Attached}
use Rattle.pack_spec.specs.Label.{tracks_of}
use Rattle.space_alloc.specs.Edits.{AreWithout}
use Rattle.vol_model.specs.declared.contents.Run.{Run}
use Rattle.vtoc_index.specs.Index.{IsIndexOf, IsOfUnit}
use Rattle.vtoc_index.specs.declared.vol.Vol.{Vol}
use Rattle.dadsm_ops.specs.Operations.{HasVtocOf}

module _ (v w : Vol) (others : w ≡ record v { free = w.free; by_name = w.by_name }) where
  -- it is of the same unit
  pub unit_with : (units : List Attached) (runs : List Run) → IsOfUnit units v → AreWithout v.free.items runs w.free.items → IsOfUnit units w
  unit_with units runs unit without =
      let same : IsOfUnit units (record v { free = w.free; by_name = w.by_name }) = record {
        attached = unit.attached;
        whole = unit.whole;
        inside = unit.inside;
        tracks = unit.tracks;
        few = unit.few;
        most = unit.most;
        firsts = unit.firsts;
        free = (without.maximal, without.within (tracks_of v.geometry) unit.free.1);
        buffer = unit.buffer;
      } in
      subst (IsOfUnit units) (sym others) same

  -- and of the same image
  pub index_with : (image : List ℕ) → IsIndexOf image v → IsIndexOf image w
  index_with image index =
      let same : IsIndexOf image (record v { free = w.free; by_name = w.by_name }) = record {
        header = index.header;
        serial = index.serial;
        tracks = index.tracks;
        slots = index.slots;
        firsts = index.firsts;
        buffer = index.buffer;
      } in
      subst (IsIndexOf image) (sym others) same

-- slots and buffer, and then free runs and names
pub both_changed : (u v w : Vol) → v ≡ record u { slots = v.slots; buf = v.buf } → w ≡ record v { free = w.free; by_name = w.by_name } → HasVtocOf u w
both_changed u v w first second =
    let slots : w.slots ≡ v.slots = ap (λ (x : Vol). x.slots) second in
    let buf : w.buf ≡ v.buf = ap (λ (x : Vol). x.buf) second in
    second
    ∙ ap (λ (x : Vol). record x { free = w.free; by_name = w.by_name }) first
    ∙ (λ i. record u { slots = sym slots i; free = w.free; by_name = w.by_name; buf = sym buf i })

-- slots and buffer alone
pub slots_changed : (u v : Vol) → v ≡ record u { slots = v.slots; buf = v.buf } → HasVtocOf u v
slots_changed u v first =
    first ∙ (λ i. record u { slots = v.slots; free = sym (ap (λ (x : Vol). x.free) first) i; by_name = sym (ap (λ (x : Vol). x.by_name) first) i; buf = v.buf })

-- the buffer alone
pub buffer_changed : (u v : Vol) → v ≡ record u { buf = v.buf } → v ≡ record u { slots = v.slots; buf = v.buf }
buffer_changed u v is = is ∙ (λ i. record u { slots = sym (ap (λ (x : Vol). x.slots) is) i; buf = v.buf })

-- so the list of free runs has the room that it had
pub room_kept : (u v : Vol) → v ≡ record u { slots = v.slots; buf = v.buf } → vec_capacity v.free ≡ vec_capacity u.free
room_kept u v is = ap (λ (x : Vol). vec_capacity x.free) is

pub room_then : (u v : Vol) → v ≡ record u { slots = v.slots; buf = v.buf } → vec_len u.free + 6 ≤ vec_capacity u.free → vec_len v.free + 6 ≤ vec_capacity v.free
room_then u v is room = subst (λ (x : Vol). vec_len x.free + 6 ≤ vec_capacity x.free) (sym is) room

-- the order of names alone
pub order_changed : (u v : Vol) → v ≡ record u { by_name = v.by_name } → HasVtocOf u v
order_changed u v first =
    first ∙ (λ i. record u { slots = sym (ap (λ (x : Vol). x.slots) first) i; free = sym (ap (λ (x : Vol). x.free) first) i; by_name = v.by_name; buf = sym (ap (λ (x : Vol). x.buf) first) i })

-- one change after another
pub vtoc_then : (u v w : Vol) → HasVtocOf u v → HasVtocOf v w → HasVtocOf u w
vtoc_then u v w first second =
    second ∙ ap (λ (x : Vol). record x { slots = w.slots; free = w.free; by_name = w.by_name; buf = w.buf }) first
