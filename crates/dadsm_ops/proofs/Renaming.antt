-- A set under its new name, put and made durable: what the operation on the volume is then.
use Rattle.std.proofs.Common.{◌≡◌, ℕ, List, Some, sym, ap, subst, ◌∙◌, get_or}
use Rattle.std.specs.Prelude.{Result, Ok, Err, slice_get, slice_set}
use Rattle.std.proofs.lemmas.Option.{get_or_from_slice_get}
use Rattle.dscb_codec.specs.declared.Dscb.{Dscb}
use Rattle.dscb_codec.specs.declared.Dscb.TheVariants as formats
use Rattle.dscb_codec.specs.declared.F1.{F1}
use Rattle.dscb_codec.specs.Layout.{decoded}
use Rattle.ebcdic_names.specs.declared.names.Dsn.{Dsn}
use Rattle.stop_model.specs.Files.{File}
use Rattle.stop_model.specs.Moments.{Meaning}
use Rattle.pack_spec.specs.Volume.{volume_of}
use Rattle.vol_model.specs.Shelf.{rename_on}
use Rattle.vol_model.specs.declared.answers.StoreErr.TheVariants.{Device}
use Rattle.vol_model.specs.declared.contents.Volume.{Volume}
use Rattle.vtoc_index.specs.Index.{IsMounted, IsPut}
use Rattle.vtoc_index.specs.Puts.{IsReplaced}
use Rattle.vtoc_index.specs.declared.vol.Vol.{Vol}
use Rattle.dadsm_ops.specs.Naming.{IsToRename, under_name}
use Rattle.dadsm_ops.specs.Operations.{InVtoc, Operates, image_named}
use Rattle.free_rebuild.specs.Durable.{PutsDurably}
use Rattle.dadsm_ops.proofs.FoundSets.{FoundSet, named_alike, set_found}
use Rattle.dadsm_ops.proofs.Operating.{LeadsTo, operates, operates_not}
use Rattle.dadsm_ops.proofs.Reordering.{IsReordered, mounted_reordered, order_changes, put_changes, slot_renamed}
use Rattle.vtoc_index.specs.Names.{IsRenamed}
use Rattle.dadsm_ops.proofs.RenamedImages.{CanRename, rename_put, rename_stands, slots_on_image}
use Rattle.free_rebuild.proofs.DurableLemmas.{slot_put, slot_written}

-- the DSCB in a slot, under the new name
named_dscb : (name : List ℕ) (items : List Dscb) (slot : ℕ) (x d : Dscb) (f : F1) → slice_get items slot ≡ Some (formats.F1 f) → x ≡ get_or items slot x → d ≡ under_name name x → d ≡ formats.F1 (record f { name = name })
named_dscb name items slot x d f set read is = is ∙ ap (under_name name) (read ∙ get_or_from_slice_get items slot (formats.F1 f) x set)

module _ (name : List ℕ) (v v' : Vol) (old new : Dsn) (slot : ℕ) (x d : Dscb) (m n : Meaning (List File))
    (mounted : IsMounted (image_named m.state name) v) (found : IsToRename v.slots.items old.bytes new.bytes slot)
    (read : x ≡ get_or v.slots.items slot x) (is : d ≡ under_name new.bytes x) where
  -- the set, and its DSCB under the new name
  set : FoundSet old.bytes v.slots.items slot
  set = set_found old.bytes v.slots.items slot found.found

  dscb : d ≡ formats.F1 (record set.f { name = new.bytes })
  dscb = named_dscb new.bytes v.slots.items slot x d set.f set.set read is

  -- so it can be renamed
  can : CanRename (image_named m.state name) v old new slot set.f
  can = record {
    mounted = mounted;
    found = named_alike old.bytes v.slots.items (slots_on_image (image_named m.state name) v) mounted.index.slots ∙ found.found;
    absent = named_alike new.bytes v.slots.items (slots_on_image (image_named m.state name) v) mounted.index.slots ∙ found.absent;
    set = set.set;
    named = set.named;
    not_catalog = found.others;
  }

  module _ {T E : Type 0} {result : Result T E} (put : PutsDurably name v slot d v' m n result) where
    -- the DSCB is that under the new name
    under_new : decoded put.bytes ≡ Ok (formats.F1 (record set.f { name = new.bytes }))
    under_new = subst (λ (y : Dscb). decoded put.bytes ≡ Ok y) dscb put.dscb

    put_new : IsPut v slot (formats.F1 (record set.f { name = new.bytes })) (image_named m.state name) (image_named put.after name)
    put_new = subst (λ (y : Dscb). IsPut v slot y (image_named m.state name) (image_named put.after name)) dscb (slot_put put.put)

    -- where the operation leads
    leads : (volume : Volume) → volume_of (image_named m.state name) ≡ Ok volume → LeadsTo name (rename_on old new volume) v m.state put.after
    leads volume before =
        let s = rename_stands (image_named m.state name) (image_named put.after name) v old new slot set.f put.bytes volume can before put.size under_new (slot_written put.put) put_new in
        record { after = s.after; step = s.step; stands = s.stands; guarded = s.guarded; settled = s.settled; changes = record { others = put.put.others; image = s.changes } }

  -- it is done, and the order of names follows
  pub renames : {T X Y : Type 0} {y : X} (answer : T) (w : Vol) → v' ≡ record v { slots = v'.slots; buf = v'.buf } → IsReordered v' w → IsReplaced slot d v v' → PutsDurably {T = X} {E = Y} name v slot d v' m n (Ok y) → Operates name (rename_on old new) w (InVtoc w) m n (Ok answer)
  renames answer w same order replaced put =
      let same_files : (image_named n.state name) ≡ (image_named put.after name) = ap (λ (files : List File). image_named files name) put.step.done.0 in
      let there : IsPut v slot (formats.F1 (record set.f { name = new.bytes })) (image_named m.state name) (image_named n.state name) =
      subst (λ (i : List ℕ). IsPut v slot (formats.F1 (record set.f { name = new.bytes })) (image_named m.state name) i) (sym same_files) (put_new put) in
      operates name (rename_on old new) v w (order_changes v v' w same order) m n _ mounted.volume put.after (leads put _ mounted.volume) answer put.step
      (mounted_reordered (image_named n.state name) v' w order
      (rename_put (image_named m.state name) (image_named n.state name) v v' old new slot set.f put.bytes can put.size (under_new put) (same_files ∙ (slot_written put.put)) there (subst (λ (y : Dscb). IsReplaced slot y v v') dscb replaced) put.index.buffer))

  -- the device failed
  pub renames_not : {T X Y : Type 0} {result : Result X Y} → v' ≡ record v { slots = v'.slots; buf = v'.buf } → PutsDurably name v slot d v' m n result → Operates {T = T} name (rename_on old new) v' (InVtoc v') m n (Err Device)
  renames_not same put = operates_not name (rename_on old new) v v' (put_changes v v' same) m n _ mounted.volume put.after (leads put _ mounted.volume) put.step

-- after the put the data set in the slot has its new name
pub is_renamed : (v v' : Vol) (old new : Dsn) (slot : ℕ) (x d : Dscb) → IsToRename v.slots.items old.bytes new.bytes slot → x ≡ get_or v.slots.items slot x → d ≡ under_name new.bytes x → IsReplaced slot d v v' → IsRenamed slot v.slots.items v'.slots.items
is_renamed v v' old new slot x d found read is replaced =
    let set = set_found old.bytes v.slots.items slot found.found in
    slot_renamed v.slots.items v'.slots.items slot set.f new.bytes set.low set.set found.absent (replaced.items ∙ ap (slice_set v.slots.items slot) (named_dscb new.bytes v.slots.items slot x d set.f set.set read is))
