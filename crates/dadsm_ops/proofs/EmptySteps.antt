-- A set without blocks, put and made durable: what the operation on the volume is then.
use Rattle.std.proofs.Common.{◌≡◌, ⊎_elim, ℕ, true, List, Some, Option, sym, ap, subst, ◌∙◌, get_or}
use Rattle.std.specs.Prelude.{Result, Ok, Err, is_some, option_and_then, slice_get, slice_set}
use Rattle.std.specs.Option.{option_map}
use Rattle.std.proofs.lemmas.Option.{get_or_from_slice_get}
use Rattle.dscb_codec.specs.declared.Dscb.{Dscb}
use Rattle.dscb_codec.specs.declared.Dscb.TheVariants as formats
use Rattle.dscb_codec.specs.declared.F1.{F1}
use Rattle.ebcdic_names.specs.declared.names.Dsn.{Dsn}
use Rattle.stop_model.specs.Files.{File}
use Rattle.stop_model.specs.Moments.{Meaning}
use Rattle.pack_spec.specs.Rules.{set_in}
use Rattle.pack_spec.specs.Volume.{volume_of}
use Rattle.vol_model.specs.Shelf.{empty_on}
use Rattle.vol_model.specs.declared.answers.StoreErr.TheVariants.{Device}
use Rattle.vol_model.specs.declared.contents.Attr.{Attr}
use Rattle.vol_model.specs.declared.contents.Volume.{Volume}
use Rattle.vol_model.specs.declared.refusals.Refusal.{Refusal}
use Rattle.vtoc_index.specs.Index.{IsIndexOf, IsMounted}
use Rattle.vtoc_index.specs.Names.{AreByName, name_at}
use Rattle.vtoc_index.specs.Puts.{IsReplaced}
use Rattle.vtoc_index.specs.declared.vol.Vol.{Vol}
use Rattle.free_rebuild.proofs.ChainLemmas.{get_low, get_set, get_set_other, same_or_not}
use Rattle.dadsm_ops.specs.Allocating.{HaveSameNames}
use Rattle.dadsm_ops.specs.Emptying.{MayEmpty, emptied_dscb, emptied_format_1}
use Rattle.dadsm_ops.specs.Operations.{DoesOperation, InVtoc, Operates, image_named}
use Rattle.free_rebuild.specs.Durable.{PutsDurably}
use Rattle.dadsm_ops.proofs.EmptiedImages.{CanEmpty, empty_put, empty_stands}
use Rattle.dadsm_ops.proofs.NewIndex.{slots_changed}
use Rattle.dadsm_ops.proofs.Operating.{LeadsTo, operates, operates_not}
use Rattle.dadsm_ops.proofs.Reordering.{put_changes}
use Rattle.dadsm_ops.proofs.ScratchedIndex.{set_at, set_of}
use Rattle.free_rebuild.proofs.DurableLemmas.{slot_put, slot_written}

-- an index that differs in its slots and its buffer alone
abbrev HasSlotsOf : Vol → Vol → Type 0
HasSlotsOf v w = w ≡ record v { slots = w.slots; buf = w.buf }

module _ {X Y : Type 0} {name : List ℕ} {operation : Volume → Result Volume Refusal} {w : Vol} {Changes : List ℕ → List ℕ → Type 0} {m n : Meaning (List File)} where
  -- an operation that isn't refused, by what it does
  when_done : {answer : Unit {0}} (x : X) → Operates {T = Unit {0}} name operation w Changes m n (Ok answer) → DoesOperation {T = X} {E = Y} name operation w Changes m n (Ok x)
  when_done x is = record {
    volume = is.does.volume;
    before = is.does.before;
    done = is.does.done;
    settled = is.does.settled;
    printed = is.does.printed;
    moments = is.does.moments;
  }

  when_failed : (e : Y) → Operates {T = Unit {0}} name operation w Changes m n (Err Device) → DoesOperation {T = X} {E = Y} name operation w Changes m n (Err e)
  when_failed e is = record {
    volume = is.does.volume;
    before = is.does.before;
    done = tt;
    settled = tt;
    printed = is.does.printed;
    moments = is.does.moments;
  }

module _ (name : List ℕ) (v v' : Vol) (slot : ℕ) (f : F1) (attr : Attr) (m n : Meaning (List File)) (can : CanEmpty (image_named m.state name) v slot f attr) (same : HasSlotsOf v v') where
  abbrev d : Dscb
  d = formats.F1 (emptied_format_1 attr f)

  abbrev operation : Volume → Result Volume Refusal
  operation volume = empty_on (record { bytes = f.name }) attr volume

  -- where the operation leads
  leads : {X Y : Type 0} {result : Result X Y} (put : PutsDurably name v slot d v' m n result) (volume : Volume) → volume_of (image_named m.state name) ≡ Ok volume → LeadsTo name (operation volume) v m.state put.after
  leads put volume before =
      let s = empty_stands (image_named m.state name) (image_named put.after name) v slot f attr put.bytes can put.size put.dscb (slot_written put.put) (slot_put put.put) volume before in
      record { after = s.after; step = s.step; stands = s.stands; guarded = s.guarded; settled = s.settled; changes = record { others = put.put.others; image = s.changes } }

  set_empties : {X Y : Type 0} (result : Result X Y) → PutsDurably name v slot d v' m n result → DoesOperation name operation v' (InVtoc v') m n result
  set_empties (Ok x) put =
      let same_files : image_named n.state name ≡ image_named put.after name = ap (λ (files : List File). image_named files name) put.step.done.0 in
      let mounted : IsMounted (image_named put.after name) v' =
      empty_put (image_named m.state name) (image_named put.after name) v slot f attr put.bytes can put.size put.dscb (slot_written put.put) (slot_put put.put) v' (slots_changed v v' same)
      (subst (λ (image : List ℕ). IsIndexOf image v') same_files put.index) (ap (λ (u : Vol). u.free.items) same) in
      when_done x (operates name operation v v' (put_changes v v' same) m n _ can.mounted.volume put.after (leads put _ can.mounted.volume) tt put.step (subst (λ (image : List ℕ). IsMounted image v') (sym same_files) mounted))
  set_empties (Err e) put = when_failed e (operates_not name operation v v' (put_changes v v' same) m n _ can.mounted.volume put.after (leads put _ can.mounted.volume) put.step)

-- the DSCB in a slot, without blocks
dscb_emptied : (attr : Attr) (items : List Dscb) (slot : ℕ) (x d : Dscb) (f : F1) → slice_get items slot ≡ Some (formats.F1 f) → x ≡ get_or items slot x → d ≡ emptied_dscb attr x → d ≡ formats.F1 (emptied_format_1 attr f)
dscb_emptied attr items slot x d f set read is = is ∙ ap (emptied_dscb attr) (read ∙ get_or_from_slice_get items slot (formats.F1 f) x set)

-- The operation, done or not.
pub empties : {X Y : Type 0} (name : List ℕ) (v v' : Vol) (dsn : Dsn) (slot : ℕ) (x d : Dscb) (attr : Attr) (m n : Meaning (List File)) → IsMounted (image_named m.state name) v → name_at v.slots.items slot ≡ Some dsn.bytes → MayEmpty (image_named m.state name) dsn attr → x ≡ get_or v.slots.items slot x → d ≡ emptied_dscb attr x → HasSlotsOf v v'
    → (result : Result X Y) → PutsDurably name v slot d v' m n result → DoesOperation name (empty_on dsn attr) v' (InVtoc v') m n result
empties name v v' dsn slot x d attr m n mounted named may read is same result put =
    let set = set_at v.slots.items slot dsn.bytes named in
    let f : F1 = set.0 in
    let make : List ℕ → Dsn = λ bytes. record { bytes = bytes } in
    let called : dsn ≡ make f.name = ap make set.1.1 in
    let can : CanEmpty (image_named m.state name) v slot f attr = record {
      mounted = mounted;
      set = set.1.0;
      may = subst (λ (y : Dsn). MayEmpty (image_named m.state name) y attr) called may;
    } in
    let dscb : d ≡ formats.F1 (emptied_format_1 attr f) = dscb_emptied attr v.slots.items slot x d f set.1.0 read is in
    subst (λ (y : Dsn). DoesOperation name (empty_on y attr) v' (InVtoc v') m n result) (sym called)
    (set_empties name v v' slot f attr m n can same result (subst (λ (y : Dscb). PutsDurably name v slot y v' m n result) dscb put))

-- the name of a data set, if a DSCB is a format 1
abbrev name_of : Dscb → Option (List ℕ)
name_of d = option_map (λ (f : F1). f.name) (set_in (Ok d))

-- a format 1 without blocks keeps its name
same_names : (items : List Dscb) (slot : ℕ) (f : F1) (attr : Attr) → slice_get items slot ≡ Some (formats.F1 f) → HaveSameNames items (slice_set items slot (formats.F1 (emptied_format_1 attr f)))
same_names items slot f attr there k =
    let d : Dscb = formats.F1 (emptied_format_1 attr f) in
    ⊎_elim
    (λ here. ap (name_at (slice_set items slot d)) here ∙ ap (option_and_then name_of) (get_set items slot d (get_low items slot (formats.F1 f) there)) ∙ sym (ap (name_at items) here ∙ ap (option_and_then name_of) there))
    (λ other. ap (option_and_then name_of) (get_set_other items slot k d other))
    (same_or_not k slot)

-- The order of names is that of the slots then.
pub names_kept : (v v' : Vol) (slot : ℕ) (x d : Dscb) (attr : Attr) → AreByName (name_at v.slots.items) v.by_name.items → is_some (name_at v.slots.items slot) ≡ true → x ≡ get_or v.slots.items slot x → d ≡ emptied_dscb attr x → HasSlotsOf v v' → IsReplaced slot d v v' → AreByName (name_at v'.slots.items) v'.by_name.items
names_kept v v' slot x d attr order named read is same replaced =
    let set = set_of v.slots.items slot named in
    let f : F1 = set.0 in
    let items : v'.slots.items ≡ slice_set v.slots.items slot (formats.F1 (emptied_format_1 attr f)) = replaced.items ∙ ap (slice_set v.slots.items slot) (dscb_emptied attr v.slots.items slot x d f set.1 read is) in
    let each : (k : ℕ) → name_at v'.slots.items k ≡ name_at v.slots.items k = λ k. ap (λ (l : List Dscb). name_at l k) items ∙ same_names v.slots.items slot f attr set.1 k in
    let all : name_at v'.slots.items ≡ name_at v.slots.items = λ i k. each k i in
    subst (λ (names : ℕ → Option (List ℕ)). AreByName names v'.by_name.items) (sym all) (subst (λ (u : Vol). AreByName (name_at v.slots.items) u.by_name.items) (sym same) order)
