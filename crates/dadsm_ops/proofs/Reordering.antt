-- The order of names of an index after a rename, and what else the index says, which the order changes nothing of.
use Rattle.std.proofs.Common.{◌≡◌, ◌≢◌, ℕ, zero, suc, ◌<◌, true, false, List, [], ◌∷◌, length, Option, Some, None, refl, sym, ap, subst, ◌∙◌, arith}
use Rattle.std.specs.Prelude.{Ok, is_some, option_and_then, slice_get, slice_set}
use Rattle.std.specs.List.{AllByRecursion}
use Rattle.std.specs.Option.{option_map}
use Rattle.std.proofs.lemmas.Bool.{both_ways}
use Rattle.std.proofs.lemmas.Slice.Eq.{bytes_eq-Decides}
use Rattle.dscb_codec.specs.declared.Dscb.{Dscb}
use Rattle.dscb_codec.specs.declared.Dscb.TheVariants as formats
use Rattle.dscb_codec.specs.declared.F1.{F1}
use Rattle.hall_core.specs.Facts.{Attached}
use Rattle.pack_spec.specs.Rules.{is_named, set_in}
use Rattle.vtoc_index.specs.Index.{IsMounted, IsOfUnit, first_named}
use Rattle.vtoc_index.specs.Names.{IsRenamed, name_at}
use Rattle.vtoc_index.specs.declared.vol.Vol.{Vol}
use Rattle.slot_laws.proofs.ChangedLists.{none_passes}

-- an index that differs in the order of its names alone
abbrev pub IsReordered : Vol → Vol → Type 0
IsReordered v w = w ≡ record v { by_name = w.by_name }

-- it is that of the same image, and of the same unit
pub mounted_reordered : (image : List ℕ) (v w : Vol) → IsReordered v w → IsMounted image v → IsMounted image w
mounted_reordered image v w same m =
    let there : IsMounted image (record v { by_name = w.by_name }) = record {
      index = record { header = m.index.header; serial = m.index.serial; tracks = m.index.tracks; slots = m.index.slots; firsts = m.index.firsts; buffer = m.index.buffer };
      vtoc = m.vtoc;
      lawful = m.lawful;
      whole = m.whole;
      free = m.free;
      volume = m.volume;
    } in
    subst (IsMounted image) (sym same) there

pub unit_reordered : (units : List Attached) (v w : Vol) → IsReordered v w → IsOfUnit units v → IsOfUnit units w
unit_reordered units v w same of =
    let there : IsOfUnit units (record v { by_name = w.by_name }) = record {
      attached = of.attached;
      whole = of.whole;
      inside = of.inside;
      tracks = of.tracks;
      few = of.few;
      most = of.most;
      firsts = of.firsts;
      free = of.free;
      buffer = of.buffer;
    } in
    subst (IsOfUnit units) (sym same) there

-- what may differ in an index after a put slot, and after a new order too
pub put_changes : (v w : Vol) → w ≡ record v { slots = w.slots; buf = w.buf } → w ≡ record v { slots = w.slots; by_name = w.by_name; buf = w.buf }
put_changes v w same =
    let order = ap (λ (x : Vol). x.by_name) same in
    same ∙ (λ i. record v { slots = w.slots; by_name = sym order i; buf = w.buf })

pub order_changes : (v u w : Vol) → u ≡ record v { slots = u.slots; buf = u.buf } → IsReordered u w → w ≡ record v { slots = w.slots; by_name = w.by_name; buf = w.buf }
order_changes v u w same order =
    let slots = ap (λ (x : Vol). x.slots) order in
    let buffer = ap (λ (x : Vol). x.buf) order in
    order
    ∙ ap (λ (x : Vol). record x { by_name = w.by_name }) same
    ∙ (λ i. record v { slots = sym slots i; by_name = w.by_name; buf = sym buffer i })

-- an item that is set, and the others
pub set_there : {X : Type 0} (xs : List X) (k : ℕ) (x : X) → k < length xs → slice_get (slice_set xs k x) k ≡ Some x
set_there [] k x low = absurd (omega (arith, low))
set_there (y ∷ xs) zero x low = refl
set_there (y ∷ xs) (suc k) x low = set_there xs k x (omega (arith, low))

pub set_elsewhere : {X : Type 0} (xs : List X) (k j : ℕ) (x : X) → j ≢ k → slice_get (slice_set xs k x) j ≡ slice_get xs j
set_elsewhere [] k j x other = refl
set_elsewhere (y ∷ xs) zero zero x other = absurd (other refl)
set_elsewhere (y ∷ xs) zero (suc j) x other = refl
set_elsewhere (y ∷ xs) (suc k) zero x other = refl
set_elsewhere (y ∷ xs) (suc k) (suc j) x other = set_elsewhere xs k j x (λ same. other (omega (arith, same)))

-- the name of a DSCB, if it is a format 1
abbrev name_in : Dscb → Option (List ℕ)
name_in d = option_map (λ (f : F1). f.name) (set_in (Ok d))

has_name : (name : List ℕ) (d : Dscb) → name_in d ≡ Some name → is_named name (Ok d) ≡ true
has_name name formats.F0 is = cc
has_name name (formats.F1 f) is = let same : f.name ≡ name = cc in (bytes_eq-Decides f.name name).1 same
has_name name (formats.F3 f) is = cc
has_name name (formats.F4 f) is = cc
has_name name (formats.F5 f) is = cc

no_name : (name : List ℕ) (items : List Dscb) (k : ℕ) → AllByRecursion (λ d. is_named name (Ok d) ≡ false) items → name_at items k ≢ Some name
no_name name [] k all is = cc
no_name name (d ∷ items) zero all is = both_ways (is_named name (Ok d)) all.0 (has_name name d is)
no_name name (d ∷ items) (suc k) all is = no_name name items k all.1 is

-- The data set in a slot has another name, which none had.
pub slot_renamed : (items new : List Dscb) (slot : ℕ) (f : F1) (name : List ℕ) → slot < length items → slice_get items slot ≡ Some (formats.F1 f) → first_named name items ≡ None → new ≡ slice_set items slot (formats.F1 (record f { name = name })) → IsRenamed slot items new
slot_renamed items new slot f name low set absent is =
    let d : Dscb = formats.F1 (record f { name = name }) in
    let by : Option Dscb → Option (List ℕ) = λ o. option_and_then (λ x. option_map (λ (h : F1). h.name) (set_in (Ok x))) o in
    record {
      name = name;
      was = ap (λ (o : Option Dscb). is_some (by o)) set;
      is = ap (λ (l : List Dscb). name_at l slot) is ∙ ap by (set_there items slot d low);
      others = λ other apart. ap (λ (l : List Dscb). name_at l other) is ∙ ap by (set_elsewhere items slot other d apart);
      apart = λ other apart. no_name name items other (none_passes (λ x. is_named name (Ok x)) items absent);
    }
