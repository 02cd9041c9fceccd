-- The names in slots of which an open one gets a DSCB of a new data set.
use Rattle.std.proofs.Common.{◌≡◌, ◌≢◌, ⊎_elim, ℕ, zero, suc, true, false, List, [], ◌∷◌, Option, Some, None, refl, sym, ap, ◌∙◌}
use Rattle.std.specs.Prelude.{Ok, option_and_then, slice_get, slice_set}
use Rattle.std.specs.List.{AllByRecursion}
use Rattle.std.specs.Option.{option_map}
use Rattle.std.specs.Str.{bytes_eq}
use Rattle.std.proofs.lemmas.Slice.Eq.{bytes_eq-Decides}
use Rattle.dscb_codec.specs.declared.Dscb.{Dscb}
use Rattle.dscb_codec.specs.declared.Dscb.TheVariants as formats
use Rattle.dscb_codec.specs.declared.F1.{F1}
use Rattle.dscb_codec.specs.declared.F3.{F3}
use Rattle.pack_spec.specs.Rules.{is_named, set_in}
use Rattle.vtoc_index.specs.Index.{first_named}
use Rattle.vtoc_index.specs.Names.{IsEntered, name_at}
use Rattle.free_rebuild.specs.Chain.{is_open}
use Rattle.free_rebuild.proofs.ChainLemmas.{get_low, get_set, get_set_other, same_or_not}
use Rattle.dadsm_ops.specs.Allocating.{HaveSameNames, IsAbsent}
use Rattle.slot_laws.proofs.ChangedLists.{none_passes}

-- the name of a data set, if a DSCB is a format 1
abbrev name_of : Dscb → Option (List ℕ)
name_of d = option_map (λ (f : F1). f.name) (set_in (Ok d))

-- an open slot has no name
open_name : (d : Dscb) → is_open d ≡ true → name_of d ≡ None
open_name formats.F0 opened = refl
open_name (formats.F1 f) opened = cc
open_name (formats.F3 f) opened = cc
open_name (formats.F4 f) opened = cc
open_name (formats.F5 f) opened = refl

module _ (items : List Dscb) (slot : ℕ) (item : Dscb) (there : slice_get items slot ≡ Some item) (opened : is_open item ≡ true) where
  was_none : name_at items slot ≡ None
  was_none = ap (option_and_then name_of) there ∙ open_name item opened

  new_there : (d : Dscb) → slice_get (slice_set items slot d) slot ≡ Some d
  new_there d = get_set items slot d (get_low items slot item there)

  -- a format 3 brings no name
  pub third_names : (h : F3) → HaveSameNames items (slice_set items slot (formats.F3 h))
  third_names h k = ⊎_elim
      (λ here. ap (name_at (slice_set items slot (formats.F3 h))) here ∙ ap (option_and_then name_of) (new_there (formats.F3 h)) ∙ sym (ap (name_at items) here ∙ was_none))
      (λ other. ap (option_and_then name_of) (get_set_other items slot k (formats.F3 h) other))
      (same_or_not k slot)

  -- a format 1 brings its own
  pub set_entered : (f : F1) → IsAbsent f.name items → IsEntered slot items (slice_set items slot (formats.F1 f))
  set_entered f absent = record {
    name = f.name;
    was = was_none;
    is = ap (option_and_then name_of) (new_there (formats.F1 f));
    others = λ other apart. ap (option_and_then name_of) (get_set_other items slot other (formats.F1 f) apart);
    apart = λ other apart. absent other;
  }

-- a name that isn't there isn't there in slots of the same names
pub absent_same : (name : List ℕ) (before after : List Dscb) → HaveSameNames before after → IsAbsent name before → IsAbsent name after
absent_same name before after same absent slot is = absent slot (sym (same slot) ∙ is)

-- where no slot is found by a name, none has it
pub absent_none : (name : List ℕ) (items : List Dscb) → first_named name items ≡ None → IsAbsent name items
absent_none name items none = at items (none_passes (λ d. is_named name (Ok d)) items none)
  where
    named : (d : Dscb) → is_named name (Ok d) ≡ false → name_of d ≢ Some name
    named formats.F0 fails is = cc
    named (formats.F1 f) fails is =
        let same : f.name ≡ name = cc in
        let yes : bytes_eq f.name name ≡ true = (bytes_eq-Decides f.name name).1 same in
        let never : false ≡ true = sym fails ∙ yes in
        cc
    named (formats.F3 f) fails is = cc
    named (formats.F4 f) fails is = cc
    named (formats.F5 f) fails is = cc

    at : (ds : List Dscb) → AllByRecursion (λ d. is_named name (Ok d) ≡ false) ds → IsAbsent name ds
    at [] all slot is = cc
    at (d ∷ ds) all zero is = named d all.0 is
    at (d ∷ ds) all (suc slot) is = at ds all.1 slot is
