-- Operations that change which sets a volume has, or its catalog, keep the members of the sets that stay.
use Rattle.std.proofs.Common.{◌≡◌, ◌⊎◌, inl, inr, ⊎_elim, not, ℕ, Bool, true, false, List, [], ◌∷◌, map, refl, sym, ◌∙◌, ap, subst}
use Rattle.std.proofs.lemmas.Bool.{cases_Bool}
use Rattle.std.proofs.lemmas.List.Elements.{Contains-append_right}
use Rattle.std.proofs.lemmas.List.Sorted.{Contains-permutation}
use Rattle.std.proofs.lemmas.Slice.Eq.{bytes_eq-Decides}
use Rattle.std.specs.Prelude.{Contains, Option, Some, Result, Ok, find, if◌then◌else◌}
use Rattle.std.specs.Option.{option_map_or}
use Rattle.std.specs.Str.{bytes_eq}
use Rattle.ebcdic_names.specs.declared.names.Dsn.{Dsn}
use Rattle.vol_model.specs.declared.contents.Attr.{Attr}
use Rattle.vol_model.specs.declared.contents.Block.{Block}
use Rattle.vol_model.specs.declared.contents.Body.TheVariants as bodies
use Rattle.vol_model.specs.declared.contents.DataSet.{DataSet}
use Rattle.vol_model.specs.declared.contents.Entry.{Entry}
use Rattle.vol_model.specs.declared.contents.Volume.{Volume}
use Rattle.vol_model.specs.declared.refusals.Refusal.{Refusal}
use Rattle.vol_model.specs.declared.requests.Request.{Request}
use Rattle.vol_model.specs.Order.{IsAscending, in_order}
use Rattle.vol_model.specs.Shelf.{allocate_on, has_name, on_catalog, rename_on, scratch_on, set_of, with_name}
use Rattle.vol_model.specs.Trees.{Node}
use Rattle.vol_model.proofs.InOrder.{in_order-permutation}
use Rattle.shelf_laws.proofs.Lists.{find_kept}
use Rattle.shelf_laws.proofs.SetChanges.{named_so}
use Rattle.member_laws.specs.Members.{HoldsMember}
use Rattle.member_laws.proofs.Changes.{allocate_changes, catalog_changes, rename_changes, scratch_changes}
use Rattle.member_laws.proofs.FoundSets.{among_map, find_among, found_among, member_in, member_set}
use Rattle.member_laws.proofs.OnVolumes.{body_in}
use Rattle.member_laws.proofs.Ordered.{IsOrderedVolume}

-- a set among some is found by its name among those in order, where they ascend
in_order_found : (sets : List DataSet) (name : List ℕ) (x : DataSet) (w : Volume) → w.sets ≡ in_order sets → IsAscending w.sets → Contains sets x → has_name name x ≡ true → set_of name w ≡ Some x
in_order_found sets name x w is up among named =
    found_among name w.sets x up (subst (λ (l : List DataSet). Contains l x) (sym is) (Contains-permutation sets (in_order sets) x (in_order-permutation sets) among)) named

module _ (volume w : Volume) (k : IsOrderedVolume w) (set : List ℕ) (e : Entry) (blocks : List Block) (holds : HoldsMember (body_in set volume) e blocks) where
  -- ---- a new set

  with_one : (x : DataSet) → w.sets ≡ in_order (x ∷ volume.sets) → HoldsMember (body_in set w) e blocks
  with_one x is =
      let m = member_set set volume e blocks holds in
      let y = find_among (has_name set) volume.sets m.set m.found in
      member_in set w e blocks m.set (in_order_found (x ∷ volume.sets) set m.set w is k.order (Contains-append_right (x ∷ []) volume.sets m.set y.0) y.1) m.holds

  pub allocate_keeps : (dsn : Dsn) (attr : Attr) (q : Request) (dir : ℕ) → allocate_on dsn attr q dir volume ≡ Ok w → HoldsMember (body_in set w) e blocks
  allocate_keeps dsn attr q dir done = with_one _ (ap (λ (u : Volume). u.sets) (sym (allocate_changes volume w dsn attr q dir done).2))

  -- ---- a set less

  other_name : (name : List ℕ) → bytes_eq set name ≡ false → (x : DataSet) → has_name set x ≡ true → not (has_name name x) ≡ true
  other_name name apart x named = ap not (ap (λ n. bytes_eq n name) (named_so set x named) ∙ apart)

  pub scratch_keeps : (dsn : Dsn) → scratch_on dsn volume ≡ Ok w → (dsn.bytes ≡ set) ⊎ HoldsMember (body_in set w) e blocks
  scratch_keeps dsn done =
      let left : DataSet → Bool = λ y. not (has_name dsn.bytes y) in
      let sets = scratch_changes volume w dsn done in
      ⊎_elim (λ same. inl (sym ((bytes_eq-Decides set dsn.bytes).0 same)))
      (λ apart.
      let stay : set_of set w ≡ set_of set volume = ap (λ (l : List DataSet). find (has_name set) l) sets ∙ find_kept (has_name set) left (other_name dsn.bytes apart) volume.sets in
      inr (subst (λ (o : Option DataSet). HoldsMember (option_map_or (λ (x : DataSet). x.body) o bodies.Other) e blocks) (sym stay) holds))
      (cases_Bool (bytes_eq set dsn.bytes))

  -- ---- a set under another name

  -- the name that a set has then
  abbrev pub new_name : Dsn → Dsn → List ℕ
  new_name old new = if bytes_eq set old.bytes then new.bytes else set

  under_new : (old new : Dsn) → w.sets ≡ in_order (map (with_name old.bytes new) volume.sets) → HoldsMember (body_in (new_name old new) w) e blocks
  under_new old new is =
      let m = member_set set volume e blocks holds in
      let x = m.set in
      let at = find_among (has_name set) volume.sets x m.found in
      let same = named_so set x at.1 in
      by_name x m.holds (among_map (with_name old.bytes new) volume.sets x at.0) same (has_name old.bytes x) refl (ap (λ n. bytes_eq n old.bytes) same)
    where
      itself : (a : List ℕ) → bytes_eq a a ≡ true
      itself a = (bytes_eq-Decides a a).1 refl

      by_name : (x : DataSet) → HoldsMember x.body e blocks → Contains (map (with_name old.bytes new) volume.sets) (with_name old.bytes new x) → x.name.bytes ≡ set → (b : Bool) → has_name old.bytes x ≡ b → has_name old.bytes x ≡ bytes_eq set old.bytes
          → HoldsMember (body_in (new_name old new) w) e blocks
      by_name x held among same true on fits =
          let y : DataSet = record x { name = new } in
          let new_is : new_name old new ≡ new.bytes = ap (λ b. if b then new.bytes else set) (sym fits ∙ on) in
          let there : Contains (map (with_name old.bytes new) volume.sets) y = subst (λ (z : DataSet). Contains (map (with_name old.bytes new) volume.sets) z) (ap (λ b. if b then record x { name = new } else x) on) among in
          subst (λ n. HoldsMember (body_in n w) e blocks) (sym new_is) (member_in new.bytes w e blocks y (in_order_found (map (with_name old.bytes new) volume.sets) new.bytes y w is k.order there (itself new.bytes)) held)
      by_name x held among same false off fits =
          let new_is : new_name old new ≡ set = ap (λ b. if b then new.bytes else set) (sym fits ∙ off) in
          let there : Contains (map (with_name old.bytes new) volume.sets) x = subst (λ (z : DataSet). Contains (map (with_name old.bytes new) volume.sets) z) (ap (λ b. if b then record x { name = new } else x) off) among in
          subst (λ n. HoldsMember (body_in n w) e blocks) (sym new_is) (member_in set w e blocks x (in_order_found (map (with_name old.bytes new) volume.sets) set x w is k.order there (ap (λ n. bytes_eq n set) same ∙ itself set)) held)

  pub rename_keeps : (old new : Dsn) → rename_on old new volume ≡ Ok w → HoldsMember (body_in (new_name old new) w) e blocks
  rename_keeps old new done = under_new old new (rename_changes volume w old new done).2

  -- ---- another catalog

  pub catalog_keeps : (operation : List Node → Result (List Node) Refusal) → on_catalog operation volume ≡ Ok w → HoldsMember (body_in set w) e blocks
  catalog_keeps operation done = subst (λ (l : List DataSet). HoldsMember (body_in set (record volume { sets = l })) e blocks) (sym (catalog_changes volume w operation done)) holds
