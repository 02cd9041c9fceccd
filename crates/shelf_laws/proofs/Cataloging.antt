-- A shelf stays lawful under the operations of the catalog.
use Rattle.std.proofs.Common.{◌≡◌, ◌&&◌, ℕ, Bool, true, false, not, nat_lt, List, [], ◌∷◌, length, refl, sym, ◌∙◌, ap, subst, arith}
use Rattle.std.specs.Prelude.{Option, Some, None, Result, Ok, Err, is_some, option_map}
use Rattle.std.specs.Option.{option_map_or}
use Rattle.ebcdic_names.specs.declared.names.Name8.{Name8}
use Rattle.vol_model.specs.declared.catalogs.CatBody.{CatBody}
use Rattle.vol_model.specs.declared.catalogs.CatBody.TheVariants as catalogs
use Rattle.vol_model.specs.declared.catalogs.CatNode.{CatNode}
use Rattle.vol_model.specs.declared.catalogs.CatNode.TheVariants.{Index, Group, Set, Other}
use Rattle.vol_model.specs.declared.catalogs.CatNode.TheVariants as nodes_are
use Rattle.vol_model.specs.declared.catalogs.CatPath.{CatPath}
use Rattle.vol_model.specs.declared.catalogs.VolRef.{VolRef}
use Rattle.vol_model.specs.declared.contents.Shelf.{Shelf}
use Rattle.vol_model.specs.declared.contents.Volume.{Volume}
use Rattle.vol_model.specs.declared.refusals.Refusal.{Refusal}
use Rattle.vol_model.specs.declared.refusals.Refusal.TheVariants.{CatalogFull, NoNode, NodeExists, NoRoom, NotEmpty, WrongKind}
use Rattle.vol_model.specs.declared.requests.Op.TheVariants.{BuildGroup, BuildIndex, Catalog, DropNode, Uncatalog}
use Rattle.vol_model.specs.declared.requests.Op.TheVariants as ops
use Rattle.vol_model.specs.Lawful.{IsLawful, IsLawfulCatalog, IsLawfulTree, IsLawfulVolume}
use Rattle.vol_model.specs.Shelf.{after_nodes, aliased, built, cataloged, gives_way, in_catalog, is_data_set, is_full, may_go, node_dropped, on_catalog, refuse, step, step_on, uncataloged}
use Rattle.vol_model.specs.Slots.{catalog_needed, slots_needed}
use Rattle.vol_model.specs.Trees.{AreAscending, Node, fits_group, front, has_index, has_node, has_parent, is_at, is_index, named_path, node_at, nodes_below, parent_at, stands_under, true_path, way, with_node, without_node}
use Rattle.shelf_laws.proofs.Lists.{find_none}
use Rattle.shelf_laws.proofs.Parents.{AreUnderParents, HasNoIndex, added, dropped_empty, dropped_leaf}
use Rattle.shelf_laws.proofs.Steps.{not_more, ok_same, refuse_ok, step_lawful}

-- ---- a volume with other nodes in its catalog

-- an operation on nodes keeps them in order and under their parents
abbrev KeepsTrees : (List Node → Result (List Node) Refusal) → Type 0
KeepsTrees operation = (nodes after : List Node) → AreAscending nodes → AreUnderParents nodes → operation nodes ≡ Ok after → AreAscending after × AreUnderParents after

-- a volume with another catalog
abbrev with_catalog : Volume → Option CatBody → Volume
with_catalog volume c = record volume { catalog = c }

slots_stay : (volume : Volume) (c : Option CatBody) → slots_needed (with_catalog volume c) ≡ slots_needed volume
unfolding slots_needed
slots_stay volume c = refl

with_catalog_lawful : (volume : Volume) (c : Option CatBody) → is_some c ≡ is_some volume.catalog → IsLawfulCatalog c → IsLawfulVolume volume → IsLawfulVolume (with_catalog volume c)
with_catalog_lawful volume c some lawful h =
    let room = h.room in
    let same = slots_stay volume c in
    record {
      some = h.some;
      most = h.most;
      slots = h.slots;
      room = omega (arith, room, same);
      order = h.order;
      sets = h.sets;
      owned = h.owned;
      has_catalog = h.has_catalog ∙ sym some;
      catalog = lawful;
    }

module _ (operation : List Node → Result (List Node) Refusal) (keeps : KeepsTrees operation) (volume w : Volume) (h : IsLawfulVolume volume) where
  by_nodes : (blocks : ℕ) (nodes : List Node) → volume.catalog ≡ Some (catalogs.Tree blocks nodes) → (r : Result (List Node) Refusal) → operation nodes ≡ r → after_nodes volume blocks r ≡ Ok w → IsLawfulVolume w
  by_nodes blocks nodes at (Err r) is done = cc
  by_nodes blocks nodes at (Ok after) is done =
      let tree : IsLawfulTree blocks nodes = subst IsLawfulCatalog at h.catalog in
      let c : Option CatBody = Some (catalogs.Tree blocks after) in
      let room = refuse_ok (nat_lt blocks (catalog_needed after)) (CatalogFull (catalog_needed after)) (Ok (with_catalog volume c)) w done in
      let kept = keeps nodes after tree.order tree.parents is in
      let lawful : IsLawfulTree blocks after = record { few = tree.few; room = not_more blocks (catalog_needed after) room.0; order = kept.0; parents = kept.1 } in
      subst IsLawfulVolume (ok_same (with_catalog volume c) w room.1) (with_catalog_lawful volume c (ap is_some (sym at)) lawful h)

  by_catalog : (o : Option CatBody) → volume.catalog ≡ o → in_catalog volume operation o ≡ Ok w → IsLawfulVolume w
  by_catalog None at done = cc
  by_catalog (Some (catalogs.Unreadable track)) at done = cc
  by_catalog (Some (catalogs.Tree blocks nodes)) at done = by_nodes blocks nodes at (operation nodes) refl done

  on_catalog_lawful : on_catalog operation volume ≡ Ok w → IsLawfulVolume w
  unfolding on_catalog
  on_catalog_lawful done = by_catalog volume.catalog refl done

-- ---- what the operations do with nodes

so : (b : Bool) → not b ≡ false → b ≡ true
so true e = refl
so false e = cc

no_node : (nodes : List Node) (p : CatPath) → has_node nodes p ≡ false → HasNoIndex nodes p
no_node nodes p e = ap (λ (o : Option Node). option_map_or has_index (option_map (λ (x : Node). x.1) o) false) (find_none (is_at p) nodes e)

building : (path : CatPath) (node : CatNode) → ((nodes : List Node) (p : CatPath) → stands_under is_index nodes p.names ≡ true → has_parent nodes p.names node ≡ true) → KeepsTrees (built path node)
unfolding built
building path node fits nodes after up under done =
    let p = true_path nodes path in
    let new = with_node p node nodes in
    let above = refuse_ok (not (stands_under is_index nodes p.names)) NoNode (refuse (has_node nodes p) NodeExists (Ok new)) after done in
    let none = refuse_ok (has_node nodes p) NodeExists (Ok new) after above.1 in
    subst (λ l. AreAscending l × AreUnderParents l) (ok_same new after none.1) (added p nodes up under node (fits nodes p (so (stands_under is_index nodes p.names) above.0)) (no_node nodes p none.0))

dropping : (path : CatPath) → KeepsTrees (node_dropped path)
unfolding node_dropped
dropping path nodes after up under done =
    let p = named_path nodes path in
    let new = without_node p nodes in
    let there = refuse_ok (not (option_map_or may_go (node_at nodes p) false)) NoNode (refuse (nat_lt 0 (length (nodes_below nodes p))) NotEmpty (Ok new)) after done in
    let none = refuse_ok (nat_lt 0 (length (nodes_below nodes p))) NotEmpty (Ok new) after there.1 in
    subst (λ l. AreAscending l × AreUnderParents l) (ok_same new after none.1) (dropped_empty p nodes up under none.0)

cataloging : (path : CatPath) (vols : List VolRef) (replace : Bool) → KeepsTrees (cataloged path vols replace)
unfolding cataloged
cataloging path vols replace nodes after up under done =
    let p = true_path nodes path in
    let new = with_node p (Set vols) nodes in
    let full = not (has_node nodes p) && is_full (parent_at nodes p.names) (length (nodes_below nodes (way (front p.names)))) in
    let third : Result (List Node) Refusal = refuse (not (gives_way (node_at nodes p) replace)) NodeExists (Ok new) in
    let second = refuse (not (stands_under has_index nodes p.names)) NoNode third in
    let kind = refuse_ok (not (fits_group nodes p.names)) WrongKind (refuse full NoRoom second) after done in
    let room = refuse_ok full NoRoom second after kind.1 in
    let above = refuse_ok (not (stands_under has_index nodes p.names)) NoNode third after room.1 in
    let place = refuse_ok (not (gives_way (node_at nodes p) replace)) NodeExists (Ok new) after above.1 in
    subst (λ l. AreAscending l × AreUnderParents l) (ok_same new after place.1)
    (added p nodes up under (Set vols) (both (stands_under has_index nodes p.names) (fits_group nodes p.names) (so (stands_under has_index nodes p.names) above.0) (so (fits_group nodes p.names) kind.0)) (no_index (node_at nodes p) (so (gives_way (node_at nodes p) replace) place.0)))
  where
    both : (a b : Bool) → a ≡ true → b ≡ true → (a && b) ≡ true
    both true b e f = f
    both false b e f = cc

    no_index : (o : Option CatNode) → gives_way o replace ≡ true → option_map_or has_index o false ≡ false
    no_index None e = refl
    no_index (Some (Set old)) e = refl
    no_index (Some Index) e = cc
    no_index (Some (Group limit empty delete)) e = cc
    no_index (Some (nodes_are.Alias of)) e = refl
    no_index (Some (Other place payload)) e = refl

uncataloging : (path : CatPath) → KeepsTrees (uncataloged path)
unfolding uncataloged
uncataloging path nodes after up under done =
    let p = true_path nodes path in
    let new = without_node p nodes in
    let there = refuse_ok (not (option_map_or is_data_set (node_at nodes p) false)) NoNode (Ok new) after done in
    subst (λ l. AreAscending l × AreUnderParents l) (ok_same new after there.1) (dropped_leaf p nodes up under (no_index (node_at nodes p) (so (option_map_or is_data_set (node_at nodes p) false) there.0)))
  where
    no_index : (o : Option CatNode) → option_map_or is_data_set o false ≡ true → option_map_or has_index o false ≡ false
    no_index None e = refl
    no_index (Some (Set old)) e = refl
    no_index (Some Index) e = cc
    no_index (Some (Group limit empty delete)) e = cc
    no_index (Some (nodes_are.Alias of)) e = refl
    no_index (Some (Other place payload)) e = refl

aliasing : (name of : Name8) → KeepsTrees (aliased name of)
unfolding aliased
aliasing name of nodes after up under done =
    let p = way (name ∷ []) in
    let new = with_node p (nodes_are.Alias of) nodes in
    let there = refuse_ok (not (option_map_or is_index (node_at nodes (way (of ∷ []))) false)) NoNode (refuse (has_node nodes p) NodeExists (Ok new)) after done in
    let none = refuse_ok (has_node nodes p) NodeExists (Ok new) after there.1 in
    subst (λ l. AreAscending l × AreUnderParents l) (ok_same new after none.1) (added p nodes up under (nodes_are.Alias of) refl (no_node nodes p none.0))

-- ---- the operations

module _ (s t : Shelf) (v : ℕ) (h : IsLawful s) where
  pub build_index_lawful : (path : CatPath) → step s (BuildIndex v path) ≡ Ok t → IsLawful t
  unfolding step_on
  build_index_lawful path done = step_lawful s t (BuildIndex v path) (λ volume w h. on_catalog_lawful (built path Index) (building path Index (λ nodes p e. e)) volume w h) h done

  pub build_group_lawful : (path : CatPath) (limit : ℕ) (empty delete : Bool) → step s (BuildGroup v path limit empty delete) ≡ Ok t → IsLawful t
  unfolding step_on
  build_group_lawful path limit empty delete done =
      let group = Group limit empty delete in
      step_lawful s t (BuildGroup v path limit empty delete) (λ volume w h. on_catalog_lawful (built path group) (building path group (λ nodes p e. e)) volume w h) h done

  pub drop_node_lawful : (path : CatPath) → step s (DropNode v path) ≡ Ok t → IsLawful t
  unfolding step_on
  drop_node_lawful path done = step_lawful s t (DropNode v path) (λ volume w h. on_catalog_lawful (node_dropped path) (dropping path) volume w h) h done

  pub catalog_lawful : (path : CatPath) (vols : List VolRef) (replace : Bool) → step s (Catalog v path vols replace) ≡ Ok t → IsLawful t
  unfolding step_on
  catalog_lawful path vols replace done = step_lawful s t (Catalog v path vols replace) (λ volume w h. on_catalog_lawful (cataloged path vols replace) (cataloging path vols replace) volume w h) h done

  pub uncatalog_lawful : (path : CatPath) → step s (Uncatalog v path) ≡ Ok t → IsLawful t
  unfolding step_on
  uncatalog_lawful path done = step_lawful s t (Uncatalog v path) (λ volume w h. on_catalog_lawful (uncataloged path) (uncataloging path) volume w h) h done

  pub alias_lawful : (name of : Name8) → step s (ops.Alias v name of) ≡ Ok t → IsLawful t
  unfolding step_on
  alias_lawful name of done = step_lawful s t (ops.Alias v name of) (λ volume w h. on_catalog_lawful (aliased name of) (aliasing name of) volume w h) h done
