-- The kinds of nodes that entries of a chain are.
use Rattle.std.proofs.Common.{◌≡◌, ◌+◌, ◌-◌, ◌*◌, ◌/◌, ◌%◌, ℕ, Bool, true, false, cond, not, List, length, Option, Some, refl, ap, subst, ◌∙◌, arith}
use Rattle.std.specs.Prelude.{◌==◌, ◌&&◌, is_some, nat_le, slice_index, slice_range}
use Rattle.std.specs.List.{range_with_len}
use Rattle.std.proofs.Math.Nat.{div-add-mod}
use Rattle.std.proofs.lemmas.Bool.{and_parts, eqb-true, leb-true}
use Rattle.std.proofs.lemmas.List.{length-map}
use Rattle.std.proofs.lemmas.List.FromFn.{length-range_with_len}
use Rattle.ebcdic_names.specs.declared.names.Name8.{Name8}
use Rattle.vol_model.specs.declared.catalogs.CatNode.{CatNode}
use Rattle.vol_model.specs.declared.catalogs.CatNode.TheVariants.{Index, Group, Set, Alias, Other}
use Rattle.vol_model.specs.declared.contents.Place.{Place}
use Rattle.vol_model.specs.Trees.{has_index, node_size}
use Rattle.catalog_blocks.specs.declared.blocks.CatEntry.{CatEntry}
use Rattle.catalog_blocks.specs.Blocks.{cat_size}
use Rattle.catalog_blocks.specs.declared.chains.Level.{Level}
use Rattle.catalog_blocks.specs.declared.chains.Lead.{Lead}
use Rattle.catalog_blocks.specs.Trees.{are_volumes, is_group, is_group_data, is_root, is_true_name, lead_by, node_in, vol_in, vols_in}
use Rattle.catalog_blocks.specs.declared.chains.Level.TheVariants.{Plain, Generation}
use Rattle.catalog_laws.specs.Nodes.{LeadsTo}

module _ (level : Level) (e : CatEntry) where
  abbrev is_index_entry : Bool
  is_index_entry = not (is_group level) && length e.payload == 0

  abbrev is_group_entry : Bool
  is_group_entry = not (is_group level) && is_group_data e.payload

  abbrev is_alias_entry : Bool
  is_alias_entry = is_root level && is_true_name e.payload

  -- what is true of the node of each kind of entry
  pub node_cases : (P : CatNode → Type 0) → (is_index_entry ≡ true → P Index) → (is_group_entry ≡ true → (limit : ℕ) (empty delete : Bool) → P (Group limit empty delete))
      → (is_alias_entry ≡ true → P (Alias (record { bytes = e.payload }))) → (are_volumes e.payload ≡ true → P (Set (vols_in e.payload))) → P (Other e.place e.payload) → P (node_in level e)
  unfolding node_in
  node_cases P i g a s o = by is_index_entry is_group_entry is_alias_entry (are_volumes e.payload) refl refl refl refl
    where
      by : (b c d f : Bool) → is_index_entry ≡ b → is_group_entry ≡ c → is_alias_entry ≡ d → are_volumes e.payload ≡ f
          → P (cond b Index (cond c (Group (slice_index e.payload 1) (nat_le 2 (slice_index e.payload 0)) (slice_index e.payload 0 % 2 == 1)) (cond d (Alias (record { bytes = e.payload })) (cond f (Set (vols_in e.payload)) (Other e.place e.payload)))))
      by true c d f p q r t = i p
      by false true d f p q r t = g q (slice_index e.payload 1) (nat_le 2 (slice_index e.payload 0)) (slice_index e.payload 0 % 2 == 1)
      by false false true f p q r t = a r
      by false false false true p q r t = s t
      by false false false false p q r t = o

  -- a node takes the bytes of its entry
  pub size_is : node_size (node_in level e) ≡ cat_size e
  size_is = node_cases (λ (x : CatNode). node_size x ≡ cat_size e) nothing four eight volumes refl
    where
      nothing : is_index_entry ≡ true → 12 ≡ 12 + length e.payload
      nothing is = omega (arith, eqb-true (length e.payload) 0 (and_parts (not (is_group level)) (length e.payload == 0) is).1)

      four : is_group_entry ≡ true → (limit : ℕ) (empty delete : Bool) → 16 ≡ 12 + length e.payload
      four is limit empty delete = omega (arith, eqb-true (length e.payload) 4 (and_parts (length e.payload == 4) _ (and_parts (not (is_group level)) (is_group_data e.payload) is).1).0)

      eight : is_alias_entry ≡ true → 20 ≡ 12 + length e.payload
      eight is = omega (arith, eqb-true (length e.payload) 8 (and_parts (length e.payload == 8) _ (and_parts (is_root level) (is_true_name e.payload) is).1).0)

      volumes : are_volumes e.payload ≡ true → 14 + 12 * length (vols_in e.payload) ≡ 12 + length e.payload
      volumes is =
          let long = leb-true 14 (length e.payload) (and_parts (nat_le 14 (length e.payload)) _ is).0 in
          let whole = eqb-true ((length e.payload - 2) % 12) 0 (and_parts ((length e.payload - 2) % 12 == 0) _ (and_parts (nat_le (length e.payload) 62) _ (and_parts (nat_le 14 (length e.payload)) _ is).1).1).0 in
          let count : length (vols_in e.payload) ≡ (length e.payload - 2) / 12 = length-map (range_with_len 0 ((length e.payload - 2) / 12)) (λ k. vol_in (slice_range e.payload (2 + 12 * k) (14 + 12 * k))) ∙ length-range_with_len 0 ((length e.payload - 2) / 12) in
          omega (arith, long, whole, count, div-add-mod (length e.payload - 2) 12)

-- a lead is that of a node with a chain
pub lead_kind : (names : List Name8) (place : Place) (node : CatNode) (l : Lead) → lead_by names place node ≡ Some l → LeadsTo node l.level
lead_kind names place Index l is =
    let same : Plain ≡ l.level = cc in
    subst (LeadsTo Index) same (record { index = refl; group = refl; other = λ e. refl; below = refl })
lead_kind names place (Group limit empty delete) l is =
    let same : Generation ≡ l.level = cc in
    subst (LeadsTo (Group limit empty delete)) same (record { index = refl; group = refl; other = λ e. cc; below = refl })
lead_kind names place (Set vols) l is = cc
lead_kind names place (Alias of) l is = cc
lead_kind names place (Other at bytes) l is = cc

-- a node that has a chain is that of a lead, and no other is
pub lead_there : (names : List Name8) (place : Place) (node : CatNode) (o : Option Lead) → lead_by names place node ≡ o → has_index node ≡ is_some o
lead_there names place Index o is = ap is_some is
lead_there names place (Group limit empty delete) o is = ap is_some is
lead_there names place (Set vols) o is = ap is_some is
lead_there names place (Alias of) o is = ap is_some is
lead_there names place (Other at bytes) o is = ap is_some is
