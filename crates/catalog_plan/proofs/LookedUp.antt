-- What a search in a catalog in memory has found.
use Rattle.std.proofs.Common.{◌≡◌, ◌+◌, ◌<◌, ℕ, suc, List, [], ◌∷◌, ◌++◌, length, get_or, drop, Option, Some, None, refl, sym, ap, ap₂, subst, ◌∙◌, arith}
use Rattle.std.specs.Prelude.{option_map, slice_get}
use Rattle.std.specs.List.{AllByRecursion}
use Rattle.std.proofs.lemmas.Option.{same_Some, slice_get_read, slice_get_within}
use Rattle.ebcdic_names.specs.declared.names.Name8.{Name8}
use Rattle.vol_model.specs.declared.catalogs.CatNode.{CatNode}
use Rattle.vol_model.specs.Trees.{child_at, node_at, way}
use Rattle.catalog_blocks.specs.declared.blocks.CatEntry.{CatEntry}
use Rattle.catalog_blocks.specs.declared.chains.Level.{Level}
use Rattle.catalog_blocks.specs.Trees.{name_in, node_in, nodes_in}
use Rattle.catalog_laws.specs.Nodes.{AreTree}
use Rattle.catalog_plan.specs.declared.branch.Branch.{Branch}
use Rattle.catalog_plan.specs.Branches.{chains_of}
use Rattle.catalog_plan.specs.Finding.{HasBranch, HasEntryAt, HasNamed, LacksName}
use Rattle.catalog_plan.proofs.Found.{child_found, node_found, none_named}

pub no_items : {X : Type 0} (xs : List X) → length xs ≡ 0 → xs ≡ []
no_items [] none = refl
no_items (x ∷ xs) none = absurd (omega (arith, none))

-- The chain of a way is this one.
pub record IsFoundAs (bs : List Branch) (names : List Name8) (k : ℕ) (b : Branch) : Type 0 where
  pub at : slice_get bs k ≡ Some b
  pub names_are : b.chain.names ≡ names

pub found_as : (bs ys : List Branch) (names : List Name8) (k : ℕ) (b : Branch) → ys ≡ bs → HasBranch ys names k → b ≡ get_or ys k b → IsFoundAs bs names k b
found_as bs ys names k b all h is =
    let at : slice_get ys k ≡ Some b = slice_get_read ys (length ys) k b refl (slice_get_within ys k h.branch h.at) is in
    let same : b ≡ h.branch = same_Some b h.branch (sym at ∙ h.at) in
    record { at = ap (λ (xs : List Branch). slice_get xs k) (sym all) ∙ at; names_are = ap (λ (x : Branch). x.chain.names) same ∙ h.names_are }

-- the indexes of an entry are within the lists
pub index_within : (bs ys : List Branch) → ys ≡ bs → (names : List Name8) {k i : ℕ} → HasEntryAt bs names k i → k < length ys
index_within bs ys all names {k} {i} h = subst (λ (xs : List Branch). k < length xs) (sym all) (slice_get_within bs k h.branch h.at)

pub held_within : (bs : List Branch) (names : List Name8) {k i : ℕ} → HasEntryAt bs names k i → (b : Branch) → slice_get bs k ≡ Some b → (ps : List (ℕ × CatEntry)) → ps ≡ b.held → i < length ps
held_within bs names {k} {i} h b at ps all =
    let same : b ≡ h.branch = same_Some b h.branch (sym at ∙ h.at) in
    slice_get_within ps i h.entry (ap (λ (qs : List (ℕ × CatEntry)). slice_get qs i) (all ∙ ap (λ (x : Branch). x.held) same) ∙ h.entry_at)

pub entry_found : (bs : List Branch) (names : List Name8) (last : Name8) (k i : ℕ) (b : Branch) → IsFoundAs bs names k b → {level : Level} {held : List (ℕ × CatEntry)} → HasNamed level held last i → level ≡ b.chain.level → held ≡ b.held
    → HasEntryAt bs (names ++ last ∷ []) k i
entry_found bs names last k i b here named level_is held_is = record {
  branch = b;
  at = here.at;
  entry = named.entry;
  after = named.after;
  entry_at = ap (λ (ps : List (ℕ × CatEntry)). slice_get ps i) (sym held_is) ∙ named.at;
  names_are = ap₂ (λ (ns : List Name8) (n : Name8). ns ++ n ∷ []) (sym here.names_are) (sym named.name_is ∙ ap (λ (v : Level). name_in v named.entry.1.name) level_is);
}

module _ (bs : List Branch) (tree : AreTree (chains_of bs)) where
  pub entry_none : (names : List Name8) (last : Name8) (k : ℕ) (b : Branch) → IsFoundAs bs names k b → {level : Level} {held : List (ℕ × CatEntry)} → LacksName level held last → level ≡ b.chain.level → held ≡ b.held
      → node_at (nodes_in (chains_of bs)) (way (names ++ last ∷ [])) ≡ None
  entry_none names last k b here {level} {held} lacks level_is held_is =
      let Other : Level → ℕ × CatEntry → Type 0 = λ v p. name_in v p.1.name ≡ last → ⊥ in
      none_named bs tree names last k (record { branch = b; at = here.at; names_are = here.names_are })
      (subst (λ (v : Level). AllByRecursion (Other v) (drop 1 b.held)) level_is (subst (λ (ps : List (ℕ × CatEntry)). AllByRecursion (Other level) (drop 1 ps)) held_is lacks.others))

  -- the node of an entry
  pub node_here : (names : List Name8) {k i : ℕ} → HasEntryAt bs names k i → (b : Branch) (p : ℕ × CatEntry) → slice_get bs k ≡ Some b → slice_get b.held i ≡ Some p → (node : CatNode) → node ≡ node_in b.chain.level p.1
      → Some node ≡ node_at (nodes_in (chains_of bs)) (way names)
  node_here names {k} {i} h b p at entry_at node is =
      let same : b ≡ h.branch = same_Some b h.branch (sym at ∙ h.at) in
      let same_entry : p ≡ h.entry = same_Some p h.entry (sym entry_at ∙ ap (λ (x : Branch). slice_get x.held i) same ∙ h.entry_at) in
      ap (λ (n : CatNode). Some n) is
      ∙ ap₂ (λ (x : Branch) (q : ℕ × CatEntry). Some (node_in x.chain.level q.1)) same same_entry
      ∙ sym (node_found bs tree names k i h)

  -- the name of an entry below a way, or that there is none
  child_here : (names : List Name8) (k j : ℕ) (b : Branch) (o : Option (ℕ × CatEntry)) → IsFoundAs bs names k b → slice_get b.held (j + 1) ≡ o
      → child_at (nodes_in (chains_of bs)) (way names) j ≡ option_map (λ (p : ℕ × CatEntry). name_in b.chain.level p.1.name) o
  child_here names k j b o here at =
      let next : suc j ≡ j + 1 = omega arith in
      child_found bs tree names k j (record { branch = b; at = here.at; names_are = here.names_are })
      ∙ ap (option_map (λ (p : ℕ × CatEntry). name_in b.chain.level p.1.name)) (ap (slice_get b.held) next ∙ at)

  pub child_some : (names : List Name8) (k j : ℕ) (b : Branch) (p : ℕ × CatEntry) → IsFoundAs bs names k b → slice_get b.held (j + 1) ≡ Some p → (name : Name8) → name ≡ name_in b.chain.level p.1.name
      → Some name ≡ child_at (nodes_in (chains_of bs)) (way names) j
  child_some names k j b p here at name is = ap (λ (n : Name8). Some n) is ∙ sym (child_here names k j b (Some p) here at)

  pub child_none : (names : List Name8) (k j : ℕ) (b : Branch) → IsFoundAs bs names k b → slice_get b.held (j + 1) ≡ None → None ≡ child_at (nodes_in (chains_of bs)) (way names) j
  child_none names k j b here at = sym (child_here names k j b None here at)
