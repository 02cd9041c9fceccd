-- Names with one more after them.
use Rattle.std.proofs.Common.{◌≡◌, ◌≤◌, ℕ, suc, Bool, true, false, List, [], ◌∷◌, ◌++◌, length, refl, sym, ap, ◌∙◌, arith}
use Rattle.std.specs.Prelude.{◌&&◌, Option, Some, None}
use Rattle.std.specs.Cmp.Lexicographic.{pointwise}
use Rattle.std.specs.Str.{bytes_eq}
use Rattle.ebcdic_names.specs.declared.names.Name8.{Name8}
use Rattle.vol_model.specs.declared.catalogs.CatNode.{CatNode}
use Rattle.vol_model.specs.Trees.{Node, front, is_below, last_name, node_at, parent_at, way}

pub front_snoc : (ns : List Name8) (n : Name8) → front (ns ++ n ∷ []) ≡ ns
front_snoc [] n = refl
front_snoc (m ∷ []) n = refl
front_snoc (m ∷ k ∷ ks) n = ap (λ l. m ∷ l) (front_snoc (k ∷ ks) n)

pub last_snoc : (ns : List Name8) (n : Name8) → last_name (ns ++ n ∷ []) ≡ Some n
last_snoc [] n = refl
last_snoc (m ∷ []) n = refl
last_snoc (m ∷ k ∷ ks) n = last_snoc (k ∷ ks) n

pub parent_long : (nodes : List Node) (ns : List Name8) → 2 ≤ length ns → parent_at nodes ns ≡ node_at nodes (way (front ns))
parent_long nodes [] few = absurd (omega (arith, few))
parent_long nodes (n ∷ []) few = absurd (omega (arith, few))
parent_long nodes (n ∷ m ∷ ms) few = refl

and_false : (b : Bool) → (b && false) ≡ false
and_false true = refl
and_false false = refl

below_root : (ns : List Name8) → is_below ns [] ≡ false
below_root [] = refl
below_root (n ∷ ns) = refl

-- a way goes one level further down than the one with one name less
pub below_snoc : (ns ms : List Name8) (m : Name8) → is_below ns (ms ++ m ∷ []) ≡ pointwise (λ (a b : Name8). bytes_eq a.bytes b.bytes) ns ms
below_snoc [] [] m = refl
below_snoc [] (k ∷ []) m = refl
below_snoc [] (k ∷ j ∷ js) m = refl
below_snoc (n ∷ ns) [] m = ap (λ b. bytes_eq n.bytes m.bytes && b) (below_root ns) ∙ and_false (bytes_eq n.bytes m.bytes)
below_snoc (n ∷ ns) (k ∷ ks) m = ap (λ b. bytes_eq n.bytes k.bytes && b) (below_snoc ns ks m)

-- none is one level above the root
pub below_none : (ns ms : List Name8) → length ms ≡ 0 → false ≡ is_below ns ms
below_none ns [] none = sym (below_root ns)
below_none ns (m ∷ ms) none = absurd (omega (arith, none))
