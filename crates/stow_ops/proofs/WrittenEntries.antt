-- The writes of a plan, each put in its place among blocks without entries, give the blocks of the plan.
use Rattle.std.proofs.Common.{◌≡◌, ◌<◌, ℕ, zero, suc, false, List, [], ◌∷◌, ◌++◌, length, map, set, Option, Some, None, refl, sym, ap, ◌∙◌, subst, arith}
use Rattle.std.specs.Prelude.{Vec, vec_items}
use Rattle.std.specs.List.{AllByRecursion}
use Rattle.std.proofs.lemmas.List.{append-nil, drop_all, length-map, length-set, map-set}
use Rattle.chain_spec.specs.Store.{Block as Stored, stored}
use Rattle.sorted_chain.specs.Plan.{after_write, after_writes, write_of}
use Rattle.vol_model.specs.declared.contents.Entry.{Entry}
use Rattle.stow_ops.specs.Stores.{IsDirPlan, with_writes}

abbrev as_stored : List Entry → Option (Stored Entry)
as_stored es = Some (record { entries = es; ends = false })

abbrev entries_of : Option (Stored Entry) → List Entry
entries_of None = []
entries_of (Some b) = b.entries

as_before : (bs : List (List Entry)) → map entries_of (map as_stored bs) ≡ bs
as_before [] = refl
as_before (b ∷ bs) = ap (λ (l : List (List Entry)). b ∷ l) (as_before bs)

of_stored : (bs : List (List Entry)) → map entries_of (stored bs) ≡ bs
of_stored [] = refl
of_stored (b ∷ []) = refl
of_stored (b ∷ c ∷ cs) = ap (λ (l : List (List Entry)). b ∷ l) (of_stored (c ∷ cs))

set_entries : (s : List (Option (Stored Entry))) (k : ℕ) (b : Stored Entry) → map entries_of (set s k (Some b)) ≡ set (map entries_of s) k b.entries
set_entries [] k b = refl
set_entries (o ∷ s) zero b = refl
set_entries (o ∷ s) (suc k) b = ap (λ (l : List (List Entry)). entries_of o ∷ l) (set_entries s k b)

store_entries : (blocks : ℕ) (ws : List (ℕ × List Entry)) (s : List (Option (Stored Entry))) → map entries_of (after_writes blocks ws s) ≡ with_writes ws (map entries_of s)
store_entries blocks [] s = refl
store_entries blocks (w ∷ ws) s = store_entries blocks ws (after_write blocks w s) ∙ ap (with_writes ws) (set_entries s w.0 _)

pub plan_entries : (old : List (List Entry)) (entries : List Entry) (blocks : ℕ) (writes : List (ℕ × List Entry)) (plan : IsDirPlan old entries blocks writes) (bs : List (List Entry)) → length bs ≡ blocks → with_writes writes bs ≡ plan.cut
plan_entries old entries blocks writes plan bs long =
    let store : List (Option (Stored Entry)) = map as_stored bs in
    let many : length store ≡ blocks = length-map bs as_stored ∙ long in
    ap (with_writes writes) (sym (as_before bs))
    ∙ sym (store_entries blocks writes store)
    ∙ ap (map entries_of) (plan.packs store (omega (arith, many)) ∙ ap (λ (l : List (Option (Stored Entry))). stored plan.cut ++ l) (drop_all blocks store (omega (arith, many))) ∙ append-nil (stored plan.cut))
    ∙ of_stored plan.cut

-- ---- one more of the writes that are left

module _ {A : Type 0} (items rest : List (ℕ × Vec Entry A)) (at : ℕ) (block : Vec Entry A) (is : items ≡ (at, block) ∷ rest) (blocks : List (Vec Entry A)) where
  pub one_written : with_writes (map write_of rest) (map vec_items (set blocks at block)) ≡ with_writes (map write_of items) (map vec_items blocks)
  one_written =
      ap (with_writes (map write_of rest)) (map-set vec_items blocks at block)
      ∙ sym (ap (λ (ws : List (ℕ × Vec Entry A)). with_writes (map write_of ws) (map vec_items blocks)) is)

  pub rest_within : AllByRecursion (λ (w : ℕ × List Entry). w.0 < length blocks) (map write_of items) → AllByRecursion (λ (w : ℕ × List Entry). w.0 < length (set blocks at block)) (map write_of rest)
  rest_within all =
      let left = subst (λ (ws : List (ℕ × Vec Entry A)). AllByRecursion (λ (w : ℕ × List Entry). w.0 < length blocks) (map write_of ws)) is all in
      subst (λ (n : ℕ). AllByRecursion (λ (w : ℕ × List Entry). w.0 < n) (map write_of rest)) (sym (length-set blocks at block)) left.1
