-- Writes that change nothing are left out of those of a plan.
use Rattle.std.proofs.Common.{◌≡◌, inl, inr, ◌<◌, ℕ, zero, suc, List, [], ◌∷◌, ◌++◌, length, take, drop, Some, None, refl, sym, ap, ap₂, ◌∙◌, arith, append_assoc, append-nil}
use Rattle.std.specs.Prelude.{nat_eq, set, slice_get, slice_index}
use Rattle.chain_spec.specs.Store.{Block}
use Rattle.sorted_chain.specs.Plan.{after_write, after_writes}
use Rattle.catalog_blocks.specs.declared.blocks.CatBlock.{CatBlock}
use Rattle.catalog_blocks.specs.declared.blocks.CatEntry.{CatEntry}
use Rattle.catalog_blocks.specs.Trees.{Store}
use Rattle.catalog_laws.specs.Writes.{next_after, with_write, with_writes}
use Rattle.catalog_laws.proofs.SeenChains.{IsSeen, View}
use Rattle.catalog_plan.specs.declared.writes.BlockWrite.{BlockWrite}
use Rattle.catalog_plan.specs.Thinned.{AreThinned, IsSame, IsWriteOf, wrote}

-- ---- lists

set_same : {X : Type 0} (xs : List X) (k : ℕ) (x : X) → slice_get xs k ≡ Some x → set xs k x ≡ xs
set_same [] k x is = refl
set_same (y ∷ ys) zero x is = let same : y ≡ x = cc in ap (λ z. z ∷ ys) (sym same)
set_same (y ∷ ys) (suc k) x is = ap (λ zs. y ∷ zs) (set_same ys k x is)

set_there : {X : Type 0} (xs : List X) (k : ℕ) (x : X) → k < length xs → slice_get (set xs k x) k ≡ Some x
set_there [] k x low = absurd (omega (arith, low))
set_there (y ∷ ys) zero x low = refl
set_there (y ∷ ys) (suc k) x low = set_there ys k x (omega (arith, low))

pub writes-append : (per blocks : ℕ) (ns : List ℕ) (xs ys : List (ℕ × List CatEntry)) (store : Store) → with_writes per ns blocks (xs ++ ys) store ≡ with_writes per ns blocks ys (with_writes per ns blocks xs store)
writes-append per blocks ns [] ys store = refl
writes-append per blocks ns (x ∷ xs) ys store = writes-append per blocks ns xs ys (with_write per ns blocks x store)

-- ---- what is seen of a chain

-- the block of a number
seen_at : (per : ℕ) (store : Store) (ns : List ℕ) (view : View) (i : ℕ) (b : Block CatEntry) → IsSeen per store ns view → slice_get view i ≡ Some (Some b)
    → slice_get store (slice_index ns i) ≡ Some (Some (record { entries = b.entries; next = next_after per b.ends (drop (suc i) ns) }))
seen_at per store [] [] i b seen is = cc
seen_at per store [] (o ∷ os) i b seen is = absurd seen
seen_at per store (n ∷ ns) [] i b seen is = cc
seen_at per store (n ∷ ns) (None ∷ os) zero b seen is = cc
seen_at per store (n ∷ ns) (Some a ∷ os) zero b seen is =
    let one : Some a ≡ Some b = cc in
    let same : a ≡ b = cc in
    seen.0 ∙ ap (λ (x : Block CatEntry). Some (Some (record { entries = x.entries; next = next_after per x.ends ns }))) same
seen_at per store (n ∷ ns) (None ∷ os) (suc i) b seen is = seen_at per store ns os i b seen is
seen_at per store (n ∷ ns) (Some a ∷ os) (suc i) b seen is = seen_at per store ns os i b seen.1 is

-- a write that changes nothing of what is seen changes nothing
same_write : (per blocks : ℕ) (store : Store) (ns : List ℕ) (view : View) (w : ℕ × List CatEntry) → IsSeen per store ns view → w.0 < length view → after_write blocks w view ≡ view → with_write per ns blocks w store ≡ store
same_write per blocks store ns view w seen low still =
    let b : Block CatEntry = record { entries = w.1; ends = nat_eq (suc w.0) blocks } in
    let there : slice_get view w.0 ≡ Some (Some b) = ap (λ (v : View). slice_get v w.0) (sym still) ∙ set_there view w.0 (Some b) low in
    set_same store (slice_index ns w.0) (Some (record { entries = w.1; next = next_after per (nat_eq (suc w.0) blocks) (drop (suc w.0) ns) })) (seen_at per store ns view w.0 b seen there)

-- Any first of the writes that are left are some first ones of all.
pub record IsReached (per : ℕ) (ns : List ℕ) (blocks : ℕ) (all : List (ℕ × List CatEntry)) (store now : Store) : Type 0 where
  pub first : List (ℕ × List CatEntry)
  pub later : List (ℕ × List CatEntry)
  pub is : all ≡ first ++ later
  pub now_is : now ≡ with_writes per ns blocks first store

module _ (per blocks : ℕ) (store : Store) (old : List (List CatEntry)) (ns : List ℕ) (view : View) (all : List (ℕ × List CatEntry))
    (seen : (done : List (ℕ × List CatEntry)) (ws : List (ℕ × List CatEntry)) → all ≡ done ++ ws → IsSeen per (with_writes per ns blocks done store) ns (after_writes blocks done view))
    (places : (done : List (ℕ × List CatEntry)) (w : ℕ × List CatEntry) (ws : List (ℕ × List CatEntry)) → all ≡ done ++ (w ∷ ws) → w.0 < length (after_writes blocks done view))
    (still : (done : List (ℕ × List CatEntry)) (w : ℕ × List CatEntry) (ws : List (ℕ × List CatEntry)) → all ≡ done ++ (w ∷ ws) → IsSame old blocks w → after_write blocks w (after_writes blocks done view) ≡ after_writes blocks done view) where
  abbrev W : Type 0
  W = ℕ × List CatEntry

  abbrev after : List W → Store
  after done = with_writes per ns blocks done store

  -- one more write of all
  more : (done : List W) (w : W) (ws : List W) → all ≡ done ++ (w ∷ ws) → all ≡ (done ++ (w ∷ [])) ++ ws
  more done w ws is = is ∙ sym (append_assoc done (w ∷ []) ws)

  passed : (done : List W) (w : W) (ws : List W) → all ≡ done ++ (w ∷ ws) → IsSame old blocks w → after (done ++ (w ∷ [])) ≡ after done
  passed done w ws is same =
      writes-append per blocks ns done (w ∷ []) store
      ∙ same_write per blocks (after done) ns (after_writes blocks done view) w (seen done (w ∷ ws) is) (places done w ws is) (still done w ws is same)

  done_one : (done : List W) (w : W) (b : BlockWrite) → IsWriteOf per ns blocks w b → set (after done) b.number (Some b.block) ≡ after (done ++ (w ∷ []))
  done_one done w b write =
      ap₂ (λ (k : ℕ) (x : CatBlock). set (after done) k (Some x)) write.number write.block
      ∙ sym (writes-append per blocks ns done (w ∷ []) store)

  pub reached : (k : ℕ) (done ws : List W) (bs : List BlockWrite) → all ≡ done ++ ws → AreThinned per old ns blocks ws bs → IsReached per ns blocks all store (wrote (take k bs) (after done))
  reached k done [] [] is thin = record { first = done; later = []; is = is; now_is = none k }
    where
      none : (j : ℕ) → wrote (take j []) (after done) ≡ after done
      none zero = refl
      none (suc j) = refl
  reached k done [] (b ∷ bs) is thin = absurd thin
  reached k done (w ∷ ws) [] is thin =
      let rest = reached k (done ++ (w ∷ [])) ws [] (more done w ws is) thin.1 in
      record { first = rest.first; later = rest.later; is = rest.is; now_is = ap (wrote (take k [])) (sym (passed done w ws is thin.0)) ∙ rest.now_is }
  reached zero done (w ∷ ws) (b ∷ bs) is thin = record { first = done; later = w ∷ ws; is = is; now_is = refl }
  reached (suc k) done (w ∷ ws) (b ∷ bs) is (inl thin) =
      let rest = reached (suc k) (done ++ (w ∷ [])) ws (b ∷ bs) (more done w ws is) thin.1 in
      record { first = rest.first; later = rest.later; is = rest.is; now_is = ap (wrote (take (suc k) (b ∷ bs))) (sym (passed done w ws is thin.0)) ∙ rest.now_is }
  reached (suc k) done (w ∷ ws) (b ∷ bs) is (inr thin) =
      let rest = reached k (done ++ (w ∷ [])) ws bs (more done w ws is) thin.1 in
      record { first = rest.first; later = rest.later; is = rest.is; now_is = ap (wrote (take k bs)) (done_one done w b thin.0) ∙ rest.now_is }

  -- and all of them are all
  pub all_done : (done ws : List W) (bs : List BlockWrite) → all ≡ done ++ ws → AreThinned per old ns blocks ws bs → wrote bs (after done) ≡ after all
  all_done done [] [] is thin = ap after (sym (is ∙ append-nil done))
  all_done done [] (b ∷ bs) is thin = absurd thin
  all_done done (w ∷ ws) [] is thin = sym (passed done w ws is thin.0) ∙ all_done (done ++ (w ∷ [])) ws [] (more done w ws is) thin.1
  all_done done (w ∷ ws) (b ∷ bs) is (inl thin) = ap (wrote (b ∷ bs)) (sym (passed done w ws is thin.0)) ∙ all_done (done ++ (w ∷ [])) ws (b ∷ bs) (more done w ws is) thin.1
  all_done done (w ∷ ws) (b ∷ bs) is (inr thin) = ap (wrote bs) (done_one done w b thin.0) ∙ all_done (done ++ (w ∷ [])) ws bs (more done w ws is) thin.1
