-- What the writes of a plan leave of a chain.
use Rattle.std.specs.Prelude.{◌≡◌, ℕ, suc, ◌≤◌, List, [], ◌∷◌, ◌++◌, drop, length, set, take, ◌⊎◌, Option, Some, slice_get, nat_eq, Vec, vec_items}
use Rattle.std.specs.List.{All}
use Rattle.chain_spec.specs.Cut.{AllFit, IsCut, needed, total}
use Rattle.chain_spec.specs.Kept.{Rises, joined, kept}
use Rattle.chain_spec.specs.Store.{Block, reads, stored}

-- a write of a block at its place, the first of which is 0
abbrev pub write_of : {E A : Type 0} → ℕ × Vec E A → ℕ × List E
write_of write = (write.0, vec_items write.1)

-- a store after a write, where the chain is to have so many blocks; other places stay
abbrev pub after_write : {E : Type 0} → ℕ → ℕ × List E → List (Option (Block E)) → List (Option (Block E))
after_write blocks write store =
    set store write.0 (Some (record { entries = write.1; ends = nat_eq (suc write.0) blocks }))

-- a store after these writes
abbrev pub after_writes : {E : Type 0} → ℕ → List (ℕ × List E) → List (Option (Block E)) → List (Option (Block E))
after_writes blocks [] store = store
after_writes blocks (w ∷ ws) store = after_writes blocks ws (after_write blocks w store)

-- one entry is inserted, is removed, or is replaced by one of its name
pub data ChangesOne {E : Type 0} (name : E → ℕ) (old new : List E) : Type 0 where
  inserted : (a : List E) (x : E) (z : List E) → old ≡ a ++ z → new ≡ a ++ (x ∷ z) → ChangesOne name old new
  removed : (a : List E) (x : E) (z : List E) → old ≡ a ++ (x ∷ z) → new ≡ a ++ z → ChangesOne name old new
  replaced : (a : List E) (x y : E) (z : List E) → old ≡ a ++ (x ∷ z) → new ≡ a ++ (y ∷ z) → name x ≡ name y → ChangesOne name old new

-- the store reads as the one list or as the other
abbrev pub ReadsEither : {E : Type 0} → (E → ℕ) → List E → List E → List (Option (Block E)) → Type 0
ReadsEither name old new store = (reads name store ≡ Some old) ⊎ (reads name store ≡ Some new)

-- so many blocks and these writes are a plan for a chain of these old blocks that is to hold a new list
pub record IsPlan {E : Type 0} (name size : E → ℕ) (room end : ℕ) (old : List (List E)) (new : List E)
    (blocks : ℕ) (writes : List (ℕ × List E)) : Type 0 where
  -- the blocks that are to stand
  pub cut : List (List E)
  pub is_cut : IsCut size room end cut new
  pub number : blocks ≡ length cut
  pub count : blocks ≡ needed size room end new
  -- each write puts one of them at its place
  pub places : All (λ w. slice_get cut w.0 ≡ Some w.1) writes
  -- after all writes they stand in front of any store, and what stands after them stays
  pub packs : (store : List (Option (Block E))) → blocks ≤ length store →
      after_writes blocks writes store ≡ stored cut ++ drop blocks store
  -- where one entry of a cut list changes, the old list or the new one is read after any first writes
  pub survives : (list : List E) → IsCut size room end old list → Rises name list → Rises name new →
      ChangesOne name list new → (behind : List (Option (Block E))) → blocks ≤ length (stored old ++ behind) → (k : ℕ) →
      ReadsEither name list new (after_writes blocks (take k writes) (stored old ++ behind))
  -- where it is removed, or replaced by one that is no larger, no more blocks are needed
  pub shrinks : (list : List E) → IsCut size room end old list → Rises name list → ChangesOne name list new →
      total size new ≤ total size list → blocks ≤ length old
  -- where the new list is what is kept of blocks that fit, it is read after any first writes, and needs no more blocks
  pub repairs : AllFit size room end old → new ≡ kept name (joined old) →
      (blocks ≤ length old) × ((behind : List (Option (Block E))) (k : ℕ) →
      reads name (after_writes blocks (take k writes) (stored old ++ behind)) ≡ Some new)
  -- a write of an old block, the last or not as it was, changes nothing when its turn comes
  pub unchanged : (before : List (ℕ × List E)) (w : ℕ × List E) (later : List (ℕ × List E)) →
      writes ≡ before ++ (w ∷ later) → slice_get old w.0 ≡ Some w.1 →
      nat_eq (suc w.0) (length old) ≡ nat_eq (suc w.0) blocks → (behind : List (Option (Block E))) →
      after_write blocks w (after_writes blocks before (stored old ++ behind)) ≡ after_writes blocks before (stored old ++ behind)
