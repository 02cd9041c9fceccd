-- The entries that bytes hold rise, and fit them.
use Rattle.std.proofs.Common.{◌≡◌, ◌⊎◌, inl, inr, ◌+◌, ◌-◌, ◌*◌, ◌%◌, ◌≤◌, ◌<◌, ℕ, zero, suc, true, false, List, [], ◌∷◌, length, take, drop, Result, Ok, Err, refl, ◌^◌, ap, sym, subst, ◌∙◌, arith, length-take, length-drop}
use Rattle.std.specs.List.{AllByRecursion}
use Rattle.std.specs.Prelude.{slice_index, slice_range}
use Rattle.std.specs.Int.{w64, from_be_bytes}
use Rattle.std.proofs.lemmas.Bool.{cases_Bool}
use Rattle.chain_spec.specs.Cut.{total}
use Rattle.chain_spec.specs.Kept.{RisesFrom}
use Rattle.catalog_blocks.specs.declared.blocks.CatBlock.{CatBlock}
use Rattle.catalog_blocks.specs.Blocks.{AreBytes, HasName, IsCatEntry, breaks, cat_size, front_entry, front_length, front_number, front_place, is_link, link_name, name_number, with_front}
use Rattle.catalog_blocks.proofs.EntryReads.{above, inside, later, long_enough, read, read_broken, read_entry, read_link}
use Rattle.catalog_blocks.proofs.Names.{name_eq}

-- These bytes hold these entries, with names from a number on, and the link entry.
pub record IsHeld (bound : ℕ) (bytes : List ℕ) (b : CatBlock) : Type 0 where
  pub each : AllByRecursion IsCatEntry b.entries
  pub named : AreBytes bytes → AllByRecursion HasName b.entries
  pub rise : RisesFrom name_number bound b.entries
  pub fits : total cat_size b.entries + 12 ≤ length bytes
  pub least : bound ≤ 2 ^ 64 - 1

data_long : (bytes : List ℕ) → front_length bytes ≤ length bytes → length (slice_range bytes 12 (front_length bytes)) ≡ 2 * slice_index bytes 11
data_long bytes low =
    let u : ℕ = 2 * slice_index bytes 11 in
    let n : ℕ = 12 + u - 12 in
    let same : n ≡ u = omega arith in
    omega (arith, same, low, length-take n (drop 12 bytes), length-drop 12 bytes)

-- the link entry's name spells the highest number
link_number : (bytes : List ℕ) → is_link bytes ≡ true → front_number bytes ≡ 2 ^ 64 - 1
link_number bytes link = ap (from_be_bytes w64) (name_eq (take 8 bytes) link_name link)

-- a block without entries
abbrev linked_block : List ℕ → Result CatBlock ℕ
linked_block bytes = Ok (record { entries = []; next = front_place bytes })

even : (n k : ℕ) → n ≡ 2 * k → n % 2 ≡ 0
even n k is = omega (arith, is)

front_held : (bytes : List ℕ) → suc (front_number bytes) ≤ 2 ^ 64 - 1 → front_length bytes ≤ length bytes → IsCatEntry (front_entry bytes)
front_held bytes least low = record { name = omega (arith, least); even = even (length (slice_range bytes 12 (front_length bytes))) (slice_index bytes 11) (data_long bytes low) }

pub take_bytes : (n : ℕ) (xs : List ℕ) → AreBytes xs → AreBytes (take n xs)
take_bytes zero xs are = tt
take_bytes (suc n) [] are = tt
take_bytes (suc n) (x ∷ xs) are = (are.0, take_bytes n xs are.1)

pub drop_bytes : (n : ℕ) (xs : List ℕ) → AreBytes xs → AreBytes (drop n xs)
drop_bytes zero xs are = are
drop_bytes (suc n) [] are = tt
drop_bytes (suc n) (x ∷ xs) are = drop_bytes n xs are.1

front_named : (bytes : List ℕ) → 12 ≤ length bytes → AreBytes bytes → HasName (front_entry bytes)
front_named bytes some are = record { eight = omega (arith, some, length-take 8 bytes); bytes = take_bytes 8 bytes are }

-- fewer bytes than this number, those after the entry at the front, hold what is read of them
abbrev HoldBehind : ℕ → ℕ → List ℕ → Type 0
HoldBehind n at bytes = (c : CatBlock) → length (drop (front_length bytes) bytes) < n → later at bytes ≡ Ok c → IsHeld (suc (front_number bytes)) (drop (front_length bytes) bytes) c

held_below : (n at bound : ℕ) (bytes : List ℕ) (b : CatBlock) → length bytes < n → read at bound bytes ≡ Ok b → IsHeld bound bytes b
held_below zero at bound bytes b short is = absurd (omega (arith, short))
held_below (suc n) at bound bytes b short is = by (λ c fewer e. held_below n (at + front_length bytes) (suc (front_number bytes)) (drop (front_length bytes) bytes) c fewer e) (cases_Bool (breaks bound bytes)) (cases_Bool (is_link bytes))
  where
    linked : is_link bytes ≡ true → bound ≤ front_number bytes → 12 ≤ length bytes → linked_block bytes ≡ Ok b → IsHeld bound bytes b
    linked link above_it long e =
        let same : record { entries = []; next = front_place bytes } ≡ b = cc in
        subst (IsHeld bound bytes) same (record {
          each = tt;
          named = λ are. tt;
          rise = tt;
          fits = omega (arith, long);
          least = omega (arith, above_it, link_number bytes link);
        })

    front : HoldBehind n at bytes → breaks bound bytes ≡ false → is_link bytes ≡ false → (o : Result CatBlock ℕ) → later at bytes ≡ o → with_front (front_entry bytes) o ≡ Ok b → IsHeld bound bytes b
    front after whole other (Err k) found e = cc
    front after whole other (Ok c) found e =
        let same : record { entries = front_entry bytes ∷ c.entries; next = c.next } ≡ b = cc in
        let fewer = length-drop (front_length bytes) bytes in
        let low = inside bound bytes whole in
        let rest = after c (omega (arith, short, long_enough bound bytes whole, fewer)) found in
        subst (IsHeld bound bytes) same (record {
          each = (front_held bytes rest.least low, rest.each);
          named = λ are. (front_named bytes (long_enough bound bytes whole) are, rest.named (drop_bytes (front_length bytes) bytes are));
          rise = (above bound bytes whole, rest.rise);
          fits = omega (arith, rest.fits, data_long bytes low, low, fewer);
          least = omega (arith, rest.least, above bound bytes whole);
        })

    by : HoldBehind n at bytes → (breaks bound bytes ≡ true) ⊎ (breaks bound bytes ≡ false) → (is_link bytes ≡ true) ⊎ (is_link bytes ≡ false) → IsHeld bound bytes b
    by after (inl broken) q = let none = read_broken at bound bytes broken in cc
    by after (inr whole) (inl link) = linked link (above bound bytes whole) (long_enough bound bytes whole) (sym (read_link at bound bytes whole link) ∙ is)
    by after (inr whole) (inr other) = front after whole other (later at bytes) refl (sym (read_entry at bound bytes whole other) ∙ is)

pub held : (at bound : ℕ) (bytes : List ℕ) (b : CatBlock) → read at bound bytes ≡ Ok b → IsHeld bound bytes b
held at bound bytes b is = held_below (suc (length bytes)) at bound bytes b (omega arith) is
