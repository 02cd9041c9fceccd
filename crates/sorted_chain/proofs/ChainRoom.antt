-- The entries that are kept of a chain of blocks need no more blocks than it has.
use Rattle.std.proofs.Common.{◌≡◌, ◌⊎◌, ◌+◌, ◌≤◌, ◌<◌, ℕ, suc, Bool, true, false, cond, List, [], ◌∷◌, ◌++◌, length, Option, Some, None, refl, ap, ◌∙◌, subst, inl, inr, arith, append-nil}
use Rattle.std.specs.Prelude.{nat_le}
use Rattle.std.specs.List.{AllByRecursion}
use Rattle.std.specs.Option.{option_map}
use Rattle.std.proofs.lemmas.Bool.Decides.{leb_tells}
use Rattle.chain_spec.specs.Cut.{AllFit, needed_from, total}
use Rattle.chain_spec.specs.Kept.{joined, kept_from}
use Rattle.chain_spec.specs.Store.{Block, up_to_end}

module _ {E : Type 0} (name size : E → ℕ) (room end : ℕ) where
  -- as many blocks as entries need, the first of which is used so far
  abbrev need : ℕ → List E → ℕ
  need used es = needed_from size room end used es

  -- more that is used in the first block needs no fewer, and whatever is used at most one more
  used_more : (es : List E) (u v : ℕ) → (u ≤ v → need u es ≤ need v es) × (need u es ≤ suc (need v es))
  used_more [] u v = by (leb_tells (u + end) room) (leb_tells (v + end) room)
    where
      one : (w : ℕ) → nat_le (w + end) room ≡ true → need w [] ≡ 1
      one w is = ap (λ (b : Bool). cond b 1 2) is

      two : (w : ℕ) → nat_le (w + end) room ≡ false → need w [] ≡ 2
      two w is = ap (λ (b : Bool). cond b 1 2) is

      by : ((nat_le (u + end) room ≡ true) × (u + end ≤ room)) ⊎ ((nat_le (u + end) room ≡ false) × (room < u + end)) → ((nat_le (v + end) room ≡ true) × (v + end ≤ room)) ⊎ ((nat_le (v + end) room ≡ false) × (room < v + end))
          → (u ≤ v → need u [] ≤ need v []) × (need u [] ≤ suc (need v []))
      by (inl a) (inl b) = (λ low. omega (arith, one u a.0, one v b.0), omega (arith, one u a.0, one v b.0))
      by (inl a) (inr b) = (λ low. omega (arith, one u a.0, two v b.0), omega (arith, one u a.0, two v b.0))
      by (inr a) (inl b) = (λ low. absurd (omega (arith, low, a.1, b.1)), omega (arith, two u a.0, one v b.0))
      by (inr a) (inr b) = (λ low. omega (arith, two u a.0, two v b.0), omega (arith, two u a.0, two v b.0))
  used_more (e ∷ es) u v = by (used_more es) (leb_tells (u + size e) room) (leb_tells (v + size e) room)
    where
      stays : (w : ℕ) → nat_le (w + size e) room ≡ true → need w (e ∷ es) ≡ need (w + size e) es
      stays w is = ap (λ (b : Bool). cond b (need (w + size e) es) (suc (need (size e) es))) is

      opens : (w : ℕ) → nat_le (w + size e) room ≡ false → need w (e ∷ es) ≡ suc (need (size e) es)
      opens w is = ap (λ (b : Bool). cond b (need (w + size e) es) (suc (need (size e) es))) is

      by : ((u v : ℕ) → (u ≤ v → need u es ≤ need v es) × (need u es ≤ suc (need v es)))
          → ((nat_le (u + size e) room ≡ true) × (u + size e ≤ room)) ⊎ ((nat_le (u + size e) room ≡ false) × (room < u + size e)) → ((nat_le (v + size e) room ≡ true) × (v + size e ≤ room)) ⊎ ((nat_le (v + size e) room ≡ false) × (room < v + size e))
          → (u ≤ v → need u (e ∷ es) ≤ need v (e ∷ es)) × (need u (e ∷ es) ≤ suc (need v (e ∷ es)))
      by later (inl a) (inl b) =
          let more = later (u + size e) (v + size e) in
          (λ low. omega (arith, stays u a.0, stays v b.0, more.0 (omega (arith, low))), omega (arith, stays u a.0, stays v b.0, more.1))
      by later (inl a) (inr b) =
          let more = (later (u + size e) (size e)).1 in
          (λ low. omega (arith, stays u a.0, opens v b.0, more), omega (arith, stays u a.0, opens v b.0, more))
      by later (inr a) (inl b) =
          let more : need (size e) es ≤ need (v + size e) es = (later (size e) (v + size e)).0 (omega arith) in
          (λ low. absurd (omega (arith, low, a.1, b.1)), omega (arith, opens u a.0, stays v b.0, more))
      by later (inr a) (inr b) = (λ low. omega (arith, opens u a.0, opens v b.0), omega (arith, opens u a.0, opens v b.0))

  -- the kept entries of one more block, which fits after what is used, need as many blocks as those after it
  one_block : (b rest : List E) (most k u t : ℕ) → most ≤ room → u + total size b ≤ most → ((v s : ℕ) → v ≤ most → need v (kept_from name s rest) ≤ k) → need u (kept_from name t (b ++ rest)) ≤ k
  one_block [] rest most k u t low fits later = later u t (omega (arith, fits))
  one_block (e ∷ b) rest most k u t low fits later =
      by (one_block b rest most k (u + size e) (suc (name e)) low (omega (arith, fits)) later) (one_block b rest most k u t low (omega (arith, fits)) later) (leb_tells t (name e)) (leb_tells (u + size e) room)
    where
      keeps : nat_le t (name e) ≡ true → nat_le (u + size e) room ≡ true → need u (kept_from name t (e ∷ (b ++ rest))) ≡ need (u + size e) (kept_from name (suc (name e)) (b ++ rest))
      keeps kept stays =
          ap (λ (c : Bool). need u (cond c (e ∷ kept_from name (suc (name e)) (b ++ rest)) (kept_from name t (b ++ rest)))) kept
          ∙ ap (λ (c : Bool). cond c (need (u + size e) (kept_from name (suc (name e)) (b ++ rest))) (suc (need (size e) (kept_from name (suc (name e)) (b ++ rest))))) stays

      drops : nat_le t (name e) ≡ false → need u (kept_from name t (e ∷ (b ++ rest))) ≡ need u (kept_from name t (b ++ rest))
      drops passes = ap (λ (c : Bool). need u (cond c (e ∷ kept_from name (suc (name e)) (b ++ rest)) (kept_from name t (b ++ rest)))) passes

      by : need (u + size e) (kept_from name (suc (name e)) (b ++ rest)) ≤ k → need u (kept_from name t (b ++ rest)) ≤ k → ((nat_le t (name e) ≡ true) × (t ≤ name e)) ⊎ ((nat_le t (name e) ≡ false) × (name e < t))
          → ((nat_le (u + size e) room ≡ true) × (u + size e ≤ room)) ⊎ ((nat_le (u + size e) room ≡ false) × (room < u + size e)) → need u (kept_from name t (e ∷ (b ++ rest))) ≤ k
      by with_it without (inl w) (inl x) = omega (arith, keeps w.0 x.0, with_it)
      by with_it without (inl w) (inr x) = absurd (omega (arith, fits, low, x.1))
      by with_it without (inr w) x = omega (arith, drops w.0, without)

  -- a block fits the room, together with the end entry if it ends the chain
  abbrev pub Fits : Option (Block E) → Type 0
  Fits None = Unit {0}
  Fits (Some b) = total size b.entries + cond b.ends end 0 ≤ room

  pub chain_room : (store : List (Option (Block E))) (es : List E) (t : ℕ) → AllByRecursion Fits store → up_to_end store ≡ Some es → need 0 (kept_from name t es) ≤ length store
  chain_room [] es t fit is = cc
  chain_room (None ∷ rest) es t fit is = cc
  chain_room (Some b ∷ rest) es t fit is = by b.ends refl (up_to_end rest) refl (λ ds s e. chain_room rest ds s fit.1 e) is
    where
      closes : (u : ℕ) → u + end ≤ room → need u [] ≤ 1
      closes u low = elim (leb_tells (u + end) room) [
        | inl w ↦ let one : need u [] ≡ 1 = ap (λ (c : Bool). cond c 1 2) w.0 in omega (arith, one)
        | inr w ↦ absurd (omega (arith, low, w.1))
      ]

      by : (c : Bool) → b.ends ≡ c → (o : Option (List E)) → up_to_end rest ≡ o → ((ds : List E) (s : ℕ) → up_to_end rest ≡ Some ds → need 0 (kept_from name s ds) ≤ length rest)
          → cond c (Some b.entries) (option_map (λ ds. b.entries ++ ds) o) ≡ Some es → need 0 (kept_from name t es) ≤ suc (length rest)
      by true ends o behind later e =
          let same : b.entries ≡ es = cc in
          let all : total size b.entries + end ≤ room = omega (arith, fit.0, ap (λ (c : Bool). cond c end 0) ends) in
          let one = one_block b.entries [] (total size b.entries) 1 0 t (omega (arith, all)) (omega arith) (λ v s low. closes v (omega (arith, low, all))) in
          omega (arith, subst (λ (ds : List E). need 0 (kept_from name t ds) ≤ 1) (append-nil b.entries ∙ same) one)
      by false ends None behind later e = cc
      by false ends (Some ds) behind later e =
          let same : b.entries ++ ds ≡ es = cc in
          subst (λ (zs : List E). need 0 (kept_from name t zs) ≤ suc (length rest)) same
          (one_block b.entries ds room (suc (length rest)) 0 t (omega arith) (omega (arith, fit.0)) (λ v s low. omega (arith, (used_more (kept_from name s ds) v 0).1, later ds s behind)))

  -- and so of blocks that fit
  pub blocks_room : (blocks : List (List E)) (t : ℕ) → AllFit size room end blocks → need 0 (kept_from name t (joined blocks)) ≤ length blocks
  blocks_room [] t fit = absurd fit
  blocks_room (b ∷ []) t fit =
      one_block b [] (total size b) 1 0 t (omega (arith, fit)) (omega arith) (λ v s low. closes v (omega (arith, low, fit)))
    where
      closes : (u : ℕ) → u + end ≤ room → need u [] ≤ 1
      closes u low = elim (leb_tells (u + end) room) [
        | inl w ↦ let one : need u [] ≡ 1 = ap (λ (c : Bool). cond c 1 2) w.0 in omega (arith, one)
        | inr w ↦ absurd (omega (arith, low, w.1))
      ]
  blocks_room (b ∷ c ∷ cs) t fit =
      one_block b (joined (c ∷ cs)) room (suc (length (c ∷ cs))) 0 t (omega arith) (omega (arith, fit.0)) (λ v s low. omega (arith, (used_more (kept_from name s (joined (c ∷ cs))) v 0).1, blocks_room (c ∷ cs) s fit.1))
