-- Where the same is left of each block of two stores, the same chains are read.
use Rattle.std.proofs.Common.{◌≡◌, ◌⊎◌, inl, inr, ℕ, zero, suc, Bool, true, false, cond, List, [], ◌∷◌, ◌++◌, length, Option, Some, None, Result, Ok, Err, refl, sym, ap, ◌∙◌, set}
use Rattle.std.specs.Prelude.{◌/◌, ◌==◌, ◌||◌, unwrap_or}
use Rattle.std.proofs.lemmas.Bool.Decides.{eqb_tells}
use Rattle.std.proofs.lemmas.List.{length-set}
use Rattle.vol_model.specs.declared.contents.Place.{Place}
use Rattle.catalog_blocks.specs.declared.blocks.CatBlock.{CatBlock}
use Rattle.catalog_blocks.specs.declared.chains.Chain.{Chain}
use Rattle.catalog_blocks.specs.declared.chains.Visit.{Visit}
use Rattle.catalog_blocks.specs.Trees.{Store, block_at, block_reached, chain_from, chain_to, chains_from, if_suits, is_among, is_zeros, next_block, number_at, numbers, then_on, visits_of, with_block, with_chain}
use Rattle.catalog_laws.proofs.SeenChains.{set_other}
use Rattle.catalog_plan.specs.Left.{without}

-- what is left at a number, where some were reached
abbrev pub left_at : Store → List ℕ → ℕ → Option CatBlock
left_at store reached k = cond (is_among k reached) None (block_at store k)

-- Two stores have as many blocks, of which the same is left.
pub record IsAlike (s : Store) (r : List ℕ) (t : Store) (q : List ℕ) : Type 0 where
  pub size : length s ≡ length t
  pub left : (k : ℕ) → left_at s r k ≡ left_at t q k

by_left : (per : ℕ) (s : Store) (r : List ℕ) (c : Chain) (from k : ℕ) → block_reached per s r c from (Some k) ≡ if_suits per c k (left_at s r k)
by_left per s r c from k = on (is_among k r)
  where
    on : (b : Bool) → cond b (Err (k / per)) (if_suits per c k (block_at s k)) ≡ if_suits per c k (cond b None (block_at s k))
    on true = refl
    on false = refl

next_alike : (per : ℕ) (s : Store) (r : List ℕ) (t : Store) (q : List ℕ) → IsAlike s r t q → (c : Chain) (p : Place) (from : ℕ) → next_block per s r c p from ≡ next_block per t q c p from
unfolding next_block
next_alike per s r t q alike c p from =
    ap (λ (n : ℕ). block_reached per s r c from (number_at per n p)) alike.size ∙ on (number_at per (length t) p)
  where
    on : (o : Option ℕ) → block_reached per s r c from o ≡ block_reached per t q c from o
    on None = refl
    on (Some k) = by_left per s r c from k ∙ ap (if_suits per c k) (alike.left k) ∙ sym (by_left per t q c from k)

-- and still is where one more was reached in both
alike_more : (s : Store) (r : List ℕ) (t : Store) (q : List ℕ) (x : ℕ) → IsAlike s r t q → IsAlike s (x ∷ r) t (x ∷ q)
alike_more s r t q x alike = record { size = alike.size; left = λ k. on k (x == k) }
  where
    on : (k : ℕ) (b : Bool) → cond (b || is_among k r) None (block_at s k) ≡ cond (b || is_among k q) None (block_at t k)
    on k true = refl
    on k false = alike.left k

alike_all : (s : Store) (r : List ℕ) (t : Store) (q : List ℕ) (xs : List ℕ) → IsAlike s r t q → IsAlike s (xs ++ r) t (xs ++ q)
alike_all s r t q [] alike = alike
alike_all s r t q (x ∷ xs) alike = alike_more s (xs ++ r) t (xs ++ q) x (alike_all s r t q xs alike)

-- what is done with the next block
abbrev pub next_step : ℕ → ℕ → Store → List ℕ → Chain → ℕ × CatBlock → Result Chain ℕ
next_step n per store reached c x =
    cond (is_zeros x.1.next) (Ok (with_block c x.0 x.1.entries)) (chain_from n per store (x.0 ∷ reached) (with_block c x.0 x.1.entries) x.1.next (x.0 / per))

pub chain_alike : (n per : ℕ) (s : Store) (r : List ℕ) (t : Store) (q : List ℕ) → IsAlike s r t q → (c : Chain) (p : Place) (from : ℕ) → chain_from n per s r c p from ≡ chain_from n per t q c p from
unfolding chain_from
chain_alike zero per s r t q alike c p from = refl
chain_alike (suc n) per s r t q alike c p from =
    ap (λ (o : Result (ℕ × CatBlock) ℕ). then_on o (next_step n per s r c)) (next_alike per s r t q alike c p from)
    ∙ on (λ x. chain_alike n per s (x.0 ∷ r) t (x.0 ∷ q) (alike_more s r t q x.0 alike) (with_block c x.0 x.1.entries) x.1.next (x.0 / per)) (next_block per t q c p from)
  where
    on : ((x : ℕ × CatBlock) → chain_from n per s (x.0 ∷ r) (with_block c x.0 x.1.entries) x.1.next (x.0 / per) ≡ chain_from n per t (x.0 ∷ q) (with_block c x.0 x.1.entries) x.1.next (x.0 / per))
        → (o : Result (ℕ × CatBlock) ℕ) → then_on o (next_step n per s r c) ≡ then_on o (next_step n per t q c)
    on later (Err at) = refl
    on later (Ok x) = ap (cond (is_zeros x.1.next) (Ok (with_block c x.0 x.1.entries))) (later x)

pub chains_alike : (n per : ℕ) (s : Store) (r : List ℕ) (t : Store) (q : List ℕ) → IsAlike s r t q → (vs : List Visit) → chains_from n per s r vs ≡ chains_from n per t q vs
unfolding chains_from
chains_alike n per s r t q alike [] = refl
chains_alike zero per s r t q alike (v ∷ vs) = refl
chains_alike (suc n) per s r t q alike (v ∷ vs) =
    ap (λ (o : Result Chain ℕ). then_on o (λ (c : Chain). with_chain c (chains_from n per s (numbers c ++ r) (visits_of per c ++ vs))))
    (ap (λ (m : ℕ). chain_from (suc m) per s r (chain_to v.lead) v.lead.place v.from) alike.size ∙ chain_alike (suc (length t)) per s r t q alike (chain_to v.lead) v.lead.place v.from)
    ∙ on (λ c. chains_alike n per s (numbers c ++ r) t (numbers c ++ q) (alike_all s r t q (numbers c) alike) (visits_of per c ++ vs)) (chain_from (suc (length t)) per t q (chain_to v.lead) v.lead.place v.from)
  where
    on : ((c : Chain) → chains_from n per s (numbers c ++ r) (visits_of per c ++ vs) ≡ chains_from n per t (numbers c ++ q) (visits_of per c ++ vs))
        → (o : Result Chain ℕ) → then_on o (λ (c : Chain). with_chain c (chains_from n per s (numbers c ++ r) (visits_of per c ++ vs)))
        ≡ then_on o (λ (c : Chain). with_chain c (chains_from n per t (numbers c ++ q) (visits_of per c ++ vs)))
    on later (Err at) = refl
    on later (Ok c) = ap (with_chain c) (later c)

-- a block that is taken is one that was reached
none_there : (s : Store) (k : ℕ) → block_at (set s k None) k ≡ None
none_there [] k = refl
none_there (b ∷ bs) zero = refl
none_there (b ∷ bs) (suc k) = none_there bs k

pub taken : (s : Store) (r : List ℕ) (k : ℕ) → IsAlike s (k ∷ r) (set s k None) r
taken s r k = record { size = sym (length-set s k None); left = λ j. on j (eqb_tells k j) }
  where
    both : (b : Bool) → ◌≡◌ {A = Option CatBlock} None (cond b None None)
    both true = refl
    both false = refl

    on : (j : ℕ) → (((k == j) ≡ true) × (k ≡ j)) ⊎ (((k == j) ≡ false) × (k ≡ j → ⊥)) → cond ((k == j) || is_among j r) None (block_at s j) ≡ cond (is_among j r) None (block_at (set s k None) j)
    on j (inl e) =
        ap (λ (b : Bool). cond (b || is_among j r) None (block_at s j)) e.0
        ∙ both (is_among j r)
        ∙ ap (cond (is_among j r) None) (sym (ap (block_at (set s k None)) (sym e.1) ∙ none_there s k))
    on j (inr e) =
        ap (λ (b : Bool). cond (b || is_among j r) None (block_at s j)) e.0
        ∙ ap (λ (o : Option (Option CatBlock)). cond (is_among j r) None (unwrap_or o None)) (sym (set_other s k j None e.1))

pub all_taken : (ks : List ℕ) (s : Store) (r : List ℕ) → IsAlike s (ks ++ r) (without ks s) r
all_taken [] s r = record { size = refl; left = λ k. refl }
all_taken (k ∷ ks) s r =
    let first = taken s (ks ++ r) k in
    let rest = all_taken ks (set s k None) r in
    record { size = first.size ∙ rest.size; left = λ j. first.left j ∙ rest.left j }

pub length-without : (ks : List ℕ) (s : Store) → length (without ks s) ≡ length s
length-without [] s = refl
length-without (k ∷ ks) s = length-without ks (set s k None) ∙ length-set s k None

pub without-more : (ks : List ℕ) (k : ℕ) (s : Store) → without (ks ++ k ∷ []) s ≡ set (without ks s) k None
without-more [] k s = refl
without-more (j ∷ ks) k s = without-more ks k (set s j None)
