-- When a block comes as the next of a chain.
use Rattle.std.proofs.Common.{◌≡◌, ◌⊎◌, inl, inr, ℕ, true, false, cond, List, length, Option, Some, None, Result, Ok, Err, refl, sym, ap, ◌∙◌}
use Rattle.std.specs.Prelude.{◌/◌, ◌==◌, slice_get, unwrap_or}
use Rattle.std.proofs.lemmas.Bool.{cases_Bool, cond-true, cond-false, and_parts, eqb-true}
use Rattle.vol_model.specs.declared.contents.Place.{Place}
use Rattle.catalog_blocks.specs.declared.blocks.CatBlock.{CatBlock}
use Rattle.catalog_blocks.specs.declared.chains.Chain.{Chain}
use Rattle.catalog_blocks.specs.Trees.{Store, block_at, next_block, block_reached, if_suits, is_among, is_zeros, number_at, suits}

-- A block is the next of a chain.
pub record IsNext (per : ℕ) (store : Store) (reached : List ℕ) (c : Chain) (p : Place) (x : ℕ × CatBlock) : Type 0 where
  pub number : number_at per (length store) p ≡ Some x.0
  pub fresh : is_among x.0 reached ≡ false
  pub block : slice_get store x.0 ≡ Some (Some x.1)
  pub suits_it : suits c x.1.entries ≡ true

suited : (per : ℕ) (c : Chain) (k : ℕ) (o : Option CatBlock) (x : ℕ × CatBlock) → if_suits per c k o ≡ Ok x → (o ≡ Some x.1) × (k ≡ x.0) × (suits c x.1.entries ≡ true)
suited per c k None x is = cc
suited per c k (Some b) x is = by (cases_Bool (suits c b.entries))
  where
    by : (suits c b.entries ≡ true) ⊎ (suits c b.entries ≡ false) → (Some b ≡ Some x.1) × (k ≡ x.0) × (suits c x.1.entries ≡ true)
    by (inr no_suit) =
        let pair : ℕ × CatBlock = (k, b) in
        let none : Err (k / per) ≡ Ok x = sym (cond-false {A = Result (ℕ × CatBlock) ℕ} (suits c b.entries) (Ok pair) (Err (k / per)) no_suit) ∙ is in cc
    by (inl suit) =
        let pair : ℕ × CatBlock = (k, b) in
        let same : Ok pair ≡ Ok x = sym (cond-true {A = Result (ℕ × CatBlock) ℕ} (suits c b.entries) (Ok pair) (Err (k / per)) suit) ∙ is in
        let one : pair ≡ x = cc in
        (ap (λ (y : ℕ × CatBlock). Some y.1) one, ap (λ (y : ℕ × CatBlock). y.0) one, ap (λ (y : ℕ × CatBlock). suits c y.1.entries) (sym one) ∙ suit)

there : (store : Store) (k : ℕ) (b : CatBlock) → block_at store k ≡ Some b → slice_get store k ≡ Some (Some b)
there store k b is = by (slice_get store k) refl
  where
    by : (o : Option (Option CatBlock)) → slice_get store k ≡ o → slice_get store k ≡ Some (Some b)
    by None e = let none = sym (ap (λ (o : Option (Option CatBlock)). unwrap_or o None) e) ∙ is in cc
    by (Some o) e = e ∙ ap (λ (y : Option CatBlock). Some y) (sym (ap (λ (o : Option (Option CatBlock)). unwrap_or o None) e) ∙ is)

pub found_next : (per : ℕ) (store : Store) (reached : List ℕ) (c : Chain) (p : Place) (from : ℕ) (x : ℕ × CatBlock) → next_block per store reached c p from ≡ Ok x → IsNext per store reached c p x
unfolding next_block
found_next per store reached c p from x is = by (number_at per (length store) p) refl
  where
    fresh : (k : ℕ) → number_at per (length store) p ≡ Some k → (is_among k reached ≡ true) ⊎ (is_among k reached ≡ false)
        → cond (is_among k reached) (Err (k / per)) (if_suits per c k (block_at store k)) ≡ Ok x → IsNext per store reached c p x
    fresh k e (inl twice) f = let none : Err (k / per) ≡ Ok x = sym (cond-true {A = Result (ℕ × CatBlock) ℕ} (is_among k reached) (Err (k / per)) (if_suits per c k (block_at store k)) twice) ∙ f in cc
    fresh k e (inr new) f =
        let s = suited per c k (block_at store k) x (sym (cond-false {A = Result (ℕ × CatBlock) ℕ} (is_among k reached) (Err (k / per)) (if_suits per c k (block_at store k)) new) ∙ f) in
        record {
          number = e ∙ ap (λ (j : ℕ). Some j) s.1;
          fresh = ap (λ (j : ℕ). is_among j reached) (sym s.1) ∙ new;
          block = ap (slice_get store) (sym s.1) ∙ there store k x.1 s.0;
          suits_it = s.2;
        }

    by : (o : Option ℕ) → number_at per (length store) p ≡ o → IsNext per store reached c p x
    by None e = let none = sym (ap (block_reached per store reached c from) e) ∙ is in cc
    by (Some k) e = fresh k e (cases_Bool (is_among k reached)) (sym (ap (block_reached per store reached c from) e) ∙ is)

-- and then it comes
pub next_found : (per : ℕ) (store : Store) (reached : List ℕ) (c : Chain) (p : Place) (from : ℕ) (x : ℕ × CatBlock) → IsNext per store reached c p x → next_block per store reached c p from ≡ Ok x
unfolding next_block
next_found per store reached c p from x is =
    ap (block_reached per store reached c from) is.number
    ∙ cond-false {A = Result (ℕ × CatBlock) ℕ} (is_among x.0 reached) (Err (x.0 / per)) (if_suits per c x.0 (block_at store x.0)) is.fresh
    ∙ ap (λ (o : Option (Option CatBlock)). if_suits per c x.0 (unwrap_or o None)) is.block
    ∙ cond-true {A = Result (ℕ × CatBlock) ℕ} (suits c x.1.entries) (Ok x) (Err (x.0 / per)) is.suits_it

-- zeros lead to no block
pub zeros_nowhere : (per blocks : ℕ) (p : Place) (k : ℕ) → number_at per blocks p ≡ Some k → is_zeros p ≡ false
zeros_nowhere per blocks p k is = by (cases_Bool (is_zeros p))
  where
    by : (is_zeros p ≡ true) ⊎ (is_zeros p ≡ false) → is_zeros p ≡ false
    by (inr other) = other
    by (inl zeros) =
        let none : p.r ≡ 0 = eqb-true p.r 0 ((and_parts (p.tt == 0) (p.r == 0) zeros).1) in
        let nowhere : number_at per blocks (record { tt = p.tt; r = 0 }) ≡ None = refl in
        let same = sym (ap (λ (r : ℕ). number_at per blocks (record { tt = p.tt; r = r })) none) ∙ is in
        cc
