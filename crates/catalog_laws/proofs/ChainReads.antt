-- A chain that is read is one that stands in the store.
use Rattle.std.proofs.Common.{◌≡◌, ◌⊎◌, inl, inr, ◌≤◌, ℕ, zero, suc, true, false, cond, List, [], ◌∷◌, length, map, Result, Ok, Err, refl, sym, ap, ◌∙◌, arith, append_assoc}
use Rattle.std.specs.Prelude.{◌/◌}
use Rattle.std.proofs.lemmas.Bool.{cases_Bool, cond-true, cond-false}
use Rattle.vol_model.specs.declared.contents.Place.{Place}
use Rattle.catalog_blocks.specs.declared.blocks.CatBlock.{CatBlock}
use Rattle.catalog_blocks.specs.declared.blocks.CatEntry.{CatEntry}
use Rattle.catalog_blocks.specs.declared.chains.Chain.{Chain}
use Rattle.catalog_blocks.specs.Trees.{Store, chain_from, next_block, is_zeros, then_on, with_block}
use Rattle.catalog_laws.specs.Forests.{AreApart, GoesOn}
use Rattle.catalog_laws.proofs.NextBlocks.{IsNext, found_next, next_found, zeros_nowhere}

-- the numbers of blocks
abbrev pub of : List (ℕ × List CatEntry) → List ℕ
of bs = map (λ (b : ℕ × List CatEntry). b.0) bs

-- A chain so far is read to its end, with blocks that were not reached.
pub record IsReadOn (per : ℕ) (store : Store) (reached : List ℕ) (c : Chain) (p : Place) (d : Chain) : Type 0 where
  pub more : List (ℕ × List CatEntry)
  pub goes : GoesOn per store c p more d
  pub apart : AreApart reached (of more)

-- what is done with the next block
abbrev next_step : ℕ → ℕ → Store → List ℕ → Chain → ℕ × CatBlock → Result Chain ℕ
next_step n per store reached c x =
    cond (is_zeros x.1.next) (Ok (with_block c x.0 x.1.entries)) (chain_from n per store (x.0 ∷ reached) (with_block c x.0 x.1.entries) x.1.next (x.0 / per))

step : (n per : ℕ) (store : Store) (reached : List ℕ) (c : Chain) (p : Place) (from : ℕ) → chain_from (suc n) per store reached c p from ≡ then_on (next_block per store reached c p from) (next_step n per store reached c)
unfolding chain_from
step n per store reached c p from = refl

-- the last block
last_one : (per : ℕ) (store : Store) (reached : List ℕ) (c : Chain) (p : Place) (x : ℕ × CatBlock) (d : Chain) → IsNext per store reached c p x → is_zeros x.1.next ≡ true → with_block c x.0 x.1.entries ≡ d → IsReadOn per store reached c p d
last_one per store reached c p x d next zeros is = record {
  more = (x.0, x.1.entries) ∷ [];
  goes = record {
    some = omega arith;
    links = (next.number, x.1.next, next.block, zeros);
    suit = (next.suits_it, tt);
    is = sym is;
  };
  apart = (next.fresh, tt);
}

-- one more block in front
one_more : (per : ℕ) (store : Store) (reached : List ℕ) (c : Chain) (p : Place) (x : ℕ × CatBlock) (d : Chain) → IsNext per store reached c p x → IsReadOn per store (x.0 ∷ reached) (with_block c x.0 x.1.entries) x.1.next d → IsReadOn per store reached c p d
one_more per store reached c p x d next rest = record {
  more = (x.0, x.1.entries) ∷ rest.more;
  goes = record {
    some = omega arith;
    links = (next.number, x.1.next, next.block, rest.goes.links);
    suit = (next.suits_it, rest.goes.suit);
    is = rest.goes.is ∙ ap (λ (bs : List (ℕ × List CatEntry)). record c { blocks = bs }) (append_assoc c.blocks ((x.0, x.1.entries) ∷ []) rest.more);
  };
  apart = (next.fresh, rest.apart);
}

none_read : (per : ℕ) (store : Store) (reached : List ℕ) (c : Chain) (p : Place) (from : ℕ) (d : Chain) → chain_from zero per store reached c p from ≡ Ok d → IsReadOn per store reached c p d
unfolding chain_from
none_read per store reached c p from d is = cc

-- what is read stands there
pub read_on : (n per : ℕ) (store : Store) (reached : List ℕ) (c : Chain) (p : Place) (from : ℕ) (d : Chain) → chain_from n per store reached c p from ≡ Ok d → IsReadOn per store reached c p d
read_on zero per store reached c p from d is = none_read per store reached c p from d is
read_on (suc n) per store reached c p from d is =
    by (λ r k e q at f. read_on n per store r k q at d f) (next_block per store reached c p from) refl (sym (step n per store reached c p from) ∙ is)
  where
    Later : Type 0
    Later = (r : List ℕ) (k : Chain) (e : Unit {0}) (q : Place) (at : ℕ) → chain_from n per store r k q at ≡ Ok d → IsReadOn per store r k q d

    on : Later → (x : ℕ × CatBlock) → IsNext per store reached c p x → (is_zeros x.1.next ≡ true) ⊎ (is_zeros x.1.next ≡ false) → next_step n per store reached c x ≡ Ok d → IsReadOn per store reached c p d
    on later x next (inl zeros) f =
        let same = sym (cond-true (is_zeros x.1.next) (Ok (with_block c x.0 x.1.entries)) (chain_from n per store (x.0 ∷ reached) (with_block c x.0 x.1.entries) x.1.next (x.0 / per)) zeros) ∙ f in
        last_one per store reached c p x d next zeros cc
    on later x next (inr other) f =
        let same = sym (cond-false (is_zeros x.1.next) (Ok (with_block c x.0 x.1.entries)) (chain_from n per store (x.0 ∷ reached) (with_block c x.0 x.1.entries) x.1.next (x.0 / per)) other) ∙ f in
        one_more per store reached c p x d next (later (x.0 ∷ reached) (with_block c x.0 x.1.entries) tt x.1.next (x.0 / per) same)

    by : Later → (r : Result (ℕ × CatBlock) ℕ) → next_block per store reached c p from ≡ r → then_on (next_block per store reached c p from) (next_step n per store reached c) ≡ Ok d → IsReadOn per store reached c p d
    by later (Err at) e f = let none = sym (ap (λ (r : Result (ℕ × CatBlock) ℕ). then_on r (next_step n per store reached c)) e) ∙ f in cc
    by later (Ok x) e f = on later x (found_next per store reached c p from x e) (cases_Bool (is_zeros x.1.next)) (sym (ap (λ (r : Result (ℕ × CatBlock) ℕ). then_on r (next_step n per store reached c)) e) ∙ f)

-- what stands there is read
pub on_read : (n per : ℕ) (store : Store) (reached : List ℕ) (c : Chain) (p : Place) (from : ℕ) (more : List (ℕ × List CatEntry)) (d : Chain) → length more ≤ n → GoesOn per store c p more d → AreApart reached (of more) → chain_from n per store reached c p from ≡ Ok d
on_read n per store reached c p from [] d low goes apart = absurd (omega (arith, goes.some))
on_read zero per store reached c p from (b ∷ bs) d low goes apart = absurd (omega (arith, low))
on_read (suc n) per store reached c p from (b ∷ []) d low goes apart =
    let block : CatBlock = record { entries = b.1; next = goes.links.1 } in
    let x : ℕ × CatBlock = (b.0, block) in
    let next : IsNext per store reached c p x = record { number = goes.links.0; fresh = apart.0; block = goes.links.2; suits_it = goes.suit.0 } in
    step n per store reached c p from
    ∙ ap (λ (r : Result (ℕ × CatBlock) ℕ). then_on r (next_step n per store reached c)) (next_found per store reached c p from x next)
    ∙ cond-true {A = Result Chain ℕ} (is_zeros goes.links.1) (Ok (with_block c b.0 b.1)) (chain_from n per store (b.0 ∷ reached) (with_block c b.0 b.1) goes.links.1 (b.0 / per)) goes.links.3
    ∙ ap (λ (e : Chain). Ok e) (sym goes.is)
on_read (suc n) per store reached c p from (b ∷ b2 ∷ bs) d low goes apart =
    let block : CatBlock = record { entries = b.1; next = goes.links.1 } in
    let x : ℕ × CatBlock = (b.0, block) in
    let next : IsNext per store reached c p x = record { number = goes.links.0; fresh = apart.0; block = goes.links.2; suits_it = goes.suit.0 } in
    let rest : GoesOn per store (with_block c b.0 b.1) goes.links.1 (b2 ∷ bs) d = record {
      some = omega arith;
      links = goes.links.3;
      suit = goes.suit.1;
      is = goes.is ∙ ap (λ (cs : List (ℕ × List CatEntry)). record c { blocks = cs }) (sym (append_assoc c.blocks (b ∷ []) (b2 ∷ bs)));
    } in
    step n per store reached c p from
    ∙ ap (λ (r : Result (ℕ × CatBlock) ℕ). then_on r (next_step n per store reached c)) (next_found per store reached c p from x next)
    ∙ cond-false {A = Result Chain ℕ} (is_zeros goes.links.1) (Ok (with_block c b.0 b.1)) (chain_from n per store (b.0 ∷ reached) (with_block c b.0 b.1) goes.links.1 (b.0 / per)) (zeros_nowhere per (length store) goes.links.1 b2.0 goes.links.3.0)
    ∙ on_read n per store (b.0 ∷ reached) (with_block c b.0 b.1) goes.links.1 (b.0 / per) (b2 ∷ bs) d (omega (arith, low)) rest apart.1
