-- How the chains of a catalog are read, one after the other.
use Rattle.std.proofs.Common.{◌≡◌, ℕ, zero, suc, true, false, List, [], ◌∷◌, ◌++◌, length, map, reverse, Result, Ok, Err, arith, refl, sym, ap, ◌∙◌, set, None, append_assoc, append-nil}
use Rattle.std.specs.Prelude.{◌/◌, Option, Some, option_map}
use Rattle.std.specs.List.{cons_option}
use Rattle.std.proofs.lemmas.List.Elements.{filter_map-append}
use Rattle.std.proofs.lemmas.Bool.{cond-true, cond-false}
use Rattle.std.proofs.lemmas.List.{map-append, reverse-append}
use Rattle.chain_spec.proofs.KeptLemmas.{after-append}
use Rattle.chain_spec.specs.Kept.{bound_after, joined}
use Rattle.sorted_chain.proofs.CutSteps.{joined-push}
use Rattle.catalog_blocks.specs.Blocks.{name_number}
use Rattle.catalog_laws.proofs.SuitedBlocks.{entry_in, list_in, located_joined}
use Rattle.vol_model.specs.declared.contents.Place.{Place}
use Rattle.catalog_blocks.specs.declared.blocks.CatBlock.{CatBlock}
use Rattle.catalog_blocks.specs.declared.blocks.CatEntry.{CatEntry}
use Rattle.catalog_blocks.specs.declared.chains.Chain.{Chain}
use Rattle.catalog_blocks.specs.declared.chains.Lead.{Lead}
use Rattle.catalog_blocks.specs.declared.chains.Visit.{Visit}
use Rattle.catalog_blocks.specs.Trees.{Store, chain_from, chain_to, chains_from, is_zeros, lead_in, located_entries, next_block, numbers, then_on, visits_of, with_block, with_chain}
use Rattle.catalog_plan.specs.Branches.{with_chains}
use Rattle.catalog_plan.specs.Left.{visit_by, visits_by, without}
use Rattle.catalog_plan.specs.Located.{bound_of}
use Rattle.catalog_plan.proofs.LeftBlocks.{all_taken, chain_alike, chains_alike, next_step, taken, without-more}

-- the next block, where there is none
pub fault_next : (n per : ℕ) (left : Store) (c : Chain) (p : Place) (from at : ℕ) → next_block per left [] c p from ≡ Err at → chain_from (suc n) per left [] c p from ≡ Err at
unfolding chain_from
fault_next n per left c p from at is = ap (λ (o : Result (ℕ × CatBlock) ℕ). then_on o (next_step n per left [] c)) is

-- and where it is the last
pub last_next : (n per : ℕ) (left : Store) (c : Chain) (p : Place) (from : ℕ) (x : ℕ × CatBlock) → next_block per left [] c p from ≡ Ok x → is_zeros x.1.next ≡ true
    → chain_from (suc n) per left [] c p from ≡ Ok (with_block c x.0 x.1.entries)
unfolding chain_from
last_next n per left c p from x is zeros =
    ap (λ (o : Result (ℕ × CatBlock) ℕ). then_on o (next_step n per left [] c)) is
    ∙ cond-true (is_zeros x.1.next) (Ok (with_block c x.0 x.1.entries)) (chain_from n per left (x.0 ∷ []) (with_block c x.0 x.1.entries) x.1.next (x.0 / per)) zeros

-- and where the chain goes on, from the blocks that are left then
pub on_next : (n per : ℕ) (left : Store) (c : Chain) (p : Place) (from : ℕ) (x : ℕ × CatBlock) → next_block per left [] c p from ≡ Ok x → is_zeros x.1.next ≡ false
    → chain_from (suc n) per left [] c p from ≡ chain_from n per (set left x.0 None) [] (with_block c x.0 x.1.entries) x.1.next (x.0 / per)
unfolding chain_from
on_next n per left c p from x is other =
    ap (λ (o : Result (ℕ × CatBlock) ℕ). then_on o (next_step n per left [] c)) is
    ∙ cond-false (is_zeros x.1.next) (Ok (with_block c x.0 x.1.entries)) (chain_from n per left (x.0 ∷ []) (with_block c x.0 x.1.entries) x.1.next (x.0 / per)) other
    ∙ chain_alike n per left (x.0 ∷ []) (set left x.0 None) [] (taken left [] x.0) (with_block c x.0 x.1.entries) x.1.next (x.0 / per)

-- what is left where one more block was taken
pub left_more : (left before : Store) (c d : Chain) (k : ℕ) (es : List CatEntry) → d ≡ with_block c k es → before ≡ without (numbers c) left → set before k None ≡ without (numbers d) left
left_more left before c d k es chain was =
    ap (λ (s : Store). set s k None) was
    ∙ sym (without-more (numbers c) k left)
    ∙ ap (λ (ks : List ℕ). without ks left) (sym (map-append (λ (b : ℕ × List CatEntry). b.0) c.blocks ((k, es) ∷ [])))
    ∙ ap (λ (x : Chain). without (numbers x) left) (sym chain)

-- the least name that is kept after one more block
pub bound_more : (c : Chain) (k : ℕ) (es : List CatEntry) → bound_after name_number (bound_of c) es ≡ bound_of (with_block c k es)
bound_more c k es =
    sym (ap (bound_after name_number 0) (located_joined (c.blocks ++ (k, es) ∷ []) ∙ ap joined (map-append list_in c.blocks ((k, es) ∷ [])) ∙ joined-push (map list_in c.blocks) es ∙ ap (λ (xs : List CatEntry). xs ++ es) (sym (located_joined c.blocks)))
    ∙ after-append name_number 0 (map entry_in (located_entries c.blocks)) es)

pub none_next : (per : ℕ) (left : Store) (c : Chain) (p : Place) (from : ℕ) → chain_from zero per left [] c p from ≡ Err from
unfolding chain_from
none_next per left c p from = refl

pub with_more : (done : List Chain) (c : Chain) (o : Result (List Chain) ℕ) → with_chains done (with_chain c o) ≡ with_chains (done ++ c ∷ []) o
with_more done c (Err at) = refl
with_more done c (Ok cs) = ap (λ (ds : List Chain). Ok ds) (sym (append_assoc done (c ∷ []) cs))

pub with_none : (o : Result (List Chain) ℕ) → with_chains [] o ≡ o
with_none (Ok cs) = refl
with_none (Err at) = refl

-- one more chain, with all below it next
pub more_chains : (n per : ℕ) (left : Store) (v : Visit) (vs : List Visit) (c : Chain) → chain_from (suc (length left)) per left [] (chain_to v.lead) v.lead.place v.from ≡ Ok c
    → chains_from (suc n) per left [] (v ∷ vs) ≡ with_chain c (chains_from n per (without (numbers c) left) [] (visits_of per c ++ vs))
unfolding chains_from
more_chains n per left v vs c is =
    ap (λ (o : Result Chain ℕ). then_on o (λ (d : Chain). with_chain d (chains_from n per left (numbers d ++ []) (visits_of per d ++ vs)))) is
    ∙ ap (with_chain c) (chains_alike n per left (numbers c ++ []) (without (numbers c) left) [] (all_taken (numbers c) left []) (visits_of per c ++ vs))

pub fault_chain : (n per : ℕ) (left : Store) (v : Visit) (vs : List Visit) (at : ℕ) → chain_from (suc (length left)) per left [] (chain_to v.lead) v.lead.place v.from ≡ Err at → chains_from (suc n) per left [] (v ∷ vs) ≡ Err at
unfolding chains_from
fault_chain n per left v vs at is = ap (λ (o : Result Chain ℕ). then_on o (λ (d : Chain). with_chain d (chains_from n per left (numbers d ++ []) (visits_of per d ++ vs)))) is

pub no_visits : (n per : ℕ) (left : Store) → chains_from n per left [] [] ≡ Ok []
unfolding chains_from
no_visits n per left = refl

pub no_more : (per : ℕ) (left : Store) (v : Visit) (vs : List Visit) → chains_from zero per left [] (v ∷ vs) ≡ Err v.from
unfolding chains_from
no_more per left v vs = refl

-- one more entry that may lead to a chain
pub visits_more : (per : ℕ) (c : Chain) (ps : List (ℕ × CatEntry)) (p : ℕ × CatEntry) → visits_by per c ps ++ visit_by (p.0 / per) (lead_in c p.1) ≡ visits_by per c (ps ++ p ∷ [])
visits_more per c ps p =
    ap (λ (vs : List Visit). visits_by per c ps ++ vs) (one (lead_in c p.1))
    ∙ sym (filter_map-append (λ (q : ℕ × CatEntry). option_map (λ (l : Lead). record { lead = l; from = q.0 / per }) (lead_in c q.1)) ps (p ∷ []))
  where
    one : (o : Option Lead) → visit_by (p.0 / per) o ≡ cons_option (option_map (λ (l : Lead). record { lead = l; from = p.0 / per }) o) []
    one None = refl
    one (Some l) = refl

-- no visits are left
pub none_left : (vs : List Visit) → length vs ≡ 0 → vs ≡ []
none_left [] none = refl
none_left (v ∷ vs) none = absurd (omega (arith, none))

-- the last of those that are left comes first
pub last_first : (vs : List Visit) (v : Visit) (ws : List Visit) → ws ≡ vs ++ v ∷ [] → reverse ws ≡ v ∷ reverse vs
last_first vs v ws is = ap reverse is ∙ reverse-append vs (v ∷ [])

-- ---- the chains that were read so far, and those that are left

module _ (per : ℕ) (left : Store) (vs : List Visit) (done : List Chain) where
  abbrev pub all_from : ℕ → Result (List Chain) ℕ
  all_from n = with_chains done (chains_from n per left [] (reverse vs))

  pub all_read : (n : ℕ) → vs ≡ [] → all_from n ≡ Ok done
  all_read n none =
      ap (λ (ws : List Visit). with_chains done (chains_from n per left [] (reverse ws))) none
      ∙ ap (with_chains done) (no_visits n per left)
      ∙ ap (λ (cs : List Chain). Ok cs) (append-nil done)

  pub fault_read : (n m : ℕ) (ws : List Visit) (v : Visit) (at : ℕ) → n ≡ suc m → vs ≡ ws ++ v ∷ [] → Err at ≡ chain_from (suc (length left)) per left [] (chain_to v.lead) v.lead.place v.from → all_from n ≡ Err at
  fault_read n m ws v at one is fault =
      ap (λ (k : ℕ). with_chains done (chains_from k per left [] (reverse vs))) one
      ∙ ap (λ (us : List Visit). with_chains done (chains_from (suc m) per left [] us)) (last_first ws v vs is)
      ∙ ap (with_chains done) (fault_chain m per left v (reverse ws) at (sym fault))

  pub past_read : (ws : List Visit) (v : Visit) → vs ≡ ws ++ v ∷ [] → all_from zero ≡ Err v.from
  past_read ws v is =
      ap (λ (us : List Visit). with_chains done (chains_from zero per left [] us)) (last_first ws v vs is)
      ∙ ap (with_chains done) (no_more per left v (reverse ws))

  pub chain_read : (n m : ℕ) (ws : List Visit) (v : Visit) (c : Chain) → n ≡ suc m → vs ≡ ws ++ v ∷ [] → Ok c ≡ chain_from (suc (length left)) per left [] (chain_to v.lead) v.lead.place v.from
      → (next : Store) → next ≡ without (numbers c) left → (us : List Visit) → reverse us ≡ visits_of per c ++ reverse ws → (more : List Chain) → more ≡ done ++ c ∷ []
      → all_from n ≡ with_chains more (chains_from m per next [] (reverse us))
  chain_read n m ws v c one is read next left_is us later more chains =
      ap (λ (k : ℕ). with_chains done (chains_from k per left [] (reverse vs))) one
      ∙ ap (λ (xs : List Visit). with_chains done (chains_from (suc m) per left [] xs)) (last_first ws v vs is)
      ∙ ap (with_chains done) (more_chains m per left v (reverse ws) c (sym read))
      ∙ with_more done c (chains_from m per (without (numbers c) left) [] (visits_of per c ++ reverse ws))
      ∙ ap (λ (s : Store). with_chains (done ++ c ∷ []) (chains_from m per s [] (visits_of per c ++ reverse ws))) (sym left_is)
      ∙ ap (λ (xs : List Visit). with_chains (done ++ c ∷ []) (chains_from m per next [] xs)) (sym later)
      ∙ ap (λ (ds : List Chain). with_chains ds (chains_from m per next [] (reverse us))) (sym chains)
