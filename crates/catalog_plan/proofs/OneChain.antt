-- In a store one chain stands where a lead leads.
use Rattle.std.proofs.Common.{◌≡◌, ℕ, true, List, [], ◌∷◌, ◌++◌, length, Some, None, refl, sym, ap, ap₂, subst, ◌∙◌}
use Rattle.std.specs.Prelude.{slice_get}
use Rattle.vol_model.specs.declared.contents.Place.{Place}
use Rattle.catalog_blocks.specs.declared.blocks.CatBlock.{CatBlock}
use Rattle.catalog_blocks.specs.declared.blocks.CatEntry.{CatEntry}
use Rattle.catalog_blocks.specs.declared.chains.Chain.{Chain}
use Rattle.catalog_blocks.specs.declared.chains.Lead.{Lead}
use Rattle.catalog_blocks.specs.Trees.{Store, chain_to, is_zeros, number_at}
use Rattle.catalog_laws.specs.Forests.{Follow, Links, StandsAt, leads_of}
use Rattle.catalog_laws.proofs.Places.{zeros_one}

-- zeros lead to no block
no_number : (per blocks n : ℕ) (p : Place) → is_zeros p ≡ true → number_at per blocks p ≡ Some n → ⊥
no_number per blocks n p zeros here =
    let none : None ≡ Some n = ap (number_at per blocks) (sym (zeros_one p zeros)) ∙ here in
    absurd (cc none)

-- the blocks of a chain from a place on are the only ones
pub links_one : (per : ℕ) (store : Store) (bs cs : List (ℕ × List CatEntry)) (p : Place) → Links per store p bs → Links per store p cs → bs ≡ cs
links_one per store [] [] p first second = refl
links_one per store [] (c ∷ cs) p first second = absurd (no_number per (length store) c.0 p first second.0)
links_one per store (b ∷ bs) [] p first second = absurd (no_number per (length store) b.0 p second first.0)
links_one per store (b ∷ bs) (c ∷ cs) p first second =
    let number : Some b.0 ≡ Some c.0 = sym first.0 ∙ second.0 in
    let same : b.0 ≡ c.0 = cc in
    let B : CatBlock = record { entries = b.1; next = first.1 } in
    let C : CatBlock = record { entries = c.1; next = second.1 } in
    let block : Some (Some B) ≡ Some (Some C) = sym first.2 ∙ ap (slice_get store) same ∙ second.2 in
    let one : Some B ≡ Some C = cc in
    let all : B ≡ C = cc in
    let lists : b.1 ≡ c.1 = ap (λ (x : CatBlock). x.entries) all in
    let next : first.1 ≡ second.1 = ap (λ (x : CatBlock). x.next) all in
    ap₂ (λ (x : ℕ × List CatEntry) (xs : List (ℕ × List CatEntry)). x ∷ xs)
    (ap₂ (λ (n : ℕ) (es : List CatEntry). (n, es)) same lists)
    (links_one per store bs cs first.1 first.3 (subst (λ (q : Place). Links per store q cs) (sym next) second.3))

pub stands_one : (per : ℕ) (store : Store) (l : Lead) (c d : Chain) → StandsAt per store l c → StandsAt per store l d → c ≡ d
stands_one per store l c d first second =
    first.is
    ∙ ap (λ (bs : List (ℕ × List CatEntry)). record (chain_to l) { blocks = bs }) (links_one per store c.blocks d.blocks l.place first.links second.links)
    ∙ sym second.is

-- A lead leads to one chain in a store, and to another in a new one.
pub record StoodAt (per : ℕ) (store new : Store) (c d : Chain) : Type 0 where
  pub lead : Lead
  pub stood : StandsAt per store lead c
  pub stands : StandsAt per new lead d

-- where one chain of several gave way to another
pub stood_in : (per : ℕ) (store new : Store) (ls : List Lead) (before : List Chain) (c : Chain) (after : List Chain) (d : Chain) (more : List Chain)
    → Follow per store ls (before ++ c ∷ after) → Follow per new ls (before ++ d ∷ more) → StoodAt per store new c d
stood_in per store new [] [] c after d more first second = absurd first
stood_in per store new (l ∷ ls) [] c after d more first second = record { lead = l; stood = first.0; stands = second.0 }
stood_in per store new [] (b ∷ bs) c after d more first second = absurd first
stood_in per store new (l ∷ ls) (b ∷ bs) c after d more first second = stood_in per store new (leads_of b ++ ls) bs c after d more first.1 second.1
