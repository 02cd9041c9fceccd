-- A chain as its blocks are seen at their numbers, and what writes of them leave.
use Rattle.std.proofs.Common.{◌≡◌, ◌⊎◌, inl, inr, ◌≤◌, ◌<◌, ℕ, zero, suc, Bool, true, false, List, [], ◌∷◌, ◌++◌, length, map, take, drop, replicate, Option, Some, None, refl, sym, ap, subst, ◌∙◌, arith, append-nil}
use Rattle.std.specs.Prelude.{option_map, set, slice_get, slice_index, if◌then◌else◌}
use Rattle.std.specs.List.{AllByRecursion}
use Rattle.std.proofs.lemmas.Bool.{cases_Bool, true≢false}
use Rattle.chain_spec.specs.Kept.{joined}
use Rattle.chain_spec.specs.Store.{Block, stored, up_to_end}
use Rattle.vol_model.specs.declared.contents.Place.{Place}
use Rattle.catalog_blocks.specs.declared.blocks.CatBlock.{CatBlock}
use Rattle.catalog_blocks.specs.declared.blocks.CatEntry.{CatEntry}
use Rattle.catalog_blocks.specs.Trees.{Store, is_among, number_at, place_of}
use Rattle.catalog_laws.specs.Forests.{AreApart, Links}
use Rattle.catalog_laws.specs.Writes.{next_after, no_place}
use Rattle.catalog_laws.proofs.Apart.{apart_not, not_among}
use Rattle.catalog_laws.proofs.ChainReads.{of}
use Rattle.catalog_laws.proofs.Frames.{among_first, among_later}
use Rattle.catalog_laws.proofs.Places.{number_place, place_number, zeros_one}

-- the blocks of a chain as far as they are known: its entries, and whether it ends the chain
abbrev pub View : Type 0
View = List (Option (Block CatEntry))

-- blocks stand in a store at these numbers, each linked to the next or ending the chain, as far as they are known
abbrev pub IsSeen : ℕ → Store → List ℕ → View → Type 0
IsSeen per store [] [] = Unit {0}
IsSeen per store [] (o ∷ os) = ⊥
IsSeen per store (n ∷ ns) [] = ⊥
IsSeen per store (n ∷ ns) (None ∷ os) = IsSeen per store ns os
IsSeen per store (n ∷ ns) (Some b ∷ os) = (slice_get store n ≡ Some (Some (record { entries = b.entries; next = next_after per b.ends ns }))) × IsSeen per store ns os

-- Blocks of a chain that goes on from a place, as they are seen at these numbers.
pub record IsChainSeen (per : ℕ) (store : Store) (ns : List ℕ) (p : Place) (es : List CatEntry) (front : List CatEntry) : Type 0 where
  pub more : List (ℕ × List CatEntry)
  pub some : 1 ≤ length more
  pub links : Links per store p more
  pub holds : es ≡ joined (map (λ (b : ℕ × List CatEntry). b.1) more)
  pub numbers_are : of more ≡ take (length more) ns
  pub first : slice_get more 0 ≡ option_map (λ (n : ℕ). (n, front)) (slice_get ns 0)

-- the last block ends it
ended : (per : ℕ) (store : Store) (n : ℕ) (ns : List ℕ) (b : Block CatEntry) (os : View) (es : List CatEntry) (p : Place) → number_at per (length store) p ≡ Some n
    → slice_get store n ≡ Some (Some (record { entries = b.entries; next = next_after per b.ends ns })) → b.ends ≡ true → up_to_end (Some b ∷ os) ≡ Some es → IsChainSeen per store (n ∷ ns) p es b.entries
ended per store n ns b os es p here block last ends =
    let one : Some b.entries ≡ Some es = sym (ap (λ (t : Bool). if t then (Some b.entries) else (option_map (λ (fs : List CatEntry). b.entries ++ fs) (up_to_end os))) last) ∙ ends in
    let same : b.entries ≡ es = cc in
    record {
      more = (n, b.entries) ∷ [];
      some = omega arith;
      links = (here, no_place, block ∙ ap (λ (t : Bool). Some (Some (record { entries = b.entries; next = next_after per t ns }))) last, refl);
      holds = sym same ∙ sym (append-nil b.entries);
      numbers_are = refl;
      first = refl;
    }

-- one more block stands in front
one_more : (per : ℕ) (store : Store) (n m : ℕ) (ms : List ℕ) (b : Block CatEntry) (os : View) (es : List CatEntry) (p : Place) (front : List CatEntry) → number_at per (length store) p ≡ Some n
    → slice_get store n ≡ Some (Some (record { entries = b.entries; next = next_after per b.ends (m ∷ ms) })) → b.ends ≡ false → up_to_end (Some b ∷ os) ≡ Some es
    → ((fs : List CatEntry) → up_to_end os ≡ Some fs → IsChainSeen per store (m ∷ ms) (place_of per m) fs front) → IsChainSeen per store (n ∷ m ∷ ms) p es b.entries
one_more per store n m ms b os es p front here block goes ends later =
    by later (up_to_end os) refl (sym (ap (λ (t : Bool). if t then (Some b.entries) else (option_map (λ (fs : List CatEntry). b.entries ++ fs) (up_to_end os))) goes) ∙ ends)
  where
    on : (fs : List CatEntry) → IsChainSeen per store (m ∷ ms) (place_of per m) fs front → b.entries ++ fs ≡ es → IsChainSeen per store (n ∷ m ∷ ms) p es b.entries
    on fs rest same = record {
      more = (n, b.entries) ∷ rest.more;
      some = omega arith;
      links = (here, place_of per m, block ∙ ap (λ (t : Bool). Some (Some (record { entries = b.entries; next = next_after per t (m ∷ ms) }))) goes, rest.links);
      holds = sym same ∙ ap (λ (xs : List CatEntry). b.entries ++ xs) rest.holds;
      numbers_are = ap (λ (xs : List ℕ). n ∷ xs) rest.numbers_are;
      first = refl;
    }

    by : ((fs : List CatEntry) → up_to_end os ≡ Some fs → IsChainSeen per store (m ∷ ms) (place_of per m) fs front) → (o : Option (List CatEntry)) → up_to_end os ≡ o
        → option_map (λ (fs : List CatEntry). b.entries ++ fs) (up_to_end os) ≡ Some es → IsChainSeen per store (n ∷ m ∷ ms) p es b.entries
    by rest None e f = let none : None ≡ Some es = sym (ap (option_map (λ (fs : List CatEntry). b.entries ++ fs)) e) ∙ f in cc
    by rest (Some fs) e f =
        let one : Some (b.entries ++ fs) ≡ Some es = sym (ap (option_map (λ (gs : List CatEntry). b.entries ++ gs)) e) ∙ f in
        let same : b.entries ++ fs ≡ es = cc in
        on fs (rest fs e) same

-- a block that ends no chain, where no block is known after it
not_ended : (b : Block CatEntry) (os : View) (es : List CatEntry) → b.ends ≡ false → up_to_end os ≡ None → up_to_end (Some b ∷ os) ≡ Some es → ⊥
not_ended b os es goes unknown ends =
    let none : None ≡ Some es =
    sym (ap (λ (t : Bool). if t then (Some b.entries) else (option_map (λ (fs : List CatEntry). b.entries ++ fs) (up_to_end os))) goes ∙ ap (option_map (λ (fs : List CatEntry). b.entries ++ fs)) unknown) ∙ ends in cc

-- what is seen up to the end is a chain
pub seen_chain : (per : ℕ) (store : Store) (n : ℕ) (ns : List ℕ) (b : Block CatEntry) (os : View) (es : List CatEntry) (p : Place) → 1 ≤ per → number_at per (length store) p ≡ Some n
    → AllByRecursion (λ (k : ℕ). k < length store) ns → IsSeen per store (n ∷ ns) (Some b ∷ os) → up_to_end (Some b ∷ os) ≡ Some es → IsChainSeen per store (n ∷ ns) p es b.entries
seen_chain per store n ns b [] es p some here below seen ends = by (cases_Bool b.ends)
  where
    by : (b.ends ≡ true) ⊎ (b.ends ≡ false) → IsChainSeen per store (n ∷ ns) p es b.entries
    by (inl last) = ended per store n ns b [] es p here seen.0 last ends
    by (inr goes) = absurd (not_ended b [] es goes refl ends)
seen_chain per store n [] b (o ∷ os) es p some here below seen ends = absurd seen.1
seen_chain per store n (m ∷ ms) b (None ∷ os) es p some here below seen ends = by (cases_Bool b.ends)
  where
    by : (b.ends ≡ true) ⊎ (b.ends ≡ false) → IsChainSeen per store (n ∷ m ∷ ms) p es b.entries
    by (inl last) = ended per store n (m ∷ ms) b (None ∷ os) es p here seen.0 last ends
    by (inr goes) = absurd (not_ended b (None ∷ os) es goes refl ends)
seen_chain per store n (m ∷ ms) b (Some c ∷ os) es p some here below seen ends =
    by (λ fs f. seen_chain per store m ms c os fs (place_of per m) some (number_place per (length store) m some below.0) below.1 seen.1 f) (cases_Bool b.ends)
  where
    by : ((fs : List CatEntry) → up_to_end (Some c ∷ os) ≡ Some fs → IsChainSeen per store (m ∷ ms) (place_of per m) fs c.entries) → (b.ends ≡ true) ⊎ (b.ends ≡ false) → IsChainSeen per store (n ∷ m ∷ ms) p es b.entries
    by later (inl last) = ended per store n (m ∷ ms) b (Some c ∷ os) es p here seen.0 last ends
    by later (inr goes) = one_more per store n m ms b (Some c ∷ os) es p c.entries here seen.0 goes ends later

-- ---- what is seen of a chain that stands there

nothing : (per : ℕ) (store : Store) (fresh : List ℕ) → IsSeen per store fresh (replicate (length fresh) None)
nothing per store [] = tt
nothing per store (n ∷ ns) = nothing per store ns

pub links_seen : (per : ℕ) (store : Store) (fresh : List ℕ) (p : Place) (bs : List (ℕ × List CatEntry)) → Links per store p bs → IsSeen per store (of bs ++ fresh) (stored (map (λ (b : ℕ × List CatEntry). b.1) bs) ++ replicate (length fresh) None)
links_seen per store fresh p [] links = nothing per store fresh
links_seen per store fresh p (b ∷ []) links = (links.2 ∙ ap (λ (q : Place). Some (Some (record { entries = b.1; next = q }))) (zeros_one links.1 links.3), nothing per store fresh)
links_seen per store fresh p (b ∷ c ∷ cs) links = (
  links.2 ∙ ap (λ (q : Place). Some (Some (record { entries = b.1; next = q }))) (place_number per (length store) c.0 links.1 links.3.0),
  links_seen per store fresh links.1 (c ∷ cs) links.3,
)

-- ---- what a write leaves of it

set_here : {X : Type 0} (xs : List X) (i : ℕ) (x : X) → i < length xs → slice_get (set xs i x) i ≡ Some x
set_here [] i x low = absurd (omega (arith, low))
set_here (y ∷ ys) zero x low = refl
set_here (y ∷ ys) (suc i) x low = set_here ys i x (omega (arith, low))

pub set_other : {X : Type 0} (xs : List X) (i j : ℕ) (x : X) → (i ≡ j → ⊥) → slice_get (set xs i x) j ≡ slice_get xs j
set_other [] i j x other = refl
set_other (y ∷ ys) zero zero x other = absurd (other refl)
set_other (y ∷ ys) zero (suc j) x other = refl
set_other (y ∷ ys) (suc i) zero x other = refl
set_other (y ∷ ys) (suc i) (suc j) x other = set_other ys i j x (λ e. other (ap suc e))

not_later : (j m : ℕ) (ms : List ℕ) → is_among j (m ∷ ms) ≡ false → is_among j ms ≡ false
not_later j m ms none = not_among j ms (λ is. true≢false (sym (among_later j m ms is) ∙ none))

not_first : (j m : ℕ) (ms : List ℕ) → is_among j (m ∷ ms) ≡ false → j ≡ m → ⊥
not_first j m ms none e = true≢false (sym (subst (λ (k : ℕ). is_among k (m ∷ ms) ≡ true) (sym e) (among_first m ms)) ∙ none)

-- numbers stay among which the one that is written isn't
pub seen_still : (per : ℕ) (store : Store) (k : ℕ) (x : Option CatBlock) (ns : List ℕ) (os : View) → is_among k ns ≡ false → IsSeen per store ns os → IsSeen per (set store k x) ns os
seen_still per store k x [] [] none seen = tt
seen_still per store k x [] (o ∷ os) none seen = seen
seen_still per store k x (n ∷ ns) [] none seen = seen
seen_still per store k x (n ∷ ns) (None ∷ os) none seen = seen_still per store k x ns os (not_later k n ns none) seen
seen_still per store k x (n ∷ ns) (Some b ∷ os) none seen = (
  set_other store k n x (not_first k n ns none) ∙ seen.0,
  seen_still per store k x ns os (not_later k n ns none) seen.1,
)

-- a block of a chain is written at its number, and seen there
pub write_seen : (per : ℕ) (store : Store) (ns r : List ℕ) (os : View) (i : ℕ) (b : Block CatEntry) → AreApart r ns → AllByRecursion (λ (k : ℕ). k < length store) ns → i < length ns → IsSeen per store ns os
    → IsSeen per (set store (slice_index ns i) (Some (record { entries = b.entries; next = next_after per b.ends (drop (suc i) ns) }))) ns (set os i (Some b))
write_seen per store [] r os i b apart below low seen = absurd (omega (arith, low))
write_seen per store (n ∷ ns) r [] i b apart below low seen = absurd seen
write_seen per store (n ∷ ns) r (o ∷ os) zero b apart below low seen = (
  set_here store n (Some (record { entries = b.entries; next = next_after per b.ends ns })) below.0,
  seen_still per store n (Some (record { entries = b.entries; next = next_after per b.ends ns })) ns os (apart_not n ns (n ∷ r) (among_first n r) apart.1) (rest o seen),
)
  where
    rest : (o : Option (Block CatEntry)) → IsSeen per store (n ∷ ns) (o ∷ os) → IsSeen per store ns os
    rest None s = s
    rest (Some c) s = s.1
write_seen per store (n ∷ ns) r (None ∷ os) (suc i) b apart below low seen = write_seen per store ns (n ∷ r) os i b apart.1 below.1 (omega (arith, low)) seen
write_seen per store (n ∷ ns) r (Some c ∷ os) (suc i) b apart below low seen = (
  set_other store (slice_index ns i) n (Some (record { entries = b.entries; next = next_after per b.ends (drop (suc i) ns) })) (λ e. differ ns i n (apart_not n ns (n ∷ r) (among_first n r) apart.1) (omega (arith, low)) e) ∙ seen.0,
  write_seen per store ns (n ∷ r) os i b apart.1 below.1 (omega (arith, low)) seen.1,
)
  where
    differ : (ms : List ℕ) (j k : ℕ) → is_among k ms ≡ false → j < length ms → slice_index ms j ≡ k → ⊥
    differ [] j k none low_j e = omega (arith, low_j)
    differ (m ∷ ms) zero k none low_j e = not_first k m ms none (sym e)
    differ (m ∷ ms) (suc j) k none low_j e = differ ms j k (not_later k m ms none) (omega (arith, low_j)) e
