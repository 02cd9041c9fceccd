-- Where a way comes among the chains of a tree.
use Rattle.std.proofs.Common.{◌≡◌, ◌<◌, ◌≤◌, ℕ, zero, suc, Bool, true, false, List, [], ◌∷◌, length, map, take, drop, Some, refl, sym, ap, ◌∙◌, arith}
use Rattle.std.specs.Prelude.{slice_get, slice_index_or}
use Rattle.std.specs.List.{AllByRecursion}
use Rattle.std.specs.List.Sorted.{IsPartitionPoint, IsPartitionedBy}
use Rattle.std.proofs.lemmas.Bool.{true≢false}
use Rattle.std.proofs.lemmas.Cmp.{tied_itself}
use Rattle.std.specs.Ordering.{is_lt}
use Rattle.ebcdic_names.specs.declared.names.Name8.{Name8}
use Rattle.vol_model.specs.Trees.{compare_ways, is_before, way}
use Rattle.catalog_blocks.specs.declared.chains.Chain.{Chain}
use Rattle.catalog_laws.proofs.NodeOrders.{total}
use Rattle.catalog_plan.specs.declared.branch.Branch.{Branch}
use Rattle.catalog_plan.specs.Branches.{chains_of}
use Rattle.catalog_plan.specs.Orders.{AreRising, IsWayPlace}
use Rattle.catalog_plan.proofs.OrderedWays.{less}

-- ---- lists

within_first : {X Y : Type 0} (P : Y → Type 0) (f : X → Y) (xs : List X) (i : ℕ) → ((k : ℕ) (d : X) → k < i → P (f (slice_index_or xs k d))) → AllByRecursion P (map f (take i xs))
within_first P f [] zero all = tt
within_first P f [] (suc i) all = tt
within_first P f (x ∷ xs) zero all = tt
within_first P f (x ∷ xs) (suc i) all = (all 0 x (omega arith), within_first P f xs i (λ k d low. all (suc k) d (omega (arith, low))))

within_rest : {X Y : Type 0} (P : Y → Type 0) (f : X → Y) (xs : List X) (i : ℕ) → ((k : ℕ) (d : X) → i ≤ k → k < length xs → P (f (slice_index_or xs k d))) → AllByRecursion P (map f (drop i xs))
within_rest P f [] zero all = tt
within_rest P f [] (suc i) all = tt
within_rest P f (x ∷ xs) zero all = (all 0 x (omega arith) (omega arith), within_rest P f xs 0 (λ k d low high. all (suc k) d (omega arith) (omega (arith, high))))
within_rest P f (x ∷ xs) (suc i) all = within_rest P f xs i (λ k d low high. all (suc k) d (omega (arith, low)) (omega (arith, high)))

-- ---- chains

abbrev bytes_in : List Name8 → List (List ℕ)
bytes_in p = map (λ (n : Name8). n.bytes) p

pub before_trans : (p q r : List Name8) → is_before (way p) (way q) ≡ true → is_before (way q) (way r) ≡ true → is_before (way p) (way r) ≡ true
before_trans p q r e f = ap is_lt (total.trans (bytes_in p) (bytes_in q) (bytes_in r) (less (compare_ways (way p) (way q)) e) (less (compare_ways (way q) (way r)) f))

later : (P : Chain → Type 0) (bs : List Branch) (j : ℕ) (d : Branch) → AllByRecursion P (chains_of bs) → j < length bs → P (slice_index_or bs j d).chain
later P [] j d all low = absurd (omega (arith, low))
later P (b ∷ bs) zero d all low = all.0
later P (b ∷ bs) (suc j) d all low = later P bs j d all.1 (omega (arith, low))

-- no chain whose way stands before another's comes after one whose way doesn't
pub parted_ways : (bs : List Branch) (names : List Name8) → AreRising (chains_of bs) → IsPartitionedBy (λ (b : Branch). is_before (way b.chain.names) (way names)) bs
parted_ways [] names rise i j d low high is = absurd (omega (arith, high))
parted_ways (b ∷ bs) names rise zero zero d low high is = is
parted_ways (b ∷ bs) names rise zero (suc j) d low high is =
    before_trans b.chain.names (slice_index_or bs j d).chain.names names
    (later (λ (c : Chain). is_before (way b.chain.names) (way c.names) ≡ true) bs j d rise.0 (omega (arith, high))) is
parted_ways (b ∷ bs) names rise (suc i) zero d low high is = absurd (omega (arith, low))
parted_ways (b ∷ bs) names rise (suc i) (suc j) d low high is = parted_ways bs names rise.1 i j d (omega (arith, low)) (omega (arith, high)) is

pub place_found : (bs : List Branch) (names : List Name8) (k : ℕ) → IsPartitionPoint (λ (b : Branch). is_before (way b.chain.names) (way names) ≡ true) (λ (b : Branch). is_before (way b.chain.names) (way names) ≡ false) bs k → IsWayPlace bs names k
place_found bs names k point = record {
  before = within_first (λ (c : Chain). is_before (way c.names) (way names) ≡ true) (λ (b : Branch). b.chain) bs k (λ j d low. point.0 j d (omega arith) low);
  after = within_rest (λ (c : Chain). is_before (way c.names) (way names) ≡ false) (λ (b : Branch). b.chain) bs k (λ j d low high. point.1 j d low high);
}

-- ---- the chain at a way

never_self : (p : List Name8) → is_before (way p) (way p) ≡ false
never_self p = ap is_lt (tied_itself total (map (λ (n : Name8). n.bytes) p))

pub not_same : (p q : List Name8) → is_before (way p) (way q) ≡ true → p ≡ q → ⊥
not_same p q low same = true≢false (sym low ∙ ap (λ (ns : List Name8). is_before (way ns) (way q)) same ∙ never_self q)

all_before : (names : List Name8) (bs : List Branch) → AllByRecursion (λ (c : Chain). is_before (way c.names) (way names) ≡ true) (chains_of bs) → AllByRecursion (λ (c : Chain). c.names ≡ names → ⊥) (chains_of bs)
all_before names [] all = tt
all_before names (b ∷ bs) all = ((λ same. not_same b.chain.names names all.0 same), all_before names bs all.1)

-- of chains from a way's place on only the first can be the one
none_after : (names : List Name8) (bs : List Branch) → AreRising (chains_of bs) → AllByRecursion (λ (c : Chain). is_before (way c.names) (way names) ≡ false) (chains_of bs) → ((b : Branch) → slice_get bs 0 ≡ Some b → b.chain.names ≡ names → ⊥) → AllByRecursion (λ (c : Chain). c.names ≡ names → ⊥) (chains_of bs)
none_after names [] rise high other = tt
none_after names (b ∷ bs) rise high other = (other b refl, rest bs rise.0)
  where
    rest : (ds : List Branch) → AllByRecursion (λ (d : Chain). is_before (way b.chain.names) (way d.names) ≡ true) (chains_of ds) → AllByRecursion (λ (c : Chain). c.names ≡ names → ⊥) (chains_of ds)
    rest [] all = tt
    rest (d ∷ ds) all = ((λ same. true≢false (sym all.0 ∙ ap (λ (ns : List Name8). is_before (way b.chain.names) (way ns)) same ∙ high.0)), rest ds all.1)

rising_rest : (bs : List Branch) (k : ℕ) → AreRising (chains_of bs) → AreRising (chains_of (drop k bs))
rising_rest [] zero rise = rise
rising_rest [] (suc k) rise = tt
rising_rest (b ∷ bs) zero rise = rise
rising_rest (b ∷ bs) (suc k) rise = rising_rest bs k rise.1

both_parts : (P : Chain → Type 0) (bs : List Branch) (k : ℕ) → AllByRecursion P (chains_of (take k bs)) → AllByRecursion P (chains_of (drop k bs)) → AllByRecursion P (chains_of bs)
both_parts P [] zero first second = tt
both_parts P [] (suc k) first second = tt
both_parts P (b ∷ bs) zero first second = second
both_parts P (b ∷ bs) (suc k) first second = (first.0, both_parts P bs k first.1 second)

first_of : {X : Type 0} (xs : List X) (k : ℕ) → slice_get (drop k xs) 0 ≡ slice_get xs k
first_of [] zero = refl
first_of [] (suc k) = refl
first_of (x ∷ xs) zero = refl
first_of (x ∷ xs) (suc k) = first_of xs k

-- no chain is at a way where the one at its place isn't
pub none_at_place : (bs : List Branch) (names : List Name8) (k : ℕ) → AreRising (chains_of bs) → IsWayPlace bs names k → ((b : Branch) → slice_get bs k ≡ Some b → b.chain.names ≡ names → ⊥) → AllByRecursion (λ (c : Chain). c.names ≡ names → ⊥) (chains_of bs)
none_at_place bs names k rise place other =
    both_parts (λ (c : Chain). c.names ≡ names → ⊥) bs k (all_before names (take k bs) place.before)
    (none_after names (drop k bs) (rising_rest bs k rise) place.after (λ b at. other b (sym (first_of bs k) ∙ at)))
