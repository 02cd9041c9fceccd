-- What a group's order says of its generations.
use Rattle.std.proofs.Common.{◌≡◌, ℕ, zero, suc, pos, ◌+◌, ◌-◌, ◌<◌, ◌≤◌, max, min, ◌==◌, nat_le, nat_lt, add-one, zero-add, if◌then◌else◌, Bool, true, false, cond, List, [], ◌∷◌, length, take, drop, fold, count_by, slice_get, Option, Some, None, IfSome, refl, sym, ap, ◌∙◌, arith}
use Rattle.std.specs.List.{AllByRecursion}
use Rattle.std.specs.Ordering.{is_lt, nat_cmp, ordering_reverse}
use Rattle.std.specs.declared.cmp.Ordering.{Ordering}
use Rattle.std.specs.declared.cmp.Ordering.TheVariants.{Less, Equal, Greater}
use Rattle.std.proofs.lemmas.Bool.{leb-true}
use Rattle.std.proofs.lemmas.Bool.{lt-ltb}
use Rattle.std.specs.Cmp.Lexicographic.{slice_cmp}
use Rattle.std.proofs.lemmas.Cmp.{nat_list_cmp_total, tied_itself}
use Rattle.std.proofs.lemmas.List.{length-drop, take_min}
use Rattle.std.proofs.lemmas.List.Sums.{sum_by-cons}
use Rattle.std.proofs.lemmas.Bool.Decides.{nat_tests}
use Rattle.ebcdic_names.specs.declared.names.Name8.{Name8}
use Rattle.vol_model.specs.Trees.{is_generation, stored_generation}
use Rattle.gen_groups.specs.Generations.{AreGenerations, generation, highest, is_newer, leaving, number_of, numbered, relative}
use Rattle.gen_groups.proofs.Digits.{higher_first, is_generation-numbered, no_lower, number_in-numbered}

-- what holds of all
pub all_hold : {X : Type 0} (P : X → Type 0) → ((x : X) → P x) → (xs : List X) → AllByRecursion P xs
all_hold P h [] = tt
all_hold P h (x ∷ xs) = (h x, all_hold P h xs)

pub all_imply : {X : Type 0} (P Q : X → Type 0) → ((x : X) → P x → Q x) → (xs : List X) → AllByRecursion P xs → AllByRecursion Q xs
all_imply P Q h [] all = tt
all_imply P Q h (x ∷ xs) all = (h x all.0, all_imply P Q h xs all.1)

-- a newer generation has no lower number
number_falls : (g h : Name8) → is_generation g.bytes ≡ true → is_generation h.bytes ≡ true → is_newer g h ≡ true → number_of h ≤ number_of g
unfolding is_newer number_of
number_falls g h p q n = no_lower g.bytes h.bytes p q n

-- no generation has a higher number than the newest
NoneAbove : ℕ → List Name8 → Type 0
NoneAbove n gens = AllByRecursion (λ (h : Name8). number_of h ≤ n) gens

none_above : (g : Name8) (gs : List Name8) → is_generation g.bytes ≡ true → AllByRecursion (λ (h : Name8). is_newer g h ≡ true) gs → AreGenerations gs → NoneAbove (number_of g) gs
unfolding NoneAbove
none_above g [] p newer are = tt
none_above g (h ∷ hs) p newer are = (number_falls g h p are.0 newer.0, none_above g hs p newer.1 are.2)

max_left : (m n : ℕ) → n ≤ m → max m n ≡ m
max_left m n h = omega arith

max_zero : (n : ℕ) → max 0 n ≡ n
max_zero n = omega arith

highest_stays : (n : ℕ) (gens : List Name8) → NoneAbove n gens → fold (λ m (h : Name8). max m (number_of h)) n gens ≡ n
unfolding NoneAbove
highest_stays n [] none = refl
highest_stays n (h ∷ hs) none = ap (λ m. fold (λ k (x : Name8). max k (number_of x)) m hs) (max_left n (number_of h) none.0) ∙ highest_stays n hs none.1

pub newest_is_highest : (g : Name8) (gs : List Name8) → AreGenerations (g ∷ gs) → highest (g ∷ gs) ≡ number_of g
unfolding highest
newest_is_highest g gs are =
    ap (λ m. fold (λ k (x : Name8). max k (number_of x)) m gs) (max_zero (number_of g)) ∙ highest_stays (number_of g) gs (none_above g gs are.0 are.1 are.2)

none_above_highest : (gens : List Name8) → AreGenerations gens → NoneAbove (highest gens) gens
unfolding NoneAbove
none_above_highest [] are = tt
none_above_highest (g ∷ gs) are =
    let e = newest_is_highest g gs are in
    let least : number_of g ≤ highest (g ∷ gs) = rw e (omega arith) in
    (least, all_imply (λ (h : Name8). number_of h ≤ number_of g) (λ (h : Name8). number_of h ≤ highest (g ∷ gs)) (λ h le. omega arith) gs (none_above g gs are.0 are.1 are.2))

newer_by : (m : ℕ) (h : Name8) → m ≤ 9999 → is_generation h.bytes ≡ true → number_of h < m → is_newer (numbered m) h ≡ true
unfolding is_newer number_of
newer_by m h small p lt = higher_first (numbered m).bytes h.bytes (is_generation-numbered m) p (rw (number_in-numbered m small) lt)

-- a generation of a number above those of a group is newer
newer_than_all : (m : ℕ) (gens : List Name8) → m ≤ 9999 → AreGenerations gens → AllByRecursion (λ (h : Name8). number_of h < m) gens → AllByRecursion (λ (h : Name8). is_newer (numbered m) h ≡ true) gens
newer_than_all m [] small are below = tt
newer_than_all m (h ∷ hs) small are below = (newer_by m h small are.0 below.0, newer_than_all m hs small are.2 below.1)

if_generation : (P : Name8 → Type 0) (m : ℕ) (b : Bool) → b ≡ nat_le m 9999 → (m ≤ 9999 → P (numbered m)) → IfSome (if b then Some (numbered m) else None) P
if_generation P m true e h = h (leb-true m 9999 (sym e))
if_generation P m false e h = tt

if_true : (P : Name8 → Type 0) (b : Bool) (x y : Option Name8) → b ≡ true → IfSome x P → IfSome (if b then x else y) P
if_true P true x y e h = h
if_true P false x y e h = cc

pub next_is_newer : (gens : List Name8) (n : ℕ) → AreGenerations gens → 0 < n
    → IfSome (relative gens (pos n)) (λ (g : Name8). (is_generation g.bytes ≡ true) × AllByRecursion (λ (h : Name8). is_newer g h ≡ true) gens)
unfolding relative generation NoneAbove
next_is_newer gens n are lt =
    let below = all_imply (λ (h : Name8). number_of h ≤ highest gens) (λ (h : Name8). number_of h < highest gens + n) (λ h le. omega arith) gens (none_above_highest gens are) in
    if_true _ (nat_lt 0 n) _ _ (lt-ltb 0 n lt)
    (if_generation (λ (g : Name8). (is_generation g.bytes ≡ true) × AllByRecursion (λ (h : Name8). is_newer g h ≡ true) gens) (highest gens + n) (nat_le (highest gens + n) 9999) refl
    (λ small. (is_generation-numbered (highest gens + n), newer_than_all (highest gens + n) gens small are below)))

-- ---- the places of generations

newer_not_older : (g h : Name8) → is_newer g h ≡ true → is_newer h g ≡ false
unfolding is_newer
newer_not_older g h n =
    rw (nat_list_cmp_total.antisymm (stored_generation h.bytes) (stored_generation g.bytes))
    (reversed (slice_cmp nat_cmp (stored_generation g.bytes) (stored_generation h.bytes)) n)
  where
    reversed : (o : Ordering) → is_lt o ≡ true → is_lt (ordering_reverse o) ≡ false
    reversed Less e = refl
    reversed Equal e = cc
    reversed Greater e = cc

not_newer_itself : (g : Name8) → is_newer g g ≡ false
unfolding is_newer
not_newer_itself g = ap is_lt (tied_itself nat_list_cmp_total (stored_generation g.bytes))

count_none : (p : Name8 → Bool) (xs : List Name8) → AllByRecursion (λ x. p x ≡ false) xs → count_by p xs ≡ 0
count_none p [] none = refl
count_none p (x ∷ xs) none =
    sum_by-cons (λ y. cond (p y) 1 0) x xs ∙ ap (λ b. cond b 1 0 + count_by p xs) none.0 ∙ zero-add (count_by p xs) ∙ count_none p xs none.1

count_more : (p : Name8 → Bool) (x : Name8) (xs : List Name8) (k : ℕ) → p x ≡ true → count_by p xs ≡ k → count_by p (x ∷ xs) ≡ k + 1
count_more p x xs k passes e =
    let one = ap (λ b. cond b 1 0 + count_by p xs) passes in
    sum_by-cons (λ y. cond (p y) 1 0) x xs ∙ one ∙ omega arith

at_place : (P : Name8 → Type 0) (xs : List Name8) (k : ℕ) → AllByRecursion P xs → IfSome (slice_get xs k) P
at_place P [] k all = tt
at_place P (x ∷ xs) zero all = all.0
at_place P (x ∷ xs) (suc k) all = at_place P xs k all.1

both_give : (P Q R : Name8 → Type 0) (o : Option Name8) → ((x : Name8) → P x → Q x → R x) → IfSome o P → IfSome o Q → IfSome o R
both_give P Q R None h p q = tt
both_give P Q R (Some x) h p q = h x p q

-- as many are newer than a generation as stand before it
pub rank_is_place : (gens : List Name8) (k : ℕ) → AreGenerations gens → IfSome (slice_get gens k) (λ (g : Name8). count_by (λ (h : Name8). is_newer h g) gens ≡ k)
rank_is_place [] k are = tt
rank_is_place (x ∷ xs) zero are =
    count_none (λ (h : Name8). is_newer h x) (x ∷ xs) (not_newer_itself x, all_imply (λ (h : Name8). is_newer x h ≡ true) (λ (h : Name8). is_newer h x ≡ false) (λ h n. newer_not_older x h n) xs are.1)
rank_is_place (x ∷ xs) (suc k) are =
    both_give (λ (g : Name8). is_newer x g ≡ true) (λ (g : Name8). count_by (λ (h : Name8). is_newer h g) xs ≡ k) (λ (g : Name8). count_by (λ (h : Name8). is_newer h g) (x ∷ xs) ≡ suc k)
    (slice_get xs k) (λ g n e. count_more (λ (h : Name8). is_newer h g) x xs k n e ∙ add-one k) (at_place (λ (g : Name8). is_newer x g ≡ true) xs k are.1) (rank_is_place xs k are.2)

-- ---- what goes

-- each generation before a place is newer than each after it
newer_before : (gens : List Name8) (k : ℕ) → AreGenerations gens → AllByRecursion (λ (g : Name8). AllByRecursion (λ (h : Name8). is_newer g h ≡ true) (drop k gens)) (take k gens)
newer_before [] zero are = tt
newer_before [] (suc k) are = tt
newer_before (g ∷ gs) zero are = tt
newer_before (g ∷ gs) (suc k) are = (after k gs are.1, newer_before gs k are.2)
  where
    after : (k : ℕ) (gs : List Name8) → AllByRecursion (λ (h : Name8). is_newer g h ≡ true) gs → AllByRecursion (λ (h : Name8). is_newer g h ≡ true) (drop k gs)
    after zero gs all = all
    after (suc k) [] all = tt
    after (suc k) (h ∷ hs) all = after k hs all.1

-- the first items, by those that go
first_by_rest : (gens : List Name8) (k : ℕ) → take (length gens - length (drop k gens)) gens ≡ take k gens
first_by_rest gens k =
    let e : length gens - length (drop k gens) ≡ min k (length gens) = omega (arith, length-drop k gens) in
    ap (λ n. take n gens) e ∙ take_min k gens

OldestGoes : List Name8 → List Name8 → Type 0
OldestGoes gens gone = AllByRecursion (λ (g : Name8). AllByRecursion (λ (h : Name8). is_newer g h ≡ true) gone) (take (length gens - length gone) gens)

rest_goes : (gens : List Name8) (k : ℕ) → AreGenerations gens → OldestGoes gens (drop k gens)
unfolding OldestGoes
rest_goes gens k are = rw (first_by_rest gens k) (newer_before gens k are)

goes_by : (gens : List Name8) (k : ℕ) (a b c : Bool) → AreGenerations gens
    → OldestGoes gens (if a then [] else (if b then [] else (if c then gens else drop k gens)))
unfolding OldestGoes
goes_by gens k true b c are = all_hold (λ (g : Name8). Unit {0}) (λ g. tt) (take (length gens - 0) gens)
goes_by gens k false true c are = all_hold (λ (g : Name8). Unit {0}) (λ g. tt) (take (length gens - 0) gens)
goes_by gens k false false true are = rest_goes gens 0 are
goes_by gens k false false false are = rest_goes gens k are

pub oldest_go : (gens : List Name8) (limit : ℕ) (empty : Bool) → AreGenerations gens
    → AllByRecursion (λ (g : Name8). AllByRecursion (λ (h : Name8). is_newer g h ≡ true) (leaving gens limit empty)) (take (length gens - length (leaving gens limit empty)) gens)
unfolding leaving OldestGoes
oldest_go gens limit empty are = goes_by gens (limit - 1) (limit == 0) (length (drop (limit - 1) gens) == 0) empty are

pub room_is_made : (gens : List Name8) (limit : ℕ) (empty : Bool) → 0 < limit → length gens - length (leaving gens limit empty) + 1 ≤ limit
unfolding leaving
room_is_made gens limit empty lt = grind (arith, nat_tests, length-drop (limit - 1) gens)
