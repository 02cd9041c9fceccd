-- The slots that a volume needs are there, so a VTOC that was cleared has room for the chain.
use Rattle.std.proofs.Common.{◌≡◌, ◌+◌, ◌≤◌, ◌<◌, ℕ, zero, suc, Bool, true, false, cond, ◌||◌, List, [], ◌∷◌, length, drop, map, Some, Ok, refl, sym, ap, ◌∙◌, arith}
use Rattle.std.specs.Prelude.{count_by, filter, slice_get}
use Rattle.std.specs.List.{AllByRecursion, IsDistinct, enumerate_from, filter_map}
use Rattle.std.specs.Set.{is_member}
use Rattle.std.specs.Str.{bytes_eq}
use Rattle.std.proofs.lemmas.Cmp.{nat_list_eq_equiv}
use Rattle.std.proofs.lemmas.List.{length-map}
use Rattle.std.proofs.lemmas.List.Sums.{length-filter}
use Rattle.std.proofs.lemmas.Map.Made.{length-le_from_is_member}
use Rattle.std.proofs.lemmas.Slice.Eq.{bytes_eq-Decides}
use Rattle.dscb_codec.specs.declared.Dscb.{Dscb}
use Rattle.dscb_codec.specs.declared.Dscb.TheVariants as formats
use Rattle.dscb_codec.specs.declared.F1.{F1}
use Rattle.pack_spec.specs.Rules.{is_chained, is_f3, is_f4, set_in}
use Rattle.free_rebuild.specs.Chain.{is_open}
use Rattle.free_rebuild.specs.Clearing.{is_pointed}
use Rattle.free_rebuild.proofs.ChainItems.{count_more}
use Rattle.free_rebuild.proofs.RoomLemmas.{open_from}

-- the data sets in slots
abbrev pub sets_in : List Dscb → List F1
sets_in ds = filter_map (λ d. set_in (Ok d)) ds

-- how many DSCBs are of format 3, and of format 4
abbrev pub thirds : List Dscb → ℕ
thirds ds = count_by (λ d. is_f3 (Ok d)) ds

abbrev pub fours : List Dscb → ℕ
fours ds = count_by (λ d. is_f4 (Ok d)) ds

-- each DSCB is of one kind
pub kinds : (ds : List Dscb) → length ds ≡ length (sets_in ds) + thirds ds + count_by is_open ds + fours ds
kinds [] = refl
kinds (d ∷ ds) =
    let rest = kinds ds in
    let three = count_more (λ x. is_f3 (Ok x)) d ds in
    let opened = count_more is_open d ds in
    let four = count_more (λ x. is_f4 (Ok x)) d ds in
    by d rest three opened four
  where
    by : (d : Dscb) → length ds ≡ length (sets_in ds) + thirds ds + count_by is_open ds + fours ds
        → thirds (d ∷ ds) ≡ cond (is_f3 (Ok d)) 1 0 + thirds ds
        → count_by is_open (d ∷ ds) ≡ cond (is_open d) 1 0 + count_by is_open ds
        → fours (d ∷ ds) ≡ cond (is_f4 (Ok d)) 1 0 + fours ds
        → length (d ∷ ds) ≡ length (sets_in (d ∷ ds)) + thirds (d ∷ ds) + count_by is_open (d ∷ ds) + fours (d ∷ ds)
    by formats.F0 rest three opened four = omega (arith, rest, three, opened, four)
    by (formats.F1 f) rest three opened four = omega (arith, rest, three, opened, four)
    by (formats.F3 f) rest three opened four = omega (arith, rest, three, opened, four)
    by (formats.F4 f) rest three opened four = omega (arith, rest, three, opened, four)
    by (formats.F5 f) rest three opened four = omega (arith, rest, three, opened, four)

none_pass : {X : Type 0} (p : X → Bool) (xs : List X) → ((k : ℕ) (x : X) → slice_get xs k ≡ Some x → p x ≡ false) → count_by p xs ≡ 0
none_pass p [] none = refl
none_pass p (x ∷ xs) none = count_more p x xs ∙ ap (λ (t : Bool). cond t 1 0 + count_by p xs) (none 0 x refl) ∙ omega (arith, none_pass p xs (λ k y is. none (suc k) y is))

-- one of format 4 at most, where none stands after slot 0
pub fours_few : (ds : List Dscb) → ((k : ℕ) (d : Dscb) → slice_get ds (suc k) ≡ Some d → is_f4 (Ok d) ≡ false) → fours ds ≤ 1
fours_few [] none = omega arith
fours_few (x ∷ ds) none =
    let rest = none_pass (λ d. is_f4 (Ok d)) ds none in
    let one : (t : Bool) → cond t 1 0 ≤ 1 = λ t. elim t as (λ b. cond b 1 0 ≤ 1) [ true ↦ omega arith | false ↦ omega arith ] in
    omega (arith, count_more (λ d. is_f4 (Ok d)) x ds, rest, one (is_f4 (Ok x)))

-- open slots after slot 1, where slot 0 isn't open and slot 1 is
pub opens_behind : (ds : List Dscb) (a b : Dscb) → slice_get ds 0 ≡ Some a → is_open a ≡ false → slice_get ds 1 ≡ Some b → is_open b ≡ true → count_by is_open ds ≡ 1 + open_from ds 2
opens_behind [] a b one closed two opened = cc
opens_behind (x ∷ []) a b one closed two opened = cc
opens_behind (x ∷ y ∷ ds) a b one closed two opened =
    let first : is_open x ≡ false = let same : x ≡ a = cc in ap is_open same ∙ closed in
    let second : is_open y ≡ true = let same : y ≡ b = cc in ap is_open same ∙ opened in
    count_more is_open x (y ∷ ds)
    ∙ ap (λ (t : Bool). cond t 1 0 + count_by is_open (y ∷ ds)) first
    ∙ omega (arith, count_more is_open y ds, counted (is_open y) second, behind ds)
  where
    counted : (t : Bool) → t ≡ true → ◌≡◌ {A = ℕ} (cond t 1 0) 1
    counted true e = refl
    counted false e = cc

    behind : (l : List Dscb) → count_by is_open (drop 0 l) ≡ count_by is_open l
    behind [] = refl
    behind (z ∷ l) = refl

-- the addresses to which data sets count a pointer
abbrev pub pointers : List Dscb → List (List ℕ)
pointers ds = map (λ (f : F1). f.pointer) (filter is_chained (sets_in ds))

pub pointed_member : (ds : List Dscb) (a : List ℕ) → is_pointed ds a ≡ is_member bytes_eq (pointers ds) a
pointed_member [] a = refl
pointed_member (d ∷ ds) a = by d (pointed_member ds a)
  where
    by : (d : Dscb) → is_pointed ds a ≡ is_member bytes_eq (pointers ds) a → is_pointed (d ∷ ds) a ≡ is_member bytes_eq (pointers (d ∷ ds)) a
    by formats.F0 rest = rest
    by (formats.F1 f) rest = by_chained (is_chained f) refl
      where
        by_chained : (t : Bool) → is_chained f ≡ t → is_pointed (formats.F1 f ∷ ds) a ≡ is_member bytes_eq (pointers (formats.F1 f ∷ ds)) a
        by_chained true test = rw test (ap (λ (t : Bool). bytes_eq a f.pointer || t) rest)
        by_chained false test = rw test rest
    by (formats.F3 f) rest = rest
    by (formats.F4 f) rest = rest
    by (formats.F5 f) rest = rest

-- the addresses of the slots from a number on that hold a format 3
abbrev pub third_addresses : (ℕ → List ℕ) → ℕ → List Dscb → List (List ℕ)
third_addresses at n ds = map (λ p. at p.0) (filter (λ p. is_f3 (Ok p.1)) (enumerate_from n ds))

thirds_many : (at : ℕ → List ℕ) (n : ℕ) (ds : List Dscb) → length (third_addresses at n ds) ≡ thirds ds
thirds_many at n [] = refl
thirds_many at n (d ∷ ds) = by_test (is_f3 (Ok d)) refl (thirds_many at (n + 1) ds) (count_more (λ x. is_f3 (Ok x)) d ds)
  where
    behind : List (ℕ × Dscb)
    behind = filter (λ (p : ℕ × Dscb). is_f3 (Ok p.1)) (enumerate_from (n + 1) ds)

    here : (t : Bool) → is_f3 (Ok d) ≡ t → length (third_addresses at n (d ∷ ds)) ≡ length (map (λ (p : ℕ × Dscb). at p.0) (cond t ((n, d) ∷ behind) behind))
    here t test = ap (λ (b : Bool). length (map (λ (p : ℕ × Dscb). at p.0) (cond b ((n, d) ∷ behind) behind))) test

    by_test : (t : Bool) → is_f3 (Ok d) ≡ t → length (third_addresses at (n + 1) ds) ≡ thirds ds → thirds (d ∷ ds) ≡ cond (is_f3 (Ok d)) 1 0 + thirds ds → length (third_addresses at n (d ∷ ds)) ≡ thirds (d ∷ ds)
    by_test true test rest more = here true test ∙ ap suc rest ∙ sym (more ∙ ap (λ (t : Bool). cond t 1 0 + thirds ds) test ∙ omega arith)
    by_test false test rest more = here false test ∙ rest ∙ sym (more ∙ ap (λ (t : Bool). cond t 1 0 + thirds ds) test ∙ omega arith)

-- no two slots below a number have one address
abbrev pub AreNamedApart : (ℕ → List ℕ) → ℕ → Type 0
AreNamedApart at limit = (i j : ℕ) → i < limit → j < limit → at i ≡ at j → i ≡ j

thirds_apart : (at : ℕ → List ℕ) (limit n : ℕ) (ds : List Dscb) → AreNamedApart at limit → n + length ds ≤ limit → IsDistinct bytes_eq (third_addresses at n ds)
unfolding IsDistinct
thirds_apart at limit n [] apart low = tt
thirds_apart at limit n (d ∷ ds) apart low = by_test (is_f3 (Ok d)) refl (thirds_apart at limit (n + 1) ds apart (omega (arith, low)))
  where
    differs : (m : ℕ) → n < m → m < limit → bytes_eq (at n) (at m) ≡ false
    differs m behind below = by_equal (bytes_eq (at n) (at m)) refl
      where
        by_equal : (t : Bool) → bytes_eq (at n) (at m) ≡ t → bytes_eq (at n) (at m) ≡ false
        by_equal true test = absurd (let same = apart n m (omega (arith, behind, below)) below ((bytes_eq-Decides (at n) (at m)).0 test) in omega (arith, same, behind))
        by_equal false test = test

    others : (m : ℕ) (es : List Dscb) → n < m → m + length es ≤ limit → AllByRecursion (λ y. bytes_eq (at n) y ≡ false) (third_addresses at m es)
    others m [] behind below = tt
    others m (e ∷ es) behind below = by_third (is_f3 (Ok e)) refl (others (m + 1) es (omega (arith, behind)) (omega (arith, below)))
      where
        by_third : (t : Bool) → is_f3 (Ok e) ≡ t → AllByRecursion (λ y. bytes_eq (at n) y ≡ false) (third_addresses at (m + 1) es) → AllByRecursion (λ y. bytes_eq (at n) y ≡ false) (third_addresses at m (e ∷ es))
        by_third true test rest = rw test (differs m behind (omega (arith, below)), rest)
        by_third false test rest = rw test rest

    by_test : (t : Bool) → is_f3 (Ok d) ≡ t → IsDistinct bytes_eq (third_addresses at (n + 1) ds) → IsDistinct bytes_eq (third_addresses at n (d ∷ ds))
    by_test true test rest = rw test (others (n + 1) ds (omega arith) (omega (arith, low)), rest)
    by_test false test rest = rw test rest

-- such an address is that of a slot
abbrev StandsThird : (ℕ → List ℕ) → ℕ → List Dscb → List ℕ → Type 0
StandsThird at n ds a = (k : ℕ) × (d : Dscb) × (slice_get ds k ≡ Some d) × (is_f3 (Ok d) ≡ true) × (a ≡ at (n + k))

third_stands : (at : ℕ → List ℕ) (n : ℕ) (ds : List Dscb) (a : List ℕ) → is_member bytes_eq (third_addresses at n ds) a ≡ true → StandsThird at n ds a
third_stands at n [] a is = cc
third_stands at n (d ∷ ds) a is = by_test (is_f3 (Ok d)) refl is (λ more. third_stands at (n + 1) ds a more)
  where
    later : StandsThird at (n + 1) ds a → StandsThird at n (d ∷ ds) a
    later found = let e : n + 1 + found.0 ≡ n + suc found.0 = omega arith in (suc found.0, found.1, found.2, found.3, found.4 ∙ ap at e)

    by_test : (t : Bool) → is_f3 (Ok d) ≡ t → is_member bytes_eq (third_addresses at n (d ∷ ds)) a ≡ true → (is_member bytes_eq (third_addresses at (n + 1) ds) a ≡ true → StandsThird at (n + 1) ds a) → StandsThird at n (d ∷ ds) a
    by_test true test is more = by_first (bytes_eq a (at n)) refl (rw test at is)
      where
        by_first : (t : Bool) → bytes_eq a (at n) ≡ t → (bytes_eq a (at n) || is_member bytes_eq (third_addresses at (n + 1) ds) a) ≡ true → StandsThird at n (d ∷ ds) a
        by_first true first any = let e : n ≡ n + 0 = omega arith in (zero, d, refl, test, (bytes_eq-Decides a (at n)).0 first ∙ ap at e)
        by_first false first any = later (more (sym (ap (λ (t : Bool). t || is_member bytes_eq (third_addresses at (n + 1) ds) a) first) ∙ any))
    by_test false test is more = later (more (rw test at is))

-- format 3 DSCBs at different addresses, to each of which a data set leads, are at most as many as these
pub thirds_led : (at : ℕ → List ℕ) (ds : List Dscb) → AreNamedApart at (length ds) → ((k : ℕ) (d : Dscb) → slice_get ds k ≡ Some d → is_f3 (Ok d) ≡ true → is_pointed ds (at k) ≡ true) → thirds ds ≤ count_by is_chained (sets_in ds)
thirds_led at ds apart led =
    let low : 0 + length ds ≤ length ds = omega arith in
    let few = length-le_from_is_member nat_list_eq_equiv (third_addresses at 0 ds) (pointers ds) (thirds_apart at (length ds) 0 ds apart low) (λ a is.
    let found = third_stands at 0 ds a is in
    let e : 0 + found.0 ≡ found.0 = omega arith in
    sym (pointed_member ds a) ∙ ap (is_pointed ds) (found.4 ∙ ap at e) ∙ led found.0 found.1 found.2 found.3) in
    omega (arith, few, thirds_many at 0 ds, length-map (filter is_chained (sets_in ds)) (λ (f : F1). f.pointer), length-filter is_chained (sets_in ds))
