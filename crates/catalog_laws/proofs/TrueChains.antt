-- What stands in a chain of a store whose blocks were read from bytes: the control entry, and entries whose names rise.
use Rattle.std.proofs.Common.{◌≡◌, ◌-◌, ◌≤◌, ◌<◌, ℕ, zero, suc, Bool, true, false, cond, List, [], ◌∷◌, ◌++◌, length, map, drop, Option, Some, refl, sym, ap, ap₂, subst, ◌∙◌, arith}
use Rattle.std.specs.Prelude.{◌==◌, ◌||◌, not, nat_le, slice_get}
use Rattle.std.specs.List.{AllByRecursion, list_all}
use Rattle.std.specs.Int.{w64, from_be_bytes}
use Rattle.std.specs.Str.{bytes_eq}
use Rattle.std.proofs.lemmas.Bool.{and_parts, eqb-true, leb-true}
use Rattle.std.proofs.lemmas.Slice.Eq.{bytes_eq-Decides}
use Rattle.chain_spec.specs.Cut.{AllFit}
use Rattle.chain_spec.specs.Kept.{RisesFrom, joined, kept, kept_from}
use Rattle.chain_spec.proofs.KeptLemmas.{keeps, kept_rises}
use Rattle.ebcdic_names.specs.declared.names.Name8.{Name8}
use Rattle.vol_model.specs.declared.contents.Place.{Place}
use Rattle.vol_model.specs.Lawful.{control_name}
use Rattle.vol_model.specs.Trees.{is_digit, is_generation, stored_generation}
use Rattle.catalog_blocks.specs.declared.blocks.CatBlock.{CatBlock}
use Rattle.catalog_blocks.specs.declared.blocks.CatEntry.{CatEntry}
use Rattle.catalog_blocks.specs.Blocks.{AreForBlock, HasName, cat_size, name_number}
use Rattle.catalog_blocks.specs.declared.chains.Level.{Level}
use Rattle.catalog_blocks.specs.declared.chains.Chain.{Chain}
use Rattle.catalog_blocks.specs.declared.chains.Lead.{Lead}
use Rattle.catalog_blocks.specs.Trees.{Store, chain_to, control_length, entries_of, fits_group, is_control, is_group, name_in}
use Rattle.catalog_blocks.specs.declared.chains.Level.TheVariants.{Root, Plain, Generation}
use Rattle.catalog_laws.specs.Forests.{Links, StandsAt, SuitFrom}
use Rattle.catalog_laws.specs.Nodes.{AreSound, IsSound, IsStored, IsTrueChain}
use Rattle.catalog_laws.specs.Writes.{fit, lists_of}
use Rattle.catalog_laws.proofs.SuitedBlocks.{entries_by, suit_fits}

-- ---- the blocks of a chain

at_number : (store : Store) (k : ℕ) (o : Option CatBlock) → AreSound store → slice_get store k ≡ Some o → IsSound o
at_number [] k o sound is = cc
at_number (x ∷ xs) zero o sound is = let same : x ≡ o = cc in subst IsSound same sound.0
at_number (x ∷ xs) (suc k) o sound is = at_number xs k o sound.1 is

-- the entries of a block can stand in one
abbrev IsSoundList : List CatEntry → Type 0
IsSoundList es = AreForBlock es × AllByRecursion HasName es

all_sound : (per : ℕ) (store : Store) (p : Place) (bs : List (ℕ × List CatEntry)) → AreSound store → Links per store p bs → AllByRecursion (λ (b : ℕ × List CatEntry). IsSoundList b.1) bs
all_sound per store p [] sound links = tt
all_sound per store p (b ∷ bs) sound links = (at_number store b.0 (Some (record { entries = b.1; next = links.1 })) sound links.2, all_sound per store links.1 bs sound links.3)

all_fit : (b : ℕ × List CatEntry) (bs : List (ℕ × List CatEntry)) → AllByRecursion (λ (x : ℕ × List CatEntry). IsSoundList x.1) (b ∷ bs) → AllFit cat_size 242 0 (map (λ (x : ℕ × List CatEntry). x.1) (b ∷ bs))
all_fit b [] all = let one = all.0.0.fit in omega (arith, one)
all_fit b (d ∷ ds) all = (all.0.0.fit, all_fit d ds all.1)

joined_all : (xs ys : List CatEntry) → AllByRecursion HasName xs → AllByRecursion HasName ys → AllByRecursion HasName (xs ++ ys)
joined_all [] ys first second = second
joined_all (x ∷ xs) ys first second = (first.0, joined_all xs ys first.1 second)

all_named : (bs : List (ℕ × List CatEntry)) → AllByRecursion (λ (x : ℕ × List CatEntry). IsSoundList x.1) bs → AllByRecursion HasName (joined (map (λ (x : ℕ × List CatEntry). x.1) bs))
all_named [] all = tt
all_named (b ∷ bs) all = joined_all b.1 (joined (map (λ (x : ℕ × List CatEntry). x.1) bs)) all.0.1 (all_named bs all.1)

all_kept : (P : CatEntry → Type 0) (t : ℕ) (es : List CatEntry) → AllByRecursion P es → AllByRecursion P (kept_from name_number t es)
all_kept P t [] all = tt
all_kept P t (e ∷ es) all = by (nat_le t (name_number e)) (all_kept P (suc (name_number e)) es all.1) (all_kept P t es all.1)
  where
    by : (b : Bool) → AllByRecursion P (kept_from name_number (suc (name_number e)) es) → AllByRecursion P (kept_from name_number t es)
        → AllByRecursion P (cond b (e ∷ kept_from name_number (suc (name_number e)) es) (kept_from name_number t es))
    by true with_it without = (all.0, with_it)
    by false with_it without = without

-- ---- its entries

-- names after that of the control entry are those of generations, where they fit a group
pub generations : (t : ℕ) (es : List CatEntry) → 2 ≤ t → RisesFrom name_number t es → list_all fits_group es ≡ true → AllByRecursion IsStored es
generations t [] low rises fits = tt
generations t (e ∷ es) low rises fits =
    let parts = and_parts (fits_group e) (list_all fits_group es) fits in
    (by (bytes_eq e.name.bytes control_name) refl parts.0, generations (suc (name_number e)) es (omega (arith, low, rises.0)) rises.1 parts.1)
  where
    by : (b : Bool) → bytes_eq e.name.bytes control_name ≡ b → (b || is_generation (stored_generation e.name.bytes)) ≡ true → IsStored e
    by true same is =
        let one : name_number e ≡ 1 = ap (from_be_bytes w64) ((bytes_eq-Decides e.name.bytes control_name).0 same) in
        absurd (omega (arith, one, low, rises.0))
    by false other is = is

pub fit_after : (level : Level) (e : CatEntry) (es : List CatEntry) → is_group level ≡ true → fit level (e ∷ es) ≡ true → list_all fits_group es ≡ true
fit_after level e es is fits =
    (and_parts (fits_group e) (list_all fits_group es) (sym (ap (λ (b : Bool). not b || list_all fits_group (e ∷ es)) is) ∙ fits)).1

-- a first block that begins with the control entry
begun : (level : Level) (es more : List CatEntry) → is_control level (slice_get es 0) ≡ true → (e : CatEntry) × (ds : List CatEntry) × (kept name_number (es ++ more) ≡ e ∷ ds) × (bytes_eq e.name.bytes control_name ≡ true) × (length e.payload ≡ control_length level)
begun level [] more is = cc
begun level (e ∷ es) more is =
    let parts = and_parts (bytes_eq e.name.bytes control_name) (length e.payload == control_length level) is in
    (e, kept_from name_number (suc (name_number e)) (es ++ more), keeps name_number 0 e (es ++ more) (omega arith), parts.0, number_is (length e.payload) (control_length level) parts.1)
  where
    number_is : (n m : ℕ) → (n == m) ≡ true → n ≡ m
    number_is n m same = eqb-true n m same

-- a chain that stands in sound blocks is a true one, and its blocks fit
pub true_chain : (per : ℕ) (store : Store) (l : Lead) (c : Chain) → AreSound store → StandsAt per store l c → IsTrueChain c × AllFit cat_size 242 0 (lists_of c)
true_chain per store l c sound stands = by c.blocks refl stands.some
  where
    level_is : c.level ≡ l.level
    level_is = ap (λ (d : Chain). d.level) stands.is

    by : (bs : List (ℕ × List CatEntry)) → c.blocks ≡ bs → 1 ≤ length bs → IsTrueChain c × AllFit cat_size 242 0 (lists_of c)
    by [] are some = absurd (omega (arith, some))
    by (b ∷ bs) are some =
        let lists : lists_of c ≡ map (λ (x : ℕ × List CatEntry). x.1) (b ∷ bs) = ap (map (λ (x : ℕ × List CatEntry). x.1)) are in
        let links : Links per store l.place (b ∷ bs) = subst (Links per store l.place) are stands.links in
        let all = all_sound per store l.place (b ∷ bs) sound links in
        let suit = subst (SuitFrom (chain_to l)) are stands.suit in
        let control = begun l.level b.1 (joined (map (λ (x : ℕ × List CatEntry). x.1) bs)) (and_parts (is_control l.level (slice_get b.1 0)) _ suit.0).0 in
        let kept_all : kept name_number (joined (lists_of c)) ≡ control.0 ∷ control.1 = ap (λ (ls : List (List CatEntry)). kept name_number (joined ls)) lists ∙ control.2 in
        let rest : control.1 ≡ entries_of c = sym (ap (drop 1) kept_all) ∙ sym (entries_by c) in
        let whole : kept name_number (joined (lists_of c)) ≡ control.0 ∷ entries_of c = kept_all ∙ ap (λ (es : List CatEntry). control.0 ∷ es) rest in
        let rises : RisesFrom name_number 0 (control.0 ∷ entries_of c) = subst (RisesFrom name_number 0) whole (kept_rises name_number 0 (joined (lists_of c))) in
        let one : name_number control.0 ≡ 1 = ap (from_be_bytes w64) ((bytes_eq-Decides control.0.name.bytes control_name).0 control.3) in
        let up : RisesFrom name_number 2 (entries_of c) = subst (λ (n : ℕ). RisesFrom name_number (suc n) (entries_of c)) one rises.1 in
        let named : AllByRecursion HasName (control.0 ∷ entries_of c) = subst (AllByRecursion HasName) whole (all_kept HasName 0 (joined (lists_of c)) (subst (λ (ls : List (List CatEntry)). AllByRecursion HasName (joined ls)) (sym lists) (all_named (b ∷ bs) all))) in
        let fits : fit c.level (control.0 ∷ entries_of c) ≡ true = ap (fit c.level) (sym whole) ∙ ap (λ (v : Level). fit v (kept name_number (joined (lists_of c)))) level_is ∙ suit_fits (chain_to l) c.blocks stands.suit in
        let chain : IsTrueChain c = record {
          first = control.0;
          kept_is = whole;
          size = control.4 ∙ ap control_length (sym level_is);
          rises = up;
          named = named.1;
          fits = λ is. generations 2 (entries_of c) (omega arith) up (fit_after c.level control.0 (entries_of c) is fits);
        } in
        (chain, subst (AllFit cat_size 242 0) (sym lists) (all_fit b bs all))

-- ---- names

-- the digits are inverted twice
stored_twice : (bytes : List ℕ) → length bytes ≡ 8 → is_generation (stored_generation bytes) ≡ true → stored_generation (stored_generation bytes) ≡ bytes
stored_twice (g ∷ a ∷ b ∷ c ∷ d ∷ v ∷ e ∷ f ∷ []) long is =
    let one = and_parts (g == 0xC7) _ is in
    let two = and_parts (is_digit (255 - (a - 240))) _ one.1 in
    let three = and_parts (is_digit (255 - (b - 240))) _ two.1 in
    let four = and_parts (is_digit (255 - (c - 240))) _ three.1 in
    let five = and_parts (is_digit (255 - (d - 240))) _ four.1 in
    ap₂ (λ (xs : List ℕ) (y : ℕ). g ∷ y ∷ xs) (ap₂ (λ (xs : List ℕ) (y : ℕ). y ∷ xs) (ap₂ (λ (y z : ℕ). y ∷ z ∷ v ∷ e ∷ f ∷ []) (back c four.0) (back d five.0)) (back b three.0)) (back a two.0)
  where
    back : (x : ℕ) → is_digit (255 - (x - 240)) ≡ true → 255 - ((255 - (x - 240)) - 240) ≡ x
    back x digit =
        let parts = and_parts (nat_le 240 (255 - (x - 240))) (nat_le (255 - (x - 240)) 249) digit in
        omega (arith, leb-true 240 (255 - (x - 240)) parts.0, leb-true (255 - (x - 240)) 249 parts.1)
stored_twice _ long is = absurd (omega (arith, long))

-- the bytes under which a name in a chain is stored
abbrev pub stored_in : Level → List ℕ → List ℕ
stored_in level bytes = cond (is_group level) (stored_generation bytes) bytes

pub stored_back : (level : Level) (e : CatEntry) → HasName e → (is_group level ≡ true → IsStored e) → stored_in level (name_in level e.name).bytes ≡ e.name.bytes
stored_back Root e has stored = refl
stored_back Plain e has stored = refl
stored_back Generation e has stored = stored_twice e.name.bytes has.eight (stored refl)

-- entries of a chain with names that differ stand for names that differ
pub name_apart : (level : Level) (d e : CatEntry) → HasName d → HasName e → (is_group level ≡ true → IsStored d) → (is_group level ≡ true → IsStored e) → name_number d < name_number e → name_in level d.name ≡ name_in level e.name → ⊥
name_apart level d e first second one two less same =
    let bytes : d.name.bytes ≡ e.name.bytes = sym (stored_back level d first one) ∙ ap (λ (n : Name8). stored_in level n.bytes) same ∙ stored_back level e second two in
    let number : name_number d ≡ name_number e = ap (from_be_bytes w64) bytes in
    omega (arith, less, number)
