-- Blocks put one after another, and all at once; and the blocks after a place.
use Rattle.std.proofs.Common.{◌≡◌, ◌⊎◌, inl, inr, ⊎_elim, ℕ, ◌+◌, ◌<◌, ◌≤◌, Bool, true, false, cond, not, ◌&&◌, ◌||◌, List, [], ◌∷◌, map, refl, sym, ◌∙◌, ap, subst, arith}
use Rattle.std.proofs.lemmas.Bool.Decides.{nat_tests}
use Rattle.std.specs.Prelude.{Ok, Err, nat_lt, ◌==◌, if◌then◌else◌}
use Rattle.std.specs.List.{AllByRecursion, list_all}
use Rattle.vol_model.specs.declared.contents.Block.{Block}
use Rattle.vol_model.specs.declared.contents.Place.{Place}
use Rattle.vol_model.specs.declared.contents.Shelf.{Shelf}
use Rattle.vol_model.specs.declared.refusals.Refusal.{Refusal}
use Rattle.vol_model.specs.Did.{Did, and_then, answered, with_reason}
use Rattle.vol_model.specs.Places.{Content, content, is_before}
use Rattle.vol_model.specs.Reading.{blocks_from}
use Rattle.vol_model.proofs.Keeping.{RiseFrom}
use Rattle.vol_model.specs.Writing.{OpenWriter, Target, begun, did_commit, did_put, did_puts, did_write, with_puts}
use Rattle.vol_model.proofs.Filling.{puts_cons, write_parts}
use Rattle.vol_model.proofs.Working.{reason_then, then_then}
use Rattle.util_steps.specs.declared.calls.Fault.{Fault}
use Rattle.util_steps.specs.declared.calls.Fault.TheVariants.{Refused, BadRecord}
use Rattle.util_steps.specs.Copying.{behind_place, did_all, did_block, did_blocks, has_data, refusing, with_data}

module _ (s : Shelf) (w : OpenWriter) where
  -- no block
  pub blocks_none : did_blocks s w [] ≡ answered (Ok tt)
  unfolding did_blocks did_puts with_reason
  blocks_none = refl

  -- contents put one at a time, a refusal being a fault
  refusing_cons : (c : Content) (cs : List Content) → refusing (did_puts s w (c ∷ cs)) ≡ and_then s (refusing (did_put s w c)) (λ p u. refusing (did_puts u (with_puts w (c ∷ [])) cs))
  refusing_cons c cs = ap (λ (d : Did (Unit {0}) Refusal). refusing d) (puts_cons s w c cs) ∙ reason_then Refused s (did_put s w c) (λ p u. did_puts u (with_puts w (c ∷ [])) cs)

  -- what the others come to, whether all have data or not
  abbrev later : Block → List Block → Bool → Shelf → Did (Unit {0}) Fault
  later b bs k u = if k then refusing (did_puts u (with_puts w (content b ∷ [])) (map content bs)) else and_then u (refusing (did_puts u (with_puts w (content b ∷ [])) (map content (with_data bs)))) (λ x v. answered (Err BadRecord))

  abbrev and_later : Block → List Block → Bool → Did (Unit {0}) Fault
  and_later b bs k = and_then s (refusing (did_put s w (content b))) (λ p u. later b bs k u)

  all_or_some : (b : Block) (bs : List Block) (t : Bool) → list_all has_data bs ≡ t
      → (if t then refusing (did_puts s w (map content (b ∷ bs))) else and_then s (refusing (did_puts s w (content b ∷ map content (with_data bs)))) (λ x u. answered (Err BadRecord)))
      ≡ and_then s (refusing (did_put s w (content b))) (λ p u. did_blocks u (with_puts w (content b ∷ [])) bs)
  unfolding did_blocks
  all_or_some b bs true is =
      refusing_cons (content b) (map content bs)
      ∙ ap (and_later b bs) (sym is)
  all_or_some b bs false is =
      ap (λ (d : Did (Unit {0}) Fault). and_then s d (λ x u. answered (Err BadRecord))) (refusing_cons (content b) (map content (with_data bs)))
      ∙ then_then s (refusing (did_put s w (content b))) (λ p u. refusing (did_puts u (with_puts w (content b ∷ [])) (map content (with_data bs)))) (λ x u. answered (Err BadRecord))
      ∙ ap (and_later b bs) (sym is)

  by_data : (b : Block) (bs : List Block) (t : Bool) → has_data b ≡ t
      → (if t && list_all has_data bs then refusing (did_puts s w (map content (b ∷ bs))) else and_then s (refusing (did_puts s w (map content (if t then b ∷ with_data bs else [])))) (λ x u. answered (Err BadRecord)))
      ≡ and_then s (if t then refusing (did_put s w (content b)) else answered (Err BadRecord)) (λ p u. did_blocks u (with_puts w (content b ∷ [])) bs)
  unfolding did_blocks did_puts and_then with_reason
  by_data b bs true is = all_or_some b bs (list_all has_data bs) refl
  by_data b bs false is = refl

  -- one block, and then the others
  pub blocks_cons : (b : Block) (bs : List Block) → did_blocks s w (b ∷ bs) ≡ and_then s (did_block s w b) (λ p u. did_blocks u (with_puts w (content b ∷ [])) bs)
  unfolding did_blocks did_block
  blocks_cons b bs = by_data b bs (has_data b) refl

ends_so : {X Y : Type 0} (s : Shelf) (d : Did X Fault) (g : Y → Shelf → Did Y Fault) → and_then s d (λ x u. answered (Err BadRecord)) ≡ and_then s (and_then s d (λ x u. answered (Err BadRecord))) g
unfolding and_then
ends_so {X} {Y} s d g = sym (then_then s d (λ x u. answered (Err BadRecord)) g)

-- written as a whole is written block by block
pub all_parts : (s : Shelf) (t : Target) (bs : List Block) → did_all s t bs ≡ and_then s (did_blocks s (begun t) bs) (λ x u. refusing (did_commit u (with_puts (begun t) (map content bs))))
unfolding did_all did_blocks
all_parts s t bs = by_data (list_all has_data bs)
  where
    by_data : (k : Bool) → (if k then refusing (did_write s t (map content bs)) else and_then s (refusing (did_puts s (begun t) (map content (with_data bs)))) (λ x u. answered (Err BadRecord)))
        ≡ and_then s (if k then refusing (did_puts s (begun t) (map content bs)) else and_then s (refusing (did_puts s (begun t) (map content (with_data bs)))) (λ x u. answered (Err BadRecord))) (λ x u. refusing (did_commit u (with_puts (begun t) (map content bs))))
    by_data true = ap (λ (d : Did (Unit {0}) Refusal). refusing d) (write_parts s t (map content bs)) ∙ reason_then Refused s (did_puts s (begun t) (map content bs)) (λ x u. did_commit u (with_puts (begun t) (map content bs)))
    by_data false = ends_so s (refusing (did_puts s (begun t) (map content (with_data bs)))) (λ x u. refusing (did_commit u (with_puts (begun t) (map content bs))))

-- ---- places

to_order : (a b c d : ℕ) → (nat_lt a b || (a == b && nat_lt c d)) ≡ true → (a < b) ⊎ ((a ≡ b) × (c < d))
to_order a b c d h = elim (nat_lt a b) as (λ t. nat_lt a b ≡ t → (t || (a == b && nat_lt c d)) ≡ true → (a < b) ⊎ ((a ≡ b) × (c < d))) [
  | true ↦ λ e k. inl (grind (arith, nat_tests))
  | false ↦ λ e k. inr (grind (arith, nat_tests), grind (arith, nat_tests))
] refl h

from_order : (a b c d : ℕ) → (a < b) ⊎ ((a ≡ b) × (c < d)) → (nat_lt a b || (a == b && nat_lt c d)) ≡ true
from_order a b c d (inl h) = grind (arith, nat_tests)
from_order a b c d (inr (e, h)) = grind (arith, nat_tests)

not_order : (a b c d : ℕ) → ((a < b) ⊎ ((a ≡ b) × (c < d)) → ⊥) → (nat_lt a b || (a == b && nat_lt c d)) ≡ false
not_order a b c d h = by_test (nat_lt a b || (a == b && nat_lt c d)) refl
  where
    by_test : (t : Bool) → (nat_lt a b || (a == b && nat_lt c d)) ≡ t → t ≡ false
    by_test true e = absurd (h (to_order a b c d e))
    by_test false e = refl

no_order : (a b c d : ℕ) → (nat_lt a b || (a == b && nat_lt c d)) ≡ false → (a < b) ⊎ ((a ≡ b) × (c < d)) → ⊥
no_order a b c d h o = let e = sym h ∙ from_order a b c d o in cc

-- one place stands before another
abbrev pub IsBefore : Place → Place → Type 0
IsBefore p q = (p.tt < q.tt) ⊎ ((p.tt ≡ q.tt) × (p.r < q.r))

is : (p q : Place) → is_before p q ≡ true → IsBefore p q
is p q = to_order p.tt q.tt p.r q.r

so : (p q : Place) → IsBefore p q → is_before p q ≡ true
so p q = from_order p.tt q.tt p.r q.r

isnt : (p q : Place) → is_before p q ≡ false → IsBefore p q → ⊥
isnt p q = no_order p.tt q.tt p.r q.r

not_so : (p q : Place) → (IsBefore p q → ⊥) → is_before p q ≡ false
not_so p q = not_order p.tt q.tt p.r q.r

before_trans : (p q t : Place) → IsBefore p q → IsBefore q t → IsBefore p t
before_trans p q t (inl a) (inl b) = inl (omega arith)
before_trans p q t (inl a) (inr b) = inl (omega (arith, b.0))
before_trans p q t (inr a) (inl b) = inl (omega (arith, a.0))
before_trans p q t (inr a) (inr b) = inr (a.0 ∙ b.0, omega (arith, a.1, b.1))

by_last : (p : Place) (t : Bool) → (p.r == 255) ≡ t → IsBefore p (if t then record { tt = p.tt + 1; r = 0 } else record { tt = p.tt; r = p.r + 1 })
by_last p true e = inl (omega arith)
by_last p false e = inr (refl, omega arith)

-- a place stands before the one after it
before_behind : (p : Place) → IsBefore p (behind_place p)
before_behind p = by_last p (p.r == 255) refl

behind_by : (p q : Place) (t : Bool) → (p.r == 255) ≡ t → q.r ≤ 255 → IsBefore p q → IsBefore q (if t then record { tt = p.tt + 1; r = 0 } else record { tt = p.tt; r = p.r + 1 }) → ⊥
behind_by p q true e low (inl a) (inl b) = absurd (omega arith)
behind_by p q true e low (inl a) (inr b) = absurd (omega (arith, b.1))
behind_by p q true e low (inr a) (inl b) = let last : p.r ≡ 255 = grind (arith, nat_tests) in absurd (omega (arith, a.1, last))
behind_by p q true e low (inr a) (inr b) = absurd (omega (arith, b.1))
behind_by p q false e low (inl a) (inl b) = absurd (omega arith)
behind_by p q false e low (inl a) (inr b) = absurd (omega (arith, b.0))
behind_by p q false e low (inr a) (inl b) = absurd (omega (arith, a.0))
behind_by p q false e low (inr a) (inr b) = absurd (omega (arith, a.1, b.1))

-- what stands after a place doesn't stand before the one after it
behind_is_next : (p q : Place) → q.r ≤ 255 → IsBefore p q → IsBefore q (behind_place p) → ⊥
behind_is_next p q low a b = behind_by p q (p.r == 255) refl low a b

-- the records of blocks can be said in a TTR
abbrev pub AreLow : List Block → Type 0
AreLow bs = AllByRecursion (λ (b : Block). b.place.r ≤ 255) bs

keep_first : (p : Place) (b : Block) (bs : List Block) → is_before b.place p ≡ false → blocks_from p (b ∷ bs) ≡ b ∷ blocks_from p bs
keep_first p b bs e = ap (λ (t : Bool). cond (not t) (b ∷ blocks_from p bs) (blocks_from p bs)) e

drop_first : (p : Place) (b : Block) (bs : List Block) → is_before b.place p ≡ true → blocks_from p (b ∷ bs) ≡ blocks_from p bs
drop_first p b bs e = ap (λ (t : Bool). cond (not t) (b ∷ blocks_from p bs) (blocks_from p bs)) e

-- blocks none of which stands before a place
kept_all : (q p : Place) (bs : List Block) → RiseFrom q bs → AreLow bs → ((y : Place) → y.r ≤ 255 → IsBefore q y → is_before y p ≡ false) → blocks_from p bs ≡ bs
kept_all q p [] rise low none = refl
kept_all q p (b ∷ bs) rise low none =
    keep_first p b bs (none b.place low.0 (is q b.place rise.0))
    ∙ ap (λ (l : List Block). b ∷ l) (kept_all b.place p bs rise.1 low.1 (λ y l h. none y l (before_trans q b.place y (is q b.place rise.0) h)))

not_before_after : (p b y : Place) → is_before b p ≡ false → IsBefore b y → is_before y p ≡ false
not_before_after p b y low high = not_so y p (λ h. isnt b p low (before_trans b y p high h))

total : (a b : Place) → IsBefore a b ⊎ ((IsBefore b a) ⊎ ((a.tt ≡ b.tt) × (a.r ≡ b.r)))
total a b = by_tests (nat_lt a.tt b.tt) (nat_lt b.tt a.tt) (nat_lt a.r b.r) (nat_lt b.r a.r) refl refl refl refl
  where
    by_tests : (t u v w : Bool) → nat_lt a.tt b.tt ≡ t → nat_lt b.tt a.tt ≡ u → nat_lt a.r b.r ≡ v → nat_lt b.r a.r ≡ w → IsBefore a b ⊎ ((IsBefore b a) ⊎ ((a.tt ≡ b.tt) × (a.r ≡ b.r)))
    by_tests true u v w e f g h = inl (inl (grind (arith, nat_tests)))
    by_tests false true v w e f g h = inr (inl (inl (grind (arith, nat_tests))))
    by_tests false false true w e f g h = inl (inr (grind (arith, nat_tests), grind (arith, nat_tests)))
    by_tests false false false true e f g h = inr (inl (inr (grind (arith, nat_tests), grind (arith, nat_tests))))
    by_tests false false false false e f g h = inr (inr (grind (arith, nat_tests), grind (arith, nat_tests)))

below : (a b p : Place) → is_before a p ≡ true → is_before b p ≡ false → IsBefore a b
below a b p low high = ⊎_elim (λ h. h) (λ o. ⊎_elim (λ back. absurd (isnt b p high (before_trans b a p back (is a p low)))) (λ same. absurd (isnt b p high (as_same (is a p low) same))) o) (total a b)
  where
    as_same : IsBefore a p → (a.tt ≡ b.tt) × (a.r ≡ b.r) → IsBefore b p
    as_same (inl h) same = inl (omega (arith, same.0))
    as_same (inr h) same = inr (sym same.0 ∙ h.0, omega (arith, same.1, h.1))

by_first : (q p : Place) (x : Block) (xs : List Block) (t : Bool) → is_before x.place p ≡ t → is_before q x.place ≡ true → RiseFrom x.place xs → x.place.r ≤ 255 → AreLow xs → (b : Block) (rest : List Block) → blocks_from p (x ∷ xs) ≡ b ∷ rest → is_before b.place p ≡ false
    → (blocks_from p xs ≡ b ∷ rest → blocks_from (behind_place b.place) xs ≡ rest) → blocks_from (behind_place b.place) (x ∷ xs) ≡ rest
by_first q p x xs true e up rise low lows b rest h high more =
    let x_first : IsBefore x.place b.place = below x.place b.place p e high in
    drop_first (behind_place b.place) x xs (so x.place (behind_place b.place) (before_trans x.place b.place (behind_place b.place) x_first (before_behind b.place)))
    ∙ more (sym (drop_first p x xs e) ∙ h)
by_first q p x xs false e up rise low lows b rest h high more =
    let both = sym (keep_first p x xs e) ∙ h in
    let same : x ≡ b = cc in
    let others : blocks_from p xs ≡ rest = cc in
    subst (λ (c : Block). blocks_from (behind_place c.place) (x ∷ xs) ≡ rest) same
    (drop_first (behind_place x.place) x xs (so x.place (behind_place x.place) (before_behind x.place))
    ∙ kept_all x.place (behind_place x.place) xs rise lows (λ y l a. not_so y (behind_place x.place) (behind_is_next x.place y l a))
    ∙ sym (kept_all x.place p xs rise lows (λ y l a. not_before_after p x.place y e a))
    ∙ others)

-- the blocks after the first of those from a place on
pub next_blocks : (q p : Place) (bs : List Block) → RiseFrom q bs → AreLow bs → (b : Block) (rest : List Block) → blocks_from p bs ≡ b ∷ rest → is_before b.place p ≡ false → blocks_from (behind_place b.place) bs ≡ rest
next_blocks q p [] rise low b rest h high = cc
next_blocks q p (x ∷ xs) rise low b rest h high = by_first q p x xs (is_before x.place p) refl rise.0 rise.1 low.0 low.1 b rest h high (λ k. next_blocks x.place p xs rise.1 low.1 b rest k high)

pub before_by : (p q : Place) → is_before p q ≡ true → IsBefore p q
before_by = is

pub not_before_start : (p : Place) → is_before p (record { tt = 0; r = 0 }) ≡ false
not_before_start p = not_so p (record { tt = 0; r = 0 }) (λ h. ⊎_elim (λ a. absurd (omega arith)) (λ b. absurd (omega (arith, b.1))) h)
