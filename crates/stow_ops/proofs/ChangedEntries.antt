-- What putting an entry into a directory, or taking one out, makes of its entries.
use Rattle.std.proofs.Common.{◌≡◌, ◌+◌, ◌≤◌, ◌<◌, ℕ, zero, suc, Bool, true, false, cond, not, List, [], ◌∷◌, ◌++◌, length, length-append, append-nil, get_or, Some, refl, sym, ap, ap₂, ◌∙◌, subst, arith, ⊎_elim}
use Rattle.std.specs.Prelude.{◌||◌, slice_get}
use Rattle.std.specs.List.{AllByRecursion, filter}
use Rattle.std.specs.Int.{w64, from_be_bytes}
use Rattle.std.specs.Ordering.{is_eq, is_lt, nat_cmp, ordering_reverse}
use Rattle.std.specs.declared.cmp.Ordering.{Ordering}
use Rattle.std.specs.declared.cmp.Ordering.TheVariants.{Less, Equal, Greater}
use Rattle.std.specs.Cmp.Lexicographic.{slice_cmp}
use Rattle.std.specs.Str.{bytes_eq}
use Rattle.std.proofs.lemmas.Bool.{cases_lt}
use Rattle.std.proofs.lemmas.Cmp.{nat_list_cmp_total}
use Rattle.std.proofs.lemmas.List.Elements.{filter-append}
use Rattle.std.proofs.lemmas.Map.Text.{is_eq-slice_cmp}
use Rattle.std.proofs.lemmas.Nat.{be_bytes_8}
use Rattle.std.proofs.lemmas.Slice.Eq.{bytes_eq-Decides}
use Rattle.chain_spec.specs.Kept.{Rises, RisesFrom}
use Rattle.vol_model.specs.declared.contents.Entry.{Entry}
use Rattle.vol_model.specs.Shelf.{has_member, is_entry_before, with_entry}
use Rattle.pack_spec.specs.Directories.{name_number}
use Rattle.pack_spec.proofs.NameOrder.{HasName, number_before}
use Rattle.sorted_chain.specs.Plan.{ChangesOne}
use Rattle.pds_directory.specs.Entries.{IsNamed}
use Rattle.stow_ops.specs.Entries.{HasDropped, HasEntered, IsPlaceOf, StandsAt}

-- ---- names and their numbers

each_byte : (xs : List ℕ) → AllByRecursion (λ (b : ℕ). b < 256) xs → (i : ℕ) → get_or xs i 0 < 256
each_byte [] all zero = omega arith
each_byte [] all (suc i) = omega arith
each_byte (x ∷ xs) all zero = all.0
each_byte (x ∷ xs) all (suc i) = each_byte xs all.1 i

-- names of the same number are the same
pub same_name : (d e : Entry) → IsNamed d → IsNamed e → name_number d ≡ name_number e → d.name.bytes ≡ e.name.bytes
same_name d e first second same =
    sym (be_bytes_8 d.name.bytes (name_number e) first.eight (each_byte d.name.bytes first.bytes) (sym same))
    ∙ be_bytes_8 e.name.bytes (name_number e) second.eight (each_byte e.name.bytes second.bytes) refl

pub eq_name : (a b : List ℕ) → a ≡ b → bytes_eq a b ≡ true
eq_name a b same = (bytes_eq-Decides a b).1 same

pub name_eq : (a b : List ℕ) → bytes_eq a b ≡ true → a ≡ b
name_eq a b same = (bytes_eq-Decides a b).0 same

not_true : (b : Bool) → (b ≡ true → ⊥) → b ≡ false
not_true true none = absurd (none refl)
not_true false none = refl

pub other_name : (a b : List ℕ) → (a ≡ b → ⊥) → bytes_eq a b ≡ false
other_name a b other = not_true (bytes_eq a b) (λ same. other (name_eq a b same))

has_name : (e : Entry) → IsNamed e → HasName e
has_name e named = record { eight = named.eight; bytes = named.bytes }

reversed : (o p : Ordering) → p ≡ ordering_reverse o → is_lt o ≡ true → is_lt p ≡ false
reversed Less p is less = ap is_lt is
reversed Equal p is less = cc
reversed Greater p is less = cc

pub before_name : (d e : Entry) → IsNamed d → IsNamed e → name_number d < name_number e → is_entry_before d e ≡ true
before_name d e first second less = number_before d e (has_name d first) (has_name e second) less

pub not_before : (d e : Entry) → IsNamed d → IsNamed e → name_number d < name_number e → is_entry_before e d ≡ false
not_before d e first second less =
    reversed (slice_cmp nat_cmp d.name.bytes e.name.bytes) (slice_cmp nat_cmp e.name.bytes d.name.bytes) (nat_list_cmp_total.antisymm e.name.bytes d.name.bytes) (before_name d e first second less)

equal_apart : (o : Ordering) → is_eq o ≡ true → is_lt o ≡ false
equal_apart Less same = cc
equal_apart Equal same = refl
equal_apart Greater same = cc

same_apart : (d e : Entry) → d.name.bytes ≡ e.name.bytes → is_entry_before d e ≡ false
same_apart d e same = equal_apart (slice_cmp nat_cmp d.name.bytes e.name.bytes) (is_eq-slice_cmp d.name.bytes e.name.bytes ∙ eq_name d.name.bytes e.name.bytes same)

-- ---- filters

filter_all : {X : Type 0} (p : X → Bool) (xs : List X) → AllByRecursion (λ (x : X). p x ≡ true) xs → filter p xs ≡ xs
filter_all p [] all = refl
filter_all {X = X} p (x ∷ xs) all = ap (λ (b : Bool). cond b (x ∷ filter p xs) (filter p xs)) all.0 ∙ ap (λ (l : List X). x ∷ l) (filter_all p xs all.1)

filter_none : {X : Type 0} (p : X → Bool) (xs : List X) → AllByRecursion (λ (x : X). p x ≡ false) xs → filter p xs ≡ []
filter_none p [] all = refl
filter_none {X = X} p (x ∷ xs) all = ap (λ (b : Bool). cond b (x ∷ filter p xs) (filter p xs)) all.0 ∙ filter_none p xs all.1

pub all_front : {X : Type 0} (P : X → Type 0) (xs ys : List X) → AllByRecursion P (xs ++ ys) → AllByRecursion P xs
all_front P [] ys all = tt
all_front P (x ∷ xs) ys all = (all.0, all_front P xs ys all.1)

pub all_rest : {X : Type 0} (P : X → Type 0) (xs ys : List X) → AllByRecursion P (xs ++ ys) → AllByRecursion P ys
all_rest P [] ys all = all
all_rest P (x ∷ xs) ys all = all_rest P xs ys all.1

pub all_both : {X : Type 0} (P : X → Type 0) (xs ys : List X) → AllByRecursion P xs → AllByRecursion P ys → AllByRecursion P (xs ++ ys)
all_both P [] ys first second = second
all_both P (x ∷ xs) ys first second = (first.0, all_both P xs ys first.1 second)

all_with : {X : Type 0} (P Q R : X → Type 0) (xs : List X) → AllByRecursion P xs → AllByRecursion Q xs → ((x : X) → P x → Q x → R x) → AllByRecursion R xs
all_with P Q R [] first second more = tt
all_with P Q R (x ∷ xs) first second more = (more x first.0 second.0, all_with P Q R xs first.1 second.1 more)

-- ---- rising names

abbrev AreBelow : Entry → List Entry → Type 0
AreBelow e es = AllByRecursion (λ (x : Entry). name_number x < name_number e) es

abbrev AreAbove : Entry → List Entry → Type 0
AreAbove e es = AllByRecursion (λ (x : Entry). name_number e < name_number x) es

rises_rest : (bound : ℕ) (a z : List Entry) → RisesFrom name_number bound (a ++ z) → (low : ℕ) × RisesFrom name_number low z
rises_rest bound [] z rise = (bound, rise)
rises_rest bound (x ∷ a) z rise = rises_rest (suc (name_number x)) a z rise.1

-- the others are above the first
above_bound : (bound : ℕ) (z : List Entry) (e : Entry) → RisesFrom name_number bound z → name_number e < bound → AreAbove e z
above_bound bound [] e rise low = tt
above_bound bound (x ∷ z) e rise low = (omega (arith, rise.0, low), above_bound (suc (name_number x)) z e rise.1 (omega (arith, rise.0, low)))

-- those in front are below
below_from : (bound : ℕ) (a : List Entry) (e : Entry) (z : List Entry) → RisesFrom name_number bound (a ++ e ∷ z) → AreBelow e a
below_from bound [] e z rise = tt
below_from bound (x ∷ a) e z rise = let rest = above_bound (suc (name_number x)) (a ++ e ∷ z) x rise.1 (omega arith) in ((all_rest (λ (y : Entry). name_number x < name_number y) a (e ∷ z) rest).0, below_from (suc (name_number x)) a e z rise.1)

above_from : (bound : ℕ) (a : List Entry) (e : Entry) (z : List Entry) → RisesFrom name_number bound (a ++ e ∷ z) → AreAbove e z
above_from bound a e z rise = let rest = rises_rest bound a (e ∷ z) rise in above_bound (suc (name_number e)) z e rest.1.1 (omega arith)

raised : (bound : ℕ) (z : List Entry) (e : Entry) → RisesFrom name_number bound z → AreAbove e z → RisesFrom name_number (suc (name_number e)) z
raised bound [] e rise above = tt
raised bound (x ∷ z) e rise above = (omega (arith, above.0), rise.1)

put_rises : (bound : ℕ) (a : List Entry) (e : Entry) (z : List Entry) → RisesFrom name_number bound (a ++ z) → bound ≤ name_number e → AreBelow e a → AreAbove e z → RisesFrom name_number bound (a ++ e ∷ z)
put_rises bound [] e z rise low below above = (low, raised bound z e rise above)
put_rises bound (x ∷ a) e z rise low below above = (rise.0, put_rises (suc (name_number x)) a e z rise.1 (omega (arith, below.0)) below.1 above)

taken_rises : (bound : ℕ) (a : List Entry) (e : Entry) (z : List Entry) → RisesFrom name_number bound (a ++ e ∷ z) → RisesFrom name_number bound (a ++ z)
taken_rises bound [] e [] rise = tt
taken_rises bound [] e (x ∷ z) rise = (omega (arith, rise.0, rise.1.0), rise.1.1)
taken_rises bound (x ∷ a) e z rise = (rise.0, taken_rises (suc (name_number x)) a e z rise.1)

replaced_rises : (bound : ℕ) (a : List Entry) (d e : Entry) (z : List Entry) → name_number d ≡ name_number e → RisesFrom name_number bound (a ++ d ∷ z) → RisesFrom name_number bound (a ++ e ∷ z)
replaced_rises bound [] d e z same rise = (omega (arith, rise.0, same), subst (λ (n : ℕ). RisesFrom name_number (suc n) z) same rise.1)
replaced_rises bound (x ∷ a) d e z same rise = (rise.0, replaced_rises (suc (name_number x)) a d e z same rise.1)

-- ---- an entry put in

front_at : {X : Type 0} (a z : List X) (k : ℕ) (x : X) → slice_get a k ≡ Some x → (slice_get (a ++ z) k ≡ Some x) × (k < length a)
front_at [] z k x is = cc
front_at (y ∷ a) z zero x is = (is, omega arith)
front_at (y ∷ a) z (suc k) x is = let rest = front_at a z k x is in (rest.0, omega (arith, rest.1))

rest_at : {X : Type 0} (a z : List X) → slice_get (a ++ z) (length a) ≡ slice_get z zero
rest_at [] z = refl
rest_at (y ∷ a) z = rest_at a z

each_there : {X : Type 0} (P : X → Type 0) (xs : List X) → ((k : ℕ) (x : X) → slice_get xs k ≡ Some x → P x) → AllByRecursion P xs
each_there P [] each = tt
each_there P (x ∷ xs) each = (each zero x refl, each_there P xs (λ k y is. each (suc k) y is))

below_place : (e : Entry) (a z old : List Entry) → old ≡ a ++ z → IsPlaceOf old e (length a) → AreBelow e a
below_place e a z old is place = each_there (λ (x : Entry). name_number x < name_number e) a (λ k x there.
    let at = front_at a z k x there in place.before k x at.1 (ap (λ (l : List Entry). slice_get l k) is ∙ at.0))

above_place : (e : Entry) (a z old : List Entry) → Rises name_number old → old ≡ a ++ z → IsPlaceOf old e (length a) → (StandsAt old e (length a) → ⊥) → AreAbove e z
above_place e a z old rise is place free = by z refl
  where
    by : (y : List Entry) → z ≡ y → AreAbove e z
    by [] same = subst (AreAbove e) (sym same) tt
    by (x ∷ y) same =
        let there : slice_get old (length a) ≡ Some x = ap (λ (l : List Entry). slice_get l (length a)) is ∙ rest_at a z ∙ ap (λ (l : List Entry). slice_get l zero) same in
        let low = place.here x there in
        let rest = rises_rest 0 a z (subst (Rises name_number) is rise) in
        let more : RisesFrom name_number rest.0 (x ∷ y) = subst (RisesFrom name_number rest.0) same rest.1 in
        let less : name_number e < name_number x = ⊎_elim (λ w. w) (λ w. absurd (free (x, there, omega (arith, low, w)))) (cases_lt (name_number e) (name_number x)) in
        subst (AreAbove e) (sym same) (less, above_bound (suc (name_number x)) y e more.1 (omega (arith, less)))

module _ (e : Entry) (old new : List Entry) (rise : Rises name_number old) where
  pub entered_rises : HasEntered e old new → Rises name_number new
  entered_rises (HasEntered.added a z place free was is) =
      subst (Rises name_number) (sym is) (put_rises 0 a e z (subst (Rises name_number) was rise) (omega arith) (below_place e a z old was place) (above_place e a z old rise was place free))
  entered_rises (HasEntered.replaced a x z place same was is) = subst (Rises name_number) (sym is) (replaced_rises 0 a x e z same (subst (Rises name_number) was rise))

  pub entered_changes : HasEntered e old new → ChangesOne name_number old new
  entered_changes (HasEntered.added a z place free was is) = ChangesOne.inserted a e z was is
  entered_changes (HasEntered.replaced a x z place same was is) = ChangesOne.replaced a x e z was is same

  pub entered_few : HasEntered e old new → length new ≤ length old + 1
  entered_few (HasEntered.added a z place free was is) = omega (arith, ap length was, ap length is, length-append {A = Entry})
  entered_few (HasEntered.replaced a x z place same was is) = omega (arith, ap length was, ap length is, length-append {A = Entry})

  pub entered_all : (P : Entry → Type 0) → P e → AllByRecursion P old → HasEntered e old new → AllByRecursion P new
  entered_all P one all (HasEntered.added a z place free was is) =
      let both : AllByRecursion P (a ++ z) = subst (AllByRecursion P) was all in
      subst (AllByRecursion P) (sym is) (all_both P a (e ∷ z) (all_front P a z both) (one, all_rest P a z both))
  entered_all P one all (HasEntered.replaced a x z place same was is) =
      let both : AllByRecursion P (a ++ x ∷ z) = subst (AllByRecursion P) was all in
      subst (AllByRecursion P) (sym is) (all_both P a (e ∷ z) (all_front P a (x ∷ z) both) (one, (all_rest P a (x ∷ z) both).1))

  abbrev Before : Entry → Bool
  Before x = is_entry_before x e

  abbrev Behind : Entry → Bool
  Behind x = is_entry_before e x

  module _ (named : IsNamed e) (all : AllByRecursion IsNamed old) where
    halves : (a z : List Entry) → AllByRecursion IsNamed a → AllByRecursion IsNamed z → AreBelow e a → AreAbove e z → (filter Before a ≡ a) × (filter Before z ≡ []) × (filter Behind a ≡ []) × (filter Behind z ≡ z)
    halves a z front rest below above = (
      filter_all Before a (all_with IsNamed (λ (x : Entry). name_number x < name_number e) (λ (x : Entry). Before x ≡ true) a front below (λ x n less. before_name x e n named less)),
      filter_none Before z (all_with IsNamed (λ (x : Entry). name_number e < name_number x) (λ (x : Entry). Before x ≡ false) z rest above (λ x n less. not_before e x named n less)),
      filter_none Behind a (all_with IsNamed (λ (x : Entry). name_number x < name_number e) (λ (x : Entry). Behind x ≡ false) a front below (λ x n less. not_before x e n named less)),
      filter_all Behind z (all_with IsNamed (λ (x : Entry). name_number e < name_number x) (λ (x : Entry). Behind x ≡ true) z rest above (λ x n less. before_name e x named n less)),
    )

    pub entered_with : HasEntered e old new → new ≡ with_entry e old
    entered_with (HasEntered.added a z place free was is) =
        let both : AllByRecursion IsNamed (a ++ z) = subst (AllByRecursion IsNamed) was all in
        let half = halves a z (all_front IsNamed a z both) (all_rest IsNamed a z both) (below_place e a z old was place) (above_place e a z old rise was place free) in
        let front : filter Before old ≡ a = ap (filter Before) was ∙ filter-append Before a z ∙ ap₂ (λ (x y : List Entry). x ++ y) half.0 half.1 ∙ append-nil a in
        let rest : filter Behind old ≡ z = ap (filter Behind) was ∙ filter-append Behind a z ∙ ap₂ (λ (x y : List Entry). x ++ y) half.2 half.3 in
        is ∙ sym (ap₂ (λ (x y : List Entry). x ++ e ∷ y) front rest)
    entered_with (HasEntered.replaced a x z place same was is) =
        let both : AllByRecursion IsNamed (a ++ x ∷ z) = subst (AllByRecursion IsNamed) was all in
        let mine : IsNamed x = (all_rest IsNamed a (x ∷ z) both).0 in
        let equal : x.name.bytes ≡ e.name.bytes = same_name x e mine named same in
        let rises : Rises name_number (a ++ e ∷ z) = replaced_rises 0 a x e z same (subst (Rises name_number) was rise) in
        let half = halves a z (all_front IsNamed a (x ∷ z) both) (all_rest IsNamed a (x ∷ z) both).1 (below_from 0 a e z rises) (above_from 0 a e z rises) in
        let first : filter Before (x ∷ z) ≡ filter Before z = ap (λ (b : Bool). cond b (x ∷ filter Before z) (filter Before z)) (same_apart x e equal) in
        let second : filter Behind (x ∷ z) ≡ filter Behind z = ap (λ (b : Bool). cond b (x ∷ filter Behind z) (filter Behind z)) (same_apart e x (sym equal)) in
        let front : filter Before old ≡ a = ap (filter Before) was ∙ filter-append Before a (x ∷ z) ∙ ap₂ (λ (x y : List Entry). x ++ y) half.0 (first ∙ half.1) ∙ append-nil a in
        let rest : filter Behind old ≡ z = ap (filter Behind) was ∙ filter-append Behind a (x ∷ z) ∙ ap₂ (λ (x y : List Entry). x ++ y) half.2 (second ∙ half.3) in
        is ∙ sym (ap₂ (λ (x y : List Entry). x ++ e ∷ y) front rest)

    -- an entry of its name is one of its number
    pub stands_member : (at : ℕ) → StandsAt old e at → has_member e.name.bytes old ≡ true
    stands_member at there = find_at old all at there.0 there.1 there.2
      where
        find_at : (es : List Entry) → AllByRecursion IsNamed es → (k : ℕ) (x : Entry) → slice_get es k ≡ Some x → name_number x ≡ name_number e → has_member e.name.bytes es ≡ true
        find_at [] are k x is same = cc
        find_at (y ∷ es) are zero x is same =
            let here : y ≡ x = cc in
            ap (λ (b : Bool). b || has_member e.name.bytes es) (eq_name y.name.bytes e.name.bytes (same_name y e are.0 named (ap name_number here ∙ same)))
        find_at (y ∷ es) are (suc k) x is same = or_rest (bytes_eq y.name.bytes e.name.bytes) (has_member e.name.bytes es) (find_at es are.1 k x is same)
          where
            or_rest : (b c : Bool) → c ≡ true → (b || c) ≡ true
            or_rest true c is = refl
            or_rest false c is = is

    pub no_member : ((at : ℕ) → StandsAt old e at → ⊥) → has_member e.name.bytes old ≡ false
    no_member none = none_of old none
      where
        none_of : (es : List Entry) → ((at : ℕ) → StandsAt es e at → ⊥) → has_member e.name.bytes es ≡ false
        none_of [] none = refl
        none_of (y ∷ es) none =
            ap (λ (b : Bool). b || has_member e.name.bytes es) (other_name y.name.bytes e.name.bytes (λ same. none zero (y, refl, ap (from_be_bytes w64) same)))
            ∙ none_of es (λ at there. none (suc at) there)

-- ---- an entry taken out

module _ (name : List ℕ) (old new : List Entry) (dropped : HasDropped name old new) where
  pub dropped_changes : ChangesOne name_number old new
  dropped_changes = ChangesOne.removed dropped.front dropped.dropped dropped.rest dropped.was dropped.is

  pub dropped_few : length new ≤ length old
  dropped_few = omega (arith, ap length dropped.was, ap length dropped.is, length-append {A = Entry})

  pub dropped_all : (P : Entry → Type 0) → AllByRecursion P old → AllByRecursion P new
  dropped_all P all =
      let both : AllByRecursion P (dropped.front ++ dropped.dropped ∷ dropped.rest) = subst (AllByRecursion P) dropped.was all in
      subst (AllByRecursion P) (sym dropped.is) (all_both P dropped.front dropped.rest (all_front P dropped.front (dropped.dropped ∷ dropped.rest) both) (all_rest P dropped.front (dropped.dropped ∷ dropped.rest) both).1)

  pub dropped_rises : Rises name_number old → Rises name_number new
  dropped_rises rise = subst (Rises name_number) (sym dropped.is) (taken_rises 0 dropped.front dropped.dropped dropped.rest (subst (Rises name_number) dropped.was rise))

  pub dropped_member : has_member name old ≡ true
  dropped_member = ap (has_member name) dropped.was ∙ there dropped.front
    where
      or_rest : (b c : Bool) → c ≡ true → (b || c) ≡ true
      or_rest true c is = refl
      or_rest false c is = is

      there : (a : List Entry) → has_member name (a ++ dropped.dropped ∷ dropped.rest) ≡ true
      there [] = ap (λ (b : Bool). b || has_member name dropped.rest) dropped.named
      there (x ∷ a) = or_rest (bytes_eq x.name.bytes name) (has_member name (a ++ dropped.dropped ∷ dropped.rest)) (there a)

  abbrev Others : Entry → Bool
  Others x = not (bytes_eq x.name.bytes name)

  pub dropped_filter : Rises name_number old → new ≡ filter Others old
  dropped_filter rise =
      let rises : Rises name_number (dropped.front ++ dropped.dropped ∷ dropped.rest) = subst (Rises name_number) dropped.was rise in
      let below = below_from 0 dropped.front dropped.dropped dropped.rest rises in
      let above = above_from 0 dropped.front dropped.dropped dropped.rest rises in
      let here : dropped.dropped.name.bytes ≡ name = name_eq dropped.dropped.name.bytes name dropped.named in
      let front : filter Others dropped.front ≡ dropped.front = filter_all Others dropped.front (all_with _ _ (λ (x : Entry). Others x ≡ true) dropped.front below below (λ x less more. apart x here (λ same. omega (arith, less, same)))) in
      let rest : filter Others dropped.rest ≡ dropped.rest = filter_all Others dropped.rest (all_with _ _ (λ (x : Entry). Others x ≡ true) dropped.rest above above (λ x less more. apart x here (λ same. omega (arith, less, same)))) in
      let one : filter Others (dropped.dropped ∷ dropped.rest) ≡ filter Others dropped.rest = ap (λ (b : Bool). cond (not b) (dropped.dropped ∷ filter Others dropped.rest) (filter Others dropped.rest)) dropped.named in
      dropped.is ∙ sym (ap (filter Others) dropped.was ∙ filter-append Others dropped.front (dropped.dropped ∷ dropped.rest) ∙ ap₂ (λ (x y : List Entry). x ++ y) front (one ∙ rest))
    where
      apart : (x : Entry) → dropped.dropped.name.bytes ≡ name → (name_number x ≡ name_number dropped.dropped → ⊥) → Others x ≡ true
      apart x here other = ap not (other_name x.name.bytes name (λ same. other (ap (from_be_bytes w64) (same ∙ sym here))))
