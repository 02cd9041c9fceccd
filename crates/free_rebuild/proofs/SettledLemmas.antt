-- Slots that were cleared, with the chain written and then format 4, are settled.
use Rattle.std.proofs.Common.{◌≡◌, ◌≢◌, ◌+◌, ◌≤◌, ◌<◌, ℕ, zero, suc, Bool, true, false, cond, not, ◌||◌, ◌&&◌, List, [], ◌∷◌, length, take, drop, map, Option, Some, None, option_and_then, Result, Ok, refl, sym, ap, subst, ◌∙◌, ◌⊎◌, inl, inr, ⊎_elim, arith}
use Rattle.std.specs.Prelude.{count_by, nat_le, nat_lt, position, replicate, slice_get, unwrap_or}
use Rattle.std.specs.List.{list_all, list_any}
use Rattle.std.specs.Option.{option_map}
use Rattle.std.specs.Str.{bytes_eq}
use Rattle.std.proofs.Math.ListN.{set}
use Rattle.std.proofs.lemmas.Bool.{and_parts}
use Rattle.std.proofs.lemmas.Bool.Decides.{nat_tests}
use Rattle.dscb_codec.specs.declared.Dscb.{Dscb}
use Rattle.dscb_codec.specs.declared.Dscb.TheVariants as formats
use Rattle.dscb_codec.specs.declared.DscbErr.{DscbErr}
use Rattle.dscb_codec.specs.declared.F4.{F4}
use Rattle.vol_model.specs.declared.contents.Volume.{Volume}
use Rattle.pack_spec.specs.declared.slot.VtocSlot.{VtocSlot}
use Rattle.pack_spec.specs.FreeChain.{IsChain, free_entries}
use Rattle.pack_spec.specs.Rules.{is_chained, is_f3}
use Rattle.pack_spec.specs.Settled.{AreSettled, head_in, highest_of, is_f0, is_f5, is_marked, is_used, leads_to}
use Rattle.free_rebuild.specs.Chain.{chained, is_open, next_or, space_of}
use Rattle.free_rebuild.specs.Clearing.{AreCleared, free_in, is_extra, is_pointed, points_to}
use Rattle.free_rebuild.proofs.ChainLemmas.{AreHeld, HasRoom, chained_chain, chained_front, get_low, get_set, get_set_other, get_some, next_alike, room_alike}
use Rattle.free_rebuild.proofs.ChainItems.{NoneBehind, chained_closed, chained_fives, chained_item, count_more, fives, is_five}
use Rattle.free_rebuild.proofs.ClearedLemmas.{cleared_pointed}

-- a test that an item passes as the one before it passes for the whole list
same_tests : {X : Type 0} (p : X → Bool) (xs : List X) (k : ℕ) (x y : X) → slice_get xs k ≡ Some x → p y ≡ p x → map p (set xs k y) ≡ map p xs
same_tests p [] k x y is same = refl
same_tests p (z ∷ xs) zero x y is same = let first : z ≡ x = cc in ap (λ (t : Bool). t ∷ map p xs) (same ∙ sym (ap p first))
same_tests p (z ∷ xs) (suc k) x y is same = ap (λ (l : List Bool). p z ∷ l) (same_tests p xs k x y is same)

-- lists that pass tests alike have as many that pass
pub counts_alike : {X Y : Type 0} (p : X → Bool) (q : Y → Bool) (xs : List X) (ys : List Y) → map p xs ≡ map q ys → count_by p xs ≡ count_by q ys
counts_alike p q [] [] same = refl
counts_alike p q [] (y ∷ ys) same = absurd cc
counts_alike p q (x ∷ xs) [] same = absurd cc
counts_alike p q (x ∷ xs) (y ∷ ys) same =
    let one : p x ≡ q y = cc in
    let rest : map p xs ≡ map q ys = cc in
    count_more p x xs ∙ ap (λ (t : Bool). cond t 1 0 + count_by p xs) one ∙ ap (λ (n : ℕ). cond (q y) 1 0 + n) (counts_alike p q xs ys rest) ∙ sym (count_more q y ys)

set_swap : {X : Type 0} (xs : List X) (k : ℕ) (x y : X) → 1 ≤ k → set (set xs 0 x) k y ≡ set (set xs k y) 0 x
set_swap [] k x y some = refl
set_swap (z ∷ xs) zero x y some = absurd (omega (arith, some))
set_swap (z ∷ xs) (suc k) x y some = refl

-- all pass, where each does
all_pass : {X : Type 0} (p : X → Bool) (xs : List X) → ((k : ℕ) (x : X) → slice_get xs k ≡ Some x → p x ≡ true) → list_all p xs ≡ true
all_pass p [] each = refl
all_pass p (x ∷ xs) each = ap (λ (t : Bool). t && list_all p xs) (each 0 x refl) ∙ all_pass p xs (λ k y is. each (suc k) y is)

any_passes : {X : Type 0} (p : X → Bool) (xs : List X) (i : ℕ) (x : X) → slice_get xs i ≡ Some x → p x ≡ true → list_any p xs ≡ true
any_passes p [] i x is passes = cc
any_passes p (y ∷ xs) zero x is passes = let same : y ≡ x = cc in ap (λ (t : Bool). t || list_any p xs) (ap p same ∙ passes)
any_passes p (y ∷ xs) (suc i) x is passes = ap (λ (t : Bool). p y || t) (any_passes p xs i x is passes) ∙ or_true (p y)
  where
    or_true : (t : Bool) → (t || true) ≡ true
    or_true true = refl
    or_true false = refl

-- and one does, where any does
abbrev Passes : {X : Type 0} → (X → Bool) → List X → Type 0
Passes {X} p xs = (i : ℕ) × (x : X) × (slice_get xs i ≡ Some x) × (p x ≡ true)

one_passes : {X : Type 0} (p : X → Bool) (xs : List X) → list_any p xs ≡ true → Passes p xs
one_passes p [] any = cc
one_passes {X = X} p (x ∷ xs) any = by_test (p x) refl (λ more. one_passes p xs more) any
  where
    by_test : (t : Bool) → p x ≡ t → (list_any p xs ≡ true → Passes p xs) → (t || list_any p xs) ≡ true → Passes p (x ∷ xs)
    by_test true test more any = (zero, x, refl, test)
    by_test false test more any = let rest = more any in (suc rest.0, rest.1, rest.2, rest.3)

-- the next slot isn't before
pub next_above : (ds : List Dscb) (k : ℕ) → k ≤ next_or ds k
next_above ds k = by_place (position is_open (drop (k + 1) ds))
  where
    by_place : (o : Option ℕ) → k ≤ unwrap_or (option_map (λ (i : ℕ). k + 1 + i) o) k
    by_place None = omega arith
    by_place (Some i) = omega arith

module _ (at : ℕ → List ℕ) where
  -- format 4 may be written before the chain or after it
  head_over : (ds : List Dscb) (k : ℕ) (ess : List (List (List ℕ))) (d h : Dscb) → 1 ≤ k → slice_get ds 0 ≡ Some d → is_open d ≡ false → is_open h ≡ false → chained at (set ds 0 h) k ess ≡ set (chained at ds k ess) 0 h
  head_over ds k [] d h some is one two = refl
  head_over ds k (es ∷ []) d h some is one two = set_swap ds k h (space_of es (replicate 5 0)) some
  head_over ds k (es ∷ more ∷ others) d h some is one two =
      let opens : map is_open (set ds 0 h) ≡ map is_open ds = same_tests is_open ds 0 d h is (two ∙ sym one) in
      let next : next_or (set ds 0 h) k ≡ next_or ds k = ap (λ (o : Option ℕ). unwrap_or o k) (next_alike (set ds 0 h) ds (k + 1) opens) in
      let e : Dscb = space_of es (at (next_or ds k)) in
      ap (λ (n : ℕ). chained at (set (set ds 0 h) k (space_of es (at n))) n (more ∷ others)) next
      ∙ ap (λ (l : List Dscb). chained at l (next_or ds k) (more ∷ others)) (set_swap ds k h e some)
      ∙ head_over (set ds k e) (next_or ds k) (more ∷ others) d h (let above = next_above ds k in omega (arith, above, some)) (get_set_other ds k 0 e (λ z. omega (arith, z, some)) ∙ is) one two

  held_item : (slots : List VtocSlot) (ds : List Dscb) (k : ℕ) (s : VtocSlot) → AreHeld at slots ds → slice_get slots k ≡ Some s → (d : Dscb) × (slice_get ds k ≡ Some d) × (s ≡ record { address = at k; content = Ok d })
  held_item slots ds k s held is = by_item (slice_get ds k) refl (sym is ∙ held k)
    where
      by_item : (o : Option Dscb) → slice_get ds k ≡ o → Some s ≡ option_map (λ (d : Dscb). record { address = at k; content = Ok d }) o → (d : Dscb) × (slice_get ds k ≡ Some d) × (s ≡ record { address = at k; content = Ok d })
      by_item None there same = cc
      by_item (Some d) there same = (d, there, cc)

  pub held_tests : (q : Result Dscb DscbErr → Bool) (slots : List VtocSlot) (ds : List Dscb) → AreHeld at slots ds → map (λ (s : VtocSlot). q s.content) slots ≡ map (λ (d : Dscb). q (Ok d)) ds
  held_tests q slots ds held = walk 0 slots ds (λ i. let e : 0 + i ≡ i = omega arith in held i ∙ ap (λ (n : ℕ). option_map (λ (d : Dscb). record { address = at n; content = Ok d }) (slice_get ds i)) (sym e))
    where
      walk : (n : ℕ) (ss : List VtocSlot) (ds : List Dscb) → ((i : ℕ) → slice_get ss i ≡ option_map (λ (d : Dscb). record { address = at (n + i); content = Ok d }) (slice_get ds i)) → map (λ (s : VtocSlot). q s.content) ss ≡ map (λ (d : Dscb). q (Ok d)) ds
      walk n [] [] each = refl
      walk n [] (d ∷ ds) each = let first = each 0 in absurd cc
      walk n (s ∷ ss) [] each = let first = each 0 in absurd cc
      walk n (s ∷ ss) (d ∷ ds) each =
          let first : s ≡ record { address = at (n + 0); content = Ok d } = let one = each 0 in cc in
          let here : q s.content ≡ q (Ok d) = ap (λ (x : VtocSlot). q x.content) first in
          ap (λ (t : Bool). t ∷ map (λ (x : VtocSlot). q x.content) ss) here
          ∙ ap (λ (l : List Bool). q (Ok d) ∷ l) (walk (n + 1) ss ds (λ i. let e : n + suc i ≡ n + 1 + i = omega arith in each (suc i) ∙ ap (λ (m : ℕ). option_map (λ (x : Dscb). record { address = at m; content = Ok x }) (slice_get ds i)) e))

-- Slots after each step of a repair: `ds`, with the bit on; cleared; with the chain; with format 4 at last.
pub record IsRebuilt (at : ℕ → List ℕ) (ds cleared final : List Dscb) (ess : List (List (List ℕ))) (head : F4) : Type 0 where
  pub first : F4
  pub four : slice_get ds 0 ≡ Some (formats.F4 first)
  pub one : Dscb
  pub second : slice_get ds 1 ≡ Some one
  pub open_one : is_open one ≡ true
  pub clears : AreCleared at (length ds) ds cleared
  pub some : 0 < length ess
  pub room : HasRoom cleared 1 ess
  pub last : final ≡ set (chained at cleared 1 ess) 0 (formats.F4 head)
  pub bits : is_marked head ≡ false
  pub free : head.free ≡ free_in (chained at cleared 1 ess)

module _ (at : ℕ → List ℕ) (ds cleared final : List Dscb) (ess : List (List (List ℕ))) (head : F4) (is : IsRebuilt at ds cleared final ess head) where
  abbrev mid : List Dscb
  mid = chained at cleared 1 ess

  -- slots 0 and 1 aren't cleared
  low_kept : (k : ℕ) (d : Dscb) → k < 2 → slice_get ds k ≡ Some d → slice_get cleared k ≡ Some d
  low_kept k d low there = is.clears.each k d there ∙ ap (λ (t : Bool). Some (cond (t && (nat_lt k (length ds) && is_extra ds (at k) d)) formats.F0 d)) (below k low)
    where
      below : (k : ℕ) → k < 2 → nat_le 2 k ≡ false
      below k low = grind (arith, nat_tests)

  cleared_first : slice_get cleared 0 ≡ Some (formats.F4 is.first)
  cleared_first = low_kept 0 (formats.F4 is.first) (omega arith) is.four

  cleared_second : slice_get cleared 1 ≡ Some is.one
  cleared_second = low_kept 1 is.one (omega arith) is.second

  mid_first : slice_get mid 0 ≡ Some (formats.F4 is.first)
  mid_first = chained_front at cleared 1 0 ess is.room is.one cleared_second is.open_one (omega arith) ∙ cleared_first

  -- what stands after slot 1 after the clearing belongs to something
  kept_item : (k : ℕ) (d : Dscb) → 2 ≤ k → slice_get cleared k ≡ Some d → (d ≡ formats.F0) ⊎ ((slice_get ds k ≡ Some d) × (is_extra ds (at k) d ≡ false))
  kept_item k d two there =
      let low : k < length ds = let in_cleared = get_low cleared k d there in omega (arith, in_cleared, is.clears.size) in
      let was = get_some ds k low in
      let item : Some d ≡ Some (cond (nat_le 2 k && (nat_lt k (length ds) && is_extra ds (at k) was.0)) formats.F0 was.0) = sym there ∙ is.clears.each k was.0 was.1 in
      by_extra was.0 was.1 (is_extra ds (at k) was.0) refl (item ∙ ap (λ (t : Bool). Some (cond t formats.F0 was.0)) (reached k (length ds) (is_extra ds (at k) was.0) two low))
    where
      reached : (k n : ℕ) (t : Bool) → 2 ≤ k → k < n → (nat_le 2 k && (nat_lt k n && t)) ≡ t
      reached k n t two low = grind (arith, nat_tests)

      by_extra : (w : Dscb) → slice_get ds k ≡ Some w → (t : Bool) → is_extra ds (at k) w ≡ t → Some d ≡ Some (cond t formats.F0 w) → (d ≡ formats.F0) ⊎ ((slice_get ds k ≡ Some d) × (is_extra ds (at k) d ≡ false))
      by_extra w is_w true extra same = inl cc
      by_extra w is_w false extra same =
          let one : d ≡ w = cc in
          inr (is_w ∙ ap Some (sym one), ap (is_extra ds (at k)) one ∙ extra)

  none_behind : NoneBehind cleared 1
  none_behind j d behind there = ⊎_elim (λ zeros. ap is_five zeros) (λ both. not_five d (at j) both.1) (kept_item j d (omega (arith, behind)) there)
    where
      not_five : (d : Dscb) (a : List ℕ) → is_extra ds a d ≡ false → is_five d ≡ false
      not_five formats.F0 a extra = refl
      not_five (formats.F1 f) a extra = refl
      not_five (formats.F3 f) a extra = refl
      not_five (formats.F4 f) a extra = refl
      not_five (formats.F5 f) a extra = cc

  module _ (slots : List VtocSlot) (held : AreHeld at slots final) where
    held_mid : AreHeld at slots (set mid 0 (formats.F4 head))
    held_mid = subst (AreHeld at slots) is.last held

    low_mid : 0 < length mid
    low_mid = get_low mid 0 (formats.F4 is.first) mid_first

    first_slot : slice_get slots 0 ≡ Some (record { address = at 0; content = Ok (formats.F4 head) })
    first_slot = held_mid 0 ∙ ap (option_map (λ (d : Dscb). record { address = at 0; content = Ok d })) (get_set mid 0 (formats.F4 head) low_mid)

    chain : IsChain slots 1 ess
    chain =
        let h : Dscb = formats.F4 head in
        let opens : map is_open (set cleared 0 h) ≡ map is_open cleared = same_tests is_open cleared 0 (formats.F4 is.first) h cleared_first refl in
        let all : AreHeld at slots (chained at (set cleared 0 h) 1 ess) = subst (AreHeld at slots) (sym (head_over at cleared 1 ess (formats.F4 is.first) h (omega arith) cleared_first refl refl)) held_mid in
        chained_chain at (set cleared 0 h) 1 ess slots is.some (room_alike cleared (set cleared 0 h) 1 ess opens is.room) is.one (get_set_other cleared 0 1 h (λ e. omega (arith, e)) ∙ cleared_second) is.open_one all

    count_slots : (q : Result Dscb DscbErr → Bool) → q (Ok (formats.F4 head)) ≡ q (Ok (formats.F4 is.first)) → count_by (λ (s : VtocSlot). q s.content) slots ≡ count_by (λ (d : Dscb). q (Ok d)) mid
    count_slots q same = counts_alike (λ (s : VtocSlot). q s.content) (λ (d : Dscb). q (Ok d)) slots mid
        (held_tests at q slots (set mid 0 (formats.F4 head)) held_mid ∙ same_tests (λ (d : Dscb). q (Ok d)) mid 0 (formats.F4 is.first) (formats.F4 head) mid_first same)

    front_none : fives (take 1 cleared) ≡ 0
    front_none = by_list cleared cleared_first
      where
        by_list : (l : List Dscb) → slice_get l 0 ≡ Some (formats.F4 is.first) → fives (take 1 l) ≡ 0
        by_list [] there = cc
        by_list (x ∷ l) there =
            let same : x ≡ formats.F4 is.first = cc in
            let none : take 0 l ≡ [] = empty l in
            let front : take 1 (x ∷ l) ≡ x ∷ take 0 l = refl in
            ap fives front ∙ ap (λ (r : List Dscb). fives (x ∷ r)) none ∙ ap (λ (y : Dscb). fives (y ∷ [])) same
          where
            empty : {X : Type 0} (ys : List X) → take 0 ys ≡ []
            empty [] = refl
            empty (y ∷ ys) = refl

    alone : count_by (λ (s : VtocSlot). is_f5 s.content) slots ≡ length ess
    alone = count_slots is_f5 refl ∙ chained_fives at cleared 1 ess is.one is.some is.room cleared_second is.open_one none_behind ∙ ap (λ (n : ℕ). n + length ess) front_none ∙ omega arith

    -- a format 3 is one that a data set leads to
    third_used : (k : ℕ) (d : Dscb) → slice_get (set mid 0 (formats.F4 head)) k ≡ Some d → is_f3 (Ok d) ≡ true → is_pointed cleared (at k) ≡ true
    third_used zero d there third =
        let same : formats.F4 head ≡ d = let both : Some (formats.F4 head) ≡ Some d = sym (get_set mid 0 (formats.F4 head) low_mid) ∙ there in cc in
        let both : false ≡ true = ap (λ (x : Dscb). is_f3 (Ok x)) same ∙ third in
        absurd cc
    third_used (suc zero) d there third =
        let was : slice_get mid 1 ≡ Some d = sym (get_set_other mid 0 1 (formats.F4 head) (λ e. omega (arith, e))) ∙ there in
        ⊎_elim
        (λ five. absurd (not_both d five third))
        (λ old.
        let same : is.one ≡ d = let both : Some is.one ≡ Some d = sym cleared_second ∙ old in cc in
        absurd (not_open d (sym (ap is_open same) ∙ is.open_one) third))
        (chained_item at cleared 1 1 ess d was)
      where
        not_both : (d : Dscb) → is_five d ≡ true → is_f3 (Ok d) ≡ true → ⊥
        not_both formats.F0 five third = cc
        not_both (formats.F1 f) five third = cc
        not_both (formats.F3 f) five third = cc
        not_both (formats.F4 f) five third = cc
        not_both (formats.F5 f) five third = cc

        not_open : (d : Dscb) → is_open d ≡ true → is_f3 (Ok d) ≡ true → ⊥
        not_open formats.F0 opened third = cc
        not_open (formats.F1 f) opened third = cc
        not_open (formats.F3 f) opened third = cc
        not_open (formats.F4 f) opened third = cc
        not_open (formats.F5 f) opened third = cc
    third_used (suc (suc k)) d there third =
        let n : ℕ = suc (suc k) in
        let was : slice_get mid n ≡ Some d = sym (get_set_other mid 0 n (formats.F4 head) (λ e. omega (arith, e))) ∙ there in
        ⊎_elim
        (λ five. absurd (not_both d five third))
        (λ old. ⊎_elim
        (λ zeros. let both : false ≡ true = sym (ap (λ (x : Dscb). is_f3 (Ok x)) zeros) ∙ third in absurd cc)
        (λ both. cleared_pointed at (length ds) ds cleared is.clears (at n) ∙ pointed d (is_pointed ds (at n)) third both.1)
        (kept_item n d (omega arith) old))
        (chained_item at cleared 1 n ess d was)
      where
        not_both : (d : Dscb) → is_five d ≡ true → is_f3 (Ok d) ≡ true → ⊥
        not_both formats.F0 five third = cc
        not_both (formats.F1 f) five third = cc
        not_both (formats.F3 f) five third = cc
        not_both (formats.F4 f) five third = cc
        not_both (formats.F5 f) five third = cc

        pointed : (d : Dscb) (t : Bool) → is_f3 (Ok d) ≡ true → (is_f5 (Ok d) || (is_f3 (Ok d) && not t)) ≡ false → t ≡ true
        pointed formats.F0 t third extra = cc
        pointed (formats.F1 f) t third extra = cc
        pointed (formats.F3 f) true third extra = refl
        pointed (formats.F3 f) false third extra = cc
        pointed (formats.F4 f) t third extra = cc
        pointed (formats.F5 f) t third extra = cc

    -- and that data set stands in the slots
    used_there : (k : ℕ) (s : VtocSlot) → s.address ≡ at k → is_f3 s.content ≡ true → is_pointed cleared (at k) ≡ true → is_used slots s ≡ true
    used_there k s address third any =
        let one = one_passes (points_to (at k)) cleared any in
        by_content one.0 one.1 one.2 one.3
      where
        by_content : (j : ℕ) (d : Dscb) → slice_get cleared j ≡ Some d → points_to (at k) d ≡ true → is_used slots s ≡ true
        by_content j formats.F0 there points = cc
        by_content j (formats.F1 f) there points =
            let parts = and_parts (is_chained f) (bytes_eq (at k) f.pointer) points in
            let stays : slice_get mid j ≡ Some (formats.F1 f) = chained_closed at cleared 1 j ess is.one (formats.F1 f) is.room cleared_second is.open_one there refl in
            let apart : j ≢ 0 = λ e. let both : Some (formats.F1 f) ≡ Some (formats.F4 is.first) = sym there ∙ ap (slice_get cleared) e ∙ cleared_first in absurd cc in
            let last : slice_get (set mid 0 (formats.F4 head)) j ≡ Some (formats.F1 f) = get_set_other mid 0 j (formats.F4 head) apart ∙ stays in
            let slot : slice_get slots j ≡ Some (record { address = at j; content = Ok (formats.F1 f) }) = held_mid j ∙ ap (option_map (λ (x : Dscb). record { address = at j; content = Ok x })) last in
            let leads : leads_to (Ok (formats.F1 f)) s ≡ true =
            ap (λ (t : Bool). t && (bytes_eq s.address f.pointer && is_f3 s.content)) parts.0
            ∙ ap (λ (a : List ℕ). bytes_eq a f.pointer && is_f3 s.content) address
            ∙ ap (λ (t : Bool). t && is_f3 s.content) parts.1
            ∙ third in
            any_passes (λ (t : VtocSlot). leads_to t.content s) slots j (record { address = at j; content = Ok (formats.F1 f) }) slot leads
        by_content j (formats.F3 f) there points = cc
        by_content j (formats.F4 f) there points = cc
        by_content j (formats.F5 f) there points = cc

    used : list_all (λ (s : VtocSlot). not (is_f3 s.content) || is_used slots s) slots ≡ true
    used = all_pass (λ (s : VtocSlot). not (is_f3 s.content) || is_used slots s) slots (λ k s there.
        let item = held_item at slots (set mid 0 (formats.F4 head)) k s held_mid there in
        by_third k s item.0 item.1 item.2 (is_f3 s.content) refl)
      where
        by_third : (k : ℕ) (s : VtocSlot) (d : Dscb) → slice_get (set mid 0 (formats.F4 head)) k ≡ Some d → s ≡ record { address = at k; content = Ok d } → (t : Bool) → is_f3 s.content ≡ t → (not t || is_used slots s) ≡ true
        by_third k s d there same false third = refl
        by_third k s d there same true third =
            let content : is_f3 (Ok d) ≡ true = sym (ap (λ (x : VtocSlot). is_f3 x.content) same) ∙ third in
            used_there k s (ap (λ (x : VtocSlot). x.address) same) third (third_used k d there content)

    -- so the VTOC is settled
    pub rebuilt_settled : (volume : Volume) → free_entries volume ≡ ess → head.highest ≡ highest_of slots → AreSettled slots volume
    rebuilt_settled volume entries highest = record {
      head = head;
      first = ap (option_and_then (λ (s : VtocSlot). head_in s.content)) first_slot;
      bits = is.bits;
      chain = subst (IsChain slots 1) (sym entries) chain;
      free = is.free ∙ sym (count_slots is_f0 refl);
      highest = highest;
      used = used;
      alone = alone ∙ ap length (sym entries);
    }
