-- The VTOC of a new pack is settled.
use Rattle.std.proofs.Common.{◌≡◌, ◌+◌, ◌-◌, ◌*◌, ◌/◌, ℕ, zero, suc, Bool, true, false, cond, ◌||◌, ◌&&◌, not, List, [], ◌∷◌, ◌++◌, filter, map, length, replicate, Ok, None, refl, ap, ap₂, sym, subst, ◌∙◌, arith, if◌then◌else◌}
use Rattle.std.specs.Prelude.{◌==◌, count_by, unwrap_or, Result}
use Rattle.std.specs.List.{last_or, list_all}
use Rattle.std.proofs.lemmas.List.Sums.{sum_by-cons}
use Rattle.std.proofs.lemmas.Bool.Decides.{nat_tests}
use Rattle.ckd_image.specs.declared.header.Geometry.{Geometry}
use Rattle.dscb_codec.specs.declared.Dscb.{Dscb}
use Rattle.dscb_codec.specs.declared.Dscb.TheVariants as formats
use Rattle.dscb_codec.specs.declared.DscbErr.{DscbErr}
use Rattle.pack_spec.specs.declared.slot.VtocSlot.{VtocSlot}
use Rattle.pack_spec.specs.FreeChain.{IsChain, entries_of, free_entries}
use Rattle.pack_spec.specs.Label.{heads_of, tracks_of}
use Rattle.pack_spec.specs.New.{IsNewPack, half, new_f4, new_f5, new_slots, new_volume, no_entry, space_entry}
use Rattle.pack_spec.specs.Rules.{is_f3}
use Rattle.pack_spec.specs.Settled.{AreSettled, is_f0, is_f1, is_f5, is_used}
use Rattle.pack_init.proofs.ReadLemmas.{few_cylinders}
use Rattle.pack_init.proofs.SlotLemmas.{AreFree}
use Rattle.pack_init.proofs.SpaceLemmas.{free_runs_are, spaces}

not_none : (k : ℕ) → (suc k == 0) ≡ false
not_none k = grind (arith, nat_tests)

-- the one entry of the free space, if there is any
entries_are : (g : Geometry) (n k : ℕ) → k ≡ tracks_of g - (n + 1) → entries_of (heads_of g) (spaces n k) ≡ ((new_f5 g n).front ++ (new_f5 g n).back) ∷ []
unfolding entries_of spaces new_f5
entries_are g n zero e = ap (λ (l : ℕ). (space_entry g (record { start = n + 1; len = l }) ∷ replicate 25 no_entry) ∷ []) e
entries_are g n (suc k) e =
    let few = few_cylinders g.device in
    let ends : n + 1 + heads_of g - 1 ≡ n + 1 + (heads_of g - 1) = omega (arith, few.1.0) in
    let some : (suc k == 0) ≡ false = not_none k in
    let whole : ℕ → ℕ = λ x. (n + 1 + suc k) / heads_of g - x / heads_of g in
    let entry : ℕ → List ℕ = λ x. half (n + 1) ++ (half (whole x) ++ (suc k - whole x * heads_of g) ∷ []) in
    ap (λ (x : ℕ). (entry x ∷ replicate 25 no_entry) ∷ []) ends
    ∙ ap (λ (t : Bool). ((if t then no_entry else entry (n + 1 + (heads_of g - 1))) ∷ replicate 25 no_entry) ∷ []) (sym some)
    ∙ ap (λ (l : ℕ). (space_entry g (record { start = n + 1; len = l }) ∷ replicate 25 no_entry) ∷ []) e

-- a test of what free slots hold
count_more : {X : Type 0} (p : X → Bool) (x : X) (xs : List X) → count_by p (x ∷ xs) ≡ cond (p x) 1 0 + count_by p xs
count_more p x xs = sum_by-cons (λ y. cond (p y) 1 0) x xs

count_free : (test : Result Dscb DscbErr → Bool) (ss : List VtocSlot) → AreFree ss → count_by (λ s. test s.content) ss ≡ cond (test (Ok formats.F0)) (length ss) 0
count_free test [] all = by (test (Ok formats.F0))
  where
    by : (b : Bool) → ◌≡◌ {A = ℕ} 0 (cond b 0 0)
    by true = refl
    by false = refl
count_free test (s ∷ ss) all =
    count_more (λ x. test x.content) s ss
    ∙ ap₂ (λ (b : Bool) (m : ℕ). cond b 1 0 + m) (ap test all.0) (count_free test ss all.1)
    ∙ by (test (Ok formats.F0)) (length ss)
  where
    by : (b : Bool) (m : ℕ) → cond b 1 0 + cond b m 0 ≡ cond b (suc m) 0
    by true m = omega arith
    by false m = omega arith

none_passes : (test : Result Dscb DscbErr → Bool) (ss : List VtocSlot) → AreFree ss → test (Ok formats.F0) ≡ false → filter (λ s. test s.content) ss ≡ []
none_passes test [] all none = refl
none_passes test (s ∷ ss) all none = ap (λ (b : Bool). cond b (s ∷ filter (λ x. test x.content) ss) (filter (λ x. test x.content) ss)) (ap test all.0 ∙ none) ∙ none_passes test ss all.1 none

all_used : (used : VtocSlot → Bool) (ss : List VtocSlot) → AreFree ss → list_all (λ s. not (is_f3 s.content) || used s) ss ≡ true
all_used used [] all = refl
all_used used (s ∷ ss) all = ap₂ (λ (a b : Bool). a && b) (ap (λ (c : Result Dscb DscbErr). not (is_f3 c) || used s) all.0) (all_used used ss all.1)

-- format 4, format 5 and free slots
pub slots_settled : (g : Geometry) (serial : List ℕ) (n : ℕ) → IsNewPack g n → (p q : List ℕ) (others : List VtocSlot) → AreFree others
    → (let x : VtocSlot = record { address = p; content = Ok (formats.F4 (new_f4 g n)) } in let y : VtocSlot = record { address = q; content = Ok (formats.F5 (new_f5 g n)) } in
    length (x ∷ y ∷ others) ≡ new_slots g n → AreSettled (x ∷ y ∷ others) (new_volume g serial n))
unfolding new_f4 new_f5
slots_settled g serial n pack p q others free count =
    let x : VtocSlot = record { address = p; content = Ok (formats.F4 (new_f4 g n)) } in
    let y : VtocSlot = record { address = q; content = Ok (formats.F5 (new_f5 g n)) } in
    let entries : free_entries (new_volume g serial n) ≡ ((new_f5 g n).front ++ (new_f5 g n).back) ∷ [] =
    ap (entries_of (heads_of g)) (free_runs_are g serial n pack) ∙ entries_are g n (tracks_of g - (n + 1)) refl in
    record {
      head = new_f4 g n;
      first = refl;
      bits = refl;
      chain = subst (IsChain (x ∷ y ∷ others) 1) (sym entries) (y, refl, (new_f5 g n, refl, refl, refl));
      free = omega (arith, count, count_more (λ s. is_f0 s.content) x (y ∷ others), count_more (λ s. is_f0 s.content) y others, count_free is_f0 others free);
      highest = sym (ap (λ (ss : List VtocSlot). unwrap_or (last_or None (map (λ s. s.address) ss)) (replicate 5 0)) (none_passes is_f1 others free refl));
      used = all_used (is_used (x ∷ y ∷ others)) others free;
      alone = omega (arith, count_more (λ s. is_f5 s.content) x (y ∷ others), count_more (λ s. is_f5 s.content) y others, count_free is_f5 others free, ap length entries);
    }
