-- Each block of a member is found at its place.
use Rattle.std.proofs.Common.{◌≡◌, ℕ, Bool, true, false, cond, not, ◌&&◌, ◌||◌, List, [], ◌∷◌, ◌++◌, refl, sym, ◌∙◌, ap, subst, arith}
use Rattle.std.proofs.lemmas.Bool.Decides.{nat_tests}
use Rattle.std.proofs.lemmas.List.Sums.{take_while-cons}
use Rattle.std.specs.Prelude.{Result, Ok, nat_lt, ◌==◌, take}
use Rattle.std.specs.List.{AllByRecursion, flat_map, take_while}
use Rattle.vol_model.specs.declared.contents.Block.{Block}
use Rattle.vol_model.specs.declared.contents.Place.{Place}
use Rattle.vol_model.specs.Places.{is_before, is_end_of_file}
use Rattle.vol_model.specs.Reading.{blocks_from, member}
use Rattle.vol_model.proofs.Keeping.{AreBlocks, RiseFrom}
use Rattle.util_steps.specs.Copying.{behind_place}
use Rattle.util_steps.proofs.Progress.{first_passes}
use Rattle.iebcopy_util.specs.Copying.{places}
use Rattle.iebcopy_util.specs.Steps.{AreFound, HasBlocks, blocks_at}
use Rattle.record_files.proofs.BlockLemmas.{left_blocks}

-- ---- the order of places

order_self : (a r : ℕ) → (nat_lt a a || (a == a && nat_lt r r)) ≡ false
order_self a r = grind (arith, nat_tests)

order_from : (a r b s c t : ℕ) → (nat_lt a c || (a == c && nat_lt r t)) ≡ true → (nat_lt b c || (b == c && nat_lt s t)) ≡ false → (nat_lt a b || (a == b && nat_lt r s)) ≡ true
order_from a r b s c t low high = grind (arith, nat_tests)

order_kept : (a r b s c t : ℕ) → (nat_lt a c || (a == c && nat_lt r t)) ≡ false → (nat_lt a b || (a == b && nat_lt r s)) ≡ true → (nat_lt b c || (b == c && nat_lt s t)) ≡ false
order_kept a r b s c t high up = grind (arith, nat_tests)

keep_first : (p : Place) (b : Block) (bs : List Block) → is_before b.place p ≡ false → blocks_from p (b ∷ bs) ≡ b ∷ blocks_from p bs
keep_first p b bs e = ap (λ (t : Bool). cond (not t) (b ∷ blocks_from p bs) (blocks_from p bs)) e

drop_first : (p : Place) (b : Block) (bs : List Block) → is_before b.place p ≡ true → blocks_from p (b ∷ bs) ≡ blocks_from p bs
drop_first p b bs e = ap (λ (t : Bool). cond (not t) (b ∷ blocks_from p bs) (blocks_from p bs)) e

-- blocks that rise from a place are all at or after one that isn't after it
kept_all : (q p : Place) (bs : List Block) → RiseFrom q bs → is_before q p ≡ false → blocks_from p bs ≡ bs
kept_all q p [] rise high = refl
kept_all q p (b ∷ bs) rise high =
    let here : is_before b.place p ≡ false = order_kept q.tt q.r b.place.tt b.place.r p.tt p.r high rise.0 in
    keep_first p b bs here ∙ ap (λ (l : List Block). b ∷ l) (kept_all b.place p bs rise.1 here)

-- the first block at or after a place stands first at its own
at_own_place : (q p : Place) (bs : List Block) (b : Block) (rest : List Block) → RiseFrom q bs → blocks_from p bs ≡ b ∷ rest → blocks_from b.place bs ≡ b ∷ rest
at_own_place q p [] b rest rise is = cc
at_own_place q p (x ∷ xs) b rest rise is = by_test (is_before x.place p) refl (at_own_place x.place p xs b rest rise.1)
  where
    by_test : (t : Bool) → is_before x.place p ≡ t → (blocks_from p xs ≡ b ∷ rest → blocks_from b.place xs ≡ b ∷ rest) → blocks_from b.place (x ∷ xs) ≡ b ∷ rest
    by_test true low others =
        let left : blocks_from p xs ≡ b ∷ rest = sym (drop_first p x xs low) ∙ is in
        let high = first_passes p xs b rest left in
        drop_first b.place x xs (order_from x.place.tt x.place.r b.place.tt b.place.r p.tt p.r low high) ∙ others left
    by_test false high others =
        let both = sym (keep_first p x xs high) ∙ is in
        let same : x ≡ b = cc in
        let left : blocks_from p xs ≡ rest = cc in
        subst (λ (c : Block). blocks_from c.place (x ∷ xs) ≡ c ∷ rest) same
        (keep_first x.place x xs (order_self x.place.tt x.place.r) ∙ ap (λ (l : List Block). x ∷ l) (kept_all x.place x.place xs rise.1 (order_self x.place.tt x.place.r) ∙ sym (kept_all x.place p xs rise.1 high) ∙ left))

-- ---- the blocks of a member

found_up_to : (bs : List Block) (p : Place) (left : List Block) → AreBlocks bs → blocks_from p bs ≡ left → AreFound bs (take_while (λ (b : Block). not (is_end_of_file b)) left)
found_up_to bs p [] are is = tt
found_up_to bs p (b ∷ rest) are is = by_end (is_end_of_file b) refl (found_up_to bs (behind_place b.place) rest are (left_blocks p bs b rest are is))
  where
    by_end : (t : Bool) → is_end_of_file b ≡ t → AreFound bs (take_while (λ (c : Block). not (is_end_of_file c)) rest) → AreFound bs (take_while (λ (c : Block). not (is_end_of_file c)) (b ∷ rest))
    by_end true e others = subst (AreFound bs) (sym (take_while-cons (λ (c : Block). not (is_end_of_file c)) b rest ∙ ap (λ (t : Bool). cond (not t) (b ∷ take_while (λ (c : Block). not (is_end_of_file c)) rest) []) e)) tt
    by_end false e others =
        subst (AreFound bs) (sym (take_while-cons (λ (c : Block). not (is_end_of_file c)) b rest ∙ ap (λ (t : Bool). cond (not t) (b ∷ take_while (λ (c : Block). not (is_end_of_file c)) rest) []) e))
        ((rest, at_own_place (record { tt = 0; r = 0 }) p bs b rest are.rise is), others)

pub member_found : (bs : List Block) (place : Place) → AreBlocks bs → AreFound bs (member bs place)
unfolding member
member_found bs place are = found_up_to bs place (blocks_from place bs) are refl

-- ---- blocks at places

module _ (bs : List Block) where
  abbrev first_at : Place → List Block
  first_at p = take 1 (blocks_from p bs)

  abbrev IsAt : Place → Type 0
  IsAt p = (b : Block) × (rest : List Block) × (blocks_from p bs ≡ b ∷ rest) × (b.place ≡ p)

  all_stand : (ps : List Place) → AllByRecursion IsAt ps → ps ≡ places (flat_map first_at ps)
  all_stand [] all = refl
  all_stand (p ∷ ps) all =
      let one : first_at p ≡ all.0.0 ∷ [] = ap (take 1) all.0.2 in
      ap (λ (l : List Place). p ∷ l) (all_stand ps all.1) ∙ ap (λ (q : Place). q ∷ places (flat_map first_at ps)) (sym all.0.3) ∙ ap (λ (l : List Block). places (l ++ flat_map first_at ps)) (sym one)

  all_found : (ps : List Place) → AllByRecursion IsAt ps → AreFound bs (flat_map first_at ps)
  all_found [] all = tt
  all_found (p ∷ ps) all =
      let one : first_at p ≡ all.0.0 ∷ [] = ap (take 1) all.0.2 in
      subst (λ (l : List Block). AreFound bs (l ++ flat_map first_at ps)) (sym one) ((all.0.1, ap (λ (q : Place). blocks_from q bs) all.0.3 ∙ all.0.2), all_found ps all.1)

  found_at : (found : List Block) → AreFound bs found → flat_map first_at (places found) ≡ found
  found_at [] all = refl
  found_at (b ∷ more) all = ap (λ (l : List Block). take 1 l ++ flat_map first_at (places more)) all.0.1 ∙ ap (λ (l : List Block). b ∷ l) (found_at more all.1)

  are_at : (found : List Block) → AreFound bs found → AllByRecursion IsAt (places found)
  are_at [] all = tt
  are_at (b ∷ more) all = ((b, all.0.0, all.0.1, refl), are_at more all.1)

module _ {input : Result (List Block) ℕ} {ps : List Place} (has : HasBlocks input ps) where
  -- the blocks at places stand there
  pub blocks_stand : ps ≡ places (blocks_at input ps)
  blocks_stand = all_stand has.all ps has.at ∙ ap (λ (r : Result (List Block) ℕ). places (blocks_at r ps)) (sym has.read)

  -- and are found there
  pub blocks_found : AreFound has.all (blocks_at input ps)
  blocks_found = subst (λ (r : Result (List Block) ℕ). AreFound has.all (blocks_at r ps)) (sym has.read) (all_found has.all ps has.at)

module _ (input : Result (List Block) ℕ) (bs : List Block) (start : Place) (ps : List Place) (read : input ≡ Ok bs) (are : AreBlocks bs) (at : ps ≡ places (member bs start)) where
  -- the blocks of a member stand at their places
  pub has_member : HasBlocks input ps
  has_member = record { all = bs; read = read; at = subst (λ (l : List Place). AllByRecursion (IsAt bs) l) (sym at) (are_at bs (member bs start) (member_found bs start are)) }

  -- and are those at their places
  pub member_at : blocks_at input ps ≡ member bs start
  member_at = ap (λ (r : Result (List Block) ℕ). blocks_at r ps) read ∙ ap (flat_map (first_at bs)) at ∙ found_at bs (member bs start) (member_found bs start are)
