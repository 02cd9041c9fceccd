-- The directory of a partitioned data set as a store of blocks, one of which has another key and other data.
use Rattle.std.proofs.Common.{◌≡◌, ◌⊎◌, ◌+◌, ◌≤◌, ◌<◌, ℕ, zero, suc, Bool, true, false, cond, not, List, [], ◌∷◌, ◌++◌, length, map, Option, Some, None, inl, inr, refl, sym, ap, ap₂, ◌∙◌, subst, arith}
use Rattle.std.specs.Prelude.{is_none, nat_lt, position, slice_get, slice_set, unwrap_or}
use Rattle.std.specs.List.{AllByRecursion, filter, flat_map, position_or_len, range_with_len}
use Rattle.std.specs.Option.{option_map}
use Rattle.std.proofs.lemmas.Bool.Decides.{nat_tests}
use Rattle.ckd_image.specs.declared.header.Geometry.{Geometry}
use Rattle.ckd_image.specs.Track.{Record}
use Rattle.vol_model.specs.declared.contents.Block.{Block}
use Rattle.vol_model.specs.declared.contents.Place.{Place}
use Rattle.vol_model.specs.Places.{is_before}
use Rattle.pack_spec.specs.Blocks.{block_at, blocks_from}
use Rattle.pack_spec.specs.Directories.{before_end, behind_end, part_at, part_tracks}
use Rattle.pack_spec.proofs.PartBodies.{read_at}
use Rattle.stow_ops.proofs.WrittenBlocks.{change_here, change_other, rewritten}

-- ---- blocks of which one is changed

abbrev pub blocks_of : List (Option (List Block)) → List Block
blocks_of tracks = flat_map (λ o. unwrap_or o []) tracks

module _ (h : Block → Block) where
  map_both : (xs ys : List Block) → map h (xs ++ ys) ≡ map h xs ++ map h ys
  map_both [] ys = refl
  map_both (x ∷ xs) ys = ap (λ (l : List Block). h x ∷ l) (map_both xs ys)

  pub all_changed : (tracks : List (Option (List Block))) → blocks_of (map (option_map (map h)) tracks) ≡ map h (blocks_of tracks)
  all_changed [] = refl
  all_changed (o ∷ tracks) = ap₂ (λ (x y : List Block). x ++ y) (by o) (all_changed tracks) ∙ sym (map_both (unwrap_or o []) (blocks_of tracks))
    where
      by : (o : Option (List Block)) → unwrap_or (option_map (map h) o) [] ≡ map h (unwrap_or o [])
      by None = refl
      by (Some bs) = refl

  -- a track breaks the body as before
  pub broken_same : (tracks : List (Option (List Block))) → position (λ o. is_none o) (map (option_map (map h)) tracks) ≡ position (λ o. is_none o) tracks
  broken_same tracks = ap₂ (λ (m n : ℕ). cond (nat_lt m n) (Some m) None) (reached tracks) (long tracks)
    where
      each : (o : Option (List Block)) → is_none (option_map (map h) o) ≡ is_none o
      each None = refl
      each (Some bs) = refl

      reached : (ts : List (Option (List Block))) → position_or_len (λ o. is_none o) (map (option_map (map h)) ts) ≡ position_or_len (λ o. is_none o) ts
      reached [] = refl
      reached (o ∷ ts) = ap₂ (λ (b : Bool) (n : ℕ). cond (not b) (1 + n) 0) (each o) (reached ts)

      long : (ts : List (Option (List Block))) → length (map (option_map (map h)) ts) ≡ length ts
      long [] = refl
      long (o ∷ ts) = ap suc (long ts)

  module _ (kept : (b : Block) → (h b).place ≡ b.place) where
    pub places_same : (bs : List Block) → map (λ (b : Block). b.place) (map h bs) ≡ map (λ (b : Block). b.place) bs
    places_same [] = refl
    places_same (b ∷ bs) = ap₂ (λ (p : Place) (ps : List Place). p ∷ ps) (kept b) (places_same bs)

    pub before_same : (end : Place) (bs : List Block) → before_end end (map h bs) ≡ map h (before_end end bs)
    before_same end [] = refl
    before_same end (b ∷ bs) = ap₂ (λ (c : Bool) (l : List Block). cond c (h b ∷ l) l) (ap (λ (p : Place). is_before p end) (kept b)) (before_same end bs) ∙ by (is_before b.place end)
      where
        by : (c : Bool) → cond c (h b ∷ map h (before_end end bs)) (map h (before_end end bs)) ≡ map h (cond c (b ∷ before_end end bs) (before_end end bs))
        by true = refl
        by false = refl

    pub behind_same : (end : Place) (bs : List Block) → ((b : Block) → is_before end b.place ≡ true → h b ≡ b) → behind_end end (map h bs) ≡ behind_end end bs
    behind_same end [] none = refl
    behind_same end (b ∷ bs) none = ap₂ (λ (c : Bool) (l : List Block). cond c (h b ∷ l) l) (ap (λ (p : Place). is_before end p) (kept b)) (behind_same end bs none) ∙ by (is_before end b.place) refl
      where
        by : (c : Bool) → is_before end b.place ≡ c → cond c (h b ∷ behind_end end bs) (behind_end end bs) ≡ cond c (b ∷ behind_end end bs) (behind_end end bs)
        by true is = ap (λ (x : Block). x ∷ behind_end end bs) (none b is)
        by false is = refl

-- no place stands both before and after another
pub not_both : (p q : Place) → is_before p q ≡ true → is_before q p ≡ true → ⊥
not_both p q first second = grind (arith, nat_tests)

-- ---- each block stands after those before it

abbrev pub IsBehind : Place → Place → Type 0
IsBehind p q = (p.tt < q.tt) ⊎ ((p.tt ≡ q.tt) × (p.r < q.r))

abbrev pub AreBehind : Place → List Block → Type 0
AreBehind p bs = AllByRecursion (λ (b : Block). IsBehind p b.place) bs

abbrev pub AreApart : List Block → Type 0
AreApart [] = Unit {0}
AreApart (b ∷ bs) = AreBehind b.place bs × AreApart bs

module _ (P : Block → Type 0) where
  all_both : (xs ys : List Block) → AllByRecursion P xs → AllByRecursion P ys → AllByRecursion P (xs ++ ys)
  all_both [] ys first second = second
  all_both (x ∷ xs) ys first second = (first.0, all_both xs ys first.1 second)

  all_filter : (p : Block → Bool) (xs : List Block) → AllByRecursion P xs → AllByRecursion P (filter p xs)
  all_filter p [] all = tt
  all_filter p (x ∷ xs) all = by (p x) (all_filter p xs all.1)
    where
      by : (c : Bool) → AllByRecursion P (filter p xs) → AllByRecursion P (cond c (x ∷ filter p xs) (filter p xs))
      by true rest = (all.0, rest)
      by false rest = rest

  all_at : (xs : List Block) (k : ℕ) (x : Block) → AllByRecursion P xs → slice_get xs k ≡ Some x → P x
  all_at [] k x all is = cc
  all_at (y ∷ xs) zero x all is = let same : y ≡ x = cc in subst P same all.0
  all_at (y ∷ xs) (suc k) x all is = all_at xs k x all.1 is

all_more : (P Q : Block → Type 0) (xs : List Block) → ((x : Block) → P x → Q x) → AllByRecursion P xs → AllByRecursion Q xs
all_more P Q [] more all = tt
all_more P Q (x ∷ xs) more all = (more x all.0, all_more P Q xs more all.1)

pub apart_filter : (p : Block → Bool) (bs : List Block) → AreApart bs → AreApart (filter p bs)
apart_filter p [] apart = tt
apart_filter p (b ∷ bs) apart = by (p b) (apart_filter p bs apart.1)
  where
    by : (c : Bool) → AreApart (filter p bs) → AreApart (cond c (b ∷ filter p bs) (filter p bs))
    by true rest = (all_filter (λ (x : Block). IsBehind b.place x.place) p bs apart.0, rest)
    by false rest = rest

-- on tracks below a number, and from it on
abbrev AreFrom : ℕ → List Block → Type 0
AreFrom k bs = AllByRecursion (λ (b : Block). k ≤ b.place.tt) bs

abbrev AreOn : ℕ → ℕ → List Block → Type 0
AreOn k r bs = AllByRecursion (λ (b : Block). (b.place.tt ≡ k) × (r ≤ b.place.r)) bs

apart_both : (k : ℕ) (xs ys : List Block) → AllByRecursion (λ (b : Block). b.place.tt ≡ k) xs → AreApart xs → AreFrom (k + 1) ys → AreApart ys → AreApart (xs ++ ys)
apart_both k [] ys on first from second = second
apart_both k (x ∷ xs) ys on first from second = (
  all_both (λ (b : Block). IsBehind x.place b.place) xs ys first.0 (all_more (λ (b : Block). k + 1 ≤ b.place.tt) (λ (b : Block). IsBehind x.place b.place) ys (λ b low. inl (omega (arith, low, on.0))) from),
  apart_both k xs ys on.1 first.1 from second,
)

on_track : (k r : ℕ) (xs : List Record) → AreOn k r (blocks_from k r xs) × AreApart (blocks_from k r xs)
on_track k r [] = (tt, tt)
on_track k r (x ∷ xs) =
    let rest = on_track k (r + 1) xs in
    let high = all_more (λ (b : Block). (b.place.tt ≡ k) × (r + 1 ≤ b.place.r)) (λ (b : Block). (b.place.tt ≡ k) × (r ≤ b.place.r)) (blocks_from k (r + 1) xs) (λ b on. (on.0, omega (arith, on.1))) rest.0 in
    let behind = all_more (λ (b : Block). (b.place.tt ≡ k) × (r + 1 ≤ b.place.r)) (λ (b : Block). IsBehind (block_at k r x).place b.place) (blocks_from k (r + 1) xs) (λ b on. inr (sym on.0, omega (arith, on.1))) rest.0 in
    (((refl, omega arith), high), (behind, rest.1))

module _ (g : Geometry) (a : List (List ℕ)) (owned : List ℕ) (end to : Place) where
  one_track : (k : ℕ) (o : Option (List Block)) → part_at g a owned end to k ≡ o → AllByRecursion (λ (b : Block). b.place.tt ≡ k) (unwrap_or o []) × AreApart (unwrap_or o [])
  one_track k None is = (tt, tt)
  one_track k (Some bs) is =
      let read = read_at g a owned end to k (ap (λ (o : Option (List Block)). is_none o) is) in
      let same : blocks_from k 1 read.xs ≡ bs = some_same (blocks_from k 1 read.xs) bs (sym read.blocks ∙ is) in
      let on = on_track k 1 read.xs in
      subst (λ (l : List Block). AllByRecursion (λ (b : Block). b.place.tt ≡ k) l × AreApart l) same
      (all_more (λ (b : Block). (b.place.tt ≡ k) × (1 ≤ b.place.r)) (λ (b : Block). b.place.tt ≡ k) (blocks_from k 1 read.xs) (λ b on. on.0) on.0, on.1)
    where
      some_same : (x y : List Block) → Some x ≡ Some y → x ≡ y
      some_same x y e = cc

  tracks_from : (n low : ℕ) → AreFrom low (blocks_of (map (part_at g a owned end to) (range_with_len low n))) × AreApart (blocks_of (map (part_at g a owned end to) (range_with_len low n)))
  tracks_from zero low = (tt, tt)
  tracks_from (suc n) low =
      let here = one_track low (part_at g a owned end to low) refl in
      let rest = tracks_from n (low + 1) in
      let mine : List Block = unwrap_or (part_at g a owned end to low) [] in
      let others : List Block = blocks_of (map (part_at g a owned end to) (range_with_len (low + 1) n)) in (
        all_both (λ (b : Block). low ≤ b.place.tt) mine others
            (all_more (λ (b : Block). b.place.tt ≡ low) (λ (b : Block). low ≤ b.place.tt) mine (λ b on. omega (arith, on)) here.0)
            (all_more (λ (b : Block). low + 1 ≤ b.place.tt) (λ (b : Block). low ≤ b.place.tt) others (λ b on. omega (arith, on)) rest.0),
        apart_both low mine others here.0 here.1 rest.0 rest.1,
      )

  pub all_apart : AreApart (blocks_of (part_tracks g a owned end to))
  unfolding part_tracks
  all_apart = (tracks_from (to.tt + 1) 0).1

-- ---- one block of a list is changed

module _ {X : Type 0} (f : Block → X) (key content : List ℕ) where
  none_changed : (p : Place) (bs : List Block) → AreBehind p bs → map f (map (rewritten p key content) bs) ≡ map f bs
  none_changed p [] behind = refl
  none_changed p (b ∷ bs) behind = ap₂ (λ (x : X) (xs : List X). x ∷ xs) (ap f (change_other p key content b (λ same. apart b same behind.0))) (none_changed p bs behind.1)
    where
      apart : (b : Block) → b.place ≡ p → IsBehind p b.place → ⊥
      apart b same (inl low) = omega (arith, low, ap (λ (q : Place). q.tt) same)
      apart b same (inr low) = omega (arith, low.1, ap (λ (q : Place). q.r) same)

  pub one_changed : (bs : List Block) (k : ℕ) (b : Block) (p : Place) → b.place ≡ p → AreApart bs → slice_get bs k ≡ Some b → map f (map (rewritten p key content) bs) ≡ slice_set (map f bs) k (f (record { place = p; key = key; payload = content }))
  one_changed [] k b p at apart is = cc
  one_changed (c ∷ bs) zero b p at apart is =
      let same : c ≡ b = cc in
      let here : c.place ≡ p = ap (λ (x : Block). x.place) same ∙ at in
      ap₂ (λ (x : X) (xs : List X). x ∷ xs) (ap f (change_here p key content c here ∙ ap (λ (q : Place). record { place = q; key = key; payload = content }) here)) (none_changed p bs (subst (λ (q : Place). AreBehind q bs) here apart.0))
  one_changed (c ∷ bs) (suc k) b p at apart is =
      let behind : IsBehind c.place b.place = all_at (λ (x : Block). IsBehind c.place x.place) bs k b apart.0 is in
      ap₂ (λ (x : X) (xs : List X). x ∷ xs) (ap f (change_other p key content c (λ same. other behind (same ∙ sym at)))) (one_changed bs k b p at apart.1 is)
    where
      other : IsBehind c.place b.place → c.place ≡ b.place → ⊥
      other (inl low) same = omega (arith, low, ap (λ (q : Place). q.tt) same)
      other (inr low) same = omega (arith, low.1, ap (λ (q : Place). q.r) same)
