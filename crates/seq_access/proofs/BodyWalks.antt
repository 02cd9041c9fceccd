-- The body of a sequential data set, by what stands on its tracks.
use Rattle.std.proofs.Common.{◌≡◌, ◌≢◌, ◌<◌, ◌≤◌, ◌+◌, ◌-◌, ℕ, zero, suc, Bool, true, false, cond, not, List, [], map, Option, Some, None, inl, inr, refl, sym, ap, ap₂, ◌∙◌, arith}
use Rattle.std.specs.Prelude.{is_none, nat_lt, position, unwrap_or}
use Rattle.std.specs.List.{flat_map, list_any, position_or_len, range_with_len}
use Rattle.std.proofs.lemmas.Bool.Decides.{nat_tests, eqb_tells}
use Rattle.std.proofs.lemmas.List.FromFn.{length-map-range_with_len}
use Rattle.ckd_image.specs.declared.header.Geometry.{Geometry}
use Rattle.pack_spec.specs.Blocks.{blocks_at, has_no_block, last_of, owned_tracks, seq_body, seq_of, seq_unless}
use Rattle.pack_spec.proofs.BlockBodies.{tracks_read}
use Rattle.pack_spec.proofs.SetNames.{neither}
use Rattle.vol_model.specs.declared.contents.Block.{Block}
use Rattle.vol_model.specs.declared.contents.Body.{Body}
use Rattle.vol_model.specs.declared.contents.Body.TheVariants.{Seq, Unreadable}
use Rattle.vol_model.specs.declared.contents.Place.{Place}
use Rattle.vol_model.specs.declared.contents.Run.{Run}

abbrev Tracks : Type 0
Tracks = ℕ → Option (List Block)

nothing : {X : Type 0} (o : Option X) → o ≢ None → is_none o ≡ false
nothing None some = absurd (some refl)
nothing (Some x) some = refl

something : {X : Type 0} (o : Option X) → is_none o ≡ false → o ≢ None
something None e is = cc
something (Some x) e is = cc

-- the first track of a range that has no blocks
abbrev first_none : List (Option (List Block)) → ℕ
first_none tracks = position_or_len (λ o. is_none o) tracks

one_more : (b : Bool) (n m : ℕ) → b ≡ false → m ≡ n → cond (not b) (1 + m) 0 ≡ suc n
one_more true n m e is = cc
one_more false n m e is = omega (arith, is)

here : (b : Bool) (m : ℕ) → b ≡ true → cond (not b) (1 + m) 0 ≡ 0
here true m e = refl
here false m e = cc

module _ (f : Tracks) where
  all_passed : (n low : ℕ) → ((j : ℕ) → low ≤ j → j < low + n → f j ≢ None) → first_none (map f (range_with_len low n)) ≡ n
  all_passed zero low some = refl
  all_passed (suc n) low some =
      one_more (is_none (f low)) n _ (nothing (f low) (some low (omega arith) (omega arith))) (all_passed n (low + 1) (λ j l u. some j (omega (arith, l)) (omega (arith, u))))

  passed_to : (n low k : ℕ) → low ≤ k → k < low + n → ((j : ℕ) → low ≤ j → j < k → f j ≢ None) → f k ≡ None → first_none (map f (range_with_len low n)) ≡ k - low
  passed_to zero low k l u some none = absurd (omega (arith, l, u))
  passed_to (suc n) low k l u some none = elim (eqb_tells low k) [
    | inl w ↦
        let is : is_none (f low) ≡ true = ap (λ j. is_none (f j)) w.1 ∙ ap (λ o. is_none o) none in
        here (is_none (f low)) _ is ∙ (let same : 0 ≡ k - low = omega (arith, w.1) in same)
    | inr w ↦
        let past : low < k = omega (arith, l, w.1) in
        let rest = passed_to n (low + 1) k (omega (arith, past)) (omega (arith, u)) (λ j a b. some j (omega (arith, a)) b) none in
        one_more (is_none (f low)) (k - (low + 1)) _ (nothing (f low) (some low (omega arith) past)) rest ∙ (let same : suc (k - (low + 1)) ≡ k - low = omega (arith, past) in same)
  ]

  pub none_first : (n : ℕ) → ((j : ℕ) → j < n → f j ≢ None) → position (λ o. is_none o) (map f (range_with_len 0 n)) ≡ None
  none_first n some =
      ap₂ (λ (a b : ℕ). cond (nat_lt a b) (Some a) None) (all_passed n 0 (λ j l u. some j (omega (arith, u)))) (length-map-range_with_len f 0 n)
      ∙ ap (λ (b : Bool). cond b (Some n) None) (not_less n)
    where
      not_less : (n : ℕ) → nat_lt n n ≡ false
      not_less n = grind (arith, nat_tests)

  pub first_is : (n k : ℕ) → k < n → ((j : ℕ) → j < k → f j ≢ None) → f k ≡ None → position (λ o. is_none o) (map f (range_with_len 0 n)) ≡ Some k
  first_is n k low some none =
      ap₂ (λ (a b : ℕ). cond (nat_lt a b) (Some a) None) (passed_to n 0 k (omega arith) (omega (arith, low)) (λ j l u. some j u) none ∙ same k) (length-map-range_with_len f 0 n)
      ∙ ap (λ (b : Bool). cond b (Some k) None) (less k n low)
    where
      same : (k : ℕ) → k - 0 ≡ k
      same k = omega arith

      less : (k n : ℕ) → k < n → nat_lt k n ≡ true
      less k n low = grind (arith, nat_tests)

  each_there : (n low : ℕ) → list_any (λ o. is_none o) (map f (range_with_len low n)) ≡ false → (j : ℕ) → low ≤ j → j < low + n → f j ≢ None
  each_there zero low none j l u = absurd (omega (arith, l, u))
  each_there (suc n) low none j l u =
      let parts = neither (is_none (f low)) (list_any (λ o. is_none o) (map f (range_with_len (low + 1) n))) none in
      elim (eqb_tells low j) [
        | inl w ↦ something (f j) (ap (λ i. is_none (f i)) (sym w.1) ∙ parts.0)
        | inr w ↦ each_there n (low + 1) parts.1 j (omega (arith, l, w.1)) (omega (arith, u))
      ]

  -- the blocks on so many tracks
  abbrev pub blocks_on_tracks : ℕ → List Block
  blocks_on_tracks n = flat_map (λ o. unwrap_or o []) (map f (range_with_len 0 n))

module _ (g : Geometry) (tracks : List (List ℕ)) (extents : List Run) (lstar : List ℕ) where
  abbrev last : Place
  last = last_of lstar

  abbrev at : Tracks
  at = blocks_at g tracks (owned_tracks extents) last

  abbrev body : Body
  body = seq_body g tracks extents lstar

  -- where no block stands in the set, there are none
  pub body_none : has_no_block lstar ≡ true → body ≡ Seq []
  unfolding seq_body
  body_none is = ap (λ (b : Bool). cond b (Seq []) (seq_of (map at (range_with_len 0 (last.tt + 1))))) is

  walked : has_no_block lstar ≡ false → body ≡ seq_of (map at (range_with_len 0 (last.tt + 1)))
  unfolding seq_body
  walked is = ap (λ (b : Bool). cond b (Seq []) (seq_of (map at (range_with_len 0 (last.tt + 1))))) is

  -- where no track breaks it, all are there
  pub body_all : has_no_block lstar ≡ false → ((j : ℕ) → j < last.tt + 1 → at j ≢ None) → body ≡ Seq (blocks_on_tracks at (last.tt + 1))
  body_all is some = walked is ∙ ap (λ (o : Option ℕ). seq_unless o (blocks_on_tracks at (last.tt + 1))) (none_first at (last.tt + 1) some)

  -- where one does, the first of these is told
  pub body_broken : (k : ℕ) → has_no_block lstar ≡ false → k ≤ last.tt → ((j : ℕ) → j < k → at j ≢ None) → at k ≡ None → body ≡ Unreadable k
  body_broken k is low some none = walked is ∙ ap (λ (o : Option ℕ). seq_unless o (blocks_on_tracks at (last.tt + 1))) (first_is at (last.tt + 1) k (omega (arith, low)) some none)

  -- a body that can be read has the blocks on all its tracks, and none breaks it
  pub body_read : (bs : List Block) → has_no_block lstar ≡ false → body ≡ Seq bs → ((j : ℕ) → j < last.tt + 1 → at j ≢ None) × (blocks_on_tracks at (last.tt + 1) ≡ bs)
  body_read bs is has =
      let read = tracks_read (map at (range_with_len 0 (last.tt + 1))) bs (sym (walked is) ∙ has) in
      (λ j low. each_there at (last.tt + 1) 0 read.0 j (omega arith) (omega (arith, low)), read.1)
