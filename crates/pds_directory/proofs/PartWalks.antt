-- The body of a partitioned data set, by what stands on its first tracks.
use Rattle.std.proofs.Common.{◌≡◌, ◌≢◌, ◌⊎◌, ◌+◌, ◌-◌, ◌≤◌, ◌<◌, min, ℕ, zero, suc, Bool, true, false, cond, inl, inr, List, [], ◌∷◌, ◌++◌, length, map, Option, Some, None, refl, sym, ap, ◌∙◌, subst, append_assoc, arith}
use Rattle.std.specs.Prelude.{is_none, position, unwrap_or}
use Rattle.std.specs.List.{AllByRecursion, flat_map, range_with_len}
use Rattle.std.specs.Option.{option_map}
use Rattle.std.proofs.lemmas.Bool.Decides.{leb_tells, nat_tests}
use Rattle.std.proofs.lemmas.List.Elements.{filter-append}
use Rattle.std.proofs.lemmas.List.FromFn.{get_or-map-range_with_len, length-map-range_with_len}
use Rattle.std.proofs.lemmas.List.Quantifiers.{position-Some}
use Rattle.ckd_image.specs.declared.header.Geometry.{Geometry}
use Rattle.ckd_image.specs.Track.{Record}
use Rattle.chain_spec.specs.Kept.{joined, kept}
use Rattle.chain_spec.specs.Store.{Block as Stored, reads}
use Rattle.vol_model.specs.declared.contents.Block.{Block}
use Rattle.vol_model.specs.declared.contents.Body.{Body}
use Rattle.vol_model.specs.declared.contents.Body.TheVariants.{Part, Unreadable}
use Rattle.vol_model.specs.declared.contents.Entry.{Entry}
use Rattle.vol_model.specs.declared.contents.Place.{Place}
use Rattle.vol_model.specs.Places.{is_before}
use Rattle.vol_model.specs.Shelf.{unreadable}
use Rattle.pack_spec.specs.Blocks.{blocks_from}
use Rattle.pack_spec.specs.Directories.{before_end, behind_end, directory_break, entries_of, lower_of, name_number, part_at, part_of, part_tracks, part_unless}
use Rattle.pack_spec.proofs.BlockBodies.{all_there}
use Rattle.pack_spec.proofs.PartBodies.{read_at}
use Rattle.pack_spec.proofs.SetNames.{nowhere}
use Rattle.pds_directory.specs.Reading.{HoldEntries}
use Rattle.pds_directory.proofs.DirectoryBreaks.{StandPast, break_last, break_none, break_read, entries_up_to}

-- ---- the first track that breaks a body

abbrev Tracks : Type 0
Tracks = ℕ → Option (List Block)

something : (o : Option (List Block)) → is_none o ≡ false → o ≢ None
something None e is = cc
something (Some x) e is = cc

missing : (o : Option (List Block)) → is_none o ≡ true → o ≡ None
missing None e = refl
missing (Some x) e = cc

module _ (f : Tracks) (n : ℕ) where
  -- the first of so many tracks that has no blocks
  abbrev pub first_none : Option ℕ
  first_none = position (λ o. is_none o) (map f (range_with_len 0 n))

  pub all_some : first_none ≡ None → (j : ℕ) → j < n → f j ≢ None
  all_some is j low = something (f j) (all_there f n 0 (nowhere (λ o. is_none o) (map f (range_with_len 0 n)) is) j (omega arith) (omega (arith, low)))

  -- it has none, and each before it has some
  pub is_first : (i : ℕ) → first_none ≡ Some i → (i < n) × (f i ≡ None) × ((j : ℕ) → j < i → f j ≢ None)
  is_first i is =
      let at = position-Some (λ o. is_none o) (map f (range_with_len 0 n)) i None is in
      let low : i < n = omega (arith, at.0, length-map-range_with_len f 0 n) in
      let one = λ (j : ℕ) (l : j < n). get_or-map-range_with_len f 0 n j j None l (omega arith) in (
        low,
        missing (f i) (ap (λ o. is_none o) (sym (one i low)) ∙ at.1),
        λ j l. something (f j) (ap (λ o. is_none o) (sym (one j (omega (arith, l, low)))) ∙ at.2 j l),
      )

  pub first_past : (k : ℕ) → ((j : ℕ) → j < k → f j ≢ None) → (i : ℕ) → first_none ≡ Some i → k ≤ i
  first_past k whole i is = elim (leb_tells k i) [
    | inl w ↦ w.1
    | inr w ↦ let at = is_first i is in absurd (whole i (omega (arith, w.1)) at.1)
  ]

  pub first_at : (k : ℕ) → k < n → ((j : ℕ) → j < k → f j ≢ None) → f k ≡ None → first_none ≡ Some k
  first_at k low whole none = by first_none refl
    where
      by : (o : Option ℕ) → first_none ≡ o → o ≡ Some k
      by None is = absurd (all_some is k low none)
      by (Some i) is = elim (leb_tells i k) [
        | inl w ↦ let same : i ≡ k = omega (arith, w.1, first_past k whole i is) in ap (λ (m : ℕ). Some m) same
        | inr w ↦ let at = is_first i is in absurd (at.2 k (omega (arith, w.1)) none)
      ]

-- the lower of two tracks that are this one or stand after it, of which one is
pub lower_is : (k : ℕ) (a b : Option ℕ) → ((j : ℕ) → a ≡ Some j → k ≤ j) → ((j : ℕ) → b ≡ Some j → k ≤ j) → (a ≡ Some k) ⊎ (b ≡ Some k) → lower_of a b ≡ Some k
lower_is k None b first second (inl is) = cc
lower_is k None b first second (inr is) = is
lower_is k (Some i) None first second (inl is) = is
lower_is k (Some i) None first second (inr is) = cc
lower_is k (Some i) (Some j) first second (inl is) = let same : i ≡ k = cc in let least : min i j ≡ k = omega (arith, same, second j refl) in ap (λ (m : ℕ). Some m) least
lower_is k (Some i) (Some j) first second (inr is) = let same : j ≡ k = cc in let least : min i j ≡ k = omega (arith, same, first i refl) in ap (λ (m : ℕ). Some m) least

-- none breaks a body that can be read
unbroken : (a b : Option ℕ) (body : Body) → unreadable (part_unless (lower_of a b) body) ≡ None → a ≡ None
unbroken None b body is = refl
unbroken (Some i) None body is = cc
unbroken (Some i) (Some j) body is = cc

-- ---- blocks and the directory's end

pub all_both : {X : Type 0} (P : X → Type 0) (xs ys : List X) → AllByRecursion P xs → AllByRecursion P ys → AllByRecursion P (xs ++ ys)
all_both P [] ys first second = second
all_both P (x ∷ xs) ys first second = (first.0, all_both P xs ys first.1 second)

pub all_weaker : {X : Type 0} (P Q : X → Type 0) → ((x : X) → P x → Q x) → (xs : List X) → AllByRecursion P xs → AllByRecursion Q xs
all_weaker P Q h [] all = tt
all_weaker P Q h (x ∷ xs) all = (h x all.0, all_weaker P Q h xs all.1)

-- what holds of blocks holds of those before the end
all_before : (P : Block → Type 0) (end : Place) (bs : List Block) → AllByRecursion P bs → AllByRecursion P (before_end end bs)
all_before P end [] all = tt
all_before P end (b ∷ bs) all = by (is_before b.place end) (all_before P end bs all.1)
  where
    by : (c : Bool) → AllByRecursion P (before_end end bs) → AllByRecursion P (cond c (b ∷ before_end end bs) (before_end end bs))
    by true rest = (all.0, rest)
    by false rest = rest

-- those on earlier tracks stand before it, those on later ones don't
pub all_stand : (end : Place) (bs : List Block) → AllByRecursion (λ (b : Block). b.place.tt < end.tt) bs → before_end end bs ≡ bs
all_stand end [] all = refl
all_stand end (b ∷ bs) all =
    let here : is_before b.place end ≡ true = earlier b.place end all.0 in
    ap (λ (c : Bool). cond c (b ∷ before_end end bs) (before_end end bs)) here ∙ ap (λ (xs : List Block). b ∷ xs) (all_stand end bs all.1)
  where
    earlier : (p q : Place) → p.tt < q.tt → is_before p q ≡ true
    earlier p q low = grind (arith, nat_tests)

pub none_stands : (end : Place) (bs : List Block) → AllByRecursion (λ (b : Block). end.tt < b.place.tt) bs → before_end end bs ≡ []
none_stands end [] all = refl
none_stands end (b ∷ bs) all =
    let here : is_before b.place end ≡ false = later b.place end all.0 in
    ap (λ (c : Bool). cond c (b ∷ before_end end bs) (before_end end bs)) here ∙ none_stands end bs all.1
  where
    later : (p q : Place) → q.tt < p.tt → is_before p q ≡ false
    later p q low = grind (arith, nat_tests)

on_track : (k r : ℕ) (xs : List Record) → AllByRecursion (λ (b : Block). b.place.tt ≡ k) (blocks_from k r xs)
on_track k r [] = tt
on_track k r (x ∷ xs) = (refl, on_track k (r + 1) xs)

-- ---- the tracks of a body

module _ (g : Geometry) (tracks : List (List ℕ)) (owned : List ℕ) (end to : Place) where
  -- the blocks on each relative track
  abbrev pub at : Tracks
  at = part_at g tracks owned end to

  -- those on so many from one on
  abbrev pub blocks_on : ℕ → ℕ → List Block
  blocks_on low n = flat_map (λ o. unwrap_or o []) (map at (range_with_len low n))

  -- those of the directory
  abbrev pub directory : List Block
  directory = before_end end (flat_map (λ o. unwrap_or o []) (part_tracks g tracks owned end to))

  stand_at : (k : ℕ) → AllByRecursion (λ (b : Block). b.place.tt ≡ k) (unwrap_or (at k) [])
  stand_at k = by (at k) refl
    where
      by : (o : Option (List Block)) → at k ≡ o → AllByRecursion (λ (b : Block). b.place.tt ≡ k) (unwrap_or o [])
      by None is = tt
      by (Some bs) is =
          let read = read_at g tracks owned end to k (ap (λ o. is_none o) is) in
          let same : bs ≡ blocks_from k 1 read.xs = cc in
          subst (AllByRecursion (λ (b : Block). b.place.tt ≡ k)) (sym same) (on_track k 1 read.xs)

  stand_on : (n low : ℕ) → AllByRecursion (λ (b : Block). (low ≤ b.place.tt) × (b.place.tt < low + n)) (blocks_on low n)
  stand_on zero low = tt
  stand_on (suc n) low =
      all_both _ (unwrap_or (at low) []) (blocks_on (low + 1) n)
      (all_weaker (λ (b : Block). b.place.tt ≡ low) (λ (b : Block). (low ≤ b.place.tt) × (b.place.tt < low + suc n)) (λ b is. (omega (arith, is), omega (arith, is))) (unwrap_or (at low) []) (stand_at low))
      (all_weaker (λ (b : Block). (low + 1 ≤ b.place.tt) × (b.place.tt < low + 1 + n)) (λ (b : Block). (low ≤ b.place.tt) × (b.place.tt < low + suc n)) (λ b is. (omega (arith, is.0), omega (arith, is.1))) (blocks_on (low + 1) n) (stand_on n (low + 1)))

  in_two : (k low n : ℕ) → blocks_on low (k + n) ≡ blocks_on low k ++ blocks_on (low + k) n
  in_two zero low n = let same : low ≡ low + zero = omega arith in let none : zero + n ≡ n = omega arith in ap (blocks_on low) none ∙ ap (λ (m : ℕ). blocks_on m n) same
  in_two (suc k) low n =
      let same : low + 1 + k ≡ low + suc k = omega arith in
      let next : suc k + n ≡ suc (k + n) = omega arith in
      ap (blocks_on low) next
      ∙ ap (λ (xs : List Block). unwrap_or (at low) [] ++ xs) (in_two k (low + 1) n ∙ ap (λ (m : ℕ). blocks_on (low + 1) k ++ blocks_on m n) same)
      ∙ sym (append_assoc (unwrap_or (at low) []) (blocks_on (low + 1) k) (blocks_on (low + suc k) n))

  all_are : part_tracks g tracks owned end to ≡ map at (range_with_len 0 (to.tt + 1))
  unfolding part_tracks
  all_are = refl

  -- a body that can be read has blocks on each of them
  pub readable_at : unreadable (part_of end (part_tracks g tracks owned end to)) ≡ None → (k : ℕ) → k ≤ to.tt → at k ≢ None
  unfolding part_of
  readable_at is k low =
      let none = unbroken (position (λ o. is_none o) (part_tracks g tracks owned end to)) (directory_break end.tt directory) _ is in
      all_some at (to.tt + 1) (ap (position (λ o. is_none o)) (sym all_are) ∙ none) k (omega (arith, low))

  -- the first tracks are before the end
  module _ (k : ℕ) (low : k ≤ end.tt) (past : end.tt ≤ to.tt) where
    -- the directory's blocks on the tracks after them
    abbrev pub behind : List Block
    behind = before_end end (blocks_on k (to.tt + 1 - k))

    pub in_front : directory ≡ blocks_on 0 k ++ behind
    in_front =
        let count : to.tt + 1 ≡ k + (to.tt + 1 - k) = omega (arith, low, past) in
        let none : 0 + k ≡ k = omega arith in
        ap (λ (ts : List (Option (List Block))). before_end end (flat_map (λ o. unwrap_or o []) ts)) all_are
        ∙ ap (λ (m : ℕ). before_end end (blocks_on 0 m)) count
        ∙ ap (before_end end) (in_two k 0 (to.tt + 1 - k) ∙ ap (λ (m : ℕ). blocks_on 0 k ++ blocks_on m (to.tt + 1 - k)) none)
        ∙ filter-append (λ (b : Block). is_before b.place end) (blocks_on 0 k) (blocks_on k (to.tt + 1 - k))
        ∙ ap (λ (xs : List Block). xs ++ behind) (all_stand end (blocks_on 0 k) (all_weaker _ (λ (b : Block). b.place.tt < end.tt) (λ b is. omega (arith, is.1, low)) (blocks_on 0 k) (stand_on k 0)))

    pub behind_past : StandPast k behind
    behind_past = all_before (λ (b : Block). k ≤ b.place.tt) end (blocks_on k (to.tt + 1 - k)) (all_weaker _ (λ (b : Block). k ≤ b.place.tt) (λ b is. is.0) (blocks_on k (to.tt + 1 - k)) (stand_on (to.tt + 1 - k) k))

    -- the next track's in front of those
    pub behind_here : behind ≡ before_end end (unwrap_or (at k) []) ++ before_end end (blocks_on (k + 1) (to.tt - k))
    behind_here =
        let count : to.tt + 1 - k ≡ suc (to.tt - k) = omega (arith, low, past) in
        ap (λ (m : ℕ). before_end end (blocks_on k m)) count
        ∙ filter-append (λ (b : Block). is_before b.place end) (unwrap_or (at k) []) (blocks_on (k + 1) (to.tt - k))

    -- none stands after the track of the end
    pub behind_last : end.tt ≡ k → before_end end (blocks_on (k + 1) (to.tt - k)) ≡ []
    behind_last is = none_stands end (blocks_on (k + 1) (to.tt - k)) (all_weaker _ (λ (b : Block). end.tt < b.place.tt) (λ b on. omega (arith, is, on.0)) (blocks_on (k + 1) (to.tt - k)) (stand_on (to.tt - k) (k + 1)))

    pub break_past : (ended : Bool) (es : List (List Entry)) → HoldEntries ended (blocks_on 0 k) es → (j : ℕ) → directory_break end.tt directory ≡ Some j → k ≤ j
    break_past ended es hold j is = break_read ended (blocks_on 0 k) es hold k end.tt behind low behind_past j (ap (directory_break end.tt) (sym in_front) ∙ is)

    -- what the first tracks have to do with the body
    module _ (whole : (j : ℕ) → j < k → at j ≢ None) (late : (j : ℕ) → directory_break end.tt directory ≡ Some j → k ≤ j) where
      abbrev broken : Option ℕ
      broken = position (λ o. is_none o) (part_tracks g tracks owned end to)

      abbrev body : Body
      body = part_of end (part_tracks g tracks owned end to)

      -- the body, unless a track breaks it
      abbrev made : Body
      made = Part (length directory) end (entries_of directory) (behind_end end (flat_map (λ o. unwrap_or o []) (part_tracks g tracks owned end to)))

      body_is : body ≡ part_unless (lower_of broken (directory_break end.tt directory)) made
      unfolding part_of
      body_is = refl

      broken_is : broken ≡ first_none at (to.tt + 1)
      broken_is = ap (position (λ o. is_none o)) all_are

      broken_past : (i : ℕ) → broken ≡ Some i → k ≤ i
      broken_past i is = first_past at (to.tt + 1) k whole i (sym broken_is ∙ is)

      -- the next track breaks the body where it has no blocks, or where its blocks break the directory
      pub unread : (at k ≡ None) ⊎ (directory_break end.tt directory ≡ Some k) → body ≡ Unreadable k
      unread is = body_is ∙ ap (λ (o : Option ℕ). part_unless o made) (lower_is k broken (directory_break end.tt directory) broken_past late (by is))
        where
          by : (at k ≡ None) ⊎ (directory_break end.tt directory ≡ Some k) → (broken ≡ Some k) ⊎ (directory_break end.tt directory ≡ Some k)
          by (inl none) = inl (broken_is ∙ first_at at (to.tt + 1) k (omega (arith, low, past)) whole none)
          by (inr e) = inr e

      -- where no block ends the directory, the track of its end-of-file record does
      pub unended : end.tt ≡ k → (es : List (List Entry)) → (at k ≢ None → HoldEntries false directory es) → body ≡ Unreadable k
      unended is es hold = by (at k) refl
        where
          by : (o : Option (List Block)) → at k ≡ o → body ≡ Unreadable k
          by None none = unread (inl none)
          by (Some bs) some = unread (inr (break_last end.tt directory es (hold (λ none. cc)) ∙ ap (λ (j : ℕ). Some j) is))

      -- where one does, another track may break the body
      pub read_broken : (es : List (List Entry)) → (at k ≢ None → HoldEntries true directory es) → (i : ℕ) → broken ≡ Some i → body ≡ Unreadable i
      read_broken es hold i is = elim (leb_tells i k) [
        | inl w ↦
            let same : i ≡ k = omega (arith, w.1, broken_past i is) in
            let none = is_first at (to.tt + 1) i (sym broken_is ∙ is) in
            subst (λ (j : ℕ). at j ≡ None → body ≡ Unreadable j) (sym same) (λ none. unread (inl none)) none.1
        | inr w ↦
            let first = is_first at (to.tt + 1) i (sym broken_is ∙ is) in
            let whole_directory = break_none end.tt directory es (hold (first.2 k (omega (arith, w.1)))) in
            body_is ∙ ap (λ (o : Option ℕ). part_unless (lower_of o (directory_break end.tt directory)) made) is ∙ ap (λ (o : Option ℕ). part_unless (lower_of (Some i) o) made) whole_directory
      ]

      pub whole_at : broken ≡ None → at k ≢ None
      whole_at none = all_some at (to.tt + 1) (sym broken_is ∙ none) k (omega (arith, low, past))

      -- and else it can be read
      pub read_all : (es : List (List Entry)) → HoldEntries true directory es → broken ≡ None → body ≡ Part (length directory) end (kept name_number (joined es)) (behind_end end (flat_map (λ o. unwrap_or o []) (part_tracks g tracks owned end to)))
      read_all es here none =
          let entries : entries_of directory ≡ kept name_number (joined es) =
          ap (λ (xs : List (Option (Stored Entry))). unwrap_or (reads name_number xs) []) here.2 ∙ ap (λ (o : Option (List Entry)). unwrap_or (option_map (kept name_number) o) []) (entries_up_to es here.1 here.0) in
          body_is ∙ ap (λ (o : Option ℕ). part_unless (lower_of o (directory_break end.tt directory)) made) none ∙ ap (λ (o : Option ℕ). part_unless (lower_of None o) made) (break_none end.tt directory es here)
          ∙ ap (λ (xs : List Entry). Part (length directory) end xs (behind_end end (flat_map (λ o. unwrap_or o []) (part_tracks g tracks owned end to)))) entries
