-- The records of a partitioned data set that can be read: those up to its directory's end, and the blocks of its members after them.
use Rattle.std.proofs.Common.{◌≡◌, ◌+◌, ◌-◌, ◌≤◌, ◌<◌, ℕ, zero, suc, Bool, true, false, cond, ◌&&◌, ◌||◌, List, [], ◌∷◌, ◌++◌, length, map, take, drop, Option, Some, None, refl, sym, ap, ap₂, ◌∙◌, subst, arith, append_assoc, length-take, take-append-drop}
use Rattle.std.specs.Prelude.{◌==◌, replicate, unwrap_or}
use Rattle.std.specs.List.{enumerate_from, find, flat_map, list_all, list_any, range_with_len}
use Rattle.std.specs.Option.{option_map_or}
use Rattle.std.proofs.lemmas.Bool.{and_parts}
use Rattle.std.proofs.lemmas.Bool.Decides.{nat_tests}
use Rattle.std.proofs.lemmas.List.{append-nil}
use Rattle.std.proofs.lemmas.List.Elements.{filter-append}
use Rattle.ckd_image.specs.declared.header.Geometry.{Geometry}
use Rattle.ckd_image.specs.Track.{Record}
use Rattle.vol_model.specs.declared.contents.Block.{Block}
use Rattle.vol_model.specs.declared.contents.Body.TheVariants.{Part}
use Rattle.vol_model.specs.declared.contents.Entry.{Entry}
use Rattle.vol_model.specs.declared.contents.Place.{Place}
use Rattle.vol_model.specs.declared.contents.Run.{Run}
use Rattle.vol_model.specs.Places.{directory_lengths, is_before, last_place, lengths_on}
use Rattle.pack_spec.specs.Blocks.{block_at, blocks_from, is_block, owned_tracks, records_in}
use Rattle.pack_spec.specs.Directories.{before_end, behind_end, end_from, end_record, has_end_by, is_directory_record, is_end_record, may_stand, part_at, part_body, part_tracks, read_to, record_numbers}
use Rattle.vtoc_sets.proofs.EndTracks.{end_first}
use Rattle.pack_spec.proofs.PartBodies.{IsPart, IsPast, IsRead, end_stands, part_end, part_is, part_read, read_past_end}
use Rattle.pack_spec.proofs.PartLawful.{none_behind}
use Rattle.seq_access.specs.Writing.{sizes}
use Rattle.seq_access.proofs.NextPlaces.{AreBefore, last_behind, lengths_at, lengths_before}

-- The records up to a directory's end, as blocks: the end-of-file record is the last, and on its track directory blocks alone stand before it.
pub record AreFront (end : Place) (front : List Block) : Type 0 where
  pub ends : (p : Place) → last_place p front ≡ end
  pub here : lengths_on end.tt front ≡ replicate (end.r - 1) directory_lengths ++ (0, 0) ∷ []
  pub later : (k : ℕ) → end.tt < k → lengths_on k front ≡ []

-- blocks after it
abbrev pub AreBehind : Place → List Block → Type 0
AreBehind end [] = Unit {0}
AreBehind end (b ∷ bs) = (is_before end b.place ≡ true) × AreBehind end bs

pub behind_both : (end : Place) (xs ys : List Block) → AreBehind end xs → AreBehind end ys → AreBehind end (xs ++ ys)
behind_both end [] ys first second = second
behind_both end (x ∷ xs) ys first second = (first.0, behind_both end xs ys first.1 second)

behind_track : (end : Place) (k r : ℕ) (xs : List Record) → ((q : ℕ) → r ≤ q → is_before end (record { tt = k; r = q }) ≡ true) → AreBehind end (blocks_from k r xs)
behind_track end k r [] past = tt
behind_track end k r (x ∷ xs) past = (past r (omega arith), behind_track end k (r + 1) xs (λ q low. past q (omega (arith, low))))

pub behind_all : (end : Place) (xs : List Block) → AreBehind end xs → behind_end end xs ≡ xs
behind_all end [] are = refl
behind_all end (x ∷ xs) are = ap (λ (b : Bool). cond b (x ∷ behind_end end xs) (behind_end end xs)) are.0 ∙ ap (λ (ys : List Block). x ∷ ys) (behind_all end xs are.1)

pub not_both : (p q : Place) → is_before p q ≡ true → is_before q p ≡ false
not_both p q is = grind (arith, nat_tests)

pub before_none : (end : Place) (xs : List Block) → AreBehind end xs → before_end end xs ≡ []
before_none end [] are = refl
before_none end (x ∷ xs) are = ap (λ (b : Bool). cond b (x ∷ before_end end xs) (before_end end xs)) (not_both end x.place are.0) ∙ before_none end xs are.1

before_track : (n k r : ℕ) (xs : List Record) → k < n → AreBefore n (blocks_from k r xs)
before_track n k r [] low = tt
before_track n k r (x ∷ xs) low = (low, before_track n k (r + 1) xs low)

pub blocks_both : (k r : ℕ) (xs ys : List Record) → blocks_from k r (xs ++ ys) ≡ blocks_from k r xs ++ blocks_from k (r + length xs) ys
blocks_both k r [] ys = let none : r ≡ r + 0 = omega arith in ap (λ (n : ℕ). blocks_from k n ys) none
blocks_both k r (x ∷ xs) ys =
    let next : r + 1 + length xs ≡ r + suc (length xs) = omega arith in
    ap (λ (l : List Block). block_at k r x ∷ l) (blocks_both k (r + 1) xs ys ∙ ap (λ (n : ℕ). blocks_from k (r + 1) xs ++ blocks_from k n ys) next)

-- ---- the records of the end's track

past_end : (end : Place) (r : ℕ) → end.r < r → is_before end (record { tt = end.tt; r = r }) ≡ true
past_end end r past = grind (arith, nat_tests)

past_track : (end : Place) (k r : ℕ) → end.tt < k → is_before end (record { tt = k; r = r }) ≡ true
past_track end k r past = grind (arith, nat_tests)

not_past : (end : Place) (r : ℕ) → r ≤ end.r → is_before end (record { tt = end.tt; r = r }) ≡ false
not_past end r low = grind (arith, nat_tests)

before_end_at : (end : Place) (r : ℕ) → r < end.r → is_before (record { tt = end.tt; r = r }) end ≡ true
before_end_at end r low = grind (arith, nat_tests)

-- none of the first records stands after it
none_past : (end : Place) (r : ℕ) (xs : List Record) → r + length xs ≤ end.r + 1 → behind_end end (blocks_from end.tt r xs) ≡ []
none_past end r [] low = refl
none_past end r (x ∷ xs) low =
    ap (λ (b : Bool). cond b (block_at end.tt r x ∷ behind_end end (blocks_from end.tt (r + 1) xs)) (behind_end end (blocks_from end.tt (r + 1) xs))) (not_past end r (omega (arith, low)))
    ∙ none_past end (r + 1) xs (omega (arith, low))

directory_sizes : (x : Record) → is_directory_record x ≡ true → (sizes x ≡ directory_lengths) × (is_end_record x ≡ false)
directory_sizes x is = (ap₂ (λ (m n : ℕ). (m, n)) (eight (length x.key) (length x.«data») is) (wide (length x.key) (length x.«data») is), no_end (length x.key) (length x.«data») is)
  where
    eight : (m n : ℕ) → (m == 8 && n == 256) ≡ true → m ≡ 8
    eight m n is = grind (arith, nat_tests)

    wide : (m n : ℕ) → (m == 8 && n == 256) ≡ true → n ≡ 256
    wide m n is = grind (arith, nat_tests)

    no_end : (m n : ℕ) → (m == 8 && n == 256) ≡ true → (m == 0 && n == 0) ≡ false
    no_end m n is = grind (arith, nat_tests)

end_sizes : (x : Record) → is_end_record x ≡ true → sizes x ≡ (0, 0)
end_sizes x is = ap₂ (λ (m n : ℕ). (m, n)) (first (length x.key) (length x.«data») is) (second (length x.key) (length x.«data») is)
  where
    first : (m n : ℕ) → (m == 0 && n == 0) ≡ true → m ≡ 0
    first m n is = grind (arith, nat_tests)

    second : (m n : ℕ) → (m == 0 && n == 0) ≡ true → n ≡ 0
    second m n is = grind (arith, nat_tests)

-- of records up to the end, one of which is an end-of-file record, the last is, and the others are directory blocks
sizes_here : (end : Place) (r : ℕ) (xs : List Record) → list_all (may_stand end end.tt) (enumerate_from r xs) ≡ true → r + length xs ≡ end.r + 1 → list_any is_end_record xs ≡ true → map sizes xs ≡ replicate (length xs - 1) directory_lengths ++ (0, 0) ∷ []
sizes_here end r [] stand upto any = cc
sizes_here end r (x ∷ []) stand upto any = by (is_end_record x) refl any
  where
    by : (b : Bool) → is_end_record x ≡ b → (b || false) ≡ true → sizes x ∷ [] ≡ replicate (1 - 1) directory_lengths ++ (0, 0) ∷ []
    by true is any = ap (λ (l : ℕ × ℕ). l ∷ []) (end_sizes x is)
    by false is any = cc
sizes_here end r (x ∷ y ∷ xs) stand upto any =
    let parts = and_parts (may_stand end end.tt (r, x)) (list_all (may_stand end end.tt) (enumerate_from (r + 1) (y ∷ xs))) stand in
    let directory : is_directory_record x ≡ true = sym (ap (λ (b : Bool). cond b (is_directory_record x) (is_block x)) (before_end_at end r (omega (arith, upto)))) ∙ parts.0 in
    let is = directory_sizes x directory in
    let rest = sizes_here end (r + 1) (y ∷ xs) parts.1 (omega (arith, upto)) (sym (ap (λ (b : Bool). b || list_any is_end_record (y ∷ xs)) is.1) ∙ any) in
    let less : length (x ∷ y ∷ xs) - 1 ≡ suc (length (y ∷ xs) - 1) = omega arith in
    ap₂ (λ (l : ℕ × ℕ) (ls : List (ℕ × ℕ)). l ∷ ls) is.0 rest
    ∙ ap (λ (n : ℕ). replicate n directory_lengths ++ (0, 0) ∷ []) (sym less)

-- the first of records that may stand may
stand_front : (end : Place) (k r n : ℕ) (xs : List Record) → list_all (may_stand end k) (enumerate_from r xs) ≡ true → list_all (may_stand end k) (enumerate_from r (take n xs)) ≡ true
stand_front end k r zero xs stand = refl
stand_front end k r (suc n) [] stand = refl
stand_front end k r (suc n) (x ∷ xs) stand =
    let parts = and_parts (may_stand end k (r, x)) (list_all (may_stand end k) (enumerate_from (r + 1) xs)) stand in
    ap₂ (λ (a b : Bool). a && b) parts.0 (stand_front end k (r + 1) n xs parts.1)

-- the number that is found passes
found_passes : (p : ℕ → Bool) (n low r : ℕ) → find p (range_with_len low n) ≡ Some r → p r ≡ true
found_passes p zero low r is = cc
found_passes p (suc n) low r is = by (p low) refl (λ e. found_passes p n (low + 1) r e) is
  where
    by : (b : Bool) → p low ≡ b → (find p (range_with_len (low + 1) n) ≡ Some r → p r ≡ true) → cond b (Some low) (find p (range_with_len (low + 1) n)) ≡ Some r → p r ≡ true
    by true passes later e = let here : low ≡ r = cc in ap p (sym here) ∙ passes
    by false passes later e = later e

end_passes : (g : Geometry) (tracks : List (List ℕ)) (t r : ℕ) → end_record g tracks t ≡ Some r → has_end_by g tracks t r ≡ true
unfolding end_record record_numbers
end_passes g tracks t r is = found_passes (has_end_by g tracks t) 255 1 r is

-- ---- all records

module _ (g : Geometry) (tracks : List (List ℕ)) (extents : List Run) (lstar : List ℕ) (n : ℕ) (end : Place) (es : List Entry) (bs : List Block)
    (is : part_body g tracks extents lstar ≡ Part n end es bs) where
  abbrev owned : List ℕ
  owned = owned_tracks extents

  abbrev to : Place
  to = read_to end lstar

  abbrev at : ℕ → Option (List Block)
  at = part_at g tracks owned end to

  abbrev walk : ℕ → ℕ → List Block
  walk m low = flat_map (λ o. unwrap_or o []) (map at (range_with_len low m))

  read_on : (k : ℕ) → k ≤ to.tt → IsRead g tracks owned end to k
  read_on k low = part_read g tracks extents lstar n end es bs is k low

  on_it : (k : ℕ) (read : IsRead g tracks owned end to k) → unwrap_or (at k) [] ≡ blocks_from k 1 read.xs
  on_it k read = ap (λ (o : Option (List Block)). unwrap_or o []) read.blocks

  past : IsPast end to
  past = read_past_end end lstar

  -- What is read of the end's track: the records up to the end-of-file record, and others after it.
  end_track : (read : IsRead g tracks owned end to end.tt) → (end.r ≤ length read.xs) × (list_any is_end_record (take end.r read.xs) ≡ true)
  end_track read = by_some (records_in g tracks (Some end.r) read.track) refl (end_passes g tracks read.track end.r stands)
    where
      ended : end_from g tracks 0 owned ≡ end
      ended = part_end g tracks extents lstar n end es bs is

      stands : end_record g tracks read.track ≡ Some end.r
      stands = subst (λ (p : Place). end.tt ≡ p.tt → end_record g tracks read.track ≡ Some p.r) ended (λ e. end_stands g tracks 0 owned end.tt read.track read.there (omega (arith, e))) refl

      level : (a b : ℕ) → a ≡ b → (a == b) ≡ true
      level a b same = grind (arith, nat_tests)

      other : (a b : ℕ) → (a ≡ b → ⊥) → (a == b) ≡ false
      other a b apart = grind (arith, nat_tests)

      by_some : (o : Option (List Record)) → records_in g tracks (Some end.r) read.track ≡ o → option_map_or (list_any is_end_record) o false ≡ true → (end.r ≤ length read.xs) × (list_any is_end_record (take end.r read.xs) ≡ true)
      by_some None some any = cc
      by_some (Some ys) some any = let f = end_first g tracks owned end to past read ys some in (f.0, ap (list_any is_end_record) (sym f.1) ∙ any)

  -- The records from this track on, with the end's among them.
  record Split (xs : List Block) : Type 0 where
    front : List Block
    rest : List Block
    all : xs ≡ front ++ rest
    ahead : AreFront end front
    none : behind_end end front ≡ []
    behind : AreBehind end rest

  -- those of later tracks stand after it
  later_behind : (m low : ℕ) → end.tt < low → low + m ≤ to.tt + 1 → AreBehind end (walk m low)
  later_behind zero low past upto = tt
  later_behind (suc m) low past upto =
      let read = read_on low (omega (arith, upto)) in
      let rest = later_behind m (low + 1) (omega (arith, past)) (omega (arith, upto)) in
      subst (λ (ys : List Block). AreBehind end (ys ++ walk m (low + 1))) (sym (on_it low read))
      (behind_both end (blocks_from low 1 read.xs) (walk m (low + 1)) (behind_track end low 1 read.xs (λ q some. past_track end low q past)) rest)

  split_here : (m : ℕ) → end.tt + suc m ≤ to.tt + 1 → Split (walk (suc m) end.tt)
  split_here m upto =
      let read = read_on end.tt (omega (arith, upto)) in
      let here = end_track read in
      let first : List Record = take end.r read.xs in
      let more : List Record = drop end.r read.xs in
      let count : length first ≡ end.r = omega (arith, length-take end.r read.xs, here.0) in
      let later = later_behind m (end.tt + 1) (omega arith) (omega (arith, upto)) in
      let tail : List Block = blocks_from end.tt (1 + end.r) more in
      let whole : blocks_from end.tt 1 read.xs ≡ blocks_from end.tt 1 first ++ tail =
      ap (blocks_from end.tt 1) (sym (take-append-drop end.r read.xs)) ∙ blocks_both end.tt 1 first more ∙ ap (λ (r : ℕ). blocks_from end.tt 1 first ++ blocks_from end.tt (1 + r) more) count in
      record {
        front = blocks_from end.tt 1 first;
        rest = tail ++ walk m (end.tt + 1);
        all =
            ap (λ (ys : List Block). ys ++ walk m (end.tt + 1)) (on_it end.tt read ∙ whole)
            ∙ append_assoc (blocks_from end.tt 1 first) tail (walk m (end.tt + 1));
        ahead = record {
          ends = λ p. front_last p first (omega (arith, count)) (first_some first here.1) count;
          here = lengths_at end.tt 1 first ∙ sizes_here end 1 first (stand_front end end.tt 1 end.r read.xs read.stand) (omega (arith, count)) here.1 ∙ ap (λ (k : ℕ). replicate (k - 1) directory_lengths ++ (0, 0) ∷ []) count;
          later = λ k past. lengths_none k first past;
        };
        none = none_past end 1 first (omega (arith, count));
        behind = behind_both end tail (walk m (end.tt + 1)) (behind_track end end.tt (1 + end.r) more (λ q some. past_end end q (omega (arith, some)))) later;
      }
    where
      first_some : (ys : List Record) → list_any is_end_record ys ≡ true → 1 ≤ length ys
      first_some [] any = cc
      first_some (y ∷ ys) any = omega arith

      front_last : (p : Place) (ys : List Record) → length ys ≤ end.r → 1 ≤ length ys → length ys ≡ end.r → last_place p (blocks_from end.tt 1 ys) ≡ end
      front_last p [] low some count = absurd (omega (arith, some))
      front_last p (y ∷ ys) low some count = let number : 1 + length ys ≡ end.r = omega (arith, count) in last_behind p [] end.tt 1 y ys ∙ ap (λ (r : ℕ). record { tt = end.tt; r = r }) number

      lengths_none : (k : ℕ) (ys : List Record) → end.tt < k → lengths_on k (blocks_from end.tt 1 ys) ≡ []
      lengths_none k ys past = ap (lengths_on k) (sym (append-nil (blocks_from end.tt 1 ys))) ∙ lengths_before k (blocks_from end.tt 1 ys) [] (before_track k end.tt 1 ys past)

  -- a track before the end's adds to the front
  split_more : (low : ℕ) (xs : List Record) (ys : List Block) → low < end.tt → Split ys → Split (blocks_from low 1 xs ++ ys)
  split_more low xs ys before s = record {
    front = blocks_from low 1 xs ++ s.front;
    rest = s.rest;
    all = ap (λ (zs : List Block). blocks_from low 1 xs ++ zs) s.all ∙ sym (append_assoc (blocks_from low 1 xs) s.front s.rest);
    ahead = record {
      ends = λ p. last_both p (blocks_from low 1 xs) s.front ∙ s.ahead.ends (last_place p (blocks_from low 1 xs));
      here = lengths_before end.tt (blocks_from low 1 xs) s.front (before_track end.tt low 1 xs before) ∙ s.ahead.here;
      later = λ k past. lengths_before k (blocks_from low 1 xs) s.front (before_track k low 1 xs (omega (arith, before, past))) ∙ s.ahead.later k past;
    };
    none = filter-append (λ (b : Block). is_before end b.place) (blocks_from low 1 xs) s.front ∙ ap₂ (λ (us ws : List Block). us ++ ws) (none_behind end low 1 xs before) s.none;
    behind = s.behind;
  }
    where
      last_both : (p : Place) (us ws : List Block) → last_place p (us ++ ws) ≡ last_place (last_place p us) ws
      last_both p [] ws = refl
      last_both p (u ∷ us) ws = last_both u.place us ws

  split_from : (before low m : ℕ) → low + before ≡ end.tt → low + (before + suc m) ≤ to.tt + 1 → Split (walk (before + suc m) low)
  split_from zero low m level upto = subst (λ (k : ℕ). Split (walk (zero + suc m) k)) (let same : end.tt ≡ low = omega (arith, level) in same)
      (subst (λ (k : ℕ). Split (walk k end.tt)) (let same : suc m ≡ zero + suc m = omega arith in same) (split_here m (omega (arith, upto, level))))
  split_from (suc before) low m level upto =
      let read = read_on low (omega (arith, upto)) in
      let next : suc (before + suc m) ≡ suc before + suc m = omega arith in
      let rest = split_from before (low + 1) m (omega (arith, level)) (omega (arith, upto)) in
      subst (λ (k : ℕ). Split (walk k low)) next
      (subst (λ (ys : List Block). Split (ys ++ walk (before + suc m) (low + 1))) (sym (on_it low read)) (split_more low read.xs (walk (before + suc m) (low + 1)) (omega (arith, level)) rest))

  -- The records are those up to the end, and the members' blocks.
  pub record IsSplit (xs : List Block) : Type 0 where
    pub front : List Block
    pub all : xs ≡ front ++ bs
    pub ahead : AreFront end front
    pub none : behind_end end front ≡ []
    pub behind : AreBehind end bs

  pub split : IsSplit (flat_map (λ o. unwrap_or o []) (part_tracks g tracks owned end to))
  unfolding part_tracks
  split =
      let m : ℕ = to.tt - end.tt in
      let count : end.tt + suc m ≡ to.tt + 1 = omega (arith, past.track) in
      let s : Split (walk (to.tt + 1) 0) = subst (λ (k : ℕ). Split (walk k 0)) count (split_from end.tt 0 m (omega arith) (omega (arith, count))) in
      let part : IsPart end (part_tracks g tracks owned end to) n end es bs = part_is g tracks extents lstar n end es bs is in
      let rest : s.rest ≡ bs = sym (behind_all end s.rest s.behind) ∙ ap (λ (us : List Block). us ++ behind_end end s.rest) (sym s.none) ∙ sym (filter-append (λ (b : Block). is_before end b.place) s.front s.rest) ∙ ap (behind_end end) (sym s.all) ∙ part.blocks in
      record {
        front = s.front;
        all = s.all ∙ ap (λ (us : List Block). s.front ++ us) rest;
        ahead = s.ahead;
        none = s.none;
        behind = subst (AreBehind end) rest s.behind;
      }
