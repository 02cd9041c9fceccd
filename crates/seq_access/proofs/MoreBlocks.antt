-- A body of which the last block's track goes on, or another begins after it.
use Rattle.std.proofs.Common.{◌≡◌, ◌+◌, ◌≤◌, ◌<◌, ℕ, zero, suc, Bool, true, false, cond, ◌&&◌, ◌||◌, List, [], ◌∷◌, ◌++◌, length, get_or, map, Option, Some, None, refl, sym, ap, ap₂, ◌∙◌, subst, arith, option_and_then, append_assoc}
use Rattle.std.specs.Prelude.{◌==◌, is_none, position, slice_get, unwrap_or}
use Rattle.std.specs.List.{flat_map, list_all, list_any, range_with_len}
use Rattle.std.proofs.lemmas.Bool.{and_parts}
use Rattle.std.proofs.lemmas.Bool.Decides.{nat_tests}
use Rattle.std.proofs.lemmas.Grind.{flat_map-append}
use Rattle.std.proofs.lemmas.List.{append-nil}
use Rattle.std.proofs.lemmas.List.Quantifiers.{position-Some}
use Rattle.ckd_image.specs.declared.header.Geometry.{Geometry}
use Rattle.ckd_image.specs.Track.{Record}
use Rattle.vol_model.specs.declared.contents.Block.{Block}
use Rattle.vol_model.specs.declared.contents.Body.TheVariants.{Seq}
use Rattle.vol_model.specs.declared.contents.Place.{Place}
use Rattle.vol_model.specs.declared.contents.Run.{Run}
use Rattle.pack_spec.specs.Blocks.{block_at, blocks_at, blocks_from, blocks_of, blocks_on, has_no_block, is_block, last_of, owned_tracks, records_in, seq_body, seq_of, seq_unless, upto_last}
use Rattle.pack_spec.proofs.BlockBodies.{tracks_read}
use Rattle.pack_spec.proofs.SetNames.{neither}
use Rattle.seq_access.proofs.NextPlaces.{AreBefore}

range_end : (n a : ℕ) → range_with_len a (n + 1) ≡ range_with_len a n ++ (a + n) ∷ []
range_end n a = let one : n + 1 ≡ suc n = omega arith in ap (range_with_len a) one ∙ by n a
  where
    by : (n a : ℕ) → range_with_len a (suc n) ≡ range_with_len a n ++ (a + n) ∷ []
    by zero a = let none : a ≡ a + 0 = omega arith in ap (λ (m : ℕ). m ∷ []) none
    by (suc n) a = let next : a + 1 + n ≡ a + suc n = omega arith in ap (λ (l : List ℕ). a ∷ l) (by n (a + 1) ∙ ap (λ (m : ℕ). range_with_len (a + 1) n ++ m ∷ []) next)

map_both : {X Y : Type 0} (f : X → Y) (xs ys : List X) → map f (xs ++ ys) ≡ map f xs ++ map f ys
map_both f [] ys = refl
map_both f (x ∷ xs) ys = ap (λ l. f x ∷ l) (map_both f xs ys)

map_end : {Y : Type 0} (f : ℕ → Y) (n : ℕ) → map f (range_with_len 0 (n + 1)) ≡ map f (range_with_len 0 n) ++ f n ∷ []
map_end f n = let none : 0 + n ≡ n = omega arith in ap (map f) (range_end n 0) ∙ map_both f (range_with_len 0 n) ((0 + n) ∷ []) ∙ ap (λ (m : ℕ). map f (range_with_len 0 n) ++ f m ∷ []) none

-- what is the same for each number of a range
map_alike : {Y : Type 0} (f h : ℕ → Y) (n low : ℕ) → ((k : ℕ) → k < low + n → f k ≡ h k) → map f (range_with_len low n) ≡ map h (range_with_len low n)
map_alike f h zero low same = refl
map_alike {Y = Y} f h (suc n) low same = ap₂ (λ (x : Y) (xs : List Y). x ∷ xs) (same low (omega arith)) (map_alike f h n (low + 1) (λ k u. same k (omega arith)))

-- tracks whose blocks are read
abbrev Tracks : Type 0
Tracks = List (Option (List Block))

abbrev AllRead : Tracks → List Block → Type 0
AllRead tracks bs = (list_any (λ o. is_none o) tracks ≡ false) × (flat_map (λ o. unwrap_or o []) tracks ≡ bs)

read_split : (xs : Tracks) (o : Option (List Block)) → list_any (λ o. is_none o) (xs ++ o ∷ []) ≡ false → (list_any (λ o. is_none o) xs ≡ false) × (is_none o ≡ false)
read_split [] o is = (refl, (neither (is_none o) false is).0)
read_split (x ∷ xs) o is =
    let parts = neither (is_none x) (list_any (λ o. is_none o) (xs ++ o ∷ [])) is in
    let rest = read_split xs o parts.1 in
    (ap₂ (λ (a b : Bool). a || b) parts.0 rest.0, rest.1)

read_join : (xs : Tracks) (bs on : List Block) → AllRead xs bs → AllRead (xs ++ Some on ∷ []) (bs ++ on)
read_join xs bs on all = (any xs all.0, flat_map-append (λ o. unwrap_or o []) xs (Some on ∷ []) ∙ ap₂ (λ (l m : List Block). l ++ m) all.1 (append-nil on))
  where
    any : (xs : Tracks) → list_any (λ o. is_none o) xs ≡ false → list_any (λ o. is_none o) (xs ++ Some on ∷ []) ≡ false
    any [] is = refl
    any (x ∷ xs) is =
        let parts = neither (is_none x) (list_any (λ o. is_none o) xs) is in
        ap₂ (λ (a b : Bool). a || b) parts.0 (any xs parts.1)

read_all : (xs : Tracks) (bs : List Block) → AllRead xs bs → seq_of xs ≡ Seq bs
read_all xs bs all = ap (λ (o : Option ℕ). seq_unless o (flat_map (λ o. unwrap_or o []) xs)) (by (position (λ o. is_none o) xs) refl) ∙ ap Seq all.1
  where
    each : (xs : Tracks) (k : ℕ) → list_any (λ o. is_none o) xs ≡ false → k < length xs → is_none (get_or xs k None) ≡ false
    each [] k none low = absurd (omega (arith, low))
    each (x ∷ xs) zero none low = (neither (is_none x) (list_any (λ o. is_none o) xs) none).0
    each (x ∷ xs) (suc k) none low = each xs k (neither (is_none x) (list_any (λ o. is_none o) xs) none).1 (omega (arith, low))

    by : (o : Option ℕ) → position (λ o. is_none o) xs ≡ o → o ≡ None
    by None is = refl
    by (Some k) is =
        let found = position-Some (λ o. is_none o) xs k None is in
        let not_there = each xs k all.0 found.0 in
        cc

itself : (n : ℕ) → (n == n) ≡ true
itself n = grind (arith, nat_tests)

some_record : (m n : ℕ) → ((m == m) && (n == 0)) ≡ false → 1 ≤ n
some_record m n is = grind (arith, nat_tests)

no_zero : (m n : ℕ) → 1 ≤ n → ((m == m) && (n == 0)) ≡ false
no_zero m n some = grind (arith, nat_tests)

below : (k m r : ℕ) → k < m → ((k == m) && (r == 0)) ≡ false
below k m r low = grind (arith, nat_tests)

other : (k m : ℕ) → k < m → (k == m) ≡ false
other k m low = grind (arith, nat_tests)

upto_here : (last : Place) → upto_last last last.tt ≡ Some last.r
upto_here last = ap (λ (b : Bool). cond b (Some last.r) None) (itself last.tt)

upto_below : (last : Place) (k : ℕ) → k < last.tt → upto_last last k ≡ None
upto_below last k low = ap (λ (b : Bool). cond b (Some last.r) None) (other k last.tt low)

module _ (g : Geometry) (extents : List Run) where
  abbrev owned : List ℕ
  owned = owned_tracks extents

  blocks_before : (tracks : List (List ℕ)) (last : Place) (k n : ℕ) → k < n → AreBefore n (unwrap_or (blocks_at g tracks owned last k) [])
  unfolding blocks_at blocks_on
  blocks_before tracks last k n low = by_track (slice_get owned k)
    where
      each : (r : ℕ) (xs : List Record) → AreBefore n (blocks_from k r xs)
      each r [] = tt
      each r (x ∷ xs) = (low, each (r + 1) xs)

      by_blocks : (b : Bool) (xs : List Record) → AreBefore n (unwrap_or (cond b (Some (blocks_from k 1 xs)) None) [])
      by_blocks true xs = each 1 xs
      by_blocks false xs = tt

      by_records : (c : Bool) (o : Option (List Record)) → AreBefore n (unwrap_or (cond c None (option_and_then (blocks_of k) o)) [])
      by_records true o = tt
      by_records false None = tt
      by_records false (Some xs) = by_blocks (list_all is_block xs) xs

      by_track : (o : Option ℕ) → AreBefore n (unwrap_or (option_and_then (blocks_on g tracks last k) o) [])
      by_track None = tt
      by_track (Some t) = by_records ((k == last.tt) && (last.r == 0)) (records_in g tracks (upto_last last k) t)

  before_both : (n : ℕ) (xs ys : List Block) → AreBefore n xs → AreBefore n ys → AreBefore n (xs ++ ys)
  before_both n [] ys first second = second
  before_both n (x ∷ xs) ys first second = (first.0, before_both n xs ys first.1 second)

  all_before : (tracks : List (List ℕ)) (last : Place) (n low m : ℕ) → low + n ≤ m → AreBefore m (flat_map (λ o. unwrap_or o []) (map (blocks_at g tracks owned last) (range_with_len low n)))
  all_before tracks last zero low m within = tt
  all_before tracks last (suc n) low m within = before_both m _ _ (blocks_before tracks last low m (omega (arith, within))) (all_before tracks last n (low + 1) m (omega (arith, within)))

  -- The blocks of a body: those before the last block's track, and those on it.
  pub record Parts (tracks : List (List ℕ)) (last : Place) (bs : List Block) : Type 0 where
    pub first : 1 ≤ last.r
    pub front : List Block
    pub fronts : AllRead (map (blocks_at g tracks owned last) (range_with_len 0 last.tt)) front
    pub before : AreBefore last.tt front
    pub track : ℕ
    pub there : slice_get owned last.tt ≡ Some track
    pub records : List Record
    pub read : records_in g tracks (Some last.r) track ≡ Some records
    pub blocks : list_all is_block records ≡ true
    pub all : bs ≡ front ++ blocks_from last.tt 1 records

  pub parts_of : (tracks : List (List ℕ)) (lstar : List ℕ) (last : Place) (bs : List Block) → last_of lstar ≡ last → has_no_block lstar ≡ false → seq_body g tracks extents lstar ≡ Seq bs → Parts tracks last bs
  unfolding seq_body blocks_at blocks_on
  parts_of tracks lstar last bs ends some is =
      by_track (slice_get owned last.tt) refl split.1 (sym found.1 ∙ ap (flat_map (λ o. unwrap_or o [])) shape ∙ flat_map-append (λ o. unwrap_or o []) (map f (range_with_len 0 last.tt)) (f last.tt ∷ []))
    where
      f : ℕ → Option (List Block)
      f = blocks_at g tracks owned last

      body : seq_of (map f (range_with_len 0 (last.tt + 1))) ≡ Seq bs
      body =
          ap (λ (p : Place). seq_of (map (blocks_at g tracks owned p) (range_with_len 0 (p.tt + 1)))) (sym ends)
          ∙ ap (λ (b : Bool). cond b (Seq []) (seq_of (map (blocks_at g tracks owned (last_of lstar)) (range_with_len 0 ((last_of lstar).tt + 1))))) (sym some)
          ∙ is

      found : AllRead (map f (range_with_len 0 (last.tt + 1))) bs
      found = tracks_read (map f (range_with_len 0 (last.tt + 1))) bs body

      shape : map f (range_with_len 0 (last.tt + 1)) ≡ map f (range_with_len 0 last.tt) ++ f last.tt ∷ []
      shape = map_end f last.tt

      split : (list_any (λ o. is_none o) (map f (range_with_len 0 last.tt)) ≡ false) × (is_none (f last.tt) ≡ false)
      split = read_split (map f (range_with_len 0 last.tt)) (f last.tt) (ap (list_any (λ o. is_none o)) (sym shape) ∙ found.0)

      front : List Block
      front = flat_map (λ o. unwrap_or o []) (map f (range_with_len 0 last.tt))

      by_blocks : (t : ℕ) → slice_get owned last.tt ≡ Some t → 1 ≤ last.r → (xs : List Record) → records_in g tracks (Some last.r) t ≡ Some xs → (b : Bool) → list_all is_block xs ≡ b → is_none (cond b (Some (blocks_from last.tt 1 xs)) None) ≡ false → bs ≡ front ++ (unwrap_or (cond b (Some (blocks_from last.tt 1 xs)) None) [] ++ []) → Parts tracks last bs
      by_blocks t there first xs read true are some all = record {
        first = first;
        front = front;
        fronts = (split.0, refl);
        before = all_before tracks last last.tt 0 last.tt (omega arith);
        track = t;
        there = there;
        records = xs;
        read = read;
        blocks = are;
        all = all ∙ ap (λ (l : List Block). front ++ l) (append-nil (blocks_from last.tt 1 xs));
      }
      by_blocks t there first xs read false are some all = cc

      by_records : (t : ℕ) → slice_get owned last.tt ≡ Some t → 1 ≤ last.r → (o : Option (List Record)) → records_in g tracks (Some last.r) t ≡ o → is_none (option_and_then (blocks_of last.tt) o) ≡ false → bs ≡ front ++ (unwrap_or (option_and_then (blocks_of last.tt) o) [] ++ []) → Parts tracks last bs
      by_records t there first None read some all = cc
      by_records t there first (Some xs) read some all = by_blocks t there first xs read (list_all is_block xs) refl some all

      by_zero : (t : ℕ) → slice_get owned last.tt ≡ Some t → (c : Bool) → ((last.tt == last.tt) && (last.r == 0)) ≡ c → is_none (cond c None (option_and_then (blocks_of last.tt) (records_in g tracks (upto_last last last.tt) t))) ≡ false → bs ≡ front ++ (unwrap_or (cond c None (option_and_then (blocks_of last.tt) (records_in g tracks (upto_last last last.tt) t))) [] ++ []) → Parts tracks last bs
      by_zero t there true test some all = cc
      by_zero t there false test some all = by_records t there (some_record last.tt last.r test) (records_in g tracks (upto_last last last.tt) t) (ap (λ (u : Option ℕ). records_in g tracks u t) (sym (upto_here last))) some all

      by_track : (o : Option ℕ) → slice_get owned last.tt ≡ o → is_none (option_and_then (blocks_on g tracks last last.tt) o) ≡ false → bs ≡ front ++ (unwrap_or (option_and_then (blocks_on g tracks last last.tt) o) [] ++ []) → Parts tracks last bs
      by_track None there some all = cc
      by_track (Some t) there some all = by_zero t there ((last.tt == last.tt) && (last.r == 0)) refl some all

  -- the blocks on a track are its records
  blocks_read : (tracks : List (List ℕ)) (last : Place) (k t : ℕ) (u : Option ℕ) (xs : List Record) → ((k == last.tt) && (last.r == 0)) ≡ false → upto_last last k ≡ u → slice_get owned k ≡ Some t → records_in g tracks u t ≡ Some xs → list_all is_block xs ≡ true → blocks_at g tracks owned last k ≡ Some (blocks_from k 1 xs)
  unfolding blocks_at blocks_on
  blocks_read tracks last k t u xs test upto there read are =
      ap (option_and_then (blocks_on g tracks last k)) there
      ∙ ap (λ (c : Bool). cond c None (option_and_then (blocks_of k) (records_in g tracks (upto_last last k) t))) test
      ∙ ap (λ (v : Option ℕ). option_and_then (blocks_of k) (records_in g tracks v t)) upto
      ∙ ap (option_and_then (blocks_of k)) read
      ∙ ap (λ (b : Bool). cond b (Some (blocks_from k 1 xs)) None) are

  -- the tracks before the last block's have the same blocks where they have the same records
  front_alike : (a b : List (List ℕ)) (p q : Place) (k : ℕ) → k < p.tt → k < q.tt → ((t : ℕ) → slice_get owned k ≡ Some t → records_in g b None t ≡ records_in g a None t) → blocks_at g b owned q k ≡ blocks_at g a owned p k
  unfolding blocks_at blocks_on
  front_alike a b p q k under low same = by (slice_get owned k) refl
    where
      one : (t : ℕ) → slice_get owned k ≡ Some t → blocks_on g b q k t ≡ blocks_on g a p k t
      one t there =
          ap (λ (c : Bool). cond c None (option_and_then (blocks_of k) (records_in g b (upto_last q k) t))) (below k q.tt q.r low)
          ∙ ap (λ (v : Option ℕ). option_and_then (blocks_of k) (records_in g b v t)) (upto_below q k low)
          ∙ ap (option_and_then (blocks_of k)) (same t there)
          ∙ ap (λ (v : Option ℕ). option_and_then (blocks_of k) (records_in g a v t)) (sym (upto_below p k under))
          ∙ ap (λ (c : Bool). cond c None (option_and_then (blocks_of k) (records_in g a (upto_last p k) t))) (sym (below k p.tt p.r under))

      by : (o : Option ℕ) → slice_get owned k ≡ o → option_and_then (blocks_on g b q k) o ≡ option_and_then (blocks_on g a p k) o
      by None there = refl
      by (Some t) there = one t there

  -- a body whose tracks are read so
  body_is : (tracks : List (List ℕ)) (lstar : List ℕ) (last : Place) (bs : List Block) → last_of lstar ≡ last → has_no_block lstar ≡ false → AllRead (map (blocks_at g tracks owned last) (range_with_len 0 (last.tt + 1))) bs → seq_body g tracks extents lstar ≡ Seq bs
  unfolding seq_body
  body_is tracks lstar last bs ends some all =
      ap (λ (b : Bool). cond b (Seq []) (seq_of (map (blocks_at g tracks owned (last_of lstar)) (range_with_len 0 ((last_of lstar).tt + 1))))) some
      ∙ ap (λ (p : Place). seq_of (map (blocks_at g tracks owned p) (range_with_len 0 (p.tt + 1)))) ends
      ∙ read_all (map (blocks_at g tracks owned last) (range_with_len 0 (last.tt + 1))) bs all

  all_with : (tracks : List (List ℕ)) (last : Place) (front on : List Block) → AllRead (map (blocks_at g tracks owned last) (range_with_len 0 last.tt)) front → blocks_at g tracks owned last last.tt ≡ Some on → AllRead (map (blocks_at g tracks owned last) (range_with_len 0 (last.tt + 1))) (front ++ on)
  all_with tracks last front on fronts here =
      subst (λ (l : List (Option (List Block))). AllRead l (front ++ on)) (ap (λ (o : Option (List Block)). map (blocks_at g tracks owned last) (range_with_len 0 last.tt) ++ o ∷ []) (sym here) ∙ sym (map_end (blocks_at g tracks owned last) last.tt))
      (read_join (map (blocks_at g tracks owned last) (range_with_len 0 last.tt)) front on fronts)

  blocks_more : (k r : ℕ) (xs ys : List Record) → blocks_from k r (xs ++ ys) ≡ blocks_from k r xs ++ blocks_from k (r + length xs) ys
  blocks_more k r [] ys = let none : r ≡ r + 0 = omega arith in ap (λ (n : ℕ). blocks_from k n ys) none
  blocks_more k r (x ∷ xs) ys =
      let next : r + 1 + length xs ≡ r + suc (length xs) = omega arith in
      ap (λ (l : List Block). block_at k r x ∷ l) (blocks_more k (r + 1) xs ys ∙ ap (λ (n : ℕ). blocks_from k (r + 1) xs ++ blocks_from k n ys) next)

  all_blocks : (xs ys : List Record) → list_all is_block xs ≡ true → list_all is_block ys ≡ true → list_all is_block (xs ++ ys) ≡ true
  all_blocks [] ys first second = second
  all_blocks (x ∷ xs) ys first second =
      let parts = and_parts (is_block x) (list_all is_block xs) first in
      ap₂ (λ (a b : Bool). a && b) parts.0 (all_blocks xs ys parts.1 second)

  module _ (a b : List (List ℕ)) (p : Place) (bs : List Block) (parts : Parts a p bs)
      (same : (k t : ℕ) → k < p.tt → slice_get owned k ≡ Some t → records_in g b None t ≡ records_in g a None t)
      (lstar : List ℕ) (q : Place) (ends : last_of lstar ≡ q) (some : has_no_block lstar ≡ false)
      (x : Record) (block : is_block x ≡ true) where
    one_block : list_all is_block (x ∷ []) ≡ true
    one_block = ap (λ (t : Bool). t && true) block

    fronts_b : p.tt ≤ q.tt → AllRead (map (blocks_at g b owned q) (range_with_len 0 p.tt)) parts.front
    fronts_b low = subst (λ (l : List (Option (List Block))). AllRead l parts.front)
        (sym (map_alike (blocks_at g b owned q) (blocks_at g a owned p) p.tt 0 (λ k under. front_alike a b p q k (omega (arith, under)) (omega (arith, under, low)) (λ t there. same k t (omega (arith, under)) there)))) parts.fronts

    -- one more record on the last block's track
    pub on_same : q ≡ record { tt = p.tt; r = length parts.records + 1 } → records_in g b (Some (length parts.records + 1)) parts.track ≡ Some (parts.records ++ x ∷ []) → seq_body g b extents lstar ≡ Seq (bs ++ block_at p.tt (length parts.records + 1) x ∷ [])
    on_same at read =
        let here : Place = record { tt = p.tt; r = length parts.records + 1 } in
        let on : List Block = blocks_from p.tt 1 (parts.records ++ x ∷ []) in
        let number : 1 + length parts.records ≡ length parts.records + 1 = omega arith in
        let fronts : AllRead (map (blocks_at g b owned here) (range_with_len 0 p.tt)) parts.front = subst (λ (l : Place). AllRead (map (blocks_at g b owned l) (range_with_len 0 p.tt)) parts.front) at (fronts_b (omega (arith, ap (λ (l : Place). l.tt) at))) in
        let mine : blocks_at g b owned here p.tt ≡ Some on = blocks_read b here p.tt parts.track (Some here.r) (parts.records ++ x ∷ []) (no_zero p.tt here.r (omega arith)) (upto_here here) parts.there read (all_blocks parts.records (x ∷ []) parts.blocks one_block) in
        body_is b lstar here (parts.front ++ on) (ends ∙ at) some (all_with b here parts.front on fronts mine)
        ∙ ap Seq (ap (λ (l : List Block). parts.front ++ l) (blocks_more p.tt 1 parts.records (x ∷ []))
        ∙ sym (append_assoc parts.front (blocks_from p.tt 1 parts.records) (block_at p.tt (1 + length parts.records) x ∷ []))
        ∙ ap (λ (l : List Block). l ++ block_at p.tt (1 + length parts.records) x ∷ []) (sym parts.all)
        ∙ ap (λ (n : ℕ). bs ++ block_at p.tt n x ∷ []) number)

    -- or the first one on the next track
    pub on_next : (t : ℕ) → q ≡ record { tt = p.tt + 1; r = 1 } → records_in g b None parts.track ≡ Some parts.records → slice_get owned (p.tt + 1) ≡ Some t → records_in g b (Some 1) t ≡ Some (x ∷ []) → seq_body g b extents lstar ≡ Seq (bs ++ block_at (p.tt + 1) 1 x ∷ [])
    on_next t at ended there read =
        let here : Place = record { tt = p.tt + 1; r = 1 } in
        let old : List Block = blocks_from p.tt 1 parts.records in
        let low : p.tt < p.tt + 1 = omega arith in
        let fronts : AllRead (map (blocks_at g b owned here) (range_with_len 0 p.tt)) parts.front = subst (λ (l : Place). AllRead (map (blocks_at g b owned l) (range_with_len 0 p.tt)) parts.front) at (fronts_b (omega (arith, ap (λ (l : Place). l.tt) at))) in
        let before : blocks_at g b owned here p.tt ≡ Some old = blocks_read b here p.tt parts.track None parts.records (below p.tt (p.tt + 1) 1 low) (upto_below here p.tt low) parts.there ended parts.blocks in
        let all : AllRead (map (blocks_at g b owned here) (range_with_len 0 (p.tt + 1))) (parts.front ++ old) =
        subst (λ (l : List (Option (List Block))). AllRead l (parts.front ++ old)) (ap (λ (o : Option (List Block)). map (blocks_at g b owned here) (range_with_len 0 p.tt) ++ o ∷ []) (sym before) ∙ sym (map_end (blocks_at g b owned here) p.tt))
        (read_join (map (blocks_at g b owned here) (range_with_len 0 p.tt)) parts.front old fronts)
        in
        let mine : blocks_at g b owned here (p.tt + 1) ≡ Some (block_at (p.tt + 1) 1 x ∷ []) = blocks_read b here (p.tt + 1) t (Some 1) (x ∷ []) (no_zero (p.tt + 1) 1 (omega arith)) (upto_here here) there read one_block in
        body_is b lstar here ((parts.front ++ old) ++ block_at (p.tt + 1) 1 x ∷ []) (ends ∙ at) some (all_with b here (parts.front ++ old) (block_at (p.tt + 1) 1 x ∷ []) all mine)
        ∙ ap (λ (l : List Block). Seq (l ++ block_at (p.tt + 1) 1 x ∷ [])) (sym parts.all)

  -- the first block of all
  pub on_first : (b : List (List ℕ)) (lstar : List ℕ) (x : Record) (t : ℕ) → last_of lstar ≡ record { tt = 0; r = 1 } → has_no_block lstar ≡ false → is_block x ≡ true → slice_get owned 0 ≡ Some t → records_in g b (Some 1) t ≡ Some (x ∷ []) → seq_body g b extents lstar ≡ Seq (block_at 0 1 x ∷ [])
  on_first b lstar x t ends some block there read =
      let here : Place = record { tt = 0; r = 1 } in
      body_is b lstar here ([] ++ block_at 0 1 x ∷ []) ends some
      (all_with b here [] (block_at 0 1 x ∷ []) (refl, refl) (blocks_read b here 0 t (Some 1) (x ∷ []) (no_zero 0 1 (omega arith)) (upto_here here) there read (ap (λ (t : Bool). t && true) block)))
