-- The body of a partitioned data set is lawful: its directory has room for its entries, and its blocks follow one another on its tracks.
use Rattle.std.proofs.Common.{◌≡◌, ◌⊎◌, ◌+◌, ◌*◌, ◌≤◌, ◌<◌, ℕ, zero, suc, Bool, true, false, cond, ◌&&◌, List, [], ◌∷◌, ◌++◌, length, map, Option, Some, None, inl, inr, refl, sym, ap, ◌∙◌, subst, arith, length-append}
use Rattle.std.specs.Prelude.{unwrap_or, slice_index}
use Rattle.std.specs.List.{AllByRecursion, enumerate_from, find, flat_map, list_all, range_with_len}
use Rattle.std.proofs.Math.Nat.{mod-lt}
use Rattle.std.proofs.lemmas.Bool.{and_parts, cases_lt}
use Rattle.std.proofs.lemmas.Bool.Decides.{nat_tests}
use Rattle.std.proofs.lemmas.List.Elements.{filter-append}
use Rattle.std.proofs.lemmas.List.Sums.{count_by-le-length, length-filter}
use Rattle.std.proofs.lemmas.Option.{slice_get_within}
use Rattle.ckd_image.specs.declared.header.Geometry.{Geometry}
use Rattle.ckd_image.specs.Track.{Record}
use Rattle.vol_model.specs.declared.contents.Block.{Block}
use Rattle.vol_model.specs.declared.contents.Body.{Body}
use Rattle.vol_model.specs.declared.contents.Body.TheVariants.{Part}
use Rattle.vol_model.specs.declared.contents.Entry.{Entry}
use Rattle.vol_model.specs.declared.contents.Place.{Place}
use Rattle.vol_model.specs.declared.contents.Run.{Run}
use Rattle.vol_model.specs.Lawful.{EntriesAscend, FollowFrom, IsLawfulBlock, IsLawfulBody, IsLawfulEntry, IsLawfulPart, is_next}
use Rattle.vol_model.specs.Places as places
use Rattle.vol_model.specs.Slots.{directory_needed}
use Rattle.vol_model.specs.Places.{is_before}
use Rattle.pack_spec.specs.Blocks.{block_at, blocks_from, is_block, last_of, owned_tracks}
use Rattle.pack_spec.specs.Directories.{before_end, behind_end, end_from, end_or, end_record, entries_of, has_end_by, is_directory_record, may_stand, part_at, part_body, part_tracks, read_to, record_numbers}
use Rattle.pack_spec.proofs.DirectoryEntries.{IsLawfulDirectory, lawful_directory}
use Rattle.pack_spec.proofs.PartBodies.{IsPart, IsPast, IsRead, part_end, part_is, part_or_unread, part_read, part_within, read_past_end}
use Rattle.pack_spec.proofs.SeqBodies.{AreBehind, IsReady, few_records, length-owned, on_track, one_track}

-- ---- the blocks of a track after the directory's end

-- a record that isn't before the directory's end can be a block
pub stand_blocks : (end : Place) (k r : ℕ) (xs : List Record) → ((q : ℕ) → r ≤ q → is_before (record { tt = k; r = q }) end ≡ false) → list_all (may_stand end k) (enumerate_from r xs) ≡ true → list_all is_block xs ≡ true
stand_blocks end k r [] past are = refl
stand_blocks end k r (x ∷ xs) past are =
    let parts = and_parts (may_stand end k (r, x)) (list_all (may_stand end k) (enumerate_from (r + 1) xs)) are in
    let one : is_block x ≡ true = sym (ap (λ (b : Bool). cond b (is_directory_record x) (is_block x)) (past r (omega arith))) ∙ parts.0 in
    ap (λ (b : Bool). b && list_all is_block xs) one ∙ stand_blocks end k (r + 1) xs (λ q low. past q (omega (arith, low))) parts.1

-- all blocks of a later track stand after it, and none of an earlier one
pub all_behind : (end : Place) (k r : ℕ) (xs : List Record) → ((q : ℕ) → r ≤ q → is_before end (record { tt = k; r = q }) ≡ true) → behind_end end (blocks_from k r xs) ≡ blocks_from k r xs
all_behind end k r [] past = refl
all_behind end k r (x ∷ xs) past =
    ap (λ (b : Bool). cond b (block_at k r x ∷ behind_end end (blocks_from k (r + 1) xs)) (behind_end end (blocks_from k (r + 1) xs))) (past r (omega arith))
    ∙ ap (λ (bs : List Block). block_at k r x ∷ bs) (all_behind end k (r + 1) xs (λ q low. past q (omega (arith, low))))

pub none_behind : (end : Place) (k r : ℕ) (xs : List Record) → k < end.tt → behind_end end (blocks_from k r xs) ≡ []
none_behind end k r [] low = refl
none_behind end k r (x ∷ xs) low =
    ap (λ (b : Bool). cond b (block_at k r x ∷ behind_end end (blocks_from k (r + 1) xs)) (behind_end end (blocks_from k (r + 1) xs))) (before end k r low)
    ∙ none_behind end k (r + 1) xs low
  where
    before : (end : Place) (k r : ℕ) → k < end.tt → is_before end (record { tt = k; r = r }) ≡ false
    before end k r low = grind (arith, nat_tests)

-- blocks that follow from a place, and are lawful
abbrev Follow : ℕ → Place → List Block → Type 0
Follow total p bs = FollowFrom total p bs × AllByRecursion IsLawfulBlock bs

module _ (total : ℕ) (few : total < 65535) (end : Place) where
  -- on the track of the end
  end_track : (r : ℕ) (xs : List Record) (bs : List Block) → end.tt < total → r + length xs ≤ 256 → r ≤ end.r + 1 → list_all (may_stand end end.tt) (enumerate_from r xs) ≡ true → AreBehind total (end.tt + 1) bs
      → Follow total end (behind_end end (blocks_from end.tt r xs) ++ bs)
  end_track r [] bs low room upto are behind = (behind.0 end (ready end), behind.1)
    where
      ready : (p : Place) → IsReady p (p.tt + 1)
      ready p j past = grind (arith, nat_tests)
  end_track r (x ∷ xs) bs low room upto are behind =
      by (is_before end (record { tt = end.tt; r = r })) refl
      (λ h. end_track (r + 1) xs bs low (omega (arith, room)) (omega (arith, h)) (and_parts (may_stand end end.tt (r, x)) (list_all (may_stand end end.tt) (enumerate_from (r + 1) xs)) are).1 behind)
    where
      ready : (p : Place) → IsReady p (p.tt + 1)
      ready p j past = grind (arith, nat_tests)

      next : (p : Place) (r : ℕ) → r ≤ p.r + 1 → is_before p (record { tt = p.tt; r = r }) ≡ true → is_next p (record { tt = p.tt; r = r }) ≡ true
      next p r upto past = grind (arith, nat_tests)

      past_end : (p : Place) (r q : ℕ) → is_before p (record { tt = p.tt; r = r }) ≡ true → r ≤ q → is_before p (record { tt = p.tt; r = q }) ≡ true
      past_end p r q past low = grind (arith, nat_tests)

      not_before : (p : Place) (r q : ℕ) → is_before p (record { tt = p.tt; r = r }) ≡ true → r ≤ q → is_before (record { tt = p.tt; r = q }) p ≡ false
      not_before p r q past low = grind (arith, nat_tests)

      upto_end : (p : Place) (r : ℕ) → is_before p (record { tt = p.tt; r = r }) ≡ false → r ≤ p.r
      upto_end p r past = grind (arith, nat_tests)

      by : (b : Bool) → is_before end (record { tt = end.tt; r = r }) ≡ b → (r ≤ end.r → Follow total end (behind_end end (blocks_from end.tt (r + 1) xs) ++ bs))
          → Follow total end (behind_end end (blocks_from end.tt r (x ∷ xs)) ++ bs)
      by true past later =
          subst (λ (zs : List Block). Follow total end (zs ++ bs)) (sym (all_behind end end.tt r (x ∷ xs) (λ q low. past_end end r q past low)))
          (on_track total few end.tt r (x ∷ xs) bs end low room (next end r upto past) (ready end) (stand_blocks end end.tt r (x ∷ xs) (λ q low. not_before end r q past low) are) behind)
      by false past later =
          subst (λ (zs : List Block). Follow total end (zs ++ bs))
          (sym (ap (λ (b : Bool). cond b (block_at end.tt r x ∷ behind_end end (blocks_from end.tt (r + 1) xs)) (behind_end end (blocks_from end.tt (r + 1) xs))) past))
          (later (upto_end end r past))

  -- on a later track
  later_track : (k : ℕ) (xs : List Record) (bs : List Block) → k < total → end.tt < k → length xs ≤ 255 → list_all (may_stand end k) (enumerate_from 1 xs) ≡ true → AreBehind total (k + 1) bs → AreBehind total k (behind_end end (blocks_from k 1 xs) ++ bs)
  later_track k xs bs low past short are behind =
      subst (λ (zs : List Block). AreBehind total k (zs ++ bs)) (sym (all_behind end k 1 xs (λ q some. after end k q past)))
      (one_track total few k xs bs low short (stand_blocks end k 1 xs (λ q some. not_before end k q past) are) behind)
    where
      after : (p : Place) (k q : ℕ) → p.tt < k → is_before p (record { tt = k; r = q }) ≡ true
      after p k q past = grind (arith, nat_tests)

      not_before : (p : Place) (k q : ℕ) → p.tt < k → is_before (record { tt = k; r = q }) p ≡ false
      not_before p k q past = grind (arith, nat_tests)

-- ---- the blocks of all tracks

-- a record number is one byte
found_low : (p : ℕ → Bool) (n low r : ℕ) → find p (range_with_len low n) ≡ Some r → r < low + n
found_low p zero low r is = cc
found_low p (suc n) low r is = by (p low) (λ e. found_low p n (low + 1) r e) is
  where
    by : (b : Bool) → (find p (range_with_len (low + 1) n) ≡ Some r → r < low + 1 + n) → cond b (Some low) (find p (range_with_len (low + 1) n)) ≡ Some r → r < low + suc n
    by true later e = let here : low ≡ r = cc in omega (arith, here)
    by false later e = omega (arith, later e)

record_low : (g : Geometry) (tracks : List (List ℕ)) (t r : ℕ) → end_record g tracks t ≡ Some r → r ≤ 255
unfolding end_record record_numbers
record_low g tracks t r is = omega (arith, found_low (has_end_by g tracks t) 255 1 r is)

pub end_number : (g : Geometry) (tracks : List (List ℕ)) (k : ℕ) (ts : List ℕ) → (end_from g tracks k ts).r ≤ 255
unfolding end_from
end_number g tracks k [] = omega arith
end_number g tracks k (t ∷ ts) = by (end_record g tracks t) (λ r e. record_low g tracks t r e) (end_number g tracks (k + 1) ts)
  where
    by : (o : Option ℕ) → ((r : ℕ) → o ≡ Some r → r ≤ 255) → (end_from g tracks (k + 1) ts).r ≤ 255 → (end_or k (end_from g tracks (k + 1) ts) o).r ≤ 255
    by None low later = later
    by (Some r) low later = low r refl

read_number : (end : Place) (lstar : List ℕ) → end.r ≤ 255 → (read_to end lstar).r ≤ 255
read_number end lstar low = by (is_before end (last_of lstar))
  where
    by : (b : Bool) → (cond b (last_of lstar) end).r ≤ 255
    by true = omega (arith, mod-lt (slice_index lstar 2) {m = 255} (omega arith))
    by false = low

length-blocks : (k r : ℕ) (xs : List Record) → length (blocks_from k r xs) ≡ length xs
length-blocks k r [] = refl
length-blocks k r (x ∷ xs) = ap suc (length-blocks k (r + 1) xs)

module _ (g : Geometry) (tracks : List (List ℕ)) (owned : List ℕ) (end to : Place) (total : ℕ) (few : total < 65535) (as_many : length owned ≡ total) (number : to.r ≤ 255) where
  abbrev at : ℕ → List Block
  at k = unwrap_or (part_at g tracks owned end to k) []

  -- the blocks on so many relative tracks from one on
  abbrev on : ℕ → ℕ → List Block
  on k n = flat_map (λ o. unwrap_or o []) (map (part_at g tracks owned end to) (range_with_len k n))

  is_at : (k : ℕ) (read : IsRead g tracks owned end to k) → at k ≡ blocks_from k 1 read.xs
  is_at k read = ap (λ (o : Option (List Block)). unwrap_or o []) read.blocks

  inside : (k : ℕ) → IsRead g tracks owned end to k → k < total
  inside k read = omega (arith, slice_get_within owned k read.track read.there, as_many)

  short : (k : ℕ) (read : IsRead g tracks owned end to k) → length read.xs ≤ 255
  short k read = few_records g tracks to k read.track read.xs number read.records

  -- those after the directory's end
  split : (k n : ℕ) (read : IsRead g tracks owned end to k) → behind_end end (on k (suc n)) ≡ behind_end end (blocks_from k 1 read.xs) ++ behind_end end (on (k + 1) n)
  split k n read = filter-append (λ (b : Block). is_before end b.place) (at k) (on (k + 1) n) ∙ ap (λ (bs : List Block). behind_end end bs ++ behind_end end (on (k + 1) n)) (is_at k read)

  all_later : (n k : ℕ) → end.tt < k → ((j : ℕ) → k ≤ j → j < k + n → IsRead g tracks owned end to j) → AreBehind total k (behind_end end (on k n))
  all_later zero k past reads = (λ p ready. tt, tt)
  all_later (suc n) k past reads =
      let read = reads k (omega arith) (omega arith) in
      let rest = all_later n (k + 1) (omega (arith, past)) (λ j low up. reads j (omega (arith, low)) (omega (arith, up))) in
      subst (AreBehind total k) (sym (split k n read)) (later_track total few end k read.xs (behind_end end (on (k + 1) n)) (inside k read) past (short k read) read.stand rest)

  all_behind_end : (n k : ℕ) → k ≤ end.tt → end.tt < k + n → ((j : ℕ) → k ≤ j → j < k + n → IsRead g tracks owned end to j) → Follow total end (behind_end end (on k n))
  all_behind_end zero k low up reads = absurd (omega (arith, low, up))
  all_behind_end (suc n) k low up reads =
      by (λ h. all_behind_end n (k + 1) (omega (arith, h)) (omega (arith, up)) later) (cases_lt k end.tt)
    where
      read : IsRead g tracks owned end to k
      read = reads k (omega arith) (omega arith)

      later : (j : ℕ) → k + 1 ≤ j → j < k + 1 + n → IsRead g tracks owned end to j
      later j above under = reads j (omega (arith, above)) (omega (arith, under))

      at_end : k ≡ end.tt → Follow total end (behind_end end (blocks_from k 1 read.xs) ++ behind_end end (on (k + 1) n))
      at_end same =
          let rest = all_later n (k + 1) (omega (arith, same)) later in
          subst (λ (j : ℕ). Follow total end (behind_end end (blocks_from j 1 read.xs) ++ behind_end end (on (k + 1) n))) (sym same)
          (end_track total few end 1 read.xs (behind_end end (on (k + 1) n)) (omega (arith, inside k read, same)) (omega (arith, short k read)) (omega arith)
          (subst (λ (j : ℕ). list_all (may_stand end j) (enumerate_from 1 read.xs) ≡ true) same read.stand)
          (subst (λ (j : ℕ). AreBehind total (j + 1) (behind_end end (on (k + 1) n))) same rest))

      by : (k < end.tt → Follow total end (behind_end end (on (k + 1) n))) → (k < end.tt) ⊎ (end.tt ≤ k) → Follow total end (behind_end end (on k (suc n)))
      by rest (inl w) = subst (Follow total end) (sym (split k n read ∙ ap (λ (bs : List Block). bs ++ behind_end end (on (k + 1) n)) (none_behind end k 1 read.xs w))) (rest w)
      by rest (inr w) = subst (Follow total end) (sym (split k n read)) (at_end (omega (arith, low, w)))

  -- a track has at most 255
  few_on : (n k : ℕ) → ((j : ℕ) → k ≤ j → j < k + n → IsRead g tracks owned end to j) → length (on k n) ≤ n * 255
  few_on zero k reads = omega arith
  few_on (suc n) k reads =
      let read = reads k (omega arith) (omega arith) in
      omega (arith, length-append (at k) (on (k + 1) n), ap length (is_at k read), length-blocks k 1 read.xs, short k read, few_on n (k + 1) (λ j low up. reads j (omega (arith, low)) (omega (arith, up))))

-- The body, if it can be read, is lawful.
module _ (g : Geometry) (tracks : List (List ℕ)) (extents : List Run) (lstar : List ℕ) (few : places.tracks_in extents < 65535) where
  lawful_read : (n : ℕ) (end : Place) (es : List Entry) (bs : List Block) → part_body g tracks extents lstar ≡ Part n end es bs → IsLawfulPart (places.tracks_in extents) n end es bs
  unfolding part_tracks
  lawful_read n end es bs is = record {
    few = omega (arith, sym part.count, length-filter (λ (b : Block). is_before b.place end) all, count_by-le-length (λ (b : Block). is_before b.place end) all, many, within, owns, few);
    room = subst (λ (zs : List Entry). directory_needed zs ≤ n) part.entries (subst (λ (m : ℕ). directory_needed (entries_of (before_end end all)) ≤ m) part.count law.room);
    order = subst EntriesAscend part.entries law.order;
    entries = subst (AllByRecursion IsLawfulEntry) part.entries law.entries;
    end = omega (arith, past.track, within, owns);
    follow = subst (FollowFrom (places.tracks_in extents) end) part.blocks follow.0;
    blocks = subst (AllByRecursion IsLawfulBlock) part.blocks follow.1;
  }
    where
      to : Place
      to = read_to end lstar

      owned : List ℕ
      owned = owned_tracks extents

      part : IsPart end (part_tracks g tracks owned end to) n end es bs
      part = part_is g tracks extents lstar n end es bs is

      reads : (j : ℕ) → 0 ≤ j → j < 0 + (to.tt + 1) → IsRead g tracks owned end to j
      reads j low up = part_read g tracks extents lstar n end es bs is j (omega (arith, up))

      within : to.tt < length owned
      within = part_within g tracks extents lstar n end es bs is

      owns : length owned ≡ places.tracks_in extents
      owns = length-owned extents

      past : IsPast end to
      past = read_past_end end lstar

      number : to.r ≤ 255
      number = read_number end lstar (subst (λ (p : Place). p.r ≤ 255) (part_end g tracks extents lstar n end es bs is) (end_number g tracks 0 owned))

      all : List Block
      all = on g tracks owned end to (places.tracks_in extents) few owns number 0 (to.tt + 1)

      many : length all ≤ (to.tt + 1) * 255
      many = few_on g tracks owned end to (places.tracks_in extents) few owns number (to.tt + 1) 0 reads

      follow : Follow (places.tracks_in extents) end (behind_end end all)
      follow = all_behind_end g tracks owned end to (places.tracks_in extents) few owns number (to.tt + 1) 0 (omega arith) (omega (arith, past.track)) reads

      law : IsLawfulDirectory (length (before_end end all)) (entries_of (before_end end all))
      law = lawful_directory end.tt (before_end end all) part.ended

  pub lawful_part : IsLawfulBody (places.tracks_in extents) (part_body g tracks extents lstar)
  lawful_part = part_or_unread g tracks extents lstar (λ (b : Body). part_body g tracks extents lstar ≡ b → IsLawfulBody (places.tracks_in extents) b) lawful_read (λ k is. tt) refl
