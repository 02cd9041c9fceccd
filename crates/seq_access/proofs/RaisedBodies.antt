-- The body that a data set has with a further last block: its own, with what was put after that.
use Rattle.std.proofs.Common.{◌≡◌, ◌⊎◌, ◌+◌, ◌≤◌, ◌<◌, ℕ, zero, suc, Bool, true, false, cond, ◌&&◌, List, [], ◌∷◌, ◌++◌, length, map, take, Option, Some, None, inl, inr, refl, sym, ap, ap₂, ◌∙◌, subst, arith, option_and_then, ⊎_elim}
use Rattle.std.specs.Prelude.{◌==◌, is_none, slice_get, unwrap_or}
use Rattle.std.specs.List.{enumerate_from, flat_map, list_all, list_any, range_with_len}
use Rattle.std.proofs.lemmas.Bool.{and_parts, cases_lt}
use Rattle.std.proofs.lemmas.Bool.Decides.{eqb_tells, nat_tests}
use Rattle.std.proofs.lemmas.List.{append-nil}
use Rattle.std.proofs.lemmas.List.Elements.{filter-append}
use Rattle.ckd_image.specs.declared.header.Geometry.{Geometry}
use Rattle.ckd_image.specs.Track.{Record}
use Rattle.vol_model.specs.declared.contents.Block.{Block}
use Rattle.vol_model.specs.declared.contents.Body.{Body}
use Rattle.vol_model.specs.declared.contents.Body.TheVariants.{Part, Seq}
use Rattle.vol_model.specs.declared.contents.Entry.{Entry}
use Rattle.vol_model.specs.declared.contents.Place.{Place}
use Rattle.vol_model.specs.declared.contents.Run.{Run}
use Rattle.vol_model.specs.Places.{Content, is_before, placed, with_blocks}
use Rattle.pack_spec.specs.Blocks.{blocks_at, blocks_from, blocks_of, blocks_on, has_no_block, is_block, last_of, owned_tracks, records_in, seq_body, seq_of, upto_last}
use Rattle.pack_spec.specs.Bodies.{body_of}
use Rattle.pack_spec.specs.Directories.{before_end, behind_end, directory_break, entries_of, is_directory_record, may_stand, part_at, part_blocks, part_body, part_ended, part_of, part_on, part_tracks, read_to}
use Rattle.pack_spec.specs.Volume.{attr_of}
use Rattle.pack_spec.proofs.BlockBodies.{all_there, map_range, tracks_read}
use Rattle.pack_spec.proofs.BodyKinds.{partitioned_body, sequential_body}
use Rattle.pack_spec.proofs.FrontRecords.{first_of_all, first_of_some, first_taken}
use Rattle.pack_spec.proofs.PartBodies.{IsPast, IsRead, from_part, part_end, part_is, part_read, read_past_end}
use Rattle.vtoc_index.specs.declared.vol.Vol.{Vol}
use Rattle.vtoc_index.specs.Last.{lstar_of}
use Rattle.vtoc_sets.specs.Sets.{extents_in}
use Rattle.seq_access.specs.declared.writer.Writer.{Writer}
use Rattle.seq_access.specs.Bodies.{body_of_set, body_upto, data_in}
use Rattle.seq_access.specs.Writing.{IsNotBefore, IsWriting, puts_in, written_by}
use Rattle.seq_access.proofs.LastPlaces.{last_said, some_said}
use Rattle.seq_access.proofs.NextBodies.{last_at, old_blocks, old_part, parts, placed_behind, read as read_part, written_part}
use Rattle.seq_access.proofs.OwnBodies.{as_partitioned, as_sequential, by_body}
use Rattle.vtoc_sets.proofs.EndTracks.{few_first}
use Rattle.seq_access.proofs.PartFronts.{AreBehind, before_none, behind_all, behind_both}
use Rattle.seq_access.proofs.PartReading.{all}

-- records that can be blocks may stand where no directory block does
stand_past : (end : Place) (k r : ℕ) (xs : List Record) → ((q : ℕ) → r ≤ q → is_before (record { tt = k; r = q }) end ≡ false) → list_all is_block xs ≡ true → list_all (may_stand end k) (enumerate_from r xs) ≡ true
stand_past end k r [] past are = refl
stand_past end k r (x ∷ xs) past are =
    let both = and_parts (is_block x) (list_all is_block xs) are in
    ap₂ (λ (a b : Bool). a && b) (ap (λ (b : Bool). cond b (is_directory_record x) (is_block x)) (past r (omega arith)) ∙ both.0) (stand_past end k (r + 1) xs (λ q low. past q (omega (arith, low))) both.1)

-- and after others that may
stand_more : (end : Place) (k m r : ℕ) (xs : List Record) → list_all (may_stand end k) (enumerate_from r (take m xs)) ≡ true → ((q : ℕ) → r + m ≤ q → is_before (record { tt = k; r = q }) end ≡ false) → list_all is_block xs ≡ true → list_all (may_stand end k) (enumerate_from r xs) ≡ true
stand_more end k zero r xs stand past are = stand_past end k r xs (λ q low. past q (omega (arith, low))) are
stand_more end k (suc m) r [] stand past are = refl
stand_more end k (suc m) r (x ∷ xs) stand past are =
    let first = and_parts (may_stand end k (r, x)) (list_all (may_stand end k) (enumerate_from (r + 1) (take m xs))) stand in
    let both = and_parts (is_block x) (list_all is_block xs) are in
    ap₂ (λ (a b : Bool). a && b) first.0 (stand_more end k m (r + 1) xs first.1 (λ q low. past q (omega (arith, low))) both.1)

not_before_at : (end : Place) (k q : ℕ) → end.tt ≤ k → (end.tt ≡ k → end.r ≤ q) → is_before (record { tt = k; r = q }) end ≡ false
not_before_at end k q low past = by (eqb_tells end.tt k)
  where
    here : (end : Place) (k q : ℕ) → end.tt ≡ k → end.r ≤ q → is_before (record { tt = k; r = q }) end ≡ false
    here end k q same low = grind (arith, nat_tests)

    later : (end : Place) (k q : ℕ) → end.tt < k → is_before (record { tt = k; r = q }) end ≡ false
    later end k q low = grind (arith, nat_tests)

    by : (((end.tt == k) ≡ true) × (end.tt ≡ k)) ⊎ (((end.tt == k) ≡ false) × (end.tt ≡ k → ⊥)) → is_before (record { tt = k; r = q }) end ≡ false
    by (inl w) = here end k q w.1 (past w.1)
    by (inr w) = later end k q (omega (arith, low, w.1))

not_past_track : (p q : Place) → is_before p q ≡ false → q.tt ≤ p.tt
not_past_track p q is = grind (arith, nat_tests)

not_past_place : (p q : Place) → is_before p q ≡ false → p.tt ≡ q.tt → q.r ≤ p.r
not_past_place p q is same = grind (arith, nat_tests)

test_other : (a b : ℕ) → a < b → (a == b) ≡ false
test_other a b low = grind (arith, nat_tests)

same_list : {X : Type 0} {a b : List X} → Some a ≡ Some b → a ≡ b
same_list e = cc

same_number : (a b : ℕ) → Some a ≡ Some b → a ≡ b
same_number a b e = cc

-- A partitioned body that can be read, and whose records up to a further block can: that is its last block then.
module _ (g : Geometry) (tracks : List (List ℕ)) (extents : List Run) (lstar : List ℕ) (n : ℕ) (end : Place) (es : List Entry) (bs : List Block)
    (is : part_body g tracks extents lstar ≡ Part n end es bs) (told : List ℕ) (last : Place) (said : last_of told ≡ last) (some : has_no_block told ≡ false)
    (behind : IsNotBefore last (read_to end lstar)) (whole : List Block) (blocks : seq_body g tracks extents told ≡ Seq whole) where
  abbrev owned : List ℕ
  owned = owned_tracks extents

  abbrev to : Place
  to = read_to end lstar

  past : IsPast end to
  past = read_past_end end lstar

  abbrev each : List (Option (List Block))
  each = map (blocks_at g tracks owned last) (range_with_len 0 (last.tt + 1))

  all_read : (list_any (λ o. is_none o) each ≡ false) × (flat_map (λ o. unwrap_or o []) each ≡ whole)
  unfolding seq_body
  all_read = tracks_read each whole
      (ap (λ (p : Place). seq_of (map (blocks_at g tracks owned p) (range_with_len 0 (p.tt + 1)))) (sym said)
      ∙ sym (ap (λ (b : Bool). cond b (Seq []) (seq_of (map (blocks_at g tracks owned (last_of told)) (range_with_len 0 ((last_of told).tt + 1))))) some)
      ∙ blocks)

  far : to.tt ≤ last.tt
  far = ⊎_elim (λ before. omega (arith, before)) (λ same. omega (arith, same.0)) behind

  far_here : to.tt ≡ last.tt → to.r ≤ last.r
  far_here same = ⊎_elim (λ before. absurd (omega (arith, before, same))) (λ level. level.1) behind

  upto : read_to end told ≡ last
  upto = by (is_before end (last_of told)) refl
    where
      by : (b : Bool) → is_before end (last_of told) ≡ b → cond b (last_of told) end ≡ last
      by true e = said
      by false e =
          let not : is_before end last ≡ false = ap (is_before end) (sym said) ∙ e in
          let track : end.tt ≡ last.tt = omega (arith, not_past_track end last not, past.track, far) in
          let level : to.tt ≡ last.tt = omega (arith, not_past_track end last not, past.track, far) in
          let number : end.r ≡ last.r = omega (arith, not_past_place end last not track, past.place (omega (arith, track, level)), far_here level) in
          ap₂ (λ (k r : ℕ). record { tt = k; r = r }) track number

  -- the records up to there may stand
  may : (k t : ℕ) (xs : List Record) → slice_get owned k ≡ Some t → records_in g tracks (upto_last last k) t ≡ Some xs → list_all is_block xs ≡ true → list_all (may_stand end k) (enumerate_from 1 xs) ≡ true
  may k t xs there stands are = elim (cases_lt to.tt k) [
    | inl later ↦ stand_past end k 1 xs (λ q low. not_before_at end k q (omega (arith, past.track, later)) (λ same. absurd (omega (arith, same, past.track, later)))) are
    | inr early ↦ by early (eqb_tells k to.tt) (part_read g tracks extents lstar n end es bs is k early)
  ]
    where
      first_read : k ≡ to.tt → (((k == last.tt) ≡ true) × (k ≡ last.tt)) ⊎ (((k == last.tt) ≡ false) × (k ≡ last.tt → ⊥)) → (ys : List Record) → records_in g tracks (Some to.r) t ≡ Some ys → ys ≡ take to.r xs
      first_read level (inl u) ys was =
          let now : records_in g tracks (Some last.r) t ≡ Some xs = ap (λ (b : Bool). records_in g tracks (cond b (Some last.r) None) t) (sym u.0) ∙ stands in
          same_list (sym was ∙ first_of_some g tracks t xs to.r last.r (far_here (omega (arith, level, u.1))) now)
      first_read level (inr u) ys was =
          let now : records_in g tracks None t ≡ Some xs = ap (λ (b : Bool). records_in g tracks (cond b (Some last.r) None) t) (sym u.0) ∙ stands in
          let first = sym (first_of_all g tracks t xs to.r now) ∙ was in
          same_list (sym first ∙ first_taken to.r xs (few_first to.r xs ys first))

      by : k ≤ to.tt → (((k == to.tt) ≡ true) × (k ≡ to.tt)) ⊎ (((k == to.tt) ≡ false) × (k ≡ to.tt → ⊥)) → IsRead g tracks owned end to k → list_all (may_stand end k) (enumerate_from 1 xs) ≡ true
      by low (inr w) read =
          let track : read.track ≡ t = same_number read.track t (sym read.there ∙ there) in
          let early : k < last.tt = omega (arith, low, w.1, far) in
          let was : records_in g tracks None t ≡ Some read.xs = ap (records_in g tracks None) (sym track) ∙ ap (λ (b : Bool). records_in g tracks (cond b (Some to.r) None) read.track) (sym w.0) ∙ read.records in
          let now : records_in g tracks None t ≡ Some xs = ap (λ (b : Bool). records_in g tracks (cond b (Some last.r) None) t) (sym (test_other k last.tt early)) ∙ stands in
          subst (λ (ys : List Record). list_all (may_stand end k) (enumerate_from 1 ys) ≡ true) (same_list (sym was ∙ now)) read.stand
      by early (inl w) read =
          let track : read.track ≡ t = same_number read.track t (sym read.there ∙ there) in
          let was : records_in g tracks (Some to.r) t ≡ Some read.xs = ap (records_in g tracks (Some to.r)) (sym track) ∙ ap (λ (b : Bool). records_in g tracks (cond b (Some to.r) None) read.track) (sym w.0) ∙ read.records in
          let front : read.xs ≡ take to.r xs = first_read w.1 (eqb_tells k last.tt) read.xs was in
          stand_more end k to.r 1 xs (subst (λ (ys : List Record). list_all (may_stand end k) (enumerate_from 1 ys) ≡ true) front read.stand)
          (λ q low. not_before_at end k q (omega (arith, past.track, w.1)) (λ same. omega (arith, past.place (omega (arith, same, w.1)), low))) are

  same_on : (k : ℕ) → k < 0 + (last.tt + 1) → part_at g tracks owned end last k ≡ blocks_at g tracks owned last k
  unfolding part_at part_on blocks_at blocks_on
  same_on k low = by (slice_get owned k) refl (all_there (blocks_at g tracks owned last) (last.tt + 1) 0 all_read.0 k (omega arith) low)
    where
      by_stand : (t : ℕ) (xs : List Record) → slice_get owned k ≡ Some t → records_in g tracks (upto_last last k) t ≡ Some xs → (b : Bool) → list_all is_block xs ≡ b → is_none (cond b (Some (blocks_from k 1 xs)) None) ≡ false → part_blocks end k xs ≡ cond b (Some (blocks_from k 1 xs)) None
      by_stand t xs there stands true are some = ap (λ (b : Bool). cond b (Some (blocks_from k 1 xs)) None) (may k t xs there stands are)
      by_stand t xs there stands false are some = cc

      by_records : (t : ℕ) → slice_get owned k ≡ Some t → (c : Bool) (o : Option (List Record)) → records_in g tracks (upto_last last k) t ≡ o → is_none (cond c None (option_and_then (blocks_of k) o)) ≡ false
          → cond c None (option_and_then (part_blocks end k) o) ≡ cond c None (option_and_then (blocks_of k) o)
      by_records t there true o stands some = refl
      by_records t there false None stands some = refl
      by_records t there false (Some xs) stands some = by_stand t xs there stands (list_all is_block xs) refl some

      by : (o : Option ℕ) → slice_get owned k ≡ o → is_none (option_and_then (blocks_on g tracks last k) o) ≡ false → option_and_then (part_on g tracks end last k) o ≡ option_and_then (blocks_on g tracks last k) o
      by None there some = refl
      by (Some t) there some = by_records t there ((k == last.tt) && (last.r == 0)) (records_in g tracks (upto_last last k) t) refl some

  same_tracks : part_tracks g tracks owned end last ≡ each
  unfolding part_tracks
  same_tracks = map_range (part_at g tracks owned end last) (blocks_at g tracks owned last) (last.tt + 1) 0 (λ k l u. same_on k u)

  -- with the same directory, and more blocks
  module _ (front more : List Block) (none : behind_end end front ≡ []) (past_bs : AreBehind end bs) (past_more : AreBehind end more) (shape : whole ≡ front ++ (bs ++ more))
      (ended : directory_break end.tt (before_end end front) ≡ None) (count : length (before_end end front) ≡ n) (entries : entries_of (before_end end front) ≡ es) where
    abbrev found : List Block
    found = flat_map (λ o. unwrap_or o []) (part_tracks g tracks owned end last)

    found_is : found ≡ front ++ (bs ++ more)
    found_is = ap (flat_map (λ o. unwrap_or o [])) same_tracks ∙ all_read.1 ∙ shape

    behind_more : AreBehind end (bs ++ more)
    behind_more = behind_both end bs more past_bs past_more

    directory : before_end end found ≡ before_end end front
    directory =
        ap (before_end end) found_is
        ∙ filter-append (λ (b : Block). is_before b.place end) front (bs ++ more)
        ∙ ap (λ (ys : List Block). before_end end front ++ ys) (before_none end (bs ++ more) behind_more)
        ∙ append-nil (before_end end front)

    members : behind_end end found ≡ bs ++ more
    members =
        ap (behind_end end) found_is
        ∙ filter-append (λ (b : Block). is_before end b.place) front (bs ++ more)
        ∙ ap₂ (λ (us ws : List Block). us ++ ws) none (behind_all end (bs ++ more) behind_more)

    pub part_raised : part_body g tracks extents told ≡ Part n end es (bs ++ more)
    unfolding part_body
    part_raised =
        ap (part_ended g tracks owned told) (part_end g tracks extents lstar n end es bs is)
        ∙ ap (λ (p : Place). part_of end (part_tracks g tracks owned end p)) upto
        ∙ from_part end (part_tracks g tracks owned end last) n end es (bs ++ more) (record {
          end_at = refl;
          whole = ap (list_any (λ o. is_none o)) same_tracks ∙ all_read.0;
          ended = ap (directory_break end.tt) directory ∙ ended;
          count = ap length directory ∙ count;
          entries = ap entries_of directory ∙ entries;
          blocks = members;
        })

-- Where the records up to a writer's last block can be read, and its set's body is as it was, that body has what was put once the last block is its own.
module _ (i0 : List ℕ) (v : Vol) (w : Writer) (is : IsWriting i0 v w) (low : w.last.tt < 65536) (small : w.last.r < 256) (first : 1 ≤ w.last.r) (i1 : List ℕ)
    (same : body_of_set i1 v is.f ≡ body_of_set i0 v is.f) (blocks : body_upto i1 v is.f (lstar_of w.last) ≡ Seq (written_by is)) where
  abbrev g : Geometry
  g = v.geometry

  abbrev body : Body
  body = body_of_set i0 v is.f

  abbrev puts : List Content
  puts = puts_in i0 v is.f w

  abbrev made : Body
  made = body_of g (data_in i1 v) is.f.name (attr_of is.f) (extents_in i1 v is.f) (lstar_of w.last)

  abbrev more_in : Body → Body
  more_in b = with_blocks b (placed g.device b puts)

  pub raised_body : made ≡ with_blocks body (placed g.device body puts)
  raised_body = by_body g (data_in i0 v) is.f.name (attr_of is.f) (extents_in i0 v is.f) is.f.lstar (made ≡ more_in body) is.writable seq part
    where
      seq : (bs : List Block) → body ≡ Seq bs → made ≡ more_in body
      seq bs e =
          let kind = (as_sequential g (data_in i0 v) is.f.name (attr_of is.f) (extents_in i0 v is.f) is.f.lstar bs e).0 in
          sequential_body g (data_in i1 v) is.f.name (attr_of is.f) (extents_in i1 v is.f) (lstar_of w.last) kind
          ∙ blocks
          ∙ sym (ap more_in (e ∙ ap Seq (sym (old_blocks i0 v w is low bs e))))

      part : (n : ℕ) (end : Place) (es : List Entry) (bs : List Block) → body ≡ Part n end es bs → made ≡ more_in body
      part n end es bs e =
          let kind = (as_partitioned g (data_in i0 v) is.f.name (attr_of is.f) (extents_in i0 v is.f) is.f.lstar n end es bs e).0 in
          let now = (as_partitioned g (data_in i1 v) is.f.name (attr_of is.f) (extents_in i1 v is.f) is.f.lstar n end es bs (same ∙ e)).1 in
          let p = parts i0 v w is low n end es bs e in
          let more : List Block = placed g.device (Part n end es bs) puts in
          let shape : written_by is ≡ p.front ++ (bs ++ more) =
          ap (λ (l : List Block). l ++ placed g.device (Seq l) puts) (old_part i0 v w is low n end es bs e) ∙ sym (written_part g.device n end es p.front p.ahead bs puts p.behind) in
          let was = part_is g (data_in i0 v) (extents_in i0 v is.f) is.f.lstar n end es bs (read_part i0 v w is low n end es bs e) in
          let directory : before_end end (all g (data_in i0 v) (extents_in i0 v is.f) is.f.lstar n end es bs (read_part i0 v w is low n end es bs e)) ≡ before_end end p.front =
          ap (before_end end) p.all
          ∙ filter-append (λ (b : Block). is_before b.place end) p.front bs
          ∙ ap (λ (ys : List Block). before_end end p.front ++ ys) (before_none end bs p.behind)
          ∙ append-nil (before_end end p.front) in
          partitioned_body g (data_in i1 v) is.f.name (attr_of is.f) (extents_in i1 v is.f) (lstar_of w.last) kind
          ∙ part_raised g (data_in i1 v) (extents_in i1 v is.f) is.f.lstar n end es bs now (lstar_of w.last) w.last (last_said w.last low small) (some_said w.last first)
          (subst (IsNotBefore w.last) (last_at i0 v w is low n end es bs e) is.behind) (written_by is) blocks
          p.front more p.none p.behind (placed_behind g.device n end es p.front p.ahead bs puts p.behind) shape
          (ap (directory_break end.tt) (sym directory) ∙ was.ended) (ap length (sym directory) ∙ was.count) (ap entries_of (sym directory) ∙ was.entries)
          ∙ sym (ap more_in e)
