-- The records of a partitioned data set that can be read are those of a sequential one up to the same place, and the blocks of its members are those after its directory's end.
use Rattle.std.proofs.Common.{◌≡◌, ◌≢◌, ◌⊎◌, ◌+◌, ◌≤◌, ◌<◌, ℕ, zero, suc, Bool, true, false, cond, not, List, [], ◌∷◌, ◌++◌, length, map, Option, Some, None, inl, inr, refl, sym, ap, ap₂, ◌∙◌, subst, arith, option_and_then}
use Rattle.std.specs.Prelude.{◌==◌, ◌&&◌, ◌||◌, is_none, nat_le, nat_lt, slice_get, slice_index, unwrap_or, IfOk, IfSome, IsTrue, Result, Ok, Err}
use Rattle.std.specs.List.{enumerate_from, flat_map, list_all, range_with_len}
use Rattle.std.proofs.Math.Nat.{mod-lt}
use Rattle.std.proofs.lemmas.Bool.{and_parts}
use Rattle.std.proofs.lemmas.Bool.Decides.{eqb_tells, nat_tests}
use Rattle.std.proofs.lemmas.List.Elements.{filter-append}
use Rattle.std.proofs.lemmas.Slice.Eq.{bytes_eq-Decides}
use Rattle.ckd_image.specs.declared.header.Geometry.{Geometry}
use Rattle.ckd_image.specs.Track.{Record}
use Rattle.dscb_codec.specs.declared.F1.{F1}
use Rattle.hall_core.specs.declared.steps.Device.{Device}
use Rattle.vol_model.specs.declared.answers.WorkErr.{WorkErr}
use Rattle.vol_model.specs.declared.contents.Block.{Block}
use Rattle.vol_model.specs.declared.contents.Body.{Body}
use Rattle.vol_model.specs.declared.contents.Body.TheVariants.{Part, Seq}
use Rattle.vol_model.specs.declared.contents.Entry.{Entry}
use Rattle.vol_model.specs.declared.contents.Place.{Place}
use Rattle.vol_model.specs.declared.contents.Run.{Run}
use Rattle.vol_model.specs.Lawful.{IsLawfulBlock}
use Rattle.vol_model.specs.Places.{is_before}
use Rattle.vol_model.specs.Reading as reads
use Rattle.vol_model.specs.Reading.{readable}
use Rattle.pack_spec.specs.Blocks.{block_at, blocks_at, blocks_from, blocks_of, blocks_on, has_no_block, is_block, last_of, owned_tracks, records_in, seq_body, upto_last}
use Rattle.pack_spec.specs.Directories.{behind_end, is_directory_record, may_stand, part_at, part_blocks, part_body, part_on, part_tracks, read_to}
use Rattle.pack_spec.proofs.BlockBodies.{map_range}
use Rattle.pack_spec.proofs.FrontRecords.{count_in}
use Rattle.pack_spec.proofs.PartBodies.{IsPart, IsRead, part_end, part_is, part_or_unread, part_read}
use Rattle.pack_spec.proofs.PartLawful.{none_behind}
use Rattle.pack_spec.proofs.SeqBodies.{few_records}
use Rattle.vtoc_index.specs.declared.vol.Vol.{Vol}
use Rattle.vtoc_sets.specs.Sets.{extents_in}
use Rattle.seq_access.specs.Bodies.{HasBlocks, IsReadable, IsReadablePart, body_in, data_in, end_in, part_in}
use Rattle.seq_access.specs.Reading.{GivesFirst, GivesMembers, IsStart, ReadsBlock, ReadsMembers}
use Rattle.seq_access.proofs.BodyWalks.{body_all}

-- ---- records that may stand in a partitioned set

-- a record of the lengths of a directory block can be a block
directory_block : (kl dl : ℕ) → (kl == 8 && dl == 256) ≡ true → (nat_le kl 255 && nat_le dl 32760) ≡ true
directory_block kl dl is = grind (arith, nat_tests)

stand_blocks : (end : Place) (k r : ℕ) (xs : List Record) → list_all (may_stand end k) (enumerate_from r xs) ≡ true → list_all is_block xs ≡ true
stand_blocks end k r [] are = refl
stand_blocks end k r (x ∷ xs) are =
    let parts = and_parts (may_stand end k (r, x)) (list_all (may_stand end k) (enumerate_from (r + 1) xs)) are in
    ap (λ (b : Bool). b && list_all is_block xs) (by (is_before (record { tt = k; r = r }) end) parts.0) ∙ stand_blocks end k (r + 1) xs parts.1
  where
    by : (b : Bool) → cond b (is_directory_record x) (is_block x) ≡ true → is_block x ≡ true
    by true is = directory_block (length x.key) (length x.data) is
    by false is = is

-- on a relative track that is read they are its blocks as a sequential set's, too
module _ (g : Geometry) (tracks : List (List ℕ)) (owned : List ℕ) (end to : Place) where
  blocks_same : (k : ℕ) → is_none (part_at g tracks owned end to k) ≡ false → blocks_at g tracks owned to k ≡ part_at g tracks owned end to k
  unfolding blocks_at blocks_on part_at part_on
  blocks_same k some = by (slice_get owned k) some
    where
      by_stand : (xs : List Record) (b : Bool) → list_all (may_stand end k) (enumerate_from 1 xs) ≡ b → is_none (cond b (Some (blocks_from k 1 xs)) None) ≡ false → blocks_of k xs ≡ cond b (Some (blocks_from k 1 xs)) None
      by_stand xs true stand some = ap (λ (b : Bool). cond b (Some (blocks_from k 1 xs)) None) (stand_blocks end k 1 xs stand)
      by_stand xs false stand some = cc

      by_read : (b : Bool) (o : Option (List Record)) → is_none (cond b None (option_and_then (part_blocks end k) o)) ≡ false → cond b None (option_and_then (blocks_of k) o) ≡ cond b None (option_and_then (part_blocks end k) o)
      by_read true o some = refl
      by_read false None some = refl
      by_read false (Some xs) some = by_stand xs (list_all (may_stand end k) (enumerate_from 1 xs)) refl some

      by : (o : Option ℕ) → is_none (option_and_then (part_on g tracks end to k) o) ≡ false → option_and_then (blocks_on g tracks to k) o ≡ option_and_then (part_on g tracks end to k) o
      by None some = refl
      by (Some t) some = by_read ((k == to.tt) && (to.r == 0)) (records_in g tracks (upto_last to k) t) some

-- ---- what is true of the blocks of each track, and of two stretches of blocks that follow one another, is true of all

module _ (P : List Block → Type 0) (none : P []) (both : (xs ys : List Block) → P xs → P ys → P (xs ++ ys)) (at : ℕ → Option (List Block)) where
  on_all : (n low : ℕ) → ((k : ℕ) → low ≤ k → k < low + n → P (unwrap_or (at k) [])) → P (flat_map (λ o. unwrap_or o []) (map at (range_with_len low n)))
  on_all zero low each = none
  on_all (suc n) low each = both (unwrap_or (at low) []) _ (each low (omega arith) (omega arith)) (on_all n (low + 1) (λ k l u. each k (omega (arith, l)) (omega (arith, u))))

-- ---- the blocks after the end

-- none of a track's records up to the end stands after it
none_past : (end : Place) (r : ℕ) (xs : List Record) → r + length xs ≤ end.r + 1 → behind_end end (blocks_from end.tt r xs) ≡ []
none_past end r [] low = refl
none_past end r (x ∷ xs) low =
    ap (λ (b : Bool). cond b (block_at end.tt r x ∷ behind_end end (blocks_from end.tt (r + 1) xs)) (behind_end end (blocks_from end.tt (r + 1) xs))) (upto end r (omega (arith, low)))
    ∙ none_past end (r + 1) xs (omega (arith, low))
  where
    upto : (end : Place) (r : ℕ) → r ≤ end.r → is_before end (record { tt = end.tt; r = r }) ≡ false
    upto end r low = grind (arith, nat_tests)

module _ (end from start : Place) (is : IsStart end from start) where
  -- the blocks at or after the start are the members' at or after the place
  abbrev AreSame : List Block → Type 0
  AreSame bs = reads.blocks_from start bs ≡ reads.blocks_from from (behind_end end bs)

  same_both : (xs ys : List Block) → AreSame xs → AreSame ys → AreSame (xs ++ ys)
  same_both xs ys first second =
      filter-append (λ (b : Block). not (is_before b.place start)) xs ys
      ∙ ap₂ (λ (us ws : List Block). us ++ ws) first second
      ∙ sym (filter-append (λ (b : Block). not (is_before b.place from)) (behind_end end xs) (behind_end end ys))
      ∙ ap (reads.blocks_from from) (sym (filter-append (λ (b : Block). is_before end b.place) xs ys))

  same_track : (k r : ℕ) (xs : List Record) → r + length xs ≤ 256 → AreSame (blocks_from k r xs)
  same_track k r [] low = refl
  same_track k r (x ∷ xs) low =
      let p : Place = record { tt = k; r = r } in
      let b : Block = block_at k r x in
      let rest : List Block = blocks_from k (r + 1) xs in
      by b rest (not (is_before p start)) (is_before end p) (not (is_before p from)) (is.same p (omega (arith, low))) refl (same_track k (r + 1) xs (omega (arith, low)))
    where
      by : (y : Block) (ys : List Block) (s e f : Bool) → s ≡ (e && f) → not (is_before y.place from) ≡ f → AreSame ys → cond s (y ∷ reads.blocks_from start ys) (reads.blocks_from start ys) ≡ reads.blocks_from from (cond e (y ∷ behind_end end ys) (behind_end end ys))
      by y ys s true true both at same = ap (λ (c : Bool). cond c (y ∷ reads.blocks_from start ys) (reads.blocks_from start ys)) both ∙ ap (λ (zs : List Block). y ∷ zs) same ∙ sym (ap (λ (c : Bool). cond c (y ∷ reads.blocks_from from (behind_end end ys)) (reads.blocks_from from (behind_end end ys))) at)
      by y ys s true false both at same = ap (λ (c : Bool). cond c (y ∷ reads.blocks_from start ys) (reads.blocks_from start ys)) both ∙ same ∙ sym (ap (λ (c : Bool). cond c (y ∷ reads.blocks_from from (behind_end end ys)) (reads.blocks_from from (behind_end end ys))) at)
      by y ys s false f both at same = ap (λ (c : Bool). cond c (y ∷ reads.blocks_from start ys) (reads.blocks_from start ys)) both ∙ same

  -- what isn't before the start isn't before the place
  start_onward : (p : Place) → p.r ≤ 255 → is_before p start ≡ false → is_before p from ≡ false
  start_onward p low past = by (is_before p from) (and_parts (is_before end p) (not (is_before p from)) (sym (is.same p low) ∙ ap not past)).1
    where
      by : (b : Bool) → not b ≡ true → b ≡ false
      by true is = cc
      by false is = refl

  pub onward_into : (r : Result Bool Device) (b : Block) → IfOk r (λ more. IsTrue more → is_before b.place start ≡ false) → IfOk r (λ more. IsTrue more → IsLawfulBlock b) → IfOk r (λ more. IsTrue more → is_before b.place from ≡ false)
  onward_into (Ok more) b past lawful = λ yes. start_onward b.place (lawful yes).place (past yes)
  onward_into (Err e) b past lawful = tt

  pub onward_given : (r : Result (Option Block) WorkErr) → IfOk r (λ o. IfSome o (λ b. is_before b.place start ≡ false)) → IfOk r (λ o. IfSome o IsLawfulBlock) → IfOk r (λ o. IfSome o (λ b. is_before b.place from ≡ false))
  onward_given (Ok (Some b)) past lawful = start_onward b.place lawful.place past
  onward_given (Ok None) past lawful = tt
  onward_given (Err e) past lawful = tt

-- ---- a body that can be read

module _ (g : Geometry) (tracks : List (List ℕ)) (extents : List Run) (lstar : List ℕ) (n : ℕ) (end : Place) (es : List Entry) (bs : List Block)
    (is : part_body g tracks extents lstar ≡ Part n end es bs) where
  abbrev owned : List ℕ
  owned = owned_tracks extents

  abbrev last : Place
  last = last_of lstar

  abbrev to : Place
  to = read_to end lstar

  -- the blocks of its directory and its members
  abbrev pub all : List Block
  all = flat_map (λ o. unwrap_or o []) (part_tracks g tracks owned end to)

  part : IsPart end (part_tracks g tracks owned end to) n end es bs
  part = part_is g tracks extents lstar n end es bs is

  read_on : (k : ℕ) → k < 0 + (to.tt + 1) → IsRead g tracks owned end to k
  read_on k low = part_read g tracks extents lstar n end es bs is k (omega (arith, low))

  blocks_on_it : (k : ℕ) (read : IsRead g tracks owned end to k) → unwrap_or (part_at g tracks owned end to k) [] ≡ blocks_from k 1 read.xs
  blocks_on_it k read = ap (λ (o : Option (List Block)). unwrap_or o []) read.blocks

  on_each : (P : List Block → Type 0) → P [] → ((xs ys : List Block) → P xs → P ys → P (xs ++ ys)) → ((k : ℕ) → k < 0 + (to.tt + 1) → (read : IsRead g tracks owned end to k) → P (blocks_from k 1 read.xs)) → P all
  unfolding part_tracks
  on_each P none both each = on_all P none both (part_at g tracks owned end to) (to.tt + 1) 0 (λ k l u. let read = read_on k u in subst P (sym (blocks_on_it k read)) (each k u read))

  not_none : {X : Type 0} (o : Option X) → is_none o ≡ false → o ≢ None
  not_none None e is = cc
  not_none (Some x) e is = cc

  -- Its records up to the last are those of a sequential set with that last block.
  pub read_up_to : (told : List ℕ) → last_of told ≡ to → has_no_block told ≡ false → seq_body g tracks extents told ≡ Seq all
  unfolding part_tracks
  read_up_to told ends some_block =
      body_all g tracks extents told some_block (λ j low none. not_none _ (there j (omega (arith, low))) (sym (same_at j (omega (arith, low))) ∙ none))
      ∙ ap (λ (os : List (Option (List Block))). Seq (flat_map (λ o. unwrap_or o []) os))
      (map_range (blocks_at g tracks owned (last_of told)) (part_at g tracks owned end to) ((last_of told).tt + 1) 0 (λ k l u. same_at k u)
      ∙ ap (λ (p : Place). map (part_at g tracks owned end to) (range_with_len 0 (p.tt + 1))) ends)
    where
      there : (k : ℕ) → k < 0 + ((last_of told).tt + 1) → is_none (part_at g tracks owned end to k) ≡ false
      there k low = ap (λ (o : Option (List Block)). is_none o) (read_on k (omega (arith, low, ap (λ (p : Place). p.tt) ends))).blocks

      same_at : (k : ℕ) → k < 0 + ((last_of told).tt + 1) → blocks_at g tracks owned (last_of told) k ≡ part_at g tracks owned end to k
      same_at k low = ap (λ (p : Place). blocks_at g tracks owned p k) ends ∙ blocks_same g tracks owned end to k (there k low)

  -- Where no block stands after the directory's end, there are no members' blocks.
  pub no_members : is_before end last ≡ false → bs ≡ []
  no_members none = sym part.blocks ∙ on_each (λ (xs : List Block). behind_end end xs ≡ []) refl
      (λ xs ys first second. filter-append (λ (b : Block). is_before end b.place) xs ys ∙ ap₂ (λ (us ws : List Block). us ++ ws) first second) each
    where
      at_end : to ≡ end
      at_end = ap (λ (b : Bool). cond b last end) none

      each : (k : ℕ) → k < 0 + (to.tt + 1) → (read : IsRead g tracks owned end to k) → behind_end end (blocks_from k 1 read.xs) ≡ []
      each k low read = by (eqb_tells k end.tt)
        where
          here : k ≡ end.tt → upto_last to k ≡ Some end.r
          here same = ap (λ (p : Place). upto_last p k) at_end ∙ ap (λ (b : Bool). cond b (Some end.r) None) (level k end.tt same)
            where
              level : (a b : ℕ) → a ≡ b → (a == b) ≡ true
              level a b same = grind (arith, nat_tests)

          by : (((k == end.tt) ≡ true) × (k ≡ end.tt)) ⊎ (((k == end.tt) ≡ false) × (k ≡ end.tt → ⊥)) → behind_end end (blocks_from k 1 read.xs) ≡ []
          by (inl w) =
              let count : length read.xs ≡ end.r = count_in g tracks read.track read.xs end.r (ap (λ (u : Option ℕ). records_in g tracks u read.track) (sym (here w.1)) ∙ read.records) in
              ap (λ (j : ℕ). behind_end end (blocks_from j 1 read.xs)) w.1 ∙ none_past end 1 read.xs (omega (arith, count))
          by (inr w) = none_behind end k 1 read.xs (omega (arith, w.1, low, ap (λ (p : Place). p.tt) at_end))

  -- Where one does, the records up to it are those of a sequential set, and the members' blocks are read from a start.
  module _ (behind : is_before end last ≡ true) where
    at_last : to ≡ last
    at_last = ap (λ (b : Bool). cond b last end) behind

    pub some_block : has_no_block lstar ≡ false
    some_block = by (has_no_block lstar) refl
      where
        before_first : (end : Place) → (nat_lt end.tt 0 || (end.tt == 0 && nat_lt end.r 0)) ≡ true → true ≡ false
        before_first end e = absurd (let no : ⊥ = grind (arith, nat_tests) in no)

        by : (b : Bool) → has_no_block lstar ≡ b → b ≡ false
        by true none = before_first end (subst (λ (l : List ℕ). is_before end (last_of l) ≡ true) ((bytes_eq-Decides lstar (0 ∷ 0 ∷ 0 ∷ [])).0 none) behind)
        by false none = refl

    pub read_as_sequential : seq_body g tracks extents lstar ≡ Seq all
    read_as_sequential = read_up_to lstar (sym at_last) some_block

    pub members_from : (from start : Place) → IsStart end from start → reads.blocks_from start all ≡ reads.blocks_from from bs
    members_from from start starts =
        on_each (AreSame end from start starts) refl (same_both end from start starts) (λ k low read. same_track end from start starts k 1 read.xs (omega (arith, few k read)))
        ∙ ap (reads.blocks_from from) part.blocks
      where
        number : to.r ≤ 255
        number = omega (arith, mod-lt (slice_index lstar 2) {m = 255} (omega arith), ap (λ (p : Place). p.r) at_last)

        few : (k : ℕ) (read : IsRead g tracks owned end to k) → length read.xs ≤ 255
        few k read = few_records g tracks to k read.track read.xs number read.records

-- ---- a set of an image

module _ (image : List ℕ) (v : Vol) (f : F1) (end : Place) (at : end ≡ end_in image v f) (readable_part : IsReadablePart (part_in image v f)) where
  -- its body has this end
  pub shape : (n : ℕ) × (es : List Entry) × (bs : List Block) × (part_in image v f ≡ Part n end es bs)
  shape = part_or_unread v.geometry (data_in image v) (extents_in image v f) f.lstar (λ (b : Body). part_in image v f ≡ b → IsReadablePart b → (n : ℕ) × (es : List Entry) × (bs : List Block) × (part_in image v f ≡ Part n end es bs))
      (λ n p es bs is some. (n, es, bs, is ∙ ap (λ (q : Place). Part n q es bs) (sym (at ∙ part_end v.geometry (data_in image v) (extents_in image v f) f.lstar n p es bs is))))
      (λ k is some. absurd (let never : Err k ≡ Ok some.0 = some.1 in cc))
      refl readable_part

  has_members : readable (part_in image v f) ≡ Ok shape.2
  has_members = ap readable shape.3

  -- where no block stands after the end, there are no members' blocks
  module _ (none : false ≡ is_before end (last_of f.lstar)) where
    none_there : shape.2 ≡ []
    none_there = no_members v.geometry (data_in image v) (extents_in image v f) f.lstar shape.0 end shape.1 shape.2 shape.3 (sym none)

    pub reads_no_members : (from : Place) (block : Block) → ReadsMembers (Ok false) (part_in image v f) from block
    reads_no_members from block = ([], has_members ∙ ap Ok none_there, refl)

    pub gives_no_members : (from : Place) → GivesMembers (Ok None) (part_in image v f) from
    gives_no_members from = ([], has_members ∙ ap Ok none_there, refl)

  -- where one does, they are read as those of a sequential set from a start
  module _ (behind : true ≡ is_before end (last_of f.lstar)) where
    abbrev read_blocks : List Block
    read_blocks = all v.geometry (data_in image v) (extents_in image v f) f.lstar shape.0 end shape.1 shape.2 shape.3

    sequential : body_in image v f ≡ Seq read_blocks
    sequential = read_as_sequential v.geometry (data_in image v) (extents_in image v f) f.lstar shape.0 end shape.1 shape.2 shape.3 (sym behind)

    pub is_readable : IsReadable (body_in image v f)
    is_readable = (read_blocks, sequential)

    -- the blocks that are read from there
    from_start : (from start : Place) → IsStart end from start → (blocks : List Block) → HasBlocks (body_in image v f) blocks → reads.blocks_from start blocks ≡ reads.blocks_from from shape.2
    from_start from start starts blocks has =
        let same : blocks ≡ read_blocks = (let e : Seq blocks ≡ Seq read_blocks = sym has ∙ sequential in cc) in
        ap (reads.blocks_from start) same ∙ members_from v.geometry (data_in image v) (extents_in image v f) f.lstar shape.0 end shape.1 shape.2 shape.3 (sym behind) from start starts

    pub reads_members : (from start : Place) → IsStart end from start → (r : Result Bool Device) (block : Block) → ReadsBlock r (body_in image v f) start block → ReadsMembers r (part_in image v f) from block
    reads_members from start starts (Ok more) block read =
        (shape.2, has_members, subst (λ (bs : List Block). reads.FirstOf more bs block) (from_start from start starts read.0 read.1) read.2)
    reads_members from start starts (Err e) block read = tt

    pub gives_members : (from start : Place) → IsStart end from start → (r : Result (Option Block) WorkErr) → GivesFirst r (body_in image v f) start → GivesMembers r (part_in image v f) from
    gives_members from start starts (Ok (Some block)) read = (shape.2, read.1, has_members, sym (from_start from start starts read.0 read.2) ∙ read.3)
    gives_members from start starts (Ok None) read = (shape.2, has_members, sym (from_start from start starts read.0 read.1) ∙ read.2)
    gives_members from start starts (Err e) read = tt
