-- Whether the last block of a partitioned data set is an end-of-file block, by the last record that is read.
use Rattle.std.proofs.Common.{◌≡◌, ◌≢◌, ◌+◌, ◌-◌, ◌≤◌, ℕ, zero, suc, Bool, true, false, cond, not, ◌&&◌, List, [], ◌∷◌, ◌++◌, length, Some, None, refl, sym, ap, ◌∙◌, subst, arith, option_and_then}
use Rattle.std.specs.Prelude.{◌==◌, slice_get, Ok}
use Rattle.std.specs.Option.{option_map}
use Rattle.std.proofs.lemmas.Bool.Decides.{nat_tests}
use Rattle.ckd_image.specs.Track.{Record}
use Rattle.ckd_image.specs.declared.header.Geometry.{Geometry}
use Rattle.dscb_codec.specs.declared.F1.{F1}
use Rattle.pack_spec.specs.Blocks.{blocks_at, blocks_from, blocks_of, blocks_on, has_no_block, last_of, owned_tracks, records_in, seq_body}
use Rattle.pack_spec.specs.Directories.{is_end_record}
use Rattle.pack_spec.proofs.FrontRecords.{count_in}
use Rattle.track_records.specs.Buffers.{Buffer}
use Rattle.vol_model.specs.declared.contents.Block.{Block}
use Rattle.vol_model.specs.declared.contents.Body.{Body}
use Rattle.vol_model.specs.declared.contents.Body.TheVariants.{Part, Seq}
use Rattle.vol_model.specs.declared.contents.Entry.{Entry}
use Rattle.vol_model.specs.declared.contents.Place.{Place}
use Rattle.vol_model.specs.declared.contents.Run.{Run}
use Rattle.vol_model.specs.Places.{is_before, is_end_of_file, is_open_ended, last_place}
use Rattle.vol_model.specs.Shelf.{blocks_of as body_blocks}
use Rattle.vtoc_index.specs.declared.vol.Vol.{Vol}
use Rattle.vtoc_sets.specs.Sets.{extents_in}
use Rattle.seq_access.specs.Bodies.{IsReadablePart, data_in, end_in, owned_in, part_in}
use Rattle.seq_access.specs.Reading.{FindsOn, block_of}
use Rattle.seq_access.proofs.LastRecords.{parts_last}
use Rattle.seq_access.proofs.MoreBlocks.{Parts, parts_of}
use Rattle.seq_access.proofs.PartFronts.{split}
use Rattle.seq_access.proofs.PartReading.{all, no_members, read_as_sequential, shape, some_block}

-- ---- blocks by their last

-- those in front of others don't tell
open_behind : (xs : List Block) (b : Block) (ys : List Block) → is_open_ended (xs ++ b ∷ ys) ≡ is_open_ended (b ∷ ys)
open_behind [] b ys = refl
open_behind (x ∷ []) b ys = refl
open_behind (x ∷ y ∷ xs) b ys = open_behind (y ∷ xs) b ys

-- the last does
open_last : (bs : List Block) (m : ℕ) (b : Block) → slice_get bs m ≡ Some b → length bs ≡ m + 1 → is_open_ended bs ≡ not (is_end_of_file b)
open_last [] m b is many = cc
open_last (x ∷ []) zero b is many = let same : x ≡ b = cc in ap (λ (y : Block). not (is_end_of_file y)) same
open_last (x ∷ []) (suc m) b is many = absurd (omega (arith, many))
open_last (x ∷ y ∷ bs) zero b is many = absurd (omega (arith, many))
open_last (x ∷ y ∷ bs) (suc m) b is many = open_last (y ∷ bs) m b is (omega (arith, many))

as_many : (k r : ℕ) (xs : List Record) → length (blocks_from k r xs) ≡ length xs
as_many k r [] = refl
as_many k r (x ∷ xs) = ap suc (as_many k (r + 1) xs)

-- so do the blocks of the last track
open_track : (front on : List Block) (m : ℕ) (b : Block) → slice_get on m ≡ Some b → length on ≡ m + 1 → is_open_ended (front ++ on) ≡ not (is_end_of_file b)
open_track front [] m b is many = cc
open_track front (x ∷ xs) m b is many = open_behind front x xs ∙ open_last (x ∷ xs) m b is many

-- and the blocks of members, if there are any
open_members : (front bs : List Block) → (bs ≡ [] → ⊥) → is_open_ended bs ≡ is_open_ended (front ++ bs)
open_members front [] some = absurd (some refl)
open_members front (b ∷ bs) some = sym (open_behind front b bs)

-- the blocks on the last track
on_last : (g : Geometry) (tracks : List (List ℕ)) (extents : List Run) (last : Place) (bs : List Block) (parts : Parts g extents tracks last bs) → blocks_at g tracks (owned_tracks extents) last last.tt ≡ Some (blocks_from last.tt 1 parts.records)
unfolding blocks_at blocks_on
on_last g tracks extents last bs parts =
    ap (option_and_then (blocks_on g tracks last last.tt)) parts.there
    ∙ ap (λ (b : Bool). cond (b && (last.r == 0)) None (option_and_then (blocks_of last.tt) (records_in g tracks (cond b (Some last.r) None) parts.track))) (level last.tt)
    ∙ ap (λ (b : Bool). cond b None (option_and_then (blocks_of last.tt) (records_in g tracks (Some last.r) parts.track))) (some_number last.r parts.first)
    ∙ ap (option_and_then (blocks_of last.tt)) parts.read
    ∙ ap (λ (b : Bool). cond b (Some (blocks_from last.tt 1 parts.records)) None) parts.blocks
  where
    level : (n : ℕ) → (n == n) ≡ true
    level n = grind (arith, nat_tests)

    some_number : (n : ℕ) → 1 ≤ n → (n == 0) ≡ false
    some_number n first = grind (arith, nat_tests)

not_before_itself : (p : Place) → is_before p p ≡ true → ⊥
not_before_itself p is = let no : true ≡ false = sym is ∙ none p in cc
  where
    none : (p : Place) → is_before p p ≡ false
    none p = grind (arith, nat_tests)

-- ---- a partitioned set of an image

module _ (image : List ℕ) (v : Vol) (f : F1) (end : Place) (at : end ≡ end_in image v f) (readable_part : IsReadablePart (part_in image v f)) where
  abbrev g : Geometry
  g = v.geometry

  abbrev tracks : List (List ℕ)
  tracks = data_in image v

  abbrev extents : List Run
  extents = extents_in image v f

  abbrev last : Place
  last = last_of f.lstar

  of : (n : ℕ) × (es : List Entry) × (bs : List Block) × (part_in image v f ≡ Part n end es bs)
  of = shape image v f end at readable_part

  -- where no block stands after the directory's end
  pub closed_none : is_before end last ≡ false → false ≡ is_open_ended (body_blocks (part_in image v f))
  closed_none none =
      let no : of.2 ≡ [] = no_members g tracks extents f.lstar of.0 end of.1 of.2 of.3 none in
      sym (ap (λ (b : Body). is_open_ended (body_blocks b)) of.3 ∙ ap is_open_ended no)

  -- where one does
  module _ (behind : is_before end last ≡ true) where
    abbrev read : List Block
    read = all g tracks extents f.lstar of.0 end of.1 of.2 of.3

    has : seq_body g tracks extents f.lstar ≡ Seq read
    has = read_as_sequential g tracks extents f.lstar of.0 end of.1 of.2 of.3 behind

    some : has_no_block f.lstar ≡ false
    some = some_block g tracks extents f.lstar of.0 end of.1 of.2 of.3 behind

    parts : Parts g extents tracks last read
    parts = parts_of g extents tracks f.lstar last read refl some has

    pub first : 1 ≤ last.r
    first = parts.first

    here : blocks_at g tracks (owned_in image v f) last last.tt ≡ Some (blocks_from last.tt 1 parts.records)
    here = on_last g tracks extents last read parts

    pub last_there : blocks_at g tracks (owned_in image v f) last last.tt ≢ None
    last_there none = let no : None ≡ Some (blocks_from last.tt 1 parts.records) = sym none ∙ here in cc

    count : length (blocks_from last.tt 1 parts.records) ≡ last.r
    count = as_many last.tt 1 parts.records ∙ count_in g tracks parts.track parts.records last.r parts.read

    members : of.2 ≡ [] → ⊥
    members none =
        let s = split g tracks extents f.lstar of.0 end of.1 of.2 of.3 in
        let ends : last_place end read ≡ end = ap (last_place end) (s.all ∙ ap (λ (l : List Block). s.front ++ l) none) ∙ no_more end s.front ∙ s.ahead.ends end in
        let same : last ≡ end = sym (parts_last g tracks extents last read parts end) ∙ ends in
        not_before_itself end (subst (λ (p : Place). is_before end p ≡ true) same behind)
      where
        no_more : (p : Place) (us : List Block) → last_place p (us ++ []) ≡ last_place p us
        no_more p [] = refl
        no_more p (u ∷ us) = no_more u.place us

    open_by : (b : Block) → slice_get (blocks_from last.tt 1 parts.records) (last.r - 1) ≡ Some b → is_open_ended (body_blocks (part_in image v f)) ≡ not (is_end_of_file b)
    open_by b is =
        let s = split g tracks extents f.lstar of.0 end of.1 of.2 of.3 in
        ap (λ (x : Body). is_open_ended (body_blocks x)) of.3
        ∙ open_members s.front of.2 members
        ∙ ap is_open_ended (sym s.all ∙ parts.all)
        ∙ open_track parts.front (blocks_from last.tt 1 parts.records) (last.r - 1) b is (omega (arith, count, first))

    same_on : (xs ys : List Block) → Some xs ≡ Some ys → xs ≡ ys
    same_on xs ys e = cc

    -- the record that is found tells
    pub found_tells : (p : Place) (b : Buffer) (is : Bool) → p ≡ last → FindsOn (Ok (Some p)) (blocks_at g tracks (owned_in image v f) last last.tt) last b → option_map is_end_record (slice_get b.records (p.r - 1)) ≡ Some is
        → not is ≡ is_open_ended (body_blocks (part_in image v f))
    found_tells p b is same found tests =
        let x : Record = found.1 in
        let on : slice_get (blocks_from last.tt 1 parts.records) (last.r - 1) ≡ Some (block_of last x) = ap (λ (l : List Block). slice_get l (last.r - 1)) (same_on (blocks_from last.tt 1 parts.records) found.0 (sym here ∙ found.2)) ∙ found.4 in
        let test : Some (is_end_record x) ≡ Some is = sym (ap (option_map is_end_record) (ap (λ (q : Place). slice_get b.records (q.r - 1)) same ∙ found.3)) ∙ tests in
        let this : is_end_record x ≡ is = cc in
        sym (open_by (block_of last x) on ∙ ap (λ (c : Bool). not c) this)

    pub found_there : (b : Buffer) → FindsOn (Ok None) (blocks_at g tracks (owned_in image v f) last last.tt) last b → ⊥
    found_there b found =
        let on : blocks_from last.tt 1 parts.records ≡ found.0 = same_on (blocks_from last.tt 1 parts.records) found.0 (sym here ∙ found.1) in
        omega (arith, found.2, count, ap length on)
