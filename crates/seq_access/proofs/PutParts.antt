-- What the blocks of a writer are once one more is written: the set's own, those put before, and this one.
use Rattle.std.proofs.Common.{◌≡◌, ◌+◌, ◌≤◌, ◌<◌, ◌&&◌, ℕ, Bool, true, List, [], ◌∷◌, ◌++◌, length, map, drop, Option, Some, None, inr, refl, sym, ap, ap₂, ◌∙◌, subst, arith, ⊎_elim, length-append}
use Rattle.std.specs.Prelude.{nat_le, slice_get}
use Rattle.std.proofs.lemmas.Bool.Decides.{nat_tests}
use Rattle.ckd_image.specs.declared.header.Geometry.{Geometry}
use Rattle.ckd_image.specs.Track.{Record}
use Rattle.dscb_codec.specs.declared.F1.{F1}
use Rattle.vol_model.specs.declared.contents.Block.{Block}
use Rattle.vol_model.specs.declared.contents.Body.{Body}
use Rattle.vol_model.specs.declared.contents.Body.TheVariants as bodies
use Rattle.vol_model.specs.declared.contents.Place.{Place}
use Rattle.vol_model.specs.declared.contents.Run.{Run}
use Rattle.vol_model.specs.Places.{Content, content, next_block, placed}
use Rattle.vol_model.specs.Shelf.{blocks_of}
use Rattle.pack_spec.specs.Blocks.{block_at, is_block, owned_tracks, records_in, seq_body}
use Rattle.pack_spec.specs.Label.{records_on}
use Rattle.track_records.specs.Appends.{IsAppended, record_of, with_more}
use Rattle.track_records.specs.Buffers.{Buffer}
use Rattle.track_records.specs.Written.{StandsOn}
use Rattle.vtoc_index.specs.declared.vol.Vol.{Vol}
use Rattle.vtoc_index.specs.Last.{lstar_of}
use Rattle.vtoc_sets.specs.Sets.{HasSet, extents_in}
use Rattle.seq_access.specs.declared.writer.Writer.{Writer}
use Rattle.seq_access.specs.Bodies.{IsSetIn, IsWritable, body_of_set, body_upto, data_in, last_in, last_read, owned_in}
use Rattle.seq_access.specs.Writing.{DifferBehind, IsNotBefore, IsWriting, body_so_far, front_in, puts_in, written_by}
use Rattle.seq_access.proofs.Begins.{has_some}
use Rattle.vtoc_sets.proofs.OwnedSets.{outside}
use Rattle.vtoc_sets.proofs.Owners.{data_read}
use Rattle.vtoc_sets.proofs.Owners.{on_same as same_on}
use Rattle.seq_access.proofs.LastPlaces.{last_said, some_said}
use Rattle.seq_access.proofs.MoreBlocks.{Parts, on_first, on_next, on_same}
use Rattle.seq_access.proofs.NextPlaces.{contents_behind, written_more}
use Rattle.seq_access.proofs.PutPlaces.{PutsAt, all_on, behind, count_in, differs, earlier, ends_of, goes, last_low, last_small, set_of, some_of}
use Rattle.seq_access.proofs.SparedImages.{same_extents}
use Rattle.vtoc_sets.proofs.OwnedSets.{own_inside}
use Rattle.seq_access.proofs.SparedSets.{bare, bare_set, body_kept, front_kept, set_kept, tracks_kept}

no_records : (xs : List Record) → length xs ≡ 0 → xs ≡ []
no_records [] e = refl
no_records (x ∷ xs) e = absurd (omega (arith, e))

not_none : (cs : List Content) (c : Content) → cs ++ c ∷ [] ≡ [] → ⊥
not_none cs c none = let e = ap length none in omega (arith, e, length-append cs (c ∷ []))

same_some : (xs ys : List Record) → Some xs ≡ Some ys → xs ≡ ys
same_some xs ys e = cc

same_track : (s t : ℕ) → Some s ≡ Some t → s ≡ t
same_track s t e = cc

at_most : (m n : ℕ) → m ≤ n → nat_le m n ≡ true
at_most m n low = grind (arith, nat_tests)

-- a record of these lengths can be a block
short_block : (b : Buffer) (key content : List ℕ) → length key ≤ 255 → length content ≤ 32760 → is_block (record_of b key content) ≡ true
short_block b key content first second = ap₂ (λ (p q : Bool). p && q) (at_most (length key) 255 first) (at_most (length content) 32760 second)

module _ (i1 i2 : List ℕ) (v : Vol) (w : Writer) (is : IsWriting i1 v w) (key content' : List ℕ) (place : Place) (at : PutsAt i1 v w is (key, content') place)
    (put : IsAppended v.buf key content' i1 i2) (stands : StandsOn i2 (with_more v.buf (record_of v.buf key content' ∷ [])))
    (key_fits : length key ≤ 255) (data_fits : length content' ≤ 32760) (low : place.tt < 65536) (small : place.r < 256) (count : ℕ) (any : 0 < count) where
  abbrev f : F1
  f = is.f

  abbrev c : Content
  c = (key, content')

  abbrev x : Record
  x = record_of v.buf key content'

  abbrev b : Buffer
  b = with_more v.buf (x ∷ [])

  abbrev new_vol : Vol
  new_vol = record v { buf = b }

  abbrev new_writer : Writer
  new_writer = record { slot = w.slot; last = place; blocks = count }

  abbrev blocks : List Block
  blocks = written_by is

  abbrev extents : List Run
  extents = extents_in i1 v f

  abbrev old_tracks : List (List ℕ)
  old_tracks = data_in i1 v

  abbrev new_tracks : List (List ℕ)
  new_tracks = data_in i2 v

  set : IsSetIn i1 v f
  set = set_of i1 v w is

  -- the set's last record
  abbrev last : Place
  last = last_in i1 v f

  differ : DifferBehind v f last i1 i2
  differ = differs i1 v w is c place at (x ∷ []) i2 put

  first : 1 ≤ place.r
  first = omega (arith, at.number)

  there : slice_get (owned_tracks extents) place.tt ≡ Some v.buf.track
  there = at.owned

  one_more : length v.buf.records + 1 ≡ length (v.buf.records ++ x ∷ [])
  one_more = omega (arith, length-append v.buf.records (x ∷ []))

  -- what is read of the track then
  now_read : (u : Option ℕ) (t : ℕ) (xs : List Record) → slice_get (owned_tracks extents) place.tt ≡ Some t → records_on i2 v.geometry u t ≡ Some xs → records_in v.geometry new_tracks u t ≡ Some xs
  now_read u t xs own is' = data_read i2 v.geometry v.vtoc u t (outside i1 v f set place.tt t own) (own_inside i1 v f set place.tt t own) ∙ is'

  whole : records_on i2 v.geometry None v.buf.track ≡ Some (v.buf.records ++ x ∷ [])
  whole = subst (λ (g : Geometry). records_on i2 g None v.buf.track ≡ Some (v.buf.records ++ x ∷ [])) at.geometry put.records

  up_to_it : (n : ℕ) → n ≡ length v.buf.records + 1 → records_on i2 v.geometry (Some n) v.buf.track ≡ Some (v.buf.records ++ x ∷ [])
  up_to_it n e = all_on i2 v.geometry None v.buf.track n (v.buf.records ++ x ∷ []) whole (omega (arith, e, one_more))

  -- and of those before it
  before : (k t : ℕ) → k < place.tt → slice_get (owned_tracks extents) k ≡ Some t → records_in v.geometry new_tracks None t ≡ records_in v.geometry old_tracks None t
  before k t under own = same_on v.geometry v.vtoc i1 i2 None t (outside i1 v f set k t own) (earlier i1 v w is c place at (x ∷ []) i2 put k t under own)

  block : is_block x ≡ true
  block = short_block v.buf key content' key_fits data_fits

  -- the block
  abbrev more : Block
  more = next_block v.geometry.device (bodies.Seq blocks) c

  more_at : (k r : ℕ) → place ≡ record { tt = k; r = r } → block_at k r x ≡ more
  more_at k r e = ap (λ (p : Place). record { place = p; key = key; payload = content' }) (sym e ∙ at.next)

  by_first : blocks ≡ [] → place ≡ record { tt = 0; r = 1 } → seq_body v.geometry new_tracks extents (lstar_of place) ≡ bodies.Seq (blocks ++ more ∷ [])
  by_first none e =
      let zero_at : place.tt ≡ 0 = ap (λ (p : Place). p.tt) e in
      let one_at : place.r ≡ 1 = ap (λ (p : Place). p.r) e in
      let empty : v.buf.records ≡ [] = no_records v.buf.records (omega (arith, at.number, one_at)) in
      let own : slice_get (owned_tracks extents) 0 ≡ Some v.buf.track = ap (slice_get (owned_tracks extents)) (sym zero_at) ∙ there in
      let read : records_in v.geometry new_tracks (Some 1) v.buf.track ≡ Some (x ∷ []) = now_read (Some 1) v.buf.track (x ∷ []) there (up_to_it 1 (omega (arith, at.number, one_at)) ∙ ap (λ (l : List Record). Some (l ++ x ∷ [])) empty) in
      on_first v.geometry extents new_tracks (lstar_of place) x v.buf.track (last_said place low small ∙ e) (some_said place first) block own read
      ∙ ap (λ (m : Block). bodies.Seq (m ∷ [])) (more_at 0 1 e)
      ∙ ap (λ (l : List Block). bodies.Seq (l ++ more ∷ [])) (sym none)

  abbrev ThePart : Type 0
  ThePart = Parts v.geometry extents old_tracks w.last blocks

  counted : (parts : ThePart) → length parts.records ≡ w.last.r
  counted parts = count_in v.geometry old_tracks w.last.r parts.track parts.records parts.read

  -- what was read of the last block's track
  was_read : (parts : ThePart) → records_on i1 v.geometry (Some w.last.r) parts.track ≡ Some parts.records
  was_read parts = sym (data_read i1 v.geometry v.vtoc (Some w.last.r) parts.track (outside i1 v f set w.last.tt parts.track parts.there) (own_inside i1 v f set w.last.tt parts.track parts.there)) ∙ parts.read

  abbrev on_track : ℕ → Place
  on_track r = record { tt = w.last.tt; r = r }

  by_same : ThePart → place ≡ record { tt = w.last.tt; r = w.last.r + 1 } → seq_body v.geometry new_tracks extents (lstar_of place) ≡ bodies.Seq (blocks ++ more ∷ [])
  by_same parts e =
      let tt_at : place.tt ≡ w.last.tt = ap (λ (p : Place). p.tt) e in
      let r_at : place.r ≡ w.last.r + 1 = ap (λ (p : Place). p.r) e in
      let count : length parts.records ≡ w.last.r = counted parts in
      let track : parts.track ≡ v.buf.track = same_track parts.track v.buf.track (sym parts.there ∙ ap (slice_get (owned_tracks extents)) (sym tt_at) ∙ there) in
      let size : length v.buf.records ≡ w.last.r = omega (arith, at.number, r_at) in
      let held : v.buf.records ≡ parts.records = ⊎_elim
      (λ none. absurd (omega (arith, ap length none, at.number, r_at, parts.first)))
      (λ on. same_some v.buf.records parts.records (
      sym (subst (λ (g : Geometry). records_on i1 g (Some (length v.buf.records)) v.buf.track ≡ Some v.buf.records) at.geometry (all_on i1 v.buf.geometry on.0 v.buf.track (length v.buf.records) v.buf.records on.1 refl))
      ∙ ap (λ (n : ℕ). records_on i1 v.geometry (Some n) v.buf.track) size
      ∙ ap (records_on i1 v.geometry (Some w.last.r)) (sym track)
      ∙ was_read parts)) at.may
      in
      let number : on_track (w.last.r + 1) ≡ on_track (length parts.records + 1) = ap (λ (n : ℕ). on_track (n + 1)) (sym count) in
      let read : records_in v.geometry new_tracks (Some (length parts.records + 1)) parts.track ≡ Some (parts.records ++ x ∷ []) =
      ap (records_in v.geometry new_tracks (Some (length parts.records + 1))) track
      ∙ now_read (Some (length parts.records + 1)) v.buf.track (parts.records ++ x ∷ []) there (up_to_it (length parts.records + 1) (omega (arith, ap length held)) ∙ ap (λ (l : List Record). Some (l ++ x ∷ [])) held)
      in
      on_same v.geometry extents old_tracks new_tracks w.last blocks parts (λ k t under own. before k t (omega (arith, under, tt_at)) own) (lstar_of place) place (last_said place low small) (some_said place first) x block (e ∙ number) read
      ∙ ap (λ (m : Block). bodies.Seq (blocks ++ m ∷ [])) (more_at w.last.tt (length parts.records + 1) (e ∙ number))

  by_next : ThePart → place ≡ record { tt = w.last.tt + 1; r = 1 } → seq_body v.geometry new_tracks extents (lstar_of place) ≡ bodies.Seq (blocks ++ more ∷ [])
  by_next parts e =
      let tt_at : place.tt ≡ w.last.tt + 1 = ap (λ (p : Place). p.tt) e in
      let one_at : place.r ≡ 1 = ap (λ (p : Place). p.r) e in
      let empty : v.buf.records ≡ [] = no_records v.buf.records (omega (arith, at.number, one_at)) in
      let own : slice_get (owned_tracks extents) (w.last.tt + 1) ≡ Some v.buf.track = ap (slice_get (owned_tracks extents)) (sym tt_at) ∙ there in
      let read : records_in v.geometry new_tracks (Some 1) v.buf.track ≡ Some (x ∷ []) = now_read (Some 1) v.buf.track (x ∷ []) there (up_to_it 1 (omega (arith, at.number, one_at)) ∙ ap (λ (l : List Record). Some (l ++ x ∷ [])) empty) in
      let ends : records_in v.geometry new_tracks None parts.track ≡ Some parts.records =
      before w.last.tt parts.track (omega (arith, tt_at)) parts.there
      ∙ data_read i1 v.geometry v.vtoc None parts.track (outside i1 v f set w.last.tt parts.track parts.there) (own_inside i1 v f set w.last.tt parts.track parts.there)
      ∙ at.ended (λ same. omega (arith, same, tt_at)) parts.first parts.track parts.there
      ∙ was_read parts
      in
      on_next v.geometry extents old_tracks new_tracks w.last blocks parts (λ k t under own. before k t (omega (arith, under, tt_at)) own) (lstar_of place) place (last_said place low small) (some_said place first) x block v.buf.track e ends own read
      ∙ ap (λ (m : Block). bodies.Seq (blocks ++ m ∷ [])) (more_at (w.last.tt + 1) 1 e)

  blocks_more : body_so_far i2 new_vol f new_writer ≡ bodies.Seq (blocks ++ more ∷ [])
  blocks_more =
      ap (λ (xs : List Run). seq_body v.geometry new_tracks xs (lstar_of place)) (same_extents i1 i2 v f set last differ f)
      ∙ ⊎_elim (λ none. by_first none.1 none.2) (λ more'. ⊎_elim (λ here. by_same more'.0 here) (λ on. by_next more'.0 on) more'.1) (goes i1 v w is c place at)

  abbrev puts : List Content
  puts = puts_in i1 v f w

  all_blocks : body_so_far i2 new_vol f new_writer ≡ bodies.Seq (is.old ++ placed v.geometry.device (bodies.Seq is.old) (puts ++ c ∷ []))
  all_blocks = blocks_more ∙ ap bodies.Seq (sym (written_more v.geometry.device is.old puts c))

  bare_there : IsSetIn i1 (bare v) f
  bare_there = bare_set i1 v f set

  pub same_body_more : body_of_set i2 v f ≡ body_of_set i1 v f
  same_body_more = body_kept i1 i2 v f bare_there last differ (ends_of i1 v w is)

  same_last : last_in i2 v f ≡ last
  same_last = ap (λ (x : Body). last_read x f.lstar) same_body_more

  own_front : front_in i2 new_vol f ≡ bodies.Seq is.old
  own_front =
      ap (λ (p : Place). body_upto i2 v f (lstar_of p)) same_last
      ∙ front_kept i1 i2 v f bare_there last differ (last_low i1 v w is at.low) (last_small i1 v w is) (some_of i1 v w is)
      ∙ is.front

  pub puts_more : puts_in i2 new_vol f new_writer ≡ puts ++ c ∷ []
  unfolding puts_in
  puts_more = ap₂ (λ (p q : Body). map content (drop (length (blocks_of p)) (blocks_of q))) own_front all_blocks ∙ contents_behind v.geometry.device is.old (puts ++ c ∷ [])

  -- the data set is one of that image
  new_set : HasSet i2 new_vol f
  new_set = set_kept i1 i2 v f bare_there last differ (ends_of i1 v w is) b (inr stands)

  ends_there : (track : ℕ) → slice_get (owned_in i2 new_vol f) place.tt ≡ Some track → records_on i2 v.geometry None track ≡ records_on i2 v.geometry (Some place.r) track
  ends_there track own =
      let same : track ≡ v.buf.track = same_track track v.buf.track (sym own ∙ ap (λ (ts : List ℕ). slice_get ts place.tt) (tracks_kept i1 i2 v f bare_there last differ) ∙ there) in
      ap (records_on i2 v.geometry None) same ∙ whole ∙ sym (up_to_it place.r (sym at.number)) ∙ ap (records_on i2 v.geometry (Some place.r)) (sym same)

  pub writing_more : IsWriting i2 new_vol new_writer
  writing_more = record {
    f = f;
    slot = is.slot;
    set = new_set;
    writable = subst IsWritable (sym same_body_more) is.writable;
    old = is.old;
    front = own_front;
    so_far = all_blocks ∙ ap (λ (cs : List Content). bodies.Seq (is.old ++ placed v.geometry.device (bodies.Seq is.old) cs)) (sym puts_more);
    begun = λ none. let some = has_some new_writer any in cc;
    some = λ put none. not_none puts c (sym puts_more ∙ none);
    behind = subst (IsNotBefore place) (sym same_last) (behind i1 v w is c place at);
    ended = λ put track own. ends_there track own;
  }

  pub same_set_more : writing_more.f ≡ is.f
  unfolding writing_more
  same_set_more = refl
