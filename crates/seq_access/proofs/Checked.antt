-- What the records of a relative track tell of its blocks, and a walk over a data set's tracks.
use Rattle.std.proofs.Common.{◌≡◌, ◌≢◌, ◌<◌, ◌≤◌, ◌+◌, ℕ, zero, suc, Bool, true, false, cond, inl, inr, IsTrue, List, [], ◌∷◌, length, map, take, Option, Some, None, refl, sym, ap, ap₂, ◌∙◌, subst, arith, option_and_then}
use Rattle.std.specs.Prelude.{◌==◌, ◌&&◌, is_none, position, slice_get, Err}
use Rattle.std.proofs.lemmas.Bool.Decides.{eqb_tells, nat_tests}
use Rattle.std.specs.Option.{option_map}
use Rattle.std.specs.List.{enumerate_from, list_all, range_with_len}
use Rattle.ckd_image.specs.Track.{Record}
use Rattle.ckd_image.specs.declared.header.Geometry.{Geometry}
use Rattle.dscb_codec.specs.declared.F1.{F1}
use Rattle.hall_core.specs.Facts.{Facts, ReportedCall}
use Rattle.hall_core.specs.Images.{image_in}
use Rattle.stop_model.specs.Files.{File}
use Rattle.stop_model.specs.Moments.{Meaning, Same}
use Rattle.stop_model.proofs.MomentLemmas.{same_then}
use Rattle.pack_spec.specs.Blocks.{blocks_at, blocks_from, blocks_of, blocks_on, has_no_block, is_block, last_of, records_in, upto_last}
use Rattle.pack_spec.specs.Directories.{may_stand, part_at, part_blocks, part_on, part_tracks, read_to}
use Rattle.pack_spec.specs.Label.{records_on, tracks_of}
use Rattle.track_records.specs.Buffers.{Buffer}
use Rattle.vol_model.specs.declared.answers.CheckErr.{CheckErr}
use Rattle.vol_model.specs.declared.answers.CheckErr.TheVariants.{Unreadable, Device}
use Rattle.vol_model.specs.declared.contents.Block.{Block}
use Rattle.vol_model.specs.declared.contents.Body.TheVariants as bodies
use Rattle.vol_model.specs.declared.contents.Place.{Place}
use Rattle.vol_model.specs.Places.{is_before}
use Rattle.vtoc_index.specs.declared.vol.Vol.{Vol}
use Rattle.vtoc_index.specs.Index.{IsMounted, IsOfUnit}
use Rattle.vtoc_index.proofs.Images.{same_image}
use Rattle.vtoc_sets.specs.Sets.{extents_in}
use Rattle.seq_access.specs.Bodies.{Checks, ChecksTrack, FindsBroken, IsReadable, IsSetIn, ReadsTrack, at_in, body_in, broken_in, data_in, end_in, owned_in, records_upto}
use Rattle.seq_access.proofs.BodyWalks.{body_all, body_broken, first_is, none_first}
use Rattle.vtoc_sets.proofs.DataPlaces.{blocks_are, blocks_by, records_are}
use Rattle.vtoc_sets.proofs.OtherBuffers.{call_as, call_none, call_then, set_with}

-- what is true of the first of a list and of one more
pub all_more : {X : Type 0} (p : X → Bool) (xs : List X) (k : ℕ) → list_all p (take k xs) ≡ true → option_map p (slice_get xs k) ≡ Some true → list_all p (take (k + 1) xs) ≡ true
all_more p [] k are is = cc
all_more p (x ∷ xs) zero are is =
    let next : zero + 1 ≡ suc zero = omega arith in
    let here : p x ≡ true = cc in
    ap (λ (n : ℕ). list_all p (take n (x ∷ xs))) next ∙ ap (λ (b : Bool). b && true) here
all_more p (x ∷ xs) (suc k) are is =
    let next : suc k + 1 ≡ suc (k + 1) = omega arith in
    let parts = and_both (p x) (list_all p (take k xs)) are in
    ap (λ (n : ℕ). list_all p (take n (x ∷ xs))) next ∙ ap₂ (λ (a b : Bool). a && b) parts.0 (all_more p xs k parts.1 is)
  where
    and_both : (a b : Bool) → (a && b) ≡ true → (a ≡ true) × (b ≡ true)
    and_both true b e = (refl, e)
    and_both false b e = cc

-- and what isn't true of one
pub not_all : {X : Type 0} (p : X → Bool) (xs : List X) (k : ℕ) → option_map p (slice_get xs k) ≡ Some false → false ≡ list_all p xs
not_all p [] k is = cc
not_all p (x ∷ xs) zero is = let here : p x ≡ false = cc in ap (λ (b : Bool). b && list_all p xs) (sym here)
not_all p (x ∷ xs) (suc k) is = last_false (p x) (list_all p xs) (not_all p xs k is)
  where
    last_false : (a b : Bool) → false ≡ b → false ≡ (a && b)
    last_false true b e = e
    last_false false b e = refl

-- the first elements of a list are its own
pub taken_within : {X : Type 0} (n k : ℕ) (xs : List X) → k < n → slice_get (take n xs) k ≡ slice_get xs k
taken_within zero k xs low = absurd (omega (arith, low))
taken_within (suc n) k [] low = refl
taken_within (suc n) zero (x ∷ xs) low = refl
taken_within (suc n) (suc k) (x ∷ xs) low = taken_within n k xs (omega (arith, low))

-- of numbered records
pub length-numbered : (r : ℕ) (xs : List Record) → length (enumerate_from r xs) ≡ length xs
length-numbered r [] = refl
length-numbered r (x ∷ xs) = ap suc (length-numbered (r + 1) xs)

pub numbered : (q : ℕ × Record → Bool) (r : ℕ) (xs : List Record) (k : ℕ) → option_map q (slice_get (enumerate_from r xs) k) ≡ option_map (λ (x : Record). q (r + k, x)) (slice_get xs k)
numbered q r [] k = refl
numbered q r (x ∷ xs) zero = let same : r ≡ r + zero = omega arith in ap (λ (n : ℕ). Some (q (n, x))) same
numbered q r (x ∷ xs) (suc k) = let same : r + 1 + k ≡ r + suc k = omega arith in numbered q (r + 1) xs k ∙ ap (λ (n : ℕ). option_map (λ (y : Record). q (n, y)) (slice_get xs k)) same

-- the records on a relative track of a set
module _ (image : List ℕ) (v : Vol) (f : F1) (to : Place) (k : ℕ) where
  abbrev found : Option (List Record)
  found = records_upto image v f to k

  nothing_read : (b : Bool) → cond b None (option_and_then (records_in v.geometry (data_in image v) (upto_last to k)) None) ≡ None
  nothing_read true = refl
  nothing_read false = refl

  -- none where it has no such track
  pub upto_none : slice_get (owned_in image v f) k ≡ None → found ≡ None
  upto_none none = ap (λ (o : Option ℕ). cond ((k == to.tt) && (to.r == 0)) None (option_and_then (records_in v.geometry (data_in image v) (upto_last to k)) o)) none ∙ nothing_read ((k == to.tt) && (to.r == 0))

  -- none where it is read up to R0
  pub upto_0 : ((k == to.tt) && (to.r == 0)) ≡ true → found ≡ None
  upto_0 is = ap (λ (b : Bool). cond b None (option_and_then (records_in v.geometry (data_in image v) (upto_last to k)) (slice_get (owned_in image v f) k))) is

  -- and else those that are read
  pub upto_read : IsSetIn image v f → (t : ℕ) → slice_get (owned_in image v f) k ≡ Some t → t < tracks_of v.geometry → ((k == to.tt) && (to.r == 0)) ≡ false → (o : Option (List Record)) → records_on image v.geometry (upto_last to k) t ≡ o → found ≡ o
  upto_read set t there inside later o read =
      ap (λ (b : Bool). cond b None (option_and_then (records_in v.geometry (data_in image v) (upto_last to k)) (slice_get (owned_in image v f) k))) later
      ∙ ap (option_and_then (records_in v.geometry (data_in image v) (upto_last to k))) there
      ∙ records_are image v f set (upto_last to k) k t there inside ∙ read

  -- the blocks that they are
  by_found : (make : List Record → Option (List Block)) (b : Bool) (o : Option ℕ)
      → option_and_then (λ (t : ℕ). cond b None (option_and_then make (records_in v.geometry (data_in image v) (upto_last to k) t))) o
      ≡ option_and_then make (cond b None (option_and_then (records_in v.geometry (data_in image v) (upto_last to k)) o))
  by_found make true None = refl
  by_found make true (Some t) = refl
  by_found make false None = refl
  by_found make false (Some t) = refl

  blocks_upto : blocks_at v.geometry (data_in image v) (owned_in image v f) to k ≡ option_and_then (blocks_of k) found
  unfolding blocks_at blocks_on
  blocks_upto = by_found (blocks_of k) ((k == to.tt) && (to.r == 0)) (slice_get (owned_in image v f) k)

  part_upto : (end : Place) → part_at v.geometry (data_in image v) (owned_in image v f) end to k ≡ option_and_then (part_blocks end k) found
  unfolding part_at part_on
  part_upto end = by_found (part_blocks end k) ((k == to.tt) && (to.r == 0)) (slice_get (owned_in image v f) k)

  some_made : (b : Bool) (bs : List Block) → true ≡ b → cond b (Some bs) None ≢ None
  some_made true bs is none = cc
  some_made false bs is none = cc

  none_made : (b : Bool) (bs : List Block) → false ≡ b → cond b (Some bs) None ≡ None
  none_made true bs is = cc
  none_made false bs is = refl

  pub blocks_read : (xs : List Record) → found ≡ Some xs → true ≡ list_all is_block xs → blocks_at v.geometry (data_in image v) (owned_in image v f) to k ≢ None
  blocks_read xs read are none = some_made (list_all is_block xs) (blocks_from k 1 xs) are (sym (blocks_upto ∙ ap (option_and_then (blocks_of k)) read) ∙ none)

  pub not_blocks : (xs : List Record) → found ≡ Some xs → false ≡ list_all is_block xs → blocks_at v.geometry (data_in image v) (owned_in image v f) to k ≡ None
  not_blocks xs read are = blocks_upto ∙ ap (option_and_then (blocks_of k)) read ∙ none_made (list_all is_block xs) (blocks_from k 1 xs) are

  pub no_records : found ≡ None → blocks_at v.geometry (data_in image v) (owned_in image v f) to k ≡ None
  no_records none = blocks_upto ∙ ap (option_and_then (blocks_of k)) none

  pub part_read : (end : Place) (xs : List Record) → found ≡ Some xs → true ≡ list_all (may_stand end k) (enumerate_from 1 xs) → part_at v.geometry (data_in image v) (owned_in image v f) end to k ≢ None
  part_read end xs read are none = some_made (list_all (may_stand end k) (enumerate_from 1 xs)) (blocks_from k 1 xs) are (sym (part_upto end ∙ ap (option_and_then (part_blocks end k)) read) ∙ none)

  pub not_part : (end : Place) (xs : List Record) → found ≡ Some xs → false ≡ list_all (may_stand end k) (enumerate_from 1 xs) → part_at v.geometry (data_in image v) (owned_in image v f) end to k ≡ None
  not_part end xs read are = part_upto end ∙ ap (option_and_then (part_blocks end k)) read ∙ none_made (list_all (may_stand end k) (enumerate_from 1 xs)) (blocks_from k 1 xs) are

  pub no_part : (end : Place) → found ≡ None → part_at v.geometry (data_in image v) (owned_in image v f) end to k ≡ None
  no_part end none = part_upto end ∙ ap (option_and_then (part_blocks end k)) none

-- a track whose records aren't read has no blocks
pub unread_track : (e : CheckErr) (k : ℕ) (o : Option (List Record)) (xs : List Record) (blocks : Option (List Block)) → ReadsTrack {T = ℕ} (Err e) k o xs → (o ≡ None → blocks ≡ None) → ChecksTrack {T = Unit {0}} (Err e) k blocks
unread_track Device k o xs blocks is none = tt
unread_track (Unreadable t) k o xs blocks is none = (is.0, none is.1)

-- the blocks on a relative track that a set owns
module _ (image : List ℕ) (v : Vol) (f : F1) (set : IsSetIn image v f) (last : Place) (k t : ℕ)
    (there : slice_get (owned_in image v f) k ≡ Some t) (inside : t < tracks_of v.geometry) where
  abbrev blocks : Option (List Block)
  blocks = blocks_at v.geometry (data_in image v) (owned_in image v f) last k

  abbrev read : Option (List Record)
  read = records_on image v.geometry (upto_last last k) t

  pub broken : read ≡ None → blocks ≡ None
  broken none = blocks_are image v f set last k t there inside ∙ ap (blocks_by last k) none ∙ either ((k == last.tt) && (last.r == 0))
    where
      nothing : Option (List Block)
      nothing = None

      either : (b : Bool) → cond b nothing nothing ≡ None
      either true = refl
      either false = refl

-- the records of a track, by what is equal to its geometry and to where it is read
pub read_as : (image : List ℕ) (g h : Geometry) (u w : Option ℕ) (t : ℕ) (o : Option (List Record)) → h ≡ g → u ≡ w → records_on image h u t ≡ o → records_on image g w t ≡ o
read_as image g h u w t o geometry upto is = ap₂ (λ (x : Geometry) (y : Option ℕ). records_on image x y t) (sym geometry) (sym upto) ∙ is

-- the blocks on each relative track of a data set, by an image and its index
abbrev pub BlocksOn : Type 0
BlocksOn = List ℕ → Vol → ℕ → Option (List Block)

-- A walk over the first tracks of a data set, each of which has its blocks; the index differs in its buffer alone.
pub record Walks (tells : Bool) (f0 f1 : Facts) (m0 m1 : Meaning (List File)) (v0 v1 : Vol) (on : BlocksOn) (k : ℕ) : Type 0 where
  pub facts : ReportedCall ⊥ f0 f1
  pub same : IsTrue tells → Same m0 m1
  pub mounted : IsTrue tells → IsMounted (image_in m0 f0 v0.unit) v1
  pub others : v1 ≡ record v0 { buf = v1.buf }
  pub unit : IsOfUnit f1.units v1
  pub read : IsTrue tells → (j : ℕ) → j < k → on (image_in m0 f0 v0.unit) v0 j ≢ None

-- whatever the buffer of the index holds
abbrev pub AreBufferless : BlocksOn → Type 0
AreBufferless on = (image : List ℕ) (v : Vol) (b : Buffer) (k : ℕ) → on image (record v { buf = b }) k ≡ on image v k

-- those of a sequential set, and of a partitioned one
abbrev pub blocks_on_set : F1 → BlocksOn
blocks_on_set f image v k = blocks_at v.geometry (data_in image v) (owned_in image v f) (last_of f.lstar) k

abbrev pub part_on_set : F1 → Place → BlocksOn
part_on_set f end image v k = part_at v.geometry (data_in image v) (owned_in image v f) end (read_to end f.lstar) k

module _ (tells : Bool) (f0 f1 : Facts) (m0 m1 : Meaning (List File)) (v0 v1 : Vol) (on : BlocksOn) (k : ℕ) (w : Walks tells f0 f1 m0 m1 v0 v1 on k) where
  abbrev image : List ℕ
  image = image_in m0 f0 v0.unit

  abbrev now : List ℕ
  now = image_in m1 f1 v1.unit

  image_now : IsTrue tells → now ≡ image
  image_now told = ap (λ (v : Vol). image_in m1 f1 v.unit) w.others ∙ same_image m1.state m0.state f1 f0 v0.unit (w.same told).state w.facts.units

  -- what is told of the index now is told of the one before
  carried : IsTrue tells → (P : List ℕ → Vol → Type 0) → P now v1 → P image (record v0 { buf = v1.buf })
  carried told P is = subst (λ (v : Vol). P image v) w.others (subst (λ (i : List ℕ). P i v1) (image_now told) is)

  pub set_now : (f : F1) → IsTrue tells → IsSetIn image v0 f → IsSetIn now v1 f
  set_now f told set =
      let m : IsMounted image (record v0 { buf = v1.buf }) = subst (λ (v : Vol). IsMounted image v) w.others (w.mounted told) in
      subst (λ (i : List ℕ). IsSetIn i v1 f) (sym (image_now told)) (subst (λ (v : Vol). IsSetIn image v f) (sym w.others) (set_with image v0 v1.buf f set m))

  -- the blocks on a track are those before
  pub on_before : AreBufferless on → IsTrue tells → (j : ℕ) → on now v1 j ≡ on image v0 j
  on_before alike told j = carried told (λ i v. on now v1 j ≡ on i v j) refl ∙ alike image v0 v1.buf j

  module _ (f2 : Facts) (m2 : Meaning (List File)) (v2 : Vol) where
    pub same_more : (IsTrue tells → Same m1 m2) → IsTrue tells → Same m0 m2
    same_more same told = same_then (w.same told) (same told)

    pub mounted_more : (IsTrue tells → IsMounted now v2) → IsTrue tells → IsMounted image v2
    mounted_more mounted told = subst (λ (i : List ℕ). IsMounted i v2) (image_now told) (mounted told)

    pub others_more : v2 ≡ record v1 { buf = v2.buf } → v2 ≡ record v0 { buf = v2.buf }
    others_more is = is ∙ ap (λ (v : Vol). record v { buf = v2.buf }) w.others

    pub walk_more : {A : Type 0} → AreBufferless on → ReportedCall A f1 f2 → (A → ⊥) → (IsTrue tells → Same m1 m2) → (IsTrue tells → IsMounted now v2) → v2 ≡ record v1 { buf = v2.buf } → IsOfUnit f2.units v2
        → (IsTrue tells → on now v1 k ≢ None) → Walks tells f0 f2 m0 m2 v0 v2 on (k + 1)
    walk_more alike call not same mounted others unit there = record {
      facts = call_as (call_then f0 f1 f2 w.facts call) not (λ none. absurd none);
      same = same_more same;
      mounted = mounted_more mounted;
      others = others_more others;
      unit = unit;
      read = λ told j low. elim (eqb_tells j k) [
        | inl e ↦ subst (λ (i : ℕ). on image v0 i ≢ None) (sym e.1) (subst (λ (o : Option (List Block)). o ≢ None) (on_before alike told k) (there told))
        | inr e ↦ w.read told j (omega (arith, low, e.1))
      ];
    }

-- one that begins after tracks that have their blocks
pub walk_from : (tells : Bool) (f0 : Facts) (m0 : Meaning (List File)) (v0 : Vol) (on : BlocksOn) (k : ℕ) → (IsTrue tells → Same m0 m0) → (IsTrue tells → IsMounted (image_in m0 f0 v0.unit) v0) → IsOfUnit f0.units v0
    → (IsTrue tells → (j : ℕ) → j < k → on (image_in m0 f0 v0.unit) v0 j ≢ None) → Walks tells f0 f0 m0 m0 v0 v0 on k
walk_from tells f0 m0 v0 on k same mounted unit before = record {
  facts = call_none f0;
  same = same;
  mounted = mounted;
  others = refl;
  unit = unit;
  read = before;
}

pub walk_none : (tells : Bool) (f0 : Facts) (m0 : Meaning (List File)) (v0 : Vol) (on : BlocksOn) → (IsTrue tells → Same m0 m0) → (IsTrue tells → IsMounted (image_in m0 f0 v0.unit) v0) → IsOfUnit f0.units v0 → Walks tells f0 f0 m0 m0 v0 v0 on 0
walk_none tells f0 m0 v0 on same mounted unit = walk_from tells f0 m0 v0 on 0 same mounted unit (λ told j low. absurd (omega (arith, low)))

-- what a walk over all tracks tells of the body of a sequential set
module _ (image : List ℕ) (v : Vol) (f : F1) (some : has_no_block f.lstar ≡ false) where
  pub body_found : ((j : ℕ) → j < (last_of f.lstar).tt + 1 → blocks_on_set f image v j ≢ None) → IsReadable (body_in image v f)
  body_found reads = (_, body_all v.geometry (data_in image v) (extents_in image v f) f.lstar some reads)

  pub body_unread : (k : ℕ) (e : CheckErr) → k ≤ (last_of f.lstar).tt → ((j : ℕ) → j < k → blocks_on_set f image v j ≢ None) → ChecksTrack {T = Unit {0}} (Err e) k (blocks_on_set f image v k) → Checks {T = Unit {0}} (Err e) (body_in image v f)
  body_unread k Device low reads none = tt
  body_unread k (Unreadable t) low reads none = body_broken v.geometry (data_in image v) (extents_in image v f) f.lstar k some low reads none.1 ∙ ap bodies.Unreadable (sym none.0)

first_low : (p q : Place) → is_before p q ≡ true → p.tt ≤ q.tt
first_low p q is = grind (arith, nat_tests)

-- and of the tracks of a partitioned one
module _ (image : List ℕ) (v : Vol) (f : F1) (end : Place) (at : end ≡ end_in image v f) where
  abbrev to : Place
  to = read_to end f.lstar

  -- the directory's end isn't after the last record that is read
  pub end_low : end.tt ≤ to.tt
  end_low = by (is_before end (last_of f.lstar)) refl
    where
      by : (b : Bool) → is_before end (last_of f.lstar) ≡ b → end.tt ≤ (cond b (last_of f.lstar) end).tt
      by true is = first_low end (last_of f.lstar) is
      by false is = omega arith

  pub at_on : (j : ℕ) → at_in image v f j ≢ None → part_on_set f end image v j ≢ None
  at_on j there = subst (λ (p : Place). part_at v.geometry (data_in image v) (owned_in image v f) p (read_to p f.lstar) j ≢ None) (sym at) there

  broken_at : position (λ o. is_none o) (map (part_on_set f end image v) (range_with_len 0 (to.tt + 1))) ≡ broken_in image v f
  unfolding part_tracks
  broken_at = ap (λ (p : Place). position (λ o. is_none o) (part_tracks v.geometry (data_in image v) (owned_in image v f) p (read_to p f.lstar))) at

  pub none_found : ((j : ℕ) → j < to.tt + 1 → part_on_set f end image v j ≢ None) → broken_in image v f ≡ None
  none_found reads = sym broken_at ∙ none_first (part_on_set f end image v) (to.tt + 1) reads

  pub broken_found : (k : ℕ) (e : CheckErr) → k ≤ to.tt → ((j : ℕ) → j < k → part_on_set f end image v j ≢ None) → ChecksTrack {T = Unit {0}} (Err e) k (part_on_set f end image v k) → FindsBroken {T = Unit {0}} (Err e) (broken_in image v f)
  broken_found k Device low reads none = tt
  broken_found k (Unreadable t) low reads none = sym broken_at ∙ first_is (part_on_set f end image v) (to.tt + 1) k (omega (arith, low)) reads none.1 ∙ ap (λ (n : ℕ). Some n) (sym none.0)
