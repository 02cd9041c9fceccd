-- A writer on an image whose data set got more extents: it stands after the same blocks, and has put the same.
use Rattle.std.proofs.Common.{◌≡◌, ◌+◌, ◌/◌, ◌%◌, ◌<◌, ℕ, zero, suc, Bool, true, false, cond, List, [], ◌∷◌, ◌++◌, length, map, drop, Option, Some, None, refl, sym, ap, ap₂, ◌∙◌, subst, arith}
use Rattle.std.specs.Prelude.{Ok, find, slice_get, slice_range}
use Rattle.std.specs.List.{range_with_len}
use Rattle.std.specs.Int.{w16, from_be_bytes}
use Rattle.std.proofs.lemmas.Bool.Decides.{nat_tests}
use Rattle.std.proofs.lemmas.Grind.{flat_map-append}
use Rattle.std.proofs.lemmas.Nat.{from_be_bytes-to_be_bytes_2}
use Rattle.ckd_image.specs.Reading.{records_of}
use Rattle.ckd_image.specs.declared.header.Geometry.{Geometry}
use Rattle.dscb_codec.specs.declared.Dscb.TheVariants as formats
use Rattle.dscb_codec.specs.declared.F1.{F1}
use Rattle.ebcdic_names.specs.declared.names.Dsn.{Dsn}
use Rattle.pack_spec.specs.Alike.{DifferInVtoc, IsIn}
use Rattle.pack_spec.specs.Blocks.{blocks_at, data_tracks, has_no_block, last_of, owned_tracks, seq_body, seq_of}
use Rattle.pack_spec.specs.Label.{heads_of, records_on, track_bytes}
use Rattle.pack_spec.specs.Slots.{slots_of_vtoc, tracks_in}
use Rattle.pack_spec.specs.Volume.{attr_of, data_set_of}
use Rattle.pack_spec.proofs.BlockBodies.{more_extents, vtoc_tracks}
use Rattle.pack_spec.proofs.Lawful.{good_sets}
use Rattle.vol_model.specs.declared.answers.Mode.{Mode}
use Rattle.vol_model.specs.declared.contents.Block.{Block}
use Rattle.vol_model.specs.declared.contents.Body.{Body}
use Rattle.vol_model.specs.declared.contents.Body.TheVariants.{Seq}
use Rattle.vol_model.specs.declared.contents.DataSet.{DataSet}
use Rattle.vol_model.specs.declared.contents.Place.{Place}
use Rattle.vol_model.specs.declared.contents.Run.{Run}
use Rattle.vol_model.specs.declared.contents.Shelf.{Shelf}
use Rattle.vol_model.specs.Places.{content, is_before, placed}
use Rattle.vol_model.specs.Shelf.{blocks_of, changed, extend_on, fits_mode, has_name, set_of, with_extents}
use Rattle.vol_model.specs.Space.{is_in}
use Rattle.vol_model.specs.Writing.{set_on}
use Rattle.vtoc_index.specs.declared.vol.Vol.{Vol}
use Rattle.vtoc_index.specs.Index.{IsMounted, first_named}
use Rattle.vtoc_index.specs.Last.{lstar_of}
use Rattle.vtoc_sets.specs.Sets.{extents_in, volume_in}
use Rattle.seq_access.specs.declared.writer.Writer.{Writer as BlockWriter}
use Rattle.seq_access.specs.Bodies.{HasBlocks, IsSetIn, IsWritable, body_of_set, body_upto, data_in, last_in, owned_in}
use Rattle.seq_access.specs.Writing.{body_so_far, front_in, has_put, puts_in}
use Rattle.vtoc_sets.proofs.DataPlaces.{few_owned_tracks}
use Rattle.vtoc_sets.proofs.OwnedSets.{outside}
use Rattle.seq_access.proofs.LastRecords.{last_by_body, last_of_body}
use Rattle.seq_access.proofs.MoreBlocks.{parts_of}
use Rattle.seq_access.proofs.NextPlaces.{contents_behind}
use Rattle.dadsm_ops.proofs.ExtendedSteps.{stands_there}
use Rattle.dadsm_ops.proofs.ExtensionPlans.{found_on}
use Rattle.pack_machine.specs.Ready.{IsSamePack}
use Rattle.shelf_machine.specs.Pending.{IsWritingBy}
use Rattle.pack_machine.specs.Reads.{set_by}
use Rattle.pack_machine.proofs.Operating.{extend_is}
use Rattle.pack_machine.proofs.ShelfReads.{no_set}
use Rattle.std.proofs.lemmas.Option.{slice_get_within}

-- ---- the data set that is found after the extension

-- with more extents a data set is found under its name still
found_extended : (name : List ℕ) (runs : List Run) (sets : List DataSet) (x : DataSet) → find (has_name name) sets ≡ Some x → find (has_name name) (changed name (with_extents runs) sets) ≡ Some (with_extents runs x)
found_extended name runs [] x at = cc
found_extended name runs (y ∷ sets) x at = by (has_name name y) refl at (found_extended name runs sets x)
  where
    rest : List DataSet
    rest = changed name (with_extents runs) sets

    by : (b : Bool) → has_name name y ≡ b → cond b (Some y) (find (has_name name) sets) ≡ Some x → (find (has_name name) sets ≡ Some x → find (has_name name) rest ≡ Some (with_extents runs x))
        → cond (has_name name (cond b (with_extents runs y) y)) (Some (cond b (with_extents runs y) y)) (find (has_name name) rest) ≡ Some (with_extents runs x)
    by true is here more =
        let same : y ≡ x = cc in
        ap (λ (c : Bool). cond c (Some (with_extents runs y)) (find (has_name name) rest)) is ∙ ap (λ (z : DataSet). Some (with_extents runs z)) same
    by false is here more = ap (λ (c : Bool). cond c (Some y) (find (has_name name) rest)) is ∙ more here

some_set : {a b : DataSet} → Some a ≡ Some b → a ≡ b
some_set same = cc

never : {a : DataSet} → None ≡ Some a → ⊥
never same = cc

same_blocks : (xs ys : List Block) → Seq xs ≡ Seq ys → xs ≡ ys
same_blocks xs ys e = cc

-- what stands in the front of a list stands there with others after it, and there alone
front_there : (xs ys : List ℕ) (k x y : ℕ) → slice_get xs k ≡ Some x → slice_get (xs ++ ys) k ≡ Some y → x ≡ y
front_there [] ys k x y is other = cc
front_there (z ∷ xs) ys zero x y is other = cc
front_there (z ∷ xs) ys (suc k) x y is other = front_there xs ys k x y is other

-- a track that a place says
track_said : (p : Place) → p.tt < 65536 → (last_of (lstar_of p)).tt ≡ p.tt
track_said p low = let said : from_be_bytes w16 (slice_range (lstar_of p) 0 2) ≡ p.tt = from_be_bytes-to_be_bytes_2 p.tt low in said

-- a data set that stands in a slot of a mounted image
set_in_slot : (image : List ℕ) (v : Vol) → IsMounted image v → (slot : ℕ) (f : F1) → slice_get v.slots.items slot ≡ Some (formats.F1 f) → IsSetIn image v f
set_in_slot image v mounted slot f there =
    let slots = slots_of_vtoc image v.geometry v.vtoc in
    let at = stands_there image v mounted slot (formats.F1 f) there in
    record {
      set = record { mounted = mounted; extents = good_sets v.geometry slots mounted.lawful slot _ f at refl };
      slot = slot;
      dscb = there;
    }

-- a track outside a run isn't in it
not_in : (t : ℕ) (r : Run) → is_in t r ≡ false → ¬ IsIn r t
not_in t r out within = grind (arith, nat_tests)

drop_nothing : (n : ℕ) → drop {A = Block} n [] ≡ []
drop_nothing zero = refl
drop_nothing (suc n) = refl

-- ---- the writer

module _ (image image' : List ℕ) (v v' : Vol) (mounted : IsMounted image v) (mounted' : IsMounted image' v') (dsn : Dsn) (slot : ℕ) (f : F1) (there : slice_get v.slots.items slot ≡ Some (formats.F1 f)) (named : f.name ≡ dsn.bytes)
    (step : extend_on dsn (volume_in image v) ≡ Ok (volume_in image' v')) where
  -- the runs that are added
  runs : List Run
  runs = (extend_is dsn (volume_in image v) (volume_in image' v') step).0

  -- the data set before the extension, and after it
  abbrev x : DataSet
  x = set_by image v f

  set_extended : set_of dsn.bytes (volume_in image' v') ≡ Some (with_extents runs x)
  unfolding runs
  set_extended =
      let found : set_of dsn.bytes (volume_in image v) ≡ Some x = ap (λ (n : List ℕ). set_of n (volume_in image v)) (sym named) ∙ found_on image v mounted slot f there in
      ap (set_of dsn.bytes) (sym (extend_is dsn (volume_in image v) (volume_in image' v') step).1) ∙ found_extended dsn.bytes runs (volume_in image v).sets x found

  -- It is found in the new index.
  pub still_named : (k : ℕ) × (first_named dsn.bytes v'.slots.items ≡ Some k)
  unfolding set_on
  still_named = by (first_named dsn.bytes v'.slots.items) refl
    where
      shelf : Shelf
      shelf = record { volumes = volume_in image' v' ∷ [] }

      by : (o : Option ℕ) → first_named dsn.bytes v'.slots.items ≡ o → (k : ℕ) × (first_named dsn.bytes v'.slots.items ≡ Some k)
      by (Some k) is = (k, is)
      by None is = let none = no_set shelf 0 v' (record { image = image'; mounted = mounted'; there = refl }) dsn.bytes is in absurd (never (sym none ∙ set_extended))

  module _ (same : IsSamePack v v') (differ : DifferInVtoc v'.geometry v'.vtoc image image') (slot' : ℕ) (f' : F1) (there' : slice_get v'.slots.items slot' ≡ Some (formats.F1 f')) (named' : f'.name ≡ dsn.bytes) where
    abbrev x' : DataSet
    x' = set_by image' v' f'

    set_now : x' ≡ with_extents runs x
    set_now = some_set (sym (ap (λ (n : List ℕ). set_of n (volume_in image' v')) (sym named') ∙ found_on image' v' mounted' slot' f' there') ∙ set_extended)

    attr_now : attr_of f' ≡ attr_of f
    unfolding data_set_of
    attr_now = ap (λ (y : DataSet). y.attr) set_now

    extents_now : extents_in image' v' f' ≡ extents_in image v f ++ runs
    unfolding data_set_of
    extents_now = ap (λ (y : DataSet). y.extents) set_now

    -- the body is the same
    pub body_now : body_of_set image' v' f' ≡ body_of_set image v f
    unfolding data_set_of
    body_now = ap (λ (y : DataSet). y.body) set_now

    pub fits_extended : (mode : Mode) → fits_mode mode f.name (attr_of f) ≡ true → fits_mode mode f'.name (attr_of f') ≡ true
    fits_extended mode fits = ap₂ (fits_mode mode) (named' ∙ sym named) attr_now ∙ fits

    -- the data tracks are as before
    tracks_now : data_in image' v' ≡ data_in image v
    tracks_now = vtoc_tracks v'.geometry v'.vtoc image image' differ ∙ ap₂ (data_tracks image) same.geometry same.vtoc

    -- a body of the set, by where its last block stands
    upto_now : (l : List ℕ) → body_upto image' v' f' l ≡ seq_body v.geometry (data_in image v) (extents_in image v f ++ runs) l
    upto_now l =
        ap (λ (g : Geometry). seq_body g (data_in image' v') (extents_in image' v' f') l) same.geometry
        ∙ ap₂ (λ (ts : List (List ℕ)) (rs : List Run). seq_body v.geometry ts rs l) tracks_now extents_now

    more_upto : (l : List ℕ) (bs : List Block) → HasBlocks (body_upto image v f l) bs → HasBlocks (body_upto image' v' f' l) bs
    more_upto l bs is = upto_now l ∙ more_extents v.geometry (data_in image v) (extents_in image v f) runs l bs is

    owned_now : owned_in image' v' f' ≡ owned_in image v f ++ owned_tracks runs
    unfolding owned_tracks
    owned_now = ap owned_tracks extents_now ∙ flat_map-append tracks_in (extents_in image v f) runs

    abbrev set_was : IsSetIn image v f
    set_was = set_in_slot image v mounted slot f there

    abbrev set_is : IsSetIn image' v' f'
    set_is = set_in_slot image' v' mounted' slot' f' there'

    -- a track of the set's that was there before has the same records
    records_now : (u : Option ℕ) (k track : ℕ) → slice_get (owned_in image v f) k ≡ Some track → records_on image' v'.geometry u track ≡ records_on image v.geometry u track
    unfolding records_on
    records_now u k track at =
        let out : ¬ IsIn v'.vtoc track = λ slice_get_within. not_in track v.vtoc (outside image v f set_was k track at) (subst (λ (r : Run). IsIn r track) same.vtoc slice_get_within) in
        ap (λ (bytes : List ℕ). records_of (track / heads_of v'.geometry) (track % heads_of v'.geometry) u bytes) (differ.tracks track out)
        ∙ ap (λ (g : Geometry). records_of (track / heads_of g) (track % heads_of g) u (track_bytes image g track)) same.geometry

    module _ (w : BlockWriter) (by : IsWritingBy image v f w) where
      abbrev old : List Block
      old = blocks_of (front_in image v f)

      abbrev written : List Block
      written = old ++ placed v.geometry.device (Seq old) (puts_in image v f w)

      writable_now : IsWritable (body_of_set image' v' f')
      writable_now = subst IsWritable (sym body_now) by.writable

      -- its last record has the same place
      last_same : last_in image' v' f' ≡ last_in image v f
      last_same =
          last_by_body image' v' f' set_is writable_now
          ∙ ap last_of_body body_now
          ∙ sym (last_by_body image v f set_was by.writable)

      -- and the records up to there are the same
      front_same : front_in image' v' f' ≡ front_in image v f
      front_same =
          ap (λ (p : Place). body_upto image' v' f' (lstar_of p)) last_same
          ∙ more_upto (lstar_of (last_in image v f)) old by.front
          ∙ sym by.front

      so_far_has : HasBlocks (body_so_far image' v' f' w) written
      so_far_has = more_upto (lstar_of w.last) written by.so_far

      puts_same : puts_in image' v' f' w ≡ puts_in image v f w
      unfolding puts_in
      puts_same =
          ap₂ (λ (b s : Body). map content (drop (length (blocks_of b)) (blocks_of s))) front_same (more_upto (lstar_of w.last) written by.so_far ∙ sym by.so_far)

      -- the track of its last block was the set's before
      last_owned : has_put w ≡ true → w.last.tt < 65536 → (t : ℕ) × (slice_get (owned_in image v f) w.last.tt ≡ Some t)
      unfolding seq_body
      last_owned put low = at (has_no_block (lstar_of w.last)) refl
        where
          each : Body
          each = seq_of (map (blocks_at v.geometry (data_in image v) (owned_in image v f) (last_of (lstar_of w.last))) (range_with_len 0 ((last_of (lstar_of w.last)).tt + 1)))

          none_put : written ≡ [] → puts_in image v f w ≡ []
          none_put none = sym (contents_behind v.geometry.device old (puts_in image v f w)) ∙ ap (λ (bs : List Block). map content (drop (length old) bs)) none ∙ ap (map content) (drop_nothing (length old))

          at : (b : Bool) → has_no_block (lstar_of w.last) ≡ b → (t : ℕ) × (slice_get (owned_in image v f) w.last.tt ≡ Some t)
          at true none = absurd (by.some put (none_put (same_blocks written [] (sym by.so_far ∙ ap (λ (b : Bool). cond b (Seq []) each) none))))
          at false some =
              let parts = parts_of v.geometry (extents_in image v f) (data_in image v) (lstar_of w.last) (last_of (lstar_of w.last)) written refl some by.so_far in
              (parts.track, ap (slice_get (owned_in image v f)) (sym (track_said w.last low)) ∙ parts.there)

      ended_now : has_put w ≡ true → (track : ℕ) → slice_get (owned_in image' v' f') w.last.tt ≡ Some track → records_on image' v'.geometry None track ≡ records_on image' v'.geometry (Some w.last.r) track
      ended_now put track at =
          let few = few_owned_tracks image' v' f' set_is in
          let low : w.last.tt < 65536 = omega (arith, few, slice_get_within (owned_in image' v' f') w.last.tt track at) in
          let was = last_owned put low in
          let here : was.0 ≡ track = front_there (owned_in image v f) (owned_tracks runs) w.last.tt was.0 track was.1 (ap (λ (ts : List ℕ). slice_get ts w.last.tt) (sym owned_now) ∙ at) in
          let there : slice_get (owned_in image v f) w.last.tt ≡ Some track = was.1 ∙ ap (λ (t : ℕ). Some t) here in
          records_now None w.last.tt track there ∙ by.ended put track there ∙ sym (records_now (Some w.last.r) w.last.tt track there)

      old_same : old ≡ blocks_of (front_in image' v' f')
      old_same = ap blocks_of (sym front_same)

      device_same : v.geometry.device ≡ v'.geometry.device
      device_same = ap (λ (g : Geometry). g.device) (sym same.geometry)

      -- It stands on the new image, in the slot that its set has there.
      pub writing_extended : IsWritingBy image' v' f' (record w { slot = slot' })
      unfolding puts_in
      writing_extended = record {
        extents = set_is.set.extents;
        writable = writable_now;
        front = front_same ∙ by.front ∙ ap (λ (b : Body). Seq (blocks_of b)) (sym front_same);
        so_far = so_far_has ∙ (λ i. Seq (old_same i ++ placed (device_same i) (Seq (old_same i)) (sym puts_same i)));
        begun = λ none. by.begun none ∙ sym last_same;
        some = λ put none. by.some put (sym puts_same ∙ none);
        behind = ap (is_before w.last) last_same ∙ by.behind;
        ended = ended_now;
      }

      -- And has put the same.
      pub puts_extended : puts_in image' v' f' (record w { slot = slot' }) ≡ puts_in image v f w
      unfolding puts_in
      puts_extended = puts_same
