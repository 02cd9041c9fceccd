-- A writer that stands on the images of packs writes to its set: the next block comes on a track that the set owns, or on the first that is missing.
use Rattle.std.proofs.Common.{◌≡◌, ◌≢◌, ◌≤◌, ◌<◌, ◌+◌, ◌∙◌, ℕ, Bool, true, false, cond, List, [], ◌∷◌, ◌++◌, Option, Some, refl, sym, ap, subst, arith}
use Rattle.std.specs.Prelude.{slice_get}
use Rattle.std.specs.Option.{option_map_or}
use Rattle.std.proofs.lemmas.List.{append-nil}
use Rattle.ckd_image.specs.Fit.{fits}
use Rattle.ckd_image.specs.declared.device.DiskType.{DiskType}
use Rattle.ckd_image.specs.declared.device.DiskType.TheVariants.{D2311, D2314, D3330, D3350}
use Rattle.dscb_codec.specs.declared.F1.{F1}
use Rattle.free_rebuild.specs.Repairs.{image_named}
use Rattle.hall_core.specs.Facts.{Attached, unit_of}
use Rattle.stop_model.specs.Files.{File}
use Rattle.stop_model.specs.Moments.{Meaning}
use Rattle.pack_spec.specs.Volume.{data_set_of}
use Rattle.pack_spec.proofs.SeqBodies.{lawful_seq}
use Rattle.vol_model.specs.declared.contents.Block.{Block}
use Rattle.vol_model.specs.declared.contents.Body.TheVariants.{Seq}
use Rattle.vol_model.specs.declared.contents.DataSet.{DataSet}
use Rattle.vol_model.specs.declared.contents.Place.{Place}
use Rattle.vol_model.specs.declared.contents.Shelf.{Shelf}
use Rattle.vol_model.specs.Lawful.{FollowFrom, IsLawfulBody}
use Rattle.vol_model.specs.Places.{Content, end_of_file, fits_a_track, last_place, lengths, lengths_on, next_block, next_place, placed, tracks_in, with_blocks}
use Rattle.vol_model.specs.Shelf.{blocks_of, put_first}
use Rattle.vol_model.specs.Writing.{OpenWriter, Owned, Target, device_on, place_on, room_for, set_on, target_body, tracks_on}
use Rattle.vtoc_index.specs.Last.{lstar_of}
use Rattle.vtoc_index.specs.declared.vol.Vol.{Vol}
use Rattle.vtoc_sets.specs.Sets.{extents_in}
use Rattle.seq_access.specs.declared.writer.Writer.{Writer as BlockWriter}
use Rattle.seq_access.specs.Bodies.{body_of_set, data_in, last_in}
use Rattle.seq_access.specs.Writing.{IsWriting, front_in, has_put, puts_in, written_by}
use Rattle.seq_access.proofs.Begins.{begun_at}
use Rattle.vtoc_sets.proofs.DataPlaces.{few_owned_tracks}
use Rattle.seq_access.proofs.NextBodies.{next_same}
use Rattle.seq_access.proofs.PutPlaces.{last_low}
use Rattle.dadsm_ops.proofs.FoundSets.{FoundSet, set_found}
use Rattle.shelf_machine.specs.Machine.{AreIndexes, AreKept, placed_in}
use Rattle.shelf_machine.specs.Fronts.{BeginsWell, firsts}
use Rattle.shelf_machine.specs.Packs.{AreMounted}
use Rattle.shelf_machine.specs.Pending.{HasSlot, IsPendingBy, IsWriterOn, IsWritingBy, puts_on}
use Rattle.shelf_machine.specs.PutBlocks.{shelf_on}
use Rattle.pack_machine.specs.Reads.{HasVolume, IsSetOn}
use Rattle.shelf_machine.specs.declared.writer.Writer.{Writer}
use Rattle.shelf_machine.proofs.Holding.{kept_mounted, volume_there}
use Rattle.pack_machine.proofs.ListPlaces.{there}
use Rattle.shelf_machine.proofs.Pendings.{writing_of}
use Rattle.shelf_machine.proofs.EmptyFills.{none_put}
use Rattle.shelf_machine.proofs.PutAnswers.{puts_are, writer_is}
use Rattle.shelf_machine.proofs.PutExtends.{WritesSet}
use Rattle.shelf_machine.proofs.PutRooms.{body_is, place_is, room_owned, tracks_is, writing_to}
use Rattle.pack_machine.proofs.ShelfReads.{is_set}

-- ---- the next place after blocks on so many tracks

last_on : (tracks : ℕ) (b : Block) (bs : List Block) → b.place.tt < tracks → FollowFrom tracks b.place bs → (last_place b.place bs).tt < tracks
last_on tracks b [] low follow = low
last_on tracks b (c ∷ bs) low follow = last_on tracks c bs follow.0 follow.2

next_low : (device : DiskType) (tracks : ℕ) (bs : List Block) (c : Content) → FollowFrom tracks (record { tt = 0; r = 0 }) bs → (next_place device (Seq bs) c).tt ≤ tracks
unfolding next_place
next_low device tracks [] c follow = omega arith
next_low device tracks (b ∷ bs) c follow =
    by (last_place b.place bs) (last_on tracks b bs follow.0 follow.2) (fits device (lengths_on (last_place b.place bs).tt (b ∷ bs)) (lengths c).0 (lengths c).1)
  where
    by : (last : Place) → last.tt < tracks → (stays : Bool) → (cond {A = Place} stays (record { tt = last.tt; r = last.r + 1 }) (record { tt = last.tt + 1; r = 1 })).tt ≤ tracks
    by last low true = omega (arith, low)
    by last low false = omega (arith, low)

-- the last of blocks stands on one of so many tracks
follow_end : (tracks : ℕ) (p : Place) (bs : List Block) (b : Block) → FollowFrom tracks p (bs ++ b ∷ []) → b.place.tt < tracks
follow_end tracks p [] b follow = follow.0
follow_end tracks p (x ∷ bs) b follow = follow_end tracks x.place bs b follow.2

-- an end-of-file block fits each track
end_fits : (device : DiskType) → fits_a_track device end_of_file ≡ true
end_fits D2311 = refl
end_fits D2314 = refl
end_fits D3330 = refl
end_fits D3350 = refl

-- A writer stands on the shelf with what it placed: what goes in front is first, and that alone stands on a track that is owned.
pub record PlacesWell (shelf : Shelf) (w : Writer) (placed : OpenWriter) : Type 0 where
  pub set : WritesSet shelf placed.target placed
  pub first : put_first placed.target.mode (target_body shelf placed.target) ≡ firsts w.owes_end_of_file
  pub begins : BeginsWell w.owes_end_of_file placed.puts
  pub none : has_put w.inner ≡ false → placed.puts ≡ []
  pub some : has_put w.inner ≡ true → placed.puts ≢ []
  pub owned : placed.puts ≡ end_of_file ∷ [] → room_for shelf placed.target [] end_of_file ≡ Owned

-- ---- on the images

module _ (m : Meaning (List File)) (attached : List Attached) (vols : List Vol) (indexes : AreIndexes attached vols) (kept : AreKept m.state attached vols) (w : Writer)
    (slot : HasSlot vols (Some w)) (pending : IsPendingBy m attached vols (Some w)) (low : w.inner.last.tt < 65536) where
  abbrev shelf : Shelf
  shelf = shelf_on m.state attached vols

  here : (v : Vol) × (slice_get vols w.v ≡ Some v)
  here = there vols w.v slot.0

  -- by its pack and the format 1 in its slot
  module _ (v : Vol) (at : slice_get vols w.v ≡ Some v) (found : FoundSet w.dsn.bytes v.slots.items w.inner.slot) where
    abbrev f : F1
    f = found.f

    abbrev image : List ℕ
    image = image_named m.state (unit_of attached v.unit).name

    mounted : AreMounted m.state attached vols
    mounted = kept_mounted m.state attached vols kept

    abbrev has : HasVolume shelf w.v v
    has = record { image = image; mounted = mounted w.v v at; there = volume_there m.state attached vols mounted indexes.serials w.v v at }

    set : IsSetOn image v (set_on shelf w.v w.dsn.bytes) (Some f)
    set = is_set shelf w.v v has w.dsn.bytes w.inner.slot f (slot.1 v at).0 found.set

    on : IsWriterOn image v w
    on = (pending v at).0

    by : IsWritingBy image v f w.inner
    by = on.writing f found.set

    abbrev writing : IsWriting image v w.inner
    writing = writing_of image v f w.inner (kept w.v v at).kept found.set by

    abbrev puts : List Content
    puts = puts_in image v f w.inner

    abbrev blocks : List Block
    blocks = written_by writing

    total_is : tracks_on shelf w.v w.dsn.bytes ≡ tracks_in (extents_in image v f)
    unfolding tracks_on data_set_of
    total_is = ap (λ (o : Option DataSet). option_map_or (λ (x : DataSet). tracks_in x.extents) o 0) set.1

    follow : FollowFrom (tracks_in (extents_in image v f)) (record { tt = 0; r = 0 }) blocks
    follow =
        let few : tracks_in (extents_in image v f) < 65535 = omega (arith, total_is, tracks_is shelf w.v v has w.dsn f set, few_owned_tracks image v f set.0) in
        let lawful = subst (IsLawfulBody (tracks_in (extents_in image v f))) by.so_far (lawful_seq v.geometry (data_in image v) (extents_in image v f) (lstar_of w.inner.last) few) in
        lawful.0

    abbrev t : Target
    t = (placed_in m.state attached vols w).target

    next_is : (c : Content) → place_on shelf t puts c ≡ next_place v.geometry.device (Seq blocks) c
    next_is c = place_is shelf w.v v has w.dsn f set w.mode puts c ∙ next_same image v w.inner writing low c

    placed_is : placed_in m.state attached vols w ≡ writing_to t puts
    placed_is = writer_is m.state attached vols w v f at found.set

    writes_by : WritesSet shelf t (placed_in m.state attached vols w)
    writes_by = record {
      puts = puts;
      is = placed_is;
      low = λ c. omega (arith, next_low v.geometry.device (tracks_in (extents_in image v f)) blocks c follow, total_is, ap (λ (p : Place). p.tt) (next_is c));
    }

    -- ---- the place of the first block

    abbrev old : List Block
    old = blocks_of (front_in image v f)

    abbrev fresh : BlockWriter
    fresh = record { slot = w.inner.slot; last = last_in image v f; blocks = 0 }

    first_place : (c : Content) → place_on shelf t [] c ≡ next_place v.geometry.device (Seq old) c
    unfolding placed
    first_place c =
        let b = begun_at image v f fresh old refl found.set writing.set by.writable by.front refl in
        let by_body : F1 → List Content → Place = λ g cs. next_place v.geometry.device (with_blocks (body_of_set image v g) (placed v.geometry.device (body_of_set image v g) cs)) c in
        let by_blocks : List Block → List Content → Place = λ bs cs. next_place v.geometry.device (Seq (bs ++ placed v.geometry.device (Seq bs) cs)) c in
        let none : puts_in image v b.0.f fresh ≡ [] = ap (λ (g : F1). puts_in image v g fresh) b.1 ∙ b.3 in
        place_is shelf w.v v has w.dsn f set w.mode [] c
        ∙ ap (λ (g : F1). by_body g []) (sym b.1)
        ∙ ap (by_body b.0.f) (sym none)
        ∙ next_same image v fresh b.0 (last_low image v w.inner writing low) c
        ∙ ap (by_blocks b.0.old) none
        ∙ ap (λ (bs : List Block). by_blocks bs []) b.2
        ∙ ap (λ (bs : List Block). next_place v.geometry.device (Seq bs) c) (append-nil old)

    -- one that was placed stands on a track that is owned
    owned_by : puts ≡ end_of_file ∷ [] → room_for shelf t [] end_of_file ≡ Owned
    unfolding placed
    owned_by one =
        let b : Block = next_block v.geometry.device (Seq old) end_of_file in
        let ends : FollowFrom (tracks_in (extents_in image v f)) (record { tt = 0; r = 0 }) (old ++ b ∷ []) = subst (λ (cs : List Content). FollowFrom (tracks_in (extents_in image v f)) (record { tt = 0; r = 0 }) (old ++ placed v.geometry.device (Seq old) cs)) one follow in
        room_owned shelf t end_of_file []
        (end_fits (device_on shelf w.v))
        (omega (arith, follow_end (tracks_in (extents_in image v f)) (record { tt = 0; r = 0 }) old b ends, total_is, ap (λ (p : Place). p.tt) (first_place end_of_file)))

    well_by : PlacesWell shelf w (placed_in m.state attached vols w)
    well_by =
        let same : puts_on m.state attached vols w ≡ puts = puts_are m.state attached vols w v f at found.set in
        record {
          set = writes_by;
          first = ap (put_first w.mode) (body_is shelf w.v v has w.dsn f set) ∙ on.first f found.set;
          begins = subst (BeginsWell w.owes_end_of_file) (sym same) (on.begins f found.set);
          none = λ nothing. same ∙ none_put image v f w.inner by nothing;
          some = λ put empty. by.some put (sym same ∙ empty);
          owned = λ one. owned_by (sym same ∙ one);
        }

  pub places_well : PlacesWell shelf w (placed_in m.state attached vols w)
  places_well = well_by here.0 here.1 (set_found w.dsn.bytes here.0.slots.items w.inner.slot (slot.1 here.0 here.1).0)
