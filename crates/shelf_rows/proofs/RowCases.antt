-- Worked rows, computed by the definitions of Space.antt, Places.antt, Slots.antt and Shelf.antt.
use Rattle.std.proofs.Common.{◌≡◌, ℕ, true, false, List, [], ◌∷◌, refl}
use Rattle.std.specs.Prelude.{replicate, Some, None, map}
use Rattle.ckd_image.specs.declared.device.DiskType.TheVariants.{D2314}
use Rattle.vol_model.specs.declared.contents.Block.{Block}
use Rattle.vol_model.specs.declared.contents.Body.TheVariants as bodies
use Rattle.vol_model.specs.declared.contents.DataSet.{DataSet}
use Rattle.vol_model.specs.declared.contents.Entry.{Entry}
use Rattle.vol_model.specs.declared.contents.Place.{Place}
use Rattle.vol_model.specs.declared.contents.Run.{Run}
use Rattle.vol_model.specs.declared.contents.Volume.{Volume}
use Rattle.vol_model.specs.Places.{Content, directory_end, next_place, placed}
use Rattle.vol_model.specs.Shelf.{lacks_room}
use Rattle.vol_model.specs.Slots.{directory_needed, slots_for}
use Rattle.vol_model.specs.Space.{choice, choice_from, chosen, longest_first, runs_of}

abbrev run : ℕ → ℕ → Run
run s n = record { start = s; len = n }

module _ (x : DataSet) where
  abbrev one_extent : DataSet
  one_extent = record x { extents = run 1 1 ∷ [] }

  -- 27 free runs and 3 sets of one extent: not a format 3 for each set, nor 27 runs in one format 5
  slots_of_27_runs : slots_for 27 (replicate 3 one_extent) ≡ 6
  slots_of_27_runs = refl

  slots_of_26_runs : slots_for 26 (replicate 3 one_extent) ≡ 5
  slots_of_26_runs = refl

  four_extents : slots_for 1 (record x { extents = replicate 4 (run 1 1) } ∷ []) ≡ 4
  four_extents = refl

-- runs of 10, 9, 8, 7, 6 and 5 tracks
abbrev six : List Run
six = run 10 10 ∷ run 30 9 ∷ run 50 8 ∷ run 70 7 ∷ run 90 6 ∷ run 110 5 ∷ []

forty_tracks_in_five_runs : chosen 1 false six 40 ≡ Some (run 10 10 ∷ run 30 9 ∷ run 50 8 ∷ run 70 7 ∷ run 90 6 ∷ [])
unfolding chosen longest_first
forty_tracks_in_five_runs = refl

forty_one_tracks_are_refused : chosen 1 false six 41 ≡ None
unfolding chosen longest_first
forty_one_tracks_are_refused = refl

eleven_tracks_in_a_row_are_refused : chosen 1 true six 11 ≡ None
unfolding chosen longest_first
eleven_tracks_in_a_row_are_refused = refl

-- the lowest run that has 5, not the longest nor the best fit
five_tracks_of_the_lowest_run : chosen 1 false six 5 ≡ Some (run 10 5 ∷ [])
unfolding chosen longest_first
five_tracks_of_the_lowest_run = refl

-- what is left goes to the front of the last run
rest_of_twelve_tracks : chosen 1 false six 12 ≡ Some (run 10 10 ∷ run 30 2 ∷ [])
unfolding chosen longest_first
rest_of_twelve_tracks = refl

maximal_runs : runs_of (1 ∷ 2 ∷ 3 ∷ 5 ∷ 7 ∷ 8 ∷ []) ≡ run 1 3 ∷ run 5 1 ∷ run 7 2 ∷ []
maximal_runs = refl

abbrev place : ℕ → ℕ → Place
place t r = record { tt = t; r = r }

abbrev places_of : List Block → List Place
places_of bs = map (λ (b : Block). b.place) bs

abbrev full : Content
full = ([], replicate 7294 0)

-- whole tracks, one block on each
one_block_on_each_track : places_of (placed D2314 (bodies.Seq []) (full ∷ full ∷ full ∷ [])) ≡ place 0 1 ∷ place 1 1 ∷ place 2 1 ∷ []
unfolding placed next_place
one_block_on_each_track = refl

-- two blocks of 3521 bytes fit on a track, and two of 3522 don't
two_blocks_of_3521_bytes_fit_a_2314_track : places_of (placed D2314 (bodies.Seq []) (([], replicate 3521 0) ∷ ([], replicate 3521 0) ∷ ([], replicate 3521 0) ∷ [])) ≡ place 0 1 ∷ place 0 2 ∷ place 1 1 ∷ []
unfolding placed next_place
two_blocks_of_3521_bytes_fit_a_2314_track = refl

-- 17 directory blocks and the end-of-file record fit on a track of a 2314, and 18 don't
directory_17 : directory_end D2314 17 ≡ place 0 18
unfolding directory_end
directory_17 = refl

directory_18 : directory_end D2314 18 ≡ place 1 2
unfolding directory_end
directory_18 = refl

abbrev named : ℕ → List ℕ
named n = n ∷ []

room_17 : lacks_room D2314 (named 0xC1) 17 1 ≡ false
unfolding directory_end
room_17 = refl

room_18 : lacks_room D2314 (named 0xC1) 18 1 ≡ true
unfolding directory_end
room_18 = refl

module _ (e : Entry) where
  abbrev plain : Entry
  plain = record e { user = [] }

  -- 20 members and the end entry take a block, and 21 take two
  twenty_members_need_one_block : directory_needed (replicate 20 plain) ≡ 1
  unfolding directory_needed
  twenty_members_need_one_block = refl

  twenty_one_members_need_two_blocks : directory_needed (replicate 21 plain) ≡ 2
  unfolding directory_needed
  twenty_one_members_need_two_blocks = refl

module _ (v : Volume) where
  -- a pack of two cylinders with the VTOC on the tracks 1 to 5
  abbrev small : Volume
  small = record v { geometry = record { device = D2314; cylinders = 2; track_size = 7680 }; vtoc = run 1 5; sets = [] }

  free_33 : choice small (Rattle.vol_model.specs.declared.requests.SpaceUnit.TheVariants.Track) false 33 ≡ Some (run 6 33 ∷ [])
  unfolding choice choice_from chosen longest_first
  free_33 = refl

  -- track 0 and the VTOC take the first cylinder
  one_cylinder : choice small (Rattle.vol_model.specs.declared.requests.SpaceUnit.TheVariants.Cylinder) false 1 ≡ Some (run 20 20 ∷ [])
  unfolding choice choice_from chosen longest_first
  one_cylinder = refl
