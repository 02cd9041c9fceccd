-- Sets written to on a small shelf, computed by the definitions of Writing.antt and Shelf.antt.
use Rattle.std.specs.List.{range_with_len}
use Rattle.vol_model.specs.declared.contents.Entry.{Entry}
use Rattle.std.proofs.Common.{◌≡◌, ◌+◌, ℕ, false, [], ◌∷◌, refl, map, replicate}
use Rattle.std.specs.Prelude.{Ok, Err}
use Rattle.ckd_image.specs.declared.device.DiskType.TheVariants.{D2314}
use Rattle.ebcdic_names.specs.declared.names.Dsn.{Dsn}
use Rattle.vol_model.specs.declared.answers.Mode.TheVariants as modes
use Rattle.vol_model.specs.declared.contents.Attr.{Attr}
use Rattle.vol_model.specs.declared.contents.Block.{Block}
use Rattle.vol_model.specs.declared.contents.Body.{Body}
use Rattle.vol_model.specs.declared.contents.Body.TheVariants as bodies
use Rattle.vol_model.specs.declared.contents.DataSet.{DataSet}
use Rattle.vol_model.specs.declared.contents.Place.{Place}
use Rattle.vol_model.specs.declared.contents.Run.{Run}
use Rattle.vol_model.specs.declared.contents.Shelf.{Shelf}
use Rattle.vol_model.specs.declared.contents.Volume.{Volume}
use Rattle.vol_model.specs.declared.refusals.Refusal.TheVariants.{DirFull, ExtentsFull, MemberExists, NoRoom, WrongKind}
use Rattle.vol_model.specs.declared.requests.Op.TheVariants.{Area, Empty, Enter, Extend, Fill}
use Rattle.vol_model.specs.Places.{Content, next_place, placed}
use Rattle.vol_model.specs.Shelf.{empty_on, enter_on, extend_on, step, step_on}
use Rattle.vol_model.specs.Slots.{directory_needed, slots_needed}
use Rattle.vol_model.specs.Space.{choice, choice_from, chosen, longest_first}
use Rattle.vol_model.specs.Writing.{Target, body_on, device_on, did_write, room_for, set_on, tracks_on}

abbrev run : ℕ → ℕ → Run
run s n = record { start = s; len = n }

abbrev place : ℕ → ℕ → Place
place t r = record { tt = t; r = r }

abbrev named : Dsn
named = record { bytes = 0xC1 ∷ [] }

module _ (volume : Volume) (attr : Attr) where
  -- a set of one track with a secondary quantity of one track, and this body
  abbrev set : ℕ → Body → DataSet
  set dsorg body = record { name = named; attr = record attr { dsorg = dsorg; scalo = 0x80; secondary = 1 }; extents = run 6 1 ∷ []; body = body }

  -- a pack of one cylinder with a VTOC of 5 tracks of 125 slots, whose one set it is; so 13 tracks are free
  abbrev shelf : ℕ → Body → Shelf
  shelf dsorg body = record { volumes = record volume { geometry = record { device = D2314; cylinders = 1; track_size = 7680 }; vtoc = run 1 5; slots = 125; sets = set dsorg body ∷ [] } ∷ [] }

  abbrev to : Target
  to = record { v = 0; dsn = named; mode = modes.Fill }

  abbrev full : Content
  full = ([], replicate 7294 0)

  abbrev at : Place → Content → Block
  at p c = record { place = p; key = c.0; payload = c.1 }

  -- each further block of a whole track wants an extent
  three_tracks : did_write (shelf 0x4000 (bodies.Seq [])) to (full ∷ full ∷ full ∷ []) ≡ record {
    operations = Extend 0 named ∷ Extend 0 named ∷ Fill 0 named (at (place 0 1) full ∷ at (place 1 1) full ∷ at (place 2 1) full ∷ []) ∷ [];
    answer = Ok tt;
  }
  unfolding did_write step step_on extend_on choice choice_from chosen longest_first slots_needed room_for next_place placed body_on set_on tracks_on device_on
  three_tracks = refl

  -- a block that fits no track ends it, and the extensions before it stay
  too_long : did_write (shelf 0x4000 (bodies.Seq [])) to (full ∷ full ∷ ([], replicate 7295 0) ∷ []) ≡ record { operations = Extend 0 named ∷ []; answer = Err NoRoom }
  unfolding did_write step step_on extend_on choice choice_from chosen longest_first slots_needed room_for next_place placed body_on set_on tracks_on device_on
  too_long = refl

  abbrev into : Target
  into = record { v = 0; dsn = named; mode = modes.Area }

  abbrev old : Block
  old = at (place 0 3) ([], 0xC1 ∷ [])

  abbrev card : Content
  card = ([], 0xC2 ∷ [])

  -- a member without its end-of-file block gets one first, and the new one gets one after
  open_ended : did_write (shelf 0x0200 (bodies.Part 1 (place 0 2) [] (old ∷ []))) into (card ∷ []) ≡ record { operations = Area 0 named (at (place 0 5) card ∷ []) ∷ []; answer = Ok tt }
  unfolding did_write step step_on extend_on choice choice_from chosen longest_first slots_needed room_for next_place placed body_on set_on tracks_on device_on
  open_ended = refl

  -- the first member stands after the directory's end-of-file record
  first_member : did_write (shelf 0x0200 (bodies.Part 1 (place 0 2) [] [])) into (card ∷ []) ≡ record { operations = Area 0 named (at (place 0 3) card ∷ []) ∷ []; answer = Ok tt }
  unfolding did_write step step_on extend_on choice choice_from chosen longest_first slots_needed room_for next_place placed body_on set_on tracks_on device_on
  first_member = refl

  -- a direct set is not emptied
  not_emptied : step (shelf 0x2000 bodies.Other) (Empty 0 named attr) ≡ Err WrongKind
  unfolding step step_on empty_on
  not_emptied = refl

  -- a set of 16 extents of a track, each with a block that fills it
  abbrev crowded : Shelf
  crowded = record { volumes = record volume { geometry = record { device = D2314; cylinders = 2; track_size = 7680 }; vtoc = run 1 5; slots = 125; sets = record (set 0x4000 (bodies.Seq (map (λ k. at (place k 1) full) (range_with_len 0 16)))) { extents = map (λ k. run (6 + k) 1) (range_with_len 0 16) } ∷ [] } ∷ [] }

  no_seventeenth_extent : step crowded (Extend 0 named) ≡ Err ExtentsFull
  unfolding step step_on extend_on choice choice_from chosen longest_first slots_needed
  no_seventeenth_extent = refl

  no_seventeenth_block : did_write crowded to (full ∷ []) ≡ record { operations = []; answer = Err NoRoom }
  unfolding did_write step step_on extend_on choice choice_from chosen longest_first slots_needed room_for next_place placed body_on set_on tracks_on device_on
  no_seventeenth_block = refl

  -- a member of this name, with its data at a place
  abbrev entry : ℕ → Entry
  entry n = record { name = record { bytes = n ∷ [] }; place = place 0 3; flags = 0; user = [] }

  -- a library with a directory of one block and 20 members
  abbrev library : Shelf
  library = shelf 0x0200 (bodies.Part 1 (place 0 2) (map entry (range_with_len 0 20)) (old ∷ []))

  twenty_first_member : step library (Enter 0 named (entry 20) false) ≡ Err (DirFull 2)
  unfolding step step_on enter_on directory_needed
  twenty_first_member = refl

  member_that_is_there : step library (Enter 0 named (entry 19) false) ≡ Err MemberExists
  unfolding step step_on enter_on directory_needed
  member_that_is_there = refl
