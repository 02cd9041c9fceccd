-- Where a block goes that is put by a writer, and what a put does where no extension is wanted.
use Rattle.std.proofs.Common.{◌≡◌, ◌<◌, ◌≤◌, ℕ, Bool, true, false, cond, List, [], ◌∷◌, ◌++◌, length, map, Option, Some, inl, refl, sym, ap, ◌∙◌, subst, arith}
use Rattle.std.specs.Prelude.{not, nat_lt, sum_by, Ok, Err}
use Rattle.std.specs.Option.{option_map_or}
use Rattle.std.proofs.lemmas.Bool.{le-ltb, lt-ltb}
use Rattle.std.proofs.lemmas.List.Concat.{length-flat_map}
use Rattle.std.proofs.lemmas.List.FromFn.{length-range_with_len}
use Rattle.ckd_image.specs.declared.device.DiskType.{DiskType}
use Rattle.ckd_image.specs.declared.device.DiskType.TheVariants.{D2311}
use Rattle.dscb_codec.specs.declared.F1.{F1}
use Rattle.ebcdic_names.specs.declared.names.Dsn.{Dsn}
use Rattle.stop_model.specs.Moments.{Elapses, Meaning}
use Rattle.stop_model.proofs.MomentLemmas.{elapses_weaker}
use Rattle.pack_spec.specs.Blocks.{owned_tracks}
use Rattle.pack_spec.specs.Slots.{tracks_in}
use Rattle.pack_spec.specs.Volume.{data_set_of, volume_with}
use Rattle.vol_model.specs.declared.answers.MachErr.TheVariants as mach
use Rattle.vol_model.specs.declared.answers.Mode.{Mode}
use Rattle.vol_model.specs.declared.contents.Body.{Body}
use Rattle.vol_model.specs.declared.contents.DataSet.{DataSet}
use Rattle.vol_model.specs.declared.contents.Run.{Run}
use Rattle.vol_model.specs.declared.contents.Shelf.{Shelf}
use Rattle.vol_model.specs.declared.contents.Volume.{Volume}
use Rattle.vol_model.specs.declared.refusals.Refusal.{Refusal}
use Rattle.vol_model.specs.declared.refusals.Refusal.TheVariants.{NoRoom}
use Rattle.vol_model.specs.declared.requests.Op.{Op}
use Rattle.vol_model.specs.Calls.{Does}
use Rattle.vol_model.specs.Did.{Did, answered}
use Rattle.vol_model.specs.Events.{Do, StopsIn}
use Rattle.vol_model.specs.Places.{Content, fits_a_track, next_place, placed, tracks_in as tracks_of_runs, with_blocks}
use Rattle.vol_model.specs.Shelf.{step}
use Rattle.vol_model.specs.Writing.{Never, OpenWriter, Owned, Room, Target, Wanted, body_on, device_on, extension, making_by, making_room, place_on, room_for, room_made, set_on, tracks_on}
use Rattle.vtoc_index.specs.declared.vol.Vol.{Vol}
use Rattle.vtoc_sets.specs.Sets.{extents_in}
use Rattle.seq_access.specs.Bodies.{body_of_set, owned_in}
use Rattle.shelf_machine.specs.Putting.{did_place}
use Rattle.pack_machine.specs.Reads.{HasVolume, IsSetOn}
use Rattle.pack_machine.proofs.ShelfReads.{body_found}

-- ---- what a put does by the room that there is

-- a writer to a target, with what it placed
abbrev pub writing_to : Target → List Content → OpenWriter
writing_to t puts = record { target = t; puts = puts }

module _ (shelf : Shelf) (t : Target) (c : Content) where
  -- on a track that is owned nothing is done but that it is placed
  pub put_on_owned : (puts : List Content) → room_for shelf t puts c ≡ Owned → did_place shelf (writing_to t puts) c ≡ answered (Ok (place_on shelf t puts c))
  unfolding did_place
  put_on_owned puts is = ap (λ (r : Room). room_made (making_by shelf (extension t) (step shelf (extension t)) (λ s. making_room s t (puts ++ c ∷ []) []) r) (place_on shelf t puts c)) is

  -- and where it fits no track it is refused
  pub put_nowhere : (puts : List Content) → room_for shelf t puts c ≡ Never → did_place shelf (writing_to t puts) c ≡ answered (Err NoRoom)
  unfolding did_place
  put_nowhere puts is = ap (λ (r : Room). room_made (making_by shelf (extension t) (step shelf (extension t)) (λ s. making_room s t (puts ++ c ∷ []) []) r) (place_on shelf t puts c)) is

  -- which room there is
  pub room_owned : (puts : List Content) → fits_a_track (device_on shelf t.v) c ≡ true → (place_on shelf t puts c).tt < tracks_on shelf t.v t.dsn.bytes → room_for shelf t puts c ≡ Owned
  unfolding room_for
  room_owned puts fits low =
      ap (λ (b : Bool). cond (not b) Never (cond (nat_lt (place_on shelf t puts c).tt (tracks_on shelf t.v t.dsn.bytes)) Owned Wanted)) fits
      ∙ ap (λ (b : Bool). cond b Owned Wanted) (lt-ltb (place_on shelf t puts c).tt (tracks_on shelf t.v t.dsn.bytes) low)

  pub room_wanted : (puts : List Content) → fits_a_track (device_on shelf t.v) c ≡ true → tracks_on shelf t.v t.dsn.bytes ≤ (place_on shelf t puts c).tt → room_for shelf t puts c ≡ Wanted
  unfolding room_for
  room_wanted puts fits high =
      ap (λ (b : Bool). cond (not b) Never (cond (nat_lt (place_on shelf t puts c).tt (tracks_on shelf t.v t.dsn.bytes)) Owned Wanted)) fits
      ∙ ap (λ (b : Bool). cond b Owned Wanted) (le-ltb (place_on shelf t puts c).tt (tracks_on shelf t.v t.dsn.bytes) high)

  pub room_never : (puts : List Content) → fits_a_track (device_on shelf t.v) c ≡ false → room_for shelf t puts c ≡ Never
  unfolding room_for
  room_never puts fits = ap (λ (b : Bool). cond (not b) Never (cond (nat_lt (place_on shelf t puts c).tt (tracks_on shelf t.v t.dsn.bytes)) Owned Wanted)) fits

-- ---- the shelf's terms by the image

-- the tracks of runs, counted
owned_size : (xs : List Run) → length (owned_tracks xs) ≡ tracks_of_runs xs
unfolding owned_tracks
owned_size xs = length-flat_map tracks_in xs ∙ ap (λ (e : Run → ℕ). sum_by e xs) (λ i r. length-range_with_len r.start r.len i)

module _ (shelf : Shelf) (n : ℕ) (v : Vol) (has : HasVolume shelf n v) (dsn : Dsn) (f : F1) (set : IsSetOn has.image v (set_on shelf n dsn.bytes) (Some f)) where
  pub device_is : device_on shelf n ≡ v.geometry.device
  unfolding device_on volume_with
  device_is = ap (λ (o : Option Volume). option_map_or (λ (w : Volume). w.geometry.device) o D2311) has.there

  pub tracks_is : tracks_on shelf n dsn.bytes ≡ length (owned_in has.image v f)
  unfolding tracks_on data_set_of
  tracks_is = ap (λ (o : Option DataSet). option_map_or (λ (x : DataSet). tracks_of_runs x.extents) o 0) set.1 ∙ sym (owned_size (extents_in has.image v f))

  pub body_is : body_on shelf n dsn.bytes ≡ body_of_set has.image v f
  body_is = sym (body_found shelf n v has dsn.bytes f set)

  -- the next place after the set's blocks and those that were put
  pub place_is : (mode : Mode) (puts : List Content) (c : Content) → place_on shelf (record { v = n; dsn = dsn; mode = mode }) puts c ≡ next_place v.geometry.device (with_blocks (body_of_set has.image v f) (placed v.geometry.device (body_of_set has.image v f) puts)) c
  place_is mode puts c =
      ap (λ (d : DiskType). next_place d (with_blocks (body_on shelf n dsn.bytes) (placed d (body_on shelf n dsn.bytes) puts)) c) device_is
      ∙ ap (λ (b : Body). next_place v.geometry.device (with_blocks b (placed v.geometry.device b puts)) c) body_is

-- ---- a call that does no operation

-- the shelf itself is left by a stop in operations
stops_none : (s left : Shelf) (ops : List Op) → left ≡ s → StopsIn s (map Do ops) left []
stops_none s left [] is = (is, refl)
stops_none s left (op ∷ ops) is = inl (is, refl)

module _ (old new : Meaning Shelf) (printed : new.printed ≡ old.printed) (moments : Elapses old new (λ s p. (s ≡ old.state) × (p ≡ old.printed))) (n : ℕ) where
  stays : (ops : List Op) → Elapses old new (λ s p. StopsIn old.state (map Do ops) s [] × (p ≡ old.printed))
  stays ops = elapses_weaker moments (λ s p has. (stops_none old.state s ops has.0, has.1))

  pub does_nothing : {X : Type 0} (x : X) (did : Did X Refusal) → did ≡ answered (Ok x) → new.state ≡ old.state → Does did.operations did old new n n (Ok x)
  does_nothing {X = X} x did is same =
      let run : Does {X = X} [] (answered (Ok x)) old new n n (Ok x) = record { answer = refl; state = (same, omega arith); printed = printed; moments = stays [] } in
      subst (λ (d : Did X Refusal). Does d.operations d old new n n (Ok x)) (sym is) run

  pub does_refused : {X : Type 0} (r : Refusal) (did : Did X Refusal) → did ≡ answered (Err r) → new.state ≡ old.state → Does did.operations did old new n n (Err (mach.Refused r))
  does_refused {X = X} r did is same =
      let run : Does {X = X} [] (answered (Err r)) old new n n (Err (mach.Refused r)) = record { answer = refl; state = (same, omega arith); printed = printed; moments = stays [] } in
      subst (λ (d : Did X Refusal). Does d.operations d old new n n (Err (mach.Refused r))) (sym is) run

  pub does_failed : {X : Type 0} (did : Did X Refusal) (k : ℕ) → Does {X = X} did.operations did old new n k (Err mach.Device)
  does_failed did k = record { answer = tt; state = tt; printed = printed; moments = stays did.operations }
