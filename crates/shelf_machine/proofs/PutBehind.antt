-- A put is what is placed for it: what is due in front, and then the block.
use Rattle.std.proofs.Common.{◌≡◌, ◌≢◌, ℕ, Bool, true, false, List, [], ◌∷◌, ◌++◌, Some, refl, sym, ap, ◌∙◌, subst, append_assoc, arith}
use Rattle.std.specs.Prelude.{◌&&◌, ◌==◌, nat_lt, Result, Ok, Err, IsErrOf, OnOk}
use Rattle.std.proofs.lemmas.Bool.Decides.{nat_tests}
use Rattle.ckd_image.specs.declared.device.DiskType.{DiskType}
use Rattle.hall_core.specs.Facts.{Attached}
use Rattle.stop_model.specs.Files.{File}
use Rattle.stop_model.specs.Moments.{Meaning}
use Rattle.stop_model.specs.Steps.{seen}
use Rattle.vol_model.specs.declared.answers.MachErr.{MachErr}
use Rattle.vol_model.specs.declared.answers.MachErr.TheVariants as mach
use Rattle.vol_model.specs.declared.contents.Body.{Body}
use Rattle.vol_model.specs.declared.contents.Place.{Place}
use Rattle.vol_model.specs.declared.contents.Shelf.{Shelf}
use Rattle.vol_model.specs.declared.refusals.Refusal.{Refusal}
use Rattle.vol_model.specs.Calls.{Does, Records}
use Rattle.vol_model.specs.Did.{Did}
use Rattle.vol_model.specs.Places.{Content, end_of_file, next_place, placed, with_blocks}
use Rattle.vol_model.specs.Shelf.{put_first, put_last, step}
use Rattle.vol_model.specs.Writing.{Making, OpenWriter, Owned, Target, device_on, did_put, extension, making_by, making_close, making_puts, making_room, place_on, room_for, room_made, target_body, with_puts}
use Rattle.vol_model.proofs.Filling.{made, making_keeps}
use Rattle.vtoc_index.specs.declared.vol.Vol.{Vol}
use Rattle.seq_access.specs.Writing.{has_put}
use Rattle.shelf_machine.specs.Fronts.{BeginsWell, behind_first, due, firsts}
use Rattle.shelf_machine.specs.Machine.{placed_in, shelf_under, units_of, writer_in}
use Rattle.shelf_machine.specs.Opening.{names_of}
use Rattle.shelf_machine.specs.PutBlocks.{PlacesAll, PutsBlock, StandsAgain, due_on, shelf_on}
use Rattle.shelf_machine.specs.declared.writer.Writer.{Writer}
use Rattle.shelf_machine.proofs.FilledSets.{PlacesWell}
use Rattle.shelf_machine.proofs.FrontLemmas.{behind_due, behind_more, due_placed}

-- a writer without what goes in front
abbrev pub rest_of : Bool → OpenWriter → OpenWriter
rest_of first o = record { target = o.target; puts = behind_first first o.puts }

-- ---- the room that is made

module _ (shelf : Shelf) (t : Target) where
  abbrev body : Body
  body = target_body shelf t

  -- where an end-of-file block stands alone, room was made for it
  pub making_first : (cs : List Content) → room_for shelf t [] end_of_file ≡ Owned → making_room shelf t [] (end_of_file ∷ cs) ≡ making_room shelf t (end_of_file ∷ []) cs
  making_first cs owned = ap (making_by shelf (extension t) (step shelf (extension t)) (λ s. making_room s t (end_of_file ∷ []) cs)) owned

  -- for more contents
  pub making_more : (first : Bool) (puts : List Content) (c : Content) → put_first t.mode body ≡ firsts first → BeginsWell first puts → (puts ≡ end_of_file ∷ [] → room_for shelf t [] end_of_file ≡ Owned)
      → making_puts shelf (rest_of first (record { target = t; puts = puts })) (c ∷ []) ≡ making_room shelf t puts (due first puts ++ c ∷ [])
  making_more true [] c front begins owned = ap (λ (l : List Content). making_room shelf t [] (l ++ c ∷ [])) front
  making_more true (d ∷ []) c front begins owned =
      let same : d ∷ [] ≡ end_of_file ∷ [] = ap (λ (x : Content). x ∷ []) begins in
      ap (λ (l : List Content). making_room shelf t [] (l ++ c ∷ [])) front
      ∙ making_first (c ∷ []) (owned same)
      ∙ ap (λ (l : List Content). making_room shelf t l (c ∷ [])) (sym same)
  making_more true (d ∷ e ∷ ds) c front begins owned =
      ap (λ (l : List Content). making_room shelf t (l ++ e ∷ ds) (c ∷ [])) front
      ∙ ap (λ (x : Content). making_room shelf t (x ∷ e ∷ ds) (c ∷ [])) (sym begins)
  making_more false [] c front begins owned = ap (λ (l : List Content). making_room shelf t [] (l ++ c ∷ [])) front
  making_more false (d ∷ ds) c front begins owned = ap (λ (l : List Content). making_room shelf t (l ++ d ∷ ds) (c ∷ [])) front

  -- and at the close
  pub making_end : (first : Bool) (puts : List Content) → put_first t.mode body ≡ firsts first → BeginsWell first puts → (puts ≡ end_of_file ∷ [] → room_for shelf t [] end_of_file ≡ Owned)
      → making_close shelf (rest_of first (record { target = t; puts = puts })) ≡ making_room shelf t puts (due first puts ++ put_last t.mode)
  making_end true [] front begins owned = ap (λ (l : List Content). making_room shelf t [] (l ++ put_last t.mode)) front
  making_end true (d ∷ []) front begins owned =
      let same : d ∷ [] ≡ end_of_file ∷ [] = ap (λ (x : Content). x ∷ []) begins in
      ap (λ (l : List Content). making_room shelf t [] (l ++ put_last t.mode)) front
      ∙ making_first (put_last t.mode) (owned same)
      ∙ ap (λ (l : List Content). making_room shelf t l (put_last t.mode)) (sym same)
  making_end true (d ∷ e ∷ ds) front begins owned =
      ap (λ (l : List Content). making_room shelf t (l ++ e ∷ ds) (put_last t.mode)) front
      ∙ ap (λ (x : Content). making_room shelf t (x ∷ e ∷ ds) (put_last t.mode)) (sym begins)
  making_end false [] front begins owned = ap (λ (l : List Content). making_room shelf t [] (l ++ put_last t.mode)) front
  making_end false (d ∷ ds) front begins owned = ap (λ (l : List Content). making_room shelf t (l ++ d ∷ ds) (put_last t.mode)) front

-- what is due is by the count of a writer's blocks
pub due_is : (shelf : Shelf) (w : Writer) (o : OpenWriter) → PlacesWell shelf w o → (has_put w.inner ≡ true) → due w.owes_end_of_file o.puts ≡ []
due_is shelf w o well put = by o.puts (well.some put)
  where
    by : (cs : List Content) → cs ≢ [] → due w.owes_end_of_file cs ≡ []
    by [] some = absurd (some refl)
    by (c ∷ cs) some = refl

pub due_first : (shelf : Shelf) (w : Writer) (o : OpenWriter) → PlacesWell shelf w o → has_put w.inner ≡ false → w.owes_end_of_file ≡ true → due w.owes_end_of_file o.puts ≡ end_of_file ∷ []
due_first shelf w o well nothing first = ap (due w.owes_end_of_file) (well.none nothing) ∙ ap firsts first

pub due_never : (first : Bool) (puts : List Content) → first ≡ false → due first puts ≡ []
due_never first puts is = ap (λ (b : Bool). due b puts) is ∙ by puts
  where
    by : (cs : List Content) → due false cs ≡ []
    by [] = refl
    by (c ∷ cs) = refl

-- so by the count of its blocks
pub not_due : (shelf : Shelf) (w : Writer) (o : OpenWriter) → PlacesWell shelf w o → false ≡ (w.owes_end_of_file && w.inner.blocks == 0) → due w.owes_end_of_file o.puts ≡ []
not_due shelf w o well is_not = by w.owes_end_of_file refl
  where
    some : (k : ℕ) → false ≡ (k == 0) → nat_lt 0 k ≡ true
    some k is = grind (arith, nat_tests)

    by : (b : Bool) → w.owes_end_of_file ≡ b → due w.owes_end_of_file o.puts ≡ []
    by false is = due_never w.owes_end_of_file o.puts is
    by true is = due_is shelf w o well (some w.inner.blocks (is_not ∙ ap (λ (b : Bool). b && w.inner.blocks == 0) is))

pub now_due : (shelf : Shelf) (w : Writer) (o : OpenWriter) → PlacesWell shelf w o → true ≡ (w.owes_end_of_file && w.inner.blocks == 0) → due w.owes_end_of_file o.puts ≡ end_of_file ∷ []
now_due shelf w o well is_now = by w.owes_end_of_file refl
  where
    none : (k : ℕ) → true ≡ (k == 0) → nat_lt 0 k ≡ false
    none k is = grind (arith, nat_tests)

    by : (b : Bool) → w.owes_end_of_file ≡ b → due w.owes_end_of_file o.puts ≡ end_of_file ∷ []
    by false is = absurd (let never : true ≡ false = is_now ∙ ap (λ (b : Bool). b && w.inner.blocks == 0) is in cc)
    by true is = due_first shelf w o well (none w.inner.blocks (is_now ∙ ap (λ (b : Bool). b && w.inner.blocks == 0) is)) is

-- ---- a put

module _ (us mid us' : List Attached) (vols vols1 vols' : List Vol) (w w1 w' : Writer) (m m1 m' : Meaning (List File)) (n l : ℕ) (c : Content) where
  abbrev shelf : Shelf
  shelf = shelf_on m.state us vols

  abbrev before : OpenWriter
  before = placed_in m.state us vols w

  abbrev t : Target
  t = before.target

  abbrev front : List Content
  front = due_on m.state us vols w

  abbrev making : Making
  making = making_room shelf t before.puts front

  abbrev after : OpenWriter
  after = placed_in m'.state us' vols' w'

  -- the place that the put gives
  abbrev pub place : Place
  place = place_on shelf t (put_first t.mode (target_body shelf t) ++ behind_first w.owes_end_of_file before.puts) c

  -- it is the one after what is due, on the shelf as it is then
  pub place_same : PlacesWell shelf w before → (s : Shelf) (o : OpenWriter) → s ≡ made shelf making → o ≡ with_puts before front → place_on s o.target o.puts c ≡ place
  place_same well s o is placed_is =
      let keeps = making_keeps t front before.puts shelf in
      let then : Shelf = made shelf making in
      ap (λ (x : OpenWriter). place_on s x.target x.puts c) placed_is
      ∙ ap (λ (u : Shelf). place_on u t (before.puts ++ front) c) is
      ∙ ap (λ (b : Body). next_place (device_on then t.v) (with_blocks b (placed (device_on then t.v) b (before.puts ++ front))) c) (keeps.bodies t.v t.dsn.bytes)
      ∙ ap (λ (d : DiskType). next_place d (with_blocks (target_body shelf t) (placed d (target_body shelf t) (before.puts ++ front))) c) (keeps.devices t.v)
      ∙ ap (λ (cs : List Content). place_on shelf t cs c) (due_placed w.owes_end_of_file before.puts well.begins ∙ ap (λ (cs : List Content). cs ++ behind_first w.owes_end_of_file before.puts) (sym well.first))

  did_is : (y : Place) → PlacesWell shelf w before → y ≡ place → did_put shelf (writer_in m.state us vols (Some w)) c ≡ room_made (making_room shelf t before.puts (front ++ c ∷ [])) y
  unfolding did_put
  did_is y well is =
      ap (λ (q : Making). room_made q place) (making_more shelf t w.owes_end_of_file before.puts c well.first well.begins well.owned)
      ∙ ap (room_made (making_room shelf t before.puts (front ++ c ∷ []))) (sym is)

  some_front : (first : Bool) (puts : List Content) → first ≡ true → puts ++ due first puts ≢ []
  some_front first [] is none = let wrong : end_of_file ∷ [] ≡ [] = ap firsts (sym is) ∙ none in cc
  some_front first (d ∷ ds) is none = cc

  abbrev writer : OpenWriter
  writer = writer_in m.state us vols (Some w)

  abbrev writer' : OpenWriter
  writer' = writer_in m'.state us' vols' (Some w')

  here : w'.owes_end_of_file ≡ w.owes_end_of_file → writer' ≡ rest_of w.owes_end_of_file after
  here same = ap (λ (b : Bool). rest_of b after) same

  more : rest_of w.owes_end_of_file (with_puts before (front ++ c ∷ [])) ≡ with_puts writer (c ∷ [])
  more = ap (λ (cs : List Content). record { target = t; puts = cs })
      (ap (behind_first w.owes_end_of_file) (sym (append_assoc before.puts front (c ∷ [])))
      ∙ behind_more w.owes_end_of_file (before.puts ++ front) c (some_front w.owes_end_of_file before.puts)
      ∙ ap (λ (cs : List Content). cs ++ c ∷ []) (behind_due w.owes_end_of_file before.puts))

  -- what is placed for it is the put
  pub puts_all : (y : Place) (r : Result Place MachErr) → PlacesWell shelf w before → y ≡ place → w'.owes_end_of_file ≡ w.owes_end_of_file → (IsErrOf r mach.Print → ⊥) → PlacesAll (front ++ c ∷ []) y us us' vols vols' w w' m m' n l r → StandsAgain r (rest_of w.owes_end_of_file before) (rest_of w.owes_end_of_file after)
      → PutsBlock c us us' vols vols' w w' m m' n l r
  puts_all y r well is same no_print all stands = record {
    does = subst (λ (d : Did Place Refusal). Does d.operations d (seen (shelf_under (names_of us (units_of vols))) m) (seen (shelf_under (names_of us' (units_of vols'))) m') n l r) (sym (did_is y well is)) all.does;
    records = by r no_print all.done stands;
    safe = all.safe;
    pending = all.pending;
  }
    where
      by : (q : Result Place MachErr) → (IsErrOf q mach.Print → ⊥) → OnOk q (after ≡ with_puts before (front ++ c ∷ [])) → StandsAgain q (rest_of w.owes_end_of_file before) (rest_of w.owes_end_of_file after) → Records q writer c writer'
      by (Ok p) none done still = here same ∙ ap (rest_of w.owes_end_of_file) done ∙ more
      by (Err (mach.Refused why)) none done still = here same ∙ still
      by (Err mach.Memory) none done still = here same ∙ still
      by (Err mach.Device) none done still = tt
      by (Err mach.Print) none done still = absurd (none refl)

  -- what stands again did so
  pub stands_first : (e : MachErr) → StandsAgain {T = Unit {0}} (Err e) before after → StandsAgain {T = Place} (Err e) (rest_of w.owes_end_of_file before) (rest_of w.owes_end_of_file after)
  stands_first (mach.Refused why) is = ap (rest_of w.owes_end_of_file) is
  stands_first mach.Memory is = ap (rest_of w.owes_end_of_file) is
  stands_first mach.Device is = tt
  stands_first mach.Print is = ap (rest_of w.owes_end_of_file) is

  -- and so did what stands after what is due
  pub stands_behind : (r : Result Place MachErr) (o : OpenWriter) → (IsErrOf r mach.Print → ⊥) → o ≡ with_puts before front → Records r o c after → StandsAgain r (rest_of w.owes_end_of_file before) (rest_of w.owes_end_of_file after)
  stands_behind r o no_print is records = by r no_print records
    where
      still : after ≡ o → rest_of w.owes_end_of_file after ≡ rest_of w.owes_end_of_file before
      still same = ap (rest_of w.owes_end_of_file) (same ∙ is) ∙ ap (λ (cs : List Content). record { target = t; puts = cs }) (behind_due w.owes_end_of_file before.puts)

      by : (q : Result Place MachErr) → (IsErrOf q mach.Print → ⊥) → Records q o c after → StandsAgain q (rest_of w.owes_end_of_file before) (rest_of w.owes_end_of_file after)
      by (Ok p) none is = tt
      by (Err (mach.Refused why)) none is = still is
      by (Err mach.Memory) none is = still is
      by (Err mach.Device) none is = tt
      by (Err mach.Print) none is = absurd (none refl)
