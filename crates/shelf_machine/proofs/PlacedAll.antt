-- Contents that are placed one after another, as those of a put and of the closing of a writer.
use Rattle.std.proofs.Common.{◌≡◌, ℕ, Bool, true, false, cond, List, [], ◌∷◌, ◌++◌, Some, refl, sym, ap, ◌∙◌, subst, append_assoc}
use Rattle.std.specs.Prelude.{Result, Ok, Err, IsErrOf, OnOk}
use Rattle.std.proofs.lemmas.List.{append-nil}
use Rattle.hall_core.specs.Facts.{Attached}
use Rattle.stop_model.specs.Files.{File}
use Rattle.stop_model.specs.Moments.{Meaning}
use Rattle.stop_model.specs.Steps.{seen}
use Rattle.vol_model.specs.declared.answers.MachErr.{MachErr}
use Rattle.vol_model.specs.declared.answers.MachErr.TheVariants as mach
use Rattle.vol_model.specs.declared.contents.Place.{Place}
use Rattle.vol_model.specs.declared.contents.Shelf.{Shelf}
use Rattle.vol_model.specs.declared.refusals.Refusal.{Refusal}
use Rattle.vol_model.specs.declared.refusals.Refusal.TheVariants.{NoRoom}
use Rattle.vol_model.specs.declared.requests.Op.{Op}
use Rattle.vol_model.specs.Calls.{Does, Records, sound_after}
use Rattle.vol_model.specs.Did.{Did, behind_them}
use Rattle.vol_model.specs.Places.{Content}
use Rattle.vol_model.specs.Writing.{Making, OpenWriter, making_room, place_on, room_made, with_puts}
use Rattle.vol_model.proofs.Filling.{made, made_then, making_append}
use Rattle.vtoc_index.specs.declared.vol.Vol.{Vol}
use Rattle.shelf_machine.specs.Machine.{KeepsSafe, placed_in, shelf_under, units_of}
use Rattle.shelf_machine.specs.Opening.{names_of}
use Rattle.shelf_machine.specs.Pending.{IsPendingBy}
use Rattle.shelf_machine.specs.PutBlocks.{PlacesAll, PlacesBlock, StandsAgain, shelf_on}
use Rattle.shelf_machine.specs.Putting.{did_place}
use Rattle.shelf_machine.specs.declared.writer.Writer.{Writer}
use Rattle.shelf_machine.proofs.DoneParts.{as_answer, does_as, does_none, does_stop, does_then, sound_as}
use Rattle.shelf_machine.proofs.Machines.{keeps_all}
use Rattle.shelf_machine.proofs.Settling.{keeps_then}

-- nothing is placed
pub places_none : (us : List Attached) (vols : List Vol) (w : Writer) (m : Meaning (List File)) (n : ℕ) → IsPendingBy m us vols (Some w)
    → PlacesAll [] (tt {0}) us us vols vols w w m m n n (Ok (tt {0}))
places_none us vols w m n pending = record {
  does = does_none (seen (shelf_under (names_of us (units_of vols))) m) n (tt {0});
  done = ap (λ (cs : List Content). record { target = (placed_in m.state us vols w).target; puts = cs }) (sym (append-nil (placed_in m.state us vols w).puts));
  safe = keeps_all (KeepsSafe (names_of us (units_of vols)) vols m);
  pending = λ sound. pending;
}

-- a record of one content that is placed, whatever is answered then
records_as : {Y : Type 0} (r : Result Place MachErr) (y : Y) (o o' : OpenWriter) (c : Content) → Records r o c o' → OnOk (as_answer r y) (o' ≡ with_puts o (c ∷ []))
records_as (Ok p) y o o' c is = is
records_as (Err e) y o o' c is = tt

pub stands_as : {Y : Type 0} (r : Result Place MachErr) (y : Y) (o o' : OpenWriter) (c : Content) → (IsErrOf r mach.Print → ⊥) → Records r o c o' → StandsAgain (as_answer r y) o o'
stands_as (Ok p) y o o' c none is = tt
stands_as (Err (mach.Refused why)) y o o' c none is = is
stands_as (Err mach.Memory) y o o' c none is = is
stands_as (Err mach.Device) y o o' c none is = tt
stands_as (Err mach.Print) y o o' c none is = is

module _ (c : Content) (us us' : List Attached) (vols vols' : List Vol) (w w' : Writer) (m m' : Meaning (List File)) (n n' : ℕ) (r : Result Place MachErr) (run : PlacesBlock c us us' vols vols' w w' m m' n n' r) where
  abbrev placed : OpenWriter
  placed = placed_in m.state us vols w

  abbrev place : Place
  place = place_on (shelf_on m.state us vols) placed.target placed.puts c

  -- one is placed, and gives its place
  pub places_one : PlacesAll (c ∷ []) place us us' vols vols' w w' m m' n n' r
  unfolding did_place
  places_one = record { does = run.does; done = by r run.records; safe = run.safe; pending = run.pending }
    where
      by : (q : Result Place MachErr) → Records q placed c (placed_in m'.state us' vols' w') → OnOk q (placed_in m'.state us' vols' w' ≡ with_puts placed (c ∷ []))
      by (Ok p) is = is
      by (Err e) is = tt

  -- or anything else
  pub places_as : {Y : Type 0} (y : Y) → PlacesAll (c ∷ []) y us us' vols vols' w w' m m' n n' (as_answer r y)
  unfolding did_place
  places_as y = record {
    does = does_as (making_room (shelf_on m.state us vols) placed.target placed.puts (c ∷ [])) place y r run.does;
    done = records_as r y placed (placed_in m'.state us' vols' w') c run.records;
    safe = run.safe;
    pending = λ sound. run.pending (sym (sound_as r y) ∙ sound);
  }

-- ---- some, and more after them

-- room that was made for all
all_made : {X : Type 0} (m : Making) (x z : X) → ◌≡◌ {A = Result X Refusal} (room_made m x).answer (Ok z) → m.all ≡ true
all_made {X} m x z is = by m.all is
  where
    by : (b : Bool) → ◌≡◌ {A = Result X Refusal} (cond b (Ok x) (Err NoRoom)) (Ok z) → b ≡ true
    by true e = refl
    by false e = cc

then_all : {Y : Type 0} (m rest : Making) (y : Y) → m.all ≡ true → room_made (made_then m rest) y ≡ behind_them m.extends (room_made rest y)
then_all m rest y is = ap (λ (b : Bool). room_made (cond b (record { extends = m.extends ++ rest.extends; all = rest.all }) m) y) is

-- and where it wasn't, there is none for more
then_stopped : {X Y : Type 0} (m rest : Making) (x : X) (y : Y) (r : Refusal) → ◌≡◌ {A = Result X Refusal} (room_made m x).answer (Err r) → room_made (made_then m rest) y ≡ record { operations = m.extends; answer = Err r }
then_stopped {X} {Y} m rest x y r is = by m.all refl is
  where
    by : (b : Bool) → m.all ≡ b → ◌≡◌ {A = Result X Refusal} (cond b (Ok x) (Err NoRoom)) (Err r) → room_made (made_then m rest) y ≡ record { operations = m.extends; answer = Err r }
    by true at e = cc
    by false at e =
        let why : NoRoom ≡ r = cc in
        ap (λ (c : Bool). room_made (cond c (record { extends = m.extends ++ rest.extends; all = rest.all }) m) y) at
        ∙ ap (λ (c : Bool). record { operations = m.extends; answer = cond c (Ok y) (Err NoRoom) }) at
        ∙ ap (λ (q : Refusal). record { operations = m.extends; answer = Err q }) why

then_goes : {Y : Type 0} (m rest : Making) (y : Y) → (more : List Op) × ((room_made (made_then m rest) y).operations ≡ m.extends ++ more)
then_goes m rest y = by m.all refl
  where
    by : (b : Bool) → m.all ≡ b → (more : List Op) × ((made_then m rest).extends ≡ m.extends ++ more)
    by true at = (rest.extends, ap (λ (c : Bool). (cond {A = Making} c (record { extends = m.extends ++ rest.extends; all = rest.all }) m).extends) at)
    by false at = ([], ap (λ (c : Bool). (cond {A = Making} c (record { extends = m.extends ++ rest.extends; all = rest.all }) m).extends) at ∙ sym (append-nil m.extends))

module _ {X Y : Type 0} (cs ds : List Content) (x : X) (y : Y) (us mid us' : List Attached) (vols vols1 vols' : List Vol) (w w1 w' : Writer) (m m1 m' : Meaning (List File)) (n k l : ℕ) where
  abbrev old : Meaning Shelf
  old = seen (shelf_under (names_of us (units_of vols))) m

  abbrev now : Meaning Shelf
  now = seen (shelf_under (names_of mid (units_of vols1))) m1

  abbrev before : OpenWriter
  before = placed_in m.state us vols w

  abbrev between : OpenWriter
  between = placed_in m1.state mid vols1 w1

  abbrev after : OpenWriter
  after = placed_in m'.state us' vols' w'

  abbrev making : Making
  making = making_room old.state before.target before.puts cs

  abbrev rest : Making
  rest = making_room (made old.state making) before.target (before.puts ++ cs) ds

  both_made : making_room old.state before.target before.puts (cs ++ ds) ≡ made_then making rest
  both_made = making_append before.target cs ds before.puts old.state

  pub places_then : (z : X) (r : Result Y MachErr) → (IsErrOf r mach.Memory → ⊥) → PlacesAll cs x us mid vols vols1 w w1 m m1 n k (Ok z) → PlacesAll ds y mid us' vols1 vols' w1 w' m1 m' k l r
      → PlacesAll (cs ++ ds) y us us' vols vols' w w' m m' n l r
  places_then z r none first second = record {
    does = subst (λ (d : Did Y Refusal). Does d.operations d old (seen (shelf_under (names_of us' (units_of vols'))) m') n l r)
        (sym (ap (λ (q : Making). room_made q y) both_made ∙ then_all making rest y (all_made making x z first.does.answer)))
        (does_then (room_made making x) z first.does (room_made rest y) r none next);
    done = by r second.done;
    safe = keeps_then first.does.moments.later first.safe second.safe;
    pending = second.pending;
  }
    where
      next : Does (room_made rest y).operations (room_made rest y) now (seen (shelf_under (names_of us' (units_of vols'))) m') k l r
      next =
          subst (λ (s : Shelf). let d = room_made (making_room s before.target (before.puts ++ cs) ds) y in Does d.operations d now (seen (shelf_under (names_of us' (units_of vols'))) m') k l r) first.does.state.0
          (subst (λ (o : OpenWriter). let d = room_made (making_room now.state o.target o.puts ds) y in Does d.operations d now (seen (shelf_under (names_of us' (units_of vols'))) m') k l r) first.done second.does)

      by : (q : Result Y MachErr) → OnOk q (after ≡ with_puts between ds) → OnOk q (after ≡ with_puts before (cs ++ ds))
      by (Ok a) is = is ∙ ap (λ (o : OpenWriter). with_puts o ds) first.done ∙ ap (λ (l : List Content). record { target = before.target; puts = l }) (append_assoc before.puts cs ds)
      by (Err e) is = tt

  -- the first aren't placed
  pub places_stop : (e : MachErr) → (e ≡ mach.Memory → ⊥) → PlacesAll cs x us mid vols vols1 w w1 m m1 n k (Err e) → PlacesAll (cs ++ ds) y us mid vols vols1 w w1 m m1 n k (Err e)
  places_stop e none first =
      let goes = then_goes making rest y in
      let stopped : Does (room_made (made_then making rest) y).operations (room_made (made_then making rest) y) old now n k (Err e) =
      does_stop (room_made making x) (room_made (made_then making rest) y) e none (λ r is. then_stopped making rest x y r is) goes.0 goes.1 first.does
      in record {
        does = subst (λ (q : Making). Does (room_made q y).operations (room_made q y) old now n k (Err e)) (sym both_made) stopped;
        done = tt;
        safe = first.safe;
        pending = λ sound. first.pending (same e sound);
      }
    where
      same : (e : MachErr) → sound_after {T = Y} (Err e) ≡ true → sound_after {T = X} (Err e) ≡ true
      same (mach.Refused why) is = refl
      same mach.Memory is = refl
      same mach.Device is = is
      same mach.Print is = is

pub places_stopped : {X Y : Type 0} {cs : List Content} {x : X} {us mid : List Attached} {vols vols1 : List Vol} {w w1 : Writer} {m m1 : Meaning (List File)} {n k : ℕ} {e : MachErr} (ds : List Content) (y : Y) → (e ≡ mach.Memory → ⊥)
    → PlacesAll cs x us mid vols vols1 w w1 m m1 n k (Err e) → PlacesAll (cs ++ ds) y us mid vols vols1 w w1 m m1 n k (Err e)
places_stopped {X} {Y} {cs} {x} {us} {mid} {vols} {vols1} {w} {w1} {m} {m1} {n} {k} {e} ds y none first = places_stop cs ds x y us mid mid vols vols1 vols1 w w1 w1 m m1 m1 n k k e none first
