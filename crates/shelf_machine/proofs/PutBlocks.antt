-- A put on one of several packs: alone, after an extension of its set, and where that isn't done.
use Rattle.std.proofs.Common.{◌≡◌, ◌≢◌, ℕ, true, List, Some, refl, sym, ap, ◌∙◌, subst}
use Rattle.std.specs.Prelude.{IsErrOf, Result, Ok, Err}
use Rattle.hall_core.specs.Facts.{Attached}
use Rattle.stop_model.specs.Files.{File}
use Rattle.stop_model.specs.Moments.{Meaning}
use Rattle.stop_model.specs.Steps.{seen}
use Rattle.vol_model.specs.declared.answers.MachErr.{MachErr}
use Rattle.vol_model.specs.declared.answers.StoreErr.{StoreErr}
use Rattle.vol_model.specs.declared.answers.StoreErr.TheVariants as store
use Rattle.vol_model.specs.declared.contents.Place.{Place}
use Rattle.vol_model.specs.declared.contents.Shelf.{Shelf}
use Rattle.vol_model.specs.declared.requests.Op.TheVariants.{Extend}
use Rattle.vol_model.specs.Calls.{Applies, Does, Keeps, Records, counted, sound_after}
use Rattle.vol_model.specs.Places.{Content}
use Rattle.vol_model.specs.Writing.{OpenWriter, Wanted, room_for}
use Rattle.vtoc_index.specs.declared.vol.Vol.{Vol}
use Rattle.seq_access.specs.declared.writer.PutErr.{PutErr}
use Rattle.seq_access.specs.declared.writer.PutErr.TheVariants.{Device, NeedExtent, TooLong}
use Rattle.shelf_machine.specs.Machine.{KeepsSafe, placed_in, shelf_under, units_of}
use Rattle.shelf_machine.specs.Opening.{names_of}
use Rattle.shelf_machine.specs.Operating.{OperatesOnShelf}
use Rattle.shelf_machine.specs.Pending.{IsPendingBy}
use Rattle.shelf_machine.specs.PutBlocks.{PlacesBlock, put_answer, room_answer, room_on, shelf_on}
use Rattle.shelf_machine.specs.Putting.{DidPut, PutsOn, did_place}
use Rattle.pack_machine.specs.Ready.{reported}
use Rattle.pack_machine.specs.declared.pack_cache.PackCache.{PackCache}
use Rattle.shelf_machine.specs.declared.writer.Writer.{Writer}
use Rattle.shelf_machine.proofs.PutExtends.{WritesSet, does_after, does_alone, does_behind, does_device, does_unextended, records_put}
use Rattle.shelf_machine.proofs.Settling.{keeps_then}

-- ---- what is answered

-- unless the machine isn't sound then the device didn't fail
pub sound_put : (r : Result Place PutErr) → sound_after (put_answer r) ≡ true → ¬ IsErrOf r Device
sound_put (Ok place) sound failed = absurd (let wrong : ◌≡◌ {A = Result Place PutErr} (Ok place) (Err Device) = failed in cc)
sound_put (Err TooLong) sound failed = absurd (let wrong : ◌≡◌ {A = Result Place PutErr} (Err TooLong) (Err Device) = failed in cc)
sound_put (Err NeedExtent) sound failed = absurd (let wrong : ◌≡◌ {A = Result Place PutErr} (Err NeedExtent) (Err Device) = failed in cc)
sound_put (Err Device) sound failed = absurd cc

-- the names of packs stay with their units
same_names : (attached attached' : List Attached) (vols vols' : List Vol) → attached' ≡ attached → units_of vols' ≡ units_of vols → names_of attached' (units_of vols') ≡ names_of attached (units_of vols)
same_names attached attached' vols vols' units numbers = ap (λ (us : List Attached). names_of us (units_of vols')) units ∙ ap (names_of attached) numbers

-- ---- no track is wanted

pub puts_alone : (c : Content) (attached attached' : List Attached) (vols vols' : List Vol) (known' : List PackCache) (w w' : Writer) (m m' : Meaning (List File)) (n : ℕ) (r : Result Place PutErr)
    → attached' ≡ attached → units_of vols' ≡ units_of vols → (r ≡ Err NeedExtent → ⊥) → PutsOn (names_of attached (units_of vols)) attached' vols vols' known' w' m m' r
    → DidPut (shelf_on m.state attached vols) (placed_in m.state attached vols w) c (placed_in m'.state attached' vols' w') r
    → PlacesBlock c attached attached' vols vols' w w' m m' n n (put_answer r)
puts_alone c attached attached' vols vols' known' w w' m m' n r units numbers other put did = record {
  does = subst (λ (ns : List (List ℕ)). Does (did_place shelf writer c).operations (did_place shelf writer c) (seen (shelf_under names) m) (seen (shelf_under ns) m') n n (put_answer r)) (sym same)
      (does_alone (seen (shelf_under names) m) (seen (shelf_under names) m') writer (placed_in m'.state attached' vols' w') c n r other put.state put.printed put.moments did);
  records = records_put shelf writer writer (placed_in m'.state attached' vols' w') c r refl did;
  safe = subst (λ (ns : List (List ℕ)). Keeps m.clock (KeepsSafe names vols m) (KeepsSafe ns vols' m')) (sym same) put.safe;
  pending = λ sound. put.pending (sound_put r sound);
}
  where
    names : List (List ℕ)
    names = names_of attached (units_of vols)

    same : names_of attached' (units_of vols') ≡ names
    same = same_names attached attached' vols vols' units numbers

    shelf : Shelf
    shelf = shelf_on m.state attached vols

    writer : OpenWriter
    writer = placed_in m.state attached vols w

-- ---- a track is wanted

-- the track is wanted still after the call that put nothing
pub still_wanted : (c : Content) (attached mid : List Attached) (vols vols1 : List Vol) (known1 : List PackCache) (w w1 : Writer) (m m1 : Meaning (List File)) → mid ≡ attached → units_of vols1 ≡ units_of vols
    → PutsOn {T = Place} (names_of attached (units_of vols)) mid vols vols1 known1 w1 m m1 (Err NeedExtent)
    → DidPut (shelf_on m.state attached vols) (placed_in m.state attached vols w) c (placed_in m1.state mid vols1 w1) (Err NeedExtent) → room_on m1.state mid vols1 w1 c ≡ Wanted
still_wanted c attached mid vols vols1 known1 w w1 m m1 units numbers put did =
    let writer1 : OpenWriter = placed_in m1.state mid vols1 w1 in
    ap (λ (s : Shelf). room_for s writer1.target writer1.puts c) (ap (λ (ns : List (List ℕ)). shelf_under ns m1.state) (same_names attached mid vols vols1 units numbers) ∙ put.state)
    ∙ ap (λ (o : OpenWriter). room_for (shelf_on m.state attached vols) o.target o.puts c) did.1
    ∙ did.0

-- what is put after a call that put nothing is put as well from before it
pub puts_after : (c : Content) (attached mid attached' : List Attached) (vols vols1 vols' : List Vol) (known1 : List PackCache) (w w1 w' : Writer) (m m1 m' : Meaning (List File)) (n k : ℕ) (r : Result Place MachErr)
    → mid ≡ attached → units_of vols1 ≡ units_of vols → PutsOn {T = Place} (names_of attached (units_of vols)) mid vols vols1 known1 w1 m m1 (Err NeedExtent)
    → placed_in m1.state mid vols1 w1 ≡ placed_in m.state attached vols w → PlacesBlock c mid attached' vols1 vols' w1 w' m1 m' n k r → PlacesBlock c attached attached' vols vols' w w' m m' n k r
puts_after c attached mid attached' vols vols1 vols' known1 w w1 w' m m1 m' n k r units numbers put same run = record {
  does = does_after put.state put.printed put.moments
      (subst (λ (s : Shelf). Does (did_place s writer c).operations (did_place s writer c) (seen (shelf_under names) m1) (seen (shelf_under names') m') n k r) put.state
      (subst (λ (o : OpenWriter). Does (did_place (shelf_under names m1.state) o c).operations (did_place (shelf_under names m1.state) o c) (seen (shelf_under names) m1) (seen (shelf_under names') m') n k r) same
      (subst (λ (ns : List (List ℕ)). Does (did_place (shelf_under ns m1.state) writer1 c).operations (did_place (shelf_under ns m1.state) writer1 c) (seen (shelf_under ns) m1) (seen (shelf_under names') m') n k r) (same_names attached mid vols vols1 units numbers)
      run.does)));
  records = subst (λ (o : OpenWriter). Records r o c (placed_in m'.state attached' vols' w')) same run.records;
  safe = keeps_then put.moments.later put.safe (subst (λ (ns : List (List ℕ)). Keeps m1.clock (KeepsSafe ns vols1 m1) (KeepsSafe names' vols' m')) (same_names attached mid vols vols1 units numbers) run.safe);
  pending = run.pending;
}
  where
    names : List (List ℕ)
    names = names_of attached (units_of vols)

    names' : List (List ℕ)
    names' = names_of attached' (units_of vols')

    writer : OpenWriter
    writer = placed_in m.state attached vols w

    writer1 : OpenWriter
    writer1 = placed_in m1.state mid vols1 w1

sound_unextended : (e : StoreErr) → sound_after {T = Place} (Err (room_answer e)) ≡ true → sound_after (reported {T = Unit {0}} (Err e)) ≡ true
sound_unextended (store.Refused r) sound = refl
sound_unextended store.Memory sound = refl
sound_unextended store.Device sound = absurd cc

-- where a machine is sound still the extension didn't fail
pub still_sound : (ran : Result (Unit {0}) StoreErr) (e : StoreErr) (a : MachErr) → ran ≡ Err e → a ≡ room_answer e → sound_after {T = Place} (Err a) ≡ true → sound_after (reported ran) ≡ true
still_sound ran e a is answer sound =
    ap (λ (r : Result (Unit {0}) StoreErr). sound_after (reported r)) is ∙ sound_unextended e (ap (λ (b : MachErr). sound_after {T = Place} (Err b)) (sym answer) ∙ sound)

-- after the extension, done or not
module _ (c : Content) (attached mid : List Attached) (vols vols1 : List Vol) (w w1 : Writer) (m m1 : Meaning (List File)) (fills : WritesSet (shelf_on m.state attached vols) (placed_in m.state attached vols w).target (placed_in m.state attached vols w))
    (wanted : room_on m.state attached vols w c ≡ Wanted) (ran : Result (Unit {0}) StoreErr) (run : OperatesOnShelf (Extend w.v w.dsn) (names_of attached (units_of vols)) (names_of mid (units_of vols1)) mid vols vols1 m m1 ran)
    (same : sound_after (reported ran) ≡ true → placed_in m1.state mid vols1 w1 ≡ placed_in m.state attached vols w) where
  abbrev names1 : List (List ℕ)
  names1 = names_of mid (units_of vols1)

  abbrev old : Meaning Shelf
  old = seen (shelf_under (names_of attached (units_of vols))) m

  abbrev now : Meaning Shelf
  now = seen (shelf_under names1) m1

  abbrev writer : OpenWriter
  writer = placed_in m.state attached vols w

  abbrev writer1 : OpenWriter
  writer1 = placed_in m1.state mid vols1 w1

  -- it isn't done
  pub puts_unextended : (e : StoreErr) (n : ℕ) → ran ≡ Err e → e ≢ store.Memory → (sound_after (reported ran) ≡ true → IsPendingBy m1 mid vols1 (Some w1))
      → PlacesBlock c attached mid vols vols1 w w1 m m1 n n (Err (room_answer e))
  puts_unextended e n is other pending = record {
    does = by_does e other (subst (λ (r : Result (Unit {0}) StoreErr). Applies (Extend w.v w.dsn) old now (reported r)) is run.applies);
    records = by_records e is;
    safe = run.safe;
    pending = λ sound. pending (still sound);
  }
    where
      still : sound_after {T = Place} (Err (room_answer e)) ≡ true → sound_after (reported ran) ≡ true
      still sound = still_sound ran e (room_answer e) is refl sound

      by_does : (f : StoreErr) → f ≢ store.Memory → Applies {T = Unit {0}} (Extend w.v w.dsn) old now (reported (Err f)) → Does {X = Place} (did_place old.state writer c).operations (did_place old.state writer c) old now n n (Err (room_answer f))
      by_does (store.Refused r) none applies = does_unextended old now writer.target writer fills c wanted r n applies
      by_does store.Memory none applies = absurd (none refl)
      by_does store.Device none applies = does_device old now writer.target writer fills c wanted applies n n

      by_records : (f : StoreErr) → ran ≡ Err f → Records {T = Place} (Err (room_answer f)) writer c writer1
      by_records (store.Refused r) at = same (ap (λ (q : Result (Unit {0}) StoreErr). sound_after (reported q)) at)
      by_records store.Memory at = same (ap (λ (q : Result (Unit {0}) StoreErr). sound_after (reported q)) at)
      by_records store.Device at = tt

  -- it is, and then the block is put
  pub puts_behind : (attached' : List Attached) (vols' : List Vol) (known' : List PackCache) (w' : Writer) (m' : Meaning (List File)) (n : ℕ) (r : Result Place PutErr) → ran ≡ Ok tt → attached' ≡ mid → units_of vols' ≡ units_of vols1
      → PutsOn names1 attached' vols1 vols' known' w' m1 m' r → DidPut now.state writer1 c (placed_in m'.state attached' vols' w') r
      → PlacesBlock c attached attached' vols vols' w w' m m' n (counted n 1) (put_answer r)
  puts_behind attached' vols' known' w' m' n r is units numbers put did = record {
    does = subst (λ (ns : List (List ℕ)). Does (did_place old.state writer c).operations (did_place old.state writer c) old (seen (shelf_under ns) m') n (counted n 1) (put_answer r)) (sym names_same)
        (does_behind old now writer.target writer fills c wanted tt (seen (shelf_under names1) m') (subst (λ (q : Result (Unit {0}) StoreErr). Applies (Extend w.v w.dsn) old now (reported q)) is run.applies)
        put.state put.printed put.moments writer1 (placed_in m'.state attached' vols' w') (same extended) n r did);
    records = records_put now.state writer writer1 (placed_in m'.state attached' vols' w') c r (same extended) did;
    safe = keeps_then run.applies.moments.later run.safe (subst (λ (ns : List (List ℕ)). Keeps m1.clock (KeepsSafe names1 vols1 m1) (KeepsSafe ns vols' m')) (sym names_same) put.safe);
    pending = λ sound. put.pending (sound_put r sound);
  }
    where
      extended : sound_after (reported ran) ≡ true
      extended = ap (λ (q : Result (Unit {0}) StoreErr). sound_after (reported q)) is

      names_same : names_of attached' (units_of vols') ≡ names1
      names_same = same_names mid attached' vols1 vols' units numbers
