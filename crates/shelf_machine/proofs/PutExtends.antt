-- What a put does where its set owns no track for the block: the set is extended, and then there is a track.
use Rattle.std.proofs.Common.{◌≡◌, ◌≤◌, ⊎_elim, inl, inr, ℕ, Bool, true, false, cond, not, nat_lt, List, [], ◌∷◌, ◌++◌, map, refl, sym, ap, ◌∙◌, subst, arith}
use Rattle.std.specs.Prelude.{◌⊎◌, Result, Ok, Err}
use Rattle.ckd_image.specs.declared.device.DiskType.{DiskType}
use Rattle.stop_model.specs.Moments.{Elapses, Meaning}
use Rattle.stop_model.proofs.MomentLemmas.{elapses_then, elapses_weaker}
use Rattle.vol_model.specs.declared.answers.MachErr.{MachErr}
use Rattle.vol_model.specs.declared.answers.MachErr.TheVariants as mach
use Rattle.vol_model.specs.declared.contents.Body.{Body}
use Rattle.vol_model.specs.declared.contents.Place.{Place}
use Rattle.vol_model.specs.declared.contents.Shelf.{Shelf}
use Rattle.vol_model.specs.declared.refusals.Refusal.{Refusal}
use Rattle.vol_model.specs.declared.refusals.Refusal.TheVariants.{NoRoom}
use Rattle.vol_model.specs.declared.requests.Op.{Op}
use Rattle.vol_model.specs.declared.requests.Op.TheVariants.{Extend}
use Rattle.vol_model.specs.Calls.{Applies, ComesTo, Does, IsBehind, Records, counted}
use Rattle.vol_model.specs.Did.{Did, answered}
use Rattle.vol_model.specs.Events.{Do, StopsIn, behind}
use Rattle.vol_model.specs.Places.{Content, fits_a_track, next_place, placed, with_blocks}
use Rattle.vol_model.specs.Shelf.{step}
use Rattle.vol_model.specs.Writing.{Never, OpenWriter, Owned, Room, Target, Wanted, body_on, device_on, making_by, making_room, place_on, room_for, room_made, tracks_on, with_puts}
use Rattle.vol_model.proofs.Keeping.{extension_keeps}
use Rattle.vol_model.proofs.Stops.{stops_start}
use Rattle.seq_access.specs.declared.writer.PutErr.{PutErr}
use Rattle.seq_access.specs.declared.writer.PutErr.TheVariants.{Device, NeedExtent, TooLong}
use Rattle.shelf_machine.specs.PutBlocks.{put_answer}
use Rattle.shelf_machine.specs.Putting.{DidPut, did_place}
use Rattle.shelf_laws.proofs.Roomier.{extension_raises}
use Rattle.shelf_machine.proofs.PutRooms.{does_failed, does_nothing, does_refused, put_on_owned, room_owned, writing_to}

-- A writer writes to a set, of which the next block comes on a track that it owns, or on the first one that is missing.
pub record WritesSet (shelf : Shelf) (t : Target) (writer : OpenWriter) : Type 0 where
  pub puts : List Content
  pub is : writer ≡ writing_to t puts
  pub low : (c : Content) → (place_on shelf t puts c).tt ≤ tracks_on shelf t.v t.dsn.bytes

-- the extension, and then the block is put; or no extension, and the block is refused
abbrev pub extended : Op → Place → Result Shelf Refusal → Did Place Refusal
extended op place (Ok after) = record { operations = op ∷ []; answer = Ok place }
extended op place (Err r) = answered (Err NoRoom)

module _ (shelf : Shelf) (t : Target) (c : Content) (puts : List Content) (wanted : room_for shelf t puts c ≡ Wanted) where
  abbrev op : Op
  op = Extend t.v t.dsn

  abbrev place : Place
  place = place_on shelf t puts c

  -- ---- the room after an extension

  -- where a track is wanted the block fits one
  wanted_fits : fits_a_track (device_on shelf t.v) c ≡ true
  unfolding room_for
  wanted_fits = by (fits_a_track (device_on shelf t.v) c) wanted
    where
      by : (b : Bool) → cond (not b) Never (cond (nat_lt place.tt (tracks_on shelf t.v t.dsn.bytes)) Owned Wanted) ≡ Wanted → b ≡ true
      by true room = refl
      by false room = absurd cc

  module _ (after : Shelf) (done : step shelf op ≡ Ok after) where
    -- the place is the same
    pub same_place : place_on after t puts c ≡ place
    same_place =
        let keeps = extension_keeps shelf after t.v t.dsn done in
        ap (λ (b : Body). next_place (device_on after t.v) (with_blocks b (placed (device_on after t.v) b puts)) c) (keeps.bodies t.v t.dsn.bytes)
        ∙ ap (λ (d : DiskType). next_place d (with_blocks (body_on shelf t.v t.dsn.bytes) (placed d (body_on shelf t.v t.dsn.bytes) puts)) c) (keeps.devices t.v)

    -- and on a track that is owned, if it isn't after the first that was missing
    pub then_owned : place.tt ≤ tracks_on shelf t.v t.dsn.bytes → room_for after t puts c ≡ Owned
    then_owned low =
        room_owned after t c puts
        (ap (λ (d : DiskType). fits_a_track d c) ((extension_keeps shelf after t.v t.dsn done).devices t.v) ∙ wanted_fits)
        (omega (arith, low, extension_raises shelf after t.v t.dsn done, ap (λ (p : Place). p.tt) same_place))

  -- ---- what the put does

  made : (q : Result Shelf Refusal) → room_made (making_by shelf op q (λ s. making_room s t (puts ++ c ∷ []) []) Wanted) place ≡ extended op place q
  made (Ok after) = refl
  made (Err r) = refl

  pub put_wanting : (q : Result Shelf Refusal) → step shelf op ≡ q → did_place shelf (writing_to t puts) c ≡ extended op place q
  unfolding did_place
  put_wanting q stepped =
      ap (λ (r : Room). room_made (making_by shelf op (step shelf op) (λ s. making_room s t (puts ++ c ∷ []) []) r) place) wanted
      ∙ ap (λ (r : Result Shelf Refusal). room_made (making_by shelf op r (λ s. making_room s t (puts ++ c ∷ []) []) Wanted) place) stepped
      ∙ made q

-- ---- the writer

pub records_put : (shelf : Shelf) (w v after : OpenWriter) (c : Content) (r : Result Place PutErr) → v ≡ w → DidPut shelf v c after r → Records (put_answer r) w c after
records_put shelf w v after c (Ok p) same did = did.1 ∙ ap (λ (x : OpenWriter). with_puts x (c ∷ [])) same
records_put shelf w v after c (Err TooLong) same did = did.1 ∙ same
records_put shelf w v after c (Err NeedExtent) same did = did.1 ∙ same
records_put shelf w v after c (Err Device) same did = tt

-- ---- a put for which no track is wanted

pub does_alone : (old new : Meaning Shelf) (w w' : OpenWriter) (c : Content) (n : ℕ) (r : Result Place PutErr) → (r ≡ Err NeedExtent → ⊥) → new.state ≡ old.state → new.printed ≡ old.printed
    → Elapses old new (λ s p. (s ≡ old.state) × (p ≡ old.printed)) → DidPut old.state w c w' r → Does (did_place old.state w c).operations (did_place old.state w c) old new n n (put_answer r)
does_alone old new w w' c n (Ok p) other state printed moments did = does_nothing old new printed moments n p (did_place old.state w c) did.0 state
does_alone old new w w' c n (Err TooLong) other state printed moments did = does_refused old new printed moments n NoRoom (did_place old.state w c) did.0 state
does_alone old new w w' c n (Err NeedExtent) other state printed moments did = absurd (other refl)
does_alone old new w w' c n (Err Device) other state printed moments did = does_failed old new printed moments n (did_place old.state w c) n

-- what is done after a call that does nothing is done as well from before it
pub does_after : {X : Type 0} {way : List Op} {did : Did X Refusal} {old mid new : Meaning Shelf} {n k : ℕ} {r : Result X MachErr} → mid.state ≡ old.state → mid.printed ≡ old.printed
    → Elapses old mid (λ s p. (s ≡ old.state) × (p ≡ old.printed)) → Does way did mid new n k r → Does way did old new n k r
does_after {X = X} {way = way} {did = did} {old = old} {mid = mid} {new = new} {n = n} {k = k} {r = r} state printed moments run = record {
  answer = run.answer;
  state = subst (λ (s : Shelf). ComesTo r way did.operations s new.state n k) state run.state;
  printed = run.printed ∙ printed;
  moments = elapses_then
      (elapses_weaker moments (λ s p has. (subst (λ (x : Shelf). StopsIn old.state (map Do did.operations) x []) (sym has.0) (stops_start old.state (map Do did.operations)), has.1)))
      (elapses_weaker run.moments (λ s p has. (subst (λ (x : Shelf). StopsIn x (map Do did.operations) s []) state has.0, has.1 ∙ printed)));
}

-- ---- a put for which one is wanted

module _ (old mid : Meaning Shelf) (t : Target) (writer : OpenWriter) (fills : WritesSet old.state t writer) (c : Content) (wanted : room_for old.state writer.target writer.puts c ≡ Wanted) where
  abbrev did : Did Place Refusal
  did = did_place old.state writer c

  abbrev extending : Op
  extending = Extend t.v t.dsn

  abbrev next : Place
  next = place_on old.state t fills.puts c

  wanted_by : room_for old.state t fills.puts c ≡ Wanted
  wanted_by = subst (λ (w : OpenWriter). room_for old.state w.target w.puts c ≡ Wanted) fills.is wanted

  did_is : (q : Result Shelf Refusal) → step old.state extending ≡ q → did ≡ extended extending next q
  did_is q stepped = ap (λ (w : OpenWriter). did_place old.state w c) fills.is ∙ put_wanting old.state t c fills.puts wanted_by q stepped

  -- a stop in the extension is one in the put
  stops_in : (s : Shelf) → (s ≡ old.state) ⊎ (step old.state extending ≡ Ok s) → StopsIn old.state (map Do did.operations) s []
  stops_in s = by (step old.state extending) refl
    where
      by : (q : Result Shelf Refusal) → step old.state extending ≡ q → (s ≡ old.state) ⊎ (step old.state extending ≡ Ok s) → StopsIn old.state (map Do did.operations) s []
      by (Ok after) is has = subst (λ (d : Did Place Refusal). StopsIn old.state (map Do d.operations) s []) (sym (did_is (Ok after) is))
          (⊎_elim (λ same. inl (same, refl)) (λ stepped. inr (ap (behind old.state) (sym stepped), refl)) has)
      by (Err r) is has = subst (λ (d : Did Place Refusal). StopsIn old.state (map Do d.operations) s []) (sym (did_is (Err r) is))
          (⊎_elim (λ same. (same, refl)) (λ stepped. absurd (let wrong : ◌≡◌ {A = Result Shelf Refusal} (Err r) (Ok s) = sym is ∙ stepped in cc)) has)

  module _ {T : Type 0} {ran : Result T MachErr} (run : Applies extending old mid ran) where
    moments_in : Elapses old mid (λ s p. StopsIn old.state (map Do did.operations) s [] × (p ≡ old.printed))
    moments_in = elapses_weaker run.moments (λ s p has. (stops_in s has.0, has.1))

    -- the device failed
    pub does_device : (n k : ℕ) → Does did.operations did old mid n k (Err mach.Device)
    does_device n k = record { answer = tt; state = tt; printed = run.printed; moments = moments_in }

  -- the extension is refused, or memory ran out for it
  pub does_unextended : {T : Type 0} (r : Refusal) (n : ℕ) → Applies {T = T} extending old mid (Err (mach.Refused r)) → Does did.operations did old mid n n (Err (mach.Refused NoRoom))
  does_unextended r n run =
      let is = did_is (Err r) run.answer.0 in record {
        answer = ap (λ (d : Did Place Refusal). d.answer) is;
        state = subst (λ (d : Did Place Refusal). IsBehind d.operations old.state mid.state n n) (sym is) (run.answer.1, omega arith);
        printed = run.printed;
        moments = moments_in run;
      }

  -- it is done, and then comes another put
  module _ {T : Type 0} (x : T) (new : Meaning Shelf) (run : Applies {T = T} extending old mid (Ok x)) (state : new.state ≡ mid.state) (printed : new.printed ≡ mid.printed)
      (moments : Elapses mid new (λ s p. (s ≡ mid.state) × (p ≡ mid.printed))) (writer' later : OpenWriter) (same : writer' ≡ writer) where
    owned_then : room_for mid.state t fills.puts c ≡ Owned
    owned_then = then_owned old.state t c fills.puts wanted_by mid.state run.answer (fills.low c)

    writer_fills : writer' ≡ writing_to t fills.puts
    writer_fills = same ∙ fills.is

    put_then : did_place mid.state writer' c ≡ answered (Ok next)
    put_then =
        ap (λ (w : OpenWriter). did_place mid.state w c) writer_fills
        ∙ put_on_owned mid.state t c fills.puts owned_then
        ∙ ap (λ (p : Place). answered (Ok p)) (same_place old.state t c fills.puts wanted_by mid.state run.answer)

    moments_both : Elapses old new (λ s p. StopsIn old.state (map Do did.operations) s [] × (p ≡ old.printed))
    moments_both = elapses_then (moments_in run) (elapses_weaker moments (λ s p has. (
      stops_in s (inr (run.answer ∙ ap (λ (y : Shelf). Ok y) (sym has.0))),
      has.1 ∙ run.printed,
    )))

    pub does_behind : (n : ℕ) (r : Result Place PutErr) → DidPut mid.state writer' c later r → Does did.operations did old new n (counted n 1) (put_answer r)
    does_behind n (Ok p) put =
        let at : next ≡ p = one_place (ap (λ (d : Did Place Refusal). d.answer) (sym put_then ∙ put.0)) in
        let is : did ≡ extended extending p (Ok mid.state) = did_is (Ok mid.state) run.answer ∙ ap (λ (q : Place). extended extending q (Ok mid.state)) at in record {
          answer = ap (λ (d : Did Place Refusal). d.answer) is;
          state = subst (λ (d : Did Place Refusal). IsBehind d.operations old.state new.state n (counted n 1)) (sym is) (state ∙ sym (ap (behind old.state) run.answer), refl);
          printed = printed ∙ run.printed;
          moments = moments_both;
        }
      where
        one_place : {a b : Place} → ◌≡◌ {A = Result Place Refusal} (Ok a) (Ok b) → a ≡ b
        one_place is = cc
    does_behind n (Err TooLong) put = absurd (let wrong : ◌≡◌ {A = Result Place Refusal} (Ok next) (Err NoRoom) = ap (λ (d : Did Place Refusal). d.answer) (sym put_then ∙ put.0) in cc)
    does_behind n (Err NeedExtent) put =
        absurd (let wrong : Owned ≡ Wanted = sym owned_then ∙ subst (λ (w : OpenWriter). room_for mid.state w.target w.puts c ≡ Wanted) writer_fills put.0 in cc)
    does_behind n (Err Device) put = record { answer = tt; state = tt; printed = printed ∙ run.printed; moments = moments_both }
