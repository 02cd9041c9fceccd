-- Extensions that make room for contents keep a shelf lawful, and where there is room for all of them they stand on owned tracks.
use Rattle.std.proofs.Common.{◌≡◌, ◌≤◌, ◌<◌, nat_lt, ℕ, zero, suc, Bool, true, false, not, List, [], ◌∷◌, ◌++◌, refl, sym, ◌∙◌, ap, subst, append_assoc, arith}
use Rattle.std.proofs.lemmas.Bool.Decides.{nat_tests}
use Rattle.std.proofs.lemmas.List.{append-nil}
use Rattle.std.specs.Prelude.{Option, Some, None, Result, Ok, Err, option_and_then, slice_get, take, if◌then◌else◌}
use Rattle.std.specs.List.{AllByRecursion}
use Rattle.std.specs.Option.{option_map_or}
use Rattle.ckd_image.specs.declared.device.DiskType.{DiskType}
use Rattle.vol_model.specs.declared.contents.Block.{Block}
use Rattle.vol_model.specs.declared.contents.Body.{Body}
use Rattle.vol_model.specs.declared.contents.Body.TheVariants as bodies
use Rattle.vol_model.specs.declared.contents.DataSet.{DataSet}
use Rattle.vol_model.specs.declared.contents.Shelf.{Shelf}
use Rattle.vol_model.specs.declared.contents.Volume.{Volume}
use Rattle.vol_model.specs.declared.refusals.Refusal.{Refusal}
use Rattle.vol_model.specs.declared.requests.Op.{Op}
use Rattle.vol_model.specs.Events.{after_operations, behind}
use Rattle.vol_model.specs.Lawful.{IsLawful, IsLawfulBody, IsLawfulSet, IsLawfulVolume}
use Rattle.vol_model.specs.Places.{Content, fits_a_track, next_block, next_place, placed, tracks_in, with_blocks}
use Rattle.vol_model.specs.Shelf.{set_of, step}
use Rattle.vol_model.specs.Writing.{Making, Room, Owned, Wanted, Never, Target, body_on, device_on, extension, making_by, making_room, place_on, placed_on, room_for, set_on, target_body, tracks_on}
use Rattle.vol_model.proofs.Filling.{made}
use Rattle.vol_model.proofs.Keeping.{KeepsBodies, bodies_kept_none, bodies_kept_then, extension_keeps}
use Rattle.shelf_laws.specs.Ready.{AreOnTracks, IsContent}
use Rattle.shelf_laws.proofs.Amounts.{few_tracks}
use Rattle.shelf_laws.proofs.Extending.{extend_lawful}
use Rattle.shelf_laws.proofs.Lists.{all_joined, all_weaker}
use Rattle.shelf_laws.proofs.Placing.{all_placed, next_track, placed_joined}
use Rattle.shelf_laws.proofs.Roomier.{extension_raises}
use Rattle.shelf_laws.proofs.SetChanges.{found_all}
use Rattle.shelf_laws.proofs.Steps.{each_at}

-- ---- the body of a target

abbrev tracks : Shelf → Target → ℕ
tracks s t = tracks_on s t.v t.dsn.bytes

-- it is lawful on the tracks of its set, of which there are so few
target_lawful : (s : Shelf) (t : Target) → IsLawful s → IsLawfulBody (tracks s t) (target_body s t) × (tracks s t < 65535)
unfolding body_on tracks_on set_on
target_lawful s t h = by_volume (slice_get s.volumes t.v) refl
  where
    by_set : (volume : Volume) → IsLawfulVolume volume → (o : Option DataSet) → set_of t.dsn.bytes volume ≡ o
        → IsLawfulBody (option_map_or (λ (x : DataSet). tracks_in x.extents) o 0) (option_map_or (λ (x : DataSet). x.body) o bodies.Other) × (option_map_or (λ (x : DataSet). tracks_in x.extents) o 0 < 65535)
    by_set volume is None at = (tt, omega arith)
    by_set volume is (Some x) at = ((found_all (IsLawfulSet volume.geometry) t.dsn.bytes volume.sets x is.sets at).0.body, few_tracks t.dsn volume x is at)

    by_volume : (o : Option Volume) → slice_get s.volumes t.v ≡ o
        → IsLawfulBody (option_map_or (λ (x : DataSet). tracks_in x.extents) (option_and_then (set_of t.dsn.bytes) o) 0) (option_map_or (λ (x : DataSet). x.body) (option_and_then (set_of t.dsn.bytes) o) bodies.Other)
        × (option_map_or (λ (x : DataSet). tracks_in x.extents) (option_and_then (set_of t.dsn.bytes) o) 0 < 65535)
    by_volume None at = (tt, omega arith)
    by_volume (Some volume) at = by_set volume (each_at IsLawfulVolume s.volumes t.v volume h.volumes at) (set_of t.dsn.bytes volume) refl

-- the next content stands on an owned track, or on that after them
place_most : (s : Shelf) (t : Target) (before : List Content) (c : Content) → IsLawful s → AllByRecursion IsContent before → AreOnTracks s t before → (place_on s t before c).tt ≤ tracks s t
place_most s t before c h is on =
    let lawful = target_lawful s t h in
    next_track (device_on s t.v) (tracks s t) lawful.1 (with_blocks (target_body s t) (placed_on s t before)) c (all_placed (device_on s t.v) (tracks s t) lawful.1 before (target_body s t) is lawful.0 on)

-- one content more
one_on : (s : Shelf) (t : Target) (before : List Content) (c : Content) → AreOnTracks s t before → (place_on s t before c).tt < tracks s t → AreOnTracks s t (before ++ c ∷ [])
unfolding placed
one_on s t before c on here =
    let body = target_body s t in
    let d = device_on s t.v in
    subst (AllByRecursion (λ (b : Block). b.place.tt < tracks s t)) (sym (placed_joined d before (c ∷ []) body))
    (all_joined (λ (b : Block). b.place.tt < tracks s t) (placed d body before) (next_block d (with_blocks body (placed d body before)) c ∷ []) on (here, tt))

-- ---- extensions of a target

-- A shelf after extensions: it is lawful, bodies are as before, and the target's set has no fewer tracks.
pub record IsExtended (s u : Shelf) (t : Target) : Type 0 where
  pub lawful : IsLawful u
  pub bodies : KeepsBodies s u
  pub more : tracks s t ≤ tracks u t

pub on_more : (s u : Shelf) (t : Target) (cs : List Content) → IsExtended s u t → AreOnTracks s t cs → AreOnTracks u t cs
on_more s u t cs e on =
    let same : placed_on s t cs ≡ placed_on u t cs = ap (λ (d : DiskType). placed d (target_body s t) cs) (sym (e.bodies.devices t.v)) ∙ ap (λ (b : Body). placed (device_on u t.v) b cs) (sym (e.bodies.bodies t.v t.dsn.bytes)) in
    subst (AllByRecursion (λ (b : Block). b.place.tt < tracks u t)) same (all_weaker (λ (b : Block). b.place.tt < tracks s t) (λ (b : Block). b.place.tt < tracks u t) (λ (b : Block) l. let more = e.more in omega (arith, l, more)) (placed_on s t cs) on)

extended_none : (s : Shelf) (t : Target) → IsLawful s → IsExtended s s t
extended_none s t h = record { lawful = h; bodies = bodies_kept_none s; more = omega arith }

extended_then : (s u w : Shelf) (t : Target) → IsExtended s u t → IsExtended u w t → IsExtended s w t
extended_then s u w t a b = let first = a.more in let second = b.more in record { lawful = b.lawful; bodies = bodies_kept_then a.bodies b.bodies; more = omega (arith, first, second) }

extended_once : (s u : Shelf) (t : Target) → IsLawful s → step s (extension t) ≡ Ok u → IsExtended s u t
extended_once s u t h done = let more = extension_raises s u t.v t.dsn done in record { lawful = extend_lawful s u t.v t.dsn h done; bodies = extension_keeps s u t.v t.dsn done; more = omega (arith, more) }

extended_by : (s : Shelf) (t : Target) → IsLawful s → (r : Result Shelf Refusal) → step s (extension t) ≡ r → IsExtended s (behind s r) t
extended_by s t h (Ok u) is = extended_once s u t h is
extended_by s t h (Err r) is = extended_none s t h

same_place : (s u : Shelf) (t : Target) (before : List Content) (c : Content) → IsExtended s u t → place_on u t before c ≡ place_on s t before c
same_place s u t before c e =
    ap (λ (b : Body). next_place (device_on u t.v) (with_blocks b (placed (device_on u t.v) b before)) c) (e.bodies.bodies t.v t.dsn.bytes)
    ∙ ap (λ (d : DiskType). next_place d (with_blocks (target_body s t) (placed d (target_body s t) before)) c) (e.bodies.devices t.v)

-- operations that all extend a target
abbrev pub AllExtend : Target → List Op → Type 0
AllExtend t ops = AllByRecursion (λ op. op ≡ extension t) ops

pub extended_all : (t : Target) (ops : List Op) (s : Shelf) → AllExtend t ops → IsLawful s → IsExtended s (after_operations s ops) t
extended_all t [] s all h = extended_none s t h
extended_all t (op ∷ ops) s all h =
    let u = behind s (step s op) in
    let first : IsExtended s u t = subst (λ (o : Op). IsExtended s (behind s (step s o)) t) (sym all.0) (extended_by s t h (step s (extension t)) refl) in
    extended_then s u (after_operations u ops) t first (extended_all t ops u all.1 first.lawful)

pub take_extend : (t : Target) (k : ℕ) (ops : List Op) → AllExtend t ops → AllExtend t (take k ops)
take_extend t zero ops all = tt
take_extend t (suc k) [] all = tt
take_extend t (suc k) (op ∷ ops) all = (all.0, take_extend t k ops all.1)

-- ---- room that is made

module _ (t : Target) (s : Shelf) (more : Shelf → Making) (all : (u : Shelf) → AllExtend t (more u).extends) where
  all_by : (r : Room) (q : Result Shelf Refusal) → AllExtend t (making_by s (extension t) q more r).extends
  all_by Owned q = all s
  all_by Wanted (Ok u) = (refl, all u)
  all_by Wanted (Err r) = tt
  all_by Never q = tt

pub all_extend : (t : Target) (cs before : List Content) (s : Shelf) → AllExtend t (making_room s t before cs).extends
all_extend t [] before s = tt
all_extend t (c ∷ cs) before s = all_by t s (λ u. making_room u t (before ++ c ∷ []) cs) (λ u. all_extend t cs (before ++ c ∷ []) u) (room_for s t before c) (step s (extension t))

owned_room : (s : Shelf) (t : Target) (before : List Content) (c : Content) → room_for s t before c ≡ Owned → (place_on s t before c).tt < tracks s t
unfolding room_for
owned_room s t before c e = by_tests (fits_a_track (device_on s t.v) c) (nat_lt (place_on s t before c).tt (tracks s t)) refl e
  where
    lower : (a b : ℕ) → nat_lt a b ≡ true → a < b
    lower a b e = grind (arith, nat_tests)

    by_tests : (a b : Bool) → nat_lt (place_on s t before c).tt (tracks s t) ≡ b → (if not a then Never else (if b then Owned else Wanted)) ≡ Owned → (place_on s t before c).tt < tracks s t
    by_tests a true is e = lower (place_on s t before c).tt (tracks s t) is
    by_tests true false is e = cc
    by_tests false false is e = cc

-- where there was room for all, they stand on owned tracks after the extensions
abbrev Rooms : Target → List Content → List Content → Shelf → Making → Type 0
Rooms t before cs s m = m.all ≡ true → AreOnTracks (made s m) t (before ++ cs)

module _ (t : Target) (c : Content) (cs before : List Content) (is : AllByRecursion IsContent before) where
  abbrev next : List Content
  next = before ++ c ∷ []

  abbrev more : Shelf → Making
  more u = making_room u t next cs

  room_by : (s : Shelf) → IsLawful s → AreOnTracks s t before → ((u : Shelf) → IsLawful u → AreOnTracks u t next → Rooms t next cs u (more u)) → (r : Room) → room_for s t before c ≡ r → (q : Result Shelf Refusal) → step s (extension t) ≡ q
      → Rooms t before (c ∷ cs) s (making_by s (extension t) q more r)
  room_by s h on rest Owned room q done all = subst (AreOnTracks (made s (more s)) t) (append_assoc before (c ∷ []) cs) (rest s h (one_on s t before c on (owned_room s t before c room)) all)
  room_by s h on rest Wanted room (Ok u) done all =
      let e = extended_once s u t h done in
      let most = place_most s t before c h is on in
      let raised = extension_raises s u t.v t.dsn done in
      let same : place_on u t before c ≡ place_on s t before c = same_place s u t before c e in
      let track = ap (λ p. p.tt) same in
      let there = one_on u t before c (on_more s u t before e on) (omega (arith, most, raised, track)) in
      let after : made u (more u) ≡ after_operations (behind s (step s (extension t))) (more u).extends = ap (λ (q : Result Shelf Refusal). after_operations (behind s q) (more u).extends) (sym done) in
      subst (λ (w : Shelf). AreOnTracks w t (before ++ c ∷ cs)) after (subst (AreOnTracks (made u (more u)) t) (append_assoc before (c ∷ []) cs) (rest u e.lawful there all))
  room_by s h on rest Wanted room (Err r) done all = cc
  room_by s h on rest Never room q done all = cc

pub room_made_on : (t : Target) (cs before : List Content) (s : Shelf) → AllByRecursion IsContent before → AllByRecursion IsContent cs → IsLawful s → AreOnTracks s t before → Rooms t before cs s (making_room s t before cs)
room_made_on t [] before s is them h on = λ all. subst (AreOnTracks s t) (sym (append-nil before)) on
room_made_on t (c ∷ cs) before s is them h on =
    room_by t c cs before is s h on (λ u g there. room_made_on t cs (before ++ c ∷ []) u (all_joined IsContent before (c ∷ []) is (them.0, tt)) them.1 g there) (room_for s t before c) refl (step s (extension t)) refl
