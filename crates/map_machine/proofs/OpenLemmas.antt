-- What an extension leaves of an open writer, and the last operation of a commit.
use Rattle.std.proofs.Common.{◌≡◌, ⊎_elim, ℕ, Bool, true, false, List, [], ◌∷◌, map, refl, sym, ◌∙◌, ap, subst}
use Rattle.std.specs.Prelude.{Option, Some, None, Result, Ok, Err, is_some, option_and_then, option_map, slice_get, if◌then◌else◌}
use Rattle.vol_model.specs.declared.answers.Mode.{Mode}
use Rattle.vol_model.specs.declared.answers.Mode.TheVariants as modes
use Rattle.vol_model.specs.declared.contents.Block.{Block}
use Rattle.vol_model.specs.declared.contents.Body.{Body}
use Rattle.vol_model.specs.declared.contents.DataSet.{DataSet}
use Rattle.vol_model.specs.declared.contents.Run.{Run}
use Rattle.vol_model.specs.declared.contents.Shelf.{Shelf}
use Rattle.vol_model.specs.declared.contents.Volume.{Volume}
use Rattle.vol_model.specs.declared.refusals.Refusal.{Refusal}
use Rattle.vol_model.specs.Events.{after_operations, behind}
use Rattle.vol_model.specs.Lawful.{IsLawful}
use Rattle.vol_model.specs.Places.{content}
use Rattle.vol_model.specs.Shelf.{has_name, set_of, step, step_on, unless_refused, volume_number, with_extents, with_set, with_volume, with_written, write_on, write_refusal, write_refusal_for}
use Rattle.vol_model.specs.Writing.{OpenWriter, Target, begin_refusal, extension, set_on, so_far, target_body, target_refusal, writes}
use Rattle.vol_model.proofs.Keeping.{extends_set, set_after}
use Rattle.shelf_laws.specs.Ready.{AreOnTracks, IsReady}
use Rattle.shelf_laws.proofs.MakingRoom.{IsExtended, extended_all, on_more}
use Rattle.map_machine.specs.declared.past.Target as past
use Rattle.map_machine.specs.declared.past.Writer.{Writer}
use Rattle.map_machine.specs.Open.{OpenCanCommit, as_open}
use Rattle.map_machine.specs.Rooms.{target_in}
use Rattle.map_machine.proofs.StepLemmas.{steps_found}

-- ---- after an extension

-- a target can be written to by its set
by_set : (s : Shelf) (t : Target) → is_some (begin_refusal s t) ≡ is_some (write_refusal_for t.mode t.dsn.bytes (set_on s t.v t.dsn.bytes))
unfolding begin_refusal set_on write_refusal
by_set s t = by_volume (slice_get s.volumes t.v)
  where
    by_volume : (o : Option Volume) → is_some (target_refusal t o) ≡ is_some (write_refusal_for t.mode t.dsn.bytes (option_and_then (set_of t.dsn.bytes) o))
    by_volume None = refl
    by_volume (Some volume) = refl

module _ (mode : Mode) (name : List ℕ) (runs : List Run) where
  if_extended : (x : DataSet) (b : Bool) → write_refusal_for mode name (Some (if b then with_extents runs x else x)) ≡ write_refusal_for mode name (Some x)
  if_extended x true = refl
  if_extended x false = refl

  in_extended : (o : Option DataSet) → write_refusal_for mode name (option_map (λ (x : DataSet). if has_name name x then with_extents runs x else x) o) ≡ write_refusal_for mode name o
  in_extended None = refl
  in_extended (Some x) = if_extended x (has_name name x)

-- the set is written to as before
target_stays : (s u : Shelf) (t : Target) → step s (extension t) ≡ Ok u → is_some (begin_refusal s t) ≡ false → is_some (begin_refusal u t) ≡ false
target_stays s u t done can =
    let name = t.dsn.bytes in
    let c = extends_set s u t.v t.dsn done in
    let same : write_refusal_for t.mode name (set_on u t.v name) ≡ write_refusal_for t.mode name (set_on s t.v name) =
    ⊎_elim (λ other. ap (write_refusal_for t.mode name) other) (λ at. ap (write_refusal_for t.mode name) at.1 ∙ in_extended t.mode name c.0 (set_on s t.v name))
    (set_after s u t.v name (with_extents c.0) (λ x. refl) c.1 t.v name) in
    by_set u t ∙ ap is_some same ∙ sym (by_set s t) ∙ can

-- what was put has room as before
ready_stays : (s u : Shelf) (w : OpenWriter) → IsLawful s → step s (extension w.target) ≡ Ok u → IsReady s w → IsReady u w
ready_stays s u w h done is =
    let t = w.target in
    let once : IsExtended s (after_operations s (extension t ∷ [])) t = extended_all t (extension t ∷ []) s (refl, tt) h in
    let e : IsExtended s u t = subst (λ (r : Result Shelf Refusal). IsExtended s (behind s r) t) done once in
    record {
      contents = is.contents;
      room = subst (λ (b : Body). AreOnTracks u t (so_far t.mode b w.puts)) (sym (e.bodies.bodies t.v t.dsn.bytes)) (on_more s u t (so_far t.mode (target_body s t) w.puts) e is.room);
    }

-- an extension of its target leaves an open writer such that it can commit
pub open_stays : (s u : Shelf) (o : Option Writer) (target : past.Target) → option_map (λ (w : Writer). w.target) o ≡ Some target → IsLawful s → step s (extension (target_in target)) ≡ Ok u → OpenCanCommit s o → OpenCanCommit u o
open_stays s u None target at h done can = tt
open_stays s u (Some w) target at h done can =
    let same : w.target ≡ target = cc in
    let there : step s (extension (target_in w.target)) ≡ Ok u = subst (λ (t : past.Target). step s (extension (target_in t)) ≡ Ok u) (sym same) done in
    record { ready = ready_stays s u (as_open w) h there can.ready; target = target_stays s u (target_in w.target) there can.target }

-- ---- the last operation

-- it is on the volume of the target
writes_number : (t : Target) (blocks : List Block) → volume_number (writes t blocks) ≡ t.v
writes_number t blocks = by_mode t.mode
  where
    by_mode : (mode : Mode) → volume_number (writes (record { v = t.v; dsn = t.dsn; mode = mode }) blocks) ≡ t.v
    by_mode modes.Fill = refl
    by_mode modes.Area = refl

-- on a volume it is the writing of contents
writes_on : (t : Target) (blocks : List Block) (volume : Volume) → step_on (writes t blocks) volume ≡ write_on t.mode t.dsn (map content blocks) volume
unfolding step_on
writes_on t blocks volume = by_mode t.mode
  where
    by_mode : (mode : Mode) → step_on (writes (record { v = t.v; dsn = t.dsn; mode = mode }) blocks) volume ≡ write_on mode t.dsn (map content blocks) volume
    by_mode modes.Fill = refl
    by_mode modes.Area = refl

-- it isn't refused on a target that can be written to
pub writes_done : (s : Shelf) (t : Target) (blocks : List Block) (r : Refusal) → is_some (begin_refusal s t) ≡ false → step s (writes t blocks) ≡ Err r → ⊥
unfolding begin_refusal write_on
writes_done s t blocks r can refused = by_volume (slice_get s.volumes t.v) refl can
  where
    by_refusal : (volume : Volume) → slice_get s.volumes t.v ≡ Some volume → (o : Option Refusal) → write_refusal t.mode t.dsn volume ≡ o → is_some o ≡ false → ⊥
    by_refusal volume at None is can =
        let op = writes t blocks in
        let new = with_set volume t.dsn.bytes (with_written volume.geometry.device t.mode (map content blocks)) in
        let on : Ok new ≡ step_on op volume = sym (writes_on t blocks volume ∙ ap (λ (o : Option Refusal). unless_refused o new) is) in
        let done : step s op ≡ with_volume s (volume_number op) (Ok new) = steps_found s op volume (Ok new) (ap (slice_get s.volumes) (writes_number t blocks) ∙ at) on in
        let wrong = sym done ∙ refused in
        absurd (cc wrong)
    by_refusal volume at (Some why) is can = cc

    by_volume : (o : Option Volume) → slice_get s.volumes t.v ≡ o → is_some (target_refusal t o) ≡ false → ⊥
    by_volume None at can = cc
    by_volume (Some volume) at can = by_refusal volume at (write_refusal t.mode t.dsn volume) refl can
