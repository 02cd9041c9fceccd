-- A member is written to the output as a whole, and entered.
use Rattle.std.proofs.Common.{◌≡◌, false, List, map, refl, sym, ◌∙◌, ap, subst}
use Rattle.std.specs.Prelude.{Option, Result, Ok, Err, IsErr, IsErrAnd}
use Rattle.vol_model.specs.declared.answers.Mode.TheVariants as modes
use Rattle.vol_model.specs.declared.answers.Stop.{Stop}
use Rattle.vol_model.specs.declared.contents.Block.{Block}
use Rattle.vol_model.specs.declared.contents.Place.{Place}
use Rattle.vol_model.specs.declared.contents.Shelf.{Shelf}
use Rattle.vol_model.specs.Did.{Did, with_reason}
use Rattle.vol_model.specs.Events.{after_operations}
use Rattle.vol_model.specs.Places.{content, last_place}
use Rattle.vol_model.specs.Shelf.{blocks_of}
use Rattle.vol_model.specs.Writing.{begun, blocks_for, body_on}
use Rattle.vol_model.specs.declared.machine.Machine.{Ghosts}
use Rattle.util_steps.specs.declared.calls.Fault.{Fault}
use Rattle.util_steps.specs.declared.calls.SetRef.{SetRef}
use Rattle.util_steps.specs.Copying.{filled, target}
use Rattle.util_steps.specs.Taking.{Takes}
use Rattle.util_steps.proofs.Taking.{takes_because, takes_because_stops}
use Rattle.util_syntax.specs.declared.listing.Outcome.{Outcome}
use Rattle.iebcopy_util.specs.declared.copying.Copy.{Copy}
use Rattle.iebcopy_util.specs.declared.tasks.MemberCopy.{MemberCopy}
use Rattle.util_program.specs.Outcomes.{outcome_for}
use Rattle.iebcopy_util.specs.Copying.{copy_made, finished, first_or, places, written}
use Rattle.iebcopy_util.specs.Steps.{IsRead, TakesWhole, put_places}
use Rattle.record_files.specs.Writing.{appended, written as written_to}
use Rattle.record_files.proofs.AreaLemmas.{appended_readable}
use Rattle.record_files.proofs.KeepLemmas.{IsReadable}
use Rattle.iebcopy_util.proofs.PlaceLemmas.{put_places_are}
use Rattle.iebcopy_util.proofs.WholeLemmas.{filled_closed, memory_of, whole_as, whole_ends, whole_stops, whole_then}

-- ---- the output after an area

filled_readable : (s : Shelf) (out : SetRef) (bs : List Block) (x : Unit {0}) → IsReadable (body_on s out.v out.dsn.bytes) → Ok x ≡ (filled s out modes.Area bs).answer → IsReadable (body_on (after_operations s (filled s out modes.Area bs).operations) out.v out.dsn.bytes)
unfolding filled appended written_to
filled_readable s out bs x is done = appended_readable s out (record { blocks = bs; broken = false }) x is done

-- ---- the copy that is made

pub made_is : (before after : Shelf) (out : SetRef) (t : MemberCopy) (bs : List Block) (from to : List Place) (start : Place) → from ≡ places bs → to ≡ put_places before (begun (target out modes.Area)) (map content bs)
    → start ≡ first_or (last_place (record { tt = 0; r = 0 }) (blocks_of (body_on after out.v out.dsn.bytes))) to → (let c : Copy = record { input = t.source.number; at = t.entry.place; from = from; start = start; to = to } in c) ≡ copy_made before after out t bs
unfolding copy_made
made_is before after out t bs from to start from_is to_is start_is =
    let last = last_place (record { tt = 0; r = 0 }) (blocks_of (body_on after out.v out.dsn.bytes)) in
    let to_so : to ≡ places (blocks_for before (target out modes.Area) (map content bs)) = to_is ∙ put_places_are before (target out modes.Area) (map content bs) in
    ap (λ (l : List Place). record { input = t.source.number; at = t.entry.place; from = l; start = start; to = to }) from_is
    ∙ ap (λ (p : Place). record { input = t.source.number; at = t.entry.place; from = places bs; start = p; to = to }) start_is
    ∙ ap (λ (l : List Place). record { input = t.source.number; at = t.entry.place; from = places bs; start = first_or last l; to = l }) to_so

-- ---- written and entered

-- a library to which blocks were added can be read
pub output_read : (s u : Shelf) (out : SetRef) (bs : List Block) (x : Unit {0}) → IsRead s out → Ok x ≡ (filled s out modes.Area bs).answer → u ≡ after_operations s (filled s out modes.Area bs).operations → IsRead u out
output_read s u out bs x is done at = subst (λ (v : Shelf). IsRead v out) (sym at) (filled_readable s out bs x is done)

module _ {X : Type 0} (g : Ghosts X) (out : SetRef) (t : MemberCopy) (blocks : Shelf → List Block) where
  -- the writing of the blocks, and the entry after it
  abbrev area : Shelf → Did (Unit {0}) Fault
  area s = filled s out modes.Area (blocks s)

  abbrev entering : Shelf → Unit {0} → Shelf → Did (Option Copy) Outcome
  entering s x u = finished u out t (copy_made s u out t (blocks s))

  pub written_stops : {old new : X} {e : Stop} (q : Result (Result (Option Copy) Outcome) Stop) → IsErr q × IsErrAnd q (λ f. f ≡ e) → TakesWhole g area old new (Err e) → TakesWhole g (λ s. written s out t (blocks s)) old new q
  unfolding written with_reason
  written_stops {old = old} {e = e} q same one =
      whole_as g (λ told. refl) (whole_stops g (λ s. with_reason outcome_for (area s)) (entering (g.meaning old).state) q same (record { takes = takes_because_stops g outcome_for area (Err e) (refl, refl) one.takes; whole = λ told roomy failed. one.whole told roomy (memory_of (Err e) refl failed) }))

  pub written_ends : {old new : X} (e : Fault) → Takes g area old new (Ok (Err e)) → TakesWhole g (λ s. written s out t (blocks s)) old new (Ok (Err (outcome_for e)))
  unfolding written
  written_ends {old = old} e one = whole_as g (λ told. refl) (whole_ends g (λ s. with_reason outcome_for (area s)) (entering (g.meaning old).state) (takes_because g outcome_for area (Err e) one))

  -- the blocks are written, and the entry follows
  pub written_then : {old mid new : X} (x : Unit {0}) {r : Result (Result (Option Copy) Outcome) Stop} → Takes g area old mid (Ok (Ok x)) → TakesWhole g (entering (g.meaning old).state x) mid new r → TakesWhole g (λ s. written s out t (blocks s)) old new r
  unfolding written with_reason
  written_then {old = old} x one two =
      whole_as g (λ told. refl)
      (whole_then g (λ s. with_reason outcome_for (area s)) (entering (g.meaning old).state) (λ told. filled_closed (g.meaning old).state out (blocks (g.meaning old).state) x (one.works told).answer) (takes_because g outcome_for area (Ok x) one) two)
