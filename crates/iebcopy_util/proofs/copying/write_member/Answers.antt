use Rattle.std.proofs.Common.{◌≡◌, List, ◌++◌, map, sym, ◌∙◌, ap, Ok, Err}
use Rattle.std.specs.Prelude.{Option, Result, slice_get, unwrap_or}
use Rattle.vol_model.specs.declared.answers.Mode.TheVariants as modes
use Rattle.vol_model.specs.declared.contents.Place.{Place}
use Rattle.vol_model.specs.declared.contents.Shelf.{Shelf}
use Rattle.vol_model.specs.Places.{content, last_place}
use Rattle.vol_model.specs.Shelf.{blocks_of}
use Rattle.vol_model.specs.Writing.{begun, body_on}
use Rattle.vol_model.proofs.Working.{done_state, has_done}
use Rattle.util_steps.specs.declared.calls.Fault.{Fault}
use Rattle.util_steps.specs.Copying.{source, target}
use Rattle.util_steps.proofs.Taking.{ready_after}
use Rattle.iebcopy_util.specs.Copying.{finished, first_or}
use Rattle.iebcopy_util.specs.Steps.{blocks_at, put_places}
use Rattle.iebcopy_util.proofs.FoundLemmas.{blocks_stand}
use Rattle.iebcopy_util.proofs.WholeLemmas.{whole_none, whole_read, whole_roomy, whole_unread}
use Rattle.iebcopy_util.proofs.WritingLemmas.{made_is, output_read, written_ends, written_stops, written_then}
use Rattle.iebcopy_util.proofs.copying.write_member.Goals as goal

-- where the copy begins
started : (start last : Place) (first : Option Place) (to : List Place) → (let r : Result Place Fault = Ok start in r) ≡ Ok (unwrap_or first last) → first ≡ slice_get to 0 → start ≡ first_or last to
started start last first to is same = let here : start ≡ unwrap_or first last = cc in here ∙ ap (λ (o : Option Place). unwrap_or o last) same

not_refused : (f : Fault) (p : Place) → (let r : Result Place Fault = Err f in r) ≡ Ok p → ⊥
not_refused f p is = cc

pub returns-in_err-write_area : goal.returns-in_err-write_area
returns-in_err-write_area g c =
    let blocks : Shelf → List _ = λ (s : Shelf). blocks_at (source s c.args.task.now.source.set) c.args.from.items in
    written_stops g.M.Machine c.args.out.now c.args.task.now blocks c.from_residual.result c.from_residual.ensures
    (rw c.in_err-write_area.was at (whole_roomy g.M.Machine (rw c.deref.ensures.value at c.write_area.ensures.takes) c.write_area.ensures.memory))

pub returns-in-Err : goal.returns-in-Err
returns-in-Err g c =
    rw c.outcome_for.ensures (written_ends g.M.Machine c.args.out.now c.args.task.now (λ (s : Shelf). blocks_at (source s c.args.task.now.source.set) c.args.from.items) c.in-Err.fault (rw (c.in-Err.is, c.deref.ensures.value) at c.in_ok-write_area.ensures.takes))

pub returns-in_err-start : goal.returns-in_err-start
returns-in_err-start g c =
    let takes = rw (c.in-Ok.is, c.deref.ensures.value) at c.in_ok-write_area.ensures.takes in
    written_then g.M.Machine c.args.out.now c.args.task.now (λ (s : Shelf). blocks_at (source s c.args.task.now.source.set) c.args.from.items) c.in-Ok.field-0 takes
    (whole_unread g.M.Machine (λ told. g.met.M.Machine.durable c.write_area.new.machine told takes.faults.sound) _ c.from_residual-in_err-start.result c.from_residual-in_err-start.ensures (rw c.in_err-start.was at c.start_of.ensures.start))

pub returns-in-Err-2 : goal.returns-in-Err-2
returns-in-Err-2 g c =
    let bs : Shelf → List _ = λ (s : Shelf). blocks_at (source s c.args.task.now.source.set) c.args.from.items in
    let takes = rw (c.in-Ok.is, c.deref.ensures.value) at c.in_ok-write_area.ensures.takes in
    let start = rw c.in-Err-2.is at c.in_ok-start.ensures.start in
    written_then g.M.Machine c.args.out.now c.args.task.now bs c.in-Ok.field-0 takes
    (whole_read g.M.Machine (λ told. g.met.M.Machine.durable c.write_area.new.machine told takes.faults.sound) start
    (λ told value. absurd (not_refused c.in-Err-2.fault _ (value _ (output_read _ _ c.args.out.now (bs (g.M.Machine.meaning c.args.machine.now).state) c.in-Ok.field-0 (c.requires.output told) (takes.works told).answer (done_state (has_done (takes.works told)))))))
    (whole_none g.M.Machine (Err c.outcome_for-in-Err-2.result) (ready_after g.M.Machine start.faults)))

pub returns : goal.returns
returns g c =
    let out = c.args.out.now in
    let t = c.args.task.now in
    let s0 = (g.M.Machine.meaning c.args.machine.now).state in
    let s1 = (g.M.Machine.meaning c.write_area.new.machine).state in
    let blocks : Shelf → List _ = λ (s : Shelf). blocks_at (source s t.source.set) c.args.from.items in
    let bs = blocks s0 in
    let takes = rw (c.in-Ok.is, c.deref.ensures.value) at c.in_ok-write_area.ensures.takes in
    written_then g.M.Machine out t blocks c.in-Ok.field-0 takes
    (whole_read g.M.Machine (λ told. g.met.M.Machine.durable c.write_area.new.machine told takes.faults.sound) (rw c.in-Ok-2.is at c.in_ok-start.ensures.start)
    (λ told value.
    let read = output_read s0 s1 out bs c.in-Ok.field-0 (c.requires.output told) (takes.works told).answer (done_state (has_done (takes.works told))) in
    let ps = put_places s0 (begun (target out modes.Area)) (map content bs) in
    let stands = rw (c.in-Ok.is, c.deref.ensures.value) at (c.in_ok-write_area.ensures.to told) in
    let to_is : c.from_vec-2.result ≡ ps = c.from_vec-2.ensures ∙ stands ∙ ap (λ (l : List Place). l ++ ps) c.requires.none in
    let first : c.copied.result ≡ slice_get c.deref-2.result.now 0 = cc (c.copied.ensures, c.first.ensures.value) in
    let start_is = started c.in-Ok-2.start (last_place (record { tt = 0; r = 0 }) (blocks_of (body_on s1 out.v out.dsn.bytes))) c.copied.result c.from_vec-2.result (value _ read) (first ∙ ap (λ (l : List Place). slice_get l 0) (c.deref-2.ensures.value ∙ sym c.from_vec-2.ensures)) in
    ap (finished s1 out t) (sym (made_is s0 s1 out t bs c.from_vec.result c.from_vec-2.result c.in-Ok-2.start (c.from_vec.ensures ∙ blocks_stand (c.requires.found told)) to_is start_is)))
    c.finish.ensures)
