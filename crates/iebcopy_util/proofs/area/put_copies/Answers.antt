use Rattle.std.proofs.Common.{◌≡◌, ◌<◌, List, [], ◌∷◌, ◌++◌, ap, length, vec_capacity, vec_len, arith, rules}
use Rattle.std.specs.Prelude.{Result, Ok, Err, IsOk, is_ok, if◌then◌else◌}
use Rattle.vol_model.specs.declared.contents.Place.{Place}
use Rattle.record_files.proofs.CallLemmas.{puts_none, puts_then}
use Rattle.iebcopy_util.proofs.AreaLemmas.{no_places, put_fault, put_further, put_stops, puts_begin, puts_copies, puts_done, puts_next, puts_there, puts_writer}
use Rattle.iebcopy_util.proofs.FoundLemmas.{blocks_found, blocks_stand}
use Rattle.iebcopy_util.proofs.area.put_copies.Goals as goal

-- a place that is pushed where there is room
pushed : {T E : Type 0} (r : Result T E) (old more new : List Place) → IsOk r → new ≡ (if is_ok r then more else old) → new ≡ more
pushed (Ok x) old more new done is = is
pushed (Err e) old more new done is = let never : ⊥ = cc in absurd never

pub loop-parts-init : goal.loop-parts-init
loop-parts-init g c =
    record {
      room = c.requires.room;
      so_far = λ told has. puts_begin g.M.Machine.tells_prints c.args.from.now has.all _ c.args.at.now (g.M.Machine.writer c.args.machine.now) c.args.to.now.items (g.M.Machine.meaning c.args.machine.now) (g.M.Machine.status c.args.machine.now).done (blocks_stand has) (blocks_found has);
      call = puts_none g.M.Machine tt c.requires.writing;
    }

pub returns-in-None-clause-works : goal.returns-in-None-clause-works
returns-in-None-clause-works g c told = puts_done c.loop-parts.rest.now (no_places c.loop-parts.rest.now c.in-None.ensures.cases) (c.loop-parts.invariant.so_far told (c.requires.found told))

pub returns-in-None-clause-writer : goal.returns-in-None-clause-writer
returns-in-None-clause-writer g c told = puts_writer c.loop-parts.rest.now (no_places c.loop-parts.rest.now c.in-None.ensures.cases) (c.loop-parts.invariant.so_far told (c.requires.found told))

pub returns-in-None-clause-to : goal.returns-in-None-clause-to
returns-in-None-clause-to g c told = puts_copies c.loop-parts.rest.now (no_places c.loop-parts.rest.now c.in-None.ensures.cases) (c.loop-parts.invariant.so_far told (c.requires.found told))

pub returns-in_err-place-clause-works : goal.returns-in_err-place-clause-works
returns-in_err-place-clause-works g c told =
    let so = c.loop-parts.invariant.so_far told (c.requires.found told) in
    let next = puts_next c.in-Some.parts.0.now c.in-Some.parts.1.now c.loop-parts.rest.now c.in-Some.ensures.cases.0 so in
    put_stops next c.put_at.result c.from_residual.result c.from_residual.ensures.0 (c.put_at.ensures.works told (c.requires.found told).all next.here.0 next.block (puts_there so (c.requires.found told).read) next.here.1)

pub returns-in-Err-clause-works : goal.returns-in-Err-clause-works
returns-in-Err-clause-works g c told =
    let so = c.loop-parts.invariant.so_far told (c.requires.found told) in
    let next = puts_next c.in-Some.parts.0.now c.in-Some.parts.1.now c.loop-parts.rest.now c.in-Some.ensures.cases.0 so in
    put_fault next c.in-Err.fault (rw c.in-Err.is at (c.in_ok-place.ensures.works told (c.requires.found told).all next.here.0 next.block (puts_there so (c.requires.found told).read) next.here.1))

pub loop-parts-preserved : goal.loop-parts-preserved
loop-parts-preserved g c =
    let inv = c.loop-parts.invariant in
    let room : vec_len c.loop-parts.to < vec_capacity c.loop-parts.to = omega (arith, inv.room, ap length c.in-Some.ensures.cases.0) in
    record {
      room = search (rules, arith);
      so_far = λ told has.
          let so = inv.so_far told has in
          let next = puts_next c.in-Some.parts.0.now c.in-Some.parts.1.now c.loop-parts.rest.now c.in-Some.ensures.cases.0 so in
          put_further next (g.M.Machine.writer c.put_at.new.machine) c.in-Ok.place c.push.new.self.items
          (rw c.in-Ok.is at (c.in_ok-place.ensures.works told has.all next.here.0 next.block (puts_there so has.read) next.here.1)) (rw c.in-Ok.is at (c.in_ok-place.ensures.writer told has.all next.here.0 next.block (puts_there so has.read) next.here.1)) (pushed c.push.result c.loop-parts.to.items (c.loop-parts.to.items ++ c.in-Ok.place ∷ []) c.push.new.self.items (c.push.ensures.succeeds room) c.push.ensures.items);
      call = puts_then g.M.Machine tt inv.call (rw (c.in_ok-place.was, c.in-Ok.is) at c.put_at.ensures.call);
    }
