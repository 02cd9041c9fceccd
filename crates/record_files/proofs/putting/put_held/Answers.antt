use Rattle.std.proofs.Common.{◌≡◌, true, false, refl, rules}
use Rattle.record_files.specs.Writing.{data_block}
use Rattle.record_files.proofs.HeldLemmas.{held_fault, held_none, held_put, held_stops}
use Rattle.record_files.proofs.PutLemmas.{stopped_advances}
use Rattle.record_files.proofs.putting.put_held.Goals as goal

pub returns-then-not-holds-clause-advances : goal.returns-then-not-holds-clause-advances
returns-then-not-holds-clause-advances g c told more broken last =
    let none : c.args.holds ≡ false = search rules in
    record { step = held_none c.args.holds c.args.held.now more broken (g.M.Machine.writer c.args.machine.now) c.args.start.now none }

pub returns-in_err-place-clause-advances : goal.returns-in_err-place-clause-advances
returns-in_err-place-clause-advances g c told more broken last =
    let holds : c.args.holds ≡ true = search rules in
    stopped_advances c.from_residual.result c.from_residual.ensures.0
    (held_stops c.args.holds c.args.held.now more broken (g.M.Machine.writer c.args.machine.now) last holds c.put_bytes.result c.from_residual.result c.from_residual.ensures.0 (c.put_bytes.ensures.works told (data_block c.args.held.now) refl refl))

pub returns-in-Ok-clause-advances : goal.returns-in-Ok-clause-advances
returns-in-Ok-clause-advances g c told more broken last =
    let holds : c.args.holds ≡ true = search rules in
    let b = data_block c.args.held.now in
    rw c.earlier.ensures (record {
      step = held_put c.args.holds c.args.held.now more broken (g.M.Machine.writer c.args.machine.now) last holds (g.M.Machine.writer c.put_bytes.new.machine) c.in-Ok.place c.args.start.now
          (rw c.in-Ok.is at (c.in_ok-place.ensures.works told b refl refl)) (rw c.in-Ok.is at (c.in_ok-place.ensures.writer told b refl refl));
    })

pub returns-in-Err-clause-advances : goal.returns-in-Err-clause-advances
returns-in-Err-clause-advances g c told more broken last =
    let holds : c.args.holds ≡ true = search rules in
    record { step = held_fault c.args.holds c.args.held.now more broken (g.M.Machine.writer c.args.machine.now) last holds c.in-Err.fault (rw c.in-Err.is at (c.in_ok-place.ensures.works told (data_block c.args.held.now) refl refl)) }
