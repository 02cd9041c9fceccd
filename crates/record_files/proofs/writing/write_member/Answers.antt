use Rattle.std.proofs.Common.{◌≡◌, Ok, Err, arith, rules}
use Rattle.std.specs.Prelude.{Result}
use Rattle.vol_model.specs.declared.contents.Place.{Place}
use Rattle.util_steps.specs.declared.calls.Fault.{Fault}
use Rattle.vol_model.specs.Shelf.{blocks_of}
use Rattle.vol_model.specs.Writing.{body_on}
use Rattle.vol_model.proofs.Working.{works_kept}
use Rattle.record_files.specs.Advancing.{forgetting}
use Rattle.record_files.specs.Writing.{packed}
use Rattle.record_files.proofs.AreaLemmas.{library_read}
use Rattle.record_files.proofs.PlaceLemmas.{start_is}
use Rattle.record_files.proofs.WrittenLemmas.{forgets_failed, stops_as, works_unread}
use Rattle.record_files.proofs.writing.write_member.Goals as goal

place_of : (p q : Place) → (let r : Result Place Fault = Ok p in r) ≡ Ok q → p ≡ q
place_of p q is = cc

not_refused : (r : Fault) (q : Place) → (let x : Result Place Fault = Err r in x) ≡ Ok q → ⊥
not_refused r q is = cc

pub returns-in_err-first-clause-takes : goal.returns-in_err-first-clause-takes
returns-in_err-first-clause-takes g c = record {
  works = λ told bs there.
      stops_as (forgetting c.write_records.result) (forgetting c.from_residual-in_err-first.result) (forgets_failed c.from_residual-in_err-first.result c.from_residual-in_err-first.ensures.0) (c.write_records.ensures.takes.works told);
  later = λ told. (c.write_records.ensures.takes.works told).runs.moments.later;
  promise = search rules;
  faults = search rules;
}

pub returns-in-Err-clause-takes : goal.returns-in-Err-clause-takes
returns-in-Err-clause-takes g c = record {
  works = λ told bs there. rw c.in-Err.is at (c.in_ok-first.ensures.takes.works told);
  later = λ told. (c.write_records.ensures.takes.works told).runs.moments.later;
  promise = search rules;
  faults = search rules;
}

pub returns-in_err-place-clause-takes : goal.returns-in_err-place-clause-takes
returns-in_err-place-clause-takes g c = record {
  works = λ told bs there.
      let works = rw c.in-Ok.is at (c.in_ok-first.ensures.takes.works told) in
      let durable = g.met.M.Machine.durable c.write_records.new.machine told (rw c.in-Ok.is at c.in_ok-first.ensures.takes).faults.sound in
      works_unread (forgetting c.from_residual-in_err-place.result) (forgets_failed c.from_residual-in_err-place.result c.from_residual-in_err-place.ensures.0) works (c.start_of.ensures.start.same told) durable;
  later = λ told. let one = (c.write_records.ensures.takes.works told).runs.moments.later in let two = (c.start_of.ensures.start.same told).time.later in omega (arith, one, two);
  promise = search rules;
  faults = search rules;
}

pub returns-in-Ok-2-clause-takes : goal.returns-in-Ok-2-clause-takes
returns-in-Ok-2-clause-takes g c = record {
  works = λ told bs there.
      let works = rw c.in-Ok.is at (c.in_ok-first.ensures.takes.works told) in
      let durable = g.met.M.Machine.durable c.write_records.new.machine told (rw c.in-Ok.is at c.in_ok-first.ensures.takes).faults.sound in
      works_kept (Ok tt) works (c.start_of.ensures.start.same told) durable c.start_of.ensures.start.count;
  later = λ told. let one = (c.write_records.ensures.takes.works told).runs.moments.later in let two = (c.start_of.ensures.start.same told).time.later in omega (arith, one, two);
  promise = search rules;
  faults = search rules;
}

pub returns-in-Ok-2-clause-start : goal.returns-in-Ok-2-clause-start
returns-in-Ok-2-clause-start g c told bs there =
    let m = g.M.Machine.meaning in
    let to = c.args.to.now in
    let blocks = packed c.args.format (g.R.RecordSource.stream c.args.records.now (m c.args.machine.now).state) in
    let works = rw c.in-Ok.is at (c.in_ok-first.ensures.takes.works told) in
    let first = rw c.in-Ok.is at (c.in_ok-first.ensures.start told) in
    let after = (m c.write_records.new.machine).state in
    let read = library_read to blocks tt works bs there in
    let start = place_of c.in-Ok-2.place _ (rw c.in-Ok-2.is at (c.in_ok-place.ensures.start.value told (blocks_of (body_on after to.v to.dsn.bytes)) read)) in
    rw (c.start_of.ensures.start.same told).state (start_is (m c.args.machine.now).state after to blocks.blocks c.in-Ok.first c.in-Ok-2.place first start)

pub returns-clause-takes : goal.returns-clause-takes
returns-clause-takes g c = record {
  works = λ told bs there.
      let m = g.M.Machine.meaning in
      let to = c.args.to.now in
      let blocks = packed c.args.format (g.R.RecordSource.stream c.args.records.now (m c.args.machine.now).state) in
      let works = rw c.in-Ok.is at (c.in_ok-first.ensures.takes.works told) in
      let after = (m c.write_records.new.machine).state in
      let read = library_read to blocks tt works bs there in
      absurd (not_refused c.in-Err-2.fault _ (rw c.in-Err-2.is at (c.in_ok-place.ensures.start.value told (blocks_of (body_on after to.v to.dsn.bytes)) read)));
  later = λ told. let one = (c.write_records.ensures.takes.works told).runs.moments.later in let two = (c.start_of.ensures.start.same told).time.later in omega (arith, one, two);
  promise = search rules;
  faults = search rules;
}
