use Rattle.std.proofs.Common.{◌≡◌, ◌+◌, ◌<◌, ◌≤◌, List, Option, sym, ap, ◌∙◌, subst, arith}
use Rattle.std.specs.Prelude.{Err, Ok, IfSome}
use Rattle.std.proofs.lemmas.Result.{err_from_is_err_and}
use Rattle.hall_core.specs.Facts.{Attached}
use Rattle.hall_core.specs.Images.{image_in}
use Rattle.pack_spec.specs.Blocks.{blocks_at}
use Rattle.stop_model.proofs.MomentLemmas.{same_none}
use Rattle.vol_model.specs.declared.contents.Place.{Place}
use Rattle.vtoc_index.specs.Index.{IsOfUnit}
use Rattle.seq_access.specs.Bodies.{data_in, owned_in}
use Rattle.seq_access.specs.Reading.{FindsOn}
use Rattle.seq_access.proofs.DeviceCalls.{all_done, device_done, device_fails, no_fault}
use Rattle.seq_access.proofs.Seeking.{blocks_now, finds_nothing, held_at, seek_end, seek_found, seek_held, seek_more, seek_onward, seek_same, seeks_first, set_at}
use Rattle.seq_access.proofs.reading.seek.Goals as goal

pub returns-then-has_no_block-clause-found : goal.returns-then-has_no_block-clause-found
returns-then-has_no_block-clause-found g c told =
    finds_nothing (image_in (g.H.Hall.meaning c.args.hall.now) (g.H.Hall.facts c.args.hall.now) c.args.vol.now.unit) c.args.vol.now c.args.set.now c.args.from c.args.buf.now.records (sym c.if-has_no_block.ensures)

pub loop-k-init : goal.loop-k-init
loop-k-init g c =
    seeks_first g.H.Hall.tells (g.H.Hall.facts c.args.hall.now) (g.H.Hall.meaning c.args.hall.now) c.args.vol.now c.args.set.now c.args.from c.args.buf.now _ (λ told. same_none _ (g.met.H.Hall.counts_now c.args.hall.now)) c.requires.held c.requires.buffer c.first_record-r.ensures

pub seek_on-requires-clause-unit : goal.seek_on-requires-clause-unit
seek_on-requires-clause-unit g c = subst (λ (us : List Attached). IsOfUnit us c.args.vol.now) (sym c.loop-k.invariant.facts.units) c.requires.unit

pub seek_on-requires-clause-buffer : goal.seek_on-requires-clause-buffer
seek_on-requires-clause-buffer g c = c.loop-k.invariant.geometry

pub seek_on-requires-clause-number : goal.seek_on-requires-clause-number
seek_on-requires-clause-number g c = c.loop-k.invariant.number

pub seek_on-requires-clause-set : goal.seek_on-requires-clause-set
seek_on-requires-clause-set g c told = set_at g.H.Hall.tells _ _ _ _ c.args.vol.now c.args.set.now c.args.from c.loop-k.buf c.loop-k.k c.loop-k.r c.loop-k.invariant told (c.requires.set told)

pub seek_on-requires-clause-blocks : goal.seek_on-requires-clause-blocks
seek_on-requires-clause-blocks g c told =
    let low : c.loop-k.k ≤ c.last_of-last.result.tt = omega (arith, c.loop-k-test.true) in
    blocks_now g.H.Hall.tells _ _ _ _ c.args.vol.now c.args.set.now c.args.from c.loop-k.buf c.loop-k.k c.loop-k.r c.loop-k.invariant c.last_of-last.result c.last_of-last.ensures (sym c.if-has_no_block.ensures) low told (c.requires.readable told)

pub seek_on-requires-clause-held : goal.seek_on-requires-clause-held
seek_on-requires-clause-held g c told = held_at g.H.Hall.tells _ _ _ _ c.args.vol.now c.args.set.now c.args.from c.loop-k.buf c.loop-k.k c.loop-k.r c.loop-k.invariant told

pub returns-in_err-place-clause-held : goal.returns-in_err-place-clause-held
returns-in_err-place-clause-held g c told = seek_held g.H.Hall.tells _ _ _ _ c.args.vol.now c.args.set.now c.args.from c.loop-k.buf c.loop-k.k c.loop-k.r c.loop-k.invariant (g.H.Hall.facts c.seek_on.new.hall) (g.H.Hall.meaning c.seek_on.new.hall) c.seek_on.new.buf c.in_err-place.ensures.held told

pub returns-in_err-place-clause-same : goal.returns-in_err-place-clause-same
returns-in_err-place-clause-same g c told = seek_same g.H.Hall.tells _ _ _ _ c.args.vol.now c.args.set.now c.args.from c.loop-k.buf c.loop-k.k c.loop-k.r c.loop-k.invariant (g.H.Hall.facts c.seek_on.new.hall) (g.H.Hall.meaning c.seek_on.new.hall) c.seek_on.new.buf c.in_err-place.ensures.same told

pub returns-in_err-place-clause-faults : goal.returns-in_err-place-clause-faults
returns-in_err-place-clause-faults g c =
    let p = err_from_is_err_and c.from_residual.result c.from_residual.ensures.1 in
    device_fails _ _ _ c.loop-k.invariant.facts c.from_residual.result c.in_err-place.ensures.faults (p.1 ∙ ap Err p.2)

pub returns-in-Some-clause-found : goal.returns-in-Some-clause-found
returns-in-Some-clause-found g c told =
    let low : c.loop-k.k ≤ c.last_of-last.result.tt = omega (arith, c.loop-k-test.true) in
    let here : Place = record { tt = c.loop-k.k; r = c.loop-k.r } in
    let now = image_in (g.H.Hall.meaning c.loop-k.hall) (g.H.Hall.facts c.loop-k.hall) c.args.vol.now.unit in
    let P : Option Place → Type 0 = λ o. IfSome o (λ p. p ≡ here) in
    let Q : Option Place → Type 0 = λ o. FindsOn (Ok o) (blocks_at c.args.vol.now.geometry (data_in now c.args.vol.now) (owned_in now c.args.vol.now c.args.set.now) c.last_of-last.result c.loop-k.k) here c.seek_on.new.buf.records in
    seek_found g.H.Hall.tells _ _ _ _ c.args.vol.now c.args.set.now c.args.from c.loop-k.buf c.loop-k.k c.loop-k.r c.loop-k.invariant (g.H.Hall.facts c.seek_on.new.hall) (g.H.Hall.meaning c.seek_on.new.hall) c.seek_on.new.buf c.last_of-last.result c.in-Some.place c.last_of-last.ensures (subst P c.in-Some.is c.in_ok-place.ensures.place) (sym c.if-has_no_block.ensures) low told (c.requires.readable told) (subst Q c.in-Some.is (c.in_ok-place.ensures.found told))

pub returns-in-Some-clause-onward : goal.returns-in-Some-clause-onward
returns-in-Some-clause-onward g c =
    let here : Place = record { tt = c.loop-k.k; r = c.loop-k.r } in
    let P : Option Place → Type 0 = λ o. IfSome o (λ p. p ≡ here) in
    seek_onward g.H.Hall.tells _ _ _ _ c.args.vol.now c.args.set.now c.args.from c.loop-k.buf c.loop-k.k c.loop-k.r c.loop-k.invariant c.in-Some.place (subst P c.in-Some.is c.in_ok-place.ensures.place)

pub returns-in-Some-clause-held : goal.returns-in-Some-clause-held
returns-in-Some-clause-held g c told = seek_held g.H.Hall.tells _ _ _ _ c.args.vol.now c.args.set.now c.args.from c.loop-k.buf c.loop-k.k c.loop-k.r c.loop-k.invariant (g.H.Hall.facts c.seek_on.new.hall) (g.H.Hall.meaning c.seek_on.new.hall) c.seek_on.new.buf c.in_ok-place.ensures.held told

pub returns-in-Some-clause-same : goal.returns-in-Some-clause-same
returns-in-Some-clause-same g c told = seek_same g.H.Hall.tells _ _ _ _ c.args.vol.now c.args.set.now c.args.from c.loop-k.buf c.loop-k.k c.loop-k.r c.loop-k.invariant (g.H.Hall.facts c.seek_on.new.hall) (g.H.Hall.meaning c.seek_on.new.hall) c.seek_on.new.buf c.in_ok-place.ensures.same told

pub returns-in-Some-clause-faults : goal.returns-in-Some-clause-faults
returns-in-Some-clause-faults g c = device_done _ _ _ c.loop-k.invariant.facts c.in_ok-place.ensures.faults

pub loop-k-preserved : goal.loop-k-preserved
loop-k-preserved g c =
    let here : Place = record { tt = c.loop-k.k; r = c.loop-k.r } in
    let now = image_in (g.H.Hall.meaning c.loop-k.hall) (g.H.Hall.facts c.loop-k.hall) c.args.vol.now.unit in
    let Q : Option Place → Type 0 = λ o. FindsOn (Ok o) (blocks_at c.args.vol.now.geometry (data_in now c.args.vol.now) (owned_in now c.args.vol.now c.args.set.now) c.last_of-last.result c.loop-k.k) here c.seek_on.new.buf.records in
    let call = c.in_ok-place.ensures in
    seek_more g.H.Hall.tells _ _ _ _ c.args.vol.now c.args.set.now c.args.from c.loop-k.buf c.loop-k.k c.loop-k.r c.loop-k.invariant (g.H.Hall.facts c.seek_on.new.hall) (g.H.Hall.meaning c.seek_on.new.hall) c.seek_on.new.buf c.last_of-last.result c.last_of-last.ensures c.loop-k.auto.k (no_fault call.faults) call.same call.held call.buffer (λ told. subst Q c.in_default.is (call.found told))

pub returns-else-has_no_block-clause-found : goal.returns-else-has_no_block-clause-found
returns-else-has_no_block-clause-found g c told =
    let past : c.last_of-last.result.tt < c.loop-k.k = omega (arith, c.loop-k-test.false) in
    seek_end g.H.Hall.tells _ _ _ _ c.args.vol.now c.args.set.now c.args.from c.loop-k.buf c.loop-k.k c.loop-k.r c.loop-k.invariant c.last_of-last.result c.last_of-last.ensures (sym c.if-has_no_block.ensures) past (λ w. omega (arith, c.loop-k.auto.k-end w)) told (c.requires.readable told)

pub returns-else-has_no_block-clause-held : goal.returns-else-has_no_block-clause-held
returns-else-has_no_block-clause-held g c told = c.loop-k.invariant.held told

pub returns-else-has_no_block-clause-buffer : goal.returns-else-has_no_block-clause-buffer
returns-else-has_no_block-clause-buffer g c = c.loop-k.invariant.geometry

pub returns-else-has_no_block-clause-same : goal.returns-else-has_no_block-clause-same
returns-else-has_no_block-clause-same g c told = c.loop-k.invariant.same told

pub returns-else-has_no_block-clause-faults : goal.returns-else-has_no_block-clause-faults
returns-else-has_no_block-clause-faults g c = all_done c.loop-k.invariant.facts

pub returns-in_default-clause-found : goal.returns-in_default-clause-found
returns-in_default-clause-found g c told =
    let here : Place = record { tt = c.loop-k.k; r = c.loop-k.r } in
    let now = image_in (g.H.Hall.meaning c.loop-k.hall) (g.H.Hall.facts c.loop-k.hall) c.args.vol.now.unit in
    let Q : Option Place → Type 0 = λ o. FindsOn (Ok o) (blocks_at c.args.vol.now.geometry (data_in now c.args.vol.now) (owned_in now c.args.vol.now c.args.set.now) c.last_of-last.result c.loop-k.k) here c.seek_on.new.buf.records in
    let call = c.in_ok-place.ensures in
    let low : c.loop-k.k ≤ c.last_of-last.result.tt = omega (arith, c.loop-k-test.true) in
    let past : c.last_of-last.result.tt < c.loop-k.k + 1 = omega arith in
    let end : c.loop-k.k + 1 ≤ c.last_of-last.result.tt + 1 = omega (arith, low) in
    let more = seek_more g.H.Hall.tells _ _ _ _ c.args.vol.now c.args.set.now c.args.from c.loop-k.buf c.loop-k.k c.loop-k.r c.loop-k.invariant (g.H.Hall.facts c.seek_on.new.hall) (g.H.Hall.meaning c.seek_on.new.hall) c.seek_on.new.buf c.last_of-last.result c.last_of-last.ensures c.loop-k.auto.k (no_fault call.faults) call.same call.held call.buffer (λ told. subst Q c.in_default.is (call.found told)) in
    seek_end g.H.Hall.tells _ _ _ _ c.args.vol.now c.args.set.now c.args.from c.seek_on.new.buf (c.loop-k.k + 1) 1 more c.last_of-last.result c.last_of-last.ensures (sym c.if-has_no_block.ensures) past (λ _. end) told (c.requires.readable told)

pub returns-in_default-clause-held : goal.returns-in_default-clause-held
returns-in_default-clause-held g c told = seek_held g.H.Hall.tells _ _ _ _ c.args.vol.now c.args.set.now c.args.from c.loop-k.buf c.loop-k.k c.loop-k.r c.loop-k.invariant (g.H.Hall.facts c.seek_on.new.hall) (g.H.Hall.meaning c.seek_on.new.hall) c.seek_on.new.buf c.in_ok-place.ensures.held told

pub returns-in_default-clause-same : goal.returns-in_default-clause-same
returns-in_default-clause-same g c told = seek_same g.H.Hall.tells _ _ _ _ c.args.vol.now c.args.set.now c.args.from c.loop-k.buf c.loop-k.k c.loop-k.r c.loop-k.invariant (g.H.Hall.facts c.seek_on.new.hall) (g.H.Hall.meaning c.seek_on.new.hall) c.seek_on.new.buf c.in_ok-place.ensures.same told

pub returns-in_default-clause-faults : goal.returns-in_default-clause-faults
returns-in_default-clause-faults g c = device_done _ _ _ c.loop-k.invariant.facts c.in_ok-place.ensures.faults
