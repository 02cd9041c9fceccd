use Rattle.std.proofs.Common.{◌≡◌, ◌+◌, ◌-◌, ◌<◌, inr, refl, ap, ◌∙◌, arith, ℕ, List, length}
use Rattle.dscb_codec.specs.Layout.{decoded}
use Rattle.vtoc_index.proofs.SlotsRead.{so_far_none, so_far_more, so_far_not}
use Rattle.vtoc_index.proofs.tracks.push_slots.Goals as goal

pub loop-passed-init : goal.loop-passed-init
loop-passed-init c = so_far_none _ _ _ _

pub returns-in_default-clause-refused : goal.returns-in_default-clause-refused
returns-in_default-clause-refused c =
    let at = c.loop-passed.passed + 1 - 1 in
    let low : at < length c.args.buf.now.records = omega (arith, c.requires, c.loop-passed-test.true) in
    inr (refl, so_far_not c.args.geometry c.args.track c.args.buf.now.records at low c.in_default.ensures)

pub loop-passed-preserved : goal.loop-passed-preserved
loop-passed-preserved c =
    let passed = c.loop-passed.passed in
    let same : passed + 1 - 1 ≡ passed = omega arith in
    let read = c.slot_read.ensures ∙ ap (λ (a : List ℕ). record { address = a; content = decoded c.in-Some.bytes }) c.record_address-address.ensures in
    so_far_more c.args.geometry c.args.track passed (passed + 1 - 1) (passed + 1) c.args.buf.now.records _ _ _ c.slot_read.result c.in-Some.bytes c.in-Some.ensures same refl read c.in-Ok.ensures.items c.loop-passed.invariant
