use Rattle.std.proofs.Common.{◌+◌, ◌≤◌, sym, ◌∙◌, ap, arith, ℕ, List, length}
use Rattle.std.specs.List.{position_or_len}
use Rattle.std.specs.Str.{bytes_eq}
use Rattle.util_steps.proofs.VolumeLemmas.{has_serial, no_volume, passed_more, past_end, position_here, position_none, tells_volume}
use Rattle.util_steps.proofs.volumes.find_volume.Goals as goal

pub returns-in-Some : goal.returns-in-Some
returns-in-Some g c told =
    let volumes = (g.M.Machine.meaning c.args.machine.now).state.volumes in
    let serial = c.args.serial.now.bytes in
    let so = tells_volume volumes c.loop-info.v c.in-Some.info (c.in-Some.ensures told) in
    sym (position_here (has_serial serial) volumes c.loop-info.v so.volume (c.loop-info.invariant told) so.at (ap (λ (b : List ℕ). bytes_eq b serial) (sym so.serial) ∙ sym c.eq.ensures ∙ c.if-eq.true))

pub returns-in-None : goal.returns-in-None
returns-in-None g c told =
    let volumes = (g.M.Machine.meaning c.args.machine.now).state.volumes in
    sym (position_none (has_serial c.args.serial.now.bytes) volumes c.loop-info.v (c.loop-info.invariant told) (past_end volumes c.loop-info.v (no_volume volumes c.loop-info.v (c.in-None.ensures told))))

pub loop-info-preserved : goal.loop-info-preserved
loop-info-preserved g c told =
    let volumes = (g.M.Machine.meaning c.args.machine.now).state.volumes in
    let serial = c.args.serial.now.bytes in
    let so = tells_volume volumes c.loop-info.v c.in-Some.info (c.in-Some.ensures told) in
    let more : c.loop-info.v + 1 ≤ position_or_len (has_serial serial) volumes = passed_more (has_serial serial) volumes c.loop-info.v so.volume (c.loop-info.invariant told) so.at (ap (λ (b : List ℕ). bytes_eq b serial) (sym so.serial) ∙ sym c.eq.ensures ∙ c.if-eq.false) in
    omega (arith, more, c.in-Some-checked_add.ensures)

pub returns-in-None-checked_add : goal.returns-in-None-checked_add
returns-in-None-checked_add g c told =
    let volumes = (g.M.Machine.meaning c.args.machine.now).state.volumes in
    let serial = c.args.serial.now.bytes in
    let so = tells_volume volumes c.loop-info.v c.in-Some.info (c.in-Some.ensures told) in
    let more : c.loop-info.v + 1 ≤ position_or_len (has_serial serial) volumes = passed_more (has_serial serial) volumes c.loop-info.v so.volume (c.loop-info.invariant told) so.at (ap (λ (b : List ℕ). bytes_eq b serial) (sym so.serial) ∙ sym c.eq.ensures ∙ c.if-eq.false) in
    let few : length volumes ≤ 256 = (g.met.M.Machine.lawful c.args.machine.now told c.requires).few in
    let past : length volumes ≤ c.loop-info.v + 1 = omega (arith, few, c.in-None-checked_add.ensures) in
    sym (position_none (has_serial serial) volumes (c.loop-info.v + 1) more past)
