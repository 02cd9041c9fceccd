use Rattle.std.proofs.Common.{◌≡◌, ◌∙◌, length, sym, ap, Err}
use Rattle.util_steps.specs.declared.calls.Fault.TheVariants.{BadRecord}
use Rattle.vol_model.specs.declared.answers.Stop.TheVariants.{Memory, Device}
use Rattle.vol_model.proofs.Working.{works_none}
use Rattle.util_steps.proofs.CallLemmas.{as_block, call_failed, call_ok, call_refused, no_block, none_of, some_of}
use Rattle.util_steps.proofs.calls.put_bytes.Goals as goal

pub returns-then-is_empty-clause-works : goal.returns-then-is_empty-clause-works
returns-then-is_empty-clause-works g c told b k p =
    let none : length b.payload ≡ 0 = ap length (sym p) ∙ none_of c.args.payload.now c.is_empty.result c.is_empty.ensures c.if-is_empty.true in
    no_block (g.M.Machine.writer c.args.machine.now) b g.M.Machine.tells_prints none (works_none g.M.Machine.tells_prints (g.M.Machine.meaning c.args.machine.now) (g.M.Machine.status c.args.machine.now).done (Err BadRecord))

pub returns-in-Ok-clause-works : goal.returns-in-Ok-clause-works
returns-in-Ok-clause-works g c told b k p =
    let some = some_of c.args.payload.now c.is_empty.result c.is_empty.ensures c.if-is_empty.false in
    as_block (g.M.Machine.writer c.args.machine.now) b c.args.key.now c.args.payload.now k p g.M.Machine.tells_prints some (call_ok g.M.Machine.tells_prints (c.in-Ok.ensures.shelf told))

pub returns-in-Err-Refused-clause-works : goal.returns-in-Err-Refused-clause-works
returns-in-Err-Refused-clause-works g c told b k p =
    let some = some_of c.args.payload.now c.is_empty.result c.is_empty.ensures c.if-is_empty.false in
    as_block (g.M.Machine.writer c.args.machine.now) b c.args.key.now c.args.payload.now k p g.M.Machine.tells_prints some (call_refused g.M.Machine.tells_prints (rw c.in-Err-Refused.field-0-is at (c.in-Err-Refused.ensures.shelf told)))

pub returns-in-Err-Memory-clause-works : goal.returns-in-Err-Memory-clause-works
returns-in-Err-Memory-clause-works g c told b k p =
    let some = some_of c.args.payload.now c.is_empty.result c.is_empty.ensures c.if-is_empty.false in
    as_block (g.M.Machine.writer c.args.machine.now) b c.args.key.now c.args.payload.now k p g.M.Machine.tells_prints some (call_failed g.M.Machine.tells_prints Memory (c.put.ensures.shelf told))

pub returns-in-Err-Device-clause-works : goal.returns-in-Err-Device-clause-works
returns-in-Err-Device-clause-works g c told b k p =
    let some = some_of c.args.payload.now c.is_empty.result c.is_empty.ensures c.if-is_empty.false in
    as_block (g.M.Machine.writer c.args.machine.now) b c.args.key.now c.args.payload.now k p g.M.Machine.tells_prints some (call_failed g.M.Machine.tells_prints Device (c.put.ensures.shelf told))
