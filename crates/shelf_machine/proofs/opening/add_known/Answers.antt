use Rattle.std.proofs.lemmas.Result.{on_ok_weaker}
use Rattle.shelf_machine.proofs.opening.add_known.Goals as goal

pub returns-in-Ok-clause-known : goal.returns-in-Ok-clause-known
returns-in-Ok-clause-known c =
    let of = c.in-Ok.ensures in
    on_ok_weaker c.push.result (λ pushed. (c.in-Ok.of, pushed, of.fresh, of.buffer, of.unread)) c.push.ensures.done
