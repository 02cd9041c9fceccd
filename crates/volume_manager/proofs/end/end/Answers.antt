use Rattle.std.proofs.Common.{refl}
use Rattle.volume_manager.specs.Run.{status_of}
use Rattle.volume_manager.proofs.Tasks.{text_printed}
use Rattle.volume_manager.proofs.end.end.Goals as goal

pub returns-in_default-clause-text : goal.returns-in_default-clause-text
returns-in_default-clause-text g c told =
    text_printed c.args.text.now _ _ c.print.result 24 (c.print.ensures.files told) (λ other. absurd (other refl))

pub returns-clause-text : goal.returns-clause-text
returns-clause-text g c told =
    text_printed c.args.text.now _ _ c.print.result (status_of c.args.ended) (c.print.ensures.files told) (λ _. (c.in-Ok.ensures.files told).done)
