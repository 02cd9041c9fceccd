use Rattle.iebgener_util.proofs.EditLemmas.{text_past}
use Rattle.iebgener_util.proofs.editing.lay_field.Goals as goal

pub returns-then-count-new : goal.returns-then-count-new
returns-then-count-new c = text_past c.args.field.now c.in-Text.text c.args.rec.now c.args.new.now c.in-Text.is c.if-count-new.true
