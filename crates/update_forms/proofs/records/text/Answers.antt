use Rattle.std.proofs.Common.{sym, arith}
use Rattle.std.proofs.lemmas.List.{take_all}
use Rattle.update_forms.proofs.records.text.Goals as goal

pub returns-then-rec-lt-TEXT : goal.returns-then-rec-lt-TEXT
returns-then-rec-lt-TEXT c = sym (take_all 72 c.args.rec.now (omega arith))
