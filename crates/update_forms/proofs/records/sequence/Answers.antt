use Rattle.std.proofs.Common.{◌-◌, drop, length, length-drop, sym, arith}
use Rattle.std.proofs.lemmas.List.{drop_all, take_all}
use Rattle.update_forms.proofs.records.sequence.Goals as goal

pub returns-then-rec-lt-TEXT : goal.returns-then-rec-lt-TEXT
returns-then-rec-lt-TEXT c = sym (drop_all 72 c.args.rec.now (omega arith))

pub returns : goal.returns
returns c = let rec = c.args.rec.now in let long = length-drop 72 rec in take_all (length rec - 72) (drop 72 rec) (omega arith)
