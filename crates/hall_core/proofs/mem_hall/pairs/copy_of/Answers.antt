use Rattle.std.proofs.Common.{rules, ◌≡◌, ◌++◌, ◌∷◌, [], arith}
use Rattle.hall_core.proofs.UnitLemmas.{copied_more}
use Rattle.hall_core.proofs.mem_hall.pairs.copy_of.Goals as goal
use Rattle.hall_core.proofs.mem_hall.pairs.copy_of.Goals.{In_ok-push}

pushed : (c : In_ok-push) → c.push.new.self.items ≡ c.loop-file.copy.items ++ c.in_ok-pair.pair ∷ []
pushed c = search rules

pub loop-file-preserved : goal.loop-file-preserved
loop-file-preserved c = copied_more c.args.files.now c.loop-file.copy.items c.push.new.self.items c.loop-file.file-index c.in_ok-pair.pair c.file-item.result (omega arith) c.loop-file.invariant (pushed c) c.in_ok-pair.ensures c.file-item.is
