use Rattle.std.proofs.Common.{arith}
use Rattle.chain_spec.proofs.KeptLemmas.{kept_all, kept_rises}
use Rattle.chain_spec.proofs.StoreLemmas.{reads-stored}
use Rattle.chain_spec.proofs.reading_law.Goals as goal

pub returns-clause-rising : goal.returns-clause-rising
returns-clause-rising g c = λ name list. kept_rises name 0 list

pub returns-clause-kept : goal.returns-clause-kept
returns-clause-kept g c = λ name list rises. kept_all name 0 0 list (omega arith) rises

pub returns-clause-reads : goal.returns-clause-reads
returns-clause-reads g c = λ name size room end blocks behind fits. reads-stored name size room end blocks behind fits
