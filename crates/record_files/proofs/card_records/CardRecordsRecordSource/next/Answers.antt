use Rattle.record_files.proofs.CallLemmas.{beside_none}
use Rattle.record_files.proofs.CardLemmas.{cards_first, cards_none}
use Rattle.record_files.proofs.card_records.CardRecordsRecordSource.next.Goals as goal

pub returns-in_default-clause-reads : goal.returns-in_default-clause-reads
returns-in_default-clause-reads g c = beside_none g.M.Machine _ c.requires.sound (λ told. cards_none c.args.self.now.cards.now c.in_default.ensures.cases)

pub returns-clause-reads : goal.returns-clause-reads
returns-clause-reads g c = beside_none g.M.Machine _ c.requires.sound (λ told. cards_first c.args.self.now.cards.now c.in-Some.first.now c.in-Some.others.now c.in-Ok.rec.items c.in-Some.ensures.cases.0 c.in-Ok.ensures)
