use Rattle.std.proofs.Common.{rules}
use Rattle.hall_core.proofs.CardLemmas.{gives_next}
use Rattle.hall_core.proofs.mem_cards.MemCardsCards.read.Goals as goal

pub returns-clause-files : goal.returns-clause-files
returns-clause-files c =
    gives_next c.args.self.now.bytes.items c.args.buf.now c.copy_from_slice.new.self _ c.args.self.now.given c.min-count.result c.args.self.now.inside c.requires (search rules) (search rules)
