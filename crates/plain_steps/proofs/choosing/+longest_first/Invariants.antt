-- Fewer runs may be taken each time.
use Rattle.plain_steps.proofs.choosing.+longest_first.Given as goal

abbrev pub decreases-longest_first : goal.decreases-longest_first
decreases-longest_first l = l.most
