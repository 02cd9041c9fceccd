use Rattle.member_laws.proofs.Whole.{members_kept, stays_whole}
use Rattle.member_laws.proofs.members_law.Goals as goal

pub returns-clause-each : goal.returns-clause-each
returns-clause-each c s ops lawful = members_kept ops s lawful

pub returns-clause-whole : goal.returns-clause-whole
returns-clause-whole c s ops lawful = stays_whole ops s lawful
