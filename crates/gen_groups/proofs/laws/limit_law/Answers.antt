-- What stays are the first of a group, and what goes the others.
use Rattle.gen_groups.proofs.Groups.{oldest_go, room_is_made}
use Rattle.gen_groups.proofs.laws.limit_law.Goals as goal

pub returns-clause-room : goal.returns-clause-room
returns-clause-room c = room_is_made

pub returns-clause-oldest : goal.returns-clause-oldest
returns-clause-oldest c = oldest_go
