use Rattle.std.proofs.Common.{◌∙◌}
use Rattle.pack_machine.proofs.ShelfReads.{refused_by, refused_not}
use Rattle.pack_machine.proofs.refusals.unread_refusal.Goals as goal

pub returns-in-Unreadable : goal.returns-in-Unreadable
returns-in-Unreadable c g tracks extents listed = refused_by _ c.in-Unreadable.track (c.in-Unreadable.ensures g tracks extents listed)

pub returns-in_default : goal.returns-in_default
returns-in_default c g tracks extents listed = refused_not _ (λ t is. c.in_default.not-Unreadable t (c.kind_in.ensures g tracks extents listed ∙ is))
