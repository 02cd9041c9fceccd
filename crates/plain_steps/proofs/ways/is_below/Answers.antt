-- The other way is this one with one name more.
use Rattle.std.proofs.Common.{sym, ap, ◌∙◌}
use Rattle.vol_model.specs.Trees.{is_below}
use Rattle.plain_steps.proofs.Names.{below_none, below_snoc}
use Rattle.plain_steps.proofs.ways.is_below.Goals as goal

pub returns-in-Some : goal.returns-in-Some
returns-in-Some c =
    c.eq.ensures ∙ sym (ap (is_below c.args.names.now) c.in-Some.ensures.cases.0 ∙ below_snoc c.args.names.now c.in-Some.before.now c.in-Some.field-0-0.now)

pub returns-in-None : goal.returns-in-None
returns-in-None c = below_none c.args.names.now c.args.others.now c.in-None.ensures.cases
