-- The blocks of a directory by the kind of its set.
use Rattle.std.proofs.Common.{sym, ◌∙◌, ap}
use Rattle.vol_model.specs.declared.answers.Kind.{Kind}
use Rattle.iehlist_util.proofs.DirectoryLemmas.{blocks_by, by_its_kind, no_directory, of_other_kind}
use Rattle.iehlist_util.proofs.directories.blocks_in.Goals as goal

pub returns-then-not-is_partitioned : goal.returns-then-not-is_partitioned
returns-then-not-is_partitioned c x told = no_directory c.args.dsn.now.bytes x c.args.info.now told (sym c.is_partitioned.ensures ∙ c.if-not-is_partitioned.true)

pub returns-in-Part : goal.returns-in-Part
returns-in-Part c x told = ap (λ (k : Kind). blocks_by k c.args.info.now.dir) (sym c.in-Part.is) ∙ by_its_kind c.args.dsn.now.bytes x c.args.info.now told (sym c.is_partitioned.ensures ∙ c.if-not-is_partitioned.false)

pub returns-in-Unreadable : goal.returns-in-Unreadable
returns-in-Unreadable c x told = ap (λ (k : Kind). blocks_by k c.args.info.now.dir) (sym c.in-Unreadable.is) ∙ by_its_kind c.args.dsn.now.bytes x c.args.info.now told (sym c.is_partitioned.ensures ∙ c.if-not-is_partitioned.false)

pub returns-in-Seq : goal.returns-in-Seq
returns-in-Seq c x told = of_other_kind c.args.info.now.kind c.args.info.now.dir c.in-Seq.is ∙ by_its_kind c.args.dsn.now.bytes x c.args.info.now told (sym c.is_partitioned.ensures ∙ c.if-not-is_partitioned.false)
