use Rattle.std.proofs.Common.{List, ◌++◌, take, sym, ◌∙◌, ap}
use Rattle.std.proofs.lemmas.List.{append-nil}
use Rattle.iebcopy_util.specs.declared.tasks.MemberCopy.{MemberCopy}
use Rattle.iebcopy_util.proofs.TaskLemmas.{none_wanted}
use Rattle.iebcopy_util.proofs.tasks.push_wanted.Goals as goal

pub returns-then-is_one_of : goal.returns-then-is_one_of
returns-then-is_one_of c =
    let was = c.args.tasks.now.items in
    sym (append-nil was) ∙ ap (λ (l : List MemberCopy). was ++ l) (sym (none_wanted c.args.choice.now c.in-Exclude.names (take c.args.first was) c.args.source.now c.args.entry.now c.in-Exclude.is (cc (c.as_slice-in-Exclude.ensures, c.is_one_of.ensures, c.if-is_one_of.true))))
