use Rattle.std.proofs.Common.{◌≡◌, List, ◌++◌, drop, map, filter}
use Rattle.iebcopy_util.specs.declared.requests.Pick.{Pick}
use Rattle.iebcopy_util.specs.declared.tasks.MemberCopy.{MemberCopy}
use Rattle.iebcopy_util.specs.Tasks.{is_name, task}
use Rattle.iebcopy_util.proofs.tasks.push_picked.Given as goal

-- the copies so far, and those for the members that are left, are those of all
abbrev pub invariant-loop-pick : goal.invariant-loop-pick
invariant-loop-pick l =
    let asked : List Pick → List MemberCopy = λ picks. map (λ (p : Pick). task l.source l.entry p.new p.replace) (filter (λ (p : Pick). is_name p.name l.entry.name) picks) in
    l.tasks.items ++ asked (drop l.pick-index l.picks) ≡ l.initial.tasks.items ++ asked l.picks
