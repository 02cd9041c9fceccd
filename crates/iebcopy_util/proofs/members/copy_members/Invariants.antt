use Rattle.std.proofs.Common.{◌≡◌, ◌+◌, ◌≤◌, [], length, vec_capacity, vec_len}
use Rattle.std.specs.Prelude.{IsTrue}
use Rattle.std.specs.List.{AllByRecursion}
use Rattle.vol_model.specs.declared.contents.Shelf.{Shelf}
use Rattle.util_steps.specs.Steps.{AreApart}
use Rattle.iebcopy_util.specs.declared.tasks.MemberCopy.{MemberCopy}
use Rattle.iebcopy_util.specs.Items.{members}
use Rattle.iebcopy_util.specs.Tasks.{IsLawfulMemberCopy}
use Rattle.iebcopy_util.proofs.RunLemmas.{RunsSoFar}
use Rattle.iebcopy_util.proofs.members.copy_members.Given as goal

abbrev pub invariant-loop-parts : goal.invariant-loop-parts
invariant-loop-parts g l =
    let m = g.M.Machine.meaning in
    record {
      room : vec_len l.copies + length l.rest ≤ vec_capacity l.copies;
      far : RunsSoFar g.M.Machine (λ (shelf : Shelf). (members shelf l.card l.out [] l.tasks).items) (λ (shelf : Shelf). (members shelf l.card l.out l.copies.items l.rest).items) l.code l.fn.machine l.machine;
      goes_on : IsTrue g.M.Machine.tells → (members (m l.machine).state l.card l.out l.copies.items l.rest).goes_on ≡ (members (m l.fn.machine).state l.card l.out [] l.tasks).goes_on;
      apart : IsTrue g.M.Machine.tells → AllByRecursion (λ (t : MemberCopy). AreApart l.out t.source.set) l.rest;
      lawful : AllByRecursion IsLawfulMemberCopy l.rest;
      small : l.code ≤ 16;
    }

abbrev pub decreases-loop-parts : goal.decreases-loop-parts
decreases-loop-parts g l = length l.rest
