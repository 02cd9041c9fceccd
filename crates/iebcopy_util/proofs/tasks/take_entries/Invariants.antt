use Rattle.std.proofs.Common.{◌≡◌, ◌-◌, List, ◌++◌, drop, length}
use Rattle.std.specs.Prelude.{Ok}
use Rattle.std.specs.List.{AllByRecursion, flat_map}
use Rattle.vol_model.specs.declared.contents.DataSet.{DataSet}
use Rattle.vol_model.specs.declared.contents.Shelf.{Shelf}
use Rattle.util_steps.specs.Taking.{Reads}
use Rattle.record_files.specs.Members.{entries_of}
use Rattle.iebcopy_util.specs.declared.tasks.MemberCopy.{MemberCopy}
use Rattle.iebcopy_util.specs.Sets.{library}
use Rattle.iebcopy_util.specs.Tasks.{IsLawfulMemberCopy, wanted, with_source}
use Rattle.iebcopy_util.proofs.tasks.take_entries.Given as goal

abbrev pub invariant-loop-refusal : goal.invariant-loop-refusal
invariant-loop-refusal g l = record {
  first : l.first ≡ length l.fn.tasks.items;
  more : (more : List MemberCopy) × (l.tasks.items ≡ l.fn.tasks.items ++ more);
  read : Reads {T = Unit {0}} g.M.Machine (λ (shelf : Shelf) u. (x : DataSet) → library shelf l.source.set ≡ Ok x → l.tasks.items ++ flat_map (wanted l.choice l.fn.tasks.items l.source) (drop l.k (entries_of x.body)) ≡ with_source l.choice l.fn.tasks.items l.source x) l.fn.machine l.machine (Ok tt);
  lawful : AllByRecursion IsLawfulMemberCopy l.tasks.items;
}

abbrev pub decreases-loop-refusal : goal.decreases-loop-refusal
decreases-loop-refusal g l = 4294967295 - l.k
