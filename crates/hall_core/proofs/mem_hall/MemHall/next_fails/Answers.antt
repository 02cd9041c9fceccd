use Rattle.std.proofs.Common.{◌≡◌, subst, arith, ℕ}
use Rattle.std.specs.Prelude.{Contains}
use Rattle.std.specs.Bool.{Decides}
use Rattle.hall_core.specs.Memory.{failing_calls, number_of_calls}
use Rattle.hall_core.proofs.CountLemmas.{contains_is}
use Rattle.hall_core.proofs.mem_hall.MemHall.next_fails.Goals as goal

pub returns : goal.returns
returns c =
    let hall = c.args.self.now in
    let number : c.len.result ≡ number_of_calls hall = omega arith in
    subst (λ (n : ℕ). Decides c.contains.result (Contains (failing_calls hall) n)) number (contains_is (failing_calls hall) c.deref.result.now c.len.result c.contains.result c.deref.ensures.value c.contains.ensures.cases)
