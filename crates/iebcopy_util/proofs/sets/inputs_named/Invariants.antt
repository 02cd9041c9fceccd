use Rattle.std.proofs.Common.{◌≡◌, List, ◌++◌, drop}
use Rattle.std.specs.Result.{result_map_both}
use Rattle.iebcopy_util.specs.declared.sets.Input.{Input}
use Rattle.iebcopy_util.specs.Sets.{inputs_named}
use Rattle.iebcopy_util.proofs.sets.inputs_named.Given as goal

-- the sets so far, and those of the inputs that are left, are those of all
abbrev pub invariant-loop-input : goal.invariant-loop-input
invariant-loop-input l = inputs_named l.step.dds l.inputs ≡ result_map_both (λ (others : List Input). l.found.items ++ others) (λ name. name) (inputs_named l.step.dds (drop l.input-index l.inputs))
