use Rattle.std.proofs.Common.{refl}
use Rattle.dadsm_ops.specs.Allocating.{new_f1}
use Rattle.dadsm_ops.proofs.new_set.new_f1.Goals as goal

pub returns : goal.returns
unfolding new_f1
returns c =
    rw (c.from.ensures, c.extent_field.ensures, c.extent_field-2.ensures, c.extent_field-3.ensures, c.extent_count.ensures, c.new_lstar.ensures) refl
