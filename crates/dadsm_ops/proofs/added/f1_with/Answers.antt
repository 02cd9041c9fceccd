use Rattle.std.proofs.Common.{◌≡◌, ◌+◌, ℕ, List, [], length, ap₂, arith}
use Rattle.dscb_codec.specs.declared.F1.{F1}
use Rattle.space_alloc.specs.Units.{listed}
use Rattle.dadsm_ops.specs.Extending.{f1_with}
use Rattle.dadsm_ops.proofs.AddedArrays.{own_fields}
use Rattle.dadsm_ops.proofs.added.f1_with.Goals as goal

pub returns : goal.returns
unfolding f1_with
returns c =
    let f = c.args.set.now in
    let size : length f.runs ≡ 3 = omega arith in
    let fields = own_fields c.args.geometry.now c.args.kind f.extents (listed c.args.extents.now) f.runs [] c.added_field.result c.added_field-2.result c.added_field-3.result size c.added_field.ensures c.added_field-2.ensures c.added_field-3.ensures in
    ap₂ {C = F1} (λ (n : ℕ) (l : List (List ℕ)). record f { extents = f.extents + n; runs = l; pointer = c.args.pointer }) c.extent_count.ensures fields
