use Rattle.std.proofs.Common.{◌≡◌, ℕ, List, [], length, ap₂, arith}
use Rattle.dscb_codec.specs.declared.F3.{F3}
use Rattle.space_alloc.specs.Units.{listed}
use Rattle.dadsm_ops.specs.Extending.{f3_with}
use Rattle.dadsm_ops.proofs.AddedArrays.{back_fields, front_fields}
use Rattle.dadsm_ops.proofs.added.f3_with.Goals as goal

pub returns : goal.returns
unfolding f3_with
returns c =
    let h = c.args.further.now in
    let g = c.args.geometry.now in
    let runs = listed c.args.extents.now in
    let four : length h.front ≡ 4 = omega arith in
    let nine : length h.back ≡ 9 = omega arith in
    let front = front_fields g c.args.kind c.args.count runs h.front [] c.added_field.result c.added_field-2.result c.added_field-3.result c.added_field-4.result four c.added_field.ensures c.added_field-2.ensures c.added_field-3.ensures c.added_field-4.ensures in
    let back = back_fields g c.args.kind c.args.count runs h.back [] c.added_field-5.result c.added_field-6.result c.added_field-7.result c.added_field-8.result c.added_field-9.result c.added_field-10.result c.added_field-11.result c.added_field-12.result c.added_field-13.result nine
    c.added_field-5.ensures c.added_field-6.ensures c.added_field-7.ensures c.added_field-8.ensures c.added_field-9.ensures c.added_field-10.ensures c.added_field-11.ensures c.added_field-12.ensures c.added_field-13.ensures in
    ap₂ {C = F3} (λ (l m : List (List ℕ)). record h { front = l; back = m }) front back
