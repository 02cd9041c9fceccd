use Rattle.std.proofs.Common.{◌≡◌, drop}
use Rattle.iebgener_util.specs.Editing.{with_fields}
use Rattle.iebgener_util.proofs.editing.lay_fields.Given as goal

-- laying the fields that are left gives what laying all gives
abbrev pub invariant-loop-field : goal.invariant-loop-field
invariant-loop-field l = with_fields l.fields l.rec l.fn.new ≡ with_fields (drop l.field-index l.fields) l.rec l.new
