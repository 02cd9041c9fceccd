use Rattle.std.proofs.Common.{◌≡◌, length}
use Rattle.std.specs.List.{slice_split}
use Rattle.jcl_forms.specs.Parts.{is_byte, items}
use Rattle.jcl_forms.specs.Attributes.{with_attributes, no_attributes}
use Rattle.jcl_forms.proofs.attributes.attributes_of.Given as goal

abbrev pub decreases-items : goal.decreases-items
decreases-items l = length l.rest

abbrev pub invariant-items : goal.invariant-items
invariant-items l =
    with_attributes l.dcb (slice_split (is_byte 44) l.rest) ≡ with_attributes no_attributes (slice_split (is_byte 44) (items l.fn.text))
