use Rattle.std.proofs.Common.{◌≡◌, drop}
use Rattle.jcl_forms.specs.Attributes.{modified}
use Rattle.jcl_forms.proofs.attributes.modified.Given as goal

abbrev pub invariant-loop-letter : goal.invariant-loop-letter
invariant-loop-letter l = modified l.found (drop l.letter-index l.letters) ≡ modified l.fn.code l.letters
