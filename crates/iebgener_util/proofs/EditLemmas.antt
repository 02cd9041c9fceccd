-- Fields that are laid over a record.
use Rattle.std.proofs.Common.{◌≡◌, ◌<◌, ◌+◌, ◌-◌, ℕ, Bool, false, List, ◌++◌, length, ◌∙◌, ap, arith, length-append, take, drop}
use Rattle.std.proofs.lemmas.Bool.Decides.{nat_tests}
use Rattle.std.proofs.lemmas.List.{length-take, length-replicate}
use Rattle.std.specs.Prelude.{nat_le, replicate, if◌then◌else◌, Some, None, option_and_then}
use Rattle.iebgener_util.specs.declared.requests.Field.{Field}
use Rattle.iebgener_util.specs.declared.requests.Origin.{Origin}
use Rattle.iebgener_util.specs.declared.requests.Origin.TheVariants.{Text}
use Rattle.iebgener_util.specs.Editing.{field_bytes, laid, sized, with_field_laid}

-- a text that is cut or filled has the length that is asked for
pub sized_length : (n : ℕ) (text : List ℕ) → length (sized n text) ≡ n
sized_length n text =
    let parts : length (sized n text) ≡ length (take n text) + length (replicate (n - length text) 0x40) = length-append (take n text) (replicate (n - length text) 0x40) in
    omega (arith, parts, length-take n text, length-replicate {A = ℕ} (n - length text) 0x40)

not_upto : (a b : ℕ) → b < a → nat_le a b ≡ false
not_upto a b past = grind (arith, nat_tests)

-- bytes that are longer than a record aren't laid over it
too_long : (column : ℕ) (bytes new : List ℕ) → length new < length bytes → laid column bytes new ≡ None
unfolding laid
too_long column bytes new past =
    ap (λ (t : Bool). if t then Some (take (column - 1) new ++ bytes ++ drop (column - 1 + length bytes) new) else None) (not_upto (column - 1 + length bytes) (length new) (omega arith))

text_laid : (count to : ℕ) (text rec new : List ℕ) → length new < count → option_and_then (λ (bytes : List ℕ). laid to bytes new) (Some (sized count text)) ≡ None
text_laid count to text rec new past = too_long to (sized count text) new (omega (arith, sized_length count text))

-- a text that is longer than the record isn't laid
pub text_past : (f : Field) (text : List ℕ) (rec new : List ℕ) → f.from ≡ Text text → length new < f.length → with_field_laid f rec new ≡ None
unfolding with_field_laid field_bytes
text_past f text rec new is past = ap (λ (o : Origin). option_and_then (λ (bytes : List ℕ). laid f.to bytes new) (field_bytes f.length o rec)) is ∙ text_laid f.length f.to text rec new past
