-- The walk over a track: the front breaks, or the records after it are read.
use Rattle.std.proofs.Common.{◌≡◌, ◌+◌, ℕ, List, length, drop, Option, Some, None, Ok, Err, ap, ◌∙◌}
use Rattle.std.specs.Option.{option_map}
use Rattle.ckd_image.specs.Reading.{records_of, records_behind}
use Rattle.ckd_image.specs.Walk.{IsReadingOf}
use Rattle.ckd_image.specs.Break.{front_pattern, pattern_break, break_behind, break_of}
use Rattle.ckd_image.proofs.Grammar.{break_front, break_past, read_nothing, read_past, front_stands, front_broken}

-- the home address or R0 breaks
pub break_of-front : (cylinder head : ℕ) (upto : Option ℕ) (bytes : List ℕ) (at : ℕ) → pattern_break (front_pattern cylinder head) bytes ≡ Some at → IsReadingOf (break_of cylinder head upto bytes) (records_of cylinder head upto bytes) (Err at)
break_of-front cylinder head upto bytes at e =
    (break_front cylinder head upto at bytes e, read_nothing cylinder head upto bytes (front_broken cylinder head at bytes e))

-- they stand, and the records after them are read
pub break_of-ok : (cylinder head : ℕ) (upto : Option ℕ) (bytes : List ℕ) (n : ℕ) → pattern_break (front_pattern cylinder head) bytes ≡ None → IsReadingOf (break_behind upto (drop 21 bytes)) (records_behind upto (drop 21 bytes)) (Ok n) → IsReadingOf (break_of cylinder head upto bytes) (records_of cylinder head upto bytes) (Ok n)
break_of-ok cylinder head upto bytes n e reading =
    let behind = read_past cylinder head upto bytes (front_stands cylinder head bytes e) in
    (break_past cylinder head upto bytes e ∙ ap (option_map (λ k. 21 + k)) reading.0, ap (option_map length) behind ∙ reading.1)

-- they stand, and the records after them break
pub break_of-err : (cylinder head : ℕ) (upto : Option ℕ) (bytes : List ℕ) (at : ℕ) → pattern_break (front_pattern cylinder head) bytes ≡ None → IsReadingOf (break_behind upto (drop 21 bytes)) (records_behind upto (drop 21 bytes)) (Err at) → IsReadingOf (break_of cylinder head upto bytes) (records_of cylinder head upto bytes) (Err (21 + at))
break_of-err cylinder head upto bytes at e reading =
    let behind = read_past cylinder head upto bytes (front_stands cylinder head bytes e) in
    (break_past cylinder head upto bytes e ∙ ap (option_map (λ k. 21 + k)) reading.0, behind ∙ reading.1)
