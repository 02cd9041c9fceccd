-- The definitions of `specs/`, at the edges where a near-miss reading would differ.
use Rattle.std.proofs.Common.{◌≡◌, true, false, [], ◌∷◌, codes, replicate, refl}
use Rattle.std.specs.Fmt.{digits}
use Rattle.ebcdic_names.specs.CodePage.{ascii_of, code_page}
use Rattle.ebcdic_names.specs.Names.{shown}
use Rattle.vol_model.specs.Words.{refusal_words}
use Rattle.vol_model.specs.declared.refusals.Refusal.TheVariants.{NoSet, SetExists, VtocFull}
use Rattle.util_syntax.specs.Forms.{is_device_word}
use Rattle.util_syntax.specs.Lines.{card_number}
use Rattle.util_syntax.specs.Listing.{item_line, object_text, outcome_text}
use Rattle.util_syntax.specs.declared.listing.Object.TheVariants.{Name}
use Rattle.util_syntax.specs.declared.listing.Outcome.TheVariants.{Done, Refused}

-- Four words name a device, to their last character.
four_words_name_a_device : (is_device_word (codes "2311") ≡ true) × (is_device_word (codes "2314") ≡ true) × (is_device_word (codes "3330") ≡ true) × (is_device_word (codes "3350") ≡ true) × (is_device_word (codes "231") ≡ false) × (is_device_word (codes "23141") ≡ false) × (is_device_word [] ≡ false)
four_words_name_a_device = (refl, refl, refl, refl, refl, refl, refl)

-- A card's number has five digits, and more where it needs them.
number_of_a_card_has_five_digits : (card_number 0 ≡ codes "00000") × (card_number 12 ≡ codes "00012") × (card_number 99999 ≡ codes "99999") × (card_number 100000 ≡ codes "100000")
unfolding card_number digits
number_of_a_card_has_five_digits = (refl, refl, refl, refl)

-- What became of an item is told without the numbers of a refusal.
words_have_no_numbers : (outcome_text Done ≡ codes "OK") × (outcome_text (Refused SetExists) ≡ codes "SET-EXISTS") × (outcome_text (Refused (VtocFull 3)) ≡ codes "VTOC-FULL")
unfolding outcome_text refusal_words
words_have_no_numbers = (refl, refl, refl)

-- The operation is the item's, and the name has no blanks after it.
line_has_the_operation_that_it_answers : item_line 306 (codes "SCRATCH") (Name (record { bytes = 0xD1 ∷ 0x4B ∷ 0xD2 ∷ replicate 41 0x40 })) (Refused NoSet) ≡ codes "00306 SCRATCH J.K NO-SET"
unfolding item_line card_number object_text outcome_text digits refusal_words shown ascii_of code_page
line_has_the_operation_that_it_answers = refl
