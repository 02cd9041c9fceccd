-- A worked example: two cards in a set of FB, 80, 800.
use Rattle.std.proofs.Common.{◌≡◌, [], ◌∷◌, map, length, refl}
use Rattle.std.specs.Prelude.{codes, replicate, false}
use Rattle.std.specs.Fmt.{digits}
use Rattle.ebcdic_names.specs.CodePage.{ascii_of, code_page}
use Rattle.ebcdic_names.specs.Names.{shown}
use Rattle.ebcdic_names.specs.declared.names.Dsn.{Dsn}
use Rattle.util_syntax.specs.declared.listing.Object.TheVariants as object
use Rattle.util_syntax.specs.declared.listing.Outcome.TheVariants.{Done}
use Rattle.util_syntax.specs.Lines.{card_number}
use Rattle.util_syntax.specs.Listing.{item_line, object_text, outcome_text}
use Rattle.vol_model.specs.declared.contents.Block.{Block}
use Rattle.record_blocks.specs.declared.formats.Format.{Format}
use Rattle.record_blocks.specs.Packing.{unspanned_blocks}
use Rattle.record_files.specs.Streams.{Stream}
use Rattle.record_files.specs.Writing.{packed}

abbrev output : Format
output = record { recfm = 0x90; lrecl = 80; blksize = 800 }

abbrev two_cards : Stream
two_cards = record { records = replicate 80 0xC8 ∷ replicate 80 0xE6 ∷ []; broken = false }

-- they are one block of 160 bytes
one_block : map (λ (b : Block). length b.payload) (packed output two_cards).blocks ≡ 160 ∷ []
unfolding packed unspanned_blocks
one_block = refl

-- TEST.CARDS
test_cards : Dsn
test_cards = record { bytes = 0xE3 ∷ 0xC5 ∷ 0xE2 ∷ 0xE3 ∷ 0x4B ∷ 0xC3 ∷ 0xC1 ∷ 0xD9 ∷ 0xC4 ∷ 0xE2 ∷ replicate 34 0x40 }

-- the line that answers their copy
line_of_the_copy : item_line 2 (codes "COPY") (object.Name test_cards) Done ≡ codes "00002 COPY TEST.CARDS OK"
unfolding item_line object_text outcome_text card_number digits shown test_cards ascii_of code_page
line_of_the_copy = refl
