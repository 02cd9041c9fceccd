-- What bytes decode to a DSCB of each format.
use Rattle.std.proofs.Common.{◌≡◌, ℕ, List, true, Ok, arith}
use Rattle.dscb_codec.specs.declared.F1.{F1}
use Rattle.dscb_codec.specs.declared.F3.{F3}
use Rattle.dscb_codec.specs.declared.F4.{F4}
use Rattle.dscb_codec.specs.declared.F5.{F5}
use Rattle.dscb_codec.specs.declared.Dscb.TheVariants as formats
use Rattle.dscb_codec.specs.Layout.{decoded, f1_of, f3_of, f4_of, f5_of, format_byte, is_zeros}
use Rattle.std.proofs.lemmas.Bool.Decides.{nat_tests}

pub decoded_f0 : (bytes : List ℕ) → decoded bytes ≡ Ok formats.F0 → is_zeros bytes ≡ true
unfolding decoded
decoded_f0 bytes is = grind (arith, nat_tests)

pub decoded_f1 : (bytes : List ℕ) (f : F1) → decoded bytes ≡ Ok (formats.F1 f) → (format_byte bytes ≡ 0xF1) × (f1_of bytes ≡ f)
unfolding decoded
decoded_f1 bytes f is = (grind (arith, nat_tests), grind (arith, nat_tests))

pub decoded_f3 : (bytes : List ℕ) (f : F3) → decoded bytes ≡ Ok (formats.F3 f) → (format_byte bytes ≡ 0xF3) × (f3_of bytes ≡ f)
unfolding decoded
decoded_f3 bytes f is = (grind (arith, nat_tests), grind (arith, nat_tests))

pub decoded_f4 : (bytes : List ℕ) (f : F4) → decoded bytes ≡ Ok (formats.F4 f) → (format_byte bytes ≡ 0xF4) × (f4_of bytes ≡ f)
unfolding decoded
decoded_f4 bytes f is = (grind (arith, nat_tests), grind (arith, nat_tests))

pub decoded_f5 : (bytes : List ℕ) (f : F5) → decoded bytes ≡ Ok (formats.F5 f) → (format_byte bytes ≡ 0xF5) × (f5_of bytes ≡ f)
unfolding decoded
decoded_f5 bytes f is = (grind (arith, nat_tests), grind (arith, nat_tests))
