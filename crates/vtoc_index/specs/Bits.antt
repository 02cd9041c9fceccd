-- The bit of an interrupted update, in this project's profile.
use Rattle.std.specs.Prelude.{Bool, bit_and, bit_or, if◌then◌else◌}
use Rattle.dscb_codec.specs.declared.Dscb.{Dscb}
use Rattle.dscb_codec.specs.declared.Dscb.TheVariants as formats

-- a format 4 with the bit X'04' on or off; other DSCBs stay
abbrev pub with_bit : Bool → Dscb → Dscb
with_bit on (formats.F4 f) = formats.F4 (record f {
  indicators = if on then bit_or f.indicators 0x04 else bit_and f.indicators 0xFB;
})
with_bit on d = d
