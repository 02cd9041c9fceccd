-- Where the last block of a data set stands, as its format 1 says it (System Control Blocks GC28-6628).
use Rattle.std.specs.Prelude.{ℕ, List, [], ◌∷◌, ◌++◌}
use Rattle.std.specs.Int.{w16, to_be_bytes}
use Rattle.dscb_codec.specs.declared.Dscb.{Dscb}
use Rattle.dscb_codec.specs.declared.Dscb.TheVariants as formats
use Rattle.vol_model.specs.declared.contents.Place.{Place}

-- LSTAR of a last block's place: its track within the data set, two bytes, and its record
abbrev pub lstar_of : Place → List ℕ
lstar_of last = to_be_bytes w16 last.tt ++ last.r ∷ []

-- a format 1 with this last block and this track balance; other DSCBs stay
abbrev pub with_last : Place → ℕ → Dscb → Dscb
with_last last balance (formats.F1 f) = formats.F1 (record f { lstar = lstar_of last; balance = balance })
with_last last balance d = d
