-- A slot that has the name of a data set holds its format 1.
use Rattle.std.proofs.Common.{◌≡◌, refl, ℕ, true, List, Option, Some, None, option_and_then}
use Rattle.std.specs.Prelude.{is_some, slice_get, Ok}
use Rattle.std.specs.Option.{option_map}
use Rattle.dscb_codec.specs.declared.Dscb.{Dscb}
use Rattle.dscb_codec.specs.declared.Dscb.TheVariants as formats
use Rattle.dscb_codec.specs.declared.F1.{F1}
use Rattle.pack_spec.specs.Rules.{set_in}
use Rattle.vtoc_index.specs.Names.{name_at}

pub named_set : (ds : List Dscb) (slot : ℕ) → is_some (name_at ds slot) ≡ true → (f : F1) × (slice_get ds slot ≡ Some (formats.F1 f))
named_set ds slot some = by (slice_get ds slot) refl some
  where
    by : (o : Option Dscb) → slice_get ds slot ≡ o → is_some (option_and_then (λ (d : Dscb). option_map (λ (f : F1). f.name) (set_in (Ok d))) o) ≡ true → (f : F1) × (slice_get ds slot ≡ Some (formats.F1 f))
    by None is e = cc
    by (Some formats.F0) is e = cc
    by (Some (formats.F1 f)) is e = (f, is)
    by (Some (formats.F3 f)) is e = cc
    by (Some (formats.F4 f)) is e = cc
    by (Some (formats.F5 f)) is e = cc
