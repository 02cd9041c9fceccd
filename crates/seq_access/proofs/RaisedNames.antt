-- The names of the data sets in slots stay where a format 1 names another last block.
use Rattle.std.proofs.Common.{◌≡◌, ⊎_elim, ◌<◌, ℕ, List, get_or, length, set, Option, refl, sym, ap, ◌∙◌}
use Rattle.std.specs.Prelude.{Ok, option_and_then}
use Rattle.std.specs.Option.{option_map}
use Rattle.std.proofs.lemmas.Bool.{cases_eq}
use Rattle.std.proofs.lemmas.Option.{slice_get-get_or}
use Rattle.dscb_codec.specs.declared.Dscb.{Dscb}
use Rattle.dscb_codec.specs.declared.Dscb.TheVariants as formats
use Rattle.dscb_codec.specs.declared.F1.{F1}
use Rattle.pack_spec.specs.Rules.{set_in}
use Rattle.vol_model.specs.declared.contents.Place.{Place}
use Rattle.vtoc_index.specs.Last.{with_last}
use Rattle.vtoc_index.specs.Names.{name_at}
use Rattle.free_rebuild.proofs.ChainLemmas.{get_set, get_set_other}

abbrev name_of : Dscb → Option (List ℕ)
name_of d = option_map (λ (f : F1). f.name) (set_in (Ok d))

name_raised : (last : Place) (balance : ℕ) (d : Dscb) → name_of (with_last last balance d) ≡ name_of d
name_raised last balance formats.F0 = refl
name_raised last balance (formats.F1 f) = refl
name_raised last balance (formats.F3 f) = refl
name_raised last balance (formats.F4 f) = refl
name_raised last balance (formats.F5 f) = refl

pub names_raised : (items : List Dscb) (slot : ℕ) (last : Place) (balance : ℕ) (d : Dscb) → slot < length items → d ≡ with_last last balance (get_or items slot formats.F0)
    → (k : ℕ) → name_at (set items slot d) k ≡ name_at items k
names_raised items slot last balance d low is k = ⊎_elim (λ same. here same) (λ differs. ap (option_and_then name_of) (get_set_other items slot k d differs)) (cases_eq k slot)
  where
    here : k ≡ slot → name_at (set items slot d) k ≡ name_at items k
    here same =
        ap (name_at (set items slot d)) same
        ∙ ap (option_and_then name_of) (get_set items slot d low)
        ∙ ap name_of is ∙ name_raised last balance (get_or items slot formats.F0)
        ∙ sym (ap (option_and_then name_of) (slice_get-get_or items slot formats.F0 low))
        ∙ ap (name_at items) (sym same)
