-- Why a set can't get another name, by the slots of the index.
use Rattle.std.proofs.Common.{◌≡◌, ◌≢◌, ◌∙◌, ℕ, List, Bool, true, false, Option, Some, None, refl}
use Rattle.std.specs.Prelude.{◌||◌, Ok, Err, is_some, position}
use Rattle.ebcdic_names.specs.declared.names.Dsn.{Dsn}
use Rattle.pack_spec.specs.Volume.{volume_of}
use Rattle.vol_model.specs.Shelf.{is_catalog, rename_on}
use Rattle.vol_model.specs.declared.contents.Volume.{Volume}
use Rattle.vol_model.specs.declared.refusals.Refusal.TheVariants.{NoSet, SetExists, WrongKind}
use Rattle.vtoc_index.specs.Index.{IsMounted, first_named}
use Rattle.vtoc_index.specs.declared.vol.Vol.{Vol}
use Rattle.dadsm_ops.proofs.FoundSets.{named_alike}
use Rattle.slot_laws.proofs.FoundSlots.{has_named}
use Rattle.dadsm_ops.proofs.RenamedImages.{rename_no_set, rename_set_exists, rename_wrong_kind, slots_on_image}

-- what is there
there : (o : Option ℕ) → is_some o ≡ true → (x : ℕ) × (o ≡ Some x)
there None is = absurd (cc is)
there (Some x) is = (x, refl)

-- what isn't
gone : (o : Option ℕ) → is_some o ≡ false → o ≡ None
gone None is = refl
gone (Some x) is = absurd (cc is)

-- what can't be missing
held : (o : Option ℕ) → o ≢ None → (x : ℕ) × (o ≡ Some x)
held None is = absurd (is refl)
held (Some x) is = (x, refl)

-- either of two
first_of_two : (a b : Bool) → a ≡ true → (a || b) ≡ true
first_of_two true b is = refl
first_of_two false b is = absurd (cc is)

second_of_two : (a b : Bool) → b ≡ true → (a || b) ≡ true
second_of_two true b is = refl
second_of_two false b is = is

module _ (image : List ℕ) (v : Vol) (old new : Dsn) (volume : Volume) (mounted : IsMounted image v) (stands : volume_of image ≡ Ok volume) where
  -- a name in the index is one on the image
  alike : (name : List ℕ) → position (has_named name) (slots_on_image image v) ≡ first_named name v.slots.items
  alike name = named_alike name v.slots.items (slots_on_image image v) mounted.index.slots

  -- no set has the old name
  pub refused_no_set : first_named old.bytes v.slots.items ≡ None → rename_on old new volume ≡ Err NoSet
  refused_no_set none = rename_no_set image v old new volume mounted stands (alike old.bytes ∙ none)

  -- one has the new name
  pub refused_set_exists : first_named old.bytes v.slots.items ≢ None → is_some (first_named new.bytes v.slots.items) ≡ true → rename_on old new volume ≡ Err SetExists
  refused_set_exists found exists =
      let slot = held (first_named old.bytes v.slots.items) found in
      let taken = there (first_named new.bytes v.slots.items) exists in
      rename_set_exists image v old new volume mounted stands slot.0 taken.0 (alike old.bytes ∙ slot.1) (alike new.bytes ∙ taken.1)

  -- a name is the catalog's: either, the old one, or the new one
  catalog_named : first_named old.bytes v.slots.items ≢ None → is_some (first_named new.bytes v.slots.items) ≡ false → (is_catalog old.bytes || is_catalog new.bytes) ≡ true → rename_on old new volume ≡ Err WrongKind
  catalog_named found absent catalog =
      let slot = held (first_named old.bytes v.slots.items) found in
      rename_wrong_kind image v old new volume mounted stands slot.0 (alike old.bytes ∙ slot.1) (alike new.bytes ∙ gone (first_named new.bytes v.slots.items) absent) catalog

  pub refused_old_catalog : first_named old.bytes v.slots.items ≢ None → is_some (first_named new.bytes v.slots.items) ≡ false → is_catalog old.bytes ≡ true → rename_on old new volume ≡ Err WrongKind
  refused_old_catalog found absent is = catalog_named found absent (first_of_two (is_catalog old.bytes) (is_catalog new.bytes) is)

  pub refused_new_catalog : first_named old.bytes v.slots.items ≢ None → is_some (first_named new.bytes v.slots.items) ≡ false → is_catalog new.bytes ≡ true → rename_on old new volume ≡ Err WrongKind
  refused_new_catalog found absent is = catalog_named found absent (second_of_two (is_catalog old.bytes) (is_catalog new.bytes) is)
