-- Small shelves, computed by the definitions of Shelf.antt and Order.antt. Each comment names a wrong definition that the case tells from the right one.
use Rattle.std.proofs.Common.{◌≡◌, ℕ, true, false, List, [], ◌∷◌, ◌++◌, refl}
use Rattle.std.specs.Prelude.{replicate, Some, None, Ok, Err}
use Rattle.ebcdic_names.specs.declared.names.Dsn.{Dsn}
use Rattle.vol_model.specs.declared.contents.DataSet.{DataSet}
use Rattle.vol_model.specs.declared.contents.Shelf.{Shelf}
use Rattle.vol_model.specs.declared.contents.Volume.{Volume}
use Rattle.vol_model.specs.declared.refusals.Refusal.{Refusal}
use Rattle.vol_model.specs.declared.refusals.Refusal.TheVariants.{NoVolume}
use Rattle.vol_model.specs.declared.requests.Op.TheVariants.{Rename}
use Rattle.vol_model.specs.Order.{in_order, is_before, rank}
use Rattle.vol_model.specs.Shelf.{number_of, rename_on, step, step_on, with_name, with_volume}

module _ (x y z w : Volume) where
  abbrev three : Shelf
  three = record { volumes = x ∷ y ∷ z ∷ [] }

  -- neither the first volume for each, nor one put in front or after
  volume_1_is_replaced : with_volume three 1 (Ok w) ≡ Ok (record { volumes = x ∷ w ∷ z ∷ [] })
  volume_1_is_replaced = refl

  refusal_is_passed_on : (r : Refusal) → with_volume three 1 (Err r) ≡ Err r
  refusal_is_passed_on r = refl

  -- the operation is on the volume of this number, not on the first
  volume_1_is_renamed : (old new : Dsn) → step three (Rename 1 old new) ≡ with_volume three 1 (rename_on old new y)
  unfolding step step_on
  volume_1_is_renamed old new = refl

  -- numbers count from 0, and the one after the last is refused
  no_volume_3 : (old new : Dsn) → step three (Rename 3 old new) ≡ Err NoVolume
  unfolding step step_on
  no_volume_3 old new = refl

-- a volume of this serial
abbrev serial_is : Volume → ℕ → Volume
serial_is x byte = record x { serial = record { bytes = byte ∷ [] } }

module _ (x : Volume) where
  abbrev serials : Shelf
  serials = record { volumes = serial_is x 1 ∷ serial_is x 2 ∷ serial_is x 2 ∷ [] }

  -- the first of two, not the last, and counted from 0
  first_of_the_serial : number_of serials (2 ∷ []) ≡ Some 1
  first_of_the_serial = refl

  -- not 0 for a serial that isn't there
  no_such_serial : number_of serials (3 ∷ []) ≡ None
  no_such_serial = refl

-- a data set of this name
abbrev named : DataSet → List ℕ → DataSet
named x name = record x { name = record { bytes = name } }

module _ (x y : DataSet) where
  -- all 44 bytes count, and as numbers without a sign
  last_byte_counts : is_before (named x (replicate 43 0xC1 ++ 0x40 ∷ [])) (named y (replicate 43 0xC1 ++ 0xF0 ∷ [])) ≡ true
  last_byte_counts = refl

  not_the_other_way : is_before (named x (replicate 43 0xC1 ++ 0xF0 ∷ [])) (named y (replicate 43 0xC1 ++ 0x40 ∷ [])) ≡ false
  not_the_other_way = refl

  -- no name stands before itself
  not_itself : is_before (named x (replicate 44 0xC1)) (named y (replicate 44 0xC1)) ≡ false
  not_itself = refl

  -- data sets move with all that they have, not their names alone; those of one name stay as they stood
  whole_sets_move : in_order (named x (0xC2 ∷ []) ∷ named y (0xC1 ∷ []) ∷ []) ≡ named y (0xC1 ∷ []) ∷ named x (0xC2 ∷ []) ∷ []
  unfolding in_order rank
  whole_sets_move = refl

  one_name_stays : in_order (named x (0xC1 ∷ []) ∷ named y (0xC1 ∷ []) ∷ []) ≡ named x (0xC1 ∷ []) ∷ named y (0xC1 ∷ []) ∷ []
  unfolding in_order rank
  one_name_stays = refl

  -- the new name alone is put in, and only over the old one
  name_alone_changes : (new : Dsn) → with_name (0xC1 ∷ []) new (named x (0xC1 ∷ [])) ≡ record x { name = new }
  name_alone_changes new = refl

  other_name_stays : (new : Dsn) → with_name (0xC1 ∷ []) new (named x (0xC2 ∷ [])) ≡ named x (0xC2 ∷ [])
  other_name_stays new = refl
