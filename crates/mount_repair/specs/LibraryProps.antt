-- What a library is that was read, which has one proof, for a ghost field.
use Rattle.std.specs.Prelude.{◌≡◌, List, [], ◌∷◌}
use Rattle.std.specs.List.{AllByRecursion-prop}
use Rattle.std.proofs.Props.{props}
use Rattle.chain_spec.specs.Cut.{AllFit}
use Rattle.chain_spec.specs.Kept.{joined, kept}
use Rattle.pack_spec.specs.Directories.{name_number}
use Rattle.pds_directory.specs.Directories.{IsLawfulDir, entries_read}
use Rattle.pds_directory.specs.Entries.{IsReadEntry}
use Rattle.pds_directory.specs.declared.dir.Dir.{Dir}
use Rattle.vol_model.specs.Slots.{entry_size}
use Rattle.vol_model.specs.declared.contents.Entry.{Entry}

-- A library is that of a directory that was read, whose blocks are lawful; its entries are those that count.
pub record IsLawfulLibrary (directory : Dir) (list : List Entry) : Type 0 where
  pub dir : IsLawfulDir directory
  pub entries : list ≡ kept name_number (joined (entries_read directory))

pub AllFit-prop : (blocks : List (List Entry)) → IsProp (AllFit entry_size 254 12 blocks)
AllFit-prop [] = Prim.hlevel props
AllFit-prop (b ∷ []) = Prim.hlevel props
AllFit-prop (b ∷ c ∷ cs) = Prim.hlevel (AllFit-prop (c ∷ cs), props)

pub IsReadEntry-prop : (e : Entry) → IsProp (IsReadEntry e)
IsReadEntry-prop e = Prim.hlevel (AllByRecursion-prop, props)

pub IsLawfulDir-prop : (dir : Dir) → IsProp (IsLawfulDir dir)
IsLawfulDir-prop dir = Prim.hlevel (AllFit-prop, IsReadEntry-prop, AllByRecursion-prop, props)

pub ruleset library_props = (IsLawfulDir-prop, AllByRecursion-prop, props)
