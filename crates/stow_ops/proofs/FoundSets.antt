-- The data set of a format 1 on the volume of its image, and what an operation on its directory makes of it.
use Rattle.std.proofs.Common.{◌≡◌, ◌≤◌, ℕ, zero, suc, Bool, true, false, cond, not, ◌&&◌, List, [], ◌∷◌, length, map, filter, Option, Some, Result, Ok, Err, refl, sym, ap, ◌∙◌, subst, arith}
use Rattle.std.specs.Prelude.{find, nat_lt, slice_get}
use Rattle.std.specs.List.{AllByRecursion, IsDistinct}
use Rattle.std.specs.Str.{bytes_eq}
use Rattle.std.proofs.lemmas.Bool.Decides.{nat_tests}
use Rattle.chain_spec.specs.Cut.{IsCut, needed}
use Rattle.chain_spec.specs.Kept.{joined, kept}
use Rattle.chain_spec.proofs.NeededLemmas.{needed_is_length}
use Rattle.dscb_codec.specs.declared.F1.{F1}
use Rattle.ebcdic_names.specs.declared.names.Name8.{Name8}
use Rattle.pack_spec.specs.Directories.{name_number}
use Rattle.pack_spec.specs.Rules.{name_faults}
use Rattle.pack_spec.specs.Volume.{attr_of, data_set_of, data_sets_in, volume_by, volume_of, volume_with}
use Rattle.pack_spec.proofs.BodyKinds.{partitioned_body}
use Rattle.pack_spec.proofs.Lawful.{groups_hold}
use Rattle.pack_spec.proofs.SetNames.{names_apart, same_name}
use Rattle.shelf_laws.proofs.Needed.{fewer_needed}
use Rattle.vol_model.specs.declared.contents.Body.{Body}
use Rattle.vol_model.specs.declared.contents.Body.TheVariants as bodies
use Rattle.vol_model.specs.declared.contents.DataSet.{DataSet}
use Rattle.vol_model.specs.declared.contents.Entry.{Entry}
use Rattle.vol_model.specs.declared.contents.Volume.{Volume}
use Rattle.vol_model.specs.declared.refusals.Refusal.{Refusal}
use Rattle.vol_model.specs.declared.refusals.Refusal.TheVariants.{DirFull, MemberExists, NoMember, WrongKind}
use Rattle.vol_model.specs.Order.{in_order}
use Rattle.vol_model.specs.Shelf.{drop_on, enter_on, has_member, has_name, in_directory, is_partitioned, on_directory, on_found, refuse, set_of, with_entries, with_entry, with_set}
use Rattle.vol_model.specs.Slots.{directory_needed, entry_size}
use Rattle.vol_model.proofs.Steps.{ascending_in_order}
use Rattle.vtoc_index.specs.declared.vol.Vol.{Vol}
use Rattle.vtoc_sets.specs.Sets.{extents_in}
use Rattle.pds_directory.specs.declared.dir.Dir.{Dir}
use Rattle.pds_directory.specs.Directories.{IsPartIn, IsReadIn, data_in, end_in, entries_read, members_in}
use Rattle.slot_laws.proofs.ChangedNames.{filter_in_order}
use Rattle.stow_ops.specs.Stores.{MakesEntries}
use Rattle.stow_ops.proofs.ChangedEntries.{eq_name, other_name}
use Rattle.pds_directory.proofs.PartSets.{among, fs, slots}

-- the first that passes is the first of those that do
find_first : (p : DataSet → Bool) (xs : List DataSet) → find p xs ≡ slice_get (filter p xs) 0
find_first p [] = refl
find_first p (x ∷ xs) = by_test (p x) (find_first p xs)
  where
    by_test : (b : Bool) → find p xs ≡ slice_get (filter p xs) 0 → cond b (Some x) (find p xs) ≡ slice_get (cond b (x ∷ filter p xs) (filter p xs)) 0
    by_test true rest = refl
    by_test false rest = rest

swapped : (a b : List ℕ) → bytes_eq a b ≡ false → bytes_eq b a ≡ false
swapped a b apart = other_name b a (λ same. let both : true ≡ false = sym (eq_name a b (sym same)) ∙ apart in cc)

module _ (image : List ℕ) (v : Vol) (f : F1) (part : IsPartIn image v f) where
  abbrev set_as : F1 → DataSet
  set_as x = data_set_of v.geometry (data_in image v) (slots image v f part) x

  abbrev is_it : DataSet → Bool
  is_it = has_name f.name

  named : (x : F1) → is_it (set_as x) ≡ bytes_eq x.name f.name
  unfolding data_set_of
  named x = refl

  skipped : (x : F1) (xs : List F1) → bytes_eq x.name f.name ≡ false → filter is_it (map set_as (x ∷ xs)) ≡ filter is_it (map set_as xs)
  skipped x xs apart = ap (λ (b : Bool). cond b (set_as x ∷ filter is_it (map set_as xs)) (filter is_it (map set_as xs))) (named x ∙ apart)

  none_of : (xs : List F1) → AllByRecursion (λ (x : F1). same_name f x ≡ false) xs → filter is_it (map set_as xs) ≡ []
  none_of [] all = refl
  none_of (x ∷ xs) all = skipped x xs (swapped f.name x.name all.0) ∙ none_of xs all.1

  one_of : (xs : List F1) (m : ℕ) → IsDistinct same_name xs → slice_get xs m ≡ Some f → filter is_it (map set_as xs) ≡ set_as f ∷ []
  unfolding IsDistinct
  one_of [] m apart is = cc
  one_of (x ∷ xs) zero apart is =
      let here : x ≡ f = cc in
      subst (λ (y : F1). filter is_it (map set_as (y ∷ xs)) ≡ set_as f ∷ []) (sym here)
      (ap (λ (b : Bool). cond b (set_as f ∷ filter is_it (map set_as xs)) (filter is_it (map set_as xs))) (named f ∙ eq_name f.name f.name refl)
      ∙ ap (λ (l : List DataSet). set_as f ∷ l) (none_of xs (subst (λ (y : F1). AllByRecursion (λ (z : F1). same_name y z ≡ false) xs) here apart.0)))
  one_of (x ∷ xs) (suc m) apart is = skipped x xs (other xs m apart.0 is) ∙ one_of xs m apart.1 is
    where
      other : (ys : List F1) (k : ℕ) → AllByRecursion (λ (z : F1). same_name x z ≡ false) ys → slice_get ys k ≡ Some f → bytes_eq x.name f.name ≡ false
      other [] k all is = cc
      other (y ∷ ys) zero all is = let here : f ≡ y = cc in ap (λ (z : F1). same_name x z) here ∙ all.0
      other (y ∷ ys) (suc k) all is = other ys k all.1 is

  distinct : IsDistinct same_name (fs image v f part)
  unfolding name_faults
  distinct = names_apart (slots image v f part) (groups_hold v.geometry (slots image v f part) part.set.mounted.lawful).2

  abbrev volume : Volume
  volume = volume_by image v.geometry v.vtoc

  -- the data set that is found by its name
  found : set_of f.name volume ≡ Some (set_as f)
  unfolding volume_with data_sets_in
  found =
      let sets : List DataSet = map set_as (fs image v f part) in
      find_first is_it (in_order sets)
      ∙ ap (λ (l : List DataSet). slice_get l 0)
      (filter_in_order is_it sets
      ∙ ap in_order (one_of (fs image v f part) (among image v f part).0 distinct (among image v f part).1)
      ∙ ascending_in_order (set_as f ∷ []) (tt, tt))

  module _ (dir : Dir) (read : IsReadIn image v f dir) where
    abbrev n : ℕ
    n = length dir.places.items

    abbrev list : List Entry
    list = kept name_number (joined (entries_read dir))

    abbrev make : Body → DataSet
    make body = record { name = record { bytes = f.name }; attr = attr_of f; extents = extents_in image v f; body = body }

    set_is : set_as f ≡ make (bodies.Part n (end_in image v f) list (members_in image v f))
    unfolding data_set_of
    set_is = ap make (partitioned_body v.geometry (data_in image v) f.name (attr_of f) (extents_in image v f) f.lstar part.partitioned ∙ read.body)

    on_read : (operation : ℕ → List Entry → Result Volume Refusal) → on_directory (record { bytes = f.name }) volume operation ≡ operation n list
    on_read operation =
        ap (λ (o : Option DataSet). on_found o (λ x. refuse (not (is_partitioned f.name x.attr)) WrongKind (in_directory x.body operation))) (found ∙ ap (λ (x : DataSet). Some x) set_is)
        ∙ ap (λ (b : Bool). refuse (not b) WrongKind (operation n list)) part.partitioned

    same_volume : (w : Volume) → volume_of image ≡ Ok w → volume ≡ w
    same_volume w stands = let same : Ok volume ≡ Ok w = sym part.set.mounted.volume ∙ stands in cc

    module _ (e : Entry) (replace : Bool) where
      pub makes_enter : (entries : List Entry) → entries ≡ with_entry e list → (not replace && has_member e.name.bytes list) ≡ false → MakesEntries (enter_on (record { bytes = f.name }) e replace) image f n entries
      unfolding enter_on
      makes_enter entries is allowed w stands =
          subst (λ (u : Volume). enter_on (record { bytes = f.name }) e replace u ≡ refuse (nat_lt n (directory_needed entries)) (DirFull (directory_needed entries)) (Ok (with_set u f.name (with_entries entries)))) (same_volume w stands)
          (on_read (λ dir entries.
          refuse (not replace && has_member e.name.bytes entries) MemberExists
          (refuse (nat_lt dir (directory_needed (with_entry e entries))) (DirFull (directory_needed (with_entry e entries))) (Ok (with_set volume f.name (with_entries (with_entry e entries))))))
          ∙ ap (λ (b : Bool). refuse b MemberExists (refuse (nat_lt n (directory_needed (with_entry e list))) (DirFull (directory_needed (with_entry e list))) (Ok (with_set volume f.name (with_entries (with_entry e list)))))) allowed
          ∙ ap (λ (es : List Entry). refuse (nat_lt n (directory_needed es)) (DirFull (directory_needed es)) (Ok (with_set volume f.name (with_entries es)))) (sym is))

      -- an entry of the name is there
      pub enter_refused : replace ≡ false → has_member e.name.bytes list ≡ true → enter_on (record { bytes = f.name }) e replace volume ≡ Err MemberExists
      unfolding enter_on
      enter_refused not_replaced there =
          on_read (λ dir entries.
          refuse (not replace && has_member e.name.bytes entries) MemberExists
          (refuse (nat_lt dir (directory_needed (with_entry e entries))) (DirFull (directory_needed (with_entry e entries))) (Ok (with_set volume f.name (with_entries (with_entry e entries))))))
          ∙ ap (λ (b : Bool). refuse b MemberExists (refuse (nat_lt n (directory_needed (with_entry e list))) (DirFull (directory_needed (with_entry e list))) (Ok (with_set volume f.name (with_entries (with_entry e list))))))
          (ap (λ (b : Bool). not b && has_member e.name.bytes list) not_replaced ∙ there)

    module _ (name : Name8) where
      abbrev rest : List Entry
      rest = filter (λ (e : Entry). not (bytes_eq e.name.bytes name.bytes)) list

      -- fewer entries fit the blocks that all fit
      fits_still : IsCut entry_size 254 12 (entries_read dir) list → length (entries_read dir) ≤ n → nat_lt n (directory_needed rest) ≡ false
      unfolding directory_needed
      fits_still cut room =
          let few : needed entry_size 254 12 rest ≤ needed entry_size 254 12 list = fewer_needed entry_size 254 12 (λ (e : Entry). not (bytes_eq e.name.bytes name.bytes)) list in
          not_more n (needed entry_size 254 12 rest) (omega (arith, few, needed_is_length entry_size 254 12 (entries_read dir) list cut, room))
        where
          not_more : (m k : ℕ) → k ≤ m → nat_lt m k ≡ false
          not_more m k low = grind (arith, nat_tests)

      pub makes_drop : (entries : List Entry) → entries ≡ rest → has_member name.bytes list ≡ true → IsCut entry_size 254 12 (entries_read dir) list → length (entries_read dir) ≤ n → MakesEntries (drop_on (record { bytes = f.name }) name) image f n entries
      unfolding drop_on
      makes_drop entries is there cut room w stands =
          subst (λ (u : Volume). drop_on (record { bytes = f.name }) name u ≡ refuse (nat_lt n (directory_needed entries)) (DirFull (directory_needed entries)) (Ok (with_set u f.name (with_entries entries)))) (same_volume w stands)
          (on_read (λ dir entries.
          refuse (not (has_member name.bytes entries)) NoMember
          (Ok (with_set volume f.name (with_entries (filter (λ (e : Entry). not (bytes_eq e.name.bytes name.bytes)) entries)))))
          ∙ ap (λ (b : Bool). refuse (not b) NoMember (Ok (with_set volume f.name (with_entries rest)))) there
          ∙ sym (ap (λ (b : Bool). refuse b (DirFull (directory_needed rest)) (Ok (with_set volume f.name (with_entries rest)))) (fits_still cut room))
          ∙ ap (λ (es : List Entry). refuse (nat_lt n (directory_needed es)) (DirFull (directory_needed es)) (Ok (with_set volume f.name (with_entries es)))) (sym is))

      -- no entry has the name
      pub drop_refused : has_member name.bytes list ≡ false → drop_on (record { bytes = f.name }) name volume ≡ Err NoMember
      unfolding drop_on
      drop_refused none =
          on_read (λ dir entries.
          refuse (not (has_member name.bytes entries)) NoMember
          (Ok (with_set volume f.name (with_entries (filter (λ (e : Entry). not (bytes_eq e.name.bytes name.bytes)) entries)))))
          ∙ ap (λ (b : Bool). refuse (not b) NoMember (Ok (with_set volume f.name (with_entries rest)))) none
