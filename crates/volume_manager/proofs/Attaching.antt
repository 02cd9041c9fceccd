-- Files that are attached in order.
use Rattle.std.proofs.Common.{◌≡◌, ◌∙◌, ℕ, ◌+◌, ◌<◌, ◌++◌, Bool, true, false, List, [], ◌∷◌, drop, get_or, length, map, refl, sym, ap, arith}
use Rattle.std.proofs.lemmas.List.{drop_more, get_or-map, get_or-take, length-map, length-take, take-append-drop, take_more}
use Rattle.std.proofs.lemmas.Option.{slice_get-get_or}
use Rattle.std.specs.Prelude.{Contains, Option, Some, None, is_none, slice_get, take, if◌then◌else◌}
use Rattle.hall_core.specs.Facts.{Attached, Facts}
use Rattle.shelf_machine.specs.Opening.{AreApart}
use Rattle.stop_model.specs.Files.{File, file_of}
use Rattle.volume_manager.specs.Run.{AttachesFirst}
use Rattle.volume_manager.specs.Task.{missing_of}

-- the names of attached files
abbrev pub names_in : List Attached → List (List ℕ)
names_in units = map (λ (u : Attached). u.name) units

pub names_append : (xs ys : List Attached) → names_in (xs ++ ys) ≡ names_in xs ++ names_in ys
names_append [] ys = refl
names_append (x ∷ xs) ys = ap (λ (l : List (List ℕ)). x.name ∷ l) (names_append xs ys)

-- where the first names aren't missing, the next is the first that may be
found_first : (files : List File) (xs : List (List ℕ)) (rest : List (List ℕ)) → missing_of files xs ≡ None → missing_of files (xs ++ rest) ≡ missing_of files rest
found_first files [] rest none = refl
found_first files (x ∷ xs) rest none = by_test (is_none (file_of files x)) none (found_first files xs rest)
  where
    by_test : (b : Bool) → (if b then Some x else missing_of files xs) ≡ None → (missing_of files xs ≡ None → missing_of files (xs ++ rest) ≡ missing_of files rest) → (if b then Some x else missing_of files (xs ++ rest)) ≡ missing_of files rest
    by_test true is others = absurd (cc is)
    by_test false is others = others is

-- one more file that is there
pub found_more : (files : List File) (xs : List (List ℕ)) (x image : List ℕ) → missing_of files xs ≡ None → file_of files x ≡ Some image → missing_of files (xs ++ x ∷ []) ≡ None
found_more files xs x image none there = found_first files xs (x ∷ []) none ∙ ap (λ (o : Option (List ℕ)). if is_none o then Some x else None) there

-- the next file is missing
pub missing_next : (files : List File) (xs : List (List ℕ)) (x : List ℕ) (rest : List (List ℕ)) → missing_of files xs ≡ None → file_of files x ≡ None → missing_of files (xs ++ x ∷ rest) ≡ Some x
missing_next files xs x rest none gone = found_first files xs (x ∷ rest) none ∙ ap (λ (o : Option (List ℕ)). if is_none o then Some x else missing_of files rest) gone

-- the next of the files that have these names
module _ {X : Type 0} (f : X → List ℕ) (xs : List X) (i : ℕ) (d : X) (below : i < length xs) where
  inside : i < length (map f xs)
  inside = omega (arith, below, length-map xs f)

  next_name : get_or (map f xs) i [] ≡ f (get_or xs i d)
  next_name = get_or-map f xs i d [] below

  pub names_more : take (i + 1) (map f xs) ≡ take i (map f xs) ++ f (get_or xs i d) ∷ []
  names_more = take_more (map f xs) i [] inside ∙ ap (λ (n : List ℕ). take i (map f xs) ++ n ∷ []) next_name

  pub names_rest : map f xs ≡ take i (map f xs) ++ f (get_or xs i d) ∷ drop (i + 1) (map f xs)
  names_rest =
      sym (take-append-drop i (map f xs))
      ∙ ap (λ (l : List (List ℕ)). take i (map f xs) ++ l) (drop_more (map f xs) i [] inside ∙ ap (λ (n : List ℕ). n ∷ drop (i + 1) (map f xs)) next_name)

  -- it isn't among those before
  pub not_yet : AreApart (map f xs) → Contains (take i (map f xs)) (f (get_or xs i d)) → ⊥
  not_yet apart found =
      let names = map f xs in
      let name = f (get_or xs i d) in
      let few : found.0 < i = omega (arith, found.1, length-take i names) in
      let there : slice_get names found.0 ≡ Some name =
      slice_get-get_or names found.0 name (omega (arith, few, inside)) ∙ ap Some (sym (get_or-take i names found.0 name few) ∙ found.2) in
      let same = apart found.0 i name there (slice_get-get_or names i [] inside ∙ ap Some next_name) in
      omega (arith, few, same)

-- nothing is attached yet
pub attaches_none : (names : List (List ℕ)) (old new : Facts) → old.units ≡ [] → new.units ≡ [] → AttachesFirst names old new
attaches_none names old new none same = (0, [], refl, same ∙ ap (λ (us : List Attached). us ++ []) (sym none))

-- files were attached where none was before
pub attaches_named : (names : List (List ℕ)) (count : ℕ) (old new : Facts) → old.units ≡ [] → names_in new.units ≡ take count names → AttachesFirst names old new
attaches_named names count old new none named = (count, new.units, named, ap (λ (us : List Attached). us ++ new.units) (sym none))
