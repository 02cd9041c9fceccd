-- The names of a volume's data sets are those of the slots, in the order of names.
use Rattle.std.proofs.Common.{◌≡◌, ◌⊎◌, inl, inr, ℕ, zero, suc, ◌+◌, ◌<◌, Bool, true, false, cond, List, [], ◌∷◌, length, map, take, get_or, Option, Some, None, Result, Ok, Err, refl, sym, ap, subst, ◌∙◌, arith}
use Rattle.std.specs.Prelude.{◌==◌, ◌||◌, is_some, option_and_then, slice_get, unwrap_or}
use Rattle.std.specs.BTreeSet.{BTreeSet}
use Rattle.std.specs.List.{AllByRecursion, cons_option, filter_map, list_any}
use Rattle.std.specs.List.Sorted.{IsStrictlySortedBy}
use Rattle.std.specs.Option.{option_map}
use Rattle.std.specs.declared.cmp.Ordering.{Ordering}
use Rattle.std.specs.declared.cmp.Ordering.TheVariants.{Less, Equal, Greater}
use Rattle.std.specs.Ordering.{is_eq, is_lt, nat_cmp}
use Rattle.std.specs.Cmp.Lexicographic.{slice_cmp}
use Rattle.std.specs.Str.{bytes_eq}
use Rattle.std.proofs.lemmas.Cmp.{nat_list_cmp_total}
use Rattle.std.proofs.lemmas.List.{length-map}
use Rattle.std.proofs.lemmas.Map.Lookups.{btree_set_from_contains, exact_bytes}
use Rattle.std.proofs.lemmas.Map.Text.{is_eq-slice_cmp}
use Rattle.std.proofs.lemmas.Option.{slice_get-get_or, slice_get-map}
use Rattle.std.proofs.lemmas.Slice.Eq.{bytes_eq-Decides}
use Rattle.ckd_image.specs.declared.header.Geometry.{Geometry}
use Rattle.dscb_codec.specs.declared.Dscb.{Dscb}
use Rattle.dscb_codec.specs.declared.F1.{F1}
use Rattle.ebcdic_names.specs.declared.names.Dsn.{Dsn}
use Rattle.pack_spec.specs.declared.slot.VtocSlot.{VtocSlot}
use Rattle.pack_spec.specs.Rules.{set_in}
use Rattle.pack_spec.specs.Blocks.{data_tracks}
use Rattle.pack_spec.specs.Volume.{data_set_of, data_sets_in, volume_by, volume_of, volume_with}
use Rattle.pack_spec.proofs.SetNames.{sets_among}
use Rattle.vol_model.specs.declared.contents.DataSet.{DataSet}
use Rattle.vol_model.specs.Order.{IsAscending, in_order, is_before}
use Rattle.vol_model.proofs.Steps.{any_in_order}
use Rattle.ckd_image.proofs.GeometryLemmas.{has_geometry}
use Rattle.pack_spec.specs.Slots.{slots_of_vtoc}
use Rattle.pack_spec.proofs.Lawful.{lawful_with}
use Rattle.vol_model.specs.declared.contents.Volume.{Volume}
use Rattle.vtoc_index.specs.declared.vol.Vol.{Vol}
use Rattle.vtoc_index.specs.Index.{AreDscbs, IsMounted}
use Rattle.vtoc_index.specs.Names.{AreByName, name_at, name_in, names_of, or_zeros}
use Rattle.vtoc_index.proofs.NameOrder.{any_place, compare, place_named, name_there, names_there, slice_some, some_name, truth}
use Rattle.vtoc_index.proofs.NamesRead.{names_alike}

-- the name of a data set
abbrev bytes_of : DataSet → List ℕ
bytes_of x = x.name.bytes

lt_less : (o : Ordering) → is_lt o ≡ true → o ≡ Less
lt_less Less is = refl
lt_less Equal is = cc
lt_less Greater is = cc

each_less : (x : DataSet) (xs : List DataSet) → AllByRecursion (λ y. is_before x y ≡ true) xs → AllByRecursion (λ m. slice_cmp nat_cmp (bytes_of x) m ≡ Less) (map bytes_of xs)
each_less x [] up = tt
each_less x (y ∷ ys) up = (lt_less (slice_cmp nat_cmp (bytes_of x) (bytes_of y)) up.0, each_less x ys up.1)

-- data sets in order have rising names
ordered : (xs : List DataSet) → IsAscending xs → IsStrictlySortedBy (slice_cmp nat_cmp) (map bytes_of xs)
unfolding IsStrictlySortedBy
ordered [] up = tt
ordered (x ∷ xs) up = (each_less x xs up.0, ordered xs up.1)

-- a name is among those of lists
abbrev is_among : List ℕ → List (List ℕ) → Bool
is_among n names = list_any (λ m. is_eq (slice_cmp nat_cmp n m)) names

same_test : (n m : List ℕ) → n ≡ m → is_eq (slice_cmp nat_cmp n m) ≡ true
same_test n m is = is_eq-slice_cmp n m ∙ (bytes_eq-Decides n m).1 is

test_same : (n m : List ℕ) → is_eq (slice_cmp nat_cmp n m) ≡ true → n ≡ m
test_same n m is = (bytes_eq-Decides n m).0 (sym (is_eq-slice_cmp n m) ∙ is)

-- by places
among_at : (names : List (List ℕ)) (i : ℕ) (n : List ℕ) → slice_get names i ≡ Some n → is_among n names ≡ true
among_at [] i n is = cc
among_at (m ∷ ms) zero n is = let same : n ≡ m = cc in ap (λ (b : Bool). b || is_among n ms) (same_test n m same)
among_at (m ∷ ms) (suc i) n is = by_test (is_eq (slice_cmp nat_cmp n m)) (among_at ms i n is)
  where
    by_test : (b : Bool) → is_among n ms ≡ true → (b || is_among n ms) ≡ true
    by_test true more = refl
    by_test false more = more

at_among : (names : List (List ℕ)) (n : List ℕ) → is_among n names ≡ true → (i : ℕ) × (slice_get names i ≡ Some n)
at_among [] n is = cc
at_among (m ∷ ms) n is = by_test (is_eq (slice_cmp nat_cmp n m)) refl (λ more. at_among ms n more) is
  where
    by_test : (b : Bool) → is_eq (slice_cmp nat_cmp n m) ≡ b → (is_among n ms ≡ true → (i : ℕ) × (slice_get ms i ≡ Some n)) → (b || is_among n ms) ≡ true → (i : ℕ) × (slice_get (m ∷ ms) i ≡ Some n)
    by_test true test more given = (0, ap Some (sym (test_same n m test)))
    by_test false test more given = let found = more given in (suc found.0, found.1)

-- two tests of which each tells the other
both_ways : (b c : Bool) → (b ≡ true → c ≡ true) → (c ≡ true → b ≡ true) → b ≡ c
both_ways true c to from = sym (to refl)
both_ways false true to from = from refl
both_ways false false to from = refl

-- the names of the data sets in slots
set_at : (g : Geometry) (tracks : List (List ℕ)) (ss some : List VtocSlot) (k : ℕ) (n : List ℕ) → name_in some k ≡ Some n → (i : ℕ) × (slice_get (map bytes_of (map (data_set_of g tracks ss) (sets_among some))) i ≡ Some n)
unfolding data_set_of
set_at g tracks ss [] k n is = cc
set_at g tracks ss (s ∷ some) zero n is = by_set (set_in s.content) is
  where
    by_set : (o : Option F1) → option_map (λ f. f.name) o ≡ Some n → (i : ℕ) × (slice_get (map bytes_of (map (data_set_of g tracks ss) (cons_option o (sets_among some)))) i ≡ Some n)
    by_set None is = cc
    by_set (Some f) is = (0, is)
set_at g tracks ss (s ∷ some) (suc k) n is = by_set (set_in s.content) (set_at g tracks ss some k n is)
  where
    by_set : (o : Option F1) → (i : ℕ) × (slice_get (map bytes_of (map (data_set_of g tracks ss) (sets_among some))) i ≡ Some n) → (i : ℕ) × (slice_get (map bytes_of (map (data_set_of g tracks ss) (cons_option o (sets_among some)))) i ≡ Some n)
    by_set None more = more
    by_set (Some f) more = (suc more.0, more.1)

at_set : (g : Geometry) (tracks : List (List ℕ)) (ss some : List VtocSlot) (i : ℕ) (n : List ℕ) → slice_get (map bytes_of (map (data_set_of g tracks ss) (sets_among some))) i ≡ Some n → (k : ℕ) × (name_in some k ≡ Some n)
unfolding data_set_of
at_set g tracks ss [] i n is = cc
at_set g tracks ss (s ∷ some) i n is = by_set (set_in s.content) refl i (λ j more. at_set g tracks ss some j n more) is
  where
    by_set : (o : Option F1) → set_in s.content ≡ o → (j : ℕ) → ((l : ℕ) → slice_get (map bytes_of (map (data_set_of g tracks ss) (sets_among some))) l ≡ Some n → (k : ℕ) × (name_in some k ≡ Some n))
        → slice_get (map bytes_of (map (data_set_of g tracks ss) (cons_option o (sets_among some)))) j ≡ Some n → (k : ℕ) × (name_in (s ∷ some) k ≡ Some n)
    by_set None here j more given = let found = more j given in (suc found.0, found.1)
    by_set (Some f) here zero more given = (0, ap (option_map (λ h. h.name)) here ∙ given)
    by_set (Some f) here (suc j) more given = let found = more j given in (suc found.0, found.1)

any_map : (n : List ℕ) (xs : List DataSet) → is_among n (map bytes_of xs) ≡ list_any (λ x. is_eq (slice_cmp nat_cmp n (bytes_of x))) xs
any_map n [] = refl
any_map n (x ∷ xs) = ap (λ (b : Bool). is_eq (slice_cmp nat_cmp n (bytes_of x)) || b) (any_map n xs)

module _ (g : Geometry) (tracks : List (List ℕ)) (ds : List Dscb) (ss : List VtocSlot) (by_name : List ℕ) (are : AreDscbs ds ss) (order : AreByName (name_at ds) by_name) (up : IsAscending (in_order (data_sets_in g tracks ss))) where
  abbrev held : List (List ℕ)
  held = names_of (name_at ds) by_name

  abbrev meant : List (List ℕ)
  meant = map bytes_of (in_order (data_sets_in g tracks ss))

  to_slot : (n : List ℕ) → is_among n held ≡ true → (k : ℕ) × (name_in ss k ≡ Some n)
  to_slot n is =
      let at = at_among held n is in
      let long : length held ≡ length by_name = length-map by_name (λ s. or_zeros (name_at ds s)) in
      let there = slice_some held at.0 n at.1 in
      let low : at.0 < length by_name = omega (arith, there.0, long) in
      let named = name_there (name_at ds) by_name order at.0 low in
      let same : named.0 ≡ n = sym (names_there (name_at ds) by_name order at.0 named.0 [] low named.1) ∙ there.1 [] in
      (get_or by_name at.0 0, names_alike ds ss are (get_or by_name at.0 0) ∙ named.1 ∙ ap Some same)

  from_slot : (n : List ℕ) (k : ℕ) → name_in ss k ≡ Some n → is_among n held ≡ true
  from_slot n k is =
      let named = sym (names_alike ds ss are k) ∙ is in
      let p = place_named (name_at ds) by_name order k n named in
      let here : name_at ds (get_or by_name p.0 0) ≡ Some n = ap (name_at ds) p.2 ∙ named in
      let long : length held ≡ length by_name = length-map by_name (λ s. or_zeros (name_at ds s)) in
      among_at held p.0 n (slice_get-get_or held p.0 [] (omega (arith, p.1, long)) ∙ ap Some (names_there (name_at ds) by_name order p.0 n [] p.1 here))

  -- the same names
  same_members : (n : List ℕ) → is_among n held ≡ is_among n meant
  unfolding data_sets_in
  same_members n =
      let any : is_among n meant ≡ is_among n (map bytes_of (data_sets_in g tracks ss)) =
      any_map n (in_order (data_sets_in g tracks ss)) ∙ any_in_order (λ x. is_eq (slice_cmp nat_cmp n (bytes_of x))) (data_sets_in g tracks ss) ∙ sym (any_map n (data_sets_in g tracks ss)) in
      both_ways (is_among n held) (is_among n (map bytes_of (data_sets_in g tracks ss)))
      (λ is. let slot = to_slot n is in let at = set_at g tracks ss ss slot.0 n slot.1 in among_at _ at.0 n at.1)
      (λ is. let at = at_among _ n is in let slot = at_set g tracks ss ss at.0 n at.1 in from_slot n slot.0 slot.1)
      ∙ sym any

  -- in the same order
  same_names : held ≡ meant
  same_names =
      btree_set_from_contains nat_list_cmp_total (record { keys = held }) (record { keys = meant }) order.rise (ordered (in_order (data_sets_in g tracks ss)) up) (λ n. same_members n) exact_bytes

  -- the k-th of them
  pub kth_name : (k : ℕ) → option_map (λ s. or_zeros (name_at ds s)) (slice_get by_name k) ≡ option_map bytes_of (slice_get (in_order (data_sets_in g tracks ss)) k)
  kth_name k = sym (slice_get-map (λ s. or_zeros (name_at ds s)) by_name k) ∙ ap (λ (l : List (List ℕ)). slice_get l k) same_names ∙ slice_get-map bytes_of (in_order (data_sets_in g tracks ss)) k

-- the name of the k-th data set of a mounted volume
pub name_of_kth : (image : List ℕ) (v : Vol) (volume : Volume) (k : ℕ) → IsMounted image v → volume_of image ≡ Ok volume → AreByName (name_at v.slots.items) v.by_name.items
    → option_map (λ s. record { bytes = or_zeros (name_at v.slots.items s) }) (slice_get v.by_name.items k) ≡ option_map (λ (x : DataSet). x.name) (slice_get volume.sets k)
unfolding volume_with
name_of_kth image v volume k mounted is order =
    let g = v.geometry in
    let ss = slots_of_vtoc image g v.vtoc in
    let same : volume_by image g v.vtoc ≡ volume = cc (mounted.volume, is) in
    let up = (lawful_with (length image) image g v.vtoc (has_geometry (take 512 image) (length image) g mounted.index.header) mounted.vtoc mounted.lawful mounted.whole).order in
    let kth = kth_name g (data_tracks image g v.vtoc) v.slots.items ss v.by_name.items mounted.index.slots order up k in
    as_names (slice_get v.by_name.items k) ∙ ap (option_map dsn) kth ∙ to_names (slice_get (in_order (data_sets_in g (data_tracks image g v.vtoc) ss)) k)
    ∙ ap (λ (w : Volume). option_map (λ (x : DataSet). x.name) (slice_get w.sets k)) same
  where
    dsn : List ℕ → Dsn
    dsn b = record { bytes = b }

    as_names : (o : Option ℕ) → option_map (λ s. record { bytes = or_zeros (name_at v.slots.items s) }) o ≡ option_map dsn (option_map (λ s. or_zeros (name_at v.slots.items s)) o)
    as_names None = refl
    as_names (Some s) = refl

    to_names : (o : Option DataSet) → option_map dsn (option_map bytes_of o) ≡ option_map (λ (x : DataSet). x.name) o
    to_names None = refl
    to_names (Some x) = refl
