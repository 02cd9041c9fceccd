-- Data sets by their names and by their places.
use Rattle.std.proofs.Common.{◌≡◌, ℕ, zero, suc, ◌+◌, ◌≤◌, Bool, true, false, cond, List, [], ◌∷◌, ◌++◌, length, refl, sym, ◌∙◌, ap, subst, arith}
use Rattle.std.specs.Prelude.{if◌then◌else◌, Option, Some, None, is_some, option_map, option_and_then, drop, find, slice_get}
use Rattle.std.specs.List.{AllByRecursion, flat_map}
use Rattle.std.specs.Ordering.{is_lt, is_eq, nat_cmp}
use Rattle.std.specs.Cmp.Lexicographic.{slice_cmp}
use Rattle.std.specs.Str.{bytes_eq}
use Rattle.std.proofs.lemmas.Map.Text.{is_eq-slice_cmp}
use Rattle.std.proofs.lemmas.Slice.Eq.{bytes_eq-Decides}
use Rattle.std.specs.declared.cmp.Ordering.{Ordering}
use Rattle.std.specs.declared.cmp.Ordering.TheVariants.{Less, Equal, Greater}
use Rattle.ebcdic_names.specs.declared.names.Dsn.{Dsn}
use Rattle.vol_model.specs.declared.answers.SetInfo.{SetInfo}
use Rattle.vol_model.specs.declared.contents.DataSet.{DataSet}
use Rattle.vol_model.specs.declared.contents.Shelf.{Shelf}
use Rattle.vol_model.specs.declared.contents.Volume.{Volume}
use Rattle.vol_model.specs.Lawful.{IsLawful, IsLawfulVolume}
use Rattle.vol_model.specs.Order.{IsAscending, is_before}
use Rattle.vol_model.specs.declared.contents.Run.{Run}
use Rattle.vol_model.specs.declared.refusals.Refusal.TheVariants.{NoSet}
use Rattle.vol_model.specs.Reading.{extent_on, name_on, set_info}
use Rattle.util_syntax.specs.declared.listing.Outcome.TheVariants.{Done, Refused}
use Rattle.iehlist_util.specs.Lines.{extent_line, set_line}
use Rattle.iehlist_util.specs.Items.{Listing, extent_lines, lines_of_set, listed_if, listed_sets, set_lines}
use Rattle.vol_model.specs.Shelf.{has_name, set_of}
use Rattle.vol_model.specs.Slots.{slots_needed}
use Rattle.vol_model.specs.Writing.{set_on}

same_bytes : (a b : List ℕ) → bytes_eq a b ≡ true → a ≡ b
same_bytes a b = (bytes_eq-Decides a b).0

itself : (a : List ℕ) → bytes_eq a a ≡ true
itself a = (bytes_eq-Decides a a).1 refl

-- the name of a set that is found
pub found_name : (name : List ℕ) (sets : List DataSet) (x : DataSet) → find (has_name name) sets ≡ Some x → x.name.bytes ≡ name
found_name name [] x is = let never : ⊥ = cc in absurd never
found_name name (y ∷ ys) x is = by_test (has_name name y) refl is (found_name name ys x)
  where
    by_test : (t : Bool) → has_name name y ≡ t → cond t (Some y) (find (has_name name) ys) ≡ Some x → (find (has_name name) ys ≡ Some x → x.name.bytes ≡ name) → x.name.bytes ≡ name
    by_test true here is later = let same : y ≡ x = cc in ap (λ (z : DataSet). z.name.bytes) (sym same) ∙ same_bytes y.name.bytes name here
    by_test false here is later = later is

less_apart : (o : Ordering) → is_lt o ≡ true → is_eq o ≡ false
less_apart Less e = refl
less_apart Equal e = cc
less_apart Greater e = refl

before_apart : (x y : DataSet) → is_before x y ≡ true → bytes_eq x.name.bytes y.name.bytes ≡ false
before_apart x y e = sym (is_eq-slice_cmp x.name.bytes y.name.bytes) ∙ less_apart (slice_cmp nat_cmp x.name.bytes y.name.bytes) e

-- what holds of all holds of the one at a place
at_place : (P : DataSet → Type 0) (sets : List DataSet) (k : ℕ) (x : DataSet) → AllByRecursion P sets → slice_get sets k ≡ Some x → P x
at_place P [] k x all is = let never : ⊥ = cc in absurd never
at_place P (y ∷ ys) zero x all is = let same : y ≡ x = cc in subst P same all.0
at_place P (y ∷ ys) (suc k) x all is = at_place P ys k x all.1 is

-- the set at a place is found by its name
pub found_by_name : (sets : List DataSet) (k : ℕ) (x : DataSet) → IsAscending sets → slice_get sets k ≡ Some x → find (has_name x.name.bytes) sets ≡ Some x
found_by_name [] k x up is = let never : ⊥ = cc in absurd never
found_by_name (y ∷ ys) zero x up is =
    let same : y ≡ x = cc in
    let here : has_name x.name.bytes y ≡ true = ap (λ (z : DataSet). bytes_eq z.name.bytes x.name.bytes) same ∙ itself x.name.bytes in
    ap (λ (t : Bool). cond t (Some y) (find (has_name x.name.bytes) ys)) here ∙ ap (λ (z : DataSet). Some z) same
found_by_name (y ∷ ys) (suc k) x up is =
    let apart = before_apart y x (at_place (λ (z : DataSet). is_before y z ≡ true) ys k x up.0 is) in
    ap (λ (t : Bool). cond t (Some y) (find (has_name x.name.bytes) ys)) apart ∙ found_by_name ys k x up.1 is

-- ---- on a shelf

module _ (shelf : Shelf) (v : ℕ) (volume : Volume) (at : slice_get shelf.volumes v ≡ Some volume) where
  -- the set of a name
  pub set_at : (name : List ℕ) → set_on shelf v name ≡ set_of name volume
  unfolding set_on
  set_at name = ap (option_and_then (set_of name)) at

  -- the name at a place
  pub name_at : (k : ℕ) → name_on shelf v k ≡ option_map (λ (x : DataSet). x.name) (slice_get volume.sets k)
  unfolding name_on
  name_at k = ap (λ (o : Option Volume). option_map (λ (x : DataSet). x.name) (option_and_then (λ (w : Volume). slice_get w.sets k) o)) at

volume_at : (volumes : List Volume) (v : ℕ) (volume : Volume) → AllByRecursion IsLawfulVolume volumes → slice_get volumes v ≡ Some volume → IsLawfulVolume volume
volume_at [] v volume all is = let never : ⊥ = cc in absurd never
volume_at (w ∷ ws) zero volume all is = let same : w ≡ volume = cc in subst IsLawfulVolume same all.0
volume_at (w ∷ ws) (suc v) volume all is = volume_at ws v volume all.1 is

pub lawful_at : (shelf : Shelf) (v : ℕ) (volume : Volume) → IsLawful shelf → slice_get shelf.volumes v ≡ Some volume → IsLawfulVolume volume
lawful_at shelf v volume lawful at = volume_at shelf.volumes v volume lawful.volumes at

-- a volume has fewer data sets than its VTOC slots
pub few_sets : (volume : Volume) → IsLawfulVolume volume → length volume.sets ≤ 65535
unfolding slots_needed
few_sets volume lawful = omega (arith, lawful.slots, lawful.room)

-- what is told of the set at a place
pub record SetAt (volume : Volume) (k : ℕ) (dsn : Dsn) : Type 0 where
  pub x : DataSet
  pub at : slice_get volume.sets k ≡ Some x
  pub found : find (has_name dsn.bytes) volume.sets ≡ Some x

pub set_of_name : (volume : Volume) (k : ℕ) (dsn : Dsn) → IsAscending volume.sets → Some dsn ≡ option_map (λ (x : DataSet). x.name) (slice_get volume.sets k) → SetAt volume k dsn
set_of_name volume k dsn up told = by_get (slice_get volume.sets k) refl told
  where
    by_get : (o : Option DataSet) → slice_get volume.sets k ≡ o → Some dsn ≡ option_map (λ (x : DataSet). x.name) o → SetAt volume k dsn
    by_get None at told = let never : ⊥ = cc in absurd never
    by_get (Some x) at told =
        let same : dsn ≡ x.name = cc in
        record { x = x; at = at; found = ap (λ (d : Dsn). find (has_name d.bytes) volume.sets) same ∙ found_by_name volume.sets k x up at }

-- past the last set no name is told
pub no_set_left : (sets : List DataSet) (k : ℕ) → None ≡ option_map (λ (x : DataSet). x.name) (slice_get sets k) → drop k sets ≡ []
no_set_left [] zero told = refl
no_set_left [] (suc k) told = refl
no_set_left (x ∷ sets) zero told = let never : ⊥ = cc in absurd never
no_set_left (x ∷ sets) (suc k) told = no_set_left sets k told

-- what is left of a list from a place on
pub left_at : {X : Type 0} (xs : List X) (k : ℕ) (x : X) → slice_get xs k ≡ Some x → drop k xs ≡ x ∷ drop (k + 1) xs
left_at {X = X} [] k x is = let never : ⊥ = cc in absurd never
left_at {X = X} (y ∷ ys) zero x is = let same : y ≡ x = cc in ap (λ (z : X). z ∷ ys) same
left_at {X = X} (y ∷ ys) (suc k) x is = let more : suc (k + 1) ≡ suc k + 1 = omega arith in left_at ys k x is ∙ ap (λ (n : ℕ). x ∷ drop n (y ∷ ys)) more

-- nothing is left after the last place
pub none_left : {X : Type 0} (xs : List X) (k : ℕ) → length xs ≤ k → drop k xs ≡ []
none_left [] zero long = refl
none_left [] (suc k) long = refl
none_left (x ∷ xs) zero long = absurd (omega arith)
none_left (x ∷ xs) (suc k) long = none_left xs k (omega arith)

-- where a list has nothing at a place, it ends before it
pub past_end : {X : Type 0} (xs : List X) (k : ℕ) → slice_get xs k ≡ None → length xs ≤ k
past_end [] k none = omega arith
past_end (x ∷ xs) zero none = let never : ⊥ = cc in absurd never
past_end (x ∷ xs) (suc k) none = omega (arith, past_end xs k none)

-- ---- the lines of extents

module _ (shelf : Shelf) (v : ℕ) (name : List ℕ) (x : DataSet) (at : set_on shelf v name ≡ Some x) (k : ℕ) where
  extent_at : extent_on shelf v name k ≡ slice_get x.extents k
  unfolding extent_on
  extent_at = ap (option_and_then (λ (y : DataSet). slice_get y.extents k)) at

  pub next_extent : (run : Run) → Some run ≡ extent_on shelf v name k → extent_lines (k + 1) (drop k x.extents) ≡ extent_line (k + 1) run ∷ extent_lines (k + 1 + 1) (drop (k + 1) x.extents)
  next_extent run told = ap (extent_lines (k + 1)) (left_at x.extents k run (sym (told ∙ extent_at)))

  pub no_extent : None ≡ extent_on shelf v name k → extent_lines (k + 1) (drop k x.extents) ≡ []
  no_extent told = ap (extent_lines (k + 1)) (none_left x.extents k (past_end x.extents k (sym (told ∙ extent_at))))

-- ---- the lines of sets

-- the lines of the set at a place, and of those after it
pub next_set : (format : Bool) (sets : List DataSet) (k : ℕ) (x : DataSet) → slice_get sets k ≡ Some x → flat_map (set_lines format) (drop k sets) ≡ set_lines format x ++ flat_map (set_lines format) (drop (k + 1) sets)
next_set format sets k x at = ap (flat_map (set_lines format)) (left_at sets k x at)

-- ---- one set

pub set_name : (shelf : Shelf) (v : ℕ) (name : List ℕ) (x : DataSet) → set_on shelf v name ≡ Some x → x.name.bytes ≡ name
unfolding set_on
set_name shelf v name x is = by_volume (slice_get shelf.volumes v) is
  where
    by_volume : (o : Option Volume) → option_and_then (set_of name) o ≡ Some x → x.name.bytes ≡ name
    by_volume None is = let never : ⊥ = cc in absurd never
    by_volume (Some volume) is = found_name name volume.sets x is

pub info_extents : (x : DataSet) (info : SetInfo) → info ≡ set_info x → info.extents ≡ length x.extents
unfolding set_info
info_extents x info is = ap (λ (i : SetInfo). i.extents) is

-- its line, and those of its extents
pub set_parts : (format : Bool) (x : DataSet) (name : List ℕ) (info : SetInfo) → x.name.bytes ≡ name → info ≡ set_info x → set_lines format x ≡ (set_line name info ∷ []) ++ (if format then extent_lines 1 x.extents else [])
unfolding set_lines
set_parts format x name info named is =
    ap (λ (n : List ℕ). set_line n (set_info x) ∷ (if format then extent_lines 1 x.extents else [])) named ∙ ap (λ (i : SetInfo). set_line name i ∷ (if format then extent_lines 1 x.extents else [])) (sym is)

-- what a machine tells of a set
pub record TellsSet (o : Option DataSet) (info : SetInfo) : Type 0 where
  pub x : DataSet
  pub is : o ≡ Some x
  pub info_is : info ≡ set_info x

pub tells_set : (o : Option DataSet) (info : SetInfo) → Some info ≡ option_map set_info o → TellsSet o info
tells_set None info told = let never : ⊥ = cc in absurd never
tells_set (Some x) info told = let same : info ≡ set_info x = cc in record { x = x; is = refl; info_is = same }

pub no_set : (o : Option DataSet) → None ≡ option_map set_info o → o ≡ None
no_set None told = refl
no_set (Some x) told = let never : ⊥ = cc in absurd never

-- the lines of the set at a place, as it is found by its name, and of those after it
pub rest_known : (format : Bool) (shelf : Shelf) (v : ℕ) (volume : Volume) → slice_get shelf.volumes v ≡ Some volume → (k : ℕ) (dsn : Dsn) → SetAt volume k dsn
    → flat_map (set_lines format) (drop k volume.sets) ≡ lines_of_set format (set_on shelf v dsn.bytes) ++ flat_map (set_lines format) (drop (k + 1) volume.sets)
rest_known format shelf v volume at k dsn found =
    let lines : lines_of_set format (set_on shelf v dsn.bytes) ≡ set_lines format found.x = ap (lines_of_set format) (set_at shelf v volume at dsn.bytes ∙ found.found) in
    next_set format volume.sets k found.x found.at ∙ ap (λ (l : List (List ℕ)). l ++ flat_map (set_lines format) (drop (k + 1) volume.sets)) (sym lines)

-- the same, where the name was read on the shelf before
pub rest_read : (format : Bool) (old shelf : Shelf) (v : ℕ) (volume : Volume) → IsLawful old → slice_get old.volumes v ≡ Some volume → shelf ≡ old → (k : ℕ) (dsn : Dsn) → Some dsn ≡ name_on old v k
    → flat_map (set_lines format) (drop k volume.sets) ≡ lines_of_set format (set_on shelf v dsn.bytes) ++ flat_map (set_lines format) (drop (k + 1) volume.sets)
rest_read format old shelf v volume lawful at same k dsn named =
    rest_known format shelf v volume (ap (λ (s : Shelf). slice_get s.volumes v) same ∙ at) k dsn (set_of_name volume k dsn (lawful_at old v volume lawful at).order (named ∙ name_at old v volume at k))

-- ---- data sets by their names

-- what is listed after a set that is named: nothing where it isn't there
abbrev pub tail_of : Option DataSet → List (List ℕ) → List (List ℕ)
tail_of None rest = []
tail_of (Some x) rest = rest

pub tail_none : (o : Option DataSet) (rest : List (List ℕ)) → is_some o ≡ false → tail_of o rest ≡ []
tail_none None rest none = refl
tail_none (Some x) rest none = let never : ⊥ = cc in absurd never

pub tail_some : (o : Option DataSet) (rest : List (List ℕ)) → is_some o ≡ true → tail_of o rest ≡ rest
tail_some None rest some = let never : ⊥ = cc in absurd never
tail_some (Some x) rest some = refl

if_parts : (format : Bool) (o : Option DataSet) (others : Listing) → (listed_if format o others).lines ≡ lines_of_set format o ++ tail_of o others.lines
if_parts format None others = refl
if_parts format (Some x) others = refl

if_none : (format : Bool) (o : Option DataSet) (others : Listing) → is_some o ≡ false → (listed_if format o others).outcome ≡ Refused NoSet
if_none format None others none = refl
if_none format (Some x) others none = let never : ⊥ = cc in absurd never

if_some : (format : Bool) (o : Option DataSet) (others : Listing) → is_some o ≡ true → (listed_if format o others).outcome ≡ others.outcome
if_some format None others some = let never : ⊥ = cc in absurd never
if_some format (Some x) others some = refl

module _ (format : Bool) (shelf : Shelf) (v : ℕ) (volume : Volume) (at : slice_get shelf.volumes v ≡ Some volume) (rest : List Dsn) (dsn : Dsn) (dsns : List Dsn) (is : rest ≡ dsn ∷ dsns) where
  named_here : listed_sets format volume rest ≡ listed_if format (set_on shelf v dsn.bytes) (listed_sets format volume dsns)
  unfolding listed_sets
  named_here = ap (listed_sets format volume) is ∙ ap (λ (o : Option DataSet). listed_if format o (listed_sets format volume dsns)) (sym (set_at shelf v volume at dsn.bytes))

  pub named_lines : (listed_sets format volume rest).lines ≡ lines_of_set format (set_on shelf v dsn.bytes) ++ tail_of (set_on shelf v dsn.bytes) (listed_sets format volume dsns).lines
  named_lines = ap (λ (l : Listing). l.lines) named_here ∙ if_parts format (set_on shelf v dsn.bytes) (listed_sets format volume dsns)

  pub named_none : is_some (set_on shelf v dsn.bytes) ≡ false → (listed_sets format volume rest).outcome ≡ Refused NoSet
  named_none none = ap (λ (l : Listing). l.outcome) named_here ∙ if_none format (set_on shelf v dsn.bytes) (listed_sets format volume dsns) none

  pub named_some : is_some (set_on shelf v dsn.bytes) ≡ true → (listed_sets format volume rest).outcome ≡ (listed_sets format volume dsns).outcome
  named_some some = ap (λ (l : Listing). l.outcome) named_here ∙ if_some format (set_on shelf v dsn.bytes) (listed_sets format volume dsns) some

-- no name is left
pub named_all : (format : Bool) (volume : Volume) (rest : List Dsn) → rest ≡ [] → listed_sets format volume rest ≡ record { lines = []; outcome = Done }
unfolding listed_sets
named_all format volume rest none = ap (listed_sets format volume) none

pub empty_names : (rest : List Dsn) → length rest ≡ 0 → rest ≡ []
empty_names [] none = refl
empty_names (dsn ∷ dsns) none = absurd (omega arith)
