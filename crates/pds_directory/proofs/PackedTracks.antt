-- A directory is decided by the records of its tracks up to its end, and an operation on the VTOC leaves each where it is.
use Rattle.std.proofs.Common.{◌≡◌, ◌⊎◌, ◌+◌, ◌≤◌, ◌<◌, ℕ, zero, suc, Bool, true, false, cond, not, ◌&&◌, List, [], ◌∷◌, ◌++◌, length, map, Option, Some, None, Result, Ok, inl, inr, refl, sym, ap, ◌∙◌, subst, arith, append-nil, option_and_then, ◌≢◌, ◌%◌}
use Rattle.std.specs.Prelude.{◌==◌, filter, if◌then◌else◌, nat_lt, slice_get, unwrap_or}
use Rattle.std.specs.List.{AllByRecursion, filter_map, flat_map, range_with_len, sum_by}
use Rattle.std.specs.Str.{bytes_eq}
use Rattle.std.proofs.lemmas.Grind.{flat_map-append}
use Rattle.std.proofs.lemmas.List.Concat.{length-flat_map}
use Rattle.std.proofs.lemmas.List.Elements.{All-from_recursion, filter-append, recursion_from_All}
use Rattle.std.proofs.lemmas.List.FromFn.{length-range_with_len}
use Rattle.std.proofs.lemmas.List.Sorted.{All-permutation, IsPermutation-sym}
use Rattle.std.proofs.Math.Numerals.{add-one}
use Rattle.std.proofs.lemmas.Bool.{and_right, eqb-true, ne_eqb}
use Rattle.std.proofs.lemmas.Bool.Decides.{eqb_tells, nat_tests}
use Rattle.chain_spec.specs.Store.{Block as Stored}
use Rattle.ckd_image.specs.declared.header.Geometry.{Geometry}
use Rattle.ckd_image.specs.Track.{Record}
use Rattle.ckd_image.specs.declared.device.DiskType.{DiskType}
use Rattle.dscb_codec.specs.declared.F1.{F1}
use Rattle.ebcdic_names.specs.declared.names.Dsn.{Dsn}
use Rattle.ebcdic_names.specs.declared.names.Name8.{Name8}
use Rattle.vol_model.specs.declared.answers.Mode.{Mode}
use Rattle.vol_model.specs.declared.contents.Attr.{Attr}
use Rattle.vol_model.specs.declared.contents.Block.{Block}
use Rattle.vol_model.specs.declared.contents.Body.{Body}
use Rattle.vol_model.specs.declared.contents.DataSet.{DataSet}
use Rattle.vol_model.specs.declared.contents.Entry.{Entry}
use Rattle.vol_model.specs.declared.contents.Place.{Place}
use Rattle.vol_model.specs.declared.contents.Run.{Run}
use Rattle.vol_model.specs.declared.contents.Volume.{Volume}
use Rattle.vol_model.specs.declared.refusals.Refusal.{Refusal}
use Rattle.vol_model.specs.declared.refusals.Refusal.TheVariants.{DirFull, ExtentsFull, MemberExists, NoMember, NoRoom, SetExists, VtocFull, WrongKind}
use Rattle.vol_model.specs.declared.requests.Request.{Request}
use Rattle.vol_model.specs.Lawful.{IsLawfulBody, IsLawfulSet, IsOnPack, OwnsOnce, owned_runs}
use Rattle.vol_model.specs.Order.{in_order}
use Rattle.vol_model.specs.Places.{Content, content, directory_end, directory_place, is_before, placed, with_blocks}
use Rattle.vol_model.specs.Shelf.{allocate_on, drop_on, emptied, empty_on, empty_set, enter_on, extend_on, extend_set, extended_by, has_member, has_name, has_set, if_readable, if_room, if_slots, in_directory, is_catalog, is_partitioned, lacks_room, may_empty, new_attr, new_body, on_choice, on_directory, on_found, refuse, rename_on, rename_refusal, renamed, scratch_on, secondary_asked, secondary_choice, set_of, unless_refused, with_directory, with_entries, with_entry, with_extents, with_name, with_new, with_set, with_written, without_blocks, write_on, write_refusal, written}
use Rattle.vol_model.specs.Slots.{directory_needed, slots_needed}
use Rattle.vol_model.specs.Space.{choice, is_in}
use Rattle.vol_model.proofs.InOrder.{in_order-permutation}
use Rattle.vol_model.specs.declared.contents.Body.TheVariants as bodies
use Rattle.vol_model.specs.Places as places
use Rattle.pack_spec.specs.Alike.{DifferInVtoc}
use Rattle.pack_spec.specs.Blocks.{blocks_from, data_tracks, owned_tracks, records_in, upto_last}
use Rattle.pack_spec.specs.Directories.{before_end, block_entries, entries_from, first_block, new_block, new_numbers, no_entry, part_at, part_blocks, part_on, part_tracks, stored_in}
use Rattle.pack_spec.specs.Settled.{ArePacked, HasPacked, IsPacked, directory_upto}
use Rattle.pack_spec.specs.Slots.{slots_of_vtoc, tracks_in}
use Rattle.pack_spec.specs.Volume.{data_set_of, data_sets_in, volume_by, volume_of, volume_with}
use Rattle.pack_spec.proofs.BlockBodies.{front_there, map_range, vtoc_tracks}
use Rattle.pack_spec.proofs.Lawful.{lawful_volume}
use Rattle.pack_spec.specs.Label.{tracks_of}
use Rattle.pack_spec.specs.Rules.{set_in}
use Rattle.pack_spec.specs.declared.slot.VtocSlot.{VtocSlot}
use Rattle.pack_spec.proofs.NewDirectories.{IsNewFrom, IsNewOn, new_from}
use Rattle.pack_spec.proofs.NewPlaces.{end_counts, end_some}
use Rattle.vtoc_sets.proofs.Owners.{all_of, either, one_of, owned_apart, owned_some, owners, owners_more, run_at, two_of}

-- ---- one directory

-- two lists of data tracks agree on a directory on these tracks, up to its end
abbrev pub AgreeUpto : Geometry → List (List ℕ) → List (List ℕ) → List ℕ → Place → Type 0
AgreeUpto g a b owned end = (k t : ℕ) → k ≤ end.tt → slice_get owned k ≡ Some t → records_in g b (upto_last end k) t ≡ records_in g a (upto_last end k) t

at_same : (g : Geometry) (a b : List (List ℕ)) (owned : List ℕ) (end : Place) (k : ℕ) → ((t : ℕ) → slice_get owned k ≡ Some t → records_in g b (upto_last end k) t ≡ records_in g a (upto_last end k) t) → part_at g b owned end end k ≡ part_at g a owned end end k
unfolding part_at part_on
at_same g a b owned end k same = by (slice_get owned k) refl
  where
    by : (o : Option ℕ) → slice_get owned k ≡ o → option_and_then (part_on g b end end k) o ≡ option_and_then (part_on g a end end k) o
    by None there = refl
    by (Some t) there = ap (λ (o : Option (List Record)). cond ((k == end.tt) && (end.r == 0)) None (option_and_then (part_blocks end k) o)) (same t there)

pub directory_same : (g : Geometry) (a b : List (List ℕ)) (owned : List ℕ) (end : Place) → AgreeUpto g a b owned end → directory_upto g b owned end ≡ directory_upto g a owned end
unfolding part_tracks
directory_same g a b owned end agree =
    ap (λ (ts : List (Option (List Block))). before_end end (flat_map (λ o. unwrap_or o []) ts))
    (map_range (part_at g b owned end end) (part_at g a owned end end) (end.tt + 1) 0 (λ k low high. at_same g a b owned end k (λ t there. agree k t (omega (arith, high)) there)))

-- the element of a number below the length is there
there_below : (xs : List ℕ) (k : ℕ) → k < length xs → (x : ℕ) × (slice_get xs k ≡ Some x)
there_below [] k low = absurd (omega (arith, low))
there_below (x ∷ xs) zero low = (x, refl)
there_below (x ∷ xs) (suc k) low = there_below xs k (omega (arith, low))

pub directory_more : (g : Geometry) (tracks : List (List ℕ)) (owned more : List ℕ) (end : Place) → end.tt < length owned → directory_upto g tracks (owned ++ more) end ≡ directory_upto g tracks owned end
unfolding part_tracks part_at
directory_more g tracks owned more end within =
    ap (λ (ts : List (Option (List Block))). before_end end (flat_map (λ o. unwrap_or o []) ts))
    (map_range (part_at g tracks (owned ++ more) end end) (part_at g tracks owned end end) (end.tt + 1) 0 (λ k low high.
    let at = there_below owned k (omega (arith, high, within)) in
    ap (option_and_then (part_on g tracks end end k)) (front_there owned more k at.0 at.1 ∙ sym at.1)))

-- ---- the directories of data sets

-- where the directory of a body ends, if it has one that can be read
abbrev pub end_by : Body → Option Place
end_by (bodies.Part dir end entries blocks) = Some end
end_by body = None

-- what a data set has, if its directory can be read
pub packed_if : (g : Geometry) (tracks : List (List ℕ)) (extents : List Run) (body : Body) → ((end : Place) → end_by body ≡ Some end → IsPacked (directory_upto g tracks (owned_tracks extents) end)) → HasPacked g tracks extents body
packed_if g tracks extents (bodies.Part dir end entries blocks) is = is end refl
packed_if g tracks extents (bodies.Seq blocks) is = tt
packed_if g tracks extents bodies.Catalog is = tt
packed_if g tracks extents bodies.Other is = tt
packed_if g tracks extents (bodies.Unreadable k) is = tt

packed_then : (g : Geometry) (tracks : List (List ℕ)) (extents : List Run) (body : Body) (end : Place) → HasPacked g tracks extents body → end_by body ≡ Some end → IsPacked (directory_upto g tracks (owned_tracks extents) end)
packed_then g tracks extents (bodies.Part dir at entries blocks) end packed is = let same : at ≡ end = cc in subst (λ (p : Place). IsPacked (directory_upto g tracks (owned_tracks extents) p)) same packed
packed_then g tracks extents (bodies.Seq blocks) end packed is = cc
packed_then g tracks extents bodies.Catalog end packed is = cc
packed_then g tracks extents bodies.Other end packed is = cc
packed_then g tracks extents (bodies.Unreadable k) end packed is = cc

pub owned_more : (extents more : List Run) → owned_tracks (extents ++ more) ≡ owned_tracks extents ++ owned_tracks more
unfolding owned_tracks
owned_more extents more = flat_map-append tracks_in extents more

owned_length : (extents : List Run) → length (owned_tracks extents) ≡ places.tracks_in extents
unfolding owned_tracks
owned_length extents = length-flat_map tracks_in extents ∙ ap (λ (e : Run → ℕ). sum_by e extents) (λ i r. length-range_with_len r.start r.len i)

-- a directory stays packed where the data set comes to have more tracks, and those up to its end have the same records
pub packed_more : (g : Geometry) (a b : List (List ℕ)) (x y : DataSet) (more : List Run) → end_by y.body ≡ end_by x.body → y.extents ≡ x.extents ++ more
    → ((end : Place) → end_by x.body ≡ Some end → (end.tt < length (owned_tracks x.extents)) × AgreeUpto g a b (owned_tracks x.extents) end) → HasPacked g a x.extents x.body → HasPacked g b y.extents y.body
packed_more g a b x y more ends extents agree packed = packed_if g b y.extents y.body (λ end is.
    let was : end_by x.body ≡ Some end = sym ends ∙ is in
    let at = agree end was in
    let same : directory_upto g b (owned_tracks y.extents) end ≡ directory_upto g a (owned_tracks x.extents) end =
    ap (λ (xs : List Run). directory_upto g b (owned_tracks xs) end) extents
    ∙ ap (λ (ts : List ℕ). directory_upto g b ts end) (owned_more x.extents more)
    ∙ directory_more g b (owned_tracks x.extents) (owned_tracks more) end at.0
    ∙ directory_same g a b (owned_tracks x.extents) end at.1
    in
    subst IsPacked (sym same) (packed_then g a x.extents x.body end packed was))

-- ---- the directories of volumes

-- what holds of each element of a list
abbrev Each : {X : Type 0} → (X → Type 0) → List X → Type 0
Each {X} P xs = (k : ℕ) (x : X) → slice_get xs k ≡ Some x → P x

module _ {X : Type 0} (P : X → Type 0) where
  each_from : (xs : List X) → AllByRecursion P xs → Each P xs
  each_from [] all k x is = cc
  each_from (y ∷ xs) all zero x is = let same : y ≡ x = cc in subst P same all.0
  each_from (y ∷ xs) all (suc k) x is = each_from xs all.1 k x is

  each_to : (xs : List X) → Each P xs → AllByRecursion P xs
  each_to [] each = tt
  each_to (y ∷ xs) each = (each zero y refl, each_to xs (λ k x is. each (suc k) x is))

each_in_order : (P : DataSet → Type 0) (sets : List DataSet) → Each P sets → Each P (in_order sets)
each_in_order P sets each = each_from P (in_order sets) (recursion_from_All P (in_order sets) (All-permutation P sets (in_order sets) (in_order-permutation sets) (All-from_recursion P sets (each_to P sets each))))

-- The directory of a data set is that of one of these: it ends at the same place, and stands on the same tracks, with more after them or not.
pub record ComesFrom (sets : List DataSet) (y : DataSet) : Type 0 where
  pub number : ℕ
  pub set : DataSet
  pub there : slice_get sets number ≡ Some set
  pub ends : end_by y.body ≡ end_by set.body
  pub more : List Run
  pub extents : y.extents ≡ set.extents ++ more

-- and so that of each of those
abbrev pub ComeFrom : List DataSet → List DataSet → Type 0
ComeFrom sets sets' = (k : ℕ) (y : DataSet) → slice_get sets' k ≡ Some y → ComesFrom sets y

-- A step keeps the directories of a volume where they are.
pub record KeepsDirectories (w w' : Volume) : Type 0 where
  pub geometry : w'.geometry ≡ w.geometry
  pub vtoc : w'.vtoc ≡ w.vtoc
  pub sets : ComeFrom w.sets w'.sets

module _ (before after : List ℕ) (w : Volume) (stands : volume_of before ≡ Ok w) where
  abbrev g : Geometry
  g = w.geometry

  abbrev a : List (List ℕ)
  a = data_tracks before g w.vtoc

  abbrev b : List (List ℕ)
  b = data_tracks after g w.vtoc

  within : (n : ℕ) (body : Body) (end : Place) → IsLawfulBody n body → end_by body ≡ Some end → end.tt < n
  within n (bodies.Part dir at entries blocks) end lawful is = let same : at ≡ end = cc in omega (arith, lawful.end, ap (λ (p : Place). p.tt) same)
  within n (bodies.Seq blocks) end lawful is = cc
  within n bodies.Catalog end lawful is = cc
  within n bodies.Other end lawful is = cc
  within n (bodies.Unreadable k) end lawful is = cc

  -- a directory that can be read ends on a track of its set
  pub ends_within : (k : ℕ) (x : DataSet) (end : Place) → slice_get w.sets k ≡ Some x → end_by x.body ≡ Some end → end.tt < length (owned_tracks x.extents)
  ends_within k x end there is =
      let lawful = each_from (IsLawfulSet g) w.sets (lawful_volume before w stands).sets k x there in
      let low = within (places.tracks_in x.extents) x.body end lawful.body is in
      omega (arith, low, owned_length x.extents)

  -- the directory of one set
  pub packed_one : (y : DataSet) (from : ComesFrom w.sets y) → ((end : Place) → end_by from.set.body ≡ Some end → AgreeUpto g a b (owned_tracks from.set.extents) end) → ArePacked before w → HasPacked g b y.extents y.body
  packed_one y from agree packed =
      packed_more g a b from.set y from.more from.ends from.extents (λ end is. (ends_within from.number from.set end from.there is, agree end is)) (packed from.number from.set from.there)

  -- those of a volume at the same place
  pub packed_all : (w' : Volume) → w'.geometry ≡ g → w'.vtoc ≡ w.vtoc → ((k : ℕ) (y : DataSet) → slice_get w'.sets k ≡ Some y → HasPacked g b y.extents y.body) → ArePacked after w'
  packed_all w' geometry vtoc each k y there =
      subst (λ (h : Geometry). HasPacked h (data_tracks after h w'.vtoc) y.extents y.body) (sym geometry)
      (subst (λ (r : Run). HasPacked g (data_tracks after g r) y.extents y.body) (sym vtoc) (each k y there))

  -- The directories stay packed where a step keeps them where they are, and each has the same records up to its end.
  pub packed_step : (w' : Volume) → KeepsDirectories w w' → ((k : ℕ) (x : DataSet) (end : Place) → slice_get w.sets k ≡ Some x → end_by x.body ≡ Some end → AgreeUpto g a b (owned_tracks x.extents) end) → ArePacked before w → ArePacked after w'
  packed_step w' keeps agree packed = packed_all w' keeps.geometry keeps.vtoc (λ k y there.
      let from = keeps.sets k y there in packed_one y from (λ end is. agree from.number from.set end from.there is) packed)

  -- So they do where the image differs in the tracks of the VTOC alone.
  pub packed_vtoc : (w' : Volume) → DifferInVtoc g w.vtoc before after → KeepsDirectories w w' → ArePacked before w → ArePacked after w'
  packed_vtoc w' differ keeps packed = packed_step w' keeps (λ k x end there is j t low own. ap (λ (ts : List (List ℕ)). records_in g ts (upto_last end j) t) (vtoc_tracks g w.vtoc before after differ)) packed

-- ---- steps

comes_same : (sets : List DataSet) (k : ℕ) (x : DataSet) → slice_get sets k ≡ Some x → ComesFrom sets x
comes_same sets k x there = record { number = k; set = x; there = there; ends = refl; more = []; extents = sym (append-nil x.extents) }

pub same_keeps : (w : Volume) → KeepsDirectories w w
same_keeps w = record { geometry = refl; vtoc = refl; sets = λ k y there. comes_same w.sets k y there }

-- a change of a data set keeps its directory where it is
record KeepsOwn (x y : DataSet) : Type 0 where
  ends : end_by y.body ≡ end_by x.body
  more : List Run
  extents : y.extents ≡ x.extents ++ more

own_same : (x : DataSet) → KeepsOwn x x
own_same x = record { ends = refl; more = []; extents = sym (append-nil x.extents) }

comes_by : (sets : List DataSet) (k : ℕ) (x y : DataSet) → slice_get sets k ≡ Some x → KeepsOwn x y → ComesFrom sets y
comes_by sets k x y there own = record { number = k; set = x; there = there; ends = own.ends; more = own.more; extents = own.extents }

-- what stands in a list of changed elements
map_at : {X Y : Type 0} (f : X → Y) (xs : List X) (k : ℕ) (y : Y) → slice_get (map f xs) k ≡ Some y → (x : X) × (slice_get xs k ≡ Some x) × (f x ≡ y)
map_at f [] k y is = cc
map_at f (x ∷ xs) zero y is = (x, refl, cc)
map_at f (x ∷ xs) (suc k) y is = map_at f xs k y is

map_comes : (f : DataSet → DataSet) (sets : List DataSet) → ((x : DataSet) → KeepsOwn x (f x)) → ComeFrom sets (map f sets)
map_comes f sets keeps k y there =
    let at = map_at f sets k y there in comes_by sets k at.0 y at.1 (subst (KeepsOwn at.0) at.2 (keeps at.0))

set_keeps : (w : Volume) (name : List ℕ) (f : DataSet → DataSet) → ((x : DataSet) → KeepsOwn x (f x)) → KeepsDirectories w (with_set w name f)
set_keeps w name f keeps = record {
  geometry = refl;
  vtoc = refl;
  sets = map_comes (λ x. if has_name name x then f x else x) w.sets (λ x. by x (has_name name x));
}
  where
    by : (x : DataSet) (b : Bool) → KeepsOwn x (if b then f x else x)
    by x true = keeps x
    by x false = own_same x

refuse_ok : {X : Type 0} (b : Bool) (r : Refusal) (rest : Result X Refusal) (y : X) → refuse b r rest ≡ Ok y → rest ≡ Ok y
refuse_ok true r rest y is = cc
refuse_ok false r rest y is = is

found_ok : {X : Type 0} (o : Option DataSet) (f : DataSet → Result X Refusal) (y : X) → on_found o f ≡ Ok y → (x : DataSet) × (f x ≡ Ok y)
found_ok None f y is = cc
found_ok (Some x) f y is = (x, is)

readable_ok : {X : Type 0} (body : Body) (rest : Result X Refusal) (y : X) → if_readable body rest ≡ Ok y → rest ≡ Ok y
readable_ok (bodies.Unreadable k) rest y is = cc
readable_ok (bodies.Part dir end entries blocks) rest y is = is
readable_ok (bodies.Seq blocks) rest y is = is
readable_ok bodies.Catalog rest y is = is
readable_ok bodies.Other rest y is = is

choice_ok : {X : Type 0} (asked : ℕ) (o : Option (List Run)) (f : List Run → Result X Refusal) (y : X) → on_choice asked o f ≡ Ok y → (runs : List Run) × (o ≡ Some runs) × (f runs ≡ Ok y)
choice_ok asked None f y is = cc
choice_ok asked (Some runs) f y is = (runs, refl, is)

unless_ok : {X : Type 0} (o : Option Refusal) (x y : X) → unless_refused o x ≡ Ok y → x ≡ y
unless_ok None x y is = cc
unless_ok (Some r) x y is = cc

slots_ok : (v w : Volume) → if_slots v ≡ Ok w → v ≡ w
slots_ok v w is = let same : Ok v ≡ Ok w = refuse_ok (nat_lt v.slots (slots_needed v)) (VtocFull (slots_needed v)) (Ok v) w is in cc

room_ok : (lacks : Bool) (v w : Volume) → if_room lacks v ≡ Ok w → v ≡ w
room_ok lacks v w is =
    let one = refuse_ok (nat_lt v.slots (slots_needed v)) (VtocFull (slots_needed v)) (refuse lacks NoRoom (Ok v)) w is in
    let same : Ok v ≡ Ok w = refuse_ok lacks NoRoom (Ok v) w one in cc

-- another name
pub rename_keeps : (old new : Dsn) (w w' : Volume) → rename_on old new w ≡ Ok w' → KeepsDirectories w w'
unfolding rename_on renamed
rename_keeps old new w w' is = subst (KeepsDirectories w) (unless_ok (rename_refusal w old.bytes new.bytes) (renamed w old.bytes new) w' is) (record {
  geometry = refl;
  vtoc = refl;
  sets = each_in_order (ComesFrom w.sets) (map (with_name old.bytes new) w.sets) (map_comes (with_name old.bytes new) w.sets (λ x. by x (has_name old.bytes x)));
})
  where
    by : (x : DataSet) (b : Bool) → KeepsOwn x (if b then record x { name = new } else x)
    by x true = record { ends = refl; more = []; extents = sym (append-nil x.extents) }
    by x false = own_same x

-- a data set less
filter_at : (p : DataSet → Bool) (sets : List DataSet) (k : ℕ) (y : DataSet) → slice_get (filter p sets) k ≡ Some y → (j : ℕ) × (slice_get sets j ≡ Some y)
filter_at p [] k y is = cc
filter_at p (x ∷ sets) k y is = by (p x) (λ j at. filter_at p sets j y at) k is
  where
    by : (b : Bool) → ((j : ℕ) → slice_get (filter p sets) j ≡ Some y → (j : ℕ) × (slice_get sets j ≡ Some y)) → (k : ℕ) → slice_get (cond b (x ∷ filter p sets) (filter p sets)) k ≡ Some y → (j : ℕ) × (slice_get (x ∷ sets) j ≡ Some y)
    by true later zero is = (zero, is)
    by true later (suc k) is = let rest = later k is in (suc rest.0, rest.1)
    by false later k is = let rest = later k is in (suc rest.0, rest.1)

pub scratch_keeps : (dsn : Dsn) (w w' : Volume) → scratch_on dsn w ≡ Ok w' → KeepsDirectories w w'
unfolding scratch_on
scratch_keeps dsn w w' is =
    let left : Volume = record w { sets = filter (λ y. not (has_name dsn.bytes y)) w.sets; catalog = if is_catalog dsn.bytes then None else w.catalog } in
    let found = found_ok (set_of dsn.bytes w) (λ x. Ok left) w' is in
    let same : left ≡ w' = cc in
    subst (KeepsDirectories w) same (record {
      geometry = refl;
      vtoc = refl;
      sets = λ k y there. let at = filter_at (λ y. not (has_name dsn.bytes y)) w.sets k y there in comes_same w.sets at.0 y at.1;
    })

-- more extents
pub extend_keeps : (dsn : Dsn) (w w' : Volume) → extend_on dsn w ≡ Ok w' → KeepsDirectories w w'
unfolding extend_on
extend_keeps dsn w w' is =
    let found = found_ok (set_of dsn.bytes w) (extend_set dsn w) w' is in
    let x : DataSet = found.0 in
    let chosen = on_choice (secondary_asked x.attr) (secondary_choice w x.attr) (extended_by dsn w x) in
    let one = refuse_ok (is_catalog dsn.bytes) WrongKind (if_readable x.body chosen) w' found.1 in
    let two = readable_ok x.body chosen w' one in
    let three = choice_ok (secondary_asked x.attr) (secondary_choice w x.attr) (extended_by dsn w x) w' two in
    let runs : List Run = three.0 in
    let after : Volume = with_set w dsn.bytes (with_extents runs) in
    let four = refuse_ok (nat_lt 16 (length x.extents + length runs)) ExtentsFull (if_slots after) w' three.2 in
    subst (KeepsDirectories w) (slots_ok after w' four) (set_keeps w dsn.bytes (with_extents runs) (λ y. record { ends = refl; more = runs; extents = refl }))

-- a set emptied
empty_ends : (body : Body) → end_by (without_blocks body) ≡ end_by body
empty_ends (bodies.Part dir end entries blocks) = refl
empty_ends (bodies.Seq blocks) = refl
empty_ends bodies.Catalog = refl
empty_ends bodies.Other = refl
empty_ends (bodies.Unreadable k) = refl

pub empty_keeps : (dsn : Dsn) (attr : Attr) (w w' : Volume) → empty_on dsn attr w ≡ Ok w' → KeepsDirectories w w'
unfolding empty_on
empty_keeps dsn attr w w' is =
    let found = found_ok (set_of dsn.bytes w) (empty_set dsn attr w) w' is in
    let x : DataSet = found.0 in
    let after : Volume = with_set w dsn.bytes (emptied attr) in
    let one = refuse_ok (not (may_empty dsn.bytes x.attr x.body)) WrongKind (if_readable x.body (Ok after)) w' found.1 in
    let two : Ok after ≡ Ok w' = readable_ok x.body (Ok after) w' one in
    let same : after ≡ w' = cc in
    subst (KeepsDirectories w) same (set_keeps w dsn.bytes (emptied attr) (λ y. record { ends = empty_ends y.body; more = []; extents = sym (append-nil y.extents) }))

-- blocks after those of a set
blocks_ends : (body : Body) (bs : List Block) → end_by (with_blocks body bs) ≡ end_by body
blocks_ends (bodies.Part dir end entries blocks) bs = refl
blocks_ends (bodies.Seq blocks) bs = refl
blocks_ends bodies.Catalog bs = refl
blocks_ends bodies.Other bs = refl
blocks_ends (bodies.Unreadable k) bs = refl

pub write_keeps : (mode : Mode) (dsn : Dsn) (cs : List Content) (w w' : Volume) → write_on mode dsn cs w ≡ Ok w' → KeepsDirectories w w'
unfolding write_on
write_keeps mode dsn cs w w' is =
    let f : DataSet → DataSet = with_written w.geometry.device mode cs in
    subst (KeepsDirectories w) (unless_ok (write_refusal mode dsn w) (with_set w dsn.bytes f) w' is)
    (set_keeps w dsn.bytes f (λ y. record { ends = blocks_ends y.body (placed w.geometry.device y.body (written mode y.body cs)); more = []; extents = sym (append-nil y.extents) }))

-- other entries in a directory
entries_ends : (entries : List Entry) (body : Body) → end_by (with_directory entries body) ≡ end_by body
entries_ends entries (bodies.Part dir end old blocks) = refl
entries_ends entries (bodies.Seq blocks) = refl
entries_ends entries bodies.Catalog = refl
entries_ends entries bodies.Other = refl
entries_ends entries (bodies.Unreadable k) = refl

entries_keep : (dsn : Dsn) (entries : List Entry) (w : Volume) → KeepsDirectories w (with_set w dsn.bytes (with_entries entries))
entries_keep dsn entries w = set_keeps w dsn.bytes (with_entries entries) (λ y. record { ends = entries_ends entries y.body; more = []; extents = sym (append-nil y.extents) })

directory_ok : (dsn : Dsn) (w w' : Volume) (f : ℕ → List Entry → Result Volume Refusal) → on_directory dsn w f ≡ Ok w' → (dir : ℕ) × (entries : List Entry) × (f dir entries ≡ Ok w')
directory_ok dsn w w' f is =
    let found = found_ok (set_of dsn.bytes w) (λ x. refuse (not (is_partitioned dsn.bytes x.attr)) WrongKind (in_directory x.body f)) w' is in
    by found.0.body (refuse_ok (not (is_partitioned dsn.bytes found.0.attr)) WrongKind (in_directory found.0.body f) w' found.1)
  where
    by : (body : Body) → in_directory body f ≡ Ok w' → (dir : ℕ) × (entries : List Entry) × (f dir entries ≡ Ok w')
    by (bodies.Part dir end entries blocks) is = (dir, entries, is)
    by (bodies.Seq blocks) is = cc
    by bodies.Catalog is = cc
    by bodies.Other is = cc
    by (bodies.Unreadable k) is = cc

pub enter_keeps : (dsn : Dsn) (e : Entry) (replace : Bool) (w w' : Volume) → enter_on dsn e replace w ≡ Ok w' → KeepsDirectories w w'
unfolding enter_on
enter_keeps dsn e replace w w' is =
    let at = directory_ok dsn w w' (λ dir entries. refuse (not replace && has_member e.name.bytes entries) MemberExists
    (refuse (nat_lt dir (directory_needed (with_entry e entries))) (DirFull (directory_needed (with_entry e entries))) (Ok (with_set w dsn.bytes (with_entries (with_entry e entries)))))) is in
    let after : List Entry = with_entry e at.1 in
    let result : Volume = with_set w dsn.bytes (with_entries after) in
    let full : Result Volume Refusal = refuse (nat_lt at.0 (directory_needed after)) (DirFull (directory_needed after)) (Ok result) in
    let one = refuse_ok (not replace && has_member e.name.bytes at.1) MemberExists full w' at.2 in
    let two : Ok result ≡ Ok w' = refuse_ok (nat_lt at.0 (directory_needed after)) (DirFull (directory_needed after)) (Ok result) w' one in
    let same : result ≡ w' = cc in
    subst (KeepsDirectories w) same (entries_keep dsn after w)

pub drop_keeps : (dsn : Dsn) (name : Name8) (w w' : Volume) → drop_on dsn name w ≡ Ok w' → KeepsDirectories w w'
unfolding drop_on
drop_keeps dsn name w w' is =
    let left : List Entry → List Entry = λ entries. filter (λ (e : Entry). not (bytes_eq e.name.bytes name.bytes)) entries in
    let at = directory_ok dsn w w' (λ dir entries. refuse (not (has_member name.bytes entries)) NoMember (Ok (with_set w dsn.bytes (with_entries (left entries))))) is in
    let result : Volume = with_set w dsn.bytes (with_entries (left at.1)) in
    let one : Ok result ≡ Ok w' = refuse_ok (not (has_member name.bytes at.1)) NoMember (Ok result) w' at.2 in
    let same : result ≡ w' = cc in
    subst (KeepsDirectories w) same (entries_keep dsn (left at.1) w)

-- A data set is a new one with these tracks, or its directory is that of one of these.
abbrev pub IsNewOrOld : Dsn → Attr → ℕ → Volume → List Run → DataSet → Type 0
IsNewOrOld dsn attr dir w runs y = ((y.extents ≡ runs) × (y.body ≡ new_body w.geometry.device dsn.bytes attr dir)) ⊎ ComesFrom w.sets y

-- A step adds a new data set to a volume, on tracks chosen for it, and keeps the directories of the others where they are.
pub record AddsSet (dsn : Dsn) (attr : Attr) (q : Request) (dir : ℕ) (w w' : Volume) : Type 0 where
  pub geometry : w'.geometry ≡ w.geometry
  pub vtoc : w'.vtoc ≡ w.vtoc
  pub runs : List Run
  pub chosen : choice w q.unit q.contig q.primary ≡ Some runs
  pub right : (if dir == 0 then is_partitioned dsn.bytes attr else not (is_partitioned dsn.bytes attr)) ≡ false
  pub roomy : lacks_room w.geometry.device dsn.bytes dir (places.tracks_in runs) ≡ false
  pub sets : Each (IsNewOrOld dsn attr dir w runs) w'.sets

pub allocate_adds : (dsn : Dsn) (attr : Attr) (q : Request) (dir : ℕ) (w w' : Volume) → allocate_on dsn attr q dir w ≡ Ok w' → AddsSet dsn attr q dir w w'
unfolding allocate_on
allocate_adds dsn attr q dir w w' is =
    let name : List ℕ = dsn.bytes in
    let wrong : Bool = if dir == 0 then is_partitioned name attr else not (is_partitioned name attr) in
    let given : List Run → Result Volume Refusal = λ runs. if_room (lacks_room w.geometry.device name dir (places.tracks_in runs)) (with_new dsn attr q dir w runs) in
    let chosen : Result Volume Refusal = on_choice q.primary (choice w q.unit q.contig q.primary) given in
    let one = refuse_ok (has_set w name) SetExists (refuse wrong WrongKind chosen) w' is in
    let two = refuse_tells wrong WrongKind chosen w' one in
    let at = choice_ok q.primary (choice w q.unit q.contig q.primary) given w' two.1 in
    let runs : List Run = at.0 in
    let x : DataSet = record { name = dsn; attr = new_attr name attr q; extents = runs; body = new_body w.geometry.device name attr dir } in
    let after : Volume = with_new dsn attr q dir w runs in
    let lacks : Bool = lacks_room w.geometry.device name dir (places.tracks_in runs) in
    let three = refuse_ok (nat_lt after.slots (slots_needed after)) (VtocFull (slots_needed after)) (refuse lacks NoRoom (Ok after)) w' at.2 in
    let four = refuse_tells lacks NoRoom (Ok after) w' three in
    let ok : Ok after ≡ Ok w' = four.1 in
    let same : after ≡ w' = cc in
    subst (AddsSet dsn attr q dir w) same (record {
      geometry = refl;
      vtoc = refl;
      runs = runs;
      chosen = at.1;
      right = two.0;
      roomy = four.0;
      sets = each_in_order (IsNewOrOld dsn attr dir w runs) (x ∷ w.sets) (both x w.sets (inl (refl, refl)) (λ k y there. inr (comes_same w.sets k y there)));
    })
  where
    refuse_tells : (b : Bool) (r : Refusal) (rest : Result Volume Refusal) (y : Volume) → refuse b r rest ≡ Ok y → (b ≡ false) × (rest ≡ Ok y)
    refuse_tells true r rest y is = cc
    refuse_tells false r rest y is = (refl, is)

    both : {P : DataSet → Type 0} (x : DataSet) (sets : List DataSet) → P x → Each P sets → Each P (x ∷ sets)
    both {P} x sets first others zero y there = let same : x ≡ y = cc in subst P same first
    both x sets first others (suc k) y there = others k y there

-- ---- what owns a track

-- A lawful volume owns no track twice.
module _ (w : Volume) (once : OwnsOnce w) where
  -- the runs of a data set
  abbrev runs : DataSet → List Run
  runs x = x.extents

  abbrev first_run : Run
  first_run = record { start = 0; len = 1 }

  sets_once : (t : ℕ) → owners t (all_of runs w.sets) ≤ 1
  sets_once t = omega (arith, once t, owners_more t first_run (w.vtoc ∷ all_of runs w.sets), owners_more t w.vtoc (all_of runs w.sets))

  -- no track of a data set is one of another
  pub sets_apart : (j k : ℕ) (x y : DataSet) → slice_get w.sets j ≡ Some x → slice_get w.sets k ≡ Some y → j ≢ k → (m n t : ℕ) → slice_get (owned_tracks x.extents) m ≡ Some t → slice_get (owned_tracks y.extents) n ≡ Some t → ⊥
  sets_apart j k x y first second apart m n t mine other = omega (arith, sets_once t, two_of runs t w.sets j k x y first second apart, owned_some x.extents m t mine, owned_some y.extents n t other)

  -- and each stands once among its tracks
  pub own_apart : (j : ℕ) (x : DataSet) → slice_get w.sets j ≡ Some x → (m n t : ℕ) → slice_get (owned_tracks x.extents) m ≡ Some t → slice_get (owned_tracks x.extents) n ≡ Some t → m ≡ n
  own_apart j x there m n t first second = owned_apart x.extents m n t first second (omega (arith, sets_once t, one_of runs t w.sets j x there))

  not_both : (b : Bool) (n m p : ℕ) → n ≤ 1 → n ≡ p + m → p ≡ cond b 1 0 → 1 ≤ m → b ≡ false
  not_both true n m p most is e low = absurd (omega (arith, most, is, e, low))
  not_both false n m p most is e low = refl

  -- and not in the VTOC
  pub outside : (j : ℕ) (x : DataSet) → slice_get w.sets j ≡ Some x → (m t : ℕ) → slice_get (owned_tracks x.extents) m ≡ Some t → is_in t w.vtoc ≡ false
  outside j x there m t own =
      let all : List Run = all_of runs w.sets in
      let mine : 1 ≤ owners t all = omega (arith, one_of runs t w.sets j x there, owned_some x.extents m t own) in
      let most : owners t (w.vtoc ∷ all) ≤ 1 = omega (arith, once t, owners_more t first_run (w.vtoc ∷ all)) in
      not_both (is_in t w.vtoc) (owners t (w.vtoc ∷ all)) (owners t all) (cond (is_in t w.vtoc) 1 0) most (owners_more t w.vtoc all) refl mine

  -- the track of a set is owned
  pub owned_by : (j : ℕ) (x : DataSet) → slice_get w.sets j ≡ Some x → (m t : ℕ) → slice_get (owned_tracks x.extents) m ≡ Some t → 1 ≤ owners t (owned_runs w)
  owned_by j x there m t own = omega (arith, one_of runs t w.sets j x there, owned_some x.extents m t own, owners_more t first_run (w.vtoc ∷ all_of runs w.sets), owners_more t w.vtoc (all_of runs w.sets))

tracks_inside : (g : Geometry) (rs : List Run) → AllByRecursion (IsOnPack g) rs → (k t : ℕ) → slice_get (owned_tracks rs) k ≡ Some t → t < tracks_of g
unfolding owned_tracks
tracks_inside g [] on k t is = cc
tracks_inside g (r ∷ rs) on k t is = elim (either (tracks_in r) (flat_map tracks_in rs) k t is) [
  | inl w ↦ let at = run_at r.start r.len k t w in let here = on.0 in omega (arith, at.0, at.1, here.1)
  | inr w ↦ tracks_inside g rs on.1 w.0 t w.2
]

-- each track of a set is on the pack
pub on_pack : (image : List ℕ) (w : Volume) → volume_of image ≡ Ok w → (j : ℕ) (x : DataSet) → slice_get w.sets j ≡ Some x → (m t : ℕ) → slice_get (owned_tracks x.extents) m ≡ Some t → t < tracks_of w.geometry
on_pack image w stands j x there m t own =
    let set = each_from (IsLawfulSet w.geometry) w.sets (lawful_volume image w stands).sets j x there in
    tracks_inside w.geometry x.extents set.extents m t own

-- ---- images that have the same bytes of a track, or the same records

-- ---- the data sets of the format 1s in slots

in_order_has : (sets : List DataSet) (m : ℕ) (x : DataSet) → slice_get sets m ≡ Some x → (j : ℕ) × (slice_get (in_order sets) j ≡ Some x)
in_order_has sets m x there =
    let P : DataSet → Type 0 = λ y. (j : ℕ) × (slice_get (in_order sets) j ≡ Some y) in
    each_from P sets (recursion_from_All P sets (All-permutation P (in_order sets) sets (IsPermutation-sym sets (in_order sets) (in_order-permutation sets)) (All-from_recursion P (in_order sets) (each_to P (in_order sets) (λ j y at. (j, at)))))) m x there

map_has : {X Y : Type 0} (f : X → Y) (xs : List X) (m : ℕ) (x : X) → slice_get xs m ≡ Some x → slice_get (map f xs) m ≡ Some (f x)
map_has {Y = Y} f [] m x is = cc
map_has {Y = Y} f (y ∷ xs) zero x is = let same : y ≡ x = cc in ap (λ z. Some (f z)) same
map_has {Y = Y} f (y ∷ xs) (suc m) x is = map_has f xs m x is

-- a format 1 in slots of an image is that of one of the volume's sets
pub set_there : (image : List ℕ) (g : Geometry) (vtoc : Run) (m : ℕ) (f : F1) → slice_get (filter_map (λ (s : VtocSlot). set_in s.content) (slots_of_vtoc image g vtoc)) m ≡ Some f
    → (j : ℕ) × (slice_get (volume_by image g vtoc).sets j ≡ Some (data_set_of g (data_tracks image g vtoc) (slots_of_vtoc image g vtoc) f))
unfolding volume_with data_sets_in
set_there image g vtoc m f there =
    let h : F1 → DataSet = data_set_of g (data_tracks image g vtoc) (slots_of_vtoc image g vtoc) in
    let fs : List F1 = filter_map (λ (s : VtocSlot). set_in s.content) (slots_of_vtoc image g vtoc) in
    in_order_has (map h fs) m (h f) (map_has h fs m f there)

-- ---- a new directory

module _ (g : Geometry) (tracks : List (List ℕ)) (owned : List ℕ) (device : DiskType) (n : ℕ) (some : 1 ≤ n) where
  abbrev new_end : Place
  new_end = directory_end device n

  -- the records of its first track are blocks of it, with the end-of-file record after them or not
  first_blocks : (new : IsNewOn g tracks owned device n 0) → IsNewFrom new_end 0 1 new.xs (new_numbers device n 0)
  first_blocks new = new_from new_end 0 (new_end.tt == 0) (new_numbers device n 0) new.xs 1 new.holds before at
    where
      earlier : (p : Place) (q : ℕ) → 0 < p.tt → is_before (record { tt = 0; r = q }) p ≡ true
      earlier p q less = grind (arith, nat_tests)

      same_track : (p : Place) (q : ℕ) → 0 ≡ p.tt → q < p.r → is_before (record { tt = 0; r = q }) p ≡ true
      same_track p q same less = grind (arith, nat_tests)

      counted : 0 ≡ new_end.tt → new_end.r ≡ suc (length (new_numbers device n 0))
      counted same = omega (arith, end_counts device n some, ap (λ (k : ℕ). length (new_numbers device n k)) same)

      before : (q : ℕ) → 1 ≤ q → q < 1 + length (new_numbers device n 0) → is_before (record { tt = 0; r = q }) new_end ≡ true
      before q least most = elim (eqb_tells 0 new_end.tt) [
        | inl w ↦ same_track new_end q w.1 (omega (arith, most, counted w.1))
        | inr w ↦ earlier new_end q (omega (arith, w.1))
      ]

      at : (new_end.tt == 0) ≡ true → (0 ≡ new_end.tt) × (1 + length (new_numbers device n 0) ≡ new_end.r)
      at ends = let same : 0 ≡ new_end.tt = sym (eqb-true new_end.tt 0 ends) in (same, omega (arith, counted same))

  first_read : (new : IsNewOn g tracks owned device n 0) → part_at g tracks owned new_end new_end 0 ≡ Some (blocks_from 0 1 new.xs)
  unfolding part_at part_on
  first_read new =
      let r_some : ((0 == new_end.tt) && (new_end.r == 0)) ≡ false = and_right (0 == new_end.tt) (new_end.r == 0) (ne_eqb new_end.r 0 (λ e. omega (arith, e, end_some device n))) in
      ap (option_and_then (part_on g tracks new_end new_end 0)) new.there
      ∙ ap (λ (b : Bool). cond b None (option_and_then (part_blocks new_end 0) (records_in g tracks (upto_last new_end 0) new.track))) r_some
      ∙ ap (option_and_then (part_blocks new_end 0)) new.records
      ∙ ap (λ (b : Bool). cond b (Some (blocks_from 0 1 new.xs)) None) (first_blocks new).stand

  -- its first block is the first of all
  first_number : (m : ℕ) → 1 ≤ m → (is : List ℕ) × (new_numbers device m 0 ≡ 0 ∷ is)
  unfolding new_numbers
  first_number zero low = absurd (omega (arith, low))
  first_number (suc m) low = (filter (λ i. (directory_place device i).tt == 0) (range_with_len 1 m), refl)

  first_content : (bs : List Block) (is : List ℕ) → map content bs ≡ map new_block (0 ∷ is) → (b : Block) × (rest : List Block) × (bs ≡ b ∷ rest) × (content b ≡ new_block 0)
  first_content [] is same = absurd (cc)
  first_content (b ∷ rest) is same = (b, rest, refl, cc)

  stored_first : (b : Block) → content b ≡ new_block 0 → stored_in b ≡ Some (no_entry true)
  unfolding first_block block_entries entries_from
  stored_first b is = ap (λ (c : Content). block_entries (map (λ x. x % 256) c.1)) is

  packed_first : (bs : List Block) (b : Block) (rest : List Block) → bs ≡ b ∷ rest → content b ≡ new_block 0 → IsPacked bs
  packed_first bs b rest parts is = record {
    blocks = [] ∷ [];
    behind = map stored_in rest;
    store = ap (map stored_in) parts ∙ ap (λ (o : Option (Stored Entry)). o ∷ map stored_in rest) (stored_first b is);
    cut = record { holds = refl; fits = omega arith; full = tt };
  }

  front_more : (first : List Block) (others : List Block) (b : Block) (rest : List Block) → before_end new_end first ≡ b ∷ rest → before_end new_end (first ++ others) ≡ b ∷ (rest ++ before_end new_end others)
  front_more first others b rest is = filter-append (λ (c : Block). is_before c.place new_end) first others ∙ ap (λ (l : List Block). l ++ before_end new_end others) is

  -- A new directory is packed: its first block ends it.
  pub new_packed : IsNewOn g tracks owned device n 0 → IsPacked (directory_upto g tracks owned new_end)
  unfolding part_tracks
  new_packed new =
      let at : ℕ → Option (List Block) = part_at g tracks owned new_end new_end in
      let others : List Block = flat_map (λ o. unwrap_or o []) (map at (range_with_len 1 new_end.tt)) in
      let number = first_number n some in
      let first = first_content (before_end new_end (blocks_from 0 1 new.xs)) number.0 ((first_blocks new).blocks ∙ ap (map new_block) number.1) in
      let long : range_with_len 0 (new_end.tt + 1) ≡ 0 ∷ range_with_len 1 new_end.tt = ap (range_with_len 0) (add-one new_end.tt) in
      let all : directory_upto g tracks owned new_end ≡ first.0 ∷ (first.1 ++ before_end new_end others) =
      ap (λ (ks : List ℕ). before_end new_end (flat_map (λ o. unwrap_or o []) (map at ks))) long
      ∙ ap (λ (o : Option (List Block)). before_end new_end (unwrap_or o [] ++ others)) (first_read new)
      ∙ front_more (blocks_from 0 1 new.xs) others first.0 first.1 first.2
      in
      packed_first (directory_upto g tracks owned new_end) first.0 (first.1 ++ before_end new_end others) all first.3
