-- A shelf stays lawful where a data set is allocated.
use Rattle.std.proofs.Common.{◌≡◌, ◌+◌, ◌*◌, ◌/◌, ◌^◌, ◌≤◌, ◌<◌, ◌==◌, ℕ, suc, Bool, true, false, not, ◌&&◌, ◌||◌, List, [], ◌∷◌, ◌++◌, length, refl, sym, ◌∙◌, ap, subst, arith}
use Rattle.std.proofs.Math.Nat.{mul-le-mul_right}
use Rattle.std.proofs.lemmas.Bool.Decides.{nat_tests}
use Rattle.std.proofs.lemmas.List.Sums.{sum_by-cons}
use Rattle.std.proofs.lemmas.Slice.Eq.{bytes_eq-Decides}
use Rattle.std.specs.Prelude.{Option, Some, Result, Ok, is_some, nat_le, nat_lt, if◌then◌else◌}
use Rattle.std.specs.List.{AllByRecursion, IsDistinct, list_any}
use Rattle.std.specs.Str.{bytes_eq}
use Rattle.ckd_image.specs.declared.device.DiskType.{DiskType}
use Rattle.ckd_image.specs.declared.device.DiskType.TheVariants.{D2311, D2314, D3330, D3350}
use Rattle.ckd_image.specs.Device.{row_of}
use Rattle.ebcdic_names.specs.declared.names.Dsn.{Dsn}
use Rattle.vol_model.specs.declared.catalogs.CatBody.{CatBody}
use Rattle.vol_model.specs.declared.catalogs.CatBody.TheVariants as catalogs
use Rattle.vol_model.specs.declared.contents.Attr.{Attr}
use Rattle.vol_model.specs.declared.contents.Body.{Body}
use Rattle.vol_model.specs.declared.contents.Body.TheVariants as bodies
use Rattle.vol_model.specs.declared.contents.DataSet.{DataSet}
use Rattle.vol_model.specs.declared.contents.Place.{Place}
use Rattle.vol_model.specs.declared.contents.Run.{Run}
use Rattle.vol_model.specs.declared.contents.Shelf.{Shelf}
use Rattle.vol_model.specs.declared.contents.Volume.{Volume}
use Rattle.vol_model.specs.declared.refusals.Refusal.{Refusal}
use Rattle.vol_model.specs.declared.refusals.Refusal.TheVariants.{NoRoom, SetExists, VtocFull, WrongKind}
use Rattle.vol_model.specs.declared.requests.Op.TheVariants.{Allocate}
use Rattle.vol_model.specs.declared.requests.Request.{Request}
use Rattle.vol_model.specs.Lawful.{IsLawful, IsLawfulBody, IsLawfulCatalog, IsLawfulSet, IsLawfulVolume}
use Rattle.vol_model.specs.Places.{directory_end, tracks_in}
use Rattle.vol_model.specs.Shelf.{allocate_on, catalog_name, flags_of, has_name, has_set, if_room, is_catalog, is_partitioned, lacks_room, on_choice, organization, refuse, step, step_on, with_new}
use Rattle.vol_model.specs.Slots.{catalog_needed, directory_needed, slots_needed}
use Rattle.vol_model.specs.Space.{choice}
use Rattle.vol_model.specs.Trees.{nodes_below}
use Rattle.vol_model.proofs.Steps.{any_in_order, ascending-distinct, in_order-ascending, same_names}
use Rattle.shelf_laws.proofs.Extending.{choice_ok}
use Rattle.shelf_laws.proofs.Renaming.{kind_by, kind_is}
use Rattle.shelf_laws.proofs.Sorted.{sorted_all, sorted_owned}
use Rattle.shelf_laws.proofs.Steps.{not_more, ok_same, refuse_ok, step_lawful}
use Rattle.shelf_laws.proofs.Tracks.{AreNew, choice_new, extents_of, owners-append, owners-cons}

-- ---- the new set, by whether it is the catalog's

abbrev asked : Attr → Request → Attr
asked attr q = record attr { scalo = flags_of q.unit q.contig; secondary = q.secondary }

abbrev attr_by : Bool → Attr → Request → Attr
attr_by c attr q = if c then record (asked attr q) { dsorg = 0x2000; recfm = 0x80; blksize = 256; keylen = 8 } else asked attr q

abbrev body_by : Bool → Bool → Bool → ℕ → Place → Body
body_by c s p dir end = if c then bodies.Catalog else (if not c && s then bodies.Seq [] else (if not c && p then bodies.Part dir end [] [] else bodies.Other))

new_kind : (c : Bool) (attr : Attr) (q : Request) (dir : ℕ) (end : Place) → kind_by c (attr_by c attr q) (body_by c (organization attr == 32) (organization attr == 1) dir end) ≡ true
unfolding kind_by
new_kind true attr q dir end = refl
new_kind false attr q dir end = by_tests (organization attr == 32) (organization attr == 1) refl refl
  where
    by_tests : (s p : Bool) → (attr.dsorg / 512 == 32) ≡ s → (attr.dsorg / 512 == 1) ≡ p → kind_by false (asked attr q) (if s then bodies.Seq [] else (if p then bodies.Part dir end [] [] else bodies.Other)) ≡ true
    by_tests true p e f = e
    by_tests false true e f = f
    by_tests false false e f = ap (λ s. not (s || (attr.dsorg / 512 == 1))) e ∙ ap (λ p. not p) f

body_lawful : (c s p : Bool) (tracks dir : ℕ) (end : Place) → dir ≤ 2000 → (if dir == 0 then (not c && p) else not (not c && p)) ≡ false → (if c then tracks == 0 else (not (dir == 0) && nat_le tracks end.tt)) ≡ false → IsLawfulBody tracks (body_by c s p dir end)
unfolding directory_needed
body_lawful true s p tracks dir end few kind room = tt
body_lawful false true p tracks dir end few kind room = (tt, tt)
body_lawful false false true tracks dir end few kind room = record { few = omega arith; room = some dir kind; order = tt; entries = tt; end = within tracks end.tt dir (some dir kind) room; follow = tt; blocks = tt }
  where
    some : (dir : ℕ) → (if dir == 0 then true else false) ≡ false → 1 ≤ dir
    some dir e = grind (arith, nat_tests)

    within : (tracks t dir : ℕ) → 1 ≤ dir → (not (dir == 0) && nat_le tracks t) ≡ false → t < tracks
    within tracks t dir some e = grind (arith, nat_tests)
body_lawful false false false tracks dir end few kind room = tt

-- ---- the catalog that comes with it

tracks_most : (limit : ℕ) (runs : List Run) → AllByRecursion (λ (r : Run). (1 ≤ r.len) × (r.start + r.len ≤ limit)) runs → tracks_in runs ≤ length runs * limit
tracks_most limit [] all = omega arith
tracks_most limit (r ∷ runs) all =
    let rest = tracks_most limit runs all.1 in
    let one = all.0.1 in
    let sum = sum_by-cons (λ (r : Run). r.len) r runs in
    more (length runs) limit (tracks_in runs) (tracks_in (r ∷ runs)) r.len r.start sum rest one
  where
    more : (n limit t all len start : ℕ) → all ≡ len + t → t ≤ n * limit → start + len ≤ limit → all ≤ suc n * limit
    more n limit t all len start e h l = let k : suc n * limit ≡ n * limit + limit = omega arith in omega arith

few_blocks : (d : DiskType) (cylinders tracks : ℕ) → cylinders ≤ (row_of d).most_cylinders → tracks ≤ 5 * (cylinders * (row_of d).heads) → tracks * (row_of d).directory_blocks_per_track < 2 ^ 24
few_blocks D2311 cylinders tracks c t = omega arith
few_blocks D2314 cylinders tracks c t = omega arith
few_blocks D3330 cylinders tracks c t = omega arith
few_blocks D3350 cylinders tracks c t = omega arith

some_blocks : (d : DiskType) (tracks : ℕ) → 1 ≤ tracks → 1 ≤ tracks * (row_of d).directory_blocks_per_track
some_blocks D2311 tracks t = omega arith
some_blocks D2314 tracks t = omega arith
some_blocks D3330 tracks t = omega arith
some_blocks D3350 tracks t = omega arith

tree_lawful : (c : Bool) (volume : Volume) (runs : List Run) (dir : ℕ) (t : ℕ) → IsLawfulVolume volume → AreNew volume runs → (if c then tracks_in runs == 0 else (not (dir == 0) && nat_le (tracks_in runs) t)) ≡ false
    → IsLawfulCatalog (if c then Some (catalogs.Tree (tracks_in runs * (row_of volume.geometry.device).directory_blocks_per_track) []) else volume.catalog)
unfolding catalog_needed nodes_below
tree_lawful false volume runs dir t h new room = h.catalog
tree_lawful true volume runs dir t h new room =
    let limit = volume.geometry.cylinders * (row_of volume.geometry.device).heads in
    let most = tracks_most limit runs new.on_pack in
    let five : length runs * limit ≤ 5 * limit = mul-le-mul_right limit new.few in
    record {
      few = few_blocks volume.geometry.device volume.geometry.cylinders (tracks_in runs) h.most (omega (arith, most, five));
      room = some_blocks volume.geometry.device (tracks_in runs) (not_none (tracks_in runs) room);
      order = tt;
      parents = tt;
    }
  where
    not_none : (n : ℕ) → (n == 0) ≡ false → 1 ≤ n
    not_none n e = grind (arith, nat_tests)

has_tree : (c b : Bool) (tree : CatBody) (catalog : Option CatBody) → b ≡ is_some catalog → (c || b) ≡ is_some (if c then Some tree else catalog)
has_tree true b tree catalog e = refl
has_tree false b tree catalog e = e

-- ---- names

other_name : (a b : List ℕ) → bytes_eq a b ≡ false → bytes_eq b a ≡ false
other_name a b e = by_test (bytes_eq b a) refl
  where
    by_test : (t : Bool) → bytes_eq b a ≡ t → t ≡ false
    by_test true h = let same : b ≡ a = (bytes_eq-Decides b a).0 h in let wrong = sym e ∙ (bytes_eq-Decides a b).1 (sym same) in cc
    by_test false h = refl

none_named : (x : DataSet) (sets : List DataSet) → list_any (has_name x.name.bytes) sets ≡ false → AllByRecursion (λ y. same_names x y ≡ false) sets
none_named x [] e = tt
none_named x (y ∷ sets) e = let both = parts (has_name x.name.bytes y) (list_any (has_name x.name.bytes) sets) e in (other_name y.name.bytes x.name.bytes both.0, none_named x sets both.1)
  where
    parts : (a b : Bool) → (a || b) ≡ false → (a ≡ false) × (b ≡ false)
    parts true b e = absurd (let no = e in cc)
    parts false b e = (refl, e)

distinct_front : (x : DataSet) (sets : List DataSet) → list_any (has_name x.name.bytes) sets ≡ false → IsDistinct same_names sets → IsDistinct same_names (x ∷ sets)
unfolding IsDistinct
distinct_front x sets none apart = (none_named x sets none, apart)

-- ---- the operation

-- what an allocation that is done has found: no set of the name, tracks, and that a directory, its room and the slots fit
pub record IsAllocated (dsn : Dsn) (attr : Attr) (q : Request) (dir : ℕ) (volume w : Volume) : Type 0 where
  pub runs : List Run
  pub fresh : has_set volume dsn.bytes ≡ false
  pub kind : (if dir == 0 then is_partitioned dsn.bytes attr else not (is_partitioned dsn.bytes attr)) ≡ false
  pub chosen : choice volume q.unit q.contig q.primary ≡ Some runs
  pub room : lacks_room volume.geometry.device dsn.bytes dir (tracks_in runs) ≡ false
  pub slots : slots_needed (with_new dsn attr q dir volume runs) ≤ volume.slots
  pub is : with_new dsn attr q dir volume runs ≡ w

pub allocated_on : (dsn : Dsn) (attr : Attr) (q : Request) (dir : ℕ) (volume w : Volume) → allocate_on dsn attr q dir volume ≡ Ok w → IsAllocated dsn attr q dir volume w
unfolding allocate_on
allocated_on dsn attr q dir volume w done =
    let name = dsn.bytes in
    let wants = is_partitioned name attr in
    let found = choice volume q.unit q.contig q.primary in
    let given : List Run → Result Volume Refusal = λ runs. if_room (lacks_room volume.geometry.device name dir (tracks_in runs)) (with_new dsn attr q dir volume runs) in
    let none = refuse_ok (has_set volume name) SetExists (refuse (if dir == 0 then wants else not wants) WrongKind (on_choice q.primary found given)) w done in
    let kind = refuse_ok (if dir == 0 then wants else not wants) WrongKind (on_choice q.primary found given) w none.1 in
    let at = choice_ok q.primary found given w kind.1 in
    let runs = at.0 in
    let after = with_new dsn attr q dir volume runs in
    let lacks = lacks_room volume.geometry.device name dir (tracks_in runs) in
    let slots = refuse_ok (nat_lt after.slots (slots_needed after)) (VtocFull (slots_needed after)) (refuse lacks NoRoom (Ok after)) w at.2 in
    let room = refuse_ok lacks NoRoom (Ok after) w slots.1 in
    record { runs = runs; fresh = none.0; kind = kind.0; chosen = at.1; room = room.0; slots = not_more volume.slots (slots_needed after) slots.0; is = ok_same after w room.1 }

module _ (dsn : Dsn) (attr : Attr) (q : Request) (dir : ℕ) (few : dir ≤ 2000) (secondary : q.secondary < 2 ^ 24) (volume : Volume) (h : IsLawfulVolume volume) where
  secondary_by : (c : Bool) → (attr_by c attr q).secondary < 2 ^ 24
  secondary_by true = secondary
  secondary_by false = secondary

  allocated : (runs : List Run) → AreNew volume runs → has_set volume dsn.bytes ≡ false → (if dir == 0 then is_partitioned dsn.bytes attr else not (is_partitioned dsn.bytes attr)) ≡ false
      → lacks_room volume.geometry.device dsn.bytes dir (tracks_in runs) ≡ false → slots_needed (with_new dsn attr q dir volume runs) ≤ volume.slots → IsLawfulVolume (with_new dsn attr q dir volume runs)
  allocated runs new none kind room slots =
      let c = is_catalog dsn.bytes in
      let end = directory_end volume.geometry.device dir in
      let body = body_by c (organization attr == 32) (organization attr == 1) dir end in
      let x : DataSet = record { name = dsn; attr = attr_by c attr q; extents = runs; body = body } in
      let five = new.few in
      let set : IsLawfulSet volume.geometry x = record {
        few = omega (arith, five);
        extents = new.on_pack;
        secondary = secondary_by c;
        kind = kind_is dsn.bytes (attr_by c attr q) body ∙ new_kind c attr q dir end;
        body = body_lawful c (organization attr == 32) (organization attr == 1) (tracks_in runs) dir end few kind room;
      } in
      let u : Volume = record volume { sets = x ∷ volume.sets } in
      let zero_run : Run = record { start = 0; len = 1 } in
      record {
        some = h.some;
        most = h.most;
        slots = h.slots;
        room = slots;
        order = in_order-ascending (x ∷ volume.sets) (distinct_front x volume.sets none (ascending-distinct volume.sets h.order));
        sets = sorted_all (IsLawfulSet volume.geometry) (x ∷ volume.sets) (set, h.sets);
        owned = sorted_owned u (λ t.
            let a = owners-cons t zero_run (volume.vtoc ∷ (runs ++ extents_of volume.sets)) in
            let b = owners-cons t volume.vtoc (runs ++ extents_of volume.sets) in
            let d = owners-append t runs (extents_of volume.sets) in
            let e = owners-cons t zero_run (volume.vtoc ∷ extents_of volume.sets) in
            let f = owners-cons t volume.vtoc (extents_of volume.sets) in
            let once = new.once t (h.owned t) in
            omega (arith, a, b, d, e, f, once));
        has_catalog = any_in_order (has_name catalog_name) (x ∷ volume.sets) ∙ has_tree c (has_set volume catalog_name) (catalogs.Tree (tracks_in runs * (row_of volume.geometry.device).directory_blocks_per_track) []) volume.catalog h.has_catalog;
        catalog = tree_lawful c volume runs dir end.tt h new room;
      }

  allocates : (w : Volume) → allocate_on dsn attr q dir volume ≡ Ok w → IsLawfulVolume w
  allocates w done =
      let a = allocated_on dsn attr q dir volume w done in
      subst IsLawfulVolume a.is (allocated a.runs (choice_new volume q.unit q.contig q.primary a.runs a.chosen) a.fresh a.kind a.room a.slots)

pub allocate_lawful : (s t : Shelf) (v : ℕ) (dsn : Dsn) (attr : Attr) (q : Request) (dir : ℕ) → dir ≤ 2000 → q.secondary < 2 ^ 24 → IsLawful s → step s (Allocate v dsn attr q dir) ≡ Ok t → IsLawful t
unfolding step_on
allocate_lawful s t v dsn attr q dir few secondary h done = step_lawful s t (Allocate v dsn attr q dir) (λ volume w h. allocates dsn attr q dir few secondary volume h w) h done
