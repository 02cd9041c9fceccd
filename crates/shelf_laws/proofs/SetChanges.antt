-- A volume one of whose data sets is changed.
use Rattle.std.proofs.Common.{◌≡◌, ◌+◌, ◌≤◌, ◌*◌, ◌/◌, max, ◌==◌, ℕ, suc, Bool, true, false, cond, not, ◌||◌, List, [], ◌∷◌, ◌++◌, length, map, filter, refl, sym, ◌∙◌, ap, subst, arith}
use Rattle.std.proofs.lemmas.List.Sums.{sum_by-cons}
use Rattle.std.proofs.lemmas.Map.Text.{is_eq-slice_cmp}
use Rattle.std.proofs.lemmas.Slice.Eq.{bytes_eq-Decides}
use Rattle.std.specs.Prelude.{Some, find, nat_lt, if◌then◌else◌}
use Rattle.std.specs.Cmp.Lexicographic.{slice_cmp}
use Rattle.std.specs.List.{AllByRecursion, count_by, flat_map, list_any, range_with_len}
use Rattle.std.specs.Ordering.{is_lt, is_eq, nat_cmp}
use Rattle.std.specs.Str.{bytes_eq}
use Rattle.std.specs.declared.cmp.Ordering.{Ordering}
use Rattle.std.specs.declared.cmp.Ordering.TheVariants.{Less, Equal, Greater}
use Rattle.ckd_image.specs.Device.{row_of}
use Rattle.vol_model.specs.declared.contents.DataSet.{DataSet}
use Rattle.vol_model.specs.declared.contents.Run.{Run}
use Rattle.vol_model.specs.declared.contents.Volume.{Volume}
use Rattle.vol_model.specs.Lawful.{IsLawfulSet, IsLawfulVolume, OwnsOnce}
use Rattle.vol_model.specs.Order.{IsAscending, is_before}
use Rattle.vol_model.specs.Shelf.{catalog_name, changed, has_name, set_of, with_set}
use Rattle.vol_model.specs.Slots.{slots_for, slots_needed}
use Rattle.vol_model.specs.Space.{covers, free_runs, is_in, is_unowned, runs_of, usable_cylinders}

-- ---- names

same_bytes : (a b : List ℕ) → bytes_eq a b ≡ true → a ≡ b
same_bytes a b = (bytes_eq-Decides a b).0

itself : (a : List ℕ) → bytes_eq a a ≡ true
itself a = (bytes_eq-Decides a a).1 refl

less_apart : (o : Ordering) → is_lt o ≡ true → is_eq o ≡ false
less_apart Less e = refl
less_apart Equal e = cc
less_apart Greater e = refl

before_apart : (x y : DataSet) → is_before x y ≡ true → bytes_eq x.name.bytes y.name.bytes ≡ false
before_apart x y e = sym (is_eq-slice_cmp x.name.bytes y.name.bytes) ∙ less_apart (slice_cmp nat_cmp x.name.bytes y.name.bytes) e

pub named_so : (name : List ℕ) (x : DataSet) → has_name name x ≡ true → x.name.bytes ≡ name
named_so name x e = same_bytes x.name.bytes name e

-- a set after another of the name hasn't that name
pub behind_named : (name : List ℕ) (x y : DataSet) → has_name name x ≡ true → is_before x y ≡ true → has_name name y ≡ true → ⊥
behind_named name x y named before other =
    let same : x.name.bytes ≡ y.name.bytes = same_bytes x.name.bytes name named ∙ sym (same_bytes y.name.bytes name other) in
    let apart = before_apart x y before in
    let equal : bytes_eq x.name.bytes y.name.bytes ≡ true = ap (bytes_eq x.name.bytes) (sym same) ∙ itself x.name.bytes in
    let wrong = sym apart ∙ equal in cc

-- ---- sets, of which those of one name are changed

-- no name is changed
abbrev pub KeepsNames : (DataSet → DataSet) → Type 0
KeepsNames f = (x : DataSet) → (f x).name ≡ x.name

-- no extent is
abbrev pub KeepsExtents : (DataSet → DataSet) → Type 0
KeepsExtents f = (x : DataSet) → (f x).extents ≡ x.extents

module _ (name : List ℕ) (f : DataSet → DataSet) (names : KeepsNames f) where
  if_named : DataSet → Bool → DataSet
  if_named x b = if b then f x else x

  name_kept : (x : DataSet) (b : Bool) → (if b then f x else x).name ≡ x.name
  name_kept x true = names x
  name_kept x false = refl

  behind_kept : (x : DataSet) (b : Bool) (sets : List DataSet) → AllByRecursion (λ y. is_before x y ≡ true) sets → AllByRecursion (λ y. is_before (if b then f x else x) y ≡ true) (changed name f sets)
  behind_kept x b [] all = tt
  behind_kept x b (y ∷ sets) all =
      (ap (λ d. is_lt (slice_cmp nat_cmp d.bytes (if has_name name y then f y else y).name.bytes)) (name_kept x b) ∙ ap (λ d. is_lt (slice_cmp nat_cmp x.name.bytes d.bytes)) (name_kept y (has_name name y)) ∙ all.0, behind_kept x b sets all.1)

  pub changed-ascending : (sets : List DataSet) → IsAscending sets → IsAscending (changed name f sets)
  changed-ascending [] up = tt
  changed-ascending (x ∷ sets) up = (behind_kept x (has_name name x) sets up.0, changed-ascending sets up.1)

  pub changed-any : (other : List ℕ) (sets : List DataSet) → list_any (has_name other) (changed name f sets) ≡ list_any (has_name other) sets
  changed-any other [] = refl
  changed-any other (x ∷ sets) =
      ap (λ d. bytes_eq d.bytes other || list_any (has_name other) (changed name f sets)) (name_kept x (has_name name x)) ∙ ap (λ b. has_name other x || b) (changed-any other sets)

-- each set stays lawful, where the one of the name does
module _ (P : DataSet → Type 0) (name : List ℕ) (f : DataSet → DataSet) where
  others_kept : (x : DataSet) (sets : List DataSet) → has_name name x ≡ true → AllByRecursion (λ y. is_before x y ≡ true) sets → AllByRecursion P sets → AllByRecursion P (changed name f sets)
  others_kept x [] named before all = tt
  others_kept x (y ∷ sets) named before all = (one (has_name name y) refl, others_kept x sets named before.1 all.1)
    where
      one : (b : Bool) → has_name name y ≡ b → P (if b then f y else y)
      one true e = absurd (behind_named name x y named before.0 e)
      one false e = all.0

  first_changed : (y : DataSet) (sets : List DataSet) (x : DataSet) (b : Bool) → has_name name y ≡ b → AllByRecursion (λ z. is_before y z ≡ true) sets → P (f x) → P y → AllByRecursion P sets → (find (has_name name) sets ≡ Some x → AllByRecursion P (changed name f sets)) → cond b (Some y) (find (has_name name) sets) ≡ Some x → P (if b then f y else y) × AllByRecursion P (changed name f sets)
  first_changed y sets x true e before new here all rest found = let same : y ≡ x = cc in (subst (λ z. P (f z)) (sym same) new, others_kept y sets e before all)
  first_changed y sets x false e before new here all rest found = (here, rest found)

  pub changed-all : (sets : List DataSet) (x : DataSet) → IsAscending sets → find (has_name name) sets ≡ Some x → P (f x) → AllByRecursion P sets → AllByRecursion P (changed name f sets)
  changed-all [] x up found new all = tt
  changed-all (y ∷ sets) x up found new all = first_changed y sets x (has_name name y) refl up.0 new all.0 all.1 (λ k. changed-all sets x up.1 k new all.1) found

-- the set that is found is lawful, and has the name
pub found_all : (P : DataSet → Type 0) (name : List ℕ) (sets : List DataSet) (x : DataSet) → AllByRecursion P sets → find (has_name name) sets ≡ Some x → P x × (has_name name x ≡ true)
found_all P name [] x all found = cc
found_all P name (y ∷ sets) x all found = by_name P name y sets x (has_name name y) refl all.0 (λ k. found_all P name sets x all.1 k) found
  where
    by_name : (P : DataSet → Type 0) (name : List ℕ) (y : DataSet) (sets : List DataSet) (x : DataSet) (b : Bool) → has_name name y ≡ b → P y → (find (has_name name) sets ≡ Some x → P x × (has_name name x ≡ true)) → cond b (Some y) (find (has_name name) sets) ≡ Some x → P x × (has_name name x ≡ true)
    by_name P name y sets x true e here rest found = let same : y ≡ x = cc in subst (λ z. P z × (has_name name z ≡ true)) same (here, e)
    by_name P name y sets x false e here rest found = rest found

pub filter_same : (p q : ℕ → Bool) → ((t : ℕ) → p t ≡ q t) → (ts : List ℕ) → filter p ts ≡ filter q ts
filter_same p q e [] = refl
filter_same p q e (t ∷ ts) = ap (λ b. cond b (t ∷ filter p ts) (filter p ts)) (e t) ∙ ap (λ l. cond (q t) (t ∷ l) l) (filter_same p q e ts)

-- ---- extents that stay

module _ (name : List ℕ) (f : DataSet → DataSet) (extents : KeepsExtents f) where
  extents_kept : (x : DataSet) (b : Bool) → (if b then f x else x).extents ≡ x.extents
  extents_kept x true = extents x
  extents_kept x false = refl

  pub all_extents : (sets : List DataSet) → flat_map (λ (x : DataSet). x.extents) (changed name f sets) ≡ flat_map (λ (x : DataSet). x.extents) sets
  all_extents [] = refl
  all_extents (x ∷ sets) = ap (λ (l : List Run). l ++ flat_map (λ (x : DataSet). x.extents) (changed name f sets)) (extents_kept x (has_name name x)) ∙ ap (λ (l : List Run). x.extents ++ l) (all_extents sets)

  any_extents : (track : ℕ) (sets : List DataSet) → list_any (λ (x : DataSet). covers x.extents track) (changed name f sets) ≡ list_any (λ (x : DataSet). covers x.extents track) sets
  any_extents track [] = refl
  any_extents track (x ∷ sets) = ap (λ (l : List Run). covers l track || list_any (λ (x : DataSet). covers x.extents track) (changed name f sets)) (extents_kept x (has_name name x)) ∙ ap (λ b. covers x.extents track || b) (any_extents track sets)

  long_extents : (sets : List DataSet) → map (λ (x : DataSet). length x.extents) (changed name f sets) ≡ map (λ (x : DataSet). length x.extents) sets
  long_extents [] = refl
  long_extents (x ∷ sets) = ap (λ (l : List Run). length l ∷ map (λ (x : DataSet). length x.extents) (changed name f sets)) (extents_kept x (has_name name x)) ∙ ap (λ l. length x.extents ∷ l) (long_extents sets)

  same_length : (sets : List DataSet) → length (changed name f sets) ≡ length sets
  same_length [] = refl
  same_length (x ∷ sets) = ap suc (same_length sets)

  same_count : (sets : List DataSet) → count_by (λ (x : DataSet). nat_lt 3 (length x.extents)) (changed name f sets) ≡ count_by (λ (x : DataSet). nat_lt 3 (length x.extents)) sets
  same_count [] = refl
  same_count (x ∷ sets) =
      sum_by-cons (λ (x : DataSet). cond (nat_lt 3 (length x.extents)) 1 0) (if has_name name x then f x else x) (changed name f sets)
      ∙ ap (λ (l : List Run). cond (nat_lt 3 (length l)) 1 0 + count_by (λ (x : DataSet). nat_lt 3 (length x.extents)) (changed name f sets)) (extents_kept x (has_name name x))
      ∙ ap (λ (n : ℕ). cond (nat_lt 3 (length x.extents)) 1 0 + n) (same_count sets)
      ∙ sym (sum_by-cons (λ (x : DataSet). cond (nat_lt 3 (length x.extents)) 1 0) x sets)

  module _ (volume : Volume) where
    pub unowned_kept : (track : ℕ) → is_unowned (with_set volume name f) track ≡ is_unowned volume track
    unowned_kept track = ap (λ b. not (track == 0 || (is_in track volume.vtoc || b))) (any_extents track volume.sets)

    pub slots_kept : slots_needed (with_set volume name f) ≡ slots_needed volume
    unfolding slots_needed
    slots_kept =
        let limit = usable_cylinders volume.geometry * (row_of volume.geometry.device).heads in
        ap (λ (ts : List ℕ). slots_for (length (runs_of ts)) (changed name f volume.sets)) (filter_same (is_unowned (with_set volume name f)) (is_unowned volume) unowned_kept (range_with_len 0 limit))
        ∙ ap (λ (n : ℕ). 1 + max 1 ((length (free_runs volume) + 25) / 26) + n + count_by (λ (x : DataSet). nat_lt 3 (length x.extents)) (changed name f volume.sets)) (same_length volume.sets)
        ∙ ap (λ (n : ℕ). 1 + max 1 ((length (free_runs volume) + 25) / 26) + length volume.sets + n) (same_count volume.sets)

    pub owned_kept : OwnsOnce volume → OwnsOnce (with_set volume name f)
    owned_kept once track = subst (λ (l : List Run). count_by (is_in track) (record { start = 0; len = 1 } ∷ volume.vtoc ∷ l) ≤ 1) (sym (all_extents volume.sets)) (once track)

-- a volume stays lawful where a set that is changed does, and keeps its name, and there are slots and no track is owned twice
pub lawful_changed : (volume : Volume) (name : List ℕ) (f : DataSet → DataSet) (x : DataSet) → KeepsNames f → IsLawfulVolume volume → set_of name volume ≡ Some x → IsLawfulSet volume.geometry (f x)
    → slots_needed (with_set volume name f) ≤ volume.slots → OwnsOnce (with_set volume name f) → IsLawfulVolume (with_set volume name f)
lawful_changed volume name f x names h found new room owned = record {
  some = h.some;
  most = h.most;
  slots = h.slots;
  room = room;
  order = changed-ascending name f names volume.sets h.order;
  sets = changed-all (IsLawfulSet volume.geometry) name f volume.sets x h.order found new h.sets;
  owned = owned;
  has_catalog = changed-any name f names catalog_name volume.sets ∙ h.has_catalog;
  catalog = h.catalog;
}

-- so it does where the set keeps its extents too
pub lawful_contents : (volume : Volume) (name : List ℕ) (f : DataSet → DataSet) (x : DataSet) → KeepsNames f → KeepsExtents f → IsLawfulVolume volume → set_of name volume ≡ Some x → IsLawfulSet volume.geometry (f x) → IsLawfulVolume (with_set volume name f)
lawful_contents volume name f x names extents h found new =
    let room = h.room in
    lawful_changed volume name f x names h found new (omega (arith, room, slots_kept name f extents volume)) (owned_kept name f extents volume h.owned)
