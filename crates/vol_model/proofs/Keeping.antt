-- What a change of one data set leaves of the others, and an extension of all bodies.
use Rattle.std.proofs.Common.{◌≡◌, ◌≢◌, ◌⊎◌, inl, inr, ⊎_elim, ℕ, zero, suc, Bool, true, false, cond, List, [], ◌∷◌, length, refl, sym, ◌∙◌, ap, subst, arith}
use Rattle.std.proofs.lemmas.Bool.Decides.{nat_tests}
use Rattle.std.proofs.lemmas.Slice.Eq.{bytes_eq-Decides}
use Rattle.std.specs.Prelude.{Option, Some, None, Result, Ok, Err, find, option_map, option_and_then, nat_lt, not, ◌+◌, ◌==◌, ◌&&◌, ◌||◌, slice_get, slice_set, if◌then◌else◌}
use Rattle.std.specs.Option.{option_map_or}
use Rattle.std.specs.List.{AllByRecursion}
use Rattle.std.specs.Str.{bytes_eq}
use Rattle.ebcdic_names.specs.declared.names.Dsn.{Dsn}
use Rattle.ckd_image.specs.declared.device.DiskType.{DiskType}
use Rattle.ckd_image.specs.declared.device.DiskType.TheVariants.{D2311}
use Rattle.vol_model.specs.declared.contents.Attr.{Attr}
use Rattle.vol_model.specs.declared.contents.Block.{Block}
use Rattle.vol_model.specs.declared.contents.Body.{Body}
use Rattle.vol_model.specs.declared.contents.Body.TheVariants as bodies
use Rattle.vol_model.specs.declared.contents.DataSet.{DataSet}
use Rattle.vol_model.specs.declared.contents.Place.{Place}
use Rattle.vol_model.specs.declared.contents.Run.{Run}
use Rattle.vol_model.specs.declared.contents.Shelf.{Shelf}
use Rattle.vol_model.specs.declared.contents.Volume.{Volume}
use Rattle.vol_model.specs.declared.refusals.Refusal.{Refusal}
use Rattle.vol_model.specs.declared.refusals.Refusal.TheVariants.{ExtentsFull, VtocFull, WrongKind}
use Rattle.vol_model.specs.declared.requests.Op.TheVariants.{Extend, Empty}
use Rattle.vol_model.specs.Lawful.{FollowFrom, IsLawful, IsLawfulBlock, IsLawfulBody, IsLawfulSet, IsLawfulVolume}
use Rattle.vol_model.specs.Places.{is_before, tracks_in}
use Rattle.vol_model.specs.Reading.{readable}
use Rattle.vol_model.specs.Shelf.{empty_set, extend_set, extended_by, if_slots, is_catalog, may_empty, secondary_asked, secondary_choice, blocks_of, changed, emptied, empty_on, extend_on, has_name, if_readable, on_choice, on_found, on_volume, refuse, set_of, step, step_on, with_extents, with_set, with_volume}
use Rattle.vol_model.specs.Slots.{slots_needed}
use Rattle.vol_model.specs.Writing.{body_on, device_on, set_on}

same_bytes : (a b : List ℕ) → bytes_eq a b ≡ true → a ≡ b
same_bytes a b = (bytes_eq-Decides a b).0

-- ---- what an operation that isn't refused has found

refuse_ok : {X : Type 0} (b : Bool) (r : Refusal) (rest : Result X Refusal) (y : X) → refuse b r rest ≡ Ok y → rest ≡ Ok y
refuse_ok true r rest y h = cc
refuse_ok false r rest y h = h

found_ok : {X : Type 0} (o : Option DataSet) (f : DataSet → Result X Refusal) (y : X) → on_found o f ≡ Ok y → (x : DataSet) × (f x ≡ Ok y)
found_ok None f y h = cc
found_ok (Some x) f y h = (x, h)

readable_ok : {X : Type 0} (b : Body) (rest : Result X Refusal) (y : X) → if_readable b rest ≡ Ok y → rest ≡ Ok y
readable_ok (bodies.Seq bs) rest y h = h
readable_ok (bodies.Part dir end es bs) rest y h = h
readable_ok bodies.Catalog rest y h = h
readable_ok bodies.Other rest y h = h
readable_ok (bodies.Unreadable t) rest y h = cc

choice_ok : {X : Type 0} (n : ℕ) (o : Option (List Run)) (f : List Run → Result X Refusal) (y : X) → on_choice n o f ≡ Ok y → (runs : List Run) × (f runs ≡ Ok y)
choice_ok n None f y h = cc
choice_ok n (Some runs) f y h = (runs, h)

-- An operation that changed data sets of one name on one volume.
pub record ChangesSet (s : Shelf) (v : ℕ) (name : List ℕ) (f : DataSet → DataSet) (after : Shelf) : Type 0 where
  pub volume : Volume
  pub at : slice_get s.volumes v ≡ Some volume
  pub is : after ≡ record { volumes = slice_set s.volumes v (with_set volume name f) }

volume_ok : (s after : Shelf) (v : ℕ) (operation : Volume → Result Volume Refusal) (o : Option Volume) → slice_get s.volumes v ≡ o → on_volume s v operation o ≡ Ok after
    → (volume : Volume) × (w : Volume) × (slice_get s.volumes v ≡ Some volume) × (operation volume ≡ Ok w) × (after ≡ record { volumes = slice_set s.volumes v w })
volume_ok s after v operation None at h = cc
volume_ok s after v operation (Some volume) at h = by_result (operation volume) refl h
  where
    by_result : (r : Result Volume Refusal) → operation volume ≡ r → with_volume s v r ≡ Ok after → (volume : Volume) × (w : Volume) × (slice_get s.volumes v ≡ Some volume) × (operation volume ≡ Ok w) × (after ≡ record { volumes = slice_set s.volumes v w })
    by_result (Ok w) is h = (volume, w, at, is, cc)
    by_result (Err r) is h = cc

ok_same : {X : Type 0} {x y : X} → (let r : Result X Refusal = Ok x in r) ≡ Ok y → x ≡ y
ok_same h = cc

extended_ok : (dsn : Dsn) (volume w : Volume) (x : DataSet) (runs : List Run) → extended_by dsn volume x runs ≡ Ok w → with_set volume dsn.bytes (with_extents runs) ≡ w
extended_ok dsn volume w x runs h =
    let new = with_set volume dsn.bytes (with_extents runs) in
    ok_same (refuse_ok (nat_lt new.slots (slots_needed new)) (VtocFull (slots_needed new)) (Ok new) w (refuse_ok (nat_lt 16 (length x.extents + length runs)) ExtentsFull (if_slots new) w h))

extend_ok : (dsn : Dsn) (volume w : Volume) (x : DataSet) → extend_set dsn volume x ≡ Ok w → (runs : List Run) × (with_set volume dsn.bytes (with_extents runs) ≡ w)
extend_ok dsn volume w x h =
    let chosen = on_choice (secondary_asked x.attr) (secondary_choice volume x.attr) (extended_by dsn volume x) in
    let runs = choice_ok (secondary_asked x.attr) (secondary_choice volume x.attr) (extended_by dsn volume x) w (readable_ok x.body chosen w (refuse_ok (is_catalog dsn.bytes) WrongKind (if_readable x.body chosen) w h)) in
    (runs.0, extended_ok dsn volume w x runs.0 runs.1)

empty_ok : (dsn : Dsn) (attr : Attr) (volume w : Volume) (x : DataSet) → empty_set dsn attr volume x ≡ Ok w → with_set volume dsn.bytes (emptied attr) ≡ w
empty_ok dsn attr volume w x h =
    let new = with_set volume dsn.bytes (emptied attr) in
    ok_same (readable_ok x.body (Ok new) w (refuse_ok (not (may_empty dsn.bytes x.attr x.body)) WrongKind (if_readable x.body (Ok new)) w h))

module _ (s after : Shelf) (v : ℕ) (dsn : Dsn) where
  pub extends_set : step s (Extend v dsn) ≡ Ok after → (runs : List Run) × ChangesSet s v dsn.bytes (with_extents runs) after
  unfolding step step_on extend_on
  extends_set h =
      let at = volume_ok s after v (extend_on dsn) (slice_get s.volumes v) refl h in
      let x = found_ok (set_of dsn.bytes at.0) (extend_set dsn at.0) at.1 at.3 in
      let runs = extend_ok dsn at.0 at.1 x.0 x.1 in
      (runs.0, record { volume = at.0; at = at.2; is = at.4 ∙ ap (λ (u : Volume). record { volumes = slice_set s.volumes v u }) (sym runs.1) })

  pub empties_set : (attr : Attr) → step s (Empty v dsn attr) ≡ Ok after → ChangesSet s v dsn.bytes (emptied attr) after
  unfolding step step_on empty_on
  empties_set attr h =
      let at = volume_ok s after v (empty_on dsn attr) (slice_get s.volumes v) refl h in
      let x = found_ok (set_of dsn.bytes at.0) (empty_set dsn attr at.0) at.1 at.3 in
      record { volume = at.0; at = at.2; is = at.4 ∙ ap (λ (u : Volume). record { volumes = slice_set s.volumes v u }) (sym (empty_ok dsn attr at.0 at.1 x.0 x.1)) }

-- ---- what is found afterwards

set_same : {X : Type 0} (xs : List X) (i : ℕ) (x y : X) → slice_get xs i ≡ Some x → slice_get (slice_set xs i y) i ≡ Some y
set_same [] i x y at = cc
set_same (z ∷ xs) zero x y at = refl
set_same (z ∷ xs) (suc i) x y at = set_same xs i x y at

set_other : {X : Type 0} (xs : List X) (i j : ℕ) (y : X) → (slice_get (slice_set xs i y) j ≡ slice_get xs j) ⊎ (i ≡ j)
set_other [] i j y = inl refl
set_other (z ∷ xs) zero zero y = inr refl
set_other (z ∷ xs) zero (suc j) y = inl refl
set_other (z ∷ xs) (suc i) zero y = inl refl
set_other (z ∷ xs) (suc i) (suc j) y = ⊎_elim (λ e. inl e) (λ e. inr (ap suc e)) (set_other xs i j y)

-- no name is changed
abbrev KeepsNames : (DataSet → DataSet) → Type 0
KeepsNames f = (x : DataSet) → (f x).name ≡ x.name

abbrev if_named : List ℕ → (DataSet → DataSet) → DataSet → DataSet
if_named name f x = if has_name name x then f x else x

named_same : (name : List ℕ) (f : DataSet → DataSet) → KeepsNames f → (n2 : List ℕ) (x : DataSet) (b : Bool) → has_name n2 (if b then f x else x) ≡ has_name n2 x
named_same name f keeps n2 x true = ap (λ (d : Dsn). bytes_eq d.bytes n2) (keeps x)
named_same name f keeps n2 x false = refl

found_first : (name : List ℕ) (f : DataSet → DataSet) (n2 : List ℕ) (x : DataSet) (sets : List DataSet) → find (has_name n2) (changed name f sets) ≡ option_map (if_named name f) (find (has_name n2) sets) → (b : Bool)
    → cond b (Some (if_named name f x)) (find (has_name n2) (changed name f sets)) ≡ option_map (if_named name f) (cond b (Some x) (find (has_name n2) sets))
found_first name f n2 x sets rest true = refl
found_first name f n2 x sets rest false = rest

find_changed : (name : List ℕ) (f : DataSet → DataSet) → KeepsNames f → (n2 : List ℕ) (sets : List DataSet) → find (has_name n2) (changed name f sets) ≡ option_map (if_named name f) (find (has_name n2) sets)
find_changed name f keeps n2 [] = refl
find_changed name f keeps n2 (x ∷ sets) =
    ap (λ (b : Bool). cond b (Some (if_named name f x)) (find (has_name n2) (changed name f sets))) (named_same name f keeps n2 x (has_name name x))
    ∙ found_first name f n2 x sets (find_changed name f keeps n2 sets) (has_name n2 x)

named_first : (n2 : List ℕ) (x : DataSet) (sets : List DataSet) (b : Bool) → has_name n2 x ≡ b → option_map_or (has_name n2) (find (has_name n2) sets) true ≡ true → option_map_or (has_name n2) (cond b (Some x) (find (has_name n2) sets)) true ≡ true
named_first n2 x sets true e rest = e
named_first n2 x sets false e rest = rest

find_named : (n2 : List ℕ) (sets : List DataSet) → option_map_or (has_name n2) (find (has_name n2) sets) true ≡ true
find_named n2 [] = refl
find_named n2 (x ∷ sets) = named_first n2 x sets (has_name n2 x) refl (find_named n2 sets)

module _ (s after : Shelf) (v : ℕ) (name : List ℕ) (f : DataSet → DataSet) (keeps : KeepsNames f) (c : ChangesSet s v name f after) where
  -- the set of a name afterwards, on that volume or on another
  pub set_after : (v2 : ℕ) (n2 : List ℕ) → (set_on after v2 n2 ≡ set_on s v2 n2) ⊎ ((v ≡ v2) × (set_on after v2 n2 ≡ option_map (if_named name f) (set_on s v2 n2)))
  unfolding set_on
  set_after v2 n2 =
      let volume = c.volume in
      let w = with_set volume name f in
      let there : slice_get after.volumes v2 ≡ slice_get (slice_set s.volumes v w) v2 = ap (λ (t : Shelf). slice_get t.volumes v2) c.is in
      ⊎_elim (λ other. inl (ap (option_and_then (set_of n2)) (there ∙ other)))
      (λ same. inr (
        same,
        ap (option_and_then (set_of n2)) (there ∙ subst (λ (k : ℕ). slice_get (slice_set s.volumes v w) k ≡ Some w) same (set_same s.volumes v volume w c.at))
            ∙ find_changed name f keeps n2 volume.sets
            ∙ ap (λ (o : Option Volume). option_map (if_named name f) (option_and_then (set_of n2) o)) (sym (subst (λ (k : ℕ). slice_get s.volumes k ≡ Some volume) same c.at)),
      ))
      (set_other s.volumes v v2 w)

  device_after : (v2 : ℕ) → device_on after v2 ≡ device_on s v2
  unfolding device_on
  device_after v2 =
      let volume = c.volume in
      let w = with_set volume name f in
      let there : slice_get after.volumes v2 ≡ slice_get (slice_set s.volumes v w) v2 = ap (λ (t : Shelf). slice_get t.volumes v2) c.is in
      let of : Option Volume → DiskType = λ o. option_map_or (λ (x : Volume). x.geometry.device) o D2311 in
      ⊎_elim (λ other. ap of (there ∙ other))
      (λ same. ap of (there ∙ subst (λ (k : ℕ). slice_get (slice_set s.volumes v w) k ≡ Some w) same (set_same s.volumes v volume w c.at))
      ∙ ap of (sym (subst (λ (k : ℕ). slice_get s.volumes k ≡ Some volume) same c.at)))
      (set_other s.volumes v v2 w)

-- Bodies and devices are as before.
pub record KeepsBodies (old new : Shelf) : Type 0 where
  pub bodies : (v : ℕ) (name : List ℕ) → body_on new v name ≡ body_on old v name
  pub devices : (v : ℕ) → device_on new v ≡ device_on old v

pub bodies_kept_none : (s : Shelf) → KeepsBodies s s
bodies_kept_none s = record { bodies = λ v name. refl; devices = λ v. refl }

pub bodies_kept_then : {a b c : Shelf} → KeepsBodies a b → KeepsBodies b c → KeepsBodies a c
bodies_kept_then first second = record { bodies = λ v name. second.bodies v name ∙ first.bodies v name; devices = λ v. second.devices v ∙ first.devices v }

body_of_if : (name : List ℕ) (runs : List Run) (x : DataSet) (b : Bool) → (if b then with_extents runs x else x).body ≡ x.body
body_of_if name runs x true = refl
body_of_if name runs x false = refl

body_in : (name : List ℕ) (runs : List Run) (o : Option DataSet) → option_map_or (λ (x : DataSet). x.body) (option_map (if_named name (with_extents runs)) o) bodies.Other ≡ option_map_or (λ (x : DataSet). x.body) o bodies.Other
body_in name runs None = refl
body_in name runs (Some x) = body_of_if name runs x (has_name name x)

-- an extension keeps all bodies
pub extension_keeps : (s after : Shelf) (v : ℕ) (dsn : Dsn) → step s (Extend v dsn) ≡ Ok after → KeepsBodies s after
unfolding body_on
extension_keeps s after v dsn h =
    let c = extends_set s after v dsn h in
    let f = with_extents c.0 in
    record {
      bodies = λ v2 n2. ⊎_elim
          (λ other. ap (λ (o : Option DataSet). option_map_or (λ (x : DataSet). x.body) o bodies.Other) other)
          (λ same. ap (λ (o : Option DataSet). option_map_or (λ (x : DataSet). x.body) o bodies.Other) same.1 ∙ body_in dsn.bytes c.0 (set_on s v2 n2))
          (set_after s after v dsn.bytes f (λ x. refl) c.1 v2 n2);
      devices = device_after s after v dsn.bytes f (λ x. refl) c.1;
    }

-- the sets are two
abbrev pub AreApart : ℕ → List ℕ → ℕ → List ℕ → Type 0
AreApart v name v2 n2 = (v ≢ v2) ⊎ (bytes_eq n2 name ≡ false)

not_named : (name n2 : List ℕ) (f : DataSet → DataSet) → bytes_eq n2 name ≡ false → (o : Option DataSet) → option_map_or (has_name n2) o true ≡ true → option_map (if_named name f) o ≡ o
not_named name n2 f apart None named = refl
not_named name n2 f apart (Some x) named =
    ap (λ (b : Bool). Some (if b then f x else x)) (ap (λ (n : List ℕ). bytes_eq n name) (same_bytes x.name.bytes n2 named) ∙ apart)

set_named : (s : Shelf) (v : ℕ) (n2 : List ℕ) → option_map_or (has_name n2) (set_on s v n2) true ≡ true
unfolding set_on
set_named s v n2 = by_volume (slice_get s.volumes v)
  where
    by_volume : (o : Option Volume) → option_map_or (has_name n2) (option_and_then (set_of n2) o) true ≡ true
    by_volume None = refl
    by_volume (Some volume) = find_named n2 volume.sets

-- emptying a set keeps the body of another
pub emptying_keeps : (s after : Shelf) (v : ℕ) (dsn : Dsn) (attr : Attr) (v2 : ℕ) (n2 : List ℕ) → AreApart v dsn.bytes v2 n2 → step s (Empty v dsn attr) ≡ Ok after → body_on after v2 n2 ≡ body_on s v2 n2
unfolding body_on
emptying_keeps s after v dsn attr v2 n2 apart h =
    let c = empties_set s after v dsn attr h in
    let f = emptied attr in
    let of : Option DataSet → Body = λ o. option_map_or (λ (x : DataSet). x.body) o bodies.Other in
    ⊎_elim (λ other. ap of other)
    (λ same. ⊎_elim (λ (far : v ≢ v2). absurd (far same.0)) (λ names. ap of (same.1 ∙ not_named dsn.bytes n2 f names (set_on s v2 n2) (set_named s v2 n2))) apart)
    (set_after s after v dsn.bytes f (λ x. refl) c v2 n2)

-- ---- the blocks of a lawful shelf

module _ (P : Volume → Type 0) where
  volume_at : (xs : List Volume) (i : ℕ) (x : Volume) → AllByRecursion P xs → slice_get xs i ≡ Some x → P x
  volume_at [] i x all at = cc
  volume_at (y ∷ xs) zero x all at = let same : y ≡ x = cc in subst P same all.0
  volume_at (y ∷ xs) (suc i) x all at = volume_at xs i x all.1 at

-- the places of blocks rise, from this one on
abbrev pub RiseFrom : Place → List Block → Type 0
RiseFrom p [] = Unit {0}
RiseFrom p (b ∷ bs) = (is_before p b.place ≡ true) × RiseFrom b.place bs

-- Blocks are lawful, and their places rise.
pub record AreBlocks (bs : List Block) : Type 0 where
  pub rise : RiseFrom (record { tt = 0; r = 0 }) bs
  pub each : AllByRecursion IsLawfulBlock bs

next_before : (a r b s : ℕ) → ((b == a && s == r + 1) || (nat_lt a b && s == 1)) ≡ true → (nat_lt a b || (a == b && nat_lt r s)) ≡ true
next_before a r b s e = grind (arith, nat_tests)

rise_of : (tracks : ℕ) (p : Place) (bs : List Block) → FollowFrom tracks p bs → RiseFrom p bs
rise_of tracks p [] h = tt
rise_of tracks p (b ∷ bs) h = (next_before p.tt p.r b.place.tt b.place.r h.1, rise_of tracks b.place bs h.2)

-- what rises from a place rises from one at or before it
rise_lower : (p q : Place) (bs : List Block) → is_before q p ≡ false → RiseFrom q bs → RiseFrom p bs
rise_lower p q [] h rise = tt
rise_lower p q (b ∷ bs) h rise = (before_next p.tt p.r q.tt q.r b.place.tt b.place.r h rise.0, rise.1)
  where
    before_next : (a r b s c t : ℕ) → (nat_lt b a || (b == a && nat_lt s r)) ≡ false → (nat_lt b c || (b == c && nat_lt s t)) ≡ true → (nat_lt a c || (a == c && nat_lt r t)) ≡ true
    before_next a r b s c t h e = grind (arith, nat_tests)

not_before_start : (p : Place) → is_before p (record { tt = 0; r = 0 }) ≡ false
not_before_start p = none p.tt p.r
  where
    none : (a r : ℕ) → (nat_lt a 0 || (a == 0 && nat_lt r 0)) ≡ false
    none a r = grind (arith, nat_tests)

body_blocks : (tracks : ℕ) (body : Body) → IsLawfulBody tracks body → AreBlocks (blocks_of body)
body_blocks tracks (bodies.Seq bs) h = record { rise = rise_of tracks (record { tt = 0; r = 0 }) bs h.0; each = h.1 }
body_blocks tracks (bodies.Part dir end es bs) h = record { rise = rise_lower (record { tt = 0; r = 0 }) end bs (not_before_start end) (rise_of tracks end bs h.follow); each = h.blocks }
body_blocks tracks bodies.Catalog h = record { rise = tt; each = tt }
body_blocks tracks bodies.Other h = record { rise = tt; each = tt }
body_blocks tracks (bodies.Unreadable track) h = record { rise = tt; each = tt }

at_first : (Q : DataSet → Type 0) (y x : DataSet) (rest : Option DataSet) (b : Bool) → Q y → (rest ≡ Some x → Q x) → cond b (Some y) rest ≡ Some x → Q x
at_first Q y x rest true here there at = let same : y ≡ x = cc in subst Q same here
at_first Q y x rest false here there at = there at

set_at : (Q : DataSet → Type 0) (test : DataSet → Bool) (sets : List DataSet) (x : DataSet) → AllByRecursion Q sets → find test sets ≡ Some x → Q x
set_at Q test [] x all at = cc
set_at Q test (y ∷ sets) x all at = at_first Q y x (find test sets) (test y) all.0 (set_at Q test sets x all.1) at

pub lawful_blocks : (s : Shelf) (v : ℕ) (name : List ℕ) → IsLawful s → AreBlocks (blocks_of (body_on s v name))
unfolding body_on set_on
lawful_blocks s v name lawful = by_volume (slice_get s.volumes v) refl
  where
    by_set : (volume : Volume) → IsLawfulVolume volume → (o : Option DataSet) → set_of name volume ≡ o → AreBlocks (blocks_of (option_map_or (λ (x : DataSet). x.body) o bodies.Other))
    by_set volume is None at = record { rise = tt; each = tt }
    by_set volume is (Some x) at = let set = set_at (IsLawfulSet volume.geometry) (has_name name) volume.sets x is.sets at in body_blocks (tracks_in x.extents) x.body set.body

    by_volume : (o : Option Volume) → slice_get s.volumes v ≡ o → AreBlocks (blocks_of (option_map_or (λ (x : DataSet). x.body) (option_and_then (set_of name) o) bodies.Other))
    by_volume None at = record { rise = tt; each = tt }
    by_volume (Some volume) at = by_set volume (volume_at IsLawfulVolume s.volumes v volume lawful.volumes at) (set_of name volume) refl

pub readable_blocks : (b : Body) (bs : List Block) → readable b ≡ Ok bs → bs ≡ blocks_of b
readable_blocks (bodies.Seq blocks) bs h = cc
readable_blocks (bodies.Part dir end es blocks) bs h = cc
readable_blocks bodies.Catalog bs h = cc
readable_blocks bodies.Other bs h = cc
readable_blocks (bodies.Unreadable t) bs h = cc
