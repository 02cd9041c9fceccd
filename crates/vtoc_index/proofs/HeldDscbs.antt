-- The DSCBs that slots hold, and that slots which break no rule all hold one.
use Rattle.std.proofs.Common.{◌≡◌, ℕ, zero, suc, ◌+◌, ◌<◌, Bool, true, false, cond, List, [], ◌∷◌, ◌++◌, length, map, take, get_or, Option, Some, None, Result, Ok, Err, append_assoc, refl, sym, ap, subst, ◌∙◌, arith}
use Rattle.std.proofs.Math.Dec.{eqb, eqb-suc-zero}
use Rattle.std.proofs.lemmas.List.{append-nil, length-map, take_more}
use Rattle.std.proofs.lemmas.List.Elements.{filter_map-append}
use Rattle.std.specs.List.{cons_option, enumerate_from, filter_map, slice_get}
use Rattle.std.specs.Result.{result_ok}
use Rattle.ckd_image.specs.declared.header.Geometry.{Geometry}
use Rattle.dscb_codec.specs.declared.Dscb.{Dscb}
use Rattle.dscb_codec.specs.declared.DscbErr.{DscbErr}
use Rattle.dscb_codec.specs.declared.DscbErr.TheVariants.{Unsupported, BadFormat}
use Rattle.pack_spec.specs.declared.MountErr.{MountErr}
use Rattle.pack_spec.specs.declared.slot.VtocSlot.{VtocSlot}
use Rattle.pack_spec.specs.Rules.{content_fault, front_faults, is_f4, name_faults, slot_fault, slot_faults, slots_faults}
use Rattle.pack_spec.proofs.FirstFaults.{cons_option-none, first_append-both, first_append-none, first_append-some}
use Rattle.vtoc_index.specs.Index.{AreDscbs}

-- the DSCB in a slot, if there is one
abbrev pub content_dscb : VtocSlot → Option Dscb
content_dscb s = result_ok s.content

module _ (xs : List VtocSlot) (i : ℕ) (d : VtocSlot) (below : i < length xs) where
  more : filter_map content_dscb (take i xs) ++ cons_option (content_dscb (get_or xs i d)) [] ≡ filter_map content_dscb (take (i + 1) xs)
  more = sym (ap (filter_map content_dscb) (take_more xs i d below) ∙ filter_map-append content_dscb (take i xs) (get_or xs i d ∷ []))

  -- one more
  pub dscbs-more : (found grown : List Dscb) (dscb : Dscb) → found ≡ filter_map content_dscb (take i xs) → grown ≡ found ++ dscb ∷ [] → (get_or xs i d).content ≡ Ok dscb → grown ≡ filter_map content_dscb (take (i + 1) xs)
  dscbs-more found grown dscb so_far pushed is =
      pushed ∙ ap (λ (ds : List Dscb). ds ++ dscb ∷ []) so_far
      ∙ ap (λ (r : Result Dscb DscbErr). filter_map content_dscb (take i xs) ++ cons_option (result_ok r) []) (sym is) ∙ more

  -- none
  pub dscbs-same : (found : List Dscb) → found ≡ filter_map content_dscb (take i xs) → ((dscb : Dscb) → (get_or xs i d).content ≡ Ok dscb → ⊥) → found ≡ filter_map content_dscb (take (i + 1) xs)
  dscbs-same found so_far not_ok =
      so_far ∙ sym (append-nil (filter_map content_dscb (take i xs)))
      ∙ ap (λ (o : Option Dscb). filter_map content_dscb (take i xs) ++ cons_option o []) (sym (none (get_or xs i d).content not_ok)) ∙ more
    where
      none : (r : Result Dscb DscbErr) → ((dscb : Dscb) → r ≡ Ok dscb → ⊥) → result_ok r ≡ None
      none (Ok dscb) not_ok = absurd (not_ok dscb refl)
      none (Err e) not_ok = refl

-- as many DSCBs are held as there are slots
pub dscbs_many : (ds : List Dscb) (ss : List VtocSlot) → AreDscbs ds ss → length ds ≡ length ss
dscbs_many ds ss are =
    omega (arith, ap length are, length-map ss (λ (s : VtocSlot). s.content), length-map ds (λ (d : Dscb). of_dscb d))
  where
    of_dscb : Dscb → Result Dscb DscbErr
    of_dscb d = Ok d

-- a list that has no first has none
pub nothing_first : {X : Type 0} (xs : List X) → slice_get xs 0 ≡ None → xs ≡ []
nothing_first [] is = refl
nothing_first (x ∷ xs) is = cc

-- a slot that holds a DSCB, in front of others
held_more : (s : VtocSlot) (c : Result Dscb DscbErr) (ds : List Dscb) (ys : List VtocSlot) → s.content ≡ c → ((e : DscbErr) → c ≡ Err e → ⊥) → AreDscbs ds ys → AreDscbs (cons_option (result_ok c) ds) (s ∷ ys)
held_more s (Ok d) ds ys is none rest =
    ap (λ (r : Result Dscb DscbErr). r ∷ map (λ (t : VtocSlot). t.content) ys) is ∙ ap (λ (l : List (Result Dscb DscbErr)). Ok d ∷ l) rest
held_more s (Err e) ds ys is none rest = absurd (none e refl)

-- a slot after slot 0 that breaks no rule holds one
not_refused : (g : Geometry) (ss : List VtocSlot) (k : ℕ) (c : Result Dscb DscbErr) (e : DscbErr) → content_fault g ss k c ≡ None → c ≡ Err e → ⊥
not_refused g ss k (Ok d) e none is = cc
not_refused g ss k (Err (Unsupported b)) e none is = cc
not_refused g ss k (Err (BadFormat b)) e none is = cc

behind_first : (b : Bool) (o : Option MountErr) → b ≡ false → cond b None o ≡ None → o ≡ None
behind_first true o h e = cc
behind_first false o h e = e

slot_not_refused : (g : Geometry) (ss : List VtocSlot) (k : ℕ) (s : VtocSlot) → 0 < k → slot_fault g ss k s ≡ None → (e : DscbErr) → s.content ≡ Err e → ⊥
unfolding slot_fault
slot_not_refused g ss zero s behind none e is = absurd (omega arith)
slot_not_refused g ss (suc k) s behind none e is =
    not_refused g ss (suc k) s.content e (behind_first (eqb (suc k) 0) (content_fault g ss (suc k) s.content) (eqb-suc-zero k) none) is

all_held : (g : Geometry) (ss : List VtocSlot) (k : ℕ) (ys : List VtocSlot) → 0 < k → slice_get (filter_map (λ p. slot_fault g ss p.0 p.1) (enumerate_from k ys)) 0 ≡ None → AreDscbs (filter_map content_dscb ys) ys
all_held g ss k [] behind none = refl
all_held g ss k (s ∷ ys) behind none =
    let parts = cons_option-none (slot_fault g ss k s) (filter_map (λ p. slot_fault g ss p.0 p.1) (enumerate_from (k + 1) ys)) none in
    held_more s s.content (filter_map content_dscb ys) ys refl (slot_not_refused g ss k s behind parts.0) (all_held g ss (k + 1) ys (omega arith) parts.1)

-- slot 0 holds a format 4
f4_held : (c : Result Dscb DscbErr) (e : DscbErr) → is_f4 c ≡ true → c ≡ Err e → ⊥
f4_held (Ok d) e four is = cc
f4_held (Err x) e four is = cc

first_only : (b : Bool) (x : MountErr) (ys : List MountErr) → slice_get (cond b [] (x ∷ []) ++ ys) 0 ≡ None → b ≡ true
first_only true x ys is = refl
first_only false x ys is = cc

whole : (g : Geometry) (ss : List VtocSlot) → slice_get (front_faults ss) 0 ≡ None → slice_get (slot_faults g ss) 0 ≡ None → AreDscbs (filter_map content_dscb ss) ss
unfolding slot_faults front_faults
whole g [] front none = refl
whole g (s ∷ ss) front none =
    let parts = cons_option-none (slot_fault g (s ∷ ss) 0 s) (filter_map (λ p. slot_fault g (s ∷ ss) p.0 p.1) (enumerate_from 1 ss)) none in
    held_more s s.content (filter_map content_dscb ss) ss refl (λ e. f4_held s.content e (first_only (is_f4 s.content) _ _ front)) (all_held g (s ∷ ss) 1 ss (omega arith) parts.1)

-- the rules on single slots, and those on names
grouped : (g : Geometry) (ss : List VtocSlot) → slots_faults g ss ≡ (front_faults ss ++ slot_faults g ss) ++ name_faults ss
unfolding slots_faults
grouped g ss = sym (append_assoc (front_faults ss) (slot_faults g ss) (name_faults ss))

-- a single slot breaks the first rule
pub single_first : (g : Geometry) (ss : List VtocSlot) (e : MountErr) → Some e ≡ slice_get (front_faults ss ++ slot_faults g ss) 0 → slice_get (slots_faults g ss) 0 ≡ Some e
single_first g ss e is = ap (λ (l : List MountErr). slice_get l 0) (grouped g ss) ∙ sym (first_append-some (front_faults ss ++ slot_faults g ss) (name_faults ss) e is)

-- or none does, and a name is the first
pub names_first : (g : Geometry) (ss : List VtocSlot) (o : Option MountErr) → None ≡ slice_get (front_faults ss ++ slot_faults g ss) 0 → slice_get (name_faults ss) 0 ≡ o → slice_get (slots_faults g ss) 0 ≡ o
names_first g ss o none is = ap (λ (l : List MountErr). slice_get l 0) (grouped g ss) ∙ sym (first_append-none (front_faults ss ++ slot_faults g ss) (name_faults ss) none) ∙ is

-- slots that break no rule hold DSCBs
pub held_dscbs : (g : Geometry) (ss : List VtocSlot) (found : List Dscb) → None ≡ slice_get (slots_faults g ss) 0 → found ≡ filter_map content_dscb ss → AreDscbs found ss × (slots_faults g ss ≡ [])
unfolding slots_faults
held_dscbs g ss found none is =
    let front = first_append-both (front_faults ss) (slot_faults g ss ++ name_faults ss) (sym none) in
    let behind = first_append-both (slot_faults g ss) (name_faults ss) front.1 in
    (subst (λ (ds : List Dscb). AreDscbs ds ss) (sym is) (whole g ss front.0 behind.0), nothing_first _ (sym none))
