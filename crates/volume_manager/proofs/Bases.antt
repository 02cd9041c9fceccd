-- What a machine stands on, and what it shows of files.
use Rattle.std.proofs.Common.{◌≡◌, ℕ, ◌≤◌, ◌++◌, List, [], ◌∷◌, length, refl, sym, ◌∙◌, ap, subst, arith}
use Rattle.std.specs.Prelude.{Result, Ok, Err}
use Rattle.hall_core.specs.Facts.{Attached, Facts}
use Rattle.pack_spec.specs.Shelf.{UnitRefusal, shelf_of}
use Rattle.shelf_machine.specs.Machine.{LeavesJust, base_of, plans_of, shelf_or_none, shelf_under, texts_of, units_of}
use Rattle.shelf_machine.specs.Opening.{LeavesSafe, images_named, names_of}
use Rattle.stop_model.specs.Files.{File}
use Rattle.stop_model.specs.Moments.{Meaning}
use Rattle.vol_model.specs.Events.{Item}
use Rattle.vol_model.specs.declared.contents.Shelf.{Shelf}
use Rattle.vtoc_index.specs.declared.vol.Vol.{Vol}
use Rattle.volume_manager.proofs.Opening.{many_named, none_named}
use Rattle.volume_manager.specs.Run.{LeavesShelf, LeftOnlyNow, RunsItems}
use Rattle.volume_manager.proofs.Works.{Shows, opened_stop}

-- ---- the base

same_texts : (us vs : List Attached) → texts_of us ≡ texts_of vs → us ≡ vs
same_texts [] [] is = refl
same_texts [] (v ∷ vs) is = absurd (cc is)
same_texts (u ∷ us) [] is = absurd (cc is)
same_texts (u ∷ us) (v ∷ vs) is =
    let name : u.name ≡ v.name = cc in
    let size : u.size ≡ v.size = cc in
    let first : u ≡ v = ap (λ (n : List ℕ). record u { name = n }) name ∙ ap (λ (s : ℕ). record v { size = s }) size in
    let others : texts_of us ≡ texts_of vs = cc in
    ap (λ (x : Attached). x ∷ us) first ∙ ap (λ (xs : List Attached). v ∷ xs) (same_texts us vs others)

-- after as many plans the texts are the same
behind_plans : (vols vols' : List Vol) (xs ys : List (List ℕ)) → units_of vols ≡ units_of vols' → plans_of vols ++ xs ≡ plans_of vols' ++ ys → xs ≡ ys
behind_plans [] [] xs ys units is = is
behind_plans [] (v ∷ vols') xs ys units is = absurd (cc units)
behind_plans (v ∷ vols) [] xs ys units is = absurd (cc units)
behind_plans (v ∷ vols) (w ∷ vols') xs ys units is =
    let others : units_of vols ≡ units_of vols' = cc in
    let rest : plans_of vols ++ xs ≡ plans_of vols' ++ ys = cc in
    behind_plans vols vols' xs ys others rest

-- The same hall, with the same units, and packs on the same of these.
pub record SameBase (old new : Facts) (vols vols' : List Vol) : Type 0 where
  pub references : new.references ≡ old.references
  pub numbers : units_of vols' ≡ units_of vols
  pub units : new.units ≡ old.units

pub same_base : (old new : Facts) (vols vols' : List Vol) → base_of new vols' ≡ base_of old vols → SameBase old new vols vols'
same_base old new vols vols' is =
    let numbers : units_of vols' ≡ units_of vols = cc in
    let rest : plans_of vols' ++ texts_of new.units ≡ plans_of vols ++ texts_of old.units = cc in
    record {
      references = cc;
      numbers = numbers;
      units = same_texts new.units old.units (behind_plans vols' vols (texts_of new.units) (texts_of old.units) numbers rest);
    }

-- and so the names of their files
pub same_names : (old new : Facts) (vols vols' : List Vol) → base_of new vols' ≡ base_of old vols → names_of new.units (units_of vols') ≡ names_of old.units (units_of vols)
same_names old new vols vols' is =
    let same = same_base old new vols vols' is in
    ap (λ (us : List Attached). names_of us (units_of vols')) same.units ∙ ap (names_of old.units) same.numbers

-- ---- the shelf of files

pub under_shows : (names : List (List ℕ)) (before : List File) (shelf : Shelf) → shelf_of (images_named before names) ≡ Ok shelf → Shows names (shelf_under names) shelf
under_shows names before shelf stood = record {
  given = λ files s is. ap shelf_or_none is;
  back = λ files many. by_result files (shelf_of (images_named files names)) refl many;
}
  where
    by_result : (files : List File) (r : Result Shelf UnitRefusal) → shelf_of (images_named files names) ≡ r → length (shelf_under names files).volumes ≡ length shelf.volumes → shelf_of (images_named files names) ≡ Ok (shelf_under names files)
    by_result files (Ok s) is many = is ∙ ap Ok (sym (ap shelf_or_none is))
    by_result files (Err e) is many =
        let none : 0 ≡ length shelf.volumes = ap (λ (s : Shelf). length s.volumes) (sym (ap shelf_or_none is)) ∙ many in
        absurd (none_named names files e (sym (none ∙ many_named names before shelf stood)) is)

-- ---- items on a shelf that was opened

pub opened_items : (names given packs : List (List ℕ)) (items : Shelf → List Item) {old mid new : Meaning (List File)} (shown opened : Shelf) (Promise : ℕ → List File → Type 0) (status : ℕ) → given ≡ names → packs ≡ names → LeavesSafe given old mid
    → shelf_of (images_named old.state given) ≡ Ok opened → shown ≡ opened → ((t : ℕ) → t ≤ old.clock → LeavesJust old t old.state → Promise t old.state)
    → ((shelf : Shelf) (t : ℕ) (before : List File) → shelf_of (images_named before packs) ≡ Ok shelf → shown ≡ shelf → t ≤ mid.clock → LeavesShelf packs shelf mid t → Promise t before → RunsItems packs shelf (items shelf) t before mid.printed new status)
    → (shelf : Shelf) → shelf_of (images_named old.state names) ≡ Ok shelf → (t : ℕ) → t ≤ old.clock → LeftOnlyNow old t → RunsItems names shelf (items shelf) t old.state old.printed new status
opened_items names given packs items {old} {mid} {new} shown opened Promise status same_given same_packs safe stands state promise works shelf stood t early calm =
    let here : shelf_of (images_named old.state names) ≡ Ok opened = subst (λ (n : List (List ℕ)). shelf_of (images_named old.state n) ≡ Ok opened) same_given stands in
    let opens = (subst (λ (n : List (List ℕ)). LeavesSafe n old mid) same_given safe).some shelf stood in
    let begun : LeavesShelf names shelf mid t = λ files printed left.
    let stop = opened_stop t early calm stood opens files printed left in (stop.0, stop.1.1 ∙ sym opens.printed) in
    let worked = works shelf t old.state (subst (λ (n : List (List ℕ)). shelf_of (images_named old.state n) ≡ Ok shelf) (sym same_packs) stood) (state ∙ meant (sym here ∙ stood)) (omega (arith, early, opens.moments.later))
    (subst (λ (n : List (List ℕ)). LeavesShelf n shelf mid t) (sym same_packs) begun) (promise t early (λ files printed left. (calm files printed left).0)) in
    subst (λ (n : List (List ℕ)). RunsItems n shelf (items shelf) t old.state old.printed new status) same_packs
    (subst (λ (start : List ℕ). RunsItems packs shelf (items shelf) t old.state start new status) opens.printed worked)
  where
    meant : {a b : Shelf} → ◌≡◌ {A = Result Shelf UnitRefusal} (Ok a) (Ok b) → a ≡ b
    meant is = cc
