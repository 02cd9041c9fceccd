-- A step of the shelf, seen on the volume that it changes.
use Rattle.std.proofs.Common.{◌≡◌, ◌≢◌, ◌⊎◌, inl, inr, ⊎_elim, ◌==◌, ◌&&◌, ℕ, zero, suc, Bool, true, false, List, [], ◌∷◌, refl, sym, ◌∙◌, ap, subst}
use Rattle.std.proofs.lemmas.Bool.Decides.{eqb_tells}
use Rattle.std.specs.Prelude.{Option, Some, None, Result, Ok, Err, option_and_then, slice_get, slice_set, if◌then◌else◌}
use Rattle.std.specs.Option.{option_map_or}
use Rattle.std.specs.Str.{bytes_eq}
use Rattle.vol_model.specs.declared.contents.Body.{Body}
use Rattle.vol_model.specs.declared.contents.Body.TheVariants as bodies
use Rattle.vol_model.specs.declared.contents.DataSet.{DataSet}
use Rattle.vol_model.specs.declared.contents.Shelf.{Shelf}
use Rattle.vol_model.specs.declared.contents.Volume.{Volume}
use Rattle.vol_model.specs.declared.refusals.Refusal.{Refusal}
use Rattle.vol_model.specs.declared.requests.Op.{Op}
use Rattle.vol_model.specs.declared.requests.Op.TheVariants.{Rename}
use Rattle.vol_model.specs.Shelf.{on_volume, set_of, step, step_on, volume_number, with_volume}
use Rattle.vol_model.specs.Writing.{body_on, set_on}
use Rattle.shelf_laws.proofs.Steps.{each_at, ok_same}
use Rattle.member_laws.specs.Members.{HasMember, HoldsMember, Removes, SetMember, renamed_by}
use Rattle.member_laws.proofs.Ordered.{IsOrdered, IsOrderedVolume}

set_same : {X : Type 0} (xs : List X) (i : ℕ) (x y : X) → slice_get xs i ≡ Some x → slice_get (slice_set xs i y) i ≡ Some y
set_same [] i x y at = cc
set_same (z ∷ xs) zero x y at = refl
set_same (z ∷ xs) (suc i) x y at = set_same xs i x y at

set_other : {X : Type 0} (xs : List X) (i j : ℕ) (y : X) → j ≢ i → slice_get (slice_set xs i y) j ≡ slice_get xs j
set_other [] i j y apart = refl
set_other (z ∷ xs) zero zero y apart = absurd (apart refl)
set_other (z ∷ xs) zero (suc j) y apart = refl
set_other (z ∷ xs) (suc i) zero y apart = refl
set_other (z ∷ xs) (suc i) (suc j) y apart = set_other xs i j y (λ e. apart (ap suc e))

-- ---- the volume

-- A step that was done: it put another volume in the place of one.
pub record Stepped (s : Shelf) (op : Op) (t : Shelf) : Type 0 where
  pub volume : Volume
  pub after : Volume
  pub at : slice_get s.volumes (volume_number op) ≡ Some volume
  pub done : step_on op volume ≡ Ok after
  pub is : t ≡ record { volumes = slice_set s.volumes (volume_number op) after }

-- the body of a set on a volume
abbrev pub body_in : List ℕ → Volume → Body
body_in name volume = option_map_or (λ (x : DataSet). x.body) (set_of name volume) bodies.Other

module _ (s : Shelf) (op : Op) (t : Shelf) where
  by_result : (volume : Volume) → slice_get s.volumes (volume_number op) ≡ Some volume → (r : Result Volume Refusal) → step_on op volume ≡ r → with_volume s (volume_number op) r ≡ Ok t → Stepped s op t
  by_result volume at (Err r) is done = cc
  by_result volume at (Ok w) is done =
      let after : Shelf = record { volumes = slice_set s.volumes (volume_number op) w } in
      record { volume = volume; after = w; at = at; done = is; is = sym (ok_same after t done) }

  by_volume : (o : Option Volume) → slice_get s.volumes (volume_number op) ≡ o → on_volume s (volume_number op) (step_on op) o ≡ Ok t → Stepped s op t
  by_volume None at done = cc
  by_volume (Some volume) at done = by_result volume at (step_on op volume) refl done

  pub stepped : step s op ≡ Ok t → Stepped s op t
  unfolding step
  stepped done = by_volume (slice_get s.volumes (volume_number op)) refl done

  module _ (c : Stepped s op t) where
    after_at : slice_get t.volumes (volume_number op) ≡ Some c.after
    after_at = ap (λ (u : Shelf). slice_get u.volumes (volume_number op)) c.is ∙ set_same s.volumes (volume_number op) c.volume c.after c.at

    -- bodies on the volume before and after, and on another
    before_is : (name : List ℕ) → body_on s (volume_number op) name ≡ body_in name c.volume
    unfolding body_on set_on
    before_is name = ap (λ (o : Option Volume). option_map_or (λ (x : DataSet). x.body) (option_and_then (set_of name) o) bodies.Other) c.at

    after_is : (name : List ℕ) → body_on t (volume_number op) name ≡ body_in name c.after
    unfolding body_on set_on
    after_is name = ap (λ (o : Option Volume). option_map_or (λ (x : DataSet). x.body) (option_and_then (set_of name) o) bodies.Other) after_at

    other_is : (v : ℕ) (name : List ℕ) → v ≢ volume_number op → body_on t v name ≡ body_on s v name
    unfolding body_on set_on
    other_is v name apart =
        ap (λ (o : Option Volume). option_map_or (λ (x : DataSet). x.body) (option_and_then (set_of name) o) bodies.Other)
        (ap (λ (u : Shelf). slice_get u.volumes v) c.is ∙ set_other s.volumes (volume_number op) v c.after apart)

-- ---- the member

-- it keeps all but the name of its set
renamed_as : (op : Op) (m : SetMember) → renamed_by op m ≡ record m { set = (renamed_by op m).set }
renamed_as (Rename v old new) m = by_test (v == m.v && bytes_eq m.set old.bytes)
  where
    by_test : (b : Bool) → (if b then record m { set = new.bytes } else m) ≡ record m { set = (if b then record m { set = new.bytes } else m).set }
    by_test true = refl
    by_test false = refl
renamed_as op m = refl

-- it keeps that too on another volume
renamed_elsewhere : (op : Op) (m : SetMember) → (volume_number op == m.v) ≡ false → renamed_by op m ≡ m
renamed_elsewhere (Rename v old new) m apart = ap (λ b. if b && bytes_eq m.set old.bytes then record m { set = new.bytes } else m) apart
renamed_elsewhere op m apart = refl

-- an operation on a volume removes a member of one of its sets, or keeps it
abbrev pub KeepsOn : Op → Volume → Volume → Type 0
KeepsOn op volume after = (m : SetMember) → volume_number op ≡ m.v → HoldsMember (body_in m.set volume) m.entry m.blocks → Removes op m ⊎ HoldsMember (body_in (renamed_by op m).set after) m.entry m.blocks

-- and so it does on a shelf
module _ (s t : Shelf) (op : Op) (keeps : (volume after : Volume) → IsOrderedVolume volume → step_on op volume ≡ Ok after → KeepsOn op volume after) (h : IsOrdered s) where
  there : (c : Stepped s op t) (m : SetMember) → volume_number op ≡ m.v → HasMember s m → Removes op m ⊎ HasMember t (renamed_by op m)
  there c m on held =
      let v = volume_number op in
      let name = (renamed_by op m).set in
      let before : HoldsMember (body_in m.set c.volume) m.entry m.blocks = subst (λ (b : Body). HoldsMember b m.entry m.blocks) (ap (λ n. body_on s n m.set) (sym on) ∙ before_is s op t c m.set) held in
      let ordered = each_at IsOrderedVolume s.volumes v c.volume h c.at in
      let back : HoldsMember (body_in name c.after) m.entry m.blocks → HasMember t (renamed_by op m) = λ holds.
      subst (HasMember t) (sym (renamed_as op m)) (subst (λ (b : Body). HoldsMember b m.entry m.blocks) (sym (ap (λ n. body_on t n name) (sym on) ∙ after_is s op t c name)) holds) in
      ⊎_elim (λ gone. inl gone) (λ holds. inr (back holds)) (keeps c.volume c.after ordered c.done m on before)

  pub step_keeps : step s op ≡ Ok t → (m : SetMember) → HasMember s m → Removes op m ⊎ HasMember t (renamed_by op m)
  step_keeps done m held =
      let c = stepped s op t done in
      elim (eqb_tells (volume_number op) m.v) [
        | inl on ↦ there c m on.1 held
        | inr apart ↦ inr (subst (HasMember t) (sym (renamed_elsewhere op m apart.0)) (subst (λ (b : Body). HoldsMember b m.entry m.blocks) (sym (other_is s op t c m.v m.set (λ e. apart.1 (sym e)))) held))
      ]
