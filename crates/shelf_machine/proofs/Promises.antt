-- What a machine over several images promised of stops, after an operation on one of them.
use Rattle.std.proofs.Common.{◌≡◌, ◌≢◌, ⊎_elim, inl, inr, ℕ, true, false, List, [], set, Option, Some, None, sym, ap, subst, ◌∙◌}
use Rattle.std.specs.Prelude.{Result, position, slice_get, unwrap_or}
use Rattle.std.specs.Str.{bytes_eq}
use Rattle.std.proofs.lemmas.Bool.{cases_eq}
use Rattle.std.proofs.lemmas.Slice.Eq.{bytes_eq-Decides}
use Rattle.dadsm_ops.specs.Operations.{IsLeftInOperation, Operates}
use Rattle.free_rebuild.specs.Repairs.{image_named}
use Rattle.stop_model.specs.Files.{File, file_of}
use Rattle.stop_model.specs.Moments.{Elapses, Meaning}
use Rattle.stop_model.proofs.MomentLemmas.{CountsNow}
use Rattle.pack_spec.specs.Settled.{IsGuarded, IsSettledVtoc}
use Rattle.vol_model.specs.Calls.{Keeps}
use Rattle.vol_model.specs.declared.answers.StoreErr.{StoreErr}
use Rattle.vol_model.specs.declared.contents.Volume.{Volume}
use Rattle.vol_model.specs.declared.refusals.Refusal.{Refusal}
use Rattle.vtoc_index.specs.declared.vol.Vol.{Vol}
use Rattle.shelf_machine.specs.Machine.{HavePlans, KeepsSafe}
use Rattle.shelf_machine.specs.Opening.{AreApart, AreSafe, IsSafeImage}
use Rattle.pack_machine.proofs.ListPlaces.{get_other, get_set, none_passes}

-- a settled image is guarded
pub settled_guarded : (image : List ℕ) → IsSettledVtoc image → IsGuarded image
settled_guarded image settled = (settled.0, settled.1, inr settled.2.chain)

-- a name that isn't found is none of these
pub not_among : (names : List (List ℕ)) (k : ℕ) (name other : List ℕ) → slice_get names k ≡ Some name → position (bytes_eq other) names ≡ None → other ≢ name
not_among names k name other at none same =
    let never : bytes_eq other name ≡ false = none_passes (bytes_eq other) names k name none at in
    let found : bytes_eq other name ≡ true = (bytes_eq-Decides other name).1 same in
    absurd (cc (never, found))

-- what one place holds of two is one
pub one_text : {a b : List ℕ} (texts : List (List ℕ)) (k : ℕ) → slice_get texts k ≡ Some a → slice_get texts k ≡ Some b → a ≡ b
one_text {a} {b} texts k first second = same (sym first ∙ second)
  where
    same : Some a ≡ Some b → a ≡ b
    same is = cc

module _ (names : List (List ℕ)) (vols : List Vol) (apart : AreApart names) (k : ℕ) (name : List ℕ) (at : slice_get names k ≡ Some name)
    (v v' : Vol) (there : slice_get vols k ≡ Some v) (geometry : v'.geometry ≡ v.geometry) (vtoc : v'.vtoc ≡ v.vtoc) where
  -- a call that leaves this image guarded, and the other files as they were, leaves safe images safe
  pub safe_after : (volumes : List Volume) (files before after : List File) → AreSafe names volumes files before → IsGuarded (image_named after name) → ((other : List ℕ) → other ≢ name → file_of after other ≡ file_of before other) → AreSafe names volumes files after
  safe_after volumes files before after safe guarded others = record {
    images = λ j other w here is. ⊎_elim (λ same. changed j other w here is same) (λ differs. stayed j other w here is differs) (cases_eq j k);
    others = λ other none. others other (not_among names k name other at none) ∙ safe.others other none;
  }
    where
      changed : (j : ℕ) (other : List ℕ) (w : Volume) → slice_get names j ≡ Some other → slice_get volumes j ≡ Some w → j ≡ k → IsSafeImage w (image_named files other) (image_named after other)
      changed j other w here is same =
          let this : other ≡ name = one_text names k (ap (slice_get names) (sym same) ∙ here) at in
          let now : IsSafeImage w (image_named files name) (image_named after name) = record { guarded = inl guarded } in
          subst (λ (n : List ℕ). IsSafeImage w (image_named files n) (image_named after n)) (sym this) now

      stayed : (j : ℕ) (other : List ℕ) (w : Volume) → slice_get names j ≡ Some other → slice_get volumes j ≡ Some w → (j ≡ k → ⊥) → IsSafeImage w (image_named files other) (image_named after other)
      stayed j other w here is differs =
          let another : other ≢ name = λ same. differs (apart j k name (here ∙ ap (λ (n : List ℕ). Some n) same) at) in
          let same : image_named after other ≡ image_named before other = ap (λ (o : Option (List ℕ)). unwrap_or o []) (others other another) in
          subst (λ (i : List ℕ). IsSafeImage w (image_named files other) i) (sym same) (safe.images j other w here is)

  -- volumes have the plans of the indexes still
  plans_after : (volumes : List Volume) → HavePlans vols volumes → HavePlans (set vols k v') volumes
  plans_after volumes plans j u w here is = ⊎_elim (λ same. changed same) (λ differs. plans j u w (sym (get_other vols j k v' differs) ∙ here) is) (cases_eq j k)
    where
      some_same : {a b : Vol} → Some a ≡ Some b → a ≡ b
      some_same same = cc

      changed : j ≡ k → (w.geometry ≡ u.geometry) × (w.vtoc ≡ u.vtoc)
      changed same =
          let this : v' ≡ u = some_same (sym (get_set vols k v v' there) ∙ ap (slice_get (set vols k v')) (sym same) ∙ here) in
          let plan = plans k v w there (ap (slice_get volumes) (sym same) ∙ is) in
          (plan.0 ∙ sym geometry ∙ ap (λ (x : Vol). x.geometry) this, plan.1 ∙ sym vtoc ∙ ap (λ (x : Vol). x.vtoc) this)

  -- so what was promised is promised after such a call
  pub keeps_safe_by : (P : List File → Type 0) (m m' : Meaning (List File)) → CountsNow m → m.left m.state → Elapses m m' (λ files p. P files × (p ≡ m.printed)) → ((files : List File) → P files → IsGuarded (image_named files name))
      → ((files : List File) → P files → (other : List ℕ) → other ≢ name → file_of files other ≡ file_of m.state other) → Keeps m.clock (KeepsSafe names vols m) (KeepsSafe names (set vols k v') m')
  keeps_safe_by P m m' counts left moments guarded others t files early was shelf is =
      let s = was shelf is in record {
        plans = plans_after shelf.volumes s.plans;
        stops = λ j p stop. ⊎_elim
            (λ before. s.stops j p before)
            (λ now. safe_after shelf.volumes files m.state j (s.stops m.state m.printed (counts t m.state early left)) (guarded j now.0) (others j now.0))
            (moments.moments t j p early stop);
      }

  -- and so after an operation
  pub keeps_safe : {T : Type 0} {operation : Volume → Result Volume Refusal} {Changes : List ℕ → List ℕ → Type 0} {r : Result T StoreErr} (m m' : Meaning (List File)) → CountsNow m → m.left m.state → IsSettledVtoc (image_named m.state name)
      → Operates name operation v' Changes m m' r → Keeps m.clock (KeepsSafe names vols m) (KeepsSafe names (set vols k v') m')
  keeps_safe {operation = operation} {Changes = Changes} m m' counts left settled run =
      keeps_safe_by (IsLeftInOperation name run.does.volume (operation run.does.volume) Changes m.state) m m' counts left run.does.moments (λ files stop. stop.guarded (settled_guarded (image_named m.state name) settled)) (λ files stop other apart. stop.changes.others other apart)
