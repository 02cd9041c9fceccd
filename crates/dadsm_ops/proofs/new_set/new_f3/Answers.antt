use Rattle.std.proofs.Common.{◌≡◌, ◌≤◌, ℕ, List, [], ◌∷◌, length, replicate, refl, arith, length-take}
use Rattle.ckd_image.specs.declared.header.Geometry.{Geometry}
use Rattle.vol_model.specs.declared.contents.Run.{Run}
use Rattle.space_alloc.specs.Units.{listed}
use Rattle.dadsm_ops.specs.Allocating.{extent_field, extent_fields, new_f3, no_extent}
use Rattle.dadsm_ops.proofs.new_set.new_f3.Goals as goal

-- five extents leave the fields after them empty
no_front : (g : Geometry) (kind : ℕ) (rs : List Run) → length rs ≤ 5 → extent_fields g kind rs 3 4 ≡ extent_field g kind rs 3 ∷ extent_field g kind rs 4 ∷ no_extent ∷ no_extent ∷ []
no_front g kind [] few = refl
no_front g kind (a ∷ []) few = refl
no_front g kind (a ∷ b ∷ []) few = refl
no_front g kind (a ∷ b ∷ c ∷ []) few = refl
no_front g kind (a ∷ b ∷ c ∷ d ∷ []) few = refl
no_front g kind (a ∷ b ∷ c ∷ d ∷ e ∷ []) few = refl
no_front g kind (a ∷ b ∷ c ∷ d ∷ e ∷ x ∷ xs) few = absurd (omega (arith, few))

no_back : (g : Geometry) (kind : ℕ) (rs : List Run) → length rs ≤ 5 → extent_fields g kind rs 7 9 ≡ replicate 9 no_extent
no_back g kind [] few = refl
no_back g kind (a ∷ []) few = refl
no_back g kind (a ∷ b ∷ []) few = refl
no_back g kind (a ∷ b ∷ c ∷ []) few = refl
no_back g kind (a ∷ b ∷ c ∷ d ∷ []) few = refl
no_back g kind (a ∷ b ∷ c ∷ d ∷ e ∷ []) few = refl
no_back g kind (a ∷ b ∷ c ∷ d ∷ e ∷ x ∷ xs) few = absurd (omega (arith, few))

pub returns : goal.returns
unfolding new_f3
returns c =
    let e = c.args.extents.now in
    let few : length (listed e) ≤ 5 = omega (arith, length-take e.n e.runs, c.requires.few) in
    rw (c.extent_field.ensures, c.extent_field-2.ensures, no_front c.args.geometry.now c.args.kind (listed e) few, no_back c.args.geometry.now c.args.kind (listed e) few) refl
