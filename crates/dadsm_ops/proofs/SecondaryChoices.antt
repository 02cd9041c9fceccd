-- The choice for the secondary quantity of a data set, from the free runs of the index of a mounted image.
use Rattle.std.proofs.Common.{◌≡◌, ◌/◌, ◌≤◌, ℕ, Bool, true, false, cond, List, Option, Some, None, refl, sym, ap, ◌∙◌, arith}
use Rattle.std.specs.Prelude.{◌==◌, Ok, Err, nat_le}
use Rattle.std.specs.Option.{option_map}
use Rattle.std.proofs.lemmas.Bool.Decides.{nat_tests}
use Rattle.pack_spec.specs.Volume.{volume_of}
use Rattle.space_alloc.specs.declared.extents.Extents.{Extents}
use Rattle.space_alloc.specs.declared.extents.NoSpace.{NoSpace}
use Rattle.space_alloc.specs.Units.{Chooses, listed}
use Rattle.vol_model.specs.declared.contents.Attr.{Attr}
use Rattle.vol_model.specs.declared.contents.Run.{Run}
use Rattle.vol_model.specs.declared.contents.Volume.{Volume}
use Rattle.vol_model.specs.declared.refusals.Refusal.TheVariants as refusals
use Rattle.vol_model.specs.declared.requests.Request.{Request}
use Rattle.vol_model.specs.declared.requests.SpaceUnit.{SpaceUnit}
use Rattle.vol_model.specs.declared.requests.SpaceUnit.TheVariants.{Track, Cylinder}
use Rattle.vol_model.specs.Shelf.{secondary_asked, secondary_choice}
use Rattle.vol_model.specs.Space.{choice}
use Rattle.vtoc_index.specs.declared.vol.Vol.{Vol}
use Rattle.vtoc_index.specs.Index.{IsMounted}
use Rattle.dadsm_ops.specs.Extending.{secondary_request}
use Rattle.dadsm_ops.proofs.NewChoices.{chosen_none, chosen_some}

-- the request for so many of a unit
abbrev asks : ℕ → SpaceUnit → Request
asks n unit = record { unit = unit; primary = n; secondary = 0; contig = false }

-- the request, by its tests
abbrev by_tests : ℕ → Bool → Bool → Bool → Option Request
by_tests n none cylinders tracks = cond none None (option_map (asks n) (cond cylinders (Some Cylinder) (cond tracks (Some Track) None)))

-- the choice, by the same
abbrev choice_by : Volume → ℕ → Bool → Bool → Bool → Option (List Run)
choice_by volume n none cylinders tracks = cond none None (cond cylinders (choice volume Cylinder false n) (cond tracks (choice volume Track false n) None))

-- a request for the quantity, in one of the units, isn't contiguous
some_by : (volume : Volume) (n : ℕ) (none cylinders tracks : Bool) (q : Request) → by_tests n none cylinders tracks ≡ Some q → choice_by volume n none cylinders tracks ≡ choice volume q.unit q.contig q.primary
some_by volume n true cylinders tracks q is = cc
some_by volume n false true tracks q is = let same : asks n Cylinder ≡ q = cc in ap (λ (x : Request). choice volume x.unit x.contig x.primary) same
some_by volume n false false true q is = let same : asks n Track ≡ q = cc in ap (λ (x : Request). choice volume x.unit x.contig x.primary) same
some_by volume n false false false q is = cc

none_by : (volume : Volume) (n : ℕ) (none cylinders tracks : Bool) → by_tests n none cylinders tracks ≡ None → choice_by volume n none cylinders tracks ≡ None
none_by volume n true cylinders tracks is = refl
none_by volume n false true tracks is = cc
none_by volume n false false true is = cc
none_by volume n false false false is = refl

-- what it asks for
equal : (a b : ℕ) → (a == b) ≡ true → a ≡ b
equal a b is = grind (arith, nat_tests)

at_least : (a b : ℕ) → a ≤ b → nat_le a b ≡ true
at_least a b low = grind (arith, nat_tests)

high : (flags unit : ℕ) → 2 ≤ unit → flags / 64 ≡ unit → 128 ≤ flags
high flags unit some is = omega (arith, some, is)

asked_so : (n flags unit : ℕ) (q : Request) → 2 ≤ unit → (flags / 64 == unit) ≡ true → n ≡ q.primary → cond (nat_le 128 flags) n 0 ≡ q.primary
asked_so n flags unit q some is same = ap (λ (b : Bool). cond b n 0) (at_least 128 flags (high flags unit some (equal (flags / 64) unit is))) ∙ same

asked_by : (n flags : ℕ) (none cylinders tracks : Bool) (q : Request) → (flags / 64 == 3) ≡ cylinders → (flags / 64 == 2) ≡ tracks → by_tests n none cylinders tracks ≡ Some q → cond (nat_le 128 flags) n 0 ≡ q.primary
asked_by n flags true cylinders tracks q cs ts is = cc
asked_by n flags false true tracks q cs ts is = let same : asks n Cylinder ≡ q = cc in asked_so n flags 3 q (omega arith) cs (ap (λ (x : Request). x.primary) same)
asked_by n flags false false true q cs ts is = let same : asks n Track ≡ q = cc in asked_so n flags 2 q (omega arith) ts (ap (λ (x : Request). x.primary) same)
asked_by n flags false false false q cs ts is = cc

module _ (volume : Volume) (attr : Attr) where
  -- no choice, where there is no request
  pub secondary_none : secondary_request attr ≡ None → secondary_choice volume attr ≡ None
  secondary_none none = none_by volume attr.secondary (attr.secondary == 0) (attr.scalo / 64 == 3) (attr.scalo / 64 == 2) none

  module _ (q : Request) (asked : secondary_request attr ≡ Some q) where
    pub secondary_is : secondary_choice volume attr ≡ choice volume q.unit q.contig q.primary
    secondary_is = some_by volume attr.secondary (attr.secondary == 0) (attr.scalo / 64 == 3) (attr.scalo / 64 == 2) q asked

    pub asked_is : secondary_asked attr ≡ q.primary
    asked_is = asked_by attr.secondary attr.scalo (attr.secondary == 0) (attr.scalo / 64 == 3) (attr.scalo / 64 == 2) q refl refl asked

module _ (image : List ℕ) (v : Vol) (volume : Volume) (mounted : IsMounted image v) (stands : volume_of image ≡ Ok volume) (attr : Attr) (q : Request) (asked : secondary_request attr ≡ Some q) where
  -- the answer from the free runs is the choice
  pub secondary_some : (e : Extents) → Chooses v.free.items v.geometry q (Ok e) → secondary_choice volume attr ≡ Some (listed e)
  secondary_some e chooses = secondary_is volume attr q asked ∙ chosen_some image v volume mounted stands q e chooses

  pub secondary_refused : (e : NoSpace) → Chooses v.free.items v.geometry q (Err e) → (secondary_choice volume attr ≡ None) × (refusals.NoSpace e.asked ≡ refusals.NoSpace (secondary_asked attr))
  secondary_refused e chooses =
      let is = chosen_none image v volume mounted stands q e chooses in
      (secondary_is volume attr q asked ∙ is.0, ap (λ (n : ℕ). refusals.NoSpace n) (is.1 ∙ sym (asked_is volume attr q asked)))
