-- Slots of which one that held a format 1 is cleared: they break no rule, and each other data set has its extents.
use Rattle.std.proofs.Common.{◌≡◌, ℕ, Bool, true, false, cond, List, [], take, Option, Some, None, Result, Ok, refl, ap, ◌∙◌}
use Rattle.std.specs.Prelude.{◌==◌, option_and_then, position, slice_get}
use Rattle.std.specs.List.{list_any}
use Rattle.std.specs.Option.{option_map}
use Rattle.ckd_image.specs.declared.header.Geometry.{Geometry}
use Rattle.dscb_codec.specs.declared.Dscb.{Dscb}
use Rattle.dscb_codec.specs.declared.Dscb.TheVariants as formats
use Rattle.dscb_codec.specs.declared.DscbErr.{DscbErr}
use Rattle.dscb_codec.specs.declared.F1.{F1}
use Rattle.pack_spec.specs.declared.MountErr.{MountErr}
use Rattle.pack_spec.specs.declared.MountErr.TheVariants.{DuplicateName}
use Rattle.pack_spec.specs.declared.slot.VtocSlot.{VtocSlot}
use Rattle.pack_spec.specs.Rules.{content_fault, counted_extents, is_named, name_fault, set_in, slot_fault, slots_faults}
use Rattle.vtoc_index.specs.Index.{with_dscb}
use Rattle.slot_laws.proofs.ChangedSlots.{any-changed, take-changed}
use Rattle.slot_laws.proofs.ReplacedSets.{counted_same as counted_replaced, has_name_in, replaced_faults}

-- what is in a slot
abbrev Content : Type 0
Content = Result Dscb DscbErr

always_none : (b : Bool) → let none : Option MountErr = None in cond b none none ≡ none
always_none true = refl
always_none false = refl

module _ (g : Geometry) (slots : List VtocSlot) (k : ℕ) (s : VtocSlot) (f : F1) (at : slice_get slots k ≡ Some s) (set : s.content ≡ Ok (formats.F1 f)) where
  abbrev cleared : List VtocSlot
  cleared = with_dscb k formats.F0 slots

  -- the extents that a data set counts
  pub counted_same : (h : F1) → counted_extents cleared h ≡ counted_extents slots h
  counted_same = counted_replaced g slots k s f at set formats.F0 refl

  fewer : (j : ℕ) (name : List ℕ) → has_name_in name (take j slots) ≡ false → has_name_in name (take j cleared) ≡ false
  fewer j name none =
      let p : VtocSlot → Bool = λ u. is_named name u.content in
      ap (list_any p) (take-changed k j formats.F0 slots) ∙ any-changed p k formats.F0 (take j slots) (λ u. refl) none

  no_slot_fault : (j : ℕ) (t : VtocSlot) → t.content ≡ Ok formats.F0 → slot_fault g cleared j t ≡ None
  unfolding slot_fault
  no_slot_fault j t is = ap (λ (c : Content). cond (j == 0) None (content_fault g cleared j c)) is ∙ always_none (j == 0)

  no_name_fault : (j : ℕ) (t : VtocSlot) → t.content ≡ Ok formats.F0 → name_fault cleared j t ≡ None
  unfolding name_fault
  no_name_fault j t is = ap (λ (c : Content). option_and_then (λ h. option_map (DuplicateName j) (position (λ u. is_named h.name u.content) (take j cleared))) (set_in c)) is

  -- Slots that break no rule break none where a data set is cleared.
  pub cleared_faults : slots_faults g slots ≡ [] → slots_faults g cleared ≡ []
  cleared_faults =
      replaced_faults g slots k s f at set formats.F0 refl fewer (λ j t e other there held chained. refl) (λ j t same is. no_slot_fault j t is) (λ j t same is was. no_name_fault j t is)
