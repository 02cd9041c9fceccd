-- The index of a VTOC when a data set has got extents: its slots, its free runs and its buffer.
use Rattle.std.proofs.Common.{◌≡◌, ℕ, List, sym, ap, ◌∙◌}
use Rattle.hall_core.specs.Facts.{Attached}
use Rattle.space_alloc.specs.Edits.{AreWithout}
use Rattle.vol_model.specs.declared.contents.Run.{Run}
use Rattle.vtoc_index.specs.Index.{IsIndexOf, IsOfUnit}
use Rattle.vtoc_index.specs.declared.vol.Vol.{Vol}
use Rattle.dadsm_ops.proofs.NewIndex.{index_with, unit_with}
use Rattle.dadsm_ops.specs.Operations.{HasVtocOf}

-- an index that differs from another in its slots, its free runs and its buffer alone
abbrev pub HasNamesOf : Vol → Vol → Type 0
HasNamesOf v w = w ≡ record v { slots = w.slots; free = w.free; buf = w.buf }

-- slots and buffer alone
pub only_slots : (u v : Vol) → v ≡ record u { slots = v.slots; buf = v.buf } → HasNamesOf u v
only_slots u v is = is ∙ (λ i. record u { slots = v.slots; free = sym (ap (λ (x : Vol). x.free) is) i; buf = v.buf })

-- slots and buffer, and then the free runs
pub then_free : (u v w : Vol) → v ≡ record u { slots = v.slots; buf = v.buf } → w ≡ record v { free = w.free } → HasNamesOf u w
then_free u v w first second =
    second
    ∙ ap (λ (x : Vol). record x { free = w.free }) first
    ∙ (λ i. record u { slots = sym (ap (λ (x : Vol). x.slots) second) i; free = w.free; buf = sym (ap (λ (x : Vol). x.buf) second) i })

-- one change after another
pub changes_then : (u v w : Vol) → HasNamesOf u v → HasNamesOf v w → HasNamesOf u w
changes_then u v w first second = second ∙ ap (λ (x : Vol). record x { slots = w.slots; free = w.free; buf = w.buf }) first

-- the VTOC stays where it is
pub same_vtoc : (u v : Vol) → HasNamesOf u v → HasVtocOf u v
same_vtoc u v is = is ∙ (λ i. record u { slots = v.slots; free = v.free; by_name = sym (ap (λ (x : Vol). x.by_name) is) i; buf = v.buf })

module _ (v w : Vol) (others : w ≡ record v { free = w.free }) where
  with_order : w ≡ record v { free = w.free; by_name = w.by_name }
  with_order = others ∙ (λ i. record v { free = w.free; by_name = sym (ap (λ (x : Vol). x.by_name) others) i })

  -- the free runs alone: the index is of the same unit, and of the same image
  pub unit_freed : (units : List Attached) (runs : List Run) → IsOfUnit units v → AreWithout v.free.items runs w.free.items → IsOfUnit units w
  unit_freed units runs unit without = unit_with v w with_order units runs unit without

  pub index_freed : (image : List ℕ) → IsIndexOf image v → IsIndexOf image w
  index_freed image index = index_with v w with_order image index
