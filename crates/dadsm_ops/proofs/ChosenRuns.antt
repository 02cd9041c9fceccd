-- Why a new data set gets no tracks, by the index of a mounted image, or which it may have.
use Rattle.std.proofs.Common.{◌≡◌, ℕ, Bool, true, false, cond, not, List, Option, Some, None, inl, inr, refl, sym, ap, ◌∙◌, arith}
use Rattle.std.specs.Prelude.{◌==◌, Ok, Err, is_some, nat_lt}
use Rattle.std.proofs.lemmas.Bool.Decides.{eqb_tells, nat_tests}
use Rattle.ebcdic_names.specs.declared.names.Dsn.{Dsn}
use Rattle.pack_spec.specs.Volume.{volume_of}
use Rattle.space_alloc.specs.declared.extents.Extents.{Extents}
use Rattle.space_alloc.specs.declared.extents.NoSpace.{NoSpace}
use Rattle.space_alloc.specs.Units.{Chooses, listed}
use Rattle.vol_model.specs.declared.contents.Attr.{Attr}
use Rattle.vol_model.specs.declared.contents.Volume.{Volume}
use Rattle.vol_model.specs.declared.refusals.Refusal.TheVariants as refusals
use Rattle.vol_model.specs.declared.requests.Request.{Request}
use Rattle.vol_model.specs.Shelf.{allocate_on, has_set, is_partitioned}
use Rattle.vtoc_index.specs.declared.vol.Vol.{Vol}
use Rattle.vtoc_index.specs.Index.{IsMounted, first_named}
use Rattle.dadsm_ops.specs.Allocating.{HasChoice, IsAbsent, is_wrong}
use Rattle.dadsm_ops.proofs.NewChoices.{chosen_none, chosen_some, has_named_set}
use Rattle.dadsm_ops.proofs.NewNames.{absent_none}
use Rattle.dadsm_ops.proofs.DirectoryOutcomes.{no_space, set_exists, wrong_kind}
use mathlib.Core.Bool.{beq}

module _ (dsn : Dsn) (attr : Attr) (q : Request) (dir : ℕ) (image : List ℕ) (v : Vol) (volume : Volume) (mounted : IsMounted image v) (stands : volume_of image ≡ Ok volume) where
  named : (o : Option ℕ) → o ≡ first_named dsn.bytes v.slots.items → has_set volume dsn.bytes ≡ is_some o
  named o found = has_named_set image v volume mounted stands dsn.bytes ∙ ap (λ (p : Option ℕ). is_some p) (sym found)

  -- a set has the name
  pub refused_exists : (o : Option ℕ) → o ≡ first_named dsn.bytes v.slots.items → is_some o ≡ true → allocate_on dsn attr q dir volume ≡ Err refusals.SetExists
  refused_exists o found some = set_exists dsn attr q dir volume (named o found ∙ some)

  module _ (o : Option ℕ) (found : o ≡ first_named dsn.bytes v.slots.items) (no_set : is_some o ≡ false) where
    absent : has_set volume dsn.bytes ≡ false
    absent = named o found ∙ no_set

    -- it needs a directory and gets none, or the other way round
    pub refused_kind : is_wrong dsn attr dir ≡ true → allocate_on dsn attr q dir volume ≡ Err refusals.WrongKind
    refused_kind wrong = wrong_kind dsn attr q dir volume absent wrong

    module _ (right : is_wrong dsn attr dir ≡ false) where
      -- no tracks serve the request
      pub refused_space : (e : NoSpace) → Chooses v.free.items v.geometry q (Err e) → allocate_on dsn attr q dir volume ≡ Err (refusals.NoSpace e.asked)
      refused_space e chooses =
          let is = chosen_none image v volume mounted stands q e chooses in
          no_space dsn attr q dir volume absent right is.0 ∙ ap (λ (n : ℕ). Err (refusals.NoSpace n)) (sym is.1)

      -- or these do
      pub has_choice : (e : Extents) → Chooses v.free.items v.geometry q (Ok e) → HasChoice dsn attr q dir volume (listed e)
      has_choice e chooses = record { absent = absent; right = right; chosen = chosen_some image v volume mounted stands q e chooses }

-- whether it is so, by its number of blocks
pub wrong_is : (b : Bool) (dsn : Dsn) (attr : Attr) (dir : ℕ) → b ≡ is_partitioned dsn.bytes attr → is_wrong dsn attr dir ≡ not (beq b (nat_lt 0 dir))
wrong_is b dsn attr dir is =
    ap (λ (p : Bool). cond (dir == 0) p (not p)) (sym is) ∙ ap (λ (z : Bool). cond z b (not b)) (none_is dir) ∙ by b (nat_lt 0 dir)
  where
    less : (n : ℕ) → (n ≡ 0 → ⊥) → nat_lt 0 n ≡ true
    less n some = grind (arith, nat_tests)

    none_is : (n : ℕ) → (n == 0) ≡ not (nat_lt 0 n)
    none_is n = elim (eqb_tells n 0) [
      | inl w ↦ w.0 ∙ sym (ap (λ (k : ℕ). not (nat_lt 0 k)) w.1)
      | inr w ↦ w.0 ∙ sym (ap not (less n w.1))
    ]

    by : (b u : Bool) → cond (not u) b (not b) ≡ not (beq b u)
    by true true = refl
    by true false = refl
    by false true = refl
    by false false = refl

-- no slot holds a set of the name, where none is found
pub absent_found : (name : List ℕ) (v : Vol) (o : Option ℕ) → o ≡ first_named name v.slots.items → is_some o ≡ false → IsAbsent name v.slots.items
absent_found name v o found no_set = absent_none name v.slots.items (sym found ∙ by o no_set)
  where
    by : (p : Option ℕ) → is_some p ≡ false → p ≡ None
    by None is = refl
    by (Some slot) is = cc
