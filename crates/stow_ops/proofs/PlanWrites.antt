-- The writes of a plan for a directory can be carried out: each is that of a block, and of entries that it may have.
use Rattle.std.proofs.Common.{◌≡◌, ◌≢◌, ◌+◌, ◌≤◌, ◌<◌, ℕ, zero, suc, Bool, true, false, cond, List, [], ◌∷◌, length, Some, refl, sym, ap, ◌∙◌, subst, eqb, arith, ⊎_elim}
use Rattle.std.specs.Prelude.{nat_eq, slice_get}
use Rattle.std.specs.List.{All, AllByRecursion}
use Rattle.std.proofs.lemmas.Bool.Decides.{eqb_tells}
use Rattle.std.proofs.lemmas.List.Elements.{All-head, All-tail}
use Rattle.std.proofs.lemmas.Option.{slice_get_within}
use Rattle.chain_spec.specs.Cut.{total}
use Rattle.chain_spec.specs.Kept.{Rises, joined}
use Rattle.chain_spec.proofs.BlockLemmas.{filled_at, fits_at, last_fits_at, rises_at}
use Rattle.pack_spec.specs.Directories.{name_number}
use Rattle.vol_model.specs.declared.contents.Entry.{Entry}
use Rattle.vol_model.specs.Lawful.{IsLawfulEntry}
use Rattle.vol_model.specs.Slots.{entry_size}
use Rattle.pds_directory.specs.Entries.{AreForBlock, IsReadEntry, chain_size}
use Rattle.stow_ops.specs.Stores.{AreForDir, CanBeWritten, IsDirPlan}
use Rattle.stow_ops.proofs.PlanStores.{all_parts, cut_entries}

read_at : (bs : List (List Entry)) (i : ℕ) (b : List Entry) → AllByRecursion IsReadEntry (joined bs) → slice_get bs i ≡ Some b → AllByRecursion IsReadEntry b
read_at [] i b all is = cc
read_at (c ∷ bs) zero b all is = let same : c ≡ b = cc in subst (AllByRecursion IsReadEntry) same (all_parts c (joined bs) all).0
read_at (c ∷ bs) (suc i) b all is = read_at bs i b (all_parts c (joined bs) all).1 is

lawful_of : (es : List Entry) → AllByRecursion IsReadEntry es → AllByRecursion IsLawfulEntry es
lawful_of [] all = tt
lawful_of (e ∷ es) all = (all.0.lawful, lawful_of es all.1)

each_of : {X : Type 0} (P Q : X → Type 0) (xs : List X) → ((x : X) → P x → Q x) → AllByRecursion P xs → AllByRecursion Q xs
each_of P Q [] more all = tt
each_of P Q (x ∷ xs) more all = (more x all.0, each_of P Q xs more all.1)

module _ (old : List (List Entry)) (entries : List Entry) (blocks places : ℕ) (writes : List (ℕ × List Entry)) (plan : IsDirPlan old entries blocks writes) (are : AreForDir entries) (fits : blocks ≤ places) where
  reads : AllByRecursion IsReadEntry (joined plan.cut)
  reads = subst (AllByRecursion IsReadEntry) (sym plan.is_cut.holds) are.each

  module _ (w : ℕ × List Entry) (at : slice_get plan.cut w.0 ≡ Some w.1) where
    pub low_at : w.0 < blocks
    low_at = omega (arith, slice_get_within plan.cut w.0 w.1 at, plan.number)

    room : (last : Bool) → nat_eq (w.0 + 1) blocks ≡ last → total entry_size w.1 + cond last 12 0 ≤ 254
    room true is =
        let cut = cut_entries plan.cut entries reads plan.is_cut in
        let end : suc w.0 ≡ length plan.cut = ⊎_elim (λ (e : (eqb (w.0 + 1) blocks ≡ true) × (w.0 + 1 ≡ blocks)). omega (arith, e.1, plan.number)) (λ (e : (eqb (w.0 + 1) blocks ≡ false) × (w.0 + 1 ≡ blocks → ⊥)). absurd (never (sym is ∙ e.0))) (eqb_tells (w.0 + 1) blocks) in
        last_fits_at entry_size 254 12 plan.cut w.0 w.1 cut.fits at end
      where
        never : true ≡ false → ⊥
        never e = cc
    room false is =
        let cut = cut_entries plan.cut entries reads plan.is_cut in
        omega (arith, fits_at entry_size 254 12 plan.cut w.0 w.1 cut.fits at)

    some : nat_eq (w.0 + 1) blocks ≡ false → w.1 ≢ []
    some is none =
        let more : suc w.0 < length plan.cut = ⊎_elim (λ (e : (eqb (w.0 + 1) blocks ≡ true) × (w.0 + 1 ≡ blocks)). absurd (never (sym e.0 ∙ is))) (λ (e : (eqb (w.0 + 1) blocks ≡ false) × (w.0 + 1 ≡ blocks → ⊥)). omega (arith, e.1, low_at, plan.number)) (eqb_tells (w.0 + 1) blocks) in
        let filled = filled_at chain_size 254 12 plan.cut w.0 w.1 (λ e. omega arith) (omega arith) plan.is_cut.full at more in
        omega (arith, filled, ap length none)
      where
        never : true ≡ false → ⊥
        never e = cc

    pub block_at : AreForBlock w.1 (nat_eq (w.0 + 1) blocks)
    block_at = record {
      lawful = lawful_of w.1 (read_at plan.cut w.0 w.1 reads at);
      rise = rises_at name_number plan.cut w.0 w.1 (subst (Rises name_number) (sym plan.is_cut.holds) are.rise) at;
      fit = room (nat_eq (w.0 + 1) blocks) refl;
      some = some;
    }

  abbrev IsOfCut : ℕ × List Entry → Type 0
  IsOfCut w = slice_get plan.cut w.0 ≡ Some w.1

  by_each : (ws : List (ℕ × List Entry)) → All IsOfCut ws → AllByRecursion IsOfCut ws
  by_each [] all = tt
  by_each (w ∷ ws) all = (All-head IsOfCut w ws all, by_each ws (All-tail IsOfCut w ws all))

  pub can_be_written : CanBeWritten places blocks writes
  can_be_written =
      let each = by_each writes plan.places in
      record {
        places_are = each_of IsOfCut (λ (w : ℕ × List Entry). w.0 < places) writes (λ w at. omega (arith, low_at w at, fits)) each;
        few = each_of IsOfCut (λ (w : ℕ × List Entry). w.0 < blocks) writes (λ w at. low_at w at) each;
        entries = each_of IsOfCut (λ (w : ℕ × List Entry). AreForBlock w.1 (nat_eq (w.0 + 1) blocks)) writes (λ w at. block_at w at) each;
      }
