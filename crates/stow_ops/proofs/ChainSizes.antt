-- The size of an entry in a chain is that in a block, where the entry is lawful.
use Rattle.std.proofs.Common.{◌≡◌, ◌+◌, ℕ, suc, cond, List, [], ◌∷◌, refl, ap, ap₂, ◌∙◌, arith}
use Rattle.std.specs.Prelude.{nat_le}
use Rattle.std.specs.List.{AllByRecursion}
use Rattle.chain_spec.specs.Cut.{needed, needed_from, total}
use Rattle.vol_model.specs.declared.contents.Entry.{Entry}
use Rattle.vol_model.specs.Lawful.{IsLawfulEntry}
use Rattle.vol_model.specs.Slots.{directory_needed, entry_size}
use Rattle.pds_directory.specs.Entries.{IsReadEntry, chain_size}

pub same_size : (e : Entry) → IsLawfulEntry e → chain_size e ≡ entry_size e
same_size e lawful = omega (arith, lawful.user)

-- of entries that are read
module _ where
  pub same_total : (es : List Entry) → AllByRecursion IsReadEntry es → total chain_size es ≡ total entry_size es
  same_total [] all = refl
  same_total (e ∷ es) all = ap₂ (λ (m n : ℕ). m + n) (same_size e all.0.lawful) (same_total es all.1)

  same_needed : (used : ℕ) (es : List Entry) → AllByRecursion IsReadEntry es → needed_from chain_size 254 12 used es ≡ needed_from entry_size 254 12 used es
  same_needed used [] all = refl
  same_needed used (e ∷ es) all =
      let here = same_size e all.0.lawful in
      ap (λ (n : ℕ). cond (nat_le (used + n) 254) (needed_from chain_size 254 12 (used + n) es) (suc (needed_from chain_size 254 12 n es))) here
      ∙ ap₂ (λ (m n : ℕ). cond (nat_le (used + entry_size e) 254) m (suc n)) (same_needed (used + entry_size e) es all.1) (same_needed (entry_size e) es all.1)

  pub chain_needed : (es : List Entry) → AllByRecursion IsReadEntry es → needed chain_size 254 12 es ≡ directory_needed es
  unfolding directory_needed
  chain_needed es all = same_needed 0 es all
