-- The store of a directory after the writes of a plan: it has the plan's entries, and is packed.
use Rattle.std.proofs.Common.{◌≡◌, ◌+◌, ◌≤◌, ◌<◌, ℕ, List, [], ◌∷◌, ◌++◌, length, take, drop, Option, Some, refl, sym, ap, ap₂, ◌∙◌, subst, arith}
use Rattle.std.specs.List.{AllByRecursion}
use Rattle.std.proofs.lemmas.List.{length-map}
use Rattle.chain_spec.specs.Cut.{AllFit, IsCut, IsFull, first_size}
use Rattle.chain_spec.specs.Kept.{joined, kept}
use Rattle.chain_spec.specs.Store.{Block as Stored, reads, stored}
use Rattle.chain_spec.proofs.KeptLemmas.{kept_all}
use Rattle.chain_spec.proofs.StoreLemmas.{reads-stored}
use Rattle.dscb_codec.specs.declared.F1.{F1}
use Rattle.pack_spec.specs.Directories.{name_number, stored_in}
use Rattle.sorted_chain.specs.Plan.{after_writes}
use Rattle.vol_model.specs.declared.contents.Block.{Block}
use Rattle.vol_model.specs.declared.contents.Entry.{Entry}
use Rattle.vol_model.specs.Slots.{entry_size}
use Rattle.vtoc_index.specs.declared.vol.Vol.{Vol}
use Rattle.pds_directory.specs.declared.dir.Dir.{Dir}
use Rattle.pds_directory.specs.Directories.{IsPacked, IsReadIn, directory_in, entries_read}
use Rattle.pds_directory.specs.Entries.{IsReadEntry, chain_size}
use Rattle.stow_ops.specs.Stores.{AreForDir, IsDirPlan, HasStore, store_after, store_in}
use Rattle.stow_ops.proofs.ChainSizes.{same_size, same_total}

-- ---- the cut of lawful entries is the same by either size

pub all_parts : (b : List Entry) (bs : List Entry) → AllByRecursion IsReadEntry (b ++ bs) → AllByRecursion IsReadEntry b × AllByRecursion IsReadEntry bs
all_parts [] bs all = (tt, all)
all_parts (e ∷ b) bs all = let rest = all_parts b bs all.1 in ((all.0, rest.0), rest.1)

pub all_joined : (bs : List (List Entry)) → AllByRecursion (AllByRecursion IsReadEntry) bs → AllByRecursion IsReadEntry (joined bs)
all_joined [] all = tt
all_joined (b ∷ bs) all = both b all.0 (all_joined bs all.1)
  where
    both : (b : List Entry) → AllByRecursion IsReadEntry b → AllByRecursion IsReadEntry (joined bs) → AllByRecursion IsReadEntry (b ++ joined bs)
    both [] first rest = rest
    both (e ∷ b) first rest = (first.0, both b first.1 rest)

first_same : (end : ℕ) (c : List Entry) (cs : List (List Entry)) → AllByRecursion IsReadEntry c → first_size chain_size end c cs ≡ first_size entry_size end c cs
first_same end [] [] all = refl
first_same end [] (d ∷ ds) all = refl
first_same end (e ∷ c) cs all = same_size e all.0.lawful

fits_same : (end : ℕ) (bs : List (List Entry)) → AllByRecursion IsReadEntry (joined bs) → AllFit chain_size 254 end bs ≡ AllFit entry_size 254 end bs
fits_same end [] all = refl
fits_same end (b ∷ []) all = ap (λ (n : ℕ). n + end ≤ 254) (same_total b (all_parts b [] all).0)
fits_same end (b ∷ c ∷ cs) all =
    let parts = all_parts b (joined (c ∷ cs)) all in
    ap₂ (λ (n : ℕ) (T : Type 0). (n ≤ 254) × T) (same_total b parts.0) (fits_same end (c ∷ cs) parts.1)

full_same : (end : ℕ) (bs : List (List Entry)) → AllByRecursion IsReadEntry (joined bs) → IsFull chain_size 254 end bs ≡ IsFull entry_size 254 end bs
full_same end [] all = refl
full_same end (b ∷ []) all = refl
full_same end (b ∷ c ∷ cs) all =
    let parts = all_parts b (joined (c ∷ cs)) all in
    let next = all_parts c (joined cs) parts.1 in
    ap₂ (λ (n : ℕ) (T : Type 0). (254 < n) × T) (ap₂ (λ (m n : ℕ). m + n) (same_total b parts.0) (first_same end c cs next.0)) (full_same end (c ∷ cs) parts.1)

pub cut_chain : (bs : List (List Entry)) (es : List Entry) → AllByRecursion IsReadEntry (joined bs) → IsCut entry_size 254 12 bs es → IsCut chain_size 254 12 bs es
cut_chain bs es all cut = record {
  holds = cut.holds;
  fits = subst (λ (T : Type 0). T) (sym (fits_same 12 bs all)) cut.fits;
  full = subst (λ (T : Type 0). T) (sym (full_same 12 bs all)) cut.full;
}

pub cut_entries : (bs : List (List Entry)) (es : List Entry) → AllByRecursion IsReadEntry (joined bs) → IsCut chain_size 254 12 bs es → IsCut entry_size 254 12 bs es
cut_entries bs es all cut = record {
  holds = cut.holds;
  fits = subst (λ (T : Type 0). T) (fits_same 12 bs all) cut.fits;
  full = subst (λ (T : Type 0). T) (full_same 12 bs all) cut.full;
}

-- and so is whether they fit
pub fit_chain : (bs : List (List Entry)) → AllByRecursion IsReadEntry (joined bs) → AllFit entry_size 254 12 bs → AllFit chain_size 254 12 bs
fit_chain bs all fits = subst (λ (T : Type 0). T) (sym (fits_same 12 bs all)) fits

-- ---- the store after the writes of a plan

-- as many writes as there are are all
all_taken : (ws : List (ℕ × List Entry)) → take (length ws) ws ≡ ws
all_taken [] = refl
all_taken (w ∷ ws) = ap (λ (l : List (ℕ × List Entry)). w ∷ l) (all_taken ws)

module _ (image : List ℕ) (v : Vol) (f : F1) (dir : Dir) (entries : List Entry) (blocks : ℕ) (writes : List (ℕ × List Entry))
    (read : IsReadIn image v f dir) (are : AreForDir entries) (plan : IsDirPlan (entries_read dir) entries blocks writes) (fits : blocks ≤ length dir.places.items) where
  abbrev stores : ℕ → List (Option (Stored Entry))
  stores k = store_after image v f blocks writes k

  pub store_is : store_in image v f ≡ stored (entries_read dir) ++ read.read.behind
  store_is = read.read.blocks

  pub long : blocks ≤ length (store_in image v f)
  long = omega (arith, fits, ap length read.read.places ∙ length-map (directory_in image v f) (λ (b : Block). b.place), length-map (directory_in image v f) stored_in)

  pub store_last : stores (length writes) ≡ stored plan.cut ++ drop blocks (store_in image v f)
  store_last = ap (λ (ws : List (ℕ × List Entry)). after_writes blocks ws (store_in image v f)) (all_taken writes) ∙ plan.packs (store_in image v f) long

  kept_entries : kept name_number (joined plan.cut) ≡ entries
  kept_entries = ap (kept name_number) plan.is_cut.holds ∙ kept_all name_number 0 0 entries (omega arith) are.rise

  pub reads_last : reads name_number (stores (length writes)) ≡ Some entries
  reads_last = ap (reads name_number) store_last ∙ reads-stored name_number chain_size 254 12 plan.cut (drop blocks (store_in image v f)) plan.is_cut.fits ∙ ap Some kept_entries

  -- The directory is packed then.
  pub packed_then : (after : List ℕ) → HasStore v f (stores (length writes)) image after → IsPacked (directory_in after v f)
  packed_then after has = record {
    blocks = plan.cut;
    behind = drop blocks (store_in image v f);
    store = has.stored ∙ store_last;
    cut = cut_entries plan.cut (kept name_number (joined plan.cut)) (subst (AllByRecursion IsReadEntry) (sym plan.is_cut.holds) are.each) (subst (IsCut chain_size 254 12 plan.cut) (sym kept_entries) plan.is_cut);
  }
