-- The entries of a directory that was read: they are few, each is as it was read, and one more or less of them can be written.
use Rattle.std.proofs.Common.{◌≡◌, ◌+◌, ◌*◌, ◌≤◌, ◌<◌, ℕ, suc, Bool, true, false, cond, List, [], ◌∷◌, ◌++◌, length, length-append, Option, Some, sym, ap, ap₂, ◌∙◌, subst, arith}
use Rattle.std.specs.Prelude.{◌^◌, ◌-◌, nat_le, vec_items}
use Rattle.std.specs.List.{AllByRecursion}
use Rattle.std.proofs.lemmas.List.{length-map}
use Rattle.chain_spec.specs.Cut.{AllFit, IsCut, total}
use Rattle.chain_spec.specs.Kept.{Rises, joined, kept, kept_from}
use Rattle.chain_spec.specs.Store.{Block as Stored, stored}
use Rattle.chain_spec.proofs.KeptLemmas.{kept_rises}
use Rattle.dscb_codec.specs.declared.F1.{F1}
use Rattle.pack_spec.specs.Directories.{name_number}
use Rattle.vol_model.specs.declared.contents.Entry.{Entry}
use Rattle.vol_model.specs.Lawful.{IsLawfulEntry}
use Rattle.vol_model.specs.Slots.{entry_size}
use Rattle.vtoc_index.specs.declared.vol.Vol.{Vol}
use Rattle.pds_directory.specs.declared.dir.Dir.{Dir}
use Rattle.pds_directory.specs.Directories.{IsLawfulDir, IsPacked, IsReadIn, directory_in, entries_read}
use Rattle.pds_directory.specs.Entries.{IsNamed, IsReadEntry}
use Rattle.stow_ops.specs.Entries.{HasDropped, HasEntered}
use Rattle.stow_ops.specs.Stores.{AreForDir}
use Rattle.stow_ops.proofs.ChangedEntries.{dropped_all, dropped_few, dropped_rises, entered_all, entered_few, entered_rises}
use Rattle.stow_ops.proofs.PlanStores.{all_joined}

-- ---- kept entries are among the others

kept_each : (P : Entry → Type 0) (t : ℕ) (es : List Entry) → AllByRecursion P es → AllByRecursion P (kept_from name_number t es)
kept_each P t [] all = tt
kept_each P t (e ∷ es) all = by (nat_le t (name_number e)) (kept_each P (suc (name_number e)) es all.1) (kept_each P t es all.1)
  where
    by : (b : Bool) → AllByRecursion P (kept_from name_number (suc (name_number e)) es) → AllByRecursion P (kept_from name_number t es) → AllByRecursion P (cond b (e ∷ kept_from name_number (suc (name_number e)) es) (kept_from name_number t es))
    by true kept passed = (all.0, kept)
    by false kept passed = passed

kept_few : (t : ℕ) (es : List Entry) → length (kept_from name_number t es) ≤ length es
kept_few t [] = omega arith
kept_few t (e ∷ es) = by (nat_le t (name_number e)) (kept_few (suc (name_number e)) es) (kept_few t es)
  where
    by : (b : Bool) → length (kept_from name_number (suc (name_number e)) es) ≤ length es → length (kept_from name_number t es) ≤ length es → length (cond b (e ∷ kept_from name_number (suc (name_number e)) es) (kept_from name_number t es)) ≤ suc (length es)
    by true kept passed = omega (arith, kept)
    by false kept passed = omega (arith, passed)

few_of : (es : List Entry) → 12 * length es ≤ total entry_size es
few_of [] = omega arith
few_of (e ∷ es) = omega (arith, few_of es)

-- a block has at most 21 entries
few_joined : (bs : List (List Entry)) → AllFit entry_size 254 12 bs → length (joined bs) ≤ 21 * length bs
few_joined [] fit = absurd fit
few_joined (b ∷ []) fit = omega (arith, fit, few_of b, length-append {A = Entry})
few_joined (b ∷ c ∷ cs) fit = omega (arith, fit.0, few_of b, few_joined (c ∷ cs) fit.1, length-append {A = Entry})

-- ---- the blocks up to the end of a chain are those of its store

first_of : {x y : Stored Entry} {s t : List (Option (Stored Entry))} → Some x ∷ s ≡ Some y ∷ t → x ≡ y
first_of same = cc

rest_of : {x y : Option (Stored Entry)} {s t : List (Option (Stored Entry))} → x ∷ s ≡ y ∷ t → s ≡ t
rest_of same = cc

stored_one : (xs ys : List (List Entry)) (s t : List (Option (Stored Entry))) → AllFit entry_size 254 12 xs → AllFit entry_size 254 12 ys → stored xs ++ s ≡ stored ys ++ t → xs ≡ ys
stored_one [] ys s t fit other same = absurd fit
stored_one (b ∷ bs) [] s t fit other same = absurd other
stored_one (b ∷ []) (c ∷ []) s t fit other same = ap (λ (x : List Entry). x ∷ []) (ap (λ (x : Stored Entry). x.entries) (first_of same))
stored_one (b ∷ []) (c ∷ e ∷ es) s t fit other same = let never : true ≡ false = ap (λ (x : Stored Entry). x.ends) (first_of same) in cc
stored_one (b ∷ d ∷ ds) (c ∷ []) s t fit other same = let never : false ≡ true = ap (λ (x : Stored Entry). x.ends) (first_of same) in cc
stored_one (b ∷ d ∷ ds) (c ∷ e ∷ es) s t fit other same =
    let one : b ≡ c = ap (λ (x : Stored Entry). x.entries) (first_of same) in
    let rest : stored (d ∷ ds) ++ s ≡ stored (e ∷ es) ++ t = rest_of same in
    ap₂ (λ (x : List Entry) (l : List (List Entry)). x ∷ l) one (stored_one (d ∷ ds) (e ∷ es) s t fit.1 other.1 rest)

-- what is read of a packed directory is cut as its entries need
pub packed_read : (image : List ℕ) (v : Vol) (f : F1) (dir : Dir) → IsReadIn image v f dir → IsLawfulDir dir → IsPacked (directory_in image v f) → IsCut entry_size 254 12 (entries_read dir) (kept name_number (joined (entries_read dir)))
packed_read image v f dir read lawful packed =
    let same : packed.blocks ≡ entries_read dir = stored_one packed.blocks (entries_read dir) packed.behind read.read.behind packed.cut.fits lawful.fit (sym packed.store ∙ read.read.blocks) in
    subst (λ (bs : List (List Entry)). IsCut entry_size 254 12 bs (kept name_number (joined bs))) same packed.cut

-- ---- entries of which one changes

module _ (dir : Dir) (lawful : IsLawfulDir dir) (old : List Entry) (is : old ≡ kept name_number (joined (entries_read dir))) where
  pub read_each : AllByRecursion IsReadEntry old
  read_each = subst (AllByRecursion IsReadEntry) (sym is) (kept_each IsReadEntry 0 (joined (entries_read dir)) (all_joined (entries_read dir) lawful.entries))

  named_of : (es : List Entry) → AllByRecursion IsReadEntry es → AllByRecursion IsNamed es
  named_of [] all = tt
  named_of (e ∷ es) all = (all.0.named, named_of es all.1)

  pub read_named : AllByRecursion IsNamed old
  read_named = named_of old read_each

  pub read_rises : Rises name_number old
  read_rises = subst (Rises name_number) (sym is) (kept_rises name_number 0 (joined (entries_read dir)))

  read_few : length old + 1 < 2 ^ 32 - 1
  read_few =
      let all : length old ≤ length (joined (entries_read dir)) = omega (arith, ap length is, kept_few 0 (joined (entries_read dir))) in
      let many : length (entries_read dir) ≡ length dir.blocks.items = length-map dir.blocks.items vec_items in
      omega (arith, all, many, few_joined (entries_read dir) lawful.fit, lawful.room, lawful.few)

  -- those that are kept are such
  pub kept_for : AreForDir old
  kept_for = record { few = omega (arith, read_few); rise = read_rises; each = read_each }

  pub enter_for : (e : Entry) (new : List Entry) → IsLawfulEntry e → IsNamed e → HasEntered e old new → AreForDir new
  enter_for e new entry named entered = record {
    few = omega (arith, read_few, entered_few e old new read_rises entered);
    rise = entered_rises e old new read_rises entered;
    each = entered_all e old new read_rises IsReadEntry (record { lawful = entry; named = named }) read_each entered;
  }

  pub drop_for : (name : List ℕ) (new : List Entry) → HasDropped name old new → AreForDir new
  drop_for name new dropped = record {
    few = omega (arith, read_few, dropped_few name old new dropped);
    rise = dropped_rises name old new dropped read_rises;
    each = dropped_all name old new dropped IsReadEntry read_each;
  }
