-- Numbers that are given one by one, and what functions make of records one by one.
use Rattle.std.proofs.Common.{◌≡◌, ℕ, ◌+◌, Bool, true, false, List, [], ◌∷◌, refl, sym, ap, ◌∙◌}
use Rattle.std.specs.Prelude.{◌&&◌, nat_le, if◌then◌else◌, Option, Some, None, option_and_then}
use Rattle.update_forms.specs.declared.records.CardRecord.{CardRecord}
use Rattle.update_forms.specs.declared.requests.Numbering.{Numbering}
use Rattle.update_forms.specs.declared.requests.Range.{Range}
use Rattle.update_forms.specs.declared.requests.Verb.{Verb}
use Rattle.update_forms.specs.declared.requests.Verb.TheVariants.{Add, Change, Repl, Repro}
use Rattle.update_forms.specs.Editing.{made, merged, numbered, numbers_fit, renumbered, rises, taken}
use Rattle.update_forms.specs.Merging.{fits_on, merge, numbered_on}
use Rattle.update_forms.specs.Orders.{is_change, reads_old, takes_data}
use Rattle.update_forms.specs.Records.{records_in, with_number}
use Rattle.update_forms.proofs.MergeLemmas.{merge_merged, merge_plain}

-- ---- numbers one by one

abbrev by : ℕ → ℕ → Bool → Numbering
by n step all = record { first = n; step = step; all = all }

fits_one_by_one : (n step : ℕ) (all : Bool) (rs : List (List ℕ)) → fits_on (Some (by n step all)) rs ≡ numbers_fit n step rs
unfolding fits_on
fits_one_by_one n step all [] = refl
fits_one_by_one n step all (r ∷ rs) = by_test (nat_le n 99999999) (fits_one_by_one (n + step) step all rs)
  where
    by_test : (t : Bool) → fits_on (Some (by (n + step) step all)) rs ≡ numbers_fit (n + step) step rs → (t && fits_on (if t then Some (by (n + step) step all) else Some (by n step all)) rs) ≡ (t && numbers_fit (n + step) step rs)
    by_test true same = same
    by_test false same = refl

numbers_one_by_one : (n step : ℕ) (all : Bool) (rs : List (List ℕ)) → numbers_fit n step rs ≡ true → numbered_on (Some (by n step all)) rs ≡ renumbered n step rs
unfolding numbered_on
numbers_one_by_one n step all [] h = refl
numbers_one_by_one n step all (r ∷ rs) h = by_test (nat_le n 99999999) h (λ k. numbers_one_by_one (n + step) step all rs k)
  where
    by_test : (t : Bool) → (t && numbers_fit (n + step) step rs) ≡ true → (numbers_fit (n + step) step rs ≡ true → numbered_on (Some (by (n + step) step all)) rs ≡ renumbered (n + step) step rs)
        → ((if t then with_number n r else r) ∷ numbered_on (if t then Some (by (n + step) step all) else Some (by n step all)) rs) ≡ with_number n r ∷ renumbered (n + step) step rs
    by_test true k others = ap (λ (l : List (List ℕ)). with_number n r ∷ l) (others k)
    by_test false k others = cc

none_numbered : (rs : List (List ℕ)) → numbered_on None rs ≡ rs
unfolding numbered_on
none_numbered [] = refl
none_numbered (r ∷ rs) = ap (λ (l : List (List ℕ)). r ∷ l) (none_numbered rs)

none_fit : (rs : List (List ℕ)) → fits_on None rs ≡ true
unfolding fits_on
none_fit [] = refl
none_fit (r ∷ rs) = none_fit rs

abbrev pub some_if : Bool → List (List ℕ) → Option (List (List ℕ))
some_if b rs = if b then Some rs else None

-- NUMBER gives the numbers that are given one by one
pub numbered_one_by_one : (numbering : Option Numbering) (rs : List (List ℕ)) → numbered numbering rs ≡ some_if (fits_on numbering rs) (numbered_on numbering rs)
unfolding numbered
numbered_one_by_one None rs = sym (ap (λ (t : Bool). some_if t (numbered_on None rs)) (none_fit rs) ∙ ap Some (none_numbered rs))
numbered_one_by_one (Some n) rs = by_test (numbers_fit n.first n.step rs) refl ∙ ap (λ (t : Bool). some_if t (numbered_on (Some n) rs)) (sym (fits_one_by_one n.first n.step n.all rs))
  where
    by_test : (t : Bool) → numbers_fit n.first n.step rs ≡ t → some_if t (renumbered n.first n.step rs) ≡ some_if t (numbered_on (Some n) rs)
    by_test true h = ap Some (sym (numbers_one_by_one n.first n.step n.all rs h))
    by_test false h = refl

-- ---- functions one by one

module _ (ranges : List Range) (numbering : Option Numbering) (data_cards : List CardRecord) (olds : List (List ℕ)) where
  abbrev lines : List (List ℕ)
  lines = records_in data_cards

  abbrev both : List (List ℕ)
  both = merge false ranges olds lines

  -- the sequences of a CHANGE rise, or not
  change_by : (a b : Bool) → rises olds ≡ a → rises lines ≡ b
      → option_and_then (numbered numbering) (if a && b then Some (merged ranges olds lines) else None) ≡ some_if (a && (b && fits_on numbering both)) (numbered_on numbering both)
  change_by true true one two = ap (numbered numbering) (sym (merge_merged ranges olds lines one two)) ∙ numbered_one_by_one numbering both
  change_by true false one two = refl
  change_by false b one two = refl

  abbrev merged_by : Verb → List (List ℕ)
  merged_by v = merge false (if is_change v then ranges else []) olds (records_in (if takes_data v then data_cards else []))

  pub made_one_by_one : (v : Verb) → (reads_old v ≡ false → olds ≡ [])
      → made v ranges numbering olds lines ≡ some_if (if is_change v then rises olds && (rises lines && fits_on numbering (merged_by v)) else fits_on numbering (merged_by v)) (numbered_on numbering (merged_by v))
  unfolding made taken merge
  made_one_by_one Add none = numbered_one_by_one numbering lines ∙ ap (λ (l : List (List ℕ)). some_if (fits_on numbering (merge false [] l lines)) (numbered_on numbering (merge false [] l lines))) (sym (none refl))
  made_one_by_one Repl none = numbered_one_by_one numbering lines ∙ ap (λ (l : List (List ℕ)). some_if (fits_on numbering (merge false [] l lines)) (numbered_on numbering (merge false [] l lines))) (sym (none refl))
  made_one_by_one Repro none = numbered_one_by_one numbering olds ∙ ap (λ (l : List (List ℕ)). some_if (fits_on numbering l) (numbered_on numbering l)) (sym (merge_plain olds))
  made_one_by_one Change none = change_by (rises olds) (rises lines) refl refl
