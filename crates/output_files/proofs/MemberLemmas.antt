-- A library that takes a member, and its names.
use Rattle.std.proofs.Common.{◌≡◌, Bool, true, false, not, ◌&&◌, List, ◌∷◌, refl, sym, ◌∙◌, ap}
use Rattle.std.specs.Prelude.{◌||◌, if◌then◌else◌, Result, Ok, Err}
use Rattle.std.specs.List.{list_any}
use Rattle.ebcdic_names.specs.declared.names.Name8.{Name8}
use Rattle.vol_model.specs.declared.answers.SetInfo.{SetInfo}
use Rattle.vol_model.specs.declared.contents.DataSet.{DataSet}
use Rattle.vol_model.specs.declared.contents.Shelf.{Shelf}
use Rattle.vol_model.specs.declared.refusals.Refusal.{Refusal}
use Rattle.vol_model.specs.declared.refusals.Refusal.TheVariants.{MemberExists, WrongKind}
use Rattle.util_steps.specs.declared.calls.SetRef.{SetRef}
use Rattle.record_files.specs.declared.attributes.Purpose.TheVariants as purposes
use Rattle.record_files.specs.Attributes.{FindsSet, usable_set}
use Rattle.record_files.specs.Members.{ends_directory, entries_of}
use Rattle.output_files.specs.Members.{MemberNames, all_names, is_taken, library_for, taking}

-- ---- a library that takes a member

module _ (shelf : Shelf) (to : SetRef) (n : MemberNames) where
  pub taking_refused : (r : Refusal) → usable_set shelf purposes.Members to ≡ Err r → library_for shelf to n ≡ Err r
  unfolding library_for
  taking_refused r is = ap (taking n) is

  module _ (info : SetInfo) (finds : FindsSet (Ok info) (usable_set shelf purposes.Members to)) where
    abbrev by_tests : Bool → Bool → Result DataSet Refusal
    by_tests ends taken = if ends then Err WrongKind else (if taken then Err MemberExists else Ok finds.0)

    taking_by : (ends taken : Bool) → list_any ends_directory (all_names n) ≡ ends → is_taken (entries_of finds.0.body) n ≡ taken → library_for shelf to n ≡ by_tests ends taken
    unfolding library_for
    taking_by ends taken one two = ap (taking n) finds.1 ∙ ap (λ (t : Bool). by_tests t (is_taken (entries_of finds.0.body) n)) one ∙ ap (by_tests ends) two

    -- a name ends the directory
    pub taking_ended : list_any ends_directory (all_names n) ≡ true → library_for shelf to n ≡ Err WrongKind
    taking_ended ends = taking_by true (is_taken (entries_of finds.0.body) n) ends refl

    module _ (may : list_any ends_directory (all_names n) ≡ false) where
      -- the member is there already
      pub taking_taken : true ≡ is_taken (entries_of finds.0.body) n → library_for shelf to n ≡ Err MemberExists
      taking_taken is = taking_by false true may (sym is)

      -- the library takes it
      pub taking_free : false ≡ is_taken (entries_of finds.0.body) n → FindsSet (Ok info) (library_for shelf to n)
      taking_free is = (finds.0, taking_by false false may (sym is), finds.2)

-- ---- names

-- the first of names has what none of them has
pub none_first : (f : Name8 → Bool) (n : Name8) (ns all : List Name8) → all ≡ n ∷ ns → list_any f all ≡ false → (f n ≡ false) × (list_any f ns ≡ false)
none_first f n ns all is none = by_tests (f n) (list_any f ns) (sym (ap (list_any f) is) ∙ none)
  where
    by_tests : (a b : Bool) → (a || b) ≡ false → (a ≡ false) × (b ≡ false)
    by_tests true b e = let never : ⊥ = cc in absurd never
    by_tests false b e = (refl, e)

-- ---- answers

pub told_so : (a b : Bool) → (let r : Result Bool Refusal = Ok a in r) ≡ Ok b → a ≡ b
told_so a b is = cc

pub not_refused : (r : Refusal) (b : Bool) → (let x : Result Bool Refusal = Err r in x) ≡ Ok b → ⊥
not_refused r b is = cc

-- only the directory can still have one of the names
pub left_to_read : (replace twice there : Bool) → replace ≡ false → twice ≡ false → there ≡ (not replace && (twice || there))
left_to_read false false there one two = refl
left_to_read false true there one two = cc
left_to_read true twice there one two = cc
