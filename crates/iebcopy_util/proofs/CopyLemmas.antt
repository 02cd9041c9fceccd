-- The copy of a member, case by case.
use Rattle.std.proofs.Common.{◌≡◌, ℕ, suc, Bool, true, false, ◌&&◌, List, [], ◌∷◌, length, refl, sym, ◌∙◌, ap, arith}
use Rattle.std.proofs.lemmas.Bool.Decides.{nat_tests}
use Rattle.std.specs.Prelude.{Option, Some, None, Ok, Err, ◌==◌, if◌then◌else◌, slice_get}
use Rattle.vol_model.specs.declared.answers.SetInfo.{SetInfo}
use Rattle.vol_model.specs.declared.contents.Attr.{Attr}
use Rattle.vol_model.specs.declared.contents.Block.{Block}
use Rattle.vol_model.specs.declared.contents.DataSet.{DataSet}
use Rattle.vol_model.specs.declared.contents.Entry.{Entry}
use Rattle.vol_model.specs.declared.contents.Shelf.{Shelf}
use Rattle.vol_model.specs.declared.contents.Place.{Place}
use Rattle.vol_model.specs.declared.refusals.Refusal.TheVariants.{Unreadable}
use Rattle.vol_model.specs.Did.{and_then, answered}
use Rattle.vol_model.specs.Reading.{FirstOf, blocks_from, set_info}
use Rattle.vol_model.specs.Shelf.{blocks_of, has_member}
use Rattle.vol_model.specs.Writing.{body_on}
use Rattle.util_steps.specs.declared.calls.Fault.{Fault}
use Rattle.util_steps.specs.declared.calls.Fault.TheVariants.{Refused}
use Rattle.util_steps.specs.declared.calls.SetRef.{SetRef}
use Rattle.util_steps.specs.Steps.{Finds}
use Rattle.util_steps.specs.Copying.{source}
use Rattle.util_steps.proofs.Progress.{all_from_start}
use Rattle.util_syntax.specs.declared.listing.Outcome.TheVariants as outcome
use Rattle.iebcopy_util.specs.declared.copying.Copy.{Copy}
use Rattle.iebcopy_util.specs.declared.copying.OutputState.{OutputState}
use Rattle.iebcopy_util.specs.declared.tasks.MemberCopy.{MemberCopy}
use Rattle.iebcopy_util.specs.Copying.{can_move, copied_again, entered, entry_for, output_state, is_blank}
use Rattle.iebcopy_util.specs.Steps.{IsClosed, IsRead}
use Rattle.iebcopy_util.proofs.WholeLemmas.{performed_closed}
use Rattle.record_files.proofs.KeepLemmas.{read_all}
use Rattle.vol_model.specs.declared.requests.Op.TheVariants.{Enter}
use Rattle.record_files.specs.Members.{entries_of}
use Rattle.iebcopy_util.specs.Sets.{library}
use Rattle.record_files.specs.declared.attributes.Purpose.TheVariants as purposes
use Rattle.record_files.proofs.FoundLemmas.{set_reads}

-- ---- what is found of the output

pub some_length : {X : Type 0} (xs : List X) (x : X) → slice_get xs 0 ≡ Some x → (length xs == 0) ≡ false
some_length [] x is = cc
some_length (y ∷ xs) x is = grind (arith, nat_tests)

pub none_length : {X : Type 0} (xs : List X) → slice_get xs 0 ≡ None → (length xs == 0) ≡ true
none_length [] is = refl
none_length (y ∷ xs) is = cc

and_false : (a : Bool) → (a && false) ≡ false
and_false true = refl
and_false false = refl

module _ (s : Shelf) (out : SetRef) (x : DataSet) (is : library s out ≡ Ok x) where
  blocks_there : (bs : List Block) → source s out ≡ Ok bs → bs ≡ blocks_of x.body
  blocks_there bs at = let same = sym at ∙ set_reads s purposes.Members out x is in cc

  -- there is a block
  pub has_blocks : (a : Bool) (b : Block) → ((bs : List Block) × (source s out ≡ Ok bs) × FirstOf true (blocks_from (record { tt = 0; r = 0 }) bs) b) → (a && (length (blocks_of x.body) == 0)) ≡ false
  has_blocks a b found =
      let some : found.0 ≡ b ∷ found.2.0 = sym (all_from_start found.0) ∙ found.2.1 in
      ap (λ (l : List Block). a && (length l == 0)) (sym (blocks_there found.0 found.1)) ∙ ap (λ (l : List Block). a && (length l == 0)) some ∙ one a (length found.2.0)
    where
      one : (t : Bool) (n : ℕ) → (t && (suc n == 0)) ≡ false
      one t n = ap (λ (u : Bool). t && u) (not_zero n) ∙ and_false t
        where
          not_zero : (k : ℕ) → (suc k == 0) ≡ false
          not_zero k = grind (arith, nat_tests)

  -- there is none
  pub has_none : (b : Block) → ((bs : List Block) × (source s out ≡ Ok bs) × FirstOf false (blocks_from (record { tt = 0; r = 0 }) bs) b) → (length (blocks_of x.body) == 0) ≡ true
  has_none b found = ap (λ (l : List Block). length l == 0) (sym (blocks_there found.0 found.1)) ∙ ap (λ (l : List Block). length l == 0) (sym (all_from_start found.0) ∙ found.2)

-- what was looked for is what is found of the output
pub found_told : (t : MemberCopy) (x : DataSet) (info : SetInfo) (blank vacant has : Bool) → info ≡ set_info x → blank ≡ (info.attr.recfm == 0 && vacant) → vacant ≡ (length (entries_of x.body) == 0 && length (blocks_of x.body) == 0) → has ≡ has_member t.name.bytes (entries_of x.body)
    → (let f : OutputState = record { attr = info.attr; is_blank = blank; has_name = has } in f) ≡ output_state t x
unfolding set_info
found_told t x info blank vacant has told b v h =
    let attr : info.attr ≡ x.attr = ap (λ (n : SetInfo). n.attr) told in
    let is : blank ≡ is_blank x = b ∙ ap (λ (a : Attr). a.recfm == 0 && vacant) attr ∙ ap (λ (u : Bool). x.attr.recfm == 0 && u) v in
    ap (λ (a : Attr). record { attr = a; is_blank = blank; has_name = has }) attr ∙ ap (λ (u : Bool). record { attr = x.attr; is_blank = u; has_name = has }) is
    ∙ ap (λ (u : Bool). record { attr = x.attr; is_blank = is_blank x; has_name = u }) h

-- ---- a copy is entered

-- its one operation is no extension
pub entered_closed : (s : Shelf) (out : SetRef) (t : MemberCopy) (c : Copy) → IsClosed (entered s out t c).operations
entered_closed s out t c = performed_closed s (Enter out.v out.dsn (entry_for t c) t.replace) refl

pub can_as : (e : Entry) (b t : Bool) (l m : List Place) → b ≡ can_move l e → l ≡ m → b ≡ t → can_move m e ≡ t
can_as e b t l m is same at = ap (λ (k : List Place). can_move k e) (sym same) ∙ sym is ∙ at

-- TTRs of a member that was copied before can be moved, or not
pub again_moved : (s : Shelf) (out : SetRef) (t : MemberCopy) (c : Copy) → can_move c.from t.entry ≡ true → copied_again s out t c ≡ and_then s (entered s out t c) (λ x u. answered (Ok None))
unfolding copied_again
again_moved s out t c is = ap (λ (b : Bool). if b then and_then s (entered s out t c) (λ x u. answered {X = Option Copy} (Ok None)) else answered (Err outcome.BadTtr)) is

pub again_bad : (s : Shelf) (out : SetRef) (t : MemberCopy) (c : Copy) → can_move c.from t.entry ≡ false → copied_again s out t c ≡ answered (Err outcome.BadTtr)
unfolding copied_again
again_bad s out t c is = ap (λ (b : Bool). if b then and_then s (entered s out t c) (λ x u. answered {X = Option Copy} (Ok None)) else answered (Err outcome.BadTtr)) is

-- a library that can be read isn't refused where it is read
pub never_refused : (s : Shelf) (out : SetRef) (x : DataSet) (f : Fault) (place : Place) (b : Block) → library s out ≡ Ok x → Finds (Err f) (source s out) place b → ⊥
never_refused s out x (Refused (Unreadable track)) place b is found = let same = sym (set_reads s purposes.Members out x is) ∙ found in cc
never_refused s out x _ place b is found = found

-- a library that is found can be read
pub library_read : (s : Shelf) (out : SetRef) (x : DataSet) → library s out ≡ Ok x → IsRead s out
library_read s out x is = read_all (body_on s out.v out.dsn.bytes) (blocks_of x.body) (set_reads s purposes.Members out x is)
