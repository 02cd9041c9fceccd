-- An input and an output, which were found both.
use Rattle.std.proofs.Common.{◌≡◌, inl, inr, Bool, true, false, ◌&&◌, refl, ◌∙◌, ap, subst, arith}
use Rattle.std.proofs.lemmas.Bool.Decides.{nat_tests}
use Rattle.std.specs.Prelude.{◌==◌, IfOk, Option, Some, None, Result, Ok, Err}
use Rattle.std.specs.Str.{bytes_eq}
use Rattle.ebcdic_names.specs.declared.names.Name8.{Name8}
use Rattle.vol_model.specs.declared.answers.SetInfo.{SetInfo}
use Rattle.vol_model.specs.declared.contents.DataSet.{DataSet}
use Rattle.vol_model.specs.declared.contents.Shelf.{Shelf}
use Rattle.vol_model.specs.declared.refusals.Refusal.{Refusal}
use Rattle.vol_model.specs.Reading.{set_info}
use Rattle.vol_model.specs.Shelf.{blocks_of}
use Rattle.util_steps.specs.declared.calls.SetRef.{SetRef}
use Rattle.util_steps.specs.Steps.{AreApart}
use Rattle.record_files.specs.declared.attributes.Purpose.TheVariants as purposes
use Rattle.record_files.specs.declared.inputs.RecordInput.{RecordInput}
use Rattle.record_files.specs.Attributes.{FindsSet, first_refusal, found_both, usable_set}
use Rattle.record_files.specs.Inputs.{Found, InputView, IsFound, IsThere, ReadsAs, from, known_of}
use Rattle.record_files.specs.Sources.{KeepsOthers}
use Rattle.record_files.proofs.FoundLemmas.{reads_kept, set_reads}
use Rattle.output_files.specs.declared.outputs.Output.{Output}
use Rattle.output_files.specs.Outputs.{found_output, is_same, purpose_of}
use Rattle.output_files.specs.Members.{MemberNames, library_for, taking}

-- ---- two data sets

-- an input that isn't the output is a set apart from it
pub apart_from : (s to : SetRef) (member : Option Name8) → is_same (from s member) to None ≡ false → AreApart to s
apart_from s to member is = by_tests (s.v == to.v) (bytes_eq s.dsn.bytes to.dsn.bytes) refl refl is
  where
    by_tests : (a b : Bool) → (s.v == to.v) ≡ a → bytes_eq s.dsn.bytes to.dsn.bytes ≡ b → (a && b) ≡ false → AreApart to s
    by_tests a false one two is = inr two
    by_tests false true one two is = inl (λ (same : to.v ≡ s.v). let no : ⊥ = grind (arith, nat_tests) in no)
    by_tests true true one two is = let never : ⊥ = cc in absurd never

-- ---- what is found of both sets

module _ (f : Result Found Refusal) (x : Result DataSet Refusal) where
  -- the same refusal counts
  pub both_refused : (a : Result RecordInput Refusal) (b : Result SetInfo Refusal) (r : Refusal) → IsFound a f → FindsSet b x → Err r ≡ found_both a b → found_both f x ≡ Err r
  both_refused (Ok p) (Ok q) r one two is = cc
  both_refused (Ok p) (Err s) r one two is = let same : s ≡ r = cc in ap (λ (g : Result Found Refusal). found_both g x) one.1 ∙ ap (found_both (Ok one.0)) two ∙ ap Err same
  both_refused (Err p) (Ok q) r one two is = let same : p ≡ r = cc in ap (λ (g : Result Found Refusal). found_both g x) one ∙ ap (found_both (Err p)) two.1 ∙ ap Err same
  both_refused (Err p) (Err q) r one two is = let same : first_refusal p q ≡ r = cc in ap (λ (g : Result Found Refusal). found_both g x) one ∙ ap (found_both (Err p)) two ∙ ap Err same

-- Both sets were found, and this is known of them.
pub record BothFound (f : Result Found Refusal) (x : Result DataSet Refusal) (p : RecordInput) (q : SetInfo) : Type 0 where
  pub read : Found
  pub written : DataSet
  pub one : f ≡ Ok read
  pub two : x ≡ Ok written
  pub known : p ≡ known_of read
  pub info : q ≡ set_info written

pair_of : (s t : RecordInput × SetInfo) → (let r : Result (RecordInput × SetInfo) Refusal = Ok s in r) ≡ Ok t → s ≡ t
pair_of s t is = cc

pub both_found : (f : Result Found Refusal) (x : Result DataSet Refusal) (a : Result RecordInput Refusal) (b : Result SetInfo Refusal) (p : RecordInput) (q : SetInfo) → IsFound a f → FindsSet b x → Ok (p, q) ≡ found_both a b → BothFound f x p q
both_found f x (Ok y) (Ok z) p q one two is =
    let pair = pair_of (p, q) (y, z) is in
    record { read = one.0; written = two.0; one = one.1; two = two.1; known = ap (λ (t : RecordInput × SetInfo). t.0) pair ∙ one.2; info = ap (λ (t : RecordInput × SetInfo). t.1) pair ∙ two.2 }
both_found f x (Ok y) (Err s) p q one two is = let never : ⊥ = cc in absurd never
both_found f x (Err r) (Ok z) p q one two is = let never : ⊥ = cc in absurd never
both_found f x (Err r) (Err s) p q one two is = let never : ⊥ = cc in absurd never

-- the output was found where both were
pub both_there : (a : Result RecordInput Refusal) (b : Result SetInfo Refusal) (p : RecordInput) (q : SetInfo) (P : Type 0) → Ok (p, q) ≡ found_both a b → IfOk b (λ info. P) → P
both_there (Ok y) (Ok z) p q P is there = there
both_there (Ok y) (Err s) p q P is there = let never : ⊥ = cc in absurd never
both_there (Err r) (Ok z) p q P is there = let never : ⊥ = cc in absurd never
both_there (Err r) (Err s) p q P is there = let never : ⊥ = cc in absurd never

-- an output that is found can be read
pub output_there : (shelf : Shelf) (out : Output) (names : Option MemberNames) (x : DataSet) → found_output shelf out names ≡ Ok x → IsThere shelf out.to
unfolding library_for
output_there shelf out None x is = (blocks_of x.body, set_reads shelf (purpose_of out) out.to x is)
output_there shelf out (Some n) x is = by_library (usable_set shelf purposes.Members out.to) refl is
  where
    by_library : (r : Result DataSet Refusal) → usable_set shelf purposes.Members out.to ≡ r → taking n r ≡ Ok x → IsThere shelf out.to
    by_library (Ok y) at so = (blocks_of y.body, set_reads shelf purposes.Members out.to y at)
    by_library (Err r) at so = let never : ⊥ = cc in absurd never

-- an input that isn't the output is read as before once that is empty
pub reads_beside : (s u : Shelf) (i : InputView) (to : SetRef) (f : Found) → is_same i to None ≡ false → KeepsOthers to s u → ReadsAs s i f → ReadsAs u i f
reads_beside s u i to f apart kept reads =
    reads_kept s u i f (λ (x : SetRef) (member : Option Name8) (is : i ≡ from x member). kept x (apart_from x to member (subst (λ (j : InputView). is_same j to None ≡ false) is apart))) reads
