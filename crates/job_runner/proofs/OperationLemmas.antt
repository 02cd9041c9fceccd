-- An operation and the line that answers it.
use Rattle.std.proofs.Common.{◌≡◌, ℕ, Bool, List, [], ◌∷◌, refl, subst}
use Rattle.std.specs.Prelude.{Result, Ok, Err, IsErr, IfOk}
use Rattle.stop_model.specs.Moments.{Meaning, IsDurable, Same}
use Rattle.ebcdic_names.specs.declared.names.Dsn.{Dsn}
use Rattle.util_steps.specs.Items.{DoesItem}
use Rattle.util_steps.proofs.Reporting.{item_after, item_for, item_stopped}
use Rattle.util_syntax.specs.declared.listing.Object.TheVariants.{Name}
use Rattle.util_syntax.specs.Listing.{item_line}
use Rattle.vol_model.specs.declared.answers.Stop.{Stop}
use Rattle.vol_model.specs.declared.contents.Shelf.{Shelf}
use Rattle.vol_model.specs.declared.refusals.Refusal.{Refusal}
use Rattle.vol_model.specs.Did.{Did, answered}
use Rattle.vol_model.specs.Events.{Item}
use Rattle.vol_model.specs.Runs.{Works}
use Rattle.job_runner.specs.DataSets.{code_for, operation_item, outcome_for}
use Rattle.job_runner.specs.Parts.{DoesItems}
use Rattle.job_runner.proofs.PartLemmas.{does_broken, does_later, does_one, does_single, does_with}

module _ (card : ℕ) (word : List ℕ) (dsn : Dsn) where
  abbrev lines_for : Result (Unit {0}) Refusal → List (List ℕ)
  lines_for a = item_line card word (Name dsn) (outcome_for a) ∷ []

module _ {tells : Bool} (card : ℕ) (word : List ℕ) (dsn : Dsn) (refused : ℕ) (did : Did (Unit {0}) Refusal) where
  -- the operation is stopped
  pub operation_stopped : {T : Type 0} {old new : Meaning Shelf} {n m k : ℕ} {q : Result (Result (Unit {0}) Refusal) Stop} (r : Result T Stop) → IsErr r → Works tells did old new n m q → DoesItems tells (operation_item card word dsn refused did ∷ []) old new n k r
  operation_stopped (Ok x) failed works = let no : ⊥ = cc in absurd no
  operation_stopped (Err e) failed works =
      let stopped : Result ℕ Stop = Err e in
      does_broken (Err e) refl (does_one stopped (item_stopped did (lines_for card word dsn did.answer) (code_for refused did.answer) stopped refl works))

  answered_so : {old mid new : Meaning Shelf} {n k m : ℕ} {a : Result (Unit {0}) Refusal} (q : Result ℕ Stop) → Works tells did old mid n k (Ok a) → DoesItem tells (operation_item card word dsn refused (answered a)) mid new k m q → DoesItems tells (operation_item card word dsn refused did ∷ []) old new n m q
  answered_so {old = old} {new = new} {n = n} {m = m} {a = a} q works said =
      does_one q (subst (λ (b : Result (Unit {0}) Refusal). DoesItem tells (item_for did (lines_for card word dsn b) (code_for refused b)) old new n m q) works.answer (item_after did (lines_for card word dsn a) (code_for refused a) q works said))

  -- its line isn't printed as a whole
  pub operation_unsaid : {T : Type 0} {old mid new : Meaning Shelf} {n k m c : ℕ} {a : Result (Unit {0}) Refusal} {q : Result ℕ Stop} (r : Result T Stop) → IsErr r → Works tells did old mid n k (Ok a) → DoesItem tells (operation_item card word dsn refused (answered a)) mid new k m q → DoesItems tells (operation_item card word dsn refused did ∷ []) old new n c r
  operation_unsaid {q = q} r failed works said = does_broken r failed (answered_so q works said)

  -- the operation is done or refused, and its line is printed
  pub operation_done : {T : Type 0} {old mid new : Meaning Shelf} {n k m : ℕ} {a : Result (Unit {0}) Refusal} {code : ℕ} (x : T) → Works tells did old mid n k (Ok a) → DoesItem tells (operation_item card word dsn refused (answered a)) mid new k m (Ok code) → DoesItems tells (operation_item card word dsn refused did ∷ []) old new n m (Ok x)
  operation_done {code = code} x works said = does_with x (answered_so (Ok code) works said)

-- nothing but time goes on before an item
pub item_later : {tells : Bool} (item : Shelf → Item) {old mid new : Meaning Shelf} {n k m : ℕ} (r : Result ℕ Stop) → Same old mid → IsDurable old → k ≡ n → DoesItem tells (item mid.state) mid new k m r → DoesItem tells (item old.state) old new n m r
item_later item r same durable count does =
    does_single r (subst (λ (s : Shelf). IfOk r (λ (code : ℕ). code ≡ (item s).code)) same.state does.code) (does_later (λ s. item s ∷ []) r same durable count (does_one r does))
