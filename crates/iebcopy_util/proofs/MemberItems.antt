-- The items of members, one after another.
use Rattle.std.proofs.Common.{◌≡◌, ℕ, Bool, true, false, cond, not, max, List, [], ◌∷◌, ◌++◌, length, map, filter, refl, sym, ◌∙◌, ap, subst, arith}
use Rattle.std.specs.Prelude.{Option, Result, Ok, IsErr, IsErrOf, IsTrue, if◌then◌else◌}
use Rattle.stop_model.specs.Moments.{Meaning}
use Rattle.vol_model.specs.declared.answers.Stop.{Stop}
use Rattle.vol_model.specs.declared.answers.Stop.TheVariants.{Memory}
use Rattle.vol_model.specs.declared.contents.Shelf.{Shelf}
use Rattle.vol_model.specs.Did.{Did}
use Rattle.vol_model.specs.Events.{Item, Say, after_operations, code_of}
use Rattle.vol_model.specs.Runs.{Runs, Works}
use Rattle.util_steps.specs.declared.calls.SetRef.{SetRef}
use Rattle.util_syntax.specs.declared.listing.Outcome.{Outcome}
use Rattle.iebcopy_util.specs.declared.copying.Copy.{Copy}
use Rattle.iebcopy_util.specs.declared.requests.Pick.{Pick}
use Rattle.iebcopy_util.specs.declared.tasks.MemberCopy.{MemberCopy}
use Rattle.iebcopy_util.specs.Copying.{member_copied}
use Rattle.iebcopy_util.specs.Items.{Course, copy_code, follow, item_then, member_item, items_missing, member_line, members, missing_item, outcome_of, stopped}
use Rattle.iebcopy_util.specs.Steps.{DoesItems, HasPart}
use Rattle.iebcopy_util.specs.Tasks.{is_taken}
use Rattle.iebcopy_util.proofs.DoesItemsLemmas.{one_said, one_silent, one_stopped, one_unsaid}
use Rattle.iebcopy_util.proofs.WholeLemmas.{after_item}

-- ---- members that no input has

-- that of the first, if no input has it, and those of the others
pub missing_next : (card : ℕ) (out : SetRef) (tasks : List MemberCopy) (p : Pick) (ps picks : List Pick) → picks ≡ p ∷ ps → items_missing card out tasks picks ≡ items_missing card out tasks (p ∷ []) ++ items_missing card out tasks ps
missing_next card out tasks p ps picks is = ap (items_missing card out tasks) is ∙ by_test (not (is_taken p.name tasks))
  where
    rest : List Pick
    rest = filter (λ (q : Pick). not (is_taken q.name tasks)) ps

    by_test : (t : Bool) → map (missing_item card out) (cond t (p ∷ filter (λ (q : Pick). not (is_taken q.name tasks)) ps) (filter (λ (q : Pick). not (is_taken q.name tasks)) ps)) ≡ map (missing_item card out) (cond t (p ∷ []) []) ++ items_missing card out tasks ps
    by_test true = refl
    by_test false = refl

-- ---- members that are copied

-- no member is left
pub members_none : (s : Shelf) (card : ℕ) (out : SetRef) (copies : List Copy) (tasks : List MemberCopy) → length tasks ≡ 0 → members s card out copies tasks ≡ record { items = []; goes_on = true }
members_none s card out copies [] none = refl
members_none s card out copies (t ∷ ts) none = absurd (omega arith)

-- the item of the first member, and those after it
pub members_first : (s : Shelf) (card : ℕ) (out : SetRef) (copies held : List Copy) (t : MemberCopy) (ts tasks : List MemberCopy) → copies ≡ held → tasks ≡ t ∷ ts
    → (rest : List Item) × ((members s card out held tasks).items ≡ member_item card out t (member_copied s out copies t) ∷ rest)
members_first s card out copies held t ts tasks same is =
    let did = member_copied s out copies t in
    ((follow did.answer (λ more. members (after_operations s did.operations) card out (copies ++ more) ts)).items, ap (λ (l : List Copy). (members s card out l tasks).items) (sym same) ∙ ap (λ (l : List MemberCopy). (members s card out copies l).items) is)

-- A member is done: what is remembered of its copies, and whether others follow.
pub record Follows (s now : Shelf) (out : SetRef) (copies held after : List Copy) (t : MemberCopy) (answer : Result (Option Copy) Outcome) (b : Bool) : Type 0 where
  pub same : copies ≡ held
  pub told : answer ≡ (member_copied s out copies t).answer
  pub there : now ≡ after_operations s (member_copied s out copies t).operations
  pub remembered : (more : List Copy → Course) → follow answer (λ xs. more (held ++ xs)) ≡ (if b then more after else stopped)

module _ (s now : Shelf) (card : ℕ) (out : SetRef) (copies held after : List Copy) (t : MemberCopy) (ts tasks : List MemberCopy) (answer : Result (Option Copy) Outcome) (b : Bool) (is : tasks ≡ t ∷ ts) (follows : Follows s now out copies held after t answer b) where
  members_next : members s card out held tasks ≡ item_then (member_item card out t (member_copied s out copies t)) (if b then members now card out after ts else stopped)
  members_next =
      let did = member_copied s out copies t in
      let later = after_operations s did.operations in
      ap (λ (l : List Copy). members s card out l tasks) (sym follows.same)
      ∙ ap (members s card out copies) is
      ∙ ap (λ (a : Result (Option Copy) Outcome). item_then (member_item card out t did) (follow a (λ more. members later card out (copies ++ more) ts))) (sym follows.told)
      ∙ ap (λ (l : List Copy). item_then (member_item card out t did) (follow answer (λ more. members later card out (l ++ more) ts))) follows.same
      ∙ ap (item_then (member_item card out t did)) (follows.remembered (λ cs. members later card out cs ts))
      ∙ ap (λ (u : Shelf). item_then (member_item card out t did) (if b then members u card out after ts else stopped)) (sym follows.there)

  -- others follow
  pub members_on : b ≡ true → members s card out held tasks ≡ item_then (member_item card out t (member_copied s out copies t)) (members now card out after ts)
  members_on on = members_next ∙ ap (λ (c : Bool). item_then (member_item card out t (member_copied s out copies t)) (if c then members now card out after ts else stopped)) on

  -- none follows
  pub members_end : b ≡ false → members s card out held tasks ≡ item_then (member_item card out t (member_copied s out copies t)) stopped
  members_end ends = members_next ∙ ap (λ (c : Bool). item_then (member_item card out t (member_copied s out copies t)) (if c then members now card out after ts else stopped)) ends

-- ---- the item of a member

max_zero : (a : ℕ) → max a 0 ≡ a
max_zero a = omega arith

-- its code
pub member_code : (card : ℕ) (out : SetRef) (t : MemberCopy) (did : Did (Option Copy) Outcome) (answer : Result (Option Copy) Outcome) (o : Outcome) (code : ℕ) → answer ≡ did.answer → o ≡ outcome_of answer → code ≡ copy_code o → code ≡ code_of (member_item card out t did ∷ [])
unfolding member_item
member_code card out t did answer o code told is own = own ∙ ap copy_code is ∙ ap (λ (a : Result (Option Copy) Outcome). copy_code (outcome_of a)) told ∙ sym (max_zero (copy_code (outcome_of did.answer)))

-- its line
line_for : (card : ℕ) (out : SetRef) (t : MemberCopy) (answer final : Result (Option Copy) Outcome) (line : List ℕ) → line ≡ member_line card out t.name (outcome_of answer) → answer ≡ final → line ≡ member_line card out t.name (outcome_of final)
line_for card out t answer final line is same = is ∙ ap (λ (a : Result (Option Copy) Outcome). member_line card out t.name (outcome_of a)) same

module _ {tells roomy : Bool} (card : ℕ) (out : SetRef) (t : MemberCopy) (did : Did (Option Copy) Outcome) where
  -- its copy is stopped
  pub member_stopped : {old new : Meaning Shelf} {n m k : ℕ} (q r : Result (Result (Option Copy) Outcome) Stop) → IsErr r → (IsErrOf r Memory → IsErrOf q Memory) → Works tells did old new n m q → (IsTrue roomy → IsErrOf q Memory → HasPart did.operations old.state new.state)
      → DoesItems tells roomy (member_item card out t did ∷ []) (λ a. a ≡ did.answer) old new n k r
  unfolding member_item
  member_stopped q r failed same works part =
      one_stopped did (member_line card out t.name (outcome_of did.answer) ∷ []) (copy_code (outcome_of did.answer)) (λ (a : Result (Option Copy) Outcome). a ≡ did.answer) q r failed same works part

  -- the shelf after it
  pub member_behind : {A : Result (Option Copy) Outcome → Type 0} {old new : Meaning Shelf} {n m : ℕ} {x : Result (Option Copy) Outcome} → DoesItems tells roomy (member_item card out t did ∷ []) A old new n m (Ok x) → new.state ≡ after_operations old.state did.operations
  unfolding member_item
  member_behind {old = old} does = does.runs.shelf ∙ after_item old.state (member_item card out t did) []

  module _ {old mid : Meaning Shelf} {n k : ℕ} {answer : Result (Option Copy) Outcome} (works : Works tells did old mid n k (Ok answer)) where
    -- its line isn't begun
    pub member_silent : {m : ℕ} (r : Result (Result (Option Copy) Outcome) Stop) → IsErr r → DoesItems tells roomy (member_item card out t did ∷ []) (λ a. a ≡ did.answer) old mid n m r
    unfolding member_item
    member_silent r failed = one_silent did (member_line card out t.name (outcome_of did.answer) ∷ []) (copy_code (outcome_of did.answer)) (λ (a : Result (Option Copy) Outcome). a ≡ did.answer) works r failed

    -- it isn't printed as a whole
    pub member_unsaid : {U : Type 0} {new : Meaning Shelf} {m : ℕ} (line : List ℕ) (q : Result U Stop) (r : Result (Result (Option Copy) Outcome) Stop) → line ≡ member_line card out t.name (outcome_of answer) → IsErr r → Runs tells (Say line ∷ []) mid new q → new.state ≡ mid.state
        → DoesItems tells roomy (member_item card out t did ∷ []) (λ a. a ≡ did.answer) old new n m r
    unfolding member_item
    member_unsaid {new = new} line q r is failed runs same =
        one_unsaid did (member_line card out t.name (outcome_of did.answer) ∷ []) (copy_code (outcome_of did.answer)) (λ (a : Result (Option Copy) Outcome). a ≡ did.answer) works q r failed
        (subst (λ (l : List ℕ). Runs tells (Say l ∷ []) mid new q) (line_for card out t answer did.answer line is works.answer) runs) same

    -- it is printed
    pub member_said : {U : Type 0} {new : Meaning Shelf} {m : ℕ} {y : U} (line : List ℕ) → line ≡ member_line card out t.name (outcome_of answer) → Runs {T = U} {E = Stop} tells (Say line ∷ []) mid new (Ok y) → m ≡ k
        → DoesItems tells roomy (member_item card out t did ∷ []) (λ a. a ≡ did.answer) old new n m (Ok answer)
    unfolding member_item
    member_said {U = U} {new = new} {y = y} line is runs count =
        one_said did (member_line card out t.name (outcome_of did.answer) ∷ []) (copy_code (outcome_of did.answer)) (λ (a : Result (Option Copy) Outcome). a ≡ did.answer) works answer
        (subst (λ (l : List ℕ). Runs {T = U} {E = Stop} tells (Say l ∷ []) mid new (Ok y)) (line_for card out t answer did.answer line is works.answer) runs) count works.answer
