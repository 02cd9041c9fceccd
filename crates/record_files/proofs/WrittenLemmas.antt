-- Blocks that are written to a set as a whole, and to a set that is opened and emptied.
use Rattle.std.proofs.Common.{◌≡◌, ℕ, Bool, true, false, [], map, refl, sym, ◌∙◌, ap, subst}
use Rattle.std.proofs.lemmas.List.{append-nil}
use Rattle.std.specs.Prelude.{List, Option, Result, Ok, Err, IsErr, IfOk, if◌then◌else◌}
use Rattle.vol_model.specs.declared.contents.Place.{Place}
use Rattle.stop_model.specs.Moments.{Meaning, Same, IsDurable}
use Rattle.vol_model.specs.declared.answers.Mode.{Mode}
use Rattle.vol_model.specs.declared.answers.Mode.TheVariants as modes
use Rattle.vol_model.specs.declared.answers.Stop.{Stop}
use Rattle.vol_model.specs.declared.contents.Attr.{Attr}
use Rattle.vol_model.specs.declared.contents.Shelf.{Shelf}
use Rattle.vol_model.specs.declared.requests.Op.{Op}
use Rattle.vol_model.specs.declared.requests.Op.TheVariants.{Empty}
use Rattle.vol_model.specs.Did.{Did, and_then, answered, behind_them}
use Rattle.vol_model.specs.Places.{content}
use Rattle.vol_model.specs.Runs.{Works}
use Rattle.vol_model.specs.Writing.{OpenWriter, Target, begun, did_apply, did_begin, did_commit, with_puts}
use Rattle.vol_model.proofs.Working.{has_done, then_then, works_behind, works_broken, works_ends, works_idle_broken, works_kept, works_stops, works_then}
use Rattle.util_steps.specs.declared.calls.Fault.{Fault}
use Rattle.util_steps.specs.declared.calls.Fault.TheVariants.{BadRecord}
use Rattle.util_steps.specs.declared.calls.SetRef.{SetRef}
use Rattle.util_steps.specs.Copying.{did_all, did_blocks, refusing, target}
use Rattle.util_steps.proofs.Blocks.{all_parts}
use Rattle.record_files.specs.Advancing.{Advanced, forgetting}
use Rattle.record_files.specs.Writing.{Coming, all_but_last, appended, coming_of, did_output, rewritten, written}
use Rattle.record_files.proofs.AdvanceLemmas.{all_put, all_puts}

ends_so : (s : Shelf) (d : Did (Unit {0}) Fault) (g : Unit {0} → Shelf → Did (Unit {0}) Fault) → and_then s d (λ x u. answered (Err BadRecord)) ≡ and_then s (and_then s d (λ x u. answered (Err BadRecord))) g
unfolding and_then
ends_so s d g = sym (then_then s d (λ x u. answered (Err BadRecord)) g)

-- written as a whole is put block by block and closed
parts : (s : Shelf) (t : Target) (c : Coming) → written s t c ≡ and_then s (did_output s (begun t) c) (λ x u. refusing (did_commit u (with_puts (begun t) (map content c.blocks))))
unfolding written did_output
parts s t c = by_fault c.broken
  where
    by_fault : (broken : Bool)
        → (if broken then and_then s (did_blocks s (begun t) (all_but_last c.blocks)) (λ x u. answered (Err BadRecord)) else did_all s t c.blocks)
        ≡ and_then s (if broken then and_then s (did_blocks s (begun t) (all_but_last c.blocks)) (λ x u. answered (Err BadRecord)) else did_blocks s (begun t) c.blocks) (λ x u. refusing (did_commit u (with_puts (begun t) (map content c.blocks))))
    by_fault true = ends_so s (did_blocks s (begun t) (all_but_last c.blocks)) (λ x u. refusing (did_commit u (with_puts (begun t) (map content c.blocks))))
    by_fault false = all_parts s t c.blocks

module _ {tells : Bool} (t : Target) (c : Coming) where
  as_written : {old new : Meaning Shelf} {n m : ℕ} (r : Result (Result (Unit {0}) Fault) Stop) → Works tells (and_then old.state (did_output old.state (begun t) c) (λ x u. refusing (did_commit u (with_puts (begun t) (map content c.blocks))))) old new n m r → Works tells (written old.state t c) old new n m r
  as_written {old = old} {new = new} {n = n} {m = m} r works = subst (λ (d : Did (Unit {0}) Fault). Works tells d old new n m r) (sym (parts old.state t c)) works

  -- all are put, and the writer is closed
  pub written_all : {old mid new : Meaning Shelf} {n k m : ℕ} (w v : OpenWriter) {p q : Option Place} (r : Result (Result (Unit {0}) Fault) Stop) → w ≡ begun t → Advanced tells c (coming_of [] false) w v p q old mid n k → Works tells (refusing (did_commit mid.state v)) mid new k m r → Works tells (written old.state t c) old new n m r
  written_all {old = old} {mid = mid} {new = new} {n = n} {k = k} {m = m} w v r is puts commits =
      as_written r (works_then (did_output old.state (begun t) c) (λ y u. refusing (did_commit u (with_puts (begun t) (map content c.blocks)))) tt r
      (subst (λ (z : OpenWriter). Works tells (did_output old.state z c) old mid n k (Ok (Ok tt))) is (all_put puts))
      (subst (λ (z : OpenWriter). Works tells (refusing (did_commit mid.state z)) mid new k m r) (all_puts puts ∙ ap (λ (z : OpenWriter). with_puts z (map content c.blocks)) is) commits))

  -- a fault ended them, and the writer is abandoned
  pub written_fault : {old mid new : Meaning Shelf} {n k m : ℕ} (w : OpenWriter) (e : Fault) → w ≡ begun t → Works tells (did_output old.state w c) old mid n k (Ok (Err e)) → Same mid new → IsDurable mid → m ≡ k → Works tells (written old.state t c) old new n m (Ok (Err e))
  written_fault {old = old} {mid = mid} {n = n} {k = k} w e is puts same durable count =
      works_kept (Err e) (as_written (Ok (Err e)) (works_ends (did_output old.state (begun t) c) (λ y u. refusing (did_commit u (with_puts (begun t) (map content c.blocks)))) e
      (subst (λ (z : OpenWriter). Works tells (did_output old.state z c) old mid n k (Ok (Err e))) is puts))) same durable count

  -- the run is stopped
  pub written_stopped : {old mid : Meaning Shelf} {n k : ℕ} (w : OpenWriter) (q r : Result (Result (Unit {0}) Fault) Stop) → IsErr r → w ≡ begun t → Works tells (did_output old.state w c) old mid n k q → Works tells (written old.state t c) old mid n k r
  written_stopped {old = old} {mid = mid} {n = n} {k = k} w q r failed is puts =
      as_written r (works_stops (did_output old.state (begun t) c) (λ y u. refusing (did_commit u (with_puts (begun t) (map content c.blocks)))) q r failed
      (subst (λ (z : OpenWriter). Works tells (did_output old.state z c) old mid n k q) is puts))

-- ---- after the blocks of a set

module _ {tells : Bool} (to : SetRef) (mode : Mode) (c : Coming) {old mid : Meaning Shelf} {n k : ℕ} where
  pub appended_stopped : (q r : Result (Result (Unit {0}) Fault) Stop) → IsErr r → Works tells (refusing (did_begin old.state (target to mode))) old mid n k q → Works tells (appended old.state to mode c) old mid n k r
  unfolding appended
  appended_stopped q r failed works = works_stops (refusing (did_begin old.state (target to mode))) (λ x u. written u (target to mode) c) q r failed works

  pub appended_fault : (e : Fault) → Works tells (refusing (did_begin old.state (target to mode))) old mid n k (Ok (Err e)) → Works tells (appended old.state to mode c) old mid n k (Ok (Err e))
  unfolding appended
  appended_fault e works = works_ends (refusing (did_begin old.state (target to mode))) (λ x u. written u (target to mode) c) e works

  pub appended_all : {new : Meaning Shelf} {m : ℕ} (w : OpenWriter) (x : Unit {0}) (r : Result (Result (Unit {0}) Fault) Stop) → w ≡ begun (target to mode) → Works tells (refusing (did_begin old.state (target to mode))) old mid n k (Ok (Ok x)) → Works tells (written mid.state w.target c) mid new k m r → Works tells (appended old.state to mode c) old new n m r
  unfolding appended
  appended_all {new = new} {m = m} w x r is one two =
      works_then (refusing (did_begin old.state (target to mode))) (λ y u. written u (target to mode) c) x r one (subst (λ (z : OpenWriter). Works tells (written mid.state z.target c) mid new k m r) is two)

-- ---- in their place

module _ {tells : Bool} (to : SetRef) (attr : Attr) (c : Coming) {old mid : Meaning Shelf} {n k : ℕ} where
  pub rewritten_stopped : (q r : Result (Result (Unit {0}) Fault) Stop) → IsErr r → Works tells (refusing (did_apply old.state (Empty to.v to.dsn attr))) old mid n k q → Works tells (rewritten old.state to attr c) old mid n k r
  unfolding rewritten
  rewritten_stopped q r failed works = works_stops (refusing (did_apply old.state (Empty to.v to.dsn attr))) (λ x u. appended u to modes.Fill c) q r failed works

  pub rewritten_fault : (e : Fault) → Works tells (refusing (did_apply old.state (Empty to.v to.dsn attr))) old mid n k (Ok (Err e)) → Works tells (rewritten old.state to attr c) old mid n k (Ok (Err e))
  unfolding rewritten
  rewritten_fault e works = works_ends (refusing (did_apply old.state (Empty to.v to.dsn attr))) (λ x u. appended u to modes.Fill c) e works

  pub rewritten_all : {new : Meaning Shelf} {m : ℕ} (x : Unit {0}) (r : Result (Result (Unit {0}) Fault) Stop) → Works tells (refusing (did_apply old.state (Empty to.v to.dsn attr))) old mid n k (Ok (Ok x)) → Works tells (appended mid.state to modes.Fill c) mid new k m r → Works tells (rewritten old.state to attr c) old new n m r
  unfolding rewritten
  rewritten_all x r one two = works_then (refusing (did_apply old.state (Empty to.v to.dsn attr))) (λ y u. appended u to modes.Fill c) x r one two

-- ---- the place of the first block

-- a writer that has just begun is one of its own target
pub begins : {w : OpenWriter} {t : Target} → w ≡ begun t → w ≡ begun w.target
begins {w = w} {t = t} e = e ∙ ap (λ (v : OpenWriter). begun v.target) (sym e)

-- what failed failed, whatever would have been answered
pub forgets_failed : {X : Type 0} (r : Result (Result X Fault) Stop) → IsErr r → IsErr (forgetting r)
forgets_failed (Ok x) failed = let no : ⊥ = cc in absurd no
forgets_failed (Err e) failed = refl

-- the place that is answered, by another name
pub first_behind : {a b : Option Place} (r : Result (Result (Option Place) Fault) Stop) → IfOk r (λ answer. IfOk answer (λ first. first ≡ a)) → a ≡ b → IfOk r (λ answer. IfOk answer (λ first. first ≡ b))
first_behind (Ok (Ok x)) is same = is ∙ same
first_behind (Ok (Err e)) is same = tt
first_behind (Err e) is same = tt

-- a run that failed, for another answer
pub forgotten : {X : Type 0} {tells : Bool} {d : Did (Unit {0}) Fault} {old new : Meaning Shelf} {n m : ℕ} (q : Result (Result X Fault) Stop) (r : Result (Result (Unit {0}) Fault) Stop) → IsErr r → Works tells d old new n m (forgetting q) → Works tells d old new n m r
forgotten {d = d} q (Ok x) failed works = let no : ⊥ = cc in absurd no
forgotten {d = d} q (Err e) failed works = works_broken d (Err e) refl works.runs.moments

-- a run that failed, for another failure
pub stops_as : {tells : Bool} {d : Did (Unit {0}) Fault} {old new : Meaning Shelf} {n m : ℕ} (q r : Result (Result (Unit {0}) Fault) Stop) → IsErr r → Works tells d old new n m q → Works tells d old new n m r
stops_as {d = d} q (Ok x) failed works = let no : ⊥ = cc in absurd no
stops_as {d = d} q (Err e) failed works = works_broken d (Err e) refl works.runs.moments

-- steps that are done, and then something that was stopped
pub works_unread : {tells : Bool} {d : Did (Unit {0}) Fault} {old mid new : Meaning Shelf} {n k m : ℕ} (r : Result (Result (Unit {0}) Fault) Stop) → IsErr r → Works tells d old mid n k (Ok (Ok tt)) → Same mid new → IsDurable mid → Works tells d old new n m r
works_unread {tells = tells} {d = d} {old = old} {new = new} {n = n} {m = m} r failed works same durable =
    let whole : behind_them d.operations (answered (Ok tt)) ≡ d = ap (λ (l : List Op). record { operations = l; answer = Ok tt }) (append-nil d.operations) ∙ ap (λ (a : Result (Unit {0}) Fault). record { operations = d.operations; answer = a }) works.answer in
    subst (λ (x : Did (Unit {0}) Fault). Works tells x old new n m r) whole (works_behind r (has_done works) (works_idle_broken same durable (answered (Ok tt)) r failed))
