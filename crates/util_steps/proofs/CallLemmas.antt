-- Calls of a machine as parts of a copy.
use Rattle.std.proofs.Common.{◌≡◌, ◌<◌, ℕ, Bool, true, false, List, length, refl, sym, ◌∙◌, ap, subst, arith}
use Rattle.std.proofs.lemmas.Bool.Decides.{nat_tests}
use Rattle.std.specs.Prelude.{Result, Ok, Err, ◌==◌, if◌then◌else◌}
use Rattle.stop_model.specs.Moments.{Meaning, Same, IsDurable}
use Rattle.vol_model.specs.declared.answers.MachErr.{MachErr}
use Rattle.vol_model.specs.declared.answers.MachErr.TheVariants as errors
use Rattle.vol_model.specs.declared.answers.Stop.{Stop}
use Rattle.vol_model.specs.declared.contents.Block.{Block}
use Rattle.vol_model.specs.declared.contents.Place.{Place}
use Rattle.vol_model.specs.declared.contents.Shelf.{Shelf}
use Rattle.vol_model.specs.declared.refusals.Refusal.{Refusal}
use Rattle.vol_model.specs.declared.requests.Op.{Op}
use Rattle.vol_model.specs.Calls.{Applies, Does, Opens, counted}
use Rattle.vol_model.specs.Did.{Did, answered}
use Rattle.vol_model.specs.Places.{Content, content}
use Rattle.vol_model.specs.Runs.{Works}
use Rattle.vol_model.specs.Writing.{OpenWriter, Target, begin_refusal, by_refusal, did_apply, did_begin, did_put}
use Rattle.vol_model.proofs.Working.{applies_failed, applies_ok, applies_refused, does_failed, does_ok, does_refused, works_because, works_because_broken, works_idle, works_idle_broken}
use Rattle.util_steps.specs.declared.calls.Fault.{Fault}
use Rattle.util_steps.specs.declared.calls.Fault.TheVariants.{Refused, BadRecord}
use Rattle.util_steps.specs.Copying.{did_block, has_data, refusing}

-- ---- several operations

module _ {X : Type 0} {way : List Op} {did : Did X Refusal} {old new : Meaning Shelf} {n m : ℕ} (tells : Bool) where
  pub call_ok : {x : X} → Does way did old new n m (Ok x) → Works tells (refusing did) old new n m (Ok (Ok x))
  call_ok {x = x} does = works_because Refused (Ok x) (does_ok tells does)

  pub call_refused : {r : Refusal} → Does way did old new n m (Err (errors.Refused r)) → Works tells (refusing did) old new n m (Ok (Err (Refused r)))
  call_refused {r = r} does = works_because Refused (Err r) (does_refused tells does)

  pub call_failed : {result : Result X MachErr} (e : Stop) → Does way did old new n m result → Works tells (refusing did) old new n m (Err e)
  call_failed e does = works_because_broken Refused (Err e) (Err e) refl (does_failed tells (Err e) refl does)

-- ---- one operation

module _ {op : Op} {old new : Meaning Shelf} {n m : ℕ} (tells : Bool) where
  pub apply_ok : {x : Unit {0}} → Applies op old new (Ok x) → m ≡ counted n 1 → Works tells (refusing (did_apply old.state op)) old new n m (Ok (Ok x))
  apply_ok {x = x} applies count = works_because Refused (Ok x) (applies_ok tells applies count)

  pub apply_refused : {r : Refusal} → Applies {T = Unit {0}} op old new (Err (errors.Refused r)) → m ≡ n → Works tells (refusing (did_apply old.state op)) old new n m (Ok (Err (Refused r)))
  apply_refused {r = r} applies count = works_because Refused (Err r) (applies_refused tells applies count)

  pub apply_failed : {T : Type 0} {result : Result T MachErr} (e : Stop) → Applies op old new result → Works tells (refusing (did_apply old.state op)) old new n m (Err e)
  apply_failed e applies = works_because_broken Refused (Err e) (Err e) refl (applies_failed tells (Err e) refl applies)

-- ---- a writer is opened

module _ (t : Target) {old new : Meaning Shelf} {n m : ℕ} (tells : Bool) (same : Same old new) (durable : IsDurable old) where
  pub begin_ok : {x : Unit {0}} → Opens (Ok x) (begin_refusal old.state t) → m ≡ n → Works tells (refusing (did_begin old.state t)) old new n m (Ok (Ok x))
  unfolding did_begin
  begin_ok {x = x} opens count = works_because Refused (Ok x) (subst (λ (d : Did (Unit {0}) Refusal). Works tells d old new n m (Ok (Ok x))) (ap by_refusal (sym opens)) (works_idle same durable (Ok x) count))

  pub begin_refused : {r : Refusal} → Opens {T = Unit {0}} (Err (errors.Refused r)) (begin_refusal old.state t) → m ≡ n → Works tells (refusing (did_begin old.state t)) old new n m (Ok (Err (Refused r)))
  unfolding did_begin
  begin_refused {r = r} opens count = works_because Refused (Err r) (subst (λ (d : Did (Unit {0}) Refusal). Works tells d old new n m (Ok (Err r))) (ap by_refusal (sym opens)) (works_idle same durable (Err r) count))

  pub begin_failed : (e : Stop) → Works tells (refusing (did_begin old.state t)) old new n m (Err e)
  begin_failed e = works_because_broken Refused (Err e) (Err e) refl (works_idle_broken same durable (did_begin old.state t) (Err e) refl)

-- ---- a block is put

pub data_true : (b : Block) → 0 < length b.payload → has_data b ≡ true
data_true b some = grind (arith, nat_tests)

pub data_false : (b : Block) → length b.payload ≡ 0 → has_data b ≡ false
data_false b none = grind (arith, nat_tests)

block_with : (s : Shelf) (w : OpenWriter) (b : Block) (c : Content) → has_data b ≡ true → c ≡ content b → refusing (did_put s w c) ≡ did_block s w b
unfolding did_block
block_with s w b c some is = ap (λ (d : Content). refusing (did_put s w d)) is ∙ ap (λ (k : Bool). if k then refusing (did_put s w (content b)) else answered (Err BadRecord)) (sym some)

block_without : (s : Shelf) (w : OpenWriter) (b : Block) → has_data b ≡ false → answered (Err BadRecord) ≡ did_block s w b
unfolding did_block
block_without s w b none = ap (λ (k : Bool). if k then refusing (did_put s w (content b)) else answered (Err BadRecord)) (sym none)

content_of : (key payload : List ℕ) (b : Block) → key ≡ b.key → payload ≡ b.payload → (let c : Content = (key, payload) in c) ≡ content b
content_of key payload b k p = ap (λ (x : List ℕ). (x, payload)) k ∙ ap (λ (y : List ℕ). (b.key, y)) p

module _ (w : OpenWriter) (b : Block) (key payload : List ℕ) (k : key ≡ b.key) (p : payload ≡ b.payload) {old new : Meaning Shelf} {n m : ℕ} {r : Result (Result Place Fault) Stop} (tells : Bool) where
  pub as_block : 0 < length payload → Works tells (refusing (did_put old.state w (key, payload))) old new n m r → Works tells (did_block old.state w b) old new n m r
  as_block some works =
      let full : 0 < length b.payload = subst (λ (l : List ℕ). 0 < length l) p some in
      subst (λ (d : Did Place Fault). Works tells d old new n m r) (block_with old.state w b (key, payload) (data_true b full) (content_of key payload b k p)) works

-- a block without data
pub no_block : (w : OpenWriter) (b : Block) {m : Meaning Shelf} {n : ℕ} (tells : Bool) → length b.payload ≡ 0 → Works tells (answered (Err BadRecord)) m m n n (let r : Result (Result Place Fault) Stop = Ok (Err BadRecord) in r) → Works tells (did_block m.state w b) m m n n (Ok (Err BadRecord))
no_block w b {m = m} {n = n} tells none works = subst (λ (d : Did Place Fault). Works tells d m m n n (Ok (Err BadRecord))) (block_without m.state w b (data_false b none)) works

-- what the test for no bytes says
pub some_of : (l : List ℕ) (r : Bool) → r ≡ (length l == 0) → r ≡ false → 0 < length l
some_of l r is not_so = grind (arith, nat_tests)

pub none_of : (l : List ℕ) (r : Bool) → r ≡ (length l == 0) → r ≡ true → length l ≡ 0
none_of l r is is_so = grind (arith, nat_tests)
