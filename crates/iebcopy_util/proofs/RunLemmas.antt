-- Items that are done on a machine, one after another.
use Rattle.std.proofs.Common.{◌≡◌, ℕ, ◌≤◌, Bool, false, max, List, [], ◌∷◌, ◌++◌, sym, subst, arith}
use Rattle.std.specs.Prelude.{Result, Ok, Err, IfOk, IsErr, IsErrAnd, IsTrue}
use Rattle.stop_model.specs.Moments.{IsDurable}
use Rattle.stop_model.proofs.MomentLemmas.{elapses_none}
use Rattle.vol_model.specs.declared.answers.Stop.{Stop}
use Rattle.vol_model.specs.declared.answers.Stop.TheVariants.{Memory}
use Rattle.vol_model.specs.declared.contents.Shelf.{Shelf}
use Rattle.vol_model.specs.declared.machine.Machine.{Ghosts}
use Rattle.vol_model.specs.Calls.{Keeps, Known}
use Rattle.vol_model.specs.Events.{Item, code_of}
use Rattle.vol_model.specs.Runs.{RunCall}
use Rattle.util_steps.specs.Taking.{IsReady, Reads, RunsItems, TakesItem}
use Rattle.util_steps.proofs.Taking.{call_none, call_ok, call_stops, call_then, call_unmade}
use Rattle.iebcopy_util.specs.declared.members.Ending.{Ending}
use Rattle.iebcopy_util.specs.Items.{Course}
use Rattle.iebcopy_util.specs.Steps.{DoesItems, EndsCourse, RunsCoded, RunsCourse, RunsWhole}
use Rattle.iebcopy_util.proofs.DoesItemsLemmas.{SoFar, are_done, coded_as, coded_later, does_err, does_handed, does_idle, does_ok, does_one, none_done, so_begins, so_code, so_ends, so_further, so_stops}
use Rattle.iebcopy_util.proofs.WholeLemmas.{ends_now, memory_of}

keeps_then : {P Q R : ℕ → Known → Type 0} {a b : ℕ} → a ≤ b → Keeps a P Q → Keeps b Q R → Keeps a P R
keeps_then later one two t known early kept = two t known (omega arith) (one t known early kept)

module _ {X : Type 0} (g : Ghosts X) where
  -- the item of a report
  pub runs_item : {item : Shelf → Item} {old new : X} {r : Result ℕ Stop} → TakesItem g item old new r → (IsTrue g.tells → (g.meaning new).state ≡ (g.meaning old).state) → RunsCoded g (λ shelf. item shelf ∷ []) old new r
  runs_item {item = item} {old = old} {r = r} one same = record { does = λ told. does_one (item (g.meaning old).state) r (one.item told) (same told); promise = one.promise; faults = one.faults }

  -- no item
  pub runs_none : {items : Shelf → List Item} {machine : X} → IsReady g machine → (IsTrue g.tells → items (g.meaning machine).state ≡ []) → RunsCoded g items machine machine (Ok 0)
  runs_none {machine = machine} ready none = record {
    does = λ told. coded_as (Ok 0) (sym (none told)) (does_ok 0 (omega arith) (none_done (g.meaning machine) (g.status machine).done));
    promise = λ told t known early kept. kept;
    faults = call_none g machine (let n : ℕ = 0 in n) ready;
  }

  -- none is done, since memory ran out
  pub runs_unmade : {T : Type 0} (items : Shelf → List Item) {A : Shelf → T → Type 0} {machine : X} (q : Result T Stop) → IsErr q × IsErrAnd q (λ f. f ≡ Memory) → IsReady g machine → RunsWhole g items A machine machine q
  runs_unmade items {machine = machine} q same ready = record {
    does = λ told. let m = g.meaning machine in does_err q same.0 (elapses_none m _) (λ room memory. ends_now (items m.state) m.state m.state (let is : m.state ≡ m.state = cc in is));
    promise = λ told t known early kept. kept;
    faults = call_unmade g machine q same.1 ready;
  }

  -- items that are stopped, whatever is to be answered
  pub runs_handed : {T U : Type 0} {items : Shelf → List Item} {A : Shelf → T → Type 0} {B : Shelf → U → Type 0} {old new : X} {e : Stop} (q : Result U Stop) → IsErr q × IsErrAnd q (λ f. f ≡ e) → RunsWhole g items A old new (Err e) → RunsWhole g items B old new q
  runs_handed {B = B} {old = old} {e = e} q same one = record {
    does = λ told. does_handed (B (g.meaning old).state) (Err e) q same.0 (memory_of q same.1) (one.does told);
    promise = one.promise;
    faults = call_stops q same.1 one.faults;
  }

  -- items by another definition
  pub runs_as : {xs ys : Shelf → List Item} {old new : X} {r : Result ℕ Stop} → (IsTrue g.tells → xs (g.meaning old).state ≡ ys (g.meaning old).state) → RunsCoded g xs old new r → RunsCoded g ys old new r
  runs_as {r = r} same one = record { does = λ told. coded_as r (same told) (one.does told); promise = one.promise; faults = one.faults }

  pub course_as : {x y : Shelf → Course} {old new : X} {r : Result Ending Stop} → (IsTrue g.tells → x (g.meaning old).state ≡ y (g.meaning old).state) → RunsCourse g x old new r → RunsCourse g y old new r
  course_as {old = old} {new = new} {r = r} same one = record {
    does = λ told. subst (λ (c : Course). DoesItems g.tells_prints g.roomy c.items (EndsCourse c) (g.meaning old) (g.meaning new) (g.status old).done (g.status new).done r) (same told) (one.does told);
    promise = one.promise;
    faults = one.faults;
  }

  -- items that are done, and whether more of their kind follow
  pub course_ends : {course : Shelf → Course} {old new : X} {code : ℕ} (b : Bool) → (IsTrue g.tells → b ≡ (course (g.meaning old).state).goes_on) → RunsCoded g (λ shelf. (course shelf).items) old new (Ok code) → RunsCourse g course old new (Ok (record { code = code; goes_on = b }))
  course_ends {code = code} b goes one = record {
    does = λ told. let done = one.does told in does_ok (record { code = code; goes_on = b }) (done.answer, goes told) (are_done done);
    promise = one.promise;
    faults = call_ok _ one.faults;
  }

  -- items after something was read, by what is known of that
  pub runs_read : {T : Type 0} {Holds : Shelf → T → Type 0} {items whole : Shelf → List Item} {old mid new : X} {x : T} {r : Result ℕ Stop} → (IsTrue g.tells → IsDurable (g.meaning old)) → Reads g Holds old mid (Ok x)
      → (IsTrue g.tells → Holds (g.meaning old).state x → items (g.meaning old).state ≡ whole (g.meaning old).state) → RunsCoded g items mid new r → RunsCoded g whole old new r
  runs_read {items = items} {r = r} durable one same two = record {
    does = λ told. coded_as r (same told (one.value told)) (coded_later items r (one.same told) (durable told) one.count (two.does told));
    promise = λ told. keeps_then (one.same told).time.later (one.promise told) (two.promise told);
    faults = call_then one.faults two.faults;
  }

  -- items that are stopped while something is read
  pub runs_unread : {T U : Type 0} {Holds : Shelf → T → Type 0} (items : Shelf → List Item) {A : Shelf → U → Type 0} {old new : X} {e : Stop} (q : Result U Stop) → IsErr q × IsErrAnd q (λ f. f ≡ e) → (IsTrue g.tells → IsDurable (g.meaning old)) → Reads g Holds old new (Err e) → RunsWhole g items A old new q
  runs_unread items {A = A} {old = old} q same durable one = record {
    does = λ told. does_idle (items (g.meaning old).state) (A (g.meaning old).state) q same.0 (one.same told) (durable told);
    promise = one.promise;
    faults = call_stops q same.1 one.faults;
  }

  -- the items of a program
  pub runs_all : {items : Shelf → List Item} {old new : X} {r : Result ℕ Stop} → RunsCoded g items old new r → IfOk r (λ code. code ≤ 16) → RunsItems g items old new r
  runs_all one small = record { runs = λ told. (one.does told).runs; code = λ told. (one.does told).answer; count = λ told. (one.does told).count; small = small; promise = one.promise; faults = one.faults }

-- Some items of all were done on a machine, with this highest code, and these are left.
pub record RunsSoFar {X : Type 0} (g : Ghosts X) (all left : Shelf → List Item) (code : ℕ) (old now : X) : Type 0 where
  pub so : IsTrue g.tells → SoFar g.tells_prints (all (g.meaning old).state) (left (g.meaning now).state) code (g.meaning old) (g.meaning now) (g.status old).done (g.status now).done
  pub promise : IsTrue g.tells → Keeps (g.meaning old).clock (g.promise old) (g.promise now)
  pub faults : RunCall {T = Unit {0}} false (g.status old) (g.status now) (Ok tt)

module _ {X : Type 0} (g : Ghosts X) where
  pub far_begins : {all left : Shelf → List Item} {machine : X} → IsReady g machine → (IsTrue g.tells → all (g.meaning machine).state ≡ left (g.meaning machine).state) → RunsSoFar g all left 0 machine machine
  far_begins {all = all} {machine = machine} ready same = record {
    so = λ told. let m = g.meaning machine in let n = (g.status machine).done in subst (λ (l : List Item). SoFar g.tells_prints (all m.state) l 0 m m n n) (same told) (so_begins g.tells_prints (all m.state) m n);
    promise = λ told t known early kept. kept;
    faults = call_none g machine tt ready;
  }

  module _ {all left : Shelf → List Item} {code : ℕ} {old mid : X} (far : RunsSoFar g all left code old mid) where
    later : IsTrue g.tells → (g.meaning old).clock ≤ (g.meaning mid).clock
    later told = (far.so told).are.run.moments.later

    -- more were done
    pub far_further : {T : Type 0} {xs after : Shelf → List Item} {A : Shelf → T → Type 0} {new : X} {x : T} (c highest : ℕ) → RunsWhole g xs A mid new (Ok x)
        → (IsTrue g.tells → left (g.meaning mid).state ≡ xs (g.meaning mid).state ++ after (g.meaning new).state) → (IsTrue g.tells → c ≡ code_of (xs (g.meaning mid).state)) → highest ≡ max code c → RunsSoFar g all after highest old new
    far_further {xs = xs} {after = after} {new = new} c highest two is own both = record {
      so = λ told. so_further (far.so told) (xs (g.meaning mid).state) (after (g.meaning new).state) c highest (is told) (are_done (two.does told)) (own told) both;
      promise = λ told. keeps_then (later told) (far.promise told) (two.promise told);
      faults = call_ok tt (call_then far.faults two.faults);
    }

    -- more were stopped
    pub far_stops : {T U : Type 0} {xs : Shelf → List Item} {A : Shelf → T → Type 0} {B : Shelf → U → Type 0} {new : X} {e : Stop} (q : Result U Stop) → IsErr q × IsErrAnd q (λ f. f ≡ e) → RunsWhole g xs A mid new (Err e)
        → (IsTrue g.tells → (after : List Item) × (left (g.meaning mid).state ≡ xs (g.meaning mid).state ++ after)) → RunsWhole g all B old new q
    far_stops {xs = xs} {e = e} q same two is = record {
      does = λ told. so_stops (far.so told) (xs (g.meaning mid).state) (is told).0 (Err e) q same.0 (memory_of q same.1) (is told).1 (two.does told);
      promise = λ told. keeps_then (later told) (far.promise told) (two.promise told);
      faults = call_stops q same.1 (call_then far.faults two.faults);
    }

    -- none is left
    pub far_ends : {T : Type 0} {A : Shelf → T → Type 0} (x : T) → (IsTrue g.tells → left (g.meaning mid).state ≡ []) → (IsTrue g.tells → code ≡ code_of (all (g.meaning old).state) → A (g.meaning old).state x) → RunsWhole g all A old mid (Ok x)
    far_ends x none is = record {
      does = λ told. so_ends (far.so told) x (none told) (is told (so_code (far.so told) (none told)));
      promise = far.promise;
      faults = call_ok x far.faults;
    }
