-- The names of a member are entered, one after another.
use Rattle.std.proofs.Common.{◌≡◌, ℕ, Bool, List, [], ◌∷◌, ◌++◌, refl, sym, ◌∙◌, ap, subst, append_assoc}
use Rattle.std.specs.Prelude.{Result, Ok, Err, IsErr}
use Rattle.ebcdic_names.specs.declared.names.Name8.{Name8}
use Rattle.stop_model.specs.Moments.{Meaning}
use Rattle.vol_model.specs.declared.answers.Stop.{Stop}
use Rattle.vol_model.specs.declared.contents.Place.{Place}
use Rattle.vol_model.specs.declared.contents.Shelf.{Shelf}
use Rattle.vol_model.specs.declared.requests.Op.{Op}
use Rattle.vol_model.specs.Did.{Did, and_then, answered, behind_them}
use Rattle.vol_model.specs.Events.{after_operations}
use Rattle.vol_model.specs.Runs.{Works}
use Rattle.vol_model.specs.Writing.{did_apply}
use Rattle.vol_model.proofs.Working.{done_state, done_then, goes_on, has_done, works_behind, works_done, works_ends, works_none, works_stops}
use Rattle.util_steps.specs.declared.calls.Fault.{Fault}
use Rattle.util_steps.specs.declared.calls.SetRef.{SetRef}
use Rattle.util_steps.specs.Copying.{refusing}
use Rattle.record_files.specs.Advancing.{done}
use Rattle.record_files.specs.Members.{name_entry}
use Rattle.output_files.specs.Members.{MemberNames, did_aliases, other_name, own_name}

-- Some of the operations of a whole are done, and the others are still to be done.
pub record Entered (tells : Bool) (whole rest : Did (Unit {0}) Fault) (old now : Meaning Shelf) (n m : ℕ) : Type 0 where
  pub ops : List Op
  pub put : Works tells (done ops) old now n m (Ok (Ok tt))
  pub did : whole ≡ behind_them ops rest

pub entered_none : (tells : Bool) (d : Did (Unit {0}) Fault) (m : Meaning Shelf) (n : ℕ) → Entered tells d d m m n n
entered_none tells d m n = record { ops = []; put = works_none tells m n (Ok tt); did = refl }

module _ {tells : Bool} {whole rest : Did (Unit {0}) Fault} {old now : Meaning Shelf} {n m : ℕ} (first : Entered tells whole rest old now n m) where
  -- the rest comes to an end, whatever that is
  pub entered_works : {new : Meaning Shelf} {k : ℕ} (r : Result (Result (Unit {0}) Fault) Stop) → Works tells rest now new m k r → Works tells whole old new n k r
  entered_works {new = new} {k = k} r works = subst (λ (d : Did (Unit {0}) Fault). Works tells d old new n k r) (sym first.did) (works_behind r (has_done first.put) works)

  -- the first of the rest is done
  pub entered_then : {new : Meaning Shelf} {k : ℕ} (d : Did (Unit {0}) Fault) (more : Unit {0} → Shelf → Did (Unit {0}) Fault) (x : Unit {0}) → rest ≡ and_then now.state d more → Works tells d now new m k (Ok (Ok x)) → Entered tells whole (more x new.state) old new n k
  entered_then {new = new} d more x is works =
      let at : new.state ≡ after_operations now.state d.operations = done_state (has_done works) in
      let last = more x new.state in
      record {
        ops = first.ops ++ d.operations;
        put = works_done (done (first.ops ++ d.operations)) (Ok tt) (done_then (has_done first.put) (has_done works)) refl;
        did = first.did ∙ ap (behind_them first.ops) (is ∙ goes_on d more now.state x works.answer ∙ ap (λ (s : Shelf). behind_them d.operations (more x s)) (sym at))
            ∙ ap (λ (l : List Op). record { operations = l; answer = last.answer }) (sym (append_assoc first.ops d.operations last.operations));
      }

-- ---- other names

-- what the first alias comes to, and then the others
abbrev one : Shelf → SetRef → Place → Bool → Name8 → Did (Unit {0}) Fault
one s to place r a = refusing (did_apply s (name_entry to place (other_name r a)))

abbrev pub others : SetRef → Place → Bool → List Name8 → Unit {0} → Shelf → Did (Unit {0}) Fault
others to place r ns x u = did_aliases u to place r ns

aliases_first : (s : Shelf) (to : SetRef) (place : Place) (r : Bool) (a : Name8) (ns all : List Name8) → all ≡ a ∷ ns → did_aliases s to place r all ≡ and_then s (one s to place r a) (others to place r ns)
unfolding did_aliases
aliases_first s to place r a ns all is = ap (did_aliases s to place r) is

none_entered : (s : Shelf) (to : SetRef) (place : Place) (r : Bool) (all : List Name8) → all ≡ [] → did_aliases s to place r all ≡ answered (Ok tt)
unfolding did_aliases
none_entered s to place r all is = ap (did_aliases s to place r) is

module _ (to : SetRef) (place : Place) (b : Bool) {tells : Bool} {whole : Did (Unit {0}) Fault} {old now : Meaning Shelf} {n m : ℕ} where
  pub aliases_done : (all : List Name8) → all ≡ [] → Entered tells whole (did_aliases now.state to place b all) old now n m → Works tells whole old now n m (Ok (Ok tt))
  aliases_done all none so = entered_works so (Ok (Ok tt)) (subst (λ (d : Did (Unit {0}) Fault). Works tells d now now m m (Ok (Ok tt))) (sym (none_entered now.state to place b all none)) (works_none tells now m (Ok tt)))

  module _ (a : Name8) (ns all : List Name8) (is : all ≡ a ∷ ns) (so : Entered tells whole (did_aliases now.state to place b all) old now n m) {new : Meaning Shelf} {k : ℕ} where
    by_first : (r : Result (Result (Unit {0}) Fault) Stop) → Works tells (and_then now.state (one now.state to place b a) (others to place b ns)) now new m k r → Works tells whole old new n k r
    by_first r works = entered_works so r (subst (λ (d : Did (Unit {0}) Fault). Works tells d now new m k r) (sym (aliases_first now.state to place b a ns all is)) works)

    pub alias_stopped : (q r : Result (Result (Unit {0}) Fault) Stop) → IsErr r → Works tells (one now.state to place b a) now new m k q → Works tells whole old new n k r
    alias_stopped q r failed works = by_first r (works_stops (one now.state to place b a) (others to place b ns) q r failed works)

    pub alias_fault : (e : Fault) → Works tells (one now.state to place b a) now new m k (Ok (Err e)) → Works tells whole old new n k (Ok (Err e))
    alias_fault e works = by_first (Ok (Err e)) (works_ends (one now.state to place b a) (others to place b ns) e works)

    pub alias_further : (x : Unit {0}) → Works tells (one now.state to place b a) now new m k (Ok (Ok x)) → Entered tells whole (did_aliases new.state to place b ns) old new n k
    alias_further x works = entered_then so (one now.state to place b a) (others to place b ns) x (aliases_first now.state to place b a ns all is) works

-- ---- all names

-- what the member's own name comes to
abbrev pub own : Shelf → SetRef → Place → MemberNames → Did (Unit {0}) Fault
own s to place n = refusing (did_apply s (name_entry to place (own_name n)))
