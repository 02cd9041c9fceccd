-- How DDs are resolved, one after another.
use Rattle.std.proofs.Common.{◌≡◌, ℕ, Bool, true, false, max, List, [], ◌∷◌, ◌++◌, length, map, refl, sym, ◌∙◌, ap, subst, arith, append_assoc}
use Rattle.std.proofs.lemmas.List.{append-nil}
use Rattle.std.specs.Prelude.{codes, Option, Some, None, is_some, Result, Ok, Err, IsErr, if◌then◌else◌}
use Rattle.std.specs.List.{cons_option, filter_map}
use Rattle.ebcdic_names.specs.declared.names.Dsn.{Dsn}
use Rattle.ebcdic_names.specs.declared.names.Name8.{Name8}
use Rattle.indexmap.specs.IndexMap.{insert_all, insert_entry}
use Rattle.jcl_forms.specs.declared.disposition.DdStatus.{DdStatus}
use Rattle.jcl_forms.specs.declared.disposition.DdStatus.TheVariants.{New, Old, Shr, Mod}
use Rattle.job_deck.specs.declared.job.Dd.{Dd}
use Rattle.job_deck.specs.declared.job.DdSet.{DdSet}
use Rattle.job_deck.specs.declared.job.DdWhat.{DdWhat}
use Rattle.job_deck.specs.declared.job.DdWhat.TheVariants as what
use Rattle.stop_model.specs.Moments.{Meaning}
use Rattle.util_syntax.specs.declared.step.DdIn.{DdIn}
use Rattle.util_syntax.specs.Step.{same_name}
use Rattle.vol_model.specs.declared.answers.Stop.{Stop}
use Rattle.vol_model.specs.declared.contents.Shelf.{Shelf}
use Rattle.vol_model.specs.declared.refusals.Refusal.{Refusal}
use Rattle.vol_model.specs.declared.refusals.Refusal.TheVariants.{NoSet}
use Rattle.vol_model.specs.Did.{Did}
use Rattle.vol_model.specs.Events.{Item, code_of}
use Rattle.vol_model.specs.Writing.{did_apply, set_on}
use Rattle.job_runner.specs.declared.definitions.Defined.{Defined}
use Rattle.job_runner.specs.declared.new_sets.NewSet.{NewSet}
use Rattle.job_runner.specs.DataSets.{Definitions, Resolved, allocation, by_name, code_for, definitions, found_on, gives, if_done, is_mod, looked_for, makes, new_set, new_with, not_there, old_set, refuses, resolved, resolved_as, set_by, set_given, table_of, wanted, with_first}
use Rattle.job_runner.specs.Dispositions.{deletion_for}
use Rattle.job_runner.specs.Parts.{DoesItems, behind_items}
use Rattle.job_runner.specs.Resolving.{Defines, Resolves}
use Rattle.job_runner.proofs.PartLemmas.{SoFar, code_append, does_broken, does_state, does_with, so_begins, so_ends, so_further, so_last, so_stops}

-- ---- one DD

module _ {tells : Bool} where
  -- it is stopped
  pub resolve_stopped : {T : Type 0} (x : Resolved) {old new : Meaning Shelf} {n m k : ℕ} {q : Result T Stop} (r : Result (Option DdIn) Stop) → IsErr r → DoesItems tells x.items old new n m q → Resolves tells x old new n k r
  resolve_stopped x (Ok dd) failed does = let no : ⊥ = cc in absurd no
  resolve_stopped x (Err e) failed does = record { does = does_broken (Err e) refl does; given = tt }

  pub resolve_done : {T : Type 0} (x : Resolved) {old new : Meaning Shelf} {n m : ℕ} {y : T} (dd : Option DdIn) → DoesItems tells x.items old new n m (Ok y) → dd ≡ x.dd → Resolves tells x old new n m (Ok dd)
  resolve_done x dd does is = record { does = does_with dd does; given = is }

-- ---- codes

-- 12 for a DD that is refused
abbrev pub dd_code : Option DdIn → ℕ
dd_code None = 12
dd_code (Some dd) = 0

made_code : (card : ℕ) (dsn : Dsn) (did : Did (Unit {0}) Refusal) (dd : DdIn) → code_of (makes card dsn did dd).items ≡ dd_code (makes card dsn did dd).dd
made_code card dsn did dd = by_answer did.answer
  where
    by_answer : (a : Result (Unit {0}) Refusal) → max (code_for 12 a) 0 ≡ dd_code (if_done a dd)
    by_answer (Ok x) = refl
    by_answer (Err e) = refl

new_code : (date : List ℕ) (card : ℕ) (set : DdSet) (s : Shelf) → code_of (new_set date card set s).items ≡ dd_code (new_set date card set s).dd
unfolding new_set
new_code date card set s = by_wanted (wanted set s)
  where
    by_wanted : (w : Result NewSet Refusal) → code_of (new_with date card set s w).items ≡ dd_code (new_with date card set s w).dd
    by_wanted (Ok w) = made_code card set.dsn (did_apply s (allocation date set w)) (set_given set w.v)
    by_wanted (Err e) = refl

missing_code : (date : List ℕ) (card : ℕ) (set : DdSet) (s : Shelf) → code_of (not_there date card set s).items ≡ dd_code (not_there date card set s).dd
missing_code date card set s = by_mod (is_mod set.status)
  where
    by_mod : (b : Bool) → (let r = (if b then new_set date card set s else refuses (codes "FIND") card set.dsn NoSet) in code_of r.items ≡ dd_code r.dd)
    by_mod true = new_code date card set s
    by_mod false = refl

old_code : (date : List ℕ) (card : ℕ) (set : DdSet) (s : Shelf) → code_of (old_set date card set s).items ≡ dd_code (old_set date card set s).dd
unfolding old_set
old_code date card set s = by_found (looked_for set s)
  where
    by_there : (v : ℕ) (b : Bool) → (let r = (if b then gives (set_given set v) else not_there date card set s) in code_of r.items ≡ dd_code r.dd)
    by_there v true = refl
    by_there v false = missing_code date card set s

    by_found : (r : Result ℕ Refusal) → code_of (found_on date card set s r).items ≡ dd_code (found_on date card set s r).dd
    by_found (Ok v) = by_there v (is_some (set_on s v set.dsn.bytes))
    by_found (Err e) = refl

set_code : (date : List ℕ) (card : ℕ) (set : DdSet) (s : Shelf) (status : DdStatus) → code_of (set_by date card set s status).items ≡ dd_code (set_by date card set s status).dd
set_code date card set s New = new_code date card set s
set_code date card set s Old = old_code date card set s
set_code date card set s Shr = old_code date card set s
set_code date card set s Mod = old_code date card set s

resolved_code : (date : List ℕ) (dd : Dd) (s : Shelf) → code_of (resolved date dd s).items ≡ dd_code (resolved date dd s).dd
unfolding resolved
resolved_code date dd s = by_what dd.what
  where
    by_what : (w : DdWhat) → code_of (resolved_as date dd.card s w).items ≡ dd_code (resolved_as date dd.card s w).dd
    by_what what.Dummy = refl
    by_what what.Sysout = refl
    by_what (what.Cards cards) = refl
    by_what (what.Set set) = set_code date dd.card set s set.status

-- the code of DDs is 12 where one is refused, and else 0
pub definitions_code : (date : List ℕ) (dds : List Dd) (s : Shelf) → code_of (definitions date dds s).items ≡ (if (definitions date dds s).is_refused then 12 else 0)
unfolding definitions
definitions_code date [] s = refl
definitions_code date (dd ∷ dds) s =
    let first = resolved date dd s in
    by_found first.items first.dd (definitions date dds (behind_items s first.items)) (resolved_code date dd s) (definitions_code date dds (behind_items s first.items))
  where
    by_found : (items : List Item) (found : Option DdIn) (rest : Definitions) → code_of items ≡ dd_code found → code_of rest.items ≡ (if rest.is_refused then 12 else 0)
        → code_of (with_first dd items found rest).items ≡ (if (with_first dd items found rest).is_refused then 12 else 0)
    by_found items None rest first others = first
    by_found items (Some x) rest first others = code_append items rest.items ∙ ap (λ (c : ℕ). max c (code_of rest.items)) first ∙ omega arith ∙ others

-- ---- DDs one after another

-- Some DDs were resolved, and these are left.
pub record DefinedSoFar (tells : Bool) (all left : Definitions) (defined : Defined) (old now : Meaning Shelf) (n m : ℕ) : Type 0 where
  pub items : SoFar tells all.items left.items old now n m
  pub table : insert_all same_name defined.table (map by_name left.dds) ≡ table_of all.dds
  pub deletions : defined.deletions.items ++ filter_map deletion_for left.dds ≡ filter_map deletion_for all.dds
  pub is_refused : left.is_refused ≡ all.is_refused
  pub unrefused : defined.is_refused ≡ false

pub defined_begins : (tells : Bool) (all : Definitions) (defined : Defined) (old : Meaning Shelf) (n : ℕ) → defined.table ≡ [] → defined.deletions.items ≡ [] → defined.is_refused ≡ false → DefinedSoFar tells all all defined old old n n
unfolding table_of
defined_begins tells all defined old n table deletions unrefused = record {
  items = so_begins tells all.items old n;
  table = ap (λ (t : List (Name8 × DdIn)). insert_all same_name t (map by_name all.dds)) table;
  deletions = ap (λ l. l ++ filter_map deletion_for all.dds) deletions;
  is_refused = refl;
  unrefused = unrefused;
}

one_more : {X : Type 0} (o : Option X) (xs : List X) → cons_option o xs ≡ cons_option o [] ++ xs
one_more None xs = refl
one_more (Some x) xs = refl

first_of : (date : List ℕ) (dd : Dd) (dds : List Dd) (s : Shelf) → definitions date (dd ∷ dds) s ≡ (let first = resolved date dd s in with_first dd first.items first.dd (definitions date dds (behind_items s first.items)))
unfolding definitions
first_of date dd dds s = refl

-- what is left where the first DD gives something
goes_on : (date : List ℕ) (dd : Dd) (dds : List Dd) (s : Shelf) (given : DdIn) → Some given ≡ (resolved date dd s).dd → definitions date (dd ∷ dds) s ≡ (let first = resolved date dd s in with_first dd first.items (Some given) (definitions date dds (behind_items s first.items)))
goes_on date dd dds s given is =
    let first = resolved date dd s in
    first_of date dd dds s ∙ ap (λ (o : Option DdIn). with_first dd first.items o (definitions date dds (behind_items s first.items))) (sym is)

cut : (date : List ℕ) (dd : Dd) (dds : List Dd) (s : Shelf) → None ≡ (resolved date dd s).dd → definitions date (dd ∷ dds) s ≡ record { items = (resolved date dd s).items; dds = []; is_refused = true }
cut date dd dds s is =
    let first = resolved date dd s in
    first_of date dd dds s ∙ ap (λ (o : Option DdIn). with_first dd first.items o (definitions date dds (behind_items s first.items))) (sym is)

items_first : (date : List ℕ) (dd : Dd) (dds : List Dd) (s : Shelf) → (after : List Item) × ((definitions date (dd ∷ dds) s).items ≡ (resolved date dd s).items ++ after)
items_first date dd dds s =
    let first = resolved date dd s in
    let found = by_found first.items first.dd (definitions date dds (behind_items s first.items)) in
    (found.0, ap (λ (d : Definitions). d.items) (first_of date dd dds s) ∙ found.1)
  where
    by_found : (items : List Item) (o : Option DdIn) (rest : Definitions) → (after : List Item) × ((with_first dd items o rest).items ≡ items ++ after)
    by_found items None rest = ([], sym (append-nil items))
    by_found items (Some x) rest = (rest.items, refl)

module _ {tells : Bool} {all : Definitions} {defined : Defined} (date : List ℕ) (dd : Dd) (behind : List Dd) {old now : Meaning Shelf} {n m : ℕ} (so : DefinedSoFar tells all (definitions date (dd ∷ behind) now.state) defined old now n m) where
  pub defined_further : {new : Meaning Shelf} {k : ℕ} (next : Defined) (given : DdIn) → Resolves tells (resolved date dd now.state) now new m k (Ok (Some given)) → next.table ≡ insert_entry same_name defined.table dd.name given
      → next.deletions.items ≡ defined.deletions.items ++ filter_map deletion_for ((dd, given) ∷ []) → next.is_refused ≡ defined.is_refused → DefinedSoFar tells all (definitions date behind new.state) next old new n k
  defined_further {new = new} {k = k} next given resolves table deletions same =
      let first = resolved date dd now.state in
      let here : new.state ≡ behind_items now.state first.items = does_state resolves.does in
      let left : definitions date (dd ∷ behind) now.state ≡ with_first dd first.items (Some given) (definitions date behind new.state) =
      goes_on date dd behind now.state given resolves.given ∙ ap (λ (s : Shelf). with_first dd first.items (Some given) (definitions date behind s)) (sym here) in
      let rest = definitions date behind new.state in
      record {
        items = so_further so.items first.items rest.items (ap (λ (d : Definitions). d.items) left) resolves.does;
        table = ap (λ (t : List (Name8 × DdIn)). insert_all same_name t (map by_name rest.dds)) table ∙ ap (λ (d : Definitions). insert_all same_name defined.table (map by_name d.dds)) (sym left) ∙ so.table;
        deletions = ap (λ l. l ++ filter_map deletion_for rest.dds) deletions ∙ append_assoc defined.deletions.items (filter_map deletion_for ((dd, given) ∷ [])) (filter_map deletion_for rest.dds)
            ∙ ap (λ l. defined.deletions.items ++ l) (sym (one_more (deletion_for (dd, given)) (filter_map deletion_for rest.dds))) ∙ ap (λ (d : Definitions). defined.deletions.items ++ filter_map deletion_for d.dds) (sym left) ∙ so.deletions;
        is_refused = ap (λ (d : Definitions). d.is_refused) (sym left) ∙ so.is_refused;
        unrefused = same ∙ so.unrefused;
      }

  pub defined_stops : {new : Meaning Shelf} {k c : ℕ} {q : Result (Option DdIn) Stop} (r : Result Defined Stop) → IsErr r → Resolves tells (resolved date dd now.state) now new m k q → Defines tells all old new n c r
  defined_stops (Ok x) failed resolves = let no : ⊥ = cc in absurd no
  defined_stops {k = k} (Err e) failed resolves =
      let first = items_first date dd behind now.state in
      record { does = so_stops so.items (resolved date dd now.state).items first.0 (Err e) refl first.1 resolves.does; defined = tt }

  pub defined_refused : {new : Meaning Shelf} {k : ℕ} (last : Defined) → Resolves tells (resolved date dd now.state) now new m k (Ok None) → last.table ≡ defined.table → last.deletions.items ≡ defined.deletions.items → last.is_refused ≡ true → Defines tells all old new n k (Ok last)
  defined_refused {new = new} {k = k} last resolves table deletions refused =
      let first = resolved date dd now.state in
      let left = cut date dd behind now.state resolves.given in
      record {
        does = so_last so.items (Ok last) (subst (λ (l : List Item). DoesItems tells l now new m k (Ok last)) (ap (λ (d : Definitions). d.items) (sym left)) (does_with last resolves.does));
        defined = record {
          table = table ∙ ap (λ (d : Definitions). insert_all same_name defined.table (map by_name d.dds)) (sym left) ∙ so.table;
          deletions = deletions ∙ sym (append-nil defined.deletions.items) ∙ ap (λ (d : Definitions). defined.deletions.items ++ filter_map deletion_for d.dds) (sym left) ∙ so.deletions;
          is_refused = refused ∙ ap (λ (d : Definitions). d.is_refused) (sym left) ∙ so.is_refused;
        };
      }

nothing_left : (date : List ℕ) (dds : List Dd) (s : Shelf) → dds ≡ [] → definitions date dds s ≡ record { items = []; dds = []; is_refused = false }
unfolding definitions
nothing_left date dds s none = ap (λ (l : List Dd). definitions date l s) none

pub defined_ends : {tells : Bool} {all : Definitions} {defined : Defined} (date : List ℕ) (rest : List Dd) {old now : Meaning Shelf} {n m : ℕ} → rest ≡ [] → DefinedSoFar tells all (definitions date rest now.state) defined old now n m → Defines tells all old now n m (Ok defined)
defined_ends {defined = defined} date rest {now = now} none so =
    let left = nothing_left date rest now.state none in
    record {
      does = so_ends so.items defined (ap (λ (d : Definitions). d.items) left);
      defined = record {
        table = ap (λ (d : Definitions). insert_all same_name defined.table (map by_name d.dds)) (sym left) ∙ so.table;
        deletions = sym (append-nil defined.deletions.items) ∙ ap (λ (d : Definitions). defined.deletions.items ++ filter_map deletion_for d.dds) (sym left) ∙ so.deletions;
        is_refused = so.unrefused ∙ ap (λ (d : Definitions). d.is_refused) (sym left) ∙ so.is_refused;
      };
    }

empty : {X : Type 0} (l : List X) → length l ≡ 0 → l ≡ []
empty [] e = refl
empty (x ∷ l) e = absurd (omega (arith, e))

-- ---- the loop over DDs

module _ {tells : Bool} (date : List ℕ) {all : Definitions} {defined : Defined} (rest : List Dd) {old now : Meaning Shelf} {n m : ℕ} (so : DefinedSoFar tells all (definitions date rest now.state) defined old now n m) where
  pub dds_end : length rest ≡ 0 → Defines tells all old now n m (Ok defined)
  dds_end none = defined_ends date rest (empty rest none) so

  module _ (dd : Dd) (behind : List Dd) (is : rest ≡ dd ∷ behind) where
    at_first : DefinedSoFar tells all (definitions date (dd ∷ behind) now.state) defined old now n m
    at_first = subst (λ (l : List Dd). DefinedSoFar tells all (definitions date l now.state) defined old now n m) is so

    pub dds_further : {new : Meaning Shelf} {k : ℕ} (next : Defined) (given : DdIn) → Resolves tells (resolved date dd now.state) now new m k (Ok (Some given)) → next.table ≡ insert_entry same_name defined.table dd.name given
        → next.deletions.items ≡ defined.deletions.items ++ filter_map deletion_for ((dd, given) ∷ []) → next.is_refused ≡ defined.is_refused → DefinedSoFar tells all (definitions date behind new.state) next old new n k
    dds_further next given = defined_further date dd behind at_first next given

    pub dds_stop : {new : Meaning Shelf} {k c : ℕ} {q : Result (Option DdIn) Stop} (r : Result Defined Stop) → IsErr r → Resolves tells (resolved date dd now.state) now new m k q → Defines tells all old new n c r
    dds_stop r failed resolves = defined_stops date dd behind at_first r failed resolves

    pub dds_refused : {new : Meaning Shelf} {k : ℕ} (last : Defined) → Resolves tells (resolved date dd now.state) now new m k (Ok None) → last.table ≡ defined.table → last.deletions.items ≡ defined.deletions.items → last.is_refused ≡ true → Defines tells all old new n k (Ok last)
    dds_refused last resolves = defined_refused date dd behind at_first last resolves
