-- What a machine over several images keeps, and what it stands on.
use Rattle.std.proofs.Common.{◌≡◌, ⊎_elim, ℕ, List, [], ◌∷◌, ◌++◌, refl, sym, ◌∙◌, ap, subst}
use Rattle.std.specs.Prelude.{Bool, None, IsErrOf, IsTrue, Result, Ok, Err, slice_get}
use Rattle.hall_core.specs.Facts.{Attached, Facts}
use Rattle.stop_model.specs.Files.{AfterPrint, File, IsPrefixOf}
use Rattle.stop_model.specs.Moments.{Elapses, Meaning, Same}
use Rattle.stop_model.specs.Steps.{seen}
use Rattle.stop_model.proofs.MomentLemmas.{CountsNow, counts_now_seen, elapses_none, elapses_seen, same_none}
use Rattle.stop_model.proofs.StepLemmas.{elapses_print}
use Rattle.vol_model.specs.Calls.{Applies, Bytes, Files, Idles, Keeps, Known, Prints}
use Rattle.vol_model.specs.Writing.{OpenWriter}
use Rattle.vol_model.specs.declared.answers.MachErr.{MachErr}
use Rattle.vol_model.specs.declared.answers.MachErr.TheVariants as mach
use Rattle.vol_model.specs.declared.contents.Shelf.{Shelf}
use Rattle.vol_model.specs.declared.refusals.Refusal.TheVariants.{NoVolume}
use Rattle.vol_model.specs.declared.requests.Op.{Op}
use Rattle.vol_model.specs.Shelf.{on_volume, step, step_on, volume_number}
use Rattle.vtoc_index.specs.declared.vol.Vol.{Vol}
use Rattle.shelf_machine.specs.Machine.{ByFiles, KeepsSafe, LeavesJust, base_of, plans_of, shelf_under, texts_of, units_of}
use Rattle.shelf_machine.specs.Opening.{names_of}

-- what stops left stays where nothing but the time changes
pub just_same : {m m' : Meaning (List File)} → CountsNow m → Same m m' → Keeps m.clock (LeavesJust m) (LeavesJust m')
just_same {m} counts same t files early was j p left =
    ⊎_elim (λ before. was j p before) (λ now. was j m.printed (counts t j early now.0)) ((same.time.since t j p early).0 left)

-- and after a print
pub just_printed : {T E : Type 0} {bytes : List ℕ} {m m' : Meaning (List File)} {r : Result T E} → CountsNow m → AfterPrint bytes m m' r → Keeps m.clock (LeavesJust m) (LeavesJust m')
just_printed {m = m} counts print t files early was j p left =
    ⊎_elim (λ before. was j p before) (λ now. was j m.printed (counts t j early now.0)) ((print.time.since t j p early).0 left)

-- and what was promised of stops, after a print
pub keeps_printed : {T E : Type 0} {names : List (List ℕ)} {vols : List Vol} {bytes : List ℕ} {m m' : Meaning (List File)} {r : Result T E} → CountsNow m → AfterPrint bytes m m' r
    → Keeps m.clock (KeepsSafe names vols m) (KeepsSafe names vols m')
keeps_printed {m = m} counts print t files early was shelf is =
    let s = was shelf is in record {
      plans = s.plans;
      stops = λ j p stop. ⊎_elim (λ before. s.stops j p before) (λ now. s.stops j m.printed (counts t j early now.0)) ((print.time.since t j p early).0 stop);
    }

-- what is done has no error, and another error is another
no_error : {A : Type 0} {y : A} {P : Type 0} → IsErrOf (Ok y) mach.Memory → P
no_error other = absurd (let wrong = other in cc)

no_memory : {A : Type 0} {P : Type 0} → IsErrOf {T = A} (Err mach.Print) mach.Memory → P
no_memory other = absurd (let wrong = other in cc)

module _ (f : List File → Shelf) {bytes : List ℕ} {m m' : Meaning (List File)} (tells : Bool) (durable : (j : List File) → m.left j → f j ≡ f m.state) where
  -- what stops leave of a print
  print_moments : {T E : Type 0} {r : Result T E} → AfterPrint bytes m m' r
      → Elapses (seen f m) (seen f m') (λ shelf p. (shelf ≡ f m.state) × ((q : List ℕ) × IsPrefixOf q bytes × (IsTrue tells → p ≡ m.printed ++ q)))
  print_moments print = elapses_seen f (elapses_print print (λ j q left prefix. (durable j left, (q, prefix, λ _. refl))))

  -- a print of the hall is one of the machine
  pub prints_done : {T E A : Type 0} (x : T) (y : A) → AfterPrint {E = E} bytes m m' (Ok x) → Prints tells bytes (seen f m) (seen f m') (Ok y)
  prints_done x y print = record {
    shelf = ap f print.state;
    done = λ _. print.done;
    memory = λ other. no_error other;
    failed = (print.prefix.0, print.prefix.1, λ _. print.prefix.2);
    moments = print_moments print;
  }

  -- and so is one that failed
  pub prints_failed : {T E A : Type 0} {r : Result T E} (e : MachErr) → e ≡ mach.Print → AfterPrint bytes m m' r → Prints {T = A} tells bytes (seen f m) (seen f m') (Err e)
  prints_failed {A = A} e is print =
      let fault : Prints {T = A} tells bytes (seen f m) (seen f m') (Err mach.Print) =
      record {
        shelf = ap f print.state;
        done = tt;
        memory = λ other. no_memory other;
        failed = (print.prefix.0, print.prefix.1, λ _. print.prefix.2);
        moments = print_moments print;
      } in
      subst (λ (x : MachErr). Prints {T = A} tells bytes (seen f m) (seen f m') (Err x)) (sym is) fault

-- ---- what a machine stands on

same_texts : (us vs : List Attached) → texts_of us ≡ texts_of vs → us ≡ vs
same_texts [] [] is = refl
same_texts [] (v ∷ vs) is = cc
same_texts (u ∷ us) [] is = cc
same_texts (u ∷ us) (v ∷ vs) is =
    let name : u.name ≡ v.name = cc in
    let size : u.size ≡ v.size = cc in
    let first : u ≡ v = ap (λ (n : List ℕ). record u { name = n }) name ∙ ap (λ (s : ℕ). record v { size = s }) size in
    ap (λ (x : Attached). x ∷ us) first ∙ ap (λ (xs : List Attached). v ∷ xs) (same_texts us vs cc)

-- The same hall, the same packs on it, and the same units.
pub record SameBase (old new : Facts) (vols vols' : List Vol) : Type 0 where
  pub references : new.references ≡ old.references
  pub attached : new.units ≡ old.units
  pub numbers : units_of vols' ≡ units_of vols

-- of as many indexes the rest of the base is that of the units
same_rest : (vols vols' : List Vol) (us us' : List Attached) → units_of vols' ≡ units_of vols → plans_of vols' ++ texts_of us' ≡ plans_of vols ++ texts_of us → texts_of us' ≡ texts_of us
same_rest [] [] us us' same is = is
same_rest [] (w ∷ ws) us us' same is = absurd cc
same_rest (v ∷ vs) [] us us' same is = absurd cc
same_rest (v ∷ vs) (w ∷ ws) us us' same is =
    let units : units_of ws ≡ units_of vs = cc in
    let rest : plans_of ws ++ texts_of us' ≡ plans_of vs ++ texts_of us = cc in
    same_rest vs ws us us' units rest

pub same_base : (old new : Facts) (vols vols' : List Vol) → base_of new vols' ≡ base_of old vols → SameBase old new vols vols'
same_base old new vols vols' is =
    let numbers : units_of vols' ≡ units_of vols = cc in
    let rest : plans_of vols' ++ texts_of new.units ≡ plans_of vols ++ texts_of old.units = cc in
    record {
      references = cc;
      attached = same_texts new.units old.units (same_rest vols vols' old.units new.units numbers rest);
      numbers = numbers;
    }

-- ---- calls that change nothing

-- a promise on files, as one of the machine
pub by_files : {clock : ℕ} {P Q : ℕ → List File → Type 0} → Keeps clock P Q → Keeps clock (ByFiles P) (ByFiles Q)
by_files keeps t (Files files) early was = keeps t files early was
by_files keeps t (Bytes bytes) early was = tt

pub keeps_all : {X : Type 0} {clock : ℕ} (P : ℕ → X → Type 0) → Keeps clock P P
keeps_all P t known early was = was

module _ (f : List File → Shelf) (m : Meaning (List File)) (counts : CountsNow m) where
  abbrev here : Meaning Shelf
  here = seen f m

  pub same_here : Same here here
  same_here = same_none here (counts_now_seen f m counts)

  -- a read
  pub idles : {w : OpenWriter} {P : ℕ → Known → Type 0} {S : ℕ → List File → Type 0} → Idles here here w w P P S S
  idles {P} {S} = record { same = same_here; writer = refl; promise_kept = keeps_all P; stays_kept = keeps_all S }

  -- an operation for which memory ran out
  pub applies_memory : {T : Type 0} (op : Op) → Applies {T = T} op here here (Err mach.Memory)
  applies_memory op = record { answer = refl; idle = λ idle. same_here; printed = refl; moments = elapses_none here _ }

  -- an operation on a volume that isn't there
  pub applies_nowhere : {T : Type 0} (op : Op) → slice_get (f m.state).volumes (volume_number op) ≡ None → Applies {T = T} op here here (Err (mach.Refused NoVolume))
  unfolding step
  applies_nowhere op none = record {
    answer = (ap (on_volume (f m.state) (volume_number op) (step_on op)) none, refl);
    idle = λ idle. same_here;
    printed = refl;
    moments = elapses_none here _;
  }

-- ---- a print keeps the units

pub prints_at : {T : Type 0} (units units' : List Attached) (numbers : List ℕ) → units' ≡ units → {tells : Bool} {bytes : List ℕ} (m m' : Meaning (List File)) {r : Result T MachErr}
    → Prints tells bytes (seen (shelf_under (names_of units numbers)) m) (seen (shelf_under (names_of units numbers)) m') r
    → Prints tells bytes (seen (shelf_under (names_of units numbers)) m) (seen (shelf_under (names_of units' numbers)) m') r
prints_at units units' numbers same {tells} {bytes} m m' {r} prints =
    subst (λ (us : List Attached). Prints tells bytes (seen (shelf_under (names_of units numbers)) m) (seen (shelf_under (names_of us numbers)) m') r) (sym same) prints

pub printed_at : (units units' : List Attached) (numbers : List ℕ) → units' ≡ units → {clock : ℕ} (vols : List Vol) (m m' : Meaning (List File))
    → Keeps clock (KeepsSafe (names_of units numbers) vols m) (KeepsSafe (names_of units numbers) vols m')
    → Keeps clock (KeepsSafe (names_of units numbers) vols m) (KeepsSafe (names_of units' numbers) vols m')
printed_at units units' numbers same {clock} vols m m' keeps =
    subst (λ (us : List Attached). Keeps clock (KeepsSafe (names_of units numbers) vols m) (KeepsSafe (names_of us numbers) vols m')) (sym same) keeps
