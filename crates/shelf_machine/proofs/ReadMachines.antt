-- A read of a machine that calls its hall.
use Rattle.std.proofs.Common.{◌≡◌, ⊎_elim, ℕ, Bool, true, false, List, ◌∷◌, ◌++◌, Option, refl, sym, ap, subst, ◌∙◌}
use Rattle.std.specs.Prelude.{IsErrOf, Result}
use Rattle.hall_core.specs.Facts.{Attached, Facts, ReportedCall}
use Rattle.stop_model.specs.Files.{File}
use Rattle.stop_model.specs.Moments.{Meaning, Same}
use Rattle.stop_model.specs.Steps.{seen}
use Rattle.stop_model.proofs.MomentLemmas.{CountsNow, same_seen}
use Rattle.vol_model.specs.Calls.{Idles, Keeps, ReadCall}
use Rattle.vol_model.specs.Writing.{OpenWriter}
use Rattle.vtoc_index.specs.declared.vol.Vol.{Vol}
use Rattle.shelf_machine.specs.Machine.{ByFiles, KeepsSafe, LeavesJust, plans_of, shelf_under, status_with, texts_of, units_of}
use Rattle.shelf_machine.specs.Opening.{names_of}
use Rattle.shelf_machine.specs.declared.writer.Writer.{Writer}
use Rattle.shelf_machine.proofs.Machines.{by_files, just_same}

-- what was promised of stops stays where nothing but the time changes
keeps_same : {names : List (List ℕ)} {vols : List Vol} {m m' : Meaning (List File)} → CountsNow m → Same m m' → Keeps m.clock (KeepsSafe names vols m) (KeepsSafe names vols m')
keeps_same {m = m} counts same t files early was shelf is =
    let s = was shelf is in record {
      plans = s.plans;
      stops = λ j p stop. ⊎_elim (λ before. s.stops j p before) (λ now. s.stops j m.printed (counts t j early now.0)) ((same.time.since t j p early).0 stop);
    }

pub idles_read : (attached attached' : List Attached) (numbers : List ℕ) → attached' ≡ attached → (vols : List Vol) (m m' : Meaning (List File)) → CountsNow m → Same m m' → {w w' : OpenWriter} → w' ≡ w
    → Idles (seen (shelf_under (names_of attached numbers)) m) (seen (shelf_under (names_of attached' numbers)) m') w w'
    (ByFiles (KeepsSafe (names_of attached numbers) vols m)) (ByFiles (KeepsSafe (names_of attached' numbers) vols m')) (LeavesJust m) (LeavesJust m')
idles_read attached attached' numbers units vols m m' counts same {w} {w'} writer =
    subst (λ (us : List Attached). Idles (seen (shelf_under (names_of attached numbers)) m) (seen (shelf_under (names_of us numbers)) m') w w'
    (ByFiles (KeepsSafe (names_of attached numbers) vols m)) (ByFiles (KeepsSafe (names_of us numbers) vols m')) (LeavesJust m) (LeavesJust m')) (sym units)
    (record { same = same_seen _ same; writer = writer; promise_kept = by_files (keeps_same counts same); stays_kept = just_same counts same })

pub read_call : {T E : Type 0} (device : E) (r : Result T E) (old new : Facts) (vols : List Vol) (writer : Option Writer) (done : ℕ) (sound sound' : Bool) → ReportedCall (IsErrOf r device) old new
    → (IsErrOf r device → sound' ≡ false) → (¬ IsErrOf r device → sound' ≡ true) → ReadCall device (status_with sound writer done old vols) (status_with sound' writer done new vols) r
read_call device r old new vols writer done sound sound' call failed others = record {
  base = ap (λ (n : List ℕ). n ∷ units_of vols ∷ plans_of vols ++ texts_of new.units) call.references ∙ ap (λ (us : List Attached). old.references ∷ units_of vols ∷ plans_of vols ++ texts_of us) call.units;
  opened = refl;
  done = refl;
  prints = call.prints;
  devices = call.later;
  failed = λ is. (failed is, call.device is);
  others = λ differs. (others differs, call.others differs);
}

-- what holds of files and units holds where both are as they were
pub both_same : (P : List File → List Attached → Type 0) {files files' : List File} {attached attached' : List Attached} → files' ≡ files → attached' ≡ attached → P files attached → P files' attached'
both_same P {files} {files'} {attached} {attached'} state units is = subst (λ (fs : List File). P fs attached') (sym state) (subst (P files) (sym units) is)
