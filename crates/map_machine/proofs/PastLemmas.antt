-- What one thing more on the record does to the past.
use Rattle.std.proofs.Common.{◌≡◌, ◌⊎◌, ◌≤◌, ℕ, List, [], ◌∷◌, ◌++◌, drop, length, take, true, refl, sym, subst, ap, ◌∙◌, arith}
use Rattle.std.proofs.Math.Logic.{⊎_elim, inl, inr}
use Rattle.std.proofs.Math.Seq.{take-append_seam}
use Rattle.std.proofs.lemmas.Bool.{cases_lt}
use Rattle.std.proofs.lemmas.List.{append-nil, drop-append-le, length-append}
use Rattle.std.specs.Prelude.{IsTrue, Ok}
use Rattle.stop_model.specs.Files.{IsPrefixOf}
use Rattle.stop_model.specs.Moments.{Elapses, Same}
use Rattle.stop_model.proofs.MomentLemmas.{same_none}
use Rattle.map_machine.specs.declared.past.Done.{Done}
use Rattle.map_machine.specs.declared.past.Done.TheVariants.{Printed}
use Rattle.map_machine.specs.Held.{Held, meaning_in}
use Rattle.map_machine.specs.Laws.{counts_now, last_moment}
use Rattle.map_machine.specs.Past.{Moment, before, before_all, meaning_after, moment_at}
use Rattle.vol_model.specs.declared.contents.Shelf.{Shelf}
use Rattle.vol_model.specs.Calls.{Prints}

before_all-more : (log : List Done) (done : Done) (now : Moment) → before_all (log ++ done ∷ []) now ≡ before_all log (before done now)
before_all-more [] done now = refl
before_all-more (d ∷ log) done now = ap (before d) (before_all-more log done now)

module _ (log : List Done) (done : Done) (now later : Moment) (is : before done later ≡ now) where
  -- an earlier moment is as it was
  moment-more : (k : ℕ) → k ≤ length log → moment_at (log ++ done ∷ []) later k ≡ moment_at log now k
  moment-more k early = ap (λ l. before_all l later) (drop-append-le k log (done ∷ []) early) ∙ before_all-more (drop k log) done later ∙ ap (before_all (drop k log)) is

  module _ (P : Shelf → List ℕ → Type 0) (here : P later.shelf later.text) where
    since : (t : ℕ) (shelf : Shelf) (text : List ℕ) → (meaning_after (log ++ done ∷ []) later).left_since t shelf text → (meaning_after log now).left_since t shelf text ⊎ P shelf text
    since t shelf text (k, low, high, is_shelf, is_text) =
        ⊎_elim
        (λ past.
        let all : length (log ++ done ∷ []) ≤ k = omega (arith, length-append log (done ∷ [])) in
        let last = last_moment (log ++ done ∷ []) later k all in
        let same_shelf = ap (λ (m : Moment). m.shelf) (sym last) ∙ is_shelf in
        let same_text = ap (λ (m : Moment). m.text) (sym last) ∙ is_text in
        inr (subst (λ p. P shelf p) same_text (subst (λ s. P s later.text) same_shelf here)))
        (λ early.
        let same = sym (moment-more k early) in
        inl (k, low, early, ap (λ (m : Moment). m.shelf) same ∙ is_shelf, ap (λ (m : Moment). m.text) same ∙ is_text))
        (cases_lt (length log) k)

    -- time goes on by one moment, of which P holds
    pub elapses-more : Elapses (meaning_after log now) (meaning_after (log ++ done ∷ []) later) P
    elapses-more = record {
      later = omega (arith, length-append log (done ∷ []));
      moments = λ t shelf text early left. since t shelf text left;
      keeps = λ t shelf text early left.
          let k = left.0 in
          let low = left.1 in
          let high = left.2 in
          let same = moment-more k high in
          (k, low, omega (arith, length-append log (done ∷ [])), ap (λ (m : Moment). m.shelf) same ∙ left.3, ap (λ (m : Moment). m.text) same ∙ left.4);
    }

-- nothing changes, and no time passes
pub same_held : (old new : Held) → new ≡ old → Same (meaning_in old) (meaning_in new)
same_held old new same = subst (λ h. Same (meaning_in old) (meaning_in h)) (sym same) (same_none (meaning_in old) (λ t shelf early left. counts_now old t shelf early left))

-- nothing happens
pub elapses-none : (old new : Held) (P : Shelf → List ℕ → Type 0) → new ≡ old → Elapses (meaning_in old) (meaning_in new) P
elapses-none old new P same =
    subst (λ h. Elapses (meaning_in old) (meaning_in h) P) (sym same) (record { later = omega arith; moments = λ t shelf text early left. inl left; keeps = λ t shelf text early left. left })

-- a print that is done, and is on the record
pub print_prints : (old new : Held) (bytes : List ℕ) (n : ℕ) → n ≡ length old.now.text
    → new ≡ record old { now = record old.now { text = old.now.text ++ bytes }; log = old.log ++ Printed n ∷ [] }
    → Prints {T = Unit {0}} true bytes (meaning_in old) (meaning_in new) (Ok tt)
print_prints old new bytes n size is =
    let later : Moment = record old.now { text = old.now.text ++ bytes } in
    let P : Shelf → List ℕ → Type 0 = λ shelf p. (shelf ≡ old.now.shelf) × ((q : List ℕ) × IsPrefixOf q bytes × (IsTrue true → p ≡ old.now.text ++ q)) in
    let whole : IsPrefixOf bytes bytes = ([], append-nil bytes) in
    let cut : take n (old.now.text ++ bytes) ≡ old.now.text = ap (λ k. take k (old.now.text ++ bytes)) size ∙ take-append_seam old.now.text bytes in
    let back : before (Printed n) later ≡ old.now = ap (λ p. record { shelf = old.now.shelf; text = p }) cut in
    subst (λ h. Prints {T = Unit {0}} true bytes (meaning_in old) (meaning_in h) (Ok tt)) (sym is) (record {
      shelf = refl;
      done = λ told. refl;
      memory = λ e. cc;
      failed = (bytes, whole, λ told. refl);
      moments = elapses-more old.log (Printed n) old.now later back P (refl, (bytes, whole, λ told. refl));
    })
