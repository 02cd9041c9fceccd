-- What the step of one volume makes of a machine in memory.
use Rattle.std.proofs.Common.{◌≡◌, ◌⊎◌, ◌<◌, ◌≤◌, ◌+◌, ◌-◌, ◌^◌, ℕ, zero, suc, true, List, [], ◌∷◌, ◌++◌, length, arith, refl, sym, subst, ap, ◌∙◌}
use Rattle.std.proofs.Math.Logic.{⊎_elim, inr}
use Rattle.std.proofs.lemmas.List.{append-nil}
use Rattle.std.proofs.lemmas.Option.{slice_get_within}
use Rattle.std.specs.Prelude.{Err, IsTrue, None, Ok, Option, Result, Some, slice_get, slice_set}
use Rattle.stop_model.specs.Files.{IsPrefixOf}
use Rattle.map_machine.specs.declared.past.Done.TheVariants.{Changed, Printed}
use Rattle.map_machine.specs.Held.{Held, meaning_in}
use Rattle.map_machine.specs.Past.{Moment, before}
use Rattle.map_machine.specs.Steps.{Changes, Steps, with_changed}
use Rattle.map_machine.proofs.PastLemmas.{elapses-more, elapses-none, print_prints, same_held}
use Rattle.vol_model.specs.declared.answers.MachErr.{MachErr}
use Rattle.vol_model.specs.declared.answers.MachErr.TheVariants.{Refused, Memory, Device, Print}
use Rattle.vol_model.specs.declared.contents.Shelf.{Shelf}
use Rattle.vol_model.specs.declared.contents.Volume.{Volume}
use Rattle.vol_model.specs.declared.refusals.Refusal.{Refusal}
use Rattle.vol_model.specs.declared.refusals.Refusal.TheVariants.{NoVolume}
use Rattle.vol_model.specs.declared.requests.Op.{Op}
use Rattle.vol_model.specs.Calls.{Answers, Applies, Prints, counted}
use Rattle.vol_model.specs.Lawful.{IsLawful}
use Rattle.vol_model.specs.Shelf.{on_volume, step, step_on, volume_number, with_volume}

module _ {X : Type 0} where
  -- the element that stood at a place, put back there
  set_back : (xs : List X) (k : ℕ) (x y : X) → slice_get xs k ≡ Some x → slice_set (slice_set xs k y) k x ≡ xs
  set_back [] k x y at = refl
  set_back (z ∷ xs) zero x y at = ap (λ w. w ∷ xs) (some_same x z (sym at))
    where
      inside : X → Option X → X
      inside d None = d
      inside d (Some w) = w

      some_same : (u w : X) → Some u ≡ Some w → u ≡ w
      some_same u w e = ap (inside u) e
  set_back (z ∷ xs) (suc k) x y at = ap (λ l. z ∷ l) (set_back xs k x y at)

module _ (shelf : Shelf) (op : Op) where
  -- the step on a volume that is there
  pub steps_found : (volume : Volume) (r : Result Volume Refusal) → slice_get shelf.volumes (volume_number op) ≡ Some volume → r ≡ step_on op volume → step shelf op ≡ with_volume shelf (volume_number op) r
  unfolding step
  steps_found volume r at is = ap (on_volume shelf (volume_number op) (step_on op)) at ∙ ap (with_volume shelf (volume_number op)) (sym is)

  -- there is no volume
  pub steps_nowhere : slice_get shelf.volumes (volume_number op) ≡ None → step shelf op ≡ Err NoVolume
  unfolding step
  steps_nowhere none = ap (on_volume shelf (volume_number op) (step_on op)) none

  -- a step that is done has a volume of that number
  pub step_inside : (after : Shelf) → step shelf op ≡ Ok after → volume_number op < length shelf.volumes
  unfolding step
  step_inside after done = by_volume (slice_get shelf.volumes (volume_number op)) refl
    where
      by_volume : (found : Option Volume) → slice_get shelf.volumes (volume_number op) ≡ found → volume_number op < length shelf.volumes
      by_volume None none = let wrong : Err NoVolume ≡ Ok after = sym (ap (on_volume shelf (volume_number op) (step_on op)) none) ∙ done in absurd (cc wrong)
      by_volume (Some volume) at = slice_get_within shelf.volumes (volume_number op) volume at

-- an operation that isn't done, and leaves all as it was
pub err_applied : (old new : Held) (op : Op) (e : MachErr) → new ≡ old → Steps old.now.shelf op (Err e) → Applies {T = Unit {0}} op (meaning_in old) (meaning_in new) (Err e)
err_applied old new op e same steps = record {
  answer = answer e steps;
  idle = λ idle. same_held old new same;
  printed = ap (λ (h : Held). h.now.text) same;
  moments = elapses-none old new (λ shelf p. ((shelf ≡ old.now.shelf) ⊎ (step old.now.shelf op ≡ Ok shelf)) × (p ≡ old.now.text)) same;
}
  where
    answer : (e : MachErr) → Steps old.now.shelf op (Err e) → Answers {T = Unit {0}} (Err e) (step old.now.shelf op) old.now.shelf new.now.shelf
    answer (Refused r) refused = (refused, ap (λ (h : Held). h.now.shelf) same)
    answer Memory short = ap (λ (h : Held). h.now.shelf) same
    answer Device never = absurd never
    answer Print never = absurd never

module _ (shelf : Shelf) (op : Op) (v : ℕ) (after : Volume) (number : v ≡ volume_number op) (steps : Steps shelf op (Ok after)) where
  stepped : step shelf op ≡ Ok (with_changed shelf v after)
  stepped = steps ∙ ap (λ n. Ok (with_changed shelf n after)) (sym number)

  -- the volume is there
  pub inside_at : v < length shelf.volumes
  inside_at = subst (λ n. n < length shelf.volumes) (sym number) (step_inside shelf op (with_changed shelf (volume_number op) after) steps)

  -- and the shelf stays lawful, if it does by the operation
  pub lawful_at : ((t : Shelf) → step shelf op ≡ Ok t → IsLawful t) → IsLawful (with_changed shelf v after)
  lawful_at keeps = keeps (with_changed shelf v after) stepped

module _ (old new : Held) (op : Op) (v : ℕ) (after : Volume) (number : v ≡ volume_number op) where
  -- an operation that is done, and is on the record
  done_applied : (x : Unit {0}) → step old.now.shelf op ≡ Ok (with_changed old.now.shelf v after) → Changes v after old new (Ok x) → Applies op (meaning_in old) (meaning_in new) (Ok x)
  done_applied x done (volume, at, is) =
      let shelf = with_changed old.now.shelf v after in
      let later : Moment = record old.now { shelf = shelf } in
      let P : Shelf → List ℕ → Type 0 = λ left p. ((left ≡ old.now.shelf) ⊎ (step old.now.shelf op ≡ Ok left)) × (p ≡ old.now.text) in
      let back : before (Changed v volume) later ≡ old.now = ap (λ l. record { shelf = record { volumes = l }; text = old.now.text }) (set_back old.now.shelf.volumes v volume after at) in
      subst (λ h. Applies op (meaning_in old) (meaning_in h) (Ok x)) (sym is) (record {
        answer = done;
        idle = ⊎_elim (λ refused. let never = sym done ∙ refused.1 in absurd (cc never)) (λ short. cc);
        printed = refl;
        moments = elapses-more old.log (Changed v volume) old.now later back P (inr done, refl);
      })

  -- a change of the volume by its step, or want of memory
  pub change_applied : (r : Result (Unit {0}) MachErr) → Steps old.now.shelf op (Ok after) → Changes v after old new r → Applies op (meaning_in old) (meaning_in new) r
  change_applied (Ok x) steps changes = done_applied x (stepped old.now.shelf op v after number steps) changes
  change_applied (Err (Refused r)) steps never = absurd never
  change_applied (Err Memory) steps same = err_applied old new op Memory same tt
  change_applied (Err Device) steps never = absurd never
  change_applied (Err Print) steps never = absurd never

-- one operation more is counted, up to the end of the type
pub count_more : (n : ℕ) → n < 2 ^ 64 - 1 → n + 1 ≡ counted n 1
count_more n room = omega (arith, room)

pub count_full : (n : ℕ) → 2 ^ 64 - 1 ≤ n → n ≡ counted n 1
count_full n full = omega (arith, full)

-- a volume was put in the place of another, and that is on the record
pub changed : (old new : Held) (v : ℕ) (after volume : Volume) → slice_get old.now.shelf.volumes v ≡ Some volume → new.now.shelf ≡ with_changed old.now.shelf v after
    → new.log ≡ old.log ++ Changed v volume ∷ [] → new.now.text ≡ old.now.text → new.done ≡ counted old.done 1 → new.writer ≡ old.writer → Changes v after old new (Ok tt)
changed old new v after volume at shelf log text done writer =
    (volume, at, λ i. record { now = record { shelf = shelf i; text = text i }; log = log i; done = done i; writer = writer i })

-- bytes were printed after the others, and that is on the record
pub printed : (old new : Held) (bytes : List ℕ) (n : ℕ) → n ≡ length old.now.text → new.now.text ≡ old.now.text ++ bytes → new.log ≡ old.log ++ Printed n ∷ []
    → new.now.shelf ≡ old.now.shelf → new.done ≡ old.done → new.writer ≡ old.writer → Prints {T = Unit {0}} true bytes (meaning_in old) (meaning_in new) (Ok tt)
printed old new bytes n size text log shelf done writer =
    print_prints old new bytes n size (λ i. record { now = record { shelf = shelf i; text = text i }; log = log i; done = done i; writer = writer i })

-- only memory was wanted
pub unprinted : (old new : Held) (bytes : List ℕ) → new ≡ old → Prints {T = Unit {0}} true bytes (meaning_in old) (meaning_in new) (Err Memory)
unprinted old new bytes same =
    let text : new.now.text ≡ old.now.text = ap (λ (h : Held). h.now.text) same in
    let none : IsPrefixOf [] bytes = (bytes, refl) in
    record {
      shelf = ap (λ (h : Held). h.now.shelf) same;
      done = tt;
      memory = λ e. same_held old new same;
      failed = ([], none, λ told. text ∙ sym (append-nil old.now.text));
      moments = elapses-none old new (λ shelf p. (shelf ≡ old.now.shelf) × ((q : List ℕ) × IsPrefixOf q bytes × (IsTrue true → p ≡ old.now.text ++ q))) same;
    }
