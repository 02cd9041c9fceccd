-- What the calls of a machine leave, in this project's profile.
use Rattle.std.specs.Prelude.{◌≡◌, ◌⊎◌, ℕ, ◌+◌, ◌-◌, ◌^◌, ◌≤◌, min, Bool, true, false, List, [], ◌∷◌, ◌++◌, length, map, take, Option, Some, None, Result, Ok, Err, OnOk, IsErrOf, IsTrue}
use Rattle.stop_model.specs.Counts.{Rose}
use Rattle.stop_model.specs.Files.{File, IsPrefixOf}
use Rattle.stop_model.specs.Moments.{Meaning, Elapses, Same}
use Rattle.vol_model.specs.declared.answers.MachErr.{MachErr}
use Rattle.vol_model.specs.declared.answers.MachErr.TheVariants.{Refused, Memory, Device, Print}
use Rattle.vol_model.specs.declared.contents.Shelf.{Shelf}
use Rattle.vol_model.specs.declared.refusals.Refusal.{Refusal}
use Rattle.vol_model.specs.declared.requests.Op.{Op}
use Rattle.vol_model.specs.Did.{Did}
use Rattle.vol_model.specs.Events.{Do, StopsIn, after_operations}
use Rattle.vol_model.specs.Places.{Content}
use Rattle.vol_model.specs.Shelf.{step}
use Rattle.vol_model.specs.Writing.{OpenWriter, with_puts}

-- What a machine always tells: whether it is sound, whether a writer is open, how many operations it did, the texts and numbers that name what it stands on (each as a list), and its counts of faults.
pub record Status : Type 0 where
  pub is_sound : Bool
  pub is_open : Bool
  pub done : ℕ
  pub base : List (List ℕ)
  pub dev_faults : ℕ
  pub print_faults : ℕ

-- after a fault a machine isn't sound, and after each other answer it is
abbrev pub sound_after : {T : Type 0} → Result T MachErr → Bool
sound_after (Err Device) = false
sound_after (Err Print) = false
sound_after _ = true

-- A call of a machine: its base stays; it is sound then but after a fault, and a writer is open then or not; each count rose where its fault is reported, and else stands still.
pub record MachineCall {T : Type 0} (opens : Bool) (old new : Status) (result : Result T MachErr) : Type 0 where
  pub base : new.base ≡ old.base
  pub sound : new.is_sound ≡ sound_after result
  pub opened : IsTrue (sound_after result) → new.is_open ≡ opens
  pub devices : old.dev_faults ≤ new.dev_faults
  pub prints : old.print_faults ≤ new.print_faults
  pub device : IsErrOf result Device → Rose old.dev_faults new.dev_faults
  pub print : IsErrOf result Print → Rose old.print_faults new.print_faults
  pub no_device : ¬ IsErrOf result Device → new.dev_faults ≡ old.dev_faults
  pub no_print : ¬ IsErrOf result Print → new.print_faults ≡ old.print_faults

-- whether a writer is open after a call that opens one
abbrev pub open_at_ok : {T : Type 0} → Result T MachErr → Bool
open_at_ok (Ok x) = true
open_at_ok (Err e) = false

-- and after one that closes it, unless memory ran out
abbrev pub open_at_memory : {T : Type 0} → Result T MachErr → Bool
open_at_memory (Err Memory) = true
open_at_memory _ = false

-- A read: all stays; the machine isn't sound then where the device failed, and its count rose.
pub record ReadCall {T E : Type 0} (device : E) (old new : Status) (result : Result T E) : Type 0 where
  pub base : new.base ≡ old.base
  pub opened : new.is_open ≡ old.is_open
  pub done : new.done ≡ old.done
  pub prints : new.print_faults ≡ old.print_faults
  pub devices : old.dev_faults ≤ new.dev_faults
  pub failed : IsErrOf result device → (new.is_sound ≡ false) × Rose old.dev_faults new.dev_faults
  pub others : ¬ IsErrOf result device → (new.is_sound ≡ true) × (new.dev_faults ≡ old.dev_faults)

-- the number of operations done, after so many more: it stays at its type's end
abbrev pub counted : ℕ → ℕ → ℕ
counted n more = n + min more (2 ^ 64 - 1 - n)

-- an operation is counted where it is done, and else not, unless the device failed
abbrev pub CountsOne : {T : Type 0} → Result T MachErr → ℕ → ℕ → Type 0
CountsOne (Ok x) old new = new ≡ counted old 1
CountsOne (Err Device) old new = Unit {0}
CountsOne (Err e) old new = new ≡ old

-- what a call of several operations answers: what they come to
abbrev pub Comes : {X : Type 0} → Result X MachErr → Result X Refusal → Type 0
Comes (Ok x) answer = answer ≡ Ok x
Comes (Err (Refused r)) answer = answer ≡ Err r
Comes (Err Memory) answer = Unit {0}
Comes (Err Device) answer = Unit {0}
Comes (Err Print) answer = ⊥

-- the shelf and the number done after these operations
abbrev pub IsBehind : List Op → Shelf → Shelf → ℕ → ℕ → Type 0
IsBehind ops old new n m = (new ≡ after_operations old ops) × (m ≡ counted n (length ops))

-- How far a call of several operations came: where it answers or refuses, all of them are done; where memory ran out, some of those on its way.
abbrev pub ComesTo : {X : Type 0} → Result X MachErr → List Op → List Op → Shelf → Shelf → ℕ → ℕ → Type 0
ComesTo (Ok x) way ops old new n m = IsBehind ops old new n m
ComesTo (Err (Refused r)) way ops old new n m = IsBehind ops old new n m
ComesTo (Err Memory) way ops old new n m = (k : ℕ) × (k ≤ length way) × IsBehind (take k way) old new n m
ComesTo (Err Device) way ops old new n m = Unit {0}
ComesTo (Err Print) way ops old new n m = ⊥

-- A call that does several operations, those on its way first: a stop leaves the shelf after some of them, in order, and the printed bytes as they were.
pub record Does {X : Type 0} (way : List Op) (did : Did X Refusal) (old new : Meaning Shelf) (n m : ℕ) (result : Result X MachErr) : Type 0 where
  pub answer : Comes result did.answer
  pub state : ComesTo result way did.operations old.state new.state n m
  pub printed : new.printed ≡ old.printed
  pub moments : Elapses old new (λ shelf p. StopsIn old.state (map Do did.operations) shelf [] × (p ≡ old.printed))

-- a call that is refused, or for which memory ran out
abbrev pub IsUndone : {T : Type 0} → Result T MachErr → Type 0
IsUndone (Ok x) = ⊥
IsUndone (Err (Refused r)) = Unit {0}
IsUndone (Err Memory) = Unit {0}
IsUndone (Err Device) = ⊥
IsUndone (Err Print) = ⊥

-- what a call that opens a writer answers
abbrev pub Opens : {T : Type 0} → Result T MachErr → Option Refusal → Type 0
Opens (Ok x) refusal = refusal ≡ None
Opens (Err (Refused r)) refusal = refusal ≡ Some r
Opens (Err Memory) refusal = Unit {0}
Opens (Err Device) refusal = Unit {0}
Opens (Err Print) refusal = ⊥

-- what was put is on record where a put is done; else the writer stands as before, unless the device failed
abbrev pub Records : {T : Type 0} → Result T MachErr → OpenWriter → Content → OpenWriter → Type 0
Records (Ok x) old c new = new ≡ with_puts old (c ∷ [])
Records (Err Device) old c new = Unit {0}
Records (Err e) old c new = new ≡ old

-- What an operation answers, by the step of the shelf, and the shelf then: the one after it, or the one before. A fault of the device says nothing of the shelf, and a print fault doesn't come.
abbrev pub Answers : {T : Type 0} → Result T MachErr → Result Shelf Refusal → Shelf → Shelf → Type 0
Answers (Ok x) stepped old new = stepped ≡ Ok new
Answers (Err (Refused r)) stepped old new = (stepped ≡ Err r) × (new ≡ old)
Answers (Err Memory) stepped old new = new ≡ old
Answers (Err Device) stepped old new = Unit {0}
Answers (Err Print) stepped old new = ⊥

-- nothing is to be done, or nothing was: the step is refused, or memory ran out
abbrev pub IsIdle : {T : Type 0} → Result Shelf Refusal → Result T MachErr → Type 0
IsIdle stepped result = ((r : Refusal) × (stepped ≡ Err r)) ⊎ IsErrOf result Memory

-- An operation: it is done where the shelf has a step for it, and refused where that is, and then, or where memory ran out, nothing changes but the time. A stop leaves the shelf before or after it, and the printed bytes as they were.
pub record Applies {T : Type 0} (op : Op) (old new : Meaning Shelf) (result : Result T MachErr) : Type 0 where
  pub answer : Answers result (step old.state op) old.state new.state
  pub idle : IsIdle (step old.state op) result → Same old new
  pub printed : new.printed ≡ old.printed
  pub moments : Elapses old new (λ shelf p. ((shelf ≡ old.state) ⊎ (step old.state op ≡ Ok shelf)) × (p ≡ old.printed))

-- A print: the shelf stays, and the bytes are printed, or a prefix of them where the print failed; where memory ran out nothing changes but the time. Whatever the answer is, a prefix of them is printed, which `failed` says. Of printed bytes it is said where the machine tells them.
pub record Prints {T : Type 0} (tells : Bool) (bytes : List ℕ) (old new : Meaning Shelf) (result : Result T MachErr) : Type 0 where
  pub shelf : new.state ≡ old.state
  pub done : OnOk result (IsTrue tells → new.printed ≡ old.printed ++ bytes)
  pub memory : IsErrOf result Memory → Same old new
  pub failed : (q : List ℕ) × IsPrefixOf q bytes × (IsTrue tells → new.printed ≡ old.printed ++ q)
  pub moments : Elapses old new (λ shelf p. (shelf ≡ old.state) × ((q : List ℕ) × IsPrefixOf q bytes × (IsTrue tells → p ≡ old.printed ++ q)))

-- what is known of a moment: the files on which a machine stood then, or the bytes that it had printed
pub data Known : Type 0 where
  Files : (files : List File) → Known
  Bytes : (bytes : List ℕ) → Known

-- promises on stops, each since a moment up to this one and by what is known of it, hold on
abbrev pub Keeps : {X : Type 0} → ℕ → (ℕ → X → Type 0) → (ℕ → X → Type 0) → Type 0
Keeps {X} clock old new = (t : ℕ) (known : X) → t ≤ clock → old t known → new t known

-- a stop since a moment leaves these printed bytes, which are those printed now
pub record PrintedSince (m : Meaning Shelf) (t : ℕ) (bytes : List ℕ) : Type 0 where
  pub now : m.printed ≡ bytes
  pub stops : (shelf : Shelf) (p : List ℕ) → m.left_since t shelf p → p ≡ bytes

-- A call that does nothing but read: nothing changes but the time, no writer, and no promise.
pub record Idles (old new : Meaning Shelf) (w v : OpenWriter) (promise promise' : ℕ → Known → Type 0) (stays stays' : ℕ → List File → Type 0) : Type 0 where
  pub same : Same old new
  pub writer : v ≡ w
  pub promise_kept : Keeps old.clock promise promise'
  pub stays_kept : Keeps old.clock stays stays'
