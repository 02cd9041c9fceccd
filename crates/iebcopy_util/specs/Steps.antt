-- What the parts of a copy leave, and where a copy ends for want of memory.
use Rattle.std.specs.Prelude.{◌≡◌, ◌⊎◌, ℕ, Bool, true, false, List, [], ◌∷◌, ◌++◌, ◌&&◌, Option, Some, None, Result, Ok, Err, IfOk, IsErrOf, IsTrue, map, take}
use Rattle.std.specs.List.{AllByRecursion, flat_map, list_all}
use Rattle.stop_model.specs.Moments.{Meaning}
use Rattle.vol_model.specs.declared.answers.Stop.{Stop}
use Rattle.vol_model.specs.declared.answers.Stop.TheVariants.{Memory}
use Rattle.vol_model.specs.declared.contents.Block.{Block}
use Rattle.vol_model.specs.declared.contents.DataSet.{DataSet}
use Rattle.vol_model.specs.declared.contents.Place.{Place}
use Rattle.vol_model.specs.declared.contents.Shelf.{Shelf}
use Rattle.vol_model.specs.declared.machine.Machine.{Ghosts}
use Rattle.vol_model.specs.declared.refusals.Refusal.{Refusal}
use Rattle.vol_model.specs.declared.refusals.Refusal.TheVariants.{Unreadable}
use Rattle.vol_model.specs.Did.{Did}
use Rattle.vol_model.specs.declared.requests.Op.{Op}
use Rattle.vol_model.specs.declared.requests.Op.TheVariants.{Extend}
use Rattle.vol_model.specs.Events.{Item, after_operations, code_of, events_of}
use Rattle.vol_model.specs.Places.{Content, is_end_of_file}
use Rattle.vol_model.specs.Reading.{blocks_from}
use Rattle.vol_model.specs.Calls.{Keeps}
use Rattle.vol_model.specs.Runs.{Counts, RunCall, Runs}
use Rattle.vol_model.specs.Shelf.{blocks_of}
use Rattle.util_steps.specs.declared.calls.Fault.{Fault}
use Rattle.util_steps.specs.declared.calls.Fault.TheVariants.{BadRecord, Refused}
use Rattle.util_steps.specs.declared.calls.SetRef.{SetRef}
use Rattle.util_steps.specs.Copying.{behind_place, has_data, source}
use Rattle.util_steps.specs.Taking.{Takes}
use Rattle.record_files.specs.Advancing.{put_place}
use Rattle.iebcopy_util.specs.declared.copying.OutputState.{OutputState}
use Rattle.iebcopy_util.specs.declared.members.Ending.{Ending}
use Rattle.iebcopy_util.specs.declared.tasks.MemberCopy.{MemberCopy}
use Rattle.iebcopy_util.specs.declared.walking.Walk.{Walk}
use Rattle.iebcopy_util.specs.Copying.{output_state}
use Rattle.iebcopy_util.specs.Items.{Course}
use Rattle.vol_model.specs.Writing.{OpenWriter, body_on, with_puts}

-- ---- want of memory

-- an extension, after which a writing isn't done yet
abbrev pub is_extension : Op → Bool
is_extension (Extend v dsn) = true
is_extension _ = false

-- the last of operations is no extension
abbrev pub IsClosed : List Op → Type 0
IsClosed [] = Unit {0}
IsClosed (op ∷ []) = is_extension op ≡ false
IsClosed (op ∷ next ∷ ops) = IsClosed (next ∷ ops)

-- Some first operations were done, and no writing in part: its extensions are done with its blocks.
pub record HasPart (ops : List Op) (old new : Shelf) : Type 0 where
  pub done : List Op
  pub left : List Op
  pub whole : ops ≡ done ++ left
  pub state : new ≡ after_operations old done
  pub closed : IsClosed done

-- A run in items ended in one of them with no writing done in part, or at the end of one, where its writing is done or refused.
abbrev pub EndsWhole : List Item → Shelf → Shelf → Type 0
EndsWhole [] old new = new ≡ old
EndsWhole (item ∷ items) old new = HasPart item.operations old new ⊎ EndsWhole items (after_operations old item.operations) new

-- Steps are taken; where memory runs out on a roomy machine, no writing is done in part.
pub record TakesWhole {X A E : Type 0} (g : Ghosts X) (did : Shelf → Did A E) (old new : X) (result : Result (Result A E) Stop) : Type 0 where
  pub takes : Takes g did old new result
  pub whole : IsTrue g.tells → IsTrue g.roomy → IsErrOf result Memory → HasPart (did (g.meaning old).state).operations (g.meaning old).state (g.meaning new).state

-- ---- items

-- Items are done one after another, and what is answered has `Answers`; where memory ran out on a roomy machine, no writing is done in part.
pub record DoesItems {T : Type 0} (tells roomy : Bool) (items : List Item) (Answers : T → Type 0) (old new : Meaning Shelf) (n m : ℕ) (result : Result T Stop) : Type 0 where
  pub runs : Runs tells (events_of items) old new result
  pub answer : IfOk result Answers
  pub count : Counts (events_of items) n m result
  pub memory : IsTrue roomy → IsErrOf result Memory → EndsWhole items old.state new.state

-- So they are on a machine; the promises are kept, and it is ready again but after a fault.
pub record RunsWhole {X T : Type 0} (g : Ghosts X) (items : Shelf → List Item) (Answers : Shelf → T → Type 0) (old new : X) (result : Result T Stop) : Type 0 where
  pub does : IsTrue g.tells → DoesItems g.tells_prints g.roomy (items (g.meaning old).state) (Answers (g.meaning old).state) (g.meaning old) (g.meaning new) (g.status old).done (g.status new).done result
  pub promise : IsTrue g.tells → Keeps (g.meaning old).clock (g.promise old) (g.promise new)
  pub faults : RunCall false (g.status old) (g.status new) result

-- and their highest code is answered
abbrev pub RunsCoded : {X : Type 0} → Ghosts X → (Shelf → List Item) → X → X → Result ℕ Stop → Type 0
RunsCoded g items old new result = RunsWhole g items (λ shelf code. code ≡ code_of (items shelf)) old new result

-- the highest code of items, and whether more of their kind follow
abbrev pub EndsCourse : Course → Ending → Type 0
EndsCourse course ending = (ending.code ≡ code_of course.items) × (ending.goes_on ≡ course.goes_on)

-- and these are answered
abbrev pub RunsCourse : {X : Type 0} → Ghosts X → (Shelf → Course) → X → X → Result Ending Stop → Type 0
RunsCourse g course old new result = RunsWhole g (λ shelf. (course shelf).items) (λ shelf. EndsCourse (course shelf)) old new result

-- ---- the output

-- a library can be read
abbrev pub IsRead : Shelf → SetRef → Type 0
IsRead shelf s = source shelf s ≡ Ok (blocks_of (body_on shelf s.v s.dsn.bytes))

-- an output is found as a library, with what is looked for, or refused
abbrev pub ProbesOutput : Result OutputState Fault → MemberCopy → Result DataSet Refusal → Type 0
ProbesOutput (Ok found) t library = (x : DataSet) × (library ≡ Ok x) × (found ≡ output_state t x)
ProbesOutput (Err (Refused r)) t library = library ≡ Err r
ProbesOutput (Err BadRecord) t library = ⊥

-- ---- blocks

-- What is answered of the blocks of a library, or that it can't be read.
pub record Tells {A : Type 0} (input : Result (List Block) ℕ) (Holds : List Block → Result A Fault → Type 0) (answer : Result A Fault) : Type 0 where
  pub blocks : (bs : List Block) → input ≡ Ok bs → Holds bs answer
  pub unreadable : (track : ℕ) → input ≡ Err track → answer ≡ Err (Refused (Unreadable track))

-- the places of the blocks of a member are answered, and whether each has data
abbrev pub HasWalked : List Block → Result Walk Fault → Type 0
HasWalked member answer = (walk : Walk) × (answer ≡ Ok walk) × (walk.places.items ≡ map (λ (b : Block). b.place) member) × (walk.has_data ≡ list_all has_data member)

-- the first block at or after each of these places of a library, if that can be read
abbrev pub blocks_at : Result (List Block) ℕ → List Place → List Block
blocks_at (Ok bs) ps = flat_map (λ (p : Place). take 1 (blocks_from p bs)) ps
blocks_at (Err track) ps = []

-- A library can be read, and a block of it stands at each of these places.
pub record HasBlocks (input : Result (List Block) ℕ) (ps : List Place) : Type 0 where
  pub all : List Block
  pub read : input ≡ Ok all
  pub at : AllByRecursion (λ (p : Place). (b : Block) × (rest : List Block) × (blocks_from p all ≡ b ∷ rest) × (b.place ≡ p)) ps

-- each of these blocks is found at its place among others
abbrev pub AreFound : List Block → List Block → Type 0
AreFound bs found = AllByRecursion (λ (b : Block). (rest : List Block) × (blocks_from b.place bs ≡ b ∷ rest)) found

-- the places of contents that are put one after another
abbrev pub put_places : Shelf → OpenWriter → List Content → List Place
put_places shelf w [] = []
put_places shelf w (c ∷ cs) = put_place shelf w c ∷ put_places shelf (with_puts w (c ∷ [])) cs

-- of the blocks of a member that are left the first is taken, and the place after it is answered; none at the member's end
abbrev pub TakesBlock : Result (Option Place) Fault → List Block → Walk → Walk → Type 0
TakesBlock (Ok (Some next)) left old new = (b : Block) × (rest : List Block) × (left ≡ b ∷ rest) × (is_end_of_file b ≡ false) × (next ≡ behind_place b.place) × (new.places.items ≡ old.places.items ++ b.place ∷ []) × (new.has_data ≡ (old.has_data && has_data b))
TakesBlock (Ok None) left old new = (new ≡ old) × ((left ≡ []) ⊎ ((b : Block) × (rest : List Block) × (left ≡ b ∷ rest) × (is_end_of_file b ≡ true)))
TakesBlock (Err r) left old new = ⊥
