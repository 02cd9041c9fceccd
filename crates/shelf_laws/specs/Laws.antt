-- What it means that operations keep a lawful shelf lawful, and an open writer ready.
use Rattle.std.specs.Prelude.{◌≡◌, ℕ, List, [], ◌∷◌, Ok, IfOk, take}
use Rattle.vol_model.specs.declared.contents.Shelf.{Shelf}
use Rattle.vol_model.specs.declared.requests.Op.{Op}
use Rattle.vol_model.specs.Events.{after_operations}
use Rattle.vol_model.specs.Lawful.{IsLawful}
use Rattle.vol_model.specs.Places.{Content}
use Rattle.vol_model.specs.Shelf.{step}
use Rattle.vol_model.specs.Writing.{OpenWriter, did_put, with_puts}
use Rattle.shelf_laws.specs.Ready.{IsContent, IsReady}

-- a lawful shelf is lawful after an operation that isn't refused
abbrev pub KeepsLawful : Op → Type 0
KeepsLawful op = (before after : Shelf) → IsLawful before → step before op ≡ Ok after → IsLawful after

-- a shelf is lawful after each of some operations, and in front of them
abbrev pub StaysLawful : Shelf → List Op → Type 0
StaysLawful shelf ops = (k : ℕ) → IsLawful (after_operations shelf (take k ops))

-- a writer is ready after each of them, and in front of them
abbrev pub StaysReady : Shelf → OpenWriter → List Op → Type 0
StaysReady shelf w ops = (k : ℕ) → IsReady (after_operations shelf (take k ops)) w

-- a writer may put a content: the shelf is lawful and the writer ready
abbrev pub MayPut : Shelf → OpenWriter → Content → Type 0
MayPut shelf w c = IsLawful shelf × IsReady shelf w × IsContent c

-- where the put is done, the writer is ready with the content among those that were put
abbrev pub RecordsPut : Shelf → OpenWriter → Content → Type 0
RecordsPut shelf w c = let did = did_put shelf w c in IfOk did.answer (λ p. IsReady (after_operations shelf did.operations) (with_puts w (c ∷ [])))
