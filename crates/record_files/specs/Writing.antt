-- The blocks that are written, and what their writing comes to.
use Rattle.std.specs.Prelude.{ℕ, Bool, if◌then◌else◌, List, [], ◌∷◌, map, Err}
use Rattle.record_blocks.specs.declared.formats.Format.{Format}
use Rattle.record_blocks.specs.Layout.{packing}
use Rattle.record_blocks.specs.Packing.{longest}
use Rattle.vol_model.specs.declared.answers.Mode.{Mode}
use Rattle.vol_model.specs.declared.answers.Mode.TheVariants as modes
use Rattle.vol_model.specs.declared.contents.Attr.{Attr}
use Rattle.vol_model.specs.declared.contents.Block.{Block}
use Rattle.vol_model.specs.declared.contents.Shelf.{Shelf}
use Rattle.vol_model.specs.declared.requests.Op.TheVariants.{Empty}
use Rattle.vol_model.specs.Did.{Did, and_then, answered}
use Rattle.vol_model.specs.Writing.{OpenWriter, Target, begun, did_apply, did_begin}
use Rattle.util_steps.specs.declared.calls.Fault.{Fault}
use Rattle.util_steps.specs.declared.calls.Fault.TheVariants.{BadRecord}
use Rattle.util_steps.specs.declared.calls.SetRef.{SetRef}
use Rattle.util_steps.specs.Copying.{did_all, did_blocks, refusing, target}
use Rattle.record_files.specs.Streams.{Stream, fitting}

-- Blocks that are to be put one after another, and whether a fault ends them.
pub record Coming : Type 0 where
  pub blocks : List Block
  pub broken : Bool

-- a block with these data, without a key; its place follows from the set
abbrev pub data_block : List ℕ → Block
data_block bytes = record { place = record { tt = 0; r = 0 }; key = []; payload = bytes }

-- blocks with these data, and whether a fault follows
abbrev pub coming_of : List (List ℕ) → Bool → Coming
coming_of blocks broken = record { blocks = map data_block blocks; broken = broken }

abbrev pub all_but_last : List Block → List Block
all_but_last [] = []
all_but_last (b ∷ []) = []
all_but_last (b ∷ c ∷ bs) = b ∷ all_but_last (c ∷ bs)

-- the blocks of records in front of the first that is too long
unfoldable pub packed : Format → Stream → Coming
packed format st = let fit = fitting (longest format) st.broken st.records in coming_of (packing format fit.records) fit.broken

-- Blocks are put by a writer. Where a fault ends them the last block isn't finished, and the fault comes after the others.
unfoldable pub did_output : Shelf → OpenWriter → Coming → Did (Unit {0}) Fault
did_output shelf w c =
    if c.broken then and_then shelf (did_blocks shelf w (all_but_last c.blocks)) (λ x u. answered (Err BadRecord)) else did_blocks shelf w c.blocks

-- Blocks are written to a set as a whole. Where a fault ends them, nothing is but the extensions for those that are finished.
unfoldable pub written : Shelf → Target → Coming → Did (Unit {0}) Fault
written shelf t c =
    if c.broken then and_then shelf (did_blocks shelf (begun t) (all_but_last c.blocks)) (λ x u. answered (Err BadRecord)) else did_all shelf t c.blocks

-- blocks are written after those of a set, to a sequential one or as a member's, if it can be written to
unfoldable pub appended : Shelf → SetRef → Mode → Coming → Did (Unit {0}) Fault
appended shelf to mode c = and_then shelf (refusing (did_begin shelf (target to mode))) (λ x u. written u (target to mode) c)

-- a sequential set is emptied before
unfoldable pub rewritten : Shelf → SetRef → Attr → Coming → Did (Unit {0}) Fault
rewritten shelf to attr c = and_then shelf (refusing (did_apply shelf (Empty to.v to.dsn attr))) (λ x u. appended u to modes.Fill c)
