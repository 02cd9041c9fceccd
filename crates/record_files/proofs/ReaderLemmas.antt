-- What a reader of blocks still gives.
use Rattle.std.proofs.Common.{◌≡◌, ◌≤◌, ◌<◌, ◌+◌, ◌-◌, ◌&&◌, ℕ, zero, suc, Bool, true, false, List, [], ◌∷◌, length, drop, refl, sym, ◌∙◌, ap, subst, arith}
use Rattle.std.proofs.lemmas.List.{length-drop}
use Rattle.std.specs.Prelude.{if◌then◌else◌, is_some, unwrap_or, Option, Some, None, Result, Ok, Err}
use Rattle.record_blocks.specs.declared.formats.Format.{Format}
use Rattle.record_blocks.specs.declared.joiner.Joiner.{Joiner}
use Rattle.record_blocks.specs.declared.marks.BlockMark.{BlockMark}
use Rattle.record_blocks.specs.declared.pieces.BlockErr.{BlockErr}
use Rattle.record_blocks.specs.declared.pieces.BlockErr.TheVariants.{BadDescriptor, ShortBlock}
use Rattle.record_blocks.specs.Blocks.{Segment}
use Rattle.record_blocks.specs.Marks.{reading_behind}
use Rattle.record_blocks.specs.Reading.{Reading, empty_reading, failed_reading, fault, first, has_block_descriptor, is_full, read_from, read_on, reading, reading_at, size, start, with_segment}
use Rattle.vol_model.specs.declared.contents.Block.{Block}
use Rattle.vol_model.specs.declared.contents.Place.{Place}
use Rattle.vol_model.specs.declared.contents.Shelf.{Shelf}
use Rattle.vol_model.specs.Places.{is_end_of_file}
use Rattle.vol_model.specs.Reading.{blocks_from}
use Rattle.vol_model.proofs.Keeping.{AreBlocks}
use Rattle.vol_model.specs.declared.refusals.Refusal.TheVariants.{Unreadable}
use Rattle.util_steps.specs.declared.calls.Fault.{Fault}
use Rattle.util_steps.specs.declared.calls.Fault.TheVariants.{Refused}
use Rattle.util_steps.specs.declared.calls.SetRef.{SetRef}
use Rattle.util_steps.specs.Steps.{Finds}
use Rattle.util_steps.specs.Copying.{behind_place, source}
use Rattle.record_files.specs.declared.block_records.BlockRecords.{BlockRecords}
use Rattle.record_files.specs.declared.taken.Step.{Step}
use Rattle.record_files.specs.declared.taken.Step.TheVariants as steps
use Rattle.record_files.specs.Joined.{StepGives, records_left, then_blocks}
use Rattle.record_files.specs.Reader.{HasTaken, behind_block, block_left, block_stream, blocks_left, in_block, most_left, places_left}
use Rattle.record_files.specs.Members.{blocks_at}
use Rattle.record_files.specs.Reading.{blocks_reading, records_read, set_records}
use Rattle.record_files.specs.Streams.{Stream, at_fault}
use Rattle.record_files.proofs.BlockLemmas.{left_at_start, left_end, left_none, next_left}
use Rattle.record_files.proofs.SegmentLemmas.{block_breaks, block_ends, block_fault, block_goes_on, fewer_left}

-- the same step between equal records
pub step_as : {a b c d : Stream} (step : Step) (rec : List ℕ) → a ≡ c → b ≡ d → StepGives step c rec d → StepGives step a rec b
step_as {b = b} {c = c} step rec one two gives = subst (λ (x : Stream). StepGives step x rec b) (sym one) (subst (λ (y : Stream). StepGives step c rec y) (sym two) gives)

-- ---- the block that is read

pub at_mark : (r : BlockRecords) (m : BlockMark) → r.mark ≡ Some m → in_block r ≡ reading_behind r.format r.buf.payload m
at_mark r m is = ap (block_left r.format r.buf.payload) is

pub at_none : (r : BlockRecords) → r.mark ≡ None → in_block r ≡ empty_reading
at_none r is = ap (block_left r.format r.buf.payload) is

-- a reader that begins gives the records of the blocks that are read
pub begun_stream : (r : BlockRecords) (set : SetRef) (format : Format) (at : Option Place) → r.set ≡ set → r.format ≡ format → r.within ≡ is_some at → r.place ≡ unwrap_or at (record { tt = 0; r = 0 }) → r.mark ≡ None
    → ((x : Reading) → records_left r.joiner x ≡ records_read format x) → (shelf : Shelf) (bs : List Block) → source shelf set ≡ Ok bs → block_stream r shelf ≡ set_records format (blocks_at at bs)
unfolding block_stream set_records
begun_stream r set format at of_set of_format within place none joins shelf bs is =
    ap (λ (s : SetRef). records_left r.joiner (then_blocks (in_block r) (behind_block r (source shelf s)))) of_set
    ∙ ap (λ (x : Result (List Block) ℕ). records_left r.joiner (then_blocks (in_block r) (behind_block r x))) is
    ∙ ap (λ (x : Reading). records_left r.joiner (then_blocks x (blocks_reading r.format (blocks_left r.within r.place bs)))) (at_none r none)
    ∙ joins (blocks_reading r.format (blocks_left r.within r.place bs))
    ∙ ap (λ (f : Format). records_read format (blocks_reading f (blocks_left r.within r.place bs))) of_format
    ∙ ap (λ (t : Bool). records_read format (blocks_reading format (blocks_left t r.place bs))) within
    ∙ ap (λ (p : Place). records_read format (blocks_reading format (blocks_left (is_some at) p bs))) place
    ∙ ap (λ (l : List Block). records_read format (blocks_reading format l)) (left_at_start at bs)

-- Two readers read one set at one place, and hold the same block.
pub record StandAlike (old new : BlockRecords) : Type 0 where
  pub set : new.set ≡ old.set
  pub within : new.within ≡ old.within
  pub format : new.format ≡ old.format
  pub buf : new.buf ≡ old.buf
  pub place : new.place ≡ old.place

module _ (old new : BlockRecords) (alike : StandAlike old new) where
  -- what stands after the block is the same
  behind_alike : (shelf : Shelf) → behind_block new (source shelf new.set) ≡ behind_block old (source shelf old.set)
  behind_alike shelf = ap (λ (s : SetRef). behind_block new (source shelf s)) alike.set ∙ by_source (source shelf old.set)
    where
      by_source : (x : Result (List Block) ℕ) → behind_block new x ≡ behind_block old x
      by_source (Err track) = refl
      by_source (Ok bs) =
          ap (λ (f : Format). blocks_reading f (blocks_left new.within new.place bs)) alike.format
          ∙ ap (λ (t : Bool). blocks_reading old.format (blocks_left t new.place bs)) alike.within
          ∙ ap (λ (p : Place). blocks_reading old.format (blocks_left old.within p bs)) alike.place

  -- a segment is taken
  module _ (m k : BlockMark) (s : Segment) (step : Step) (was : old.mark ≡ Some m) (now : new.mark ≡ Some k)
      (given : reading_behind old.format old.buf.payload m ≡ with_segment s (reading_behind old.format old.buf.payload k))
      (joins : (r : Reading) → StepGives step (records_left old.joiner (with_segment s r)) new.rec.items (records_left new.joiner r)) where
    abbrev rest : Reading
    rest = reading_behind old.format old.buf.payload k

    left_then : in_block old ≡ with_segment s rest
    left_then = at_mark old m was ∙ given

    left_now : in_block new ≡ rest
    left_now = at_mark new k now ∙ ap (λ (f : Format). reading_behind f new.buf.payload k) alike.format ∙ ap (λ (b : Block). reading_behind old.format b.payload k) alike.buf

    pub segment_taken : HasTaken (Some step) old new
    unfolding block_stream most_left
    segment_taken = (
      λ shelf.
          let others : Reading = behind_block old (source shelf old.set) in
          step_as step new.rec.items (ap (records_left old.joiner) (block_goes_on (in_block old) rest s others left_then))
          (ap (λ (r : Reading). records_left new.joiner (then_blocks r (behind_block new (source shelf new.set)))) left_now ∙ ap (λ (r : Reading). records_left new.joiner (then_blocks rest r)) (behind_alike shelf))
          (joins (then_blocks rest others)),
      λ goes_on. fewer,
    )
      where
        fewer : most_left new < most_left old
        fewer =
            let one = fewer_left (in_block old) rest s left_then in
            let two = ap (λ (r : Reading). length r.segments) left_now in
            let same = ap places_left alike.place in
            omega (arith, one, two, same)

-- a fault of the block
pub segment_broken : (old : BlockRecords) (e : BlockErr) → in_block old ≡ failed_reading e → HasTaken (Some steps.Broken) old old
unfolding block_stream
segment_broken old e is =
    (λ shelf. ap (records_left old.joiner) (block_breaks (in_block old) (behind_block old (source shelf old.set)) e is) ∙ block_fault old.joiner e, λ no. absurd no)

-- ---- the next block

module _ (r : BlockRecords) (empty : in_block r ≡ empty_reading) (shelf : Shelf) where
  pub nothing_in_block : block_stream r shelf ≡ records_left r.joiner (behind_block r (source shelf r.set))
  unfolding block_stream
  nothing_in_block = ap (records_left r.joiner) (block_ends (in_block r) (behind_block r (source shelf r.set)) empty)

  -- a set that can't be read is a fault
  next_unread : (track : ℕ) → source shelf r.set ≡ Err track → block_stream r shelf ≡ at_fault
  next_unread track is = nothing_in_block ∙ ap (λ (x : Result (List Block) ℕ). records_left r.joiner (behind_block r x)) is ∙ block_fault r.joiner (ShortBlock 0)

  pub next_fault : (place : Place) (b : Block) (fault : Fault) → Finds (Err fault) (source shelf r.set) place b → block_stream r shelf ≡ at_fault
  next_fault place b (Refused (Unreadable track)) found = next_unread track found
  next_fault place b _ found = absurd found

  module _ (bs : List Block) (is : source shelf r.set ≡ Ok bs) where
    with_blocks : block_stream r shelf ≡ records_left r.joiner (blocks_reading r.format (blocks_left r.within r.place bs))
    with_blocks = nothing_in_block ∙ ap (λ (x : Result (List Block) ℕ). records_left r.joiner (behind_block r x)) is

    -- there is none
    pub next_none : blocks_from r.place bs ≡ [] → block_stream r shelf ≡ records_left r.joiner empty_reading
    next_none none = with_blocks ∙ ap (λ (l : List Block). records_left r.joiner (blocks_reading r.format l)) (left_none r.within r.place bs none)

    -- it ends the member
    pub next_ends : (b : Block) (rest : List Block) → blocks_from r.place bs ≡ b ∷ rest → (r.within && is_end_of_file b) ≡ true → block_stream r shelf ≡ records_left r.joiner empty_reading
    next_ends b rest found end = with_blocks ∙ ap (λ (l : List Block). records_left r.joiner (blocks_reading r.format l)) (left_end r.within r.place bs b rest found end)

    -- it is read next
    pub next_read : (new : BlockRecords) (b : Block) (rest : List Block) (m : BlockMark) → AreBlocks bs → blocks_from r.place bs ≡ b ∷ rest → (r.within && is_end_of_file b) ≡ false
        → new.set ≡ r.set → new.within ≡ r.within → new.format ≡ r.format → new.joiner ≡ r.joiner → new.buf ≡ b → new.place ≡ behind_place b.place → new.mark ≡ Some m → reading_behind r.format b.payload m ≡ reading r.format b.payload
        → block_stream r shelf ≡ block_stream new shelf
    unfolding block_stream
    next_read new b rest m are found goes_on set within format joiner buf place mark reads =
        let left : in_block new ≡ reading r.format b.payload = at_mark new m mark ∙ ap (λ (f : Format). reading_behind f new.buf.payload m) format ∙ ap (λ (x : Block). reading_behind r.format x.payload m) buf ∙ reads in
        let others : behind_block new (source shelf new.set) ≡ blocks_reading r.format (blocks_left r.within (behind_place b.place) bs) =
        ap (λ (s : SetRef). behind_block new (source shelf s)) set ∙ ap (behind_block new) is ∙ ap (λ (f : Format). blocks_reading f (blocks_left new.within new.place bs)) format
        ∙ ap (λ (t : Bool). blocks_reading r.format (blocks_left t new.place bs)) within ∙ ap (λ (p : Place). blocks_reading r.format (blocks_left r.within p bs)) place in
        with_blocks ∙ ap (λ (l : List Block). records_left r.joiner (blocks_reading r.format l)) (next_left r.within bs r.place b rest are found goes_on)
        ∙ sym (ap (λ (j : Option Joiner). records_left j (then_blocks (in_block new) (behind_block new (source shelf new.set)))) joiner
        ∙ ap (λ (x : Reading). records_left r.joiner (then_blocks x (behind_block new (source shelf new.set)))) left
        ∙ ap (λ (x : Reading). records_left r.joiner (then_blocks (reading r.format b.payload) x)) others)

-- ---- how many segments a block has at most

read_on_few : (e : BlockErr) (f : Segment → Reading) (o : Option Segment) (n : ℕ) → ((s : Segment) → length (f s).segments ≤ n) → length (read_on e f o).segments ≤ n + 1
read_on_few e f None n few = omega arith
read_on_few e f (Some s) n few = omega (arith, few s)

few_from : (format : Format) (begun : Bool) (at passed : ℕ) (bs : List ℕ) → length (read_from format begun at passed bs).segments ≤ length bs + 1
unfolding read_from
few_from format true at passed [] = omega arith
few_from format false at passed [] = read_on_few (fault format at) (λ s. empty_reading) (first format []) 0 (λ s. omega arith)
few_from format begun at zero (b ∷ bs) = by_full (is_full format begun) (λ s. few_from format true (at + 1) (size format s - 1) bs)
  where
    by_full : (t : Bool) → ((s : Segment) → length (read_from format true (at + 1) (size format s - 1) bs).segments ≤ length bs + 1)
        → length (if t then failed_reading (fault format at) else read_on (fault format at) (λ s. read_from format true (at + 1) (size format s - 1) bs) (first format (b ∷ bs))).segments ≤ length (b ∷ bs) + 1
    by_full true others = omega arith
    by_full false others = let few = read_on_few (fault format at) (λ s. read_from format true (at + 1) (size format s - 1) bs) (first format (b ∷ bs)) (length bs + 1) others in omega (arith, few)
few_from format begun at (suc passed) (b ∷ bs) = omega (arith, few_from format begun (at + 1) passed bs)

pub few_segments : (format : Format) (block : List ℕ) → length (reading format block).segments ≤ length block + 1
unfolding reading_at
few_segments format block = by_test (has_block_descriptor format block)
  where
    by_test : (t : Bool) → length (if t then read_from format false (start format) 0 (drop (start format) block) else failed_reading (BadDescriptor 0)).segments ≤ length block + 1
    by_test true = omega (arith, few_from format false (start format) 0 (drop (start format) block), length-drop (start format) block)
    by_test false = omega arith

-- a further block leaves fewer, whatever it holds
pub fewer_behind : (old new : BlockRecords) (m : BlockMark) → places_left new.place < places_left old.place → new.mark ≡ Some m → reading_behind new.format new.buf.payload m ≡ reading new.format new.buf.payload → length new.buf.payload ≤ 32760 → most_left new < most_left old
unfolding most_left
fewer_behind old new m falls mark reads short =
    let left : in_block new ≡ reading new.format new.buf.payload = at_mark new m mark ∙ reads in
    let few = few_segments new.format new.buf.payload in
    let same = ap (λ (r : Reading). length r.segments) left in
    omega (arith, few, same, falls, short)
