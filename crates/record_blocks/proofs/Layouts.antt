-- The packing into VS or VBS blocks is the one that the records have.
use Rattle.std.proofs.Common.{◌≡◌, ◌∙◌, refl, ℕ, ◌+◌, true, List, [], ◌∷◌, ◌++◌, length, None, arith}
use Rattle.std.specs.List.{AllByRecursion}
use Rattle.record_blocks.specs.declared.formats.Format.{Format}
use Rattle.record_blocks.specs.declared.formats.Base.TheVariants.{Variable}
use Rattle.record_blocks.specs.Formats.{first_fault}
use Rattle.record_blocks.specs.Blocks.{Segment, body_of}
use Rattle.record_blocks.specs.Segments.{AreCodes, AreRestOf, AreSegmentsOf, AreRecords}
use Rattle.record_blocks.specs.Segments.AreRestOf.{last, middle}
use Rattle.record_blocks.specs.Segments.AreSegmentsOf.{whole, parted}
use Rattle.record_blocks.specs.Segments.AreRecords.{empty, more}
use Rattle.record_blocks.specs.Packing.{room, longest, is_spanned}
use Rattle.record_blocks.specs.Cut.{AllShort}
use Rattle.record_blocks.specs.Spanning.{spanned_blocks}
use Rattle.record_blocks.specs.Layout.{all_segments, HasByte, AreSpannedBlocks, IsSpannedLayout, spanned_bytes}
use Rattle.record_blocks.proofs.Bounds.{bounds}
use Rattle.record_blocks.proofs.Joins.{joins-exact, records-join}
use Rattle.record_blocks.proofs.Heads.{Continues}
use Rattle.record_blocks.proofs.Unique.{same, left_of}
use Rattle.record_blocks.proofs.Spread.{spread-begins}
use Rattle.record_blocks.proofs.Made.{made-none, made-recs, left-all, Spans, close, full-at}

rest-codes : {front : List Segment} {rest : List ℕ} (others : List Segment) → AreRestOf front rest → AreCodes others → AreCodes (front ++ others)
rest-codes others (last bytes) h = (omega arith, h)
rest-codes others (middle bytes os rest r) h = (omega arith, rest-codes others r h)

segments-codes : {front : List Segment} {rec : List ℕ} (others : List Segment) → AreSegmentsOf front rec → AreCodes others → AreCodes (front ++ others)
segments-codes others (whole bytes) h = (omega arith, h)
segments-codes others (parted bytes os rest r) h = (omega arith, rest-codes others r h)

-- segments that are those of records have lawful codes
pub records-codes : (most : ℕ) {segments : List Segment} {recs : List (List ℕ)} → AreRecords most segments recs → AreCodes segments
records-codes most empty = tt
records-codes most (more front others rec recs s h r) = segments-codes others s (records-codes most r)

both-bytes : (xs ys : List Segment) → AllByRecursion HasByte xs → AllByRecursion HasByte ys → AllByRecursion HasByte (xs ++ ys)
both-bytes [] ys h k = k
both-bytes (x ∷ xs) ys h k = (h.0, both-bytes xs ys h.1 k)

all-bytes : (format : Format) (layout : List (List Segment)) → AreSpannedBlocks format layout → AllByRecursion HasByte (all_segments layout)
all-bytes format [] h = tt
all-bytes format (b ∷ bs) h = let block = h.0 in both-bytes b (all_segments bs) block.bytes (all-bytes format bs h.1)

-- after a full block, a packing goes on to its first block
of-layout : (format : Format) (recs : List (List ℕ)) (layout : List (List Segment)) → IsSpannedLayout format recs layout → Continues format (room format) true None [] layout recs
of-layout format recs layout l =
    let none : room format + length (body_of Variable []) ≡ room format = omega arith in
    record {
      joins = records-join (longest format) l.joins;
      codes = records-codes (longest format) l.joins;
      bytes = all-bytes format layout l.blocks;
      many = refl;
      fits = omega arith;
      fills = tt;
      full = full-at format (room format + length (body_of Variable [])) layout none;
      behind = l.blocks;
    }

-- and a layout that goes on so is a packing
to-layout : (format : Format) (used : ℕ) (layout : List (List Segment)) (recs : List (List ℕ)) → Continues format used true None [] layout recs → IsSpannedLayout format recs layout
to-layout format used layout recs c = record { joins = (joins-exact (longest format) (all_segments layout) recs c.codes).0 c.joins; blocks = c.behind }

-- there is one packing at most
pub one-layout : (format : Format) (recs : List (List ℕ)) (a b : List (List Segment)) → IsSpannedLayout format recs a → IsSpannedLayout format recs b → a ≡ b
one-layout format recs a b h k = (same (left_of [] a) format (room format) true None [] [] a b recs (omega arith) (of-layout format recs a h) (of-layout format recs b k)).1

pub spans : (format : Format) → is_spanned format ≡ true → first_fault format ≡ None → Spans format
spans format e f = record { spanned = e; roomy = (bounds format f).roomy }

-- the packing that the blocks spell
pub record HasLayout (format : Format) (recs : List (List ℕ)) : Type 0 where
  pub layout : List (List Segment)
  pub are : IsSpannedLayout format recs layout
  pub bytes : spanned_blocks format None recs ≡ spanned_bytes format layout

pub has-layout : (format : Format) (recs : List (List ℕ)) → is_spanned format ≡ true → first_fault format ≡ None → AllShort format recs → HasLayout format recs
unfolding spanned_blocks
has-layout format [] e f a = record { layout = []; are = record { joins = empty; blocks = tt }; bytes = refl }
has-layout format (rec ∷ recs) e f a =
    let s = spans format e f in
    let m = made-none (length rec) format None 0 rec recs s (left-all format rec a.0) (made-recs format recs s a.1) (omega arith) in
    let all = close format (room format) None m.made.more m.made.others (rec ∷ recs) (omega arith) (full-at format (room format) (m.made.more ∷ m.made.others) refl) m.made.goes in
    record {
      layout = m.made.more ∷ m.made.others;
      are = to-layout format (room format) (m.made.more ∷ m.made.others) (rec ∷ recs) all;
      bytes = spread-begins format None rec recs ∙ m.made.makes;
    }
