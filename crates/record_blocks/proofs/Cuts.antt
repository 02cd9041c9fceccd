-- The blocks of a packing are its cut.
use Rattle.std.proofs.Common.{◌≡◌, ◌∙◌, ◌↔◌, ap, ap₂, sym, refl, subst, ℕ, ◌+◌, ◌≤◌, Bool, true, false, List, [], ◌∷◌, ◌++◌, length, Some, None, arith, append_assoc, length-append}
use Rattle.std.specs.Prelude.{◌&&◌, nat_le}
use Rattle.std.proofs.lemmas.Bool.Decides.{nat_tests}
use Rattle.std.proofs.lemmas.List.{append-nil}
use Rattle.record_blocks.specs.declared.formats.Format.{Format}
use Rattle.record_blocks.specs.Formats.{is_blocked, base_of, first_fault}
use Rattle.record_blocks.specs.Packing.{room, needed, is_spanned, piece_of, block_of, joins, unspanned_blocks}
use Rattle.record_blocks.proofs.Bounds.{bounds, piece-fits}
use Rattle.record_blocks.specs.Cut.{pieces_of, all_records, IsRecordBlock, AreRecordBlocks, takes_first, LeaveNoRoom, IsCut, IsCutPacking, AllShort, blocks_of}
use Rattle.record_blocks.specs.Layout.{packing}

-- the pieces of a list and one more
pieces-more : (format : Format) (recs : List (List ℕ)) (rec : List ℕ) → pieces_of format (recs ++ rec ∷ []) ≡ pieces_of format recs ++ piece_of format rec
pieces-more format [] rec = append-nil (piece_of format rec)
pieces-more format (r ∷ rs) rec = ap (λ xs. piece_of format r ++ xs) (pieces-more format rs rec) ∙ sym (append_assoc (piece_of format r) (pieces_of format rs) (piece_of format rec))

-- an open block and its further records: the rest of the cut after it
record Goes (format : Format) (start : List (List ℕ)) (recs : List (List ℕ)) : Type 0 where
  block : List (List ℕ)
  others : List (List (List ℕ))
  more : List (List ℕ)
  begins : block ≡ start ++ more
  holds : block ++ all_records others ≡ start ++ recs
  filled : AreRecordBlocks format (block ∷ others)
  full : LeaveNoRoom format (block ∷ others)
  makes : unspanned_blocks format (Some (pieces_of format start)) recs ≡ blocks_of format (block ∷ others)

-- each record has a piece that fits a block
abbrev pub AllFit : Format → List (List ℕ) → Type 0
AllFit format [] = Unit {0}
AllFit format (rec ∷ recs) = (length (piece_of format rec) ≤ room format) × AllFit format recs

all-fit : (format : Format) (recs : List (List ℕ)) → is_spanned format ≡ false → first_fault format ≡ None → AllShort format recs → AllFit format recs
all-fit format [] e f h = tt
all-fit format (rec ∷ recs) e f h =
    let b = bounds format f in
    let fits : length (piece_of format rec) ≤ needed format = piece-fits (base_of format) format rec e b.least h.0 in
    let roomy : needed format ≤ room format = b.roomy in
    (omega arith, all-fit format recs e f h.1)

-- a record in a block of its own
one-fits : (format : Format) (rec : List ℕ) → length (piece_of format rec) ≤ room format → length (pieces_of format (rec ∷ [])) ≤ room format
one-fits format rec h = rw append-nil h

-- what it says that a block takes a piece
joins-is : (blocked : Bool) (total used size : ℕ) → blocked && nat_le (used + size) total ≡ true → (blocked ≡ true) × (used + size ≤ total)
joins-is true total used size e = (refl, grind (arith, nat_tests))
joins-is false total used size e = cc

joins-so : (blocked : Bool) (total used size : ℕ) → blocked ≡ true → used + size ≤ total → blocked && nat_le (used + size) total ≡ true
joins-so true total used size e h = grind (arith, nat_tests)
joins-so false total used size e h = cc

-- the pieces of two lists
pieces-append : (format : Format) (xs ys : List (List ℕ)) → pieces_of format (xs ++ ys) ≡ pieces_of format xs ++ pieces_of format ys
pieces-append format [] ys = refl
pieces-append format (x ∷ xs) ys = ap (λ zs. piece_of format x ++ zs) (pieces-append format xs ys) ∙ sym (append_assoc (piece_of format x) (pieces_of format xs) (pieces_of format ys))

filled-more : (format : Format) (start : List (List ℕ)) (rec : List ℕ) → IsRecordBlock format start → joins format (pieces_of format start) (length (piece_of format rec)) ≡ true → IsRecordBlock format (start ++ rec ∷ [])
filled-more format [] rec h e = absurd h
filled-more format (r ∷ []) rec h e =
    let j = joins-is (is_blocked format) (room format) (length (pieces_of format (r ∷ []))) (length (piece_of format rec)) e in
    (j.0, rw (pieces-more format (r ∷ []) rec, length-append) j.1)
filled-more format (r ∷ n ∷ rs) rec h e =
    let j = joins-is (is_blocked format) (room format) (length (pieces_of format (r ∷ n ∷ rs))) (length (piece_of format rec)) e in
    (j.0, rw (pieces-more format (r ∷ n ∷ rs) rec, length-append) j.1)

cut-step : (format : Format) (start : List (List ℕ)) (rec : List ℕ) (recs : List (List ℕ)) → IsRecordBlock format start → (v : Bool) → joins format (pieces_of format start) (length (piece_of format rec)) ≡ v
    → (IsRecordBlock format (start ++ rec ∷ []) → Goes format (start ++ rec ∷ []) recs) → Goes format (rec ∷ []) recs → Goes format start (rec ∷ recs)
unfolding unspanned_blocks
cut-step format start rec recs h true e behind one =
    let more = behind (filled-more format start rec h e) in
    record {
      block = more.block;
      others = more.others;
      more = rec ∷ more.more;
      begins = more.begins ∙ append_assoc start (rec ∷ []) more.more;
      holds = more.holds ∙ append_assoc start (rec ∷ []) recs;
      filled = more.filled;
      full = more.full;
      makes = rw e (ap (λ xs. unspanned_blocks format (Some xs) recs) (sym (pieces-more format start rec)) ∙ more.makes);
    }
cut-step format start rec recs h false e behind one = record {
  block = start;
  others = one.block ∷ one.others;
  more = [];
  begins = sym (append-nil start);
  holds = ap (λ xs. start ++ xs) one.holds;
  filled = (h, one.filled);
  full = (subst (λ b. takes_first format start b ≡ false) (sym one.begins) e, one.full);
  makes = rw e (ap (λ xs. block_of format (pieces_of format start) ∷ xs) (ap (λ xs. unspanned_blocks format (Some xs) recs) (sym (append-nil (piece_of format rec))) ∙ one.makes));
}

cut-behind : (format : Format) (start recs : List (List ℕ)) → IsRecordBlock format start → AllFit format recs → Goes format start recs
unfolding unspanned_blocks
cut-behind format start [] h a = record { block = start; others = []; more = []; begins = sym (append-nil start); holds = refl; filled = (h, tt); full = tt; makes = refl }
cut-behind format start (rec ∷ recs) h a =
    cut-step format start rec recs h (joins format (pieces_of format start) (length (piece_of format rec))) refl
    (λ more. cut-behind format (start ++ rec ∷ []) recs more a.1)
    (cut-behind format (rec ∷ []) recs (one-fits format rec a.0) a.1)

-- the blocks of records are their cut
pub cut : (format : Format) (recs : List (List ℕ)) → is_spanned format ≡ false → first_fault format ≡ None → AllShort format recs → (cut : List (List (List ℕ))) × IsCut format recs cut × (unspanned_blocks format None recs ≡ blocks_of format cut)
unfolding unspanned_blocks
cut format [] e f a = ([], record { holds = refl; filled = tt; full = tt }, refl)
cut format (rec ∷ recs) e f a =
    let fit = all-fit format (rec ∷ recs) e f a in
    let goes = cut-behind format (rec ∷ []) recs (one-fits format rec fit.0) fit.1 in
    (goes.block ∷ goes.others, record { holds = goes.holds; filled = goes.filled; full = goes.full }, ap (λ xs. unspanned_blocks format (Some xs) recs) (sym (append-nil (piece_of format rec))) ∙ goes.makes)

-- what a cut says of the next record of its first block
more-joins : (format : Format) (start : List (List ℕ)) (rec : List ℕ) (more : List (List ℕ)) → IsRecordBlock format start → IsRecordBlock format (start ++ rec ∷ more) → joins format (pieces_of format start) (length (piece_of format rec)) ≡ true
more-joins format [] rec more s h = absurd s
more-joins format (r ∷ []) rec more s h =
    let fits : length (pieces_of format (r ∷ [])) + length (piece_of format rec) ≤ room format = rw append-nil (omega (arith, h.1, length-append (piece_of format r) (pieces_of format (rec ∷ more)), length-append (piece_of format rec) (pieces_of format more))) in
    joins-so (is_blocked format) (room format) (length (pieces_of format (r ∷ []))) (length (piece_of format rec)) h.0 fits
more-joins format (r ∷ n ∷ rs) rec more s h =
    let all : pieces_of format ((r ∷ n ∷ rs) ++ rec ∷ more) ≡ pieces_of format (r ∷ n ∷ rs) ++ pieces_of format (rec ∷ more) = pieces-append format (r ∷ n ∷ rs) (rec ∷ more) in
    let fits : length (pieces_of format (r ∷ n ∷ rs)) + length (piece_of format rec) ≤ room format = omega (arith, h.1, ap length all, length-append (pieces_of format (r ∷ n ∷ rs)) (pieces_of format (rec ∷ more)), length-append (piece_of format rec) (pieces_of format more)) in
    joins-so (is_blocked format) (room format) (length (pieces_of format (r ∷ n ∷ rs))) (length (piece_of format rec)) h.0 fits

-- the front of a block that fits fits
front-filled : (format : Format) (start : List (List ℕ)) (rec : List ℕ) (more : List (List ℕ)) → IsRecordBlock format start → IsRecordBlock format (start ++ rec ∷ more) → IsRecordBlock format (start ++ rec ∷ [])
front-filled format start rec more s h = filled-more format start rec s (more-joins format start rec more s h)

one-filled : (format : Format) (rec : List ℕ) (more : List (List ℕ)) → IsRecordBlock format (rec ∷ more) → IsRecordBlock format (rec ∷ [])
one-filled format rec [] h = h
one-filled format rec (n ∷ more) h = rw append-nil (omega (arith, h.1, length-append (piece_of format rec) (pieces_of format (n ∷ more))))

-- the packing follows a cut
pub follows : (format : Format) (start more : List (List ℕ)) (others : List (List (List ℕ))) → IsRecordBlock format start → AreRecordBlocks format ((start ++ more) ∷ others) → LeaveNoRoom format ((start ++ more) ∷ others)
    → unspanned_blocks format (Some (pieces_of format start)) (more ++ all_records others) ≡ blocks_of format ((start ++ more) ∷ others)
unfolding unspanned_blocks
follows format start [] [] s h f = ap (λ xs. block_of format (pieces_of format xs) ∷ []) (sym (append-nil start))
follows format start [] ([] ∷ bs) s h f = absurd h.1.0
follows format start [] ((rec ∷ recs) ∷ bs) s h f =
    let start_is : start ++ [] ≡ start = append-nil start in
    let none : joins format (pieces_of format start) (length (piece_of format rec)) ≡ false = subst (λ b. takes_first format b (rec ∷ recs) ≡ false) start_is f.0 in
    let others = follows format (rec ∷ []) recs bs (one-filled format rec recs h.1.0) h.1 f.1 in
    rw none (ap₂ (λ b xs. block_of format (pieces_of format b) ∷ xs) (sym start_is) (ap (λ xs. unspanned_blocks format (Some xs) (recs ++ all_records bs)) (sym (append-nil (piece_of format rec))) ∙ others))
follows format start (rec ∷ more) others s h f =
    let some = more-joins format start rec more s h.0 in
    let regroup : (start ++ rec ∷ []) ++ more ≡ start ++ rec ∷ more = append_assoc start (rec ∷ []) more in
    let deeper = follows format (start ++ rec ∷ []) more others (front-filled format start rec more s h.0)
    (subst (λ b. AreRecordBlocks format (b ∷ others)) (sym regroup) h) (subst (λ b. LeaveNoRoom format (b ∷ others)) (sym regroup) f) in
    rw some (ap (λ xs. unspanned_blocks format (Some xs) (more ++ all_records others)) (sym (pieces-more format start rec)) ∙ deeper ∙ ap (λ b. blocks_of format (b ∷ others)) regroup)

-- and so there is one at most
cut-is : (format : Format) (cut : List (List (List ℕ))) → AreRecordBlocks format cut → LeaveNoRoom format cut → unspanned_blocks format None (all_records cut) ≡ blocks_of format cut
unfolding unspanned_blocks
cut-is format [] h f = refl
cut-is format ([] ∷ bs) h f = absurd h.0
cut-is format ((rec ∷ recs) ∷ bs) h f =
    ap (λ xs. unspanned_blocks format (Some xs) (recs ++ all_records bs)) (sym (append-nil (piece_of format rec))) ∙ follows format (rec ∷ []) recs bs (one-filled format rec recs h.0) h f

pub cut-exact : (format : Format) (records blocks : List (List ℕ)) → is_spanned format ≡ false → first_fault format ≡ None → AllShort format records → (blocks ≡ packing format records) ↔ IsCutPacking format records blocks
cut-exact format records blocks e f a =
    let c = cut format records e f a in
    let is : packing format records ≡ unspanned_blocks format None records = rw e refl in (
      (λ h. record { cut = c.0; are = c.1; bytes = h ∙ is ∙ c.2 }),
      (λ p. let are = p.are in p.bytes ∙ sym (cut-is format p.cut are.filled are.full) ∙ ap (λ rs. unspanned_blocks format None rs) are.holds ∙ sym is),
    )
