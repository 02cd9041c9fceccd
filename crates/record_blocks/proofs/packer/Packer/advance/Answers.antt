use Rattle.std.proofs.Common.{◌≡◌, ◌∙◌, ap, ap₂, sym, ℕ, ◌+◌, ◌∷◌, ◌++◌, true, false, List, length, drop, Some, None, arith}
use Rattle.std.specs.Prelude.{nat_lt}
use Rattle.std.proofs.lemmas.Grind.{common_steps}
use Rattle.std.proofs.lemmas.List.{drop-drop}
use Rattle.record_blocks.specs.Spanning.{must_close, is_last_at, filling_at, filled_block, segment, spanned_blocks, spanned_rest}
use Rattle.record_blocks.specs.Packer.{open_of, rest_of}
use Rattle.record_blocks.proofs.Spread.{open-ends, open-fills}
use Rattle.record_blocks.proofs.packer.Packer.advance.Goals as goal

pub returns-then-is_last-clause-blocks : goal.returns-then-is_last-clause-blocks
returns-then-is_last-clause-blocks c = λ records.
    let p = c.args.self.now in
    let closes : must_close p.format (open_of p) (rest_of p) ≡ false = sym c.must_close.ensures.closes ∙ c.if-must_close.false in
    let last : is_last_at p.format (length p.body.items) (length (rest_of p)) ≡ true = grind (arith, common_steps, c.is_last.ensures, c.if-is_last.true) in
    let pieces : p.body.items ++ segment (nat_lt 0 p.placed) true (rest_of p) ≡ c.extend_from_slice.new.self.items = grind (arith, common_steps, c.in_ok-extend_from_slice.ensures.items, c.in_ok-piece.ensures) in
    rw (c.requires.spanned, c.requires.waiting) (
    open-ends p.format p.begun p.body.items p.placed (rest_of p) records c.requires.spanned p.roomy p.closed closes last
    ∙ ap (λ xs. spanned_blocks p.format (Some xs) records) pieces)

pub returns-clause-blocks : goal.returns-clause-blocks
returns-clause-blocks c = λ records.
    let p = c.args.self.now in
    let size = filling_at p.format (length p.body.items) in
    let closes : must_close p.format (open_of p) (rest_of p) ≡ false = sym c.must_close.ensures.closes ∙ c.if-must_close.false in
    let last : is_last_at p.format (length p.body.items) (length (rest_of p)) ≡ false = grind (arith, common_steps, c.is_last.ensures, c.if-is_last.false) in
    let count : size ≡ c.filling-size.result = grind (arith, common_steps, c.filling-size.ensures) in
    let out : filled_block p.format (nat_lt 0 p.placed) p.body.items (rest_of p) ≡ c.write_filled_block.new.out.items = grind (arith, common_steps, c.in_ok-write_filled_block.ensures) in
    let tail : drop size (rest_of p) ≡ drop (p.placed + c.filling-size.result) p.pending.items = drop-drop size p.placed p.pending.items ∙ ap (λ n. drop (p.placed + n) p.pending.items) count in
    let P : List ℕ → ℕ → List ℕ → List (List ℕ) = λ block n xs. block ∷ spanned_rest p.format None (p.placed + n) xs records in
    rw (c.requires.spanned, c.requires.waiting) (
    open-fills p.format p.begun p.body.items p.placed (rest_of p) records c.requires.spanned p.roomy p.closed closes (c.must_close.ensures.room c.if-must_close.false) last
    ∙ ap (λ block. P block size (drop size (rest_of p))) out ∙ ap₂ (P c.write_filled_block.new.out.items) count tail)
