use Rattle.std.proofs.Common.{◌+◌, ◌∙◌, [], take, drop, get_or, map, length, sym, ap, arith, List, ℕ, Bor}
use Rattle.std.specs.List.{concat}
use Rattle.std.proofs.lemmas.List.{length-take-le, take_all}
use Rattle.dscb_codec.proofs.Parts.{split_at, room, placed, written}
use Rattle.dscb_codec.proofs.encoding.joined.Goals as goal

abbrev bytes_of : Bor (List ℕ) → List ℕ
bytes_of part = part.now

abbrev nothing : Bor (List ℕ)
nothing = record { ref_ptr = (0, 0); now = [] }

pub copy_part-at-requires : goal.copy_part-at-requires
copy_part-at-requires c =
    let parts : List (Bor (List ℕ)) = c.args.parts.now in
    let next = split_at bytes_of parts c.loop-part.part-index nothing (take c.loop-part.at c.loop-part.out) c.loop-part-test.true c.loop-part.invariant.whole in
    omega (arith, c.requires, room c.loop-part.out (get_or parts c.loop-part.part-index nothing).now (concat (map bytes_of (drop (c.loop-part.part-index + 1) parts))) (concat (map bytes_of parts)) c.loop-part.at (omega arith) next)

pub loop-part-preserved : goal.loop-part-preserved
loop-part-preserved c =
    let next = split_at bytes_of c.args.parts.now c.loop-part.part-index nothing (take c.loop-part.at c.loop-part.out) c.loop-part-test.true c.loop-part.invariant.whole in
    record {
      wide = omega arith;
      fits = omega arith;
      whole = placed (take c.loop-part.at c.loop-part.out) _ _ _ _ c.copy_part-at.ensures.front next;
    }

pub returns : goal.returns
returns c =
    let front = written bytes_of c.args.parts.now c.loop-part.part-index c.loop-part.out c.loop-part.at (omega arith) c.loop-part.invariant.whole in
    sym (take_all c.loop-part.at c.loop-part.out (omega (arith, c.requires, ap length front, length-take-le c.loop-part.at c.loop-part.out (omega arith)))) ∙ front
