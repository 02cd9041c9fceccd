use Rattle.std.proofs.Common.{map, slice_index_or, List, ℕ, ◌∙◌, arith}
use Rattle.std.proofs.lemmas.List.{length-set}
use Rattle.pack_spec.specs.FreeChain.{entry_of, no_entry}
use Rattle.free_rebuild.proofs.RowLemmas.{filled_more, filled_all}
use Rattle.free_rebuild.proofs.space.entries_from.Goals as goal

pub loop-i-preserved : goal.loop-i-preserved
loop-i-preserved g c =
    let entries : List (List ℕ) = c.loop-i.entries in
    let inv = c.loop-i.invariant in record {
      size = length-set entries c.loop-i.i c.entry_at.result ∙ inv.size;
      done = filled_more (λ (j : ℕ). slice_index_or (map (entry_of c.args.heads) c.args.free.now) j no_entry) c.args.first c.loop-i.i entries c.entry_at.result (omega (arith, inv.size, c.loop-i-test.true)) inv.done c.entry_at.ensures;
    }

pub returns : goal.returns
returns g c =
    let inv = c.loop-i.invariant in
    filled_all (λ (j : ℕ). slice_index_or (map (entry_of c.args.heads) c.args.free.now) j no_entry) c.args.first g.row.N c.loop-i.i c.loop-i.entries inv.size c.loop-i-test.false c.loop-i.auto.i-end inv.done
