use Rattle.std.proofs.Common.{◌≡◌, ◌*◌, ◌<◌, ◌++◌, ℕ, [], get_or, map, length, take, drop}
use Rattle.std.specs.List.{concat}
use Rattle.dscb_codec.proofs.encoding.flat.Given as goal

abbrev pub invariant-loop-row : goal.invariant-loop-row
invariant-loop-row g l = record {
  wide : length l.out ≡ g.row.T;
  end : l.at ≡ g.row.N * l.row-index;
  widths : (k : ℕ) → k < l.row-index → length (get_or l.rows k []) ≡ g.row.N;
  whole : take l.at l.out ++ concat (map (λ row. row) (drop l.row-index l.rows)) ≡ concat (map (λ row. row) l.rows);
}
