use Rattle.std.proofs.Common.{◌≡◌, ◌≤◌, ◌++◌, map, length, take, drop}
use Rattle.std.specs.List.{concat}
use Rattle.dscb_codec.proofs.encoding.joined.Given as goal

abbrev pub invariant-loop-part : goal.invariant-loop-part
invariant-loop-part l = record {
  wide : length l.out ≡ 140;
  fits : l.at ≤ 140;
  whole : take l.at l.out ++ concat (map (λ part. part.now) (drop l.part-index l.parts)) ≡ concat (map (λ part. part.now) l.parts);
}
