use Rattle.std.proofs.Common.{◌≡◌, ◌+◌, ◌-◌, ◌++◌, ◌∷◌, [], length, drop, ap, ◌∙◌, arith, rules, List, ℕ, length-drop}
use Rattle.std.proofs.lemmas.List.{take_rest}
use Rattle.ckd_image.specs.Reading.{is_record_at, record_length}
use Rattle.track_records.proofs.PlaceLemmas.{Next, next_record, walking_more, found_some}
use Rattle.track_records.proofs.places.walk.Goals as goal
use Rattle.track_records.proofs.places.walk.Goals.{After-record_at}

next : (c : After-record_at) → Next c.args.bytes.now c.args.count c.loop-passed.passed c.loop-passed.at
next c = next_record c.args.bytes.now c.args.count c.loop-passed.passed c.loop-passed.at c.loop-passed.places.items c.loop-passed.invariant.0 (omega arith)

pub unwrap-requires : goal.unwrap-requires
unwrap-requires c =
    found_some c.record_at.result _ c.record_at.ensures.none (ap (is_record_at (c.loop-passed.passed + 1)) (take_rest c.args.bytes.now c.loop-passed.at) ∙ (next c).stands)

pub loop-passed-preserved : goal.loop-passed-preserved
loop-passed-preserved c =
    let at = c.loop-passed.at in
    let bytes = c.args.bytes.now in
    let here = next (goal.at.loop-passed-preserved c).After-record_at in
    let pushed : c.push.new.self.items ≡ c.loop-passed.places.items ++ at ∷ [] = rw c.unwrap-in-loop-passed.ensures at c.push.ensures.items in
    let rest : c.unwrap.result.1.now ≡ drop (record_length (drop at bytes)) (drop at bytes) = (rw c.unwrap.ensures at c.record_at.ensures.rest) ∙ ap (λ (b : List ℕ). drop (record_length b) b) (take_rest bytes at) in
    let behind : length bytes - length c.unwrap.result.1.now ≡ at + record_length (drop at bytes) =
    omega (arith, ap length rest, length-drop (record_length (drop at bytes)) (drop at bytes), length-drop at bytes, here.fits) in
    (walking_more bytes c.args.count c.loop-passed.passed at _ c.loop-passed.places.items c.push.new.self.items c.loop-passed.invariant.0 (omega arith) behind pushed, search rules)
