use Rattle.std.proofs.Common.{◌≡◌, ◌-◌, arith, ap, length, drop, get_or, List, ℕ, ◌∙◌, length-drop}
use Rattle.std.proofs.lemmas.List.{take_rest}
use Rattle.ckd_image.specs.Reading.{is_record_at, record_length}
use Rattle.track_records.proofs.PlaceLemmas.{found_some}
use Rattle.track_records.proofs.PutLemmas.{LastPlace, last_place, some_there}
use Rattle.track_records.proofs.appending.end_of.Goals as goal
use Rattle.track_records.proofs.appending.end_of.Goals.{After-record_at}

pub slice_bounds-record_at-count : goal.slice_bounds-record_at-count
slice_bounds-record_at-count c =
    let l = last_place c.args.bytes.now c.args.places.now c.requires.are (some_there (length c.args.places.now) c.is_empty.result c.is_empty.ensures c.if-is_empty.false) in
    omega (arith, l.inside)

pub slice_bounds-record_at-start : goal.slice_bounds-record_at-start
slice_bounds-record_at-start c =
    let l = last_place c.args.bytes.now c.args.places.now c.requires.are (some_there (length c.args.places.now) c.is_empty.result c.is_empty.ensures c.if-is_empty.false) in
    let inside = l.inside in omega (arith, inside)

last : (c : After-record_at) → LastPlace c.args.bytes.now c.args.places.now (get_or c.args.places.now (length c.args.places.now - 1) 0)
last c = last_place c.args.bytes.now c.args.places.now c.requires.are (some_there (length c.args.places.now) c.is_empty.result c.is_empty.ensures c.if-is_empty.false)

pub unwrap-requires : goal.unwrap-requires
unwrap-requires c =
    let at : ℕ = get_or c.args.places.now (length c.args.places.now - 1) 0 in
    found_some c.record_at.result _ c.record_at.ensures.none (ap (is_record_at (length c.args.places.now)) (take_rest c.args.bytes.now at) ∙ (last c).stands)

pub returns : goal.returns
returns c =
    let w = (goal.at.returns c).After-record_at in
    let bytes : List ℕ = c.args.bytes.now in
    let at : ℕ = get_or c.args.places.now (length c.args.places.now - 1) 0 in
    let l = last w in
    let rest : c.unwrap.result.1.now ≡ drop (record_length (drop at bytes)) (drop at bytes) = (rw c.unwrap.ensures at c.record_at.ensures.rest) ∙ ap (λ (b : List ℕ). drop (record_length b) b) (take_rest bytes at) in
    omega (arith, ap length rest, length-drop (record_length (drop at bytes)) (drop at bytes), length-drop at bytes, l.inside, l.end)
