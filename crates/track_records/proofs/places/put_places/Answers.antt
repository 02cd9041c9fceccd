use Rattle.std.proofs.Common.{ap, length, sym, ◌∙◌, subst, IsTrue, List, ℕ}
use Rattle.std.specs.Prelude.{Some}
use Rattle.track_records.specs.Buffers.{are_places, records_at}
use Rattle.track_records.proofs.StandLemmas.{Walked, walked, length-places_from}
use Rattle.track_records.proofs.places.put_places.Goals as goal
use Rattle.track_records.proofs.places.put_places.Goals.{After-walk}

whole : (c : After-walk) → Walked c.args.cylinder c.args.head c.args.upto c.args.bytes.now c.in-Ok.count
whole c = let reads = c.in-Ok.ensures.reads in walked c.args.cylinder c.args.head c.args.upto c.args.bytes.now c.in-Ok.count reads.0 reads.1 reads.3

pub walk-requires-clause-stand : goal.walk-requires-clause-stand
walk-requires-clause-stand c =
    let reads = c.in-Ok.ensures.reads in (walked c.args.cylinder c.args.head c.args.upto c.args.bytes.now c.in-Ok.count reads.0 reads.1 reads.3).are

pub returns-in-Ok-clause-count : goal.returns-in-Ok-clause-count
returns-in-Ok-clause-count c = ap length c.walk.ensures.places ∙ length-places_from c.in-Ok.count 21 c.args.bytes.now

pub returns-in-Ok-clause-records : goal.returns-in-Ok-clause-records
returns-in-Ok-clause-records c =
    let w = (goal.at.returns-in-Ok-clause-records c).After-walk in
    (whole w).is ∙ ap (λ (ps : List ℕ). Some (records_at c.args.bytes.now ps)) (sym c.walk.ensures.places)

pub returns-in-Ok-clause-are : goal.returns-in-Ok-clause-are
returns-in-Ok-clause-are c =
    let w = (goal.at.returns-in-Ok-clause-are c).After-walk in
    subst (λ (ps : List ℕ). IsTrue (are_places 1 21 c.args.bytes.now ps)) (sym c.walk.ensures.places) (whole w).are
