use Rattle.std.proofs.Common.{◌≡◌, List, subst}
use Rattle.std.specs.Bool.{Decides}
use Rattle.std.proofs.lemmas.Slice.Eq.{slice_eq-Decides}
use Rattle.ebcdic_names.specs.declared.names.Name8.{Name8}
use Rattle.catalog_plan.proofs.Found.{name_decides}
use Rattle.catalog_plan.proofs.finding.is_way_to.Goals as goal

pub returns : goal.returns
returns c =
    subst (λ (ns : List Name8). Decides c.eq.result (ns ≡ c.args.names.now)) c.as_slice.ensures
    (slice_eq-Decides name_decides c.as_slice.result.now c.args.names.now c.eq.result c.eq.ensures)
