use Rattle.std.proofs.Common.{◌≡◌, Bool, sym, subst}
use Rattle.std.specs.Bool.{Decides}
use Rattle.ebcdic_names.specs.declared.names.Name8.{Name8}
use Rattle.catalog_plan.proofs.Found.{name_decides}
use Rattle.catalog_plan.proofs.finding.is_named.Goals as goal

pub returns : goal.returns
returns c =
    subst (λ (n : Name8). Decides c.eq.result (n ≡ c.args.name)) c.name_in.ensures
    (subst (λ (r : Bool). Decides r (c.name_in.result ≡ c.args.name)) (sym c.eq.ensures) (name_decides c.name_in.result c.args.name))
