use Rattle.std.proofs.Common.{◌∙◌, ap}
use Rattle.std.specs.Map.{lookup}
use Rattle.util_syntax.specs.Step.{same_name}
use Rattle.util_syntax.proofs.Tables.{lookup_named}
use Rattle.util_syntax.proofs.step.DdTable.get.Goals as goal

pub returns : goal.returns
returns c =
    let found = lookup_named c.key_of-key.result c.args.name.now c.key_of-key.ensures c.self.inside.map.entries in
    c.get.ensures.value ∙ found ∙ ap (λ dds. lookup (same_name c.args.name.now) dds) c.self.view_is
