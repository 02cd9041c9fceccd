use Rattle.std.proofs.Common.{◌∙◌, ap, map}
use Rattle.indexmap.specs.IndexMap.{insert_entry}
use Rattle.util_syntax.specs.Step.{named, same_name}
use Rattle.util_syntax.proofs.Tables.{insert_named}
use Rattle.util_syntax.proofs.step.DdTable.insert.Goals as goal

pub returns-clause-ok : goal.returns-clause-ok
returns-clause-ok c =
    let put = insert_named c.key_of-key.result c.args.name c.key_of-key.ensures c.args.dd c.self.inside.map.entries in
    ap (map named) c.in_ok-insert.ensures.entries ∙ put
    ∙ ap (λ dds. insert_entry same_name dds c.args.name c.args.dd) c.self.view_is
