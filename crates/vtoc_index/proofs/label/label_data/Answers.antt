use Rattle.std.proofs.Common.{◌≡◌, length, sym, ◌∙◌}
use Rattle.vtoc_index.proofs.Labels.{label_found, label_not, label_in-other}
use Rattle.vtoc_index.proofs.label.label_data.Goals as goal

pub returns-then-len-from-clause-exact : goal.returns-then-len-from-clause-exact
returns-then-len-from-clause-exact c = sym (label_in-other c.args.buf.now.records (λ is. c.if-len-from.true (c.len.ensures ∙ is ∙ sym c.from.ensures)))

pub returns-then-not-are_label-clause-exact : goal.returns-then-not-are_label-clause-exact
returns-then-not-are_label-clause-exact c =
    let three : length c.args.buf.now.records ≡ 3 = sym c.len.ensures ∙ c.if-len-from.false ∙ c.from.ensures in
    sym (label_not c.args.buf.now.records three (sym c.if-not-are_label.ensures.test))

pub returns-clause-exact : goal.returns-clause-exact
returns-clause-exact c =
    let three : length c.args.buf.now.records ≡ 3 = sym c.len.ensures ∙ c.if-len-from.false ∙ c.from.ensures in
    sym (label_found c.args.buf.now.records c.data_held.result.now three (sym c.if-not-are_label.ensures.test) c.data_held.ensures)
