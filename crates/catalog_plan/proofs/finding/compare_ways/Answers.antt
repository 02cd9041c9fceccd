-- Names are compared by their bytes.
use Rattle.std.proofs.Common.{sym, ◌∙◌}
use Rattle.std.specs.Cmp.Derive.Mapped.{lex_map}
use Rattle.std.specs.Cmp.Lexicographic.{slice_cmp}
use Rattle.std.specs.Ordering.{nat_cmp}
use Rattle.ebcdic_names.specs.declared.names.Name8.{Name8}
use Rattle.catalog_plan.proofs.finding.compare_ways.Goals as goal

pub returns : goal.returns
returns c = c.cmp.ensures ∙ sym (lex_map (λ (n : Name8). n.bytes) (slice_cmp nat_cmp) c.args.names.now c.args.others.now)
