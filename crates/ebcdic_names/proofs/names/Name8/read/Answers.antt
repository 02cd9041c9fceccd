use Rattle.std.proofs.Common.{sym, ◌∙◌, arith}
use Rattle.std.specs.Str.{chars}
use Rattle.ebcdic_names.proofs.NameLemmas.{short_name}
use Rattle.ebcdic_names.proofs.names.Name8.read.Goals as goal

pub encode-requires : goal.encode-requires
encode-requires c = (omega arith, short_name (chars c.args.text.now) (sym c.name_fault.ensures ∙ c.in-None.is))
