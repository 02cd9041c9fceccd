use Rattle.std.proofs.Common.{sym, subst}
use Rattle.std.specs.Prelude.{IfSome, Option}
use Rattle.ebcdic_names.specs.declared.names.Name8.{Name8}
use Rattle.util_syntax.specs.Forms.{IsMemberName}
use Rattle.util_syntax.proofs.MemberNames.{name_lawful}
use Rattle.util_syntax.proofs.forms.member_in.Goals as goal

pub returns-in-Some-clause-lawful : goal.returns-in-Some-clause-lawful
returns-in-Some-clause-lawful c = subst (λ (o : Option Name8). IfSome o IsMemberName) (sym c.name_of.ensures) (name_lawful c.in-Some.text.now)
