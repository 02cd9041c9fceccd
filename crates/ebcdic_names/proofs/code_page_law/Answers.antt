use Rattle.ebcdic_names.proofs.CodeLemmas.{code_page_law}
use Rattle.ebcdic_names.proofs.code_page_law.Goals as goal

pub returns-clause-character : goal.returns-clause-character
returns-clause-character c = code_page_law.0

pub returns-clause-byte : goal.returns-clause-byte
returns-clause-byte c = code_page_law.1
