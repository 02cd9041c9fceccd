-- The lines that frame jobs and steps, and the words for what is wrong with a job, as this project's profile has them.
use Rattle.std.specs.Prelude.{ℕ, ◌-◌, List, [], ◌∷◌, ◌++◌, codes, length, replicate, Option, Some, None}
use Rattle.std.specs.Fmt.{decimal}
use Rattle.ebcdic_names.specs.Names.{shown}
use Rattle.ebcdic_names.specs.declared.names.Name8.{Name8}
use Rattle.job_deck.specs.declared.faults.JclKind.{JclKind}
use Rattle.job_deck.specs.declared.faults.JclKind.TheVariants.{NoJob, Stray, BadName, NoOperation, BadOperation, BadOperand, Unbalanced, ContinuationMissing, DuplicateDd, NoProgram}

-- a text, or `-` where it is empty
abbrev pub or_hyphen : List ℕ → List ℕ
or_hyphen [] = codes "-"
or_hyphen (c ∷ text) = c ∷ text

-- a name in ASCII, and `-` where it is missing or blank
unfoldable pub name_text : Option Name8 → List ℕ
name_text None = codes "-"
name_text (Some name) = or_hyphen (shown name.bytes)

-- a condition code in four digits
unfoldable pub code_digits : ℕ → List ℕ
code_digits code = replicate (4 - length (decimal code)) 48 ++ decimal code

-- the first line of a job
unfoldable pub job_line : Name8 → List ℕ
job_line name = codes "JOB " ++ name_text (Some name)

-- the first line of a step
unfoldable pub step_line : Option Name8 → Name8 → List ℕ
step_line name pgm = codes "STEP " ++ name_text name ++ codes " " ++ shown pgm.bytes

-- the last line of a job, or of a step, by its word
unfoldable pub code_line : List ℕ → Option Name8 → ℕ → List ℕ
code_line word name code = word ++ codes " " ++ name_text name ++ codes " CODE " ++ code_digits code

unfoldable pub kind_words : JclKind → List ℕ
kind_words NoJob = codes "NO-JOB"
kind_words Stray = codes "STRAY"
kind_words BadName = codes "BAD-NAME"
kind_words NoOperation = codes "NO-OPERATION"
kind_words BadOperation = codes "BAD-OPERATION"
kind_words BadOperand = codes "BAD-OPERAND"
kind_words Unbalanced = codes "UNBALANCED"
kind_words ContinuationMissing = codes "CONTINUATION-MISSING"
kind_words DuplicateDd = codes "DUPLICATE-DD"
kind_words NoProgram = codes "NO-PROGRAM"
