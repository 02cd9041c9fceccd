-- The form of the command line, as `clap` states what a command line means (this project's profile).
use Rattle.std.specs.Prelude.{ℕ, Bool, true, false, List, [], ◌∷◌, codes, Option, Some, None, unwrap_or, if◌then◌else◌}
use Rattle.clap.specs.Words.{App, Kinds, Row, Rule, Text, all_of, fault_of, first_of, matches_of, new_app, new_rule, with_rule}
use Rattle.clap.specs.declared.builder.ArgAction.TheVariants.{Append}

-- ACTION, which has to stand
abbrev pub action_rule : Rule
action_rule = record (new_rule (codes "ACTION")) { required = true }

-- an option with one value
abbrev pub option_rule : Text → Rule
option_rule name = record (new_rule name) { long = Some name }

-- FILE, which has to stand and may stand more than once
abbrev pub file_rule : Rule
file_rule = record (new_rule (codes "FILE")) { required = true; action = Some Append }

-- a command of this name without flags for help and version
abbrev pub bare : App
bare = let app = new_app (codes "volman") in record app { top = record app.top { disable_help_flag = true; disable_version_flag = true } }

-- the command with its action and its options
abbrev pub with_options : App
with_options = with_rule (with_rule (with_rule (with_rule (with_rule (with_rule (with_rule bare action_rule)
    (option_rule (codes "date"))) (option_rule (codes "type"))) (option_rule (codes "serial")))
    (option_rule (codes "vtoc"))) (option_rule (codes "cyls"))) (option_rule (codes "count"))

-- the command line: ACTION, the options, and FILE at the end
abbrev pub command : App
command = with_rule with_options file_rule

-- no kind of error comes
abbrev pub is_faultless : Kinds → Bool
is_faultless [] = true
is_faultless (kind ∷ kinds) = false

-- the words are of its form
unfoldable pub are_taken : List Text → Bool
are_taken words = is_faultless (fault_of command words)

-- what the words give each argument
unfoldable pub rows_given : List Text → List Row
rows_given words = matches_of command words

-- What the words give: the action, the options that are there, and the files in their order.
pub record Parts : Type 0 where
  pub action : Option Text
  pub date : Option Text
  pub device : Option Text
  pub serial : Option Text
  pub vtoc : Option Text
  pub cylinders : Option Text
  pub count : Option Text
  pub files : List Text

abbrev pub parts_of : List Row → Parts
parts_of rows = record {
  action = first_of (codes "ACTION") rows;
  date = first_of (codes "date") rows;
  device = first_of (codes "type") rows;
  serial = first_of (codes "serial") rows;
  vtoc = first_of (codes "vtoc") rows;
  cylinders = first_of (codes "cyls") rows;
  count = first_of (codes "count") rows;
  files = unwrap_or (all_of (codes "FILE") rows) [];
}

-- what words of the form give, the program's name first
unfoldable pub words_in : List Text → Option Parts
words_in words = if are_taken words then Some (parts_of (rows_given words)) else None
