-- The programs of steps, in this project's profile.
use Rattle.std.specs.Prelude.{ℕ, List, [], ◌∷◌, Option}
use Rattle.std.specs.Map.{lookup}
use Rattle.std.specs.Str.{bytes_eq}
use Rattle.ebcdic_names.specs.declared.names.Name8.{Name8}
use Rattle.iebcopy_util.specs.Items.{iebcopy_items}
use Rattle.iebgener_util.specs.Items.{iebgener_items}
use Rattle.iebupdte_util.specs.Items.{iebupdte_items}
use Rattle.iehlist_util.specs.Items.{iehlist_items}
use Rattle.iehprogm_util.specs.Items.{iehprogm_items}
use Rattle.util_syntax.specs.declared.step.StepIn.{StepIn}
use Rattle.vol_model.specs.declared.contents.Shelf.{Shelf}
use Rattle.vol_model.specs.Events.{Item}
use Rattle.job_runner.specs.declared.programs.Program.{Program}
use Rattle.job_runner.specs.declared.programs.Program.TheVariants.{Iefbr14, Iehprogm, Iehlist, Iebgener, Iebcopy, Iebupdte}

-- the programs by their names in EBCDIC
abbrev pub programs : List (List ℕ × Program)
programs =
    (0xC9 ∷ 0xC5 ∷ 0xC6 ∷ 0xC2 ∷ 0xD9 ∷ 0xF1 ∷ 0xF4 ∷ 0x40 ∷ [], Iefbr14)
    ∷ (0xC9 ∷ 0xC5 ∷ 0xC8 ∷ 0xD7 ∷ 0xD9 ∷ 0xD6 ∷ 0xC7 ∷ 0xD4 ∷ [], Iehprogm)
    ∷ (0xC9 ∷ 0xC5 ∷ 0xC8 ∷ 0xD3 ∷ 0xC9 ∷ 0xE2 ∷ 0xE3 ∷ 0x40 ∷ [], Iehlist)
    ∷ (0xC9 ∷ 0xC5 ∷ 0xC2 ∷ 0xC7 ∷ 0xC5 ∷ 0xD5 ∷ 0xC5 ∷ 0xD9 ∷ [], Iebgener)
    ∷ (0xC9 ∷ 0xC5 ∷ 0xC2 ∷ 0xC3 ∷ 0xD6 ∷ 0xD7 ∷ 0xE8 ∷ 0x40 ∷ [], Iebcopy)
    ∷ (0xC9 ∷ 0xC5 ∷ 0xC2 ∷ 0xE4 ∷ 0xD7 ∷ 0xC4 ∷ 0xE3 ∷ 0xC5 ∷ [], Iebupdte)
    ∷ []

-- the program of this name
unfoldable pub program_named : Name8 → Option Program
program_named name = lookup (bytes_eq name.bytes) programs

-- what a program does in a step
abbrev pub program_items : Program → StepIn → Shelf → List Item
program_items Iefbr14 = λ step shelf. []
program_items Iehprogm = iehprogm_items
program_items Iehlist = iehlist_items
program_items Iebgener = iebgener_items
program_items Iebcopy = iebcopy_items
program_items Iebupdte = iebupdte_items
