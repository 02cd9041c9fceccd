-- Lines of directories, computed.
use Rattle.std.proofs.Common.{◌≡◌, ℕ, List, [], ◌∷◌, ◌++◌, replicate, refl}
use Rattle.std.specs.Prelude.{codes}
use Rattle.std.specs.Fmt.{digits}
use Rattle.ebcdic_names.specs.CodePage.{ascii_of, code_page}
use Rattle.ebcdic_names.specs.Names.{shown}
use Rattle.vol_model.specs.declared.contents.Entry.{Entry}
use Rattle.iehlist_util.specs.Lines.{directory_line, entry_line, left_in}

-- AB in EBCDIC, with blanks after it
abbrev name : List ℕ
name = 0xC1 ∷ 0xC2 ∷ []

-- a member at track 26, record 3, without user data, and another name of it with one halfword
abbrev entry : ℕ → List ℕ → Entry
entry flags user = record { name = record { bytes = name ++ replicate 6 0x40 }; place = record { tt = 26; r = 3 }; flags = flags; user = user }

directory : directory_line (name ++ replicate 42 0x40) 17 3 ≡ codes "PDS AB DIRECTORY 17 MEMBERS 3"
unfolding directory_line shown ascii_of code_page digits
directory = refl

bare : entry_line (entry 0 []) ≡ codes "AB       001A 03 00"
unfolding entry_line shown ascii_of code_page left_in
bare = refl

with_user_data : entry_line (entry 0x81 (0x0C ∷ 0xFE ∷ [])) ≡ codes "AB       001A 03 81 0CFE"
unfolding entry_line shown ascii_of code_page left_in
with_user_data = refl
