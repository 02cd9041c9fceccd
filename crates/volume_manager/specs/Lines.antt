-- The lines that the program prints.
use Rattle.std.specs.Prelude.{ℕ, Bool, List, [], ◌∷◌, ◌++◌, codes, if◌then◌else◌}
use Rattle.std.specs.Fmt.{decimal}
use Rattle.std.specs.List.{flat_map}
use Rattle.ebcdic_names.specs.Names.{shown}
use Rattle.ckd_image.specs.declared.header.ImageErr.{ImageErr}
use Rattle.ckd_image.specs.declared.header.ImageErr.TheVariants as image
use Rattle.deck_cards.specs.declared.reader.DeckErr.{DeckErr}
use Rattle.deck_cards.specs.declared.reader.DeckErr.TheVariants as deck
use Rattle.pack_spec.specs.declared.MountErr.{MountErr}
use Rattle.pack_spec.specs.declared.MountErr.TheVariants as mount
use Rattle.pack_machine.specs.declared.unread.Unread.{Unread}

-- a line of text
abbrev pub line : List ℕ → List ℕ
line text = text ++ 10 ∷ []

-- where the words are refused
unfoldable pub words_line : List ℕ
words_line = line (codes "VOLMAN WORDS")

-- a number in decimal, after a blank
abbrev pub number_text : ℕ → List ℕ
number_text n = 32 ∷ decimal n

-- a word, and numbers after it
abbrev pub with_numbers : List ℕ → List ℕ → List ℕ
with_numbers word numbers = word ++ flat_map number_text numbers

-- why a deck is refused: a word for its cause, and the numbers that it has
unfoldable pub deck_reason : DeckErr → List ℕ
deck_reason deck.Long = with_numbers (codes "LONG") []
deck_reason (deck.Wide card) = with_numbers (codes "WIDE") (card ∷ [])
deck_reason (deck.Byte card column) = with_numbers (codes "BYTE") (card ∷ column ∷ [])
deck_reason deck.Read = with_numbers (codes "READ") []
deck_reason deck.Memory = with_numbers (codes "MEMORY") []

-- where the deck is refused
unfoldable pub deck_line : DeckErr → List ℕ
deck_line why = line (codes "VOLMAN DECK " ++ deck_reason why)

-- why a header is refused: a word for its cause, and the number that it has
unfoldable pub image_reason : ImageErr → List ℕ
image_reason image.Compressed = with_numbers (codes "COMPRESSED") []
image_reason image.BadMagic = with_numbers (codes "BAD-MAGIC") []
image_reason (image.BadType code) = with_numbers (codes "BAD-TYPE") (code ∷ [])
image_reason (image.BadHeads heads) = with_numbers (codes "BAD-HEADS") (heads ∷ [])
image_reason (image.BadTrackSize size) = with_numbers (codes "BAD-TRACK-SIZE") (size ∷ [])
image_reason image.MultiFile = with_numbers (codes "MULTI-FILE") []
image_reason (image.BadLength len) = with_numbers (codes "BAD-LENGTH") (len ∷ [])

-- why a pack isn't mounted: a word for its cause, and the numbers that it has; for a header, its own reason
unfoldable pub reason_of : MountErr → List ℕ
reason_of mount.NoFile = with_numbers (codes "NO-FILE") []
reason_of (mount.Image e) = image_reason e
reason_of mount.NoLabel = with_numbers (codes "NO-LABEL") []
reason_of mount.BadVtoc = with_numbers (codes "BAD-VTOC") []
reason_of (mount.VtocTrack track) = with_numbers (codes "VTOC-TRACK") (track ∷ [])
reason_of mount.NoFormat4 = with_numbers (codes "NO-FORMAT4") []
reason_of mount.NoFormat5 = with_numbers (codes "NO-FORMAT5") []
reason_of (mount.BadDscb slot byte) = with_numbers (codes "BAD-DSCB") (slot ∷ byte ∷ [])
reason_of (mount.UnsupportedDscb slot byte) = with_numbers (codes "UNSUPPORTED-DSCB") (slot ∷ byte ∷ [])
reason_of (mount.UnsupportedExtent slot) = with_numbers (codes "UNSUPPORTED-EXTENT") (slot ∷ [])
reason_of (mount.BadExtent slot) = with_numbers (codes "BAD-EXTENT") (slot ∷ [])
reason_of (mount.BadChain slot) = with_numbers (codes "BAD-CHAIN") (slot ∷ [])
reason_of (mount.DuplicateName slot other) = with_numbers (codes "DUPLICATE-NAME") (slot ∷ other ∷ [])
reason_of (mount.Overlap track) = with_numbers (codes "OVERLAP") (track ∷ [])
reason_of (mount.VtocFull slots) = with_numbers (codes "VTOC-FULL") (slots ∷ [])
reason_of (mount.SameSerial unit other) = with_numbers (codes "SAME-SERIAL") (unit ∷ other ∷ [])
reason_of mount.Memory = with_numbers (codes "MEMORY") []
reason_of mount.Device = with_numbers (codes "DEVICE") []

-- where a file is refused
unfoldable pub unit_line : List ℕ → MountErr → List ℕ
unit_line file why = line (codes "VOLMAN UNIT " ++ file ++ codes " " ++ reason_of why)

-- where the file of a new pack is there already
unfoldable pub exists_line : List ℕ → List ℕ
exists_line file = line (codes "VOLMAN UNIT " ++ file ++ codes " EXISTS")

-- whether a pack is settled
abbrev pub settled_word : Bool → List ℕ
settled_word settled = if settled then codes " SETTLED" else codes " UNSETTLED"

-- whether the pack of this serial is settled
unfoldable pub check_line : List ℕ → Bool → List ℕ
check_line serial settled = line (codes "CHECK " ++ shown serial ++ settled_word settled)

-- the name of a data set, and the first relative track that breaks its body
unfoldable pub broken_place : Unread → List ℕ
broken_place u = shown u.dsn.bytes ++ number_text u.track

-- a data set whose body can't be read
unfoldable pub unread_line : Unread → List ℕ
unread_line u = line (codes "UNREADABLE " ++ broken_place u)

-- what is said of a pack of this serial: whether it is settled, and then which bodies can't be read
unfoldable pub check_text : List ℕ → Bool → List Unread → List ℕ
check_text serial settled unread = check_line serial settled ++ flat_map unread_line unread

-- where a new pack was made
unfoldable pub init_line : List ℕ → List ℕ
init_line serial = line (codes "INIT " ++ shown serial)

-- a name on a line of its own, in ASCII and without the blanks after it
unfoldable pub name_line : List ℕ → List ℕ
name_line name = line (shown name)

-- the names, a line each
unfoldable pub names_listing : List (List ℕ) → List ℕ
names_listing names = flat_map name_line names
