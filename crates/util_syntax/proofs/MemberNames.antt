-- The name of a member that stands on a card isn't that of the entry which ends a directory.
use Rattle.std.proofs.Common.{◌≡◌, ℕ, Bool, true, false, not, ◌&&◌, List, [], ◌∷◌, length, zero, suc, refl, ap}
use Rattle.std.specs.Prelude.{◌==◌, ◌-◌, ◌++◌, map, nat_lt, if◌then◌else◌, replicate, slice_get, unwrap_or, IfSome, Option, Some, None}
use Rattle.std.specs.List.{list_all}
use Rattle.std.specs.Result.{result_ok}
use Rattle.std.specs.Str.{bytes_eq}
use Rattle.ebcdic_names.specs.CodePage.{code_page}
use Rattle.ebcdic_names.specs.Names.{byte_of, name8_of, padded, unless_fault}
use Rattle.ebcdic_names.specs.declared.names.NameErr.{NameErr}
use Rattle.card_text.specs.Names.{has_only_ascii, name_of}
use Rattle.util_syntax.specs.Forms.{IsMemberName}

abbrev no_end : ℕ → Bool
no_end b = not (b == 255)

-- the code page hasn't the byte X'FF'
page_ends_nothing : list_all no_end code_page ≡ true
unfolding code_page
page_ends_nothing = refl

both : (t u : Bool) → (not t && u) ≡ true → (t ≡ false) × (u ≡ true)
both true u h = let never : ⊥ = cc in absurd never
both false u h = (refl, h)

byte_at : (bytes : List ℕ) (i : ℕ) → list_all no_end bytes ≡ true → (unwrap_or (slice_get bytes i) 0x40 == 255) ≡ false
byte_at [] i all = refl
byte_at (b ∷ bytes) zero all = (both (b == 255) (list_all no_end bytes) all).0
byte_at (b ∷ bytes) (suc i) all = byte_at bytes i (both (b == 255) (list_all no_end bytes) all).1

-- nor has a name
byte_of_none : (c : ℕ) → (byte_of c == 255) ≡ false
unfolding byte_of
byte_of_none c = by_low (nat_lt c 32)
  where
    by_low : (low : Bool) → (unwrap_or (if low then None else slice_get code_page (c - 32)) 0x40 == 255) ≡ false
    by_low true = refl
    by_low false = byte_at code_page (c - 32) page_ends_nothing

padded_lawful : (text : List ℕ) → bytes_eq (padded 8 text) (replicate 8 255) ≡ false
padded_lawful [] = refl
padded_lawful (c ∷ cs) = ap (λ (t : Bool). t && bytes_eq (map byte_of cs ++ replicate (8 - length (c ∷ cs)) 0x40) (replicate 7 255)) (byte_of_none c)

-- a name of one level may be that of an entry
pub name_lawful : (text : List ℕ) → IfSome (name_of text) IsMemberName
name_lawful text = by_ascii (has_only_ascii text)
  where
    by_fault : (f : Option NameErr) → IfSome (result_ok (unless_fault f (record { bytes = padded 8 text }))) IsMemberName
    by_fault None = padded_lawful text
    by_fault (Some e) = tt

    by_ascii : (t : Bool) → IfSome (if t then result_ok (name8_of text) else None) IsMemberName
    by_ascii true = by_fault _
    by_ascii false = tt
