-- What functions make of three old records.
use Rattle.std.proofs.Common.{◌≡◌, ℕ, true, List, [], ◌∷◌, ◌++◌, replicate, refl}
use Rattle.std.specs.Prelude.{Some, None}
use Rattle.update_forms.specs.declared.requests.Numbering.{Numbering}
use Rattle.update_forms.specs.declared.requests.Verb.TheVariants.{Add, Change}
use Rattle.update_forms.specs.Records.{eight_digits, stands_before, with_number}
use Rattle.update_forms.specs.Editing.{made, merged, numbered, put, rises, stays, taken}

-- a record that begins with a byte and has a sequence
line : ℕ → ℕ → List ℕ
line byte n = byte ∷ replicate 71 0x40 ++ eight_digits n

olds : List (List ℕ)
olds = line 0xC1 10 ∷ line 0xC2 20 ∷ line 0xC3 30 ∷ []

by : ℕ → ℕ → Numbering
by first step = record { first = first; step = step; all = true }

-- a card replaces the second, another comes after it, the third is dropped, and all are numbered
changed : made Change (record { from = 30; to = 30 } ∷ []) (Some (by 100 10)) olds (line 0xD2 20 ∷ line 0xD3 25 ∷ []) ≡ Some (line 0xC1 100 ∷ line 0xD2 110 ∷ line 0xD3 120 ∷ [])
unfolding line olds by made taken rises merged put stays numbered with_number eight_digits stands_before
changed = refl

-- two cards of one sequence
twice : made Change [] None olds (line 0xD2 25 ∷ line 0xD3 25 ∷ []) ≡ None
unfolding line olds made taken rises eight_digits stands_before
twice = refl

-- the third number has nine digits
too_high : made Change [] (Some (by 99999990 5)) olds [] ≡ None
unfolding line olds by made taken rises merged put stays numbered with_number eight_digits stands_before
too_high = refl

-- an ADD without cards, whose records would have nine digits
no_cards : made Add [] (Some (by 99999999 1)) [] [] ≡ Some []
unfolding by made taken numbered
no_cards = refl
