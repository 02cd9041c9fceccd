-- The characters of a name, printed one by one.
use Rattle.std.proofs.Common.{◌≡◌, ℕ, ◌+◌, ◌<◌, ◌≤◌, List, ◌++◌, length, get_or, map, take, sym, ap, ◌∙◌}
use Rattle.std.specs.Prelude.{encode_utf8}
use Rattle.std.proofs.lemmas.Str.{encode_ascii}
use Rattle.std.proofs.lemmas.List.{take_all}
use Rattle.std.proofs.lemmas.List.{map_more}
use Rattle.ebcdic_names.specs.CodePage.{ascii_of}
use Rattle.ebcdic_names.specs.Names.{shown, without_blanks}
use Rattle.ebcdic_names.proofs.CodeLemmas.{ascii_bound}

-- one more character
pub one_shown : (xs : List ℕ) (i x : ℕ) → i < length xs → x ≡ ascii_of (get_or xs i 0) → map ascii_of (take i xs) ++ encode_utf8 x ≡ map ascii_of (take (i + 1) xs)
one_shown xs i x within is =
    ap (λ (l : List ℕ). map ascii_of (take i xs) ++ l) (ap encode_utf8 is ∙ encode_ascii (ascii_of (get_or xs i 0)) (ascii_bound (get_or xs i 0)))
    ∙ sym (map_more ascii_of xs i 0 within)

-- all of them
pub all_shown : (bs xs : List ℕ) (i : ℕ) → xs ≡ without_blanks bs → length xs ≤ i → map ascii_of (take i xs) ≡ shown bs
unfolding shown
all_shown bs xs i is whole = ap (λ (l : List ℕ). map ascii_of l) (take_all i xs whole ∙ is)
