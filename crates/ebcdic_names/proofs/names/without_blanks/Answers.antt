use Rattle.std.proofs.Common.{◌≡◌, ◌≢◌, ℕ, List, [], ◌∷◌, ◌++◌, ◌-◌, length, replicate, take, sym, ap, subst, ◌∙◌}
use Rattle.ebcdic_names.specs.Names.{without_blanks}
use Rattle.ebcdic_names.proofs.BlankLemmas.{without_blanks-blanks, without_blanks-end, without_blanks-take}
use Rattle.ebcdic_names.proofs.names.without_blanks.Goals as goal

-- the name is what is left of the bytes
name_is : (bs : List ℕ) (n m : ℕ) → n ≡ m → without_blanks bs ≡ take (length bs - m) bs → take (length bs - n) bs ≡ without_blanks bs
name_is bs n m is name = ap (λ (k : ℕ). take (length bs - k) bs) is ∙ sym name

pub returns-clause-name : goal.returns-clause-name
returns-clause-name c = name_is c.args.bytes.now _ _ c.trailing_blanks.ensures.count (without_blanks-take c.args.bytes.now)

pub returns-clause-blanks : goal.returns-clause-blanks
returns-clause-blanks c =
    let bytes = c.args.bytes.now in
    let P : List ℕ → Type 0 = λ name. bytes ≡ name ++ replicate (length bytes - length name) 64 in
    subst P (sym (name_is bytes _ _ c.trailing_blanks.ensures.count (without_blanks-take bytes))) (without_blanks-blanks bytes)

pub returns-clause-end : goal.returns-clause-end
returns-clause-end c = λ front.
    let bytes = c.args.bytes.now in
    let P : List ℕ → Type 0 = λ name. name ≢ front ++ 64 ∷ [] in
    subst P (sym (name_is bytes _ _ c.trailing_blanks.ensures.count (without_blanks-take bytes))) (without_blanks-end bytes front)
