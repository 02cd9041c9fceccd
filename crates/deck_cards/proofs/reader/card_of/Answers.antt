use Rattle.std.proofs.Common.{ℕ, List, ◌++◌, length, ap₂}
use Rattle.std.proofs.lemmas.List.{drop-replicate}
use Rattle.card_text.specs.declared.cards.Card.{Card}
use Rattle.deck_cards.proofs.reader.card_of.Goals as goal

pub returns : goal.returns
returns c =
    let card : List ℕ → List ℕ → Card = λ front behind. record { bytes = front ++ behind } in
    ap₂ card c.copy_from_slice.ensures.after (drop-replicate (length c.args.line.now) 80 32)
