-- What the words of the command line ask for, and the deck that a run takes, in this project's profile.
use Rattle.std.specs.Prelude.{◌≡◌, List, Option, Some, Result, Err}
use Rattle.card_text.specs.declared.cards.Card.{Card}
use Rattle.command_words.specs.Requests.{Request, Run}
use Rattle.deck_cards.specs.declared.reader.DeckErr.{DeckErr}

-- a deck is asked for
abbrev pub IsRun : Option Request → Type 0
IsRun (Some (Run date files)) = Unit {0}
IsRun _ = ⊥

-- a deck is refused
abbrev pub IsRefused : Result (List Card) DeckErr → Type 0
IsRefused deck = (e : DeckErr) × (deck ≡ Err e)
