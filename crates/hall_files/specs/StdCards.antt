-- What a source of cards over a reader shows of itself.
use Rattle.std.specs.Prelude.{ℕ}
use Rattle.hall_files.specs.declared.std_cards.StdCards.{StdCards}

-- the reader whose bytes it gives
abbrev pub reader_of : {R : Type 0} → StdCards R → R
reader_of cards = cards.reader

-- the count of faults
abbrev pub faults_counted : {R : Type 0} → StdCards R → ℕ
faults_counted cards = cards.faults
