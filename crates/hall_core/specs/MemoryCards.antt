-- What a source of cards in memory shows of itself.
use Rattle.std.specs.Prelude.{◌≡◌, ℕ, ◌+◌, ◌-◌, ◌^◌, min, List, drop, Result, OnOk, OnErr}
use Rattle.hall_core.specs.declared.mem_cards.MemCards.{MemCards}

-- the bytes still to come
abbrev pub bytes_left : MemCards → List ℕ
bytes_left cards = drop cards.given cards.bytes.items

-- at which numbers its calls fail
abbrev pub failing_reads : MemCards → List ℕ
failing_reads cards = cards.fails.items

-- how many calls were made, at most 2^64 - 1
abbrev pub number_of_reads : MemCards → ℕ
number_of_reads cards = cards.next_call

-- the count of faults
abbrev pub faults_counted : MemCards → ℕ
faults_counted cards = cards.faults

-- One call more was made; the count of faults grows by one where it failed, and stays where it didn't. Both stand still at their type's end.
pub record IsNextRead {T E : Type 0} (old new : MemCards) (result : Result T E) : Type 0 where
  pub failing : failing_reads new ≡ failing_reads old
  pub number : number_of_reads new ≡ min (number_of_reads old + 1) (2 ^ 64 - 1)
  pub failed : OnErr result (faults_counted new ≡ min (faults_counted old + 1) (2 ^ 64 - 1))
  pub done : OnOk result (faults_counted new ≡ faults_counted old)
