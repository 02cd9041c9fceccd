-- Records one after another, and what is read of them (Utilities GC28-6586, in this project's profile).
use Rattle.std.specs.Prelude.{ℕ, nat_lt, Bool, true, false, if◌then◌else◌, List, [], ◌∷◌, length, map}
use Rattle.ebcdic_names.specs.Names.{byte_of}

-- Records one after another, and whether a fault ends them.
pub record Stream : Type 0 where
  pub records : List (List ℕ)
  pub broken : Bool

-- a record in front of others
abbrev pub with_record : List ℕ → Stream → Stream
with_record rec others = record { records = rec ∷ others.records; broken = others.broken }

-- a fault in the place of a record
abbrev pub at_fault : Stream
at_fault = record { records = []; broken = true }

-- no more records
abbrev pub at_end : Stream
at_end = record { records = []; broken = false }

-- records in front of the first that is longer than this
abbrev pub fitting : ℕ → Bool → List (List ℕ) → Stream
fitting longest broken [] = record { records = []; broken = broken }
fitting longest broken (rec ∷ recs) = if nat_lt longest (length rec) then at_fault else with_record rec (fitting longest broken recs)

-- characters in EBCDIC
abbrev pub in_ebcdic : List ℕ → List ℕ
in_ebcdic text = map byte_of text
