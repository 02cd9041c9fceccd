-- What a writer of records makes of them, call by call.
use Rattle.std.proofs.Common.{◌≡◌, ◌<◌, ◌≤◌, ℕ, Bool, true, false, List, ◌∷◌, length, sym, ap, subst, arith}
use Rattle.std.proofs.lemmas.Bool.Decides.{nat_tests}
use Rattle.std.specs.Prelude.{nat_lt, if◌then◌else◌, Option, Result}
use Rattle.vol_model.specs.declared.contents.Place.{Place}
use Rattle.stop_model.specs.Moments.{Meaning}
use Rattle.record_blocks.specs.Packer.{format_of}
use Rattle.record_blocks.specs.Packing.{longest}
use Rattle.vol_model.specs.declared.answers.Stop.{Stop}
use Rattle.vol_model.specs.declared.contents.Shelf.{Shelf}
use Rattle.vol_model.specs.Writing.{OpenWriter}
use Rattle.util_steps.specs.declared.calls.Fault.{Fault}
use Rattle.record_files.specs.declared.record_writer.RecordWriter.{RecordWriter}
use Rattle.record_files.specs.Advancing.{Advances, HasLast}
use Rattle.record_files.specs.Streams.{Stream, at_fault, fitting, with_record}
use Rattle.record_files.specs.RecordWriter.{blocks_to_come, coming}
use Rattle.record_files.specs.Writing.{Coming, coming_of}

pub has_last : (broken : Bool) (b : List ℕ) (bs : List (List ℕ)) → HasLast broken (b ∷ bs)
has_last true b bs = tt
has_last false b bs = tt

not_longer : (a b : ℕ) → a ≤ b → nat_lt b a ≡ false
not_longer a b short = grind (arith, nat_tests)

longer : (a b : ℕ) → b < a → nat_lt b a ≡ true
longer a b long = grind (arith, nat_tests)

-- the records that fit, of those to come
abbrev pub fit : RecordWriter → Stream → Stream
fit w st = fitting (longest (format_of w.packer)) st.broken st.records

-- what comes of records that fit
abbrev pub coming_fit : RecordWriter → Stream → Coming
coming_fit w f = coming_of (blocks_to_come w f.records) f.broken

module _ (w : RecordWriter) (rec : List ℕ) (st : Stream) where
  -- a record that isn't too long is packed in front of the others
  pub coming_short : length rec ≤ longest (format_of w.packer) → coming w (with_record rec st) ≡ coming_fit w (with_record rec (fit w st))
  unfolding coming
  coming_short short = ap (λ (t : Bool). coming_fit w (if t then at_fault else with_record rec (fit w st))) (not_longer (length rec) (longest (format_of w.packer)) short)

  -- one that is too long is a fault
  pub coming_long : longest (format_of w.packer) < length rec → coming w (with_record rec st) ≡ coming w at_fault
  unfolding coming
  coming_long long = ap (λ (t : Bool). coming_fit w (if t then at_fault else with_record rec (fit w st))) (longer (length rec) (longest (format_of w.packer)) long)

-- a step between equal things to come
pub advances_as : {tells : Bool} {a b c d : Coming} {u v : OpenWriter} {p q : Option Place} {old new : Meaning Shelf} {n m : ℕ} (r : Result (Result (Unit {0}) Fault) Stop) → a ≡ c → b ≡ d → Advances tells c d u v p q old new n m r → Advances tells a b u v p q old new n m r
advances_as {tells = tells} {a = a} {b = b} {c = c} {d = d} {u = u} {v = v} {p = p} {q = q} {old = old} {new = new} {n = n} {m = m} r one two step =
    subst (λ (x : Coming). Advances tells x b u v p q old new n m r) (sym one) (subst (λ (y : Coming). Advances tells c y u v p q old new n m r) (sym two) step)

-- with the place of the first block by another name
pub advances_from : {tells : Bool} {a b : Coming} {u v : OpenWriter} {p q x y : Option Place} {old new : Meaning Shelf} {n m : ℕ} (r : Result (Result (Unit {0}) Fault) Stop) → p ≡ x → q ≡ y → Advances tells a b u v p q old new n m r → Advances tells a b u v x y old new n m r
advances_from {tells = tells} {a = a} {b = b} {u = u} {v = v} {q = q} {x = x} {old = old} {new = new} {n = n} {m = m} r one two step =
    subst (λ (z : Option Place). Advances tells a b u v x z old new n m r) two (subst (λ (z : Option Place). Advances tells a b u v z q old new n m r) one step)
