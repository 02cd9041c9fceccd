-- What the calls of a writer of records put, and what is still to come after them.
use Rattle.std.proofs.Common.{◌≡◌, ◌≤◌, ℕ, Bool, true, false, List, [], ◌∷◌, ◌++◌, length, refl, sym, ◌∙◌, ap, subst}
use Rattle.std.proofs.lemmas.List.{append-nil}
use Rattle.std.specs.Prelude.{Option, Result, Ok, Err, IsErr}
use Rattle.vol_model.specs.declared.contents.Place.{Place}
use Rattle.stop_model.specs.Moments.{Meaning}
use Rattle.record_blocks.specs.declared.packer.Packer.{Packer}
use Rattle.record_blocks.specs.declared.formats.Format.{Format}
use Rattle.record_blocks.specs.Packer.{BlocksFollow, IsUnchanged, blocks_given, blocks_with, format_of}
use Rattle.record_blocks.specs.Packing.{longest}
use Rattle.vol_model.specs.declared.answers.Stop.{Stop}
use Rattle.vol_model.specs.declared.contents.Shelf.{Shelf}
use Rattle.vol_model.specs.Did.{Did}
use Rattle.vol_model.specs.Runs.{Works}
use Rattle.vol_model.specs.Writing.{OpenWriter}
use Rattle.vol_model.proofs.Working.{works_broken, works_none}
use Rattle.util_steps.specs.declared.calls.Fault.{Fault}
use Rattle.util_steps.specs.declared.calls.Fault.TheVariants.{BadRecord}
use Rattle.record_files.specs.declared.record_writer.RecordWriter.{RecordWriter}
use Rattle.record_files.specs.Advancing.{Advances}
use Rattle.record_files.specs.Streams.{Stream, at_fault, fitting, with_record}
use Rattle.record_files.specs.RecordWriter.{coming, held_by, held_if}
use Rattle.record_files.specs.Writing.{Coming, coming_of, did_output}
use Rattle.record_files.proofs.AdvanceLemmas.{AtMostOne, fault_last}
use Rattle.record_files.proofs.RecordLemmas.{coming_fit, coming_short, fit}

-- where no block is given the others follow
pub none_given : (held : List (List ℕ)) (full : Bool) (next : List ℕ) (more : List (List ℕ)) → full ≡ false → held ++ blocks_given full next more ≡ held ++ more
none_given held full next more is = ap (λ (t : Bool). held ++ blocks_given t next more) is

-- where one is given it stands in front of them
pub one_given : (held : List (List ℕ)) (full : Bool) (next : List ℕ) (more : List (List ℕ)) → full ≡ true → held ++ blocks_given full next more ≡ held ++ (next ∷ more)
one_given held full next more is = ap (λ (t : Bool). held ++ blocks_given t next more) is

few_held : (holds : Bool) (held : List ℕ) → AtMostOne (held_if holds held)
few_held true held = tt
few_held false held = tt

-- a fault after the block that is held back, if one is
pub fault_behind : (tells : Bool) (w : RecordWriter) (v : OpenWriter) (m : Meaning Shelf) (n : ℕ) → Works tells (did_output m.state v (coming_of (held_by w ++ []) true)) m m n n (Ok (Err BadRecord))
fault_behind tells w v m n =
    let is : did_output m.state v (coming_of (held_by w ++ []) true) ≡ record { operations = []; answer = Err BadRecord } = ap (λ (l : List (List ℕ)). did_output m.state v (coming_of l true)) (append-nil (held_by w)) ∙ fault_last m.state v (held_by w) (few_held w.holds w.held.items) in
    subst (λ (d : Did (Unit {0}) Fault). Works tells d m m n n (Ok (Err BadRecord))) (sym is) (works_none tells m n (Err BadRecord))

-- a stop is one, whatever was to come
pub stopped_advances : {tells : Bool} {a b : Coming} {u v : OpenWriter} {p q : Option Place} {old new : Meaning Shelf} {n m : ℕ} (r : Result (Result (Unit {0}) Fault) Stop) → IsErr r → Works tells (did_output old.state u a) old new n m r → Advances tells a b u v p q old new n m r
stopped_advances (Ok x) failed works = let no : ⊥ = cc in absurd no
stopped_advances (Err e) failed works = record { step = works }

-- and so it is for another result
pub stops_alike : {tells : Bool} {a b c : Coming} {u v w : OpenWriter} {p q x y : Option Place} {old new : Meaning Shelf} {n m : ℕ} (e : Stop) (r : Result (Result (Unit {0}) Fault) Stop) → IsErr r → Advances tells a b u v p q old new n m (Err e) → Advances tells a c u w x y old new n m r
stops_alike e (Ok z) failed part = let no : ⊥ = cc in absurd no
stops_alike {a = a} {u = u} {old = old} e (Err f) failed part = record { step = works_broken (did_output old.state u a) (Err f) refl part.step.runs.moments }

-- a fault is one, whatever was to come after it
pub fault_alike : {tells : Bool} {a b c : Coming} {u v w : OpenWriter} {p q x y : Option Place} {old new : Meaning Shelf} {n m : ℕ} (e : Fault) → Advances tells a b u v p q old new n m (Ok (Err e)) → Advances tells a c u w x y old new n m (Ok (Err e))
fault_alike e part = record { step = part.step }

-- ---- a record that is packed

module _ (w v : RecordWriter) (st : Stream) where
  -- what comes after a writer of the same format
  pub coming_then : format_of v.packer ≡ format_of w.packer → coming v st ≡ coming_fit v (fit w st)
  unfolding coming
  coming_then same = ap (λ (f : Format). coming_fit v (fitting (longest f) st.broken st.records)) same

  -- a record that fits is packed: the block that is finished by it, if one is, and what comes of the others
  pub coming_packed : (rec : List ℕ) (p : Packer) (full : Bool) (next : List ℕ) → length rec ≤ longest (format_of w.packer) → BlocksFollow (rec ∷ []) full next w.packer p
      → coming w (with_record rec st) ≡ coming_of (held_by w ++ blocks_given full next (blocks_with p (fit w st).records)) (fit w st).broken
  coming_packed rec p full next short follow = coming_short w rec st short ∙ ap (λ (l : List (List ℕ)). coming_of (held_by w ++ l) (fit w st).broken) (follow (fit w st).records)

-- the same blocks are still to come of a packer that is unchanged
pub coming_unchanged : (w v : RecordWriter) → held_by v ≡ held_by w → IsUnchanged w.packer v.packer → coming v at_fault ≡ coming w at_fault
unfolding coming
coming_unchanged w v held same = ap (λ (l : List (List ℕ)). coming_of (l ++ blocks_with v.packer []) true) held ∙ ap (λ (l : List (List ℕ)). coming_of (held_by w ++ l) true) (same.same [])

-- at the end the open block comes
pub coming_last : (w : RecordWriter) (broken : Bool) (full : Bool) (next : List ℕ) → blocks_with w.packer [] ≡ blocks_given full next [] → coming w (record { records = []; broken = broken }) ≡ coming_of (held_by w ++ blocks_given full next []) broken
unfolding coming
coming_last w broken full next is = ap (λ (l : List (List ℕ)). coming_of (held_by w ++ l) broken) is
