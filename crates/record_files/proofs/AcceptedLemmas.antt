-- The writing of records is accepted.
use Rattle.std.proofs.Common.{◌≡◌, Bool, true, false}
use Rattle.std.specs.Prelude.{None, Err, if◌then◌else◌}
use Rattle.vol_model.specs.declared.answers.Mode.{Mode}
use Rattle.vol_model.specs.declared.answers.Mode.TheVariants as modes
use Rattle.vol_model.specs.declared.contents.Attr.{Attr}
use Rattle.vol_model.specs.declared.contents.Shelf.{Shelf}
use Rattle.vol_model.specs.declared.requests.Op.TheVariants.{Empty}
use Rattle.vol_model.specs.Did.{and_then, answered}
use Rattle.vol_model.specs.Writing.{Target, begin_refusal, begun, did_apply}
use Rattle.util_steps.specs.declared.calls.Fault.TheVariants.{BadRecord}
use Rattle.util_steps.specs.declared.calls.SetRef.{SetRef}
use Rattle.util_steps.specs.Copying.{did_all, did_blocks, refusing, target}
use Rattle.util_steps.proofs.AcceptedLemmas.{DidAccepted, accepted_all, accepted_begin, accepted_blocks, accepted_refusing, accepted_then}
use Rattle.record_files.specs.Writing.{Coming, all_but_last, appended, rewritten, written}

written_accepted : (s : Shelf) (t : Target) (c : Coming) → begin_refusal s t ≡ None → DidAccepted s (written s t c)
unfolding written
written_accepted s t c is = by_end c.broken
  where
    by_end : (b : Bool) → DidAccepted s (if b then and_then s (did_blocks s (begun t) (all_but_last c.blocks)) (λ x u. answered (Err BadRecord)) else did_all s t c.blocks)
    by_end true = accepted_then s (did_blocks s (begun t) (all_but_last c.blocks)) (λ x u. answered (Err BadRecord)) (accepted_blocks s (begun t) (all_but_last c.blocks)) (λ x u. tt)
    by_end false = accepted_all s t c.blocks is

-- after those of a set
pub appended_accepted : (s : Shelf) (to : SetRef) (mode : Mode) (c : Coming) → DidAccepted s (appended s to mode c)
unfolding appended
appended_accepted s to mode c = accepted_begin s (target to mode) (λ u. written u (target to mode) c) (written_accepted s (target to mode) c)

-- in their place
pub rewritten_accepted : (s : Shelf) (to : SetRef) (attr : Attr) (c : Coming) → DidAccepted s (rewritten s to attr c)
unfolding rewritten
rewritten_accepted s to attr c = accepted_then s (refusing (did_apply s (Empty to.v to.dsn attr))) (λ x u. appended u to modes.Fill c) (accepted_refusing s (Empty to.v to.dsn attr)) (λ x u. appended_accepted u to modes.Fill c)
