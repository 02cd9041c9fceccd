-- Lines that are printed one after another.
use Rattle.std.proofs.Common.{◌≡◌, ℕ, Bool, List, [], ◌++◌, map, refl, sym, ◌∙◌, ap, subst, append_assoc}
use Rattle.std.proofs.lemmas.List.{append-nil}
use Rattle.std.specs.Prelude.{Result, Ok, Err, IsErr}
use Rattle.stop_model.specs.Moments.{Meaning, Same, IsDurable}
use Rattle.vol_model.specs.declared.answers.Stop.{Stop}
use Rattle.vol_model.specs.declared.contents.Shelf.{Shelf}
use Rattle.vol_model.specs.Events.{Say}
use Rattle.vol_model.specs.Runs.{Runs}
use Rattle.util_steps.proofs.Reporting.{HasSaid, StopsSaying, has_said, runs_said, runs_unsaid, said_idle, said_none, said_then, stops_behind, stops_before, stops_idle}

-- Some lines were printed, and these are left of all.
pub record SaidSoFar (tells : Bool) (all left : List (List ℕ)) (old now : Meaning Shelf) : Type 0 where
  pub done : List (List ℕ)
  pub whole : all ≡ done ++ left
  pub said : HasSaid tells done old now

pub says_begin : (tells : Bool) (all : List (List ℕ)) (old : Meaning Shelf) → SaidSoFar tells all all old old
says_begin tells all old = record { done = []; whole = refl; said = said_none tells old }

module _ {tells : Bool} {all left : List (List ℕ)} {old now : Meaning Shelf} (so : SaidSoFar tells all left old now) where
  -- more lines
  pub says_more : {new : Meaning Shelf} (lines rest : List (List ℕ)) → left ≡ lines ++ rest → HasSaid tells lines now new → SaidSoFar tells all rest old new
  says_more lines rest is more = record {
    done = so.done ++ lines;
    whole = so.whole ∙ ap (λ (l : List (List ℕ)). so.done ++ l) is ∙ sym (append_assoc so.done lines rest);
    said = said_then so.done lines so.said more;
  }

  -- time goes on
  pub says_idle : {new : Meaning Shelf} → Same now new → IsDurable now → SaidSoFar tells all left old new
  says_idle same durable = record { done = so.done; whole = so.whole; said = said_idle so.done so.said same durable }

  -- all of them
  pub says_all : {T : Type 0} (x : T) → left ≡ [] → Runs {T = T} {E = Stop} tells (map Say all) old now (Ok x)
  says_all x none =
      let same : all ≡ so.done = so.whole ∙ ap (λ (l : List (List ℕ)). so.done ++ l) none ∙ append-nil so.done in
      subst (λ (l : List (List ℕ)). Runs tells (map Say l) old now (Ok x)) (sym same) (runs_said so.done x so.said)

  -- stopped in what is left
  pub says_stop : {T : Type 0} {new : Meaning Shelf} (lines rest : List (List ℕ)) (r : Result T Stop) → IsErr r → left ≡ lines ++ rest → StopsSaying tells lines now new → Runs tells (map Say all) old new r
  says_stop {T = T} {new = new} lines rest r failed is time =
      let same : all ≡ so.done ++ lines ++ rest = so.whole ∙ ap (λ (l : List (List ℕ)). so.done ++ l) is ∙ sym (append_assoc so.done lines rest) in
      subst (λ (l : List (List ℕ)). Runs tells (map Say l) old new r) (sym same) (runs_unsaid (so.done ++ lines ++ rest) r failed (stops_before (so.done ++ lines) rest (stops_behind so.done lines so.said time)))

  -- the lines that are left are the last call's
  pub says_last : {T : Type 0} {new : Meaning Shelf} (lines : List (List ℕ)) (r : Result T Stop) → left ≡ lines → Runs tells (map Say lines) now new r → Runs tells (map Say all) old new r
  says_last {T = T} {new = new} lines (Ok x) is runs =
      let whole : all ≡ so.done ++ lines = so.whole ∙ ap (λ (l : List (List ℕ)). so.done ++ l) is in
      let said : HasSaid tells lines now new = has_said lines runs in
      let both : HasSaid tells (so.done ++ lines) old new = said_then so.done lines so.said said in
      subst (λ (l : List (List ℕ)). Runs {T = T} {E = Stop} tells (map Say l) old new (Ok x)) (sym whole) (runs_said (so.done ++ lines) x both)
  says_last lines (Err e) is runs = says_stop lines [] (Err e) refl (is ∙ sym (append-nil lines)) runs.moments

  -- stopped while nothing was printed
  pub says_stop_idle : {T : Type 0} {new : Meaning Shelf} (r : Result T Stop) → IsErr r → Same now new → IsDurable now → Runs tells (map Say all) old new r
  says_stop_idle r failed same durable = says_stop [] left r failed refl (stops_idle tells [] same durable)
