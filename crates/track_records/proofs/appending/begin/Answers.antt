use Rattle.std.proofs.Common.{get_or, ◌∷◌, [], List, ℕ, refl, ap, ◌∙◌}
use Rattle.std.specs.Int.{w16, to_be_bytes}
use Rattle.ckd_image.specs.Writing.{front_bytes}
use Rattle.track_records.proofs.PutLemmas.{begun}
use Rattle.track_records.proofs.appending.begin.Goals as goal

abbrev front : List ℕ → List ℕ → List ℕ
front cc hh =
    0 ∷ get_or cc 0 0 ∷ get_or cc 1 0 ∷ get_or hh 0 0 ∷ get_or hh 1 0 ∷ get_or cc 0 0 ∷ get_or cc 1 0 ∷ get_or hh 0 0 ∷ get_or hh 1 0
    ∷ 0 ∷ 0 ∷ 0 ∷ 8 ∷ 0 ∷ 0 ∷ 0 ∷ 0 ∷ 0 ∷ 0 ∷ 0 ∷ 0 ∷ []

pub returns-clause-front : goal.returns-clause-front
returns-clause-front c =
    begun c.args.bytes.now c.copy_from_slice.new.self (front_bytes c.args.cylinder c.args.head) c.args.fresh c.if-not-fresh.false
    (c.copy_from_slice.ensures.after ∙ ap (λ (cc : List ℕ). front cc c.to_be_bytes-2.result) c.to_be_bytes.ensures ∙ ap (front (to_be_bytes w16 c.args.cylinder)) c.to_be_bytes-2.ensures) refl
