use Rattle.std.proofs.Common.{List, ℕ, Some, None, ◌∙◌, ap}
use Rattle.std.specs.Prelude.{option_map}
use Rattle.iebgener_util.specs.declared.requests.Origin.TheVariants as origin
use Rattle.iebgener_util.specs.Requests.{seen}
use Rattle.iebgener_util.proofs.RequestLemmas.{origin_column, origin_text}
use Rattle.iebgener_util.proofs.requests.origin_in.Goals as goal

pub returns-in-Some : goal.returns-in-Some
returns-in-Some c =
    ap (λ (l : List ℕ). Some (origin.Text l)) c.from_vec.ensures ∙ origin_text (seen (option_map (λ v. v.now) c.args.value)) c.in-Some.text.items (rw c.in-Some.is at c.in_ok-text.ensures)

pub returns-in-Some-column_in : goal.returns-in-Some-column_in
returns-in-Some-column_in c = origin_column (seen (option_map (λ v. v.now) c.args.value)) (Some c.in-Some-column_in.column) (rw c.in_default.is at c.in_ok-text.ensures) c.in-Some-column_in.ensures

pub returns-in-None : goal.returns-in-None
returns-in-None c = origin_column (seen (option_map (λ v. v.now) c.args.value)) None (rw c.in_default.is at c.in_ok-text.ensures) c.in-None.ensures
