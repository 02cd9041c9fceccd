-- The block that is found is the head of those at or after the place, and lawful.
use Rattle.std.proofs.Common.{◌≡◌, ◌≤◌, ◌∷◌, not, length, subst, sym, ap, ◌∙◌}
use Rattle.vol_model.specs.declared.contents.Block.{Block}
use Rattle.vol_model.specs.Lawful.{IsLawfulBlock}
use Rattle.vol_model.specs.Places.{is_before}
use Rattle.map_machine.proofs.Finding.{found_all, found_cut, found_none}
use Rattle.map_machine.proofs.reads.put_first_from.Goals as goal

pub set-requires-clause-key : goal.set-requires-clause-key
set-requires-clause-key c =
    let found = found_all (λ (b : Block). not (is_before b.place c.args.from)) IsLawfulBlock c.args.blocks.now c.in-Some.found.now c.requires (sym c.in-Some.ensures) in
    subst (λ k. length k ≤ 255) (sym c.as_slice.ensures) found.key

pub set-requires-clause-payload : goal.set-requires-clause-payload
set-requires-clause-payload c =
    let found = found_all (λ (b : Block). not (is_before b.place c.args.from)) IsLawfulBlock c.args.blocks.now c.in-Some.found.now c.requires (sym c.in-Some.ensures) in
    subst (λ k. length k ≤ 32760) (sym c.as_slice-in-Some.ensures) found.payload

pub returns-in-Some-clause-found : goal.returns-in-Some-clause-found
returns-in-Some-clause-found c =
    let b = c.in-Some.found.now in
    let cut = found_cut (λ (b : Block). not (is_before b.place c.args.from)) c.args.blocks.now b c.in-Some.ensures in
    let same : c.set.new.self ≡ b = c.set.ensures ∙ ap (λ k. record { place = b.place; key = k; payload = c.as_slice-in-Some.result.now }) c.as_slice.ensures ∙ ap (λ d. record { place = b.place; key = b.key; payload = d }) c.as_slice-in-Some.ensures in
    (cut.0, cut.1 ∙ ap (λ x. x ∷ cut.0) (sym same))

pub returns-in-None-clause-found : goal.returns-in-None-clause-found
returns-in-None-clause-found c = found_none (λ (b : Block). not (is_before b.place c.args.from)) c.args.blocks.now c.in-None.ensures
