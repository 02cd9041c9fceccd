use Rattle.std.proofs.Common.{◌≡◌, ◌+◌, ◌++◌, ℕ, List, [], ◌∷◌, length, take, drop, ap, ◌∙◌, arith, get_or}
use Rattle.std.specs.Int.{to_be_bytes, w16}
use Rattle.catalog_blocks.specs.Blocks.{link_name}
use Rattle.catalog_blocks.proofs.EntryBytes.{IsPut, put_after}
use Rattle.catalog_blocks.proofs.encoding.put_link.Goals as goal

pub returns-clause-bytes : goal.returns-clause-bytes
returns-clause-bytes c =
    let old : List ℕ = c.args.data.now in
    let first : List ℕ = c.put_part-end.new.data in
    let two : List ℕ = c.to_be_bytes.result in
    let front : List ℕ = get_or two 0 0 ∷ get_or two 1 0 ∷ c.args.next.r ∷ 0 ∷ [] in
    let spelled : front ≡ to_be_bytes w16 c.args.next.tt ++ c.args.next.r ∷ 0 ∷ [] = ap (λ (xs : List ℕ). get_or xs 0 0 ∷ get_or xs 1 0 ∷ c.args.next.r ∷ 0 ∷ []) c.to_be_bytes.ensures in
    let name : IsPut c.args.at link_name old first = record { fits = omega (arith, c.requires); bytes = c.put_part-end.ensures.bytes } in
    let rest : IsPut c.put_part-end.result front first c.put_part.new.data = record { fits = omega (arith, c.requires, c.put_part-end.ensures.end); bytes = c.put_part.ensures.bytes } in
    let all = put_after name c.put_part-end.ensures.end rest (omega (arith, c.requires)) in
    all.bytes ∙ ap (λ (xs : List ℕ). take c.args.at old ++ (link_name ++ xs) ++ drop (c.args.at + length (link_name ++ xs)) old) spelled
