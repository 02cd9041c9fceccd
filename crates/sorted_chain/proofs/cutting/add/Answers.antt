use Rattle.std.proofs.Common.{map, arith, ap, ◌∙◌, ◌≡◌, ◌+◌, ◌<◌, ◌≤◌, ◌++◌, ◌∷◌, [], length, vec_items}
use Rattle.sorted_chain.proofs.CutSteps.{open_as, open_grown, open_next}
use Rattle.sorted_chain.proofs.Walks.{length-writes, writes-push}
use Rattle.sorted_chain.specs.Plan.{write_of}
use Rattle.sorted_chain.proofs.cutting.add.Goals as goal

pub returns-then-cutting-from-clause-entries : goal.returns-then-cutting-from-clause-entries
returns-then-cutting-from-clause-entries g c end es is =
    let bytes = g.E.ChainEntry.bytes in
    let room = c.args.room in
    let done = vec_items c.args.cutting.now.done in
    let block = vec_items c.args.cutting.now.block in
    let used = c.args.cutting.now.used in
    let entry = c.args.entry in
    let place = c.len-place.result in
    let law = g.met.E.ChainEntry.sizes entry in
    let size : c.from-size.result ≡ bytes entry = omega (arith, c.size.ensures, c.from-size.ensures) in
    let beyond : room < used + bytes entry = omega (arith, c.if-cutting-from.true, size, c.from.ensures, law, c.requires.room) in
    let within : bytes entry ≤ room = omega (arith, law, c.requires.room) in
    let filed : map write_of (vec_items c.push-then-cutting-from.new.self) ≡ map write_of done ++ ((place, block) ∷ []) = ap (map write_of) c.in_ok-push-2.ensures.items ∙ writes-push done place c.replace-full.result ∙ ap (λ v. map write_of done ++ ((place, vec_items v) ∷ [])) c.replace-full.ensures.value in
    let opened : vec_items c.replace-full.new.dest ≡ entry ∷ [] = ap vec_items c.replace-full.ensures.after ∙ c.in_ok-push.ensures.items ∙ ap (λ es. es ++ (entry ∷ [])) c.new-next.ensures.items in
    let at : place ≡ length (map write_of done) = omega (arith, c.len-place.ensures, length-writes done) in
    open_as bytes room end (map write_of done ++ ((place, block) ∷ [])) _ (entry ∷ []) _ (bytes entry) _ _ filed opened size (open_next bytes room end place (map write_of done) block used es entry is beyond within at)

pub returns-clause-entries : goal.returns-clause-entries
returns-clause-entries g c end es is =
    let bytes = g.E.ChainEntry.bytes in
    let room = c.args.room in
    let done = vec_items c.args.cutting.now.done in
    let block = vec_items c.args.cutting.now.block in
    let used = c.args.cutting.now.used in
    let entry = c.args.entry in
    let law = g.met.E.ChainEntry.sizes entry in
    let size : c.from-size.result ≡ bytes entry = omega (arith, c.size.ensures, c.from-size.ensures) in
    let within : used + bytes entry ≤ room = omega (arith, c.if-cutting-from.false, size, c.from.ensures, law, c.requires.room) in
    open_as bytes room end (map write_of done) (map write_of done) (block ++ (entry ∷ [])) _ (used + bytes entry) _ _ (λ i. map write_of done) c.in_ok-push-3.ensures.items (omega (arith, size)) (open_grown bytes room end (map write_of done) block used es entry is within)
