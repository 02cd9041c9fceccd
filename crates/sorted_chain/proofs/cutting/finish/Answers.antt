use Rattle.std.proofs.Common.{map, arith, ap, sym, subst, ◌∙◌, ◌≡◌, ◌+◌, ◌<◌, ◌≤◌, ◌++◌, ◌∷◌, [], suc, length, vec_items}
use Rattle.sorted_chain.proofs.CutSteps.{cut_behind, cut_here}
use Rattle.sorted_chain.proofs.Walks.{length-writes, writes-push}
use Rattle.sorted_chain.specs.Cutting.{IsForward}
use Rattle.sorted_chain.specs.Plan.{write_of}
use Rattle.sorted_chain.proofs.cutting.finish.Goals as goal

pub returns-then-used-from : goal.returns-then-used-from
returns-then-used-from g c es is =
    let bytes = g.E.ChainEntry.bytes in
    let done = vec_items c.args.cutting.done in
    let block = vec_items c.args.cutting.block in
    let used = c.args.cutting.used in
    let place = c.len-place.result in
    let filed : map write_of (vec_items c.push.new.self) ≡ map write_of done ++ ((place, block) ∷ []) = ap (map write_of) c.in_ok-push.ensures.items ∙ writes-push done place c.args.cutting.block in
    let at : place ≡ length (map write_of done) = omega (arith, c.len-place.ensures, length-writes done) in
    let within : used + c.args.end ≤ c.args.room = omega (arith, c.if-used-from.true, c.from.ensures, c.requires.end_fits) in
    subst (IsForward bytes c.args.room c.args.end es) (sym filed) (cut_here bytes c.args.room c.args.end place (map write_of done) block used es is within at)

pub returns : goal.returns
returns g c es is =
    let bytes = g.E.ChainEntry.bytes in
    let done = vec_items c.args.cutting.done in
    let block = vec_items c.args.cutting.block in
    let used = c.args.cutting.used in
    let place = c.len-place.result in
    let first : map write_of (vec_items c.push.new.self) ≡ map write_of done ++ ((place, block) ∷ []) = ap (map write_of) c.in_ok-push.ensures.items ∙ writes-push done place c.args.cutting.block in
    let filed : map write_of (vec_items c.push-2.new.self) ≡ (map write_of done ++ ((place, block) ∷ [])) ++ ((place + 1, []) ∷ []) = ap (map write_of) c.in_ok-push-2.ensures.items ∙ writes-push (vec_items c.push.new.self) (place + 1) c.new.result ∙ ap (λ ws. ws ++ ((place + 1, vec_items c.new.result) ∷ [])) first ∙ ap (λ b. (map write_of done ++ ((place, block) ∷ [])) ++ ((place + 1, b) ∷ [])) c.new.ensures.items in
    let at : place ≡ length (map write_of done) = omega (arith, c.len-place.ensures, length-writes done) in
    let next : place + 1 ≡ suc place = omega arith in
    let beyond : c.args.room < used + c.args.end = omega (arith, c.if-used-from.false, c.from.ensures, c.requires.end_fits) in
    subst (IsForward bytes c.args.room c.args.end es) (sym filed) (cut_behind bytes c.args.room c.args.end place (place + 1) (map write_of done) block used es is beyond c.requires.end_fits at next)
