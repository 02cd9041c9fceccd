use Rattle.std.proofs.Common.{arith, ap, sym, subst, subst₂, ◌∙◌, ◌≡◌, ◌<◌, ◌≤◌, length, map, reverse, vec_items, ⊎_elim, true}
use Rattle.std.proofs.lemmas.Bool.{cases_lt}
use Rattle.chain_spec.specs.Cut.{total}
use Rattle.chain_spec.specs.Kept.{joined}
use Rattle.sorted_chain.proofs.CutSteps.{few_blocks, length-blocks}
use Rattle.sorted_chain.proofs.PlanLemmas.{planned_backward, planned_forward}
use Rattle.sorted_chain.proofs.Walks.{length-writes, writes-reverse}
use Rattle.sorted_chain.specs.Cutting.{blocks_of}
use Rattle.sorted_chain.specs.Plan.{IsPlan, write_of}
use Rattle.sorted_chain.proofs.planning.plan.Goals as goal

pub overflow_cast-blocks : goal.overflow_cast-blocks
overflow_cast-blocks g c =
    let bytes = g.E.ChainEntry.bytes in
    let ws = map write_of (vec_items c.in_ok-writes.writes) in
    let is = c.in_ok-writes.ensures in
    let few = few_blocks bytes c.args.room c.args.end (blocks_of ws) (λ e. let law = g.met.E.ChainEntry.sizes e in let h : bytes e ≤ c.args.room = omega (arith, law, c.requires.room) in h) c.requires.end_fits is.cut.fits is.cut.full in
    omega (arith, few, ap length is.cut.holds, length-blocks ws, length-writes (vec_items c.in_ok-writes.writes), c.len-blocks.ensures, c.requires.few_new)

pub returns-then-outgrows : goal.returns-then-outgrows
returns-then-outgrows g c =
    let bytes = g.E.ChainEntry.bytes in
    let name = g.E.ChainEntry.name in
    let old = map vec_items c.args.old.now in
    let ws = map write_of (vec_items c.in_ok-writes.writes) in
    let many : length (blocks_of ws) ≡ c.len-blocks.result = omega (arith, length-blocks ws, length-writes (vec_items c.in_ok-writes.writes), c.len-blocks.ensures) in
    let turned : reverse ws ≡ map write_of (vec_items c.reverse.new.self) = sym (writes-reverse (vec_items c.in_ok-writes.writes)) ∙ ap (map write_of) (sym c.reverse.ensures.items) in
    let more : total bytes (joined old) < total bytes c.args.new.now = c.outgrows.ensures.0 c.if-outgrows.true in
    subst₂ (λ n vs. IsPlan name bytes c.args.room c.args.end old c.args.new.now n vs) many turned (planned_backward name bytes c.args.room c.args.end old c.args.new.now ws (λ e. let law = g.met.E.ChainEntry.sizes e in let h : 0 < bytes e = omega (arith, law) in h) c.in_ok-writes.ensures more)

pub returns : goal.returns
returns g c =
    let bytes = g.E.ChainEntry.bytes in
    let name = g.E.ChainEntry.name in
    let old = map vec_items c.args.old.now in
    let ws = map write_of (vec_items c.in_ok-writes.writes) in
    let many : length (blocks_of ws) ≡ c.len-blocks.result = omega (arith, length-blocks ws, length-writes (vec_items c.in_ok-writes.writes), c.len-blocks.ensures) in
    let less : total bytes c.args.new.now ≤ total bytes (joined old) = ⊎_elim (λ more. let told : c.outgrows.result ≡ true = c.outgrows.ensures.1 more in absurd (cc (told, c.if-outgrows.false))) (λ h. h) (cases_lt (total bytes (joined old)) (total bytes c.args.new.now)) in
    subst (λ n. IsPlan name bytes c.args.room c.args.end old c.args.new.now n ws) many (planned_forward name bytes c.args.room c.args.end old c.args.new.now ws (λ e. let law = g.met.E.ChainEntry.sizes e in let h : 0 < bytes e = omega (arith, law) in h) c.in_ok-writes.ensures less)
