use Rattle.std.proofs.Common.{◌≡◌, ◌*◌, ◌∙◌, ℕ, ap, arith}
use Rattle.pack_spec.specs.FreeChain.{whole_cylinders}
use Rattle.free_rebuild.proofs.EntryLemmas.{split}
use Rattle.free_rebuild.proofs.space.entry_of.Goals as goal

-- src/space.rt:50:21
pub overflow_cast-cylinders : goal.overflow_cast-cylinders
overflow_cast-cylinders c =
    let parts = split c.args.heads c.args.run c.requires.some in
    omega (arith, parts.few, c.whole_cylinders-cylinders.ensures, c.from.ensures, c.ranges)

-- src/space.rt:51:22
pub overflow_cast-result : goal.overflow_cast-result
overflow_cast-result c =
    let parts = split c.args.heads c.args.run c.requires.some in
    let product : c.whole_cylinders-cylinders.result * c.from-2.result ≡ whole_cylinders c.args.heads c.args.run * c.args.heads =
    ap (λ (n : ℕ). n * c.from-2.result) c.whole_cylinders-cylinders.ensures ∙ ap (λ (n : ℕ). whole_cylinders c.args.heads c.args.run * n) c.from-2.ensures in
    omega (arith, parts.rest, product, c.from.ensures, c.requires.few)
