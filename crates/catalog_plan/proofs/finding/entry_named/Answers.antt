use Rattle.std.proofs.Common.{◌≡◌, ℕ, ap, arith, length, refl, drop, sym, subst, ◌∙◌}
use Rattle.std.specs.List.{AllByRecursion}
use Rattle.std.proofs.lemmas.List.{take_all}
use Rattle.std.proofs.lemmas.Bool.{true≢false}
use Rattle.std.proofs.lemmas.Option.{slice_get_read}
use Rattle.catalog_blocks.specs.declared.blocks.CatEntry.{CatEntry}
use Rattle.catalog_blocks.specs.Trees.{name_in}
use Rattle.catalog_plan.proofs.Found.{named_more, none_first}
use Rattle.catalog_plan.proofs.finding.entry_named.Goals as goal

pub loop-i-init : goal.loop-i-init
loop-i-init c = none_first (λ (p : ℕ × CatEntry). name_in c.args.level p.1.name ≡ c.args.name → ⊥) c.args.held.now

pub returns-then-is_named : goal.returns-then-is_named
returns-then-is_named c = record {
  entry = c.index-held-i.result;
  after = omega arith;
  at = slice_get_read c.args.held.now (length c.args.held.now) c.loop-i.i c.index-held-i.result refl (omega arith) c.index-held-i.is;
  name_is = ap (λ (p : ℕ × CatEntry). name_in c.args.level p.1.name) c.index-held-i.is ∙ c.is_named.ensures.0 c.if-is_named.true;
}

pub loop-i-preserved : goal.loop-i-preserved
loop-i-preserved c =
    named_more (λ (p : ℕ × CatEntry). name_in c.args.level p.1.name ≡ c.args.name → ⊥) c.args.held.now c.loop-i.i c.index-held-i.result (omega arith) (omega arith) c.index-held-i.is c.loop-i.invariant
    (λ same. true≢false (sym (c.is_named.ensures.1 (sym (ap (λ (p : ℕ × CatEntry). name_in c.args.level p.1.name) c.index-held-i.is) ∙ same)) ∙ c.if-is_named.false))

pub returns : goal.returns
returns c = record {
  others = subst (λ ps. AllByRecursion (λ (p : ℕ × CatEntry). name_in c.args.level p.1.name ≡ c.args.name → ⊥) (drop 1 ps)) (take_all c.loop-i.i c.args.held.now (omega arith)) c.loop-i.invariant;
}
