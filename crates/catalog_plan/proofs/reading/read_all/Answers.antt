use Rattle.std.proofs.Common.{◌≡◌, ◌-◌, ◌+◌, ◌++◌, ◌∷◌, [], ℕ, List, suc, length, ap, arith, refl, reverse, subst, sym, ◌∙◌, Result}
use Rattle.std.specs.Prelude.{IfOk}
use Rattle.std.proofs.lemmas.List.{map_push}
use Rattle.catalog_blocks.specs.declared.chains.Chain.{Chain}
use Rattle.catalog_blocks.specs.declared.chains.Visit.{Visit}
use Rattle.catalog_blocks.specs.Trees.{chains_from, numbers, visits_of}
use Rattle.catalog_plan.specs.declared.branch.Branch.{Branch}
use Rattle.catalog_plan.specs.Branches.{chains_of, with_chains}
use Rattle.catalog_plan.specs.Left.{without}
use Rattle.catalog_plan.proofs.LeftBlocks.{length-without}
use Rattle.catalog_plan.proofs.ReadAll.{all_read, chain_read, fault_read, none_left, with_none}
use Rattle.catalog_plan.proofs.reading.read_all.Goals as goal

pub loop-most-init : goal.loop-most-init
loop-most-init c =
    let rest = chains_from (length c.args.left.now + 1) c.args.per_track c.args.left.now [] (reverse c.args.visits.items) in
    let all : suc (length c.args.left.now) ≡ length c.args.left.now + 1 = omega arith in (
      ap (λ (n : ℕ). chains_from n c.args.per_track c.args.left.now [] (reverse c.args.visits.items)) all
          ∙ sym (with_none rest)
          ∙ ap (λ (bs : List Branch). with_chains (chains_of bs) rest) (sym c.new-branches.ensures),
      refl,
    )

pub returns-in-None : goal.returns-in-None
returns-in-None c =
    let l = c.loop-most in
    sym (l.invariant.0 ∙ all_read c.args.per_track l.left l.visits.items (chains_of l.branches) l.most (none_left l.visits.items (omega (arith, c.in-None.ensures.cases.0, l.visits.ok.0))))

pub returns-in-Err : goal.returns-in-Err
returns-in-Err c =
    let l = c.loop-most in
    let most : l.most ≡ suc (l.most - 1) = omega (arith, c.loop-most-test.true) in
    sym (l.invariant.0
    ∙ fault_read c.args.per_track l.left l.visits.items (chains_of l.branches) l.most (l.most - 1) c.pop.new.self.items c.in-Some.visit c.in-Err.track most c.in-Some.ensures.items (sym c.in-Err.is ∙ c.in_ok-read.ensures.chain))

pub loop-most-preserved : goal.loop-most-preserved
loop-most-preserved c =
    let l = c.loop-most in
    let x = c.in-Ok.chain in
    let per : ℕ = c.args.per_track in
    let most : l.most ≡ suc (l.most - 1) = omega (arith, c.loop-most-test.true) in
    let left : c.read_chain.new.left ≡ without (numbers x) l.left = subst (λ (r : Result Chain ℕ). IfOk r (λ (d : Chain). c.read_chain.new.left ≡ without (numbers d) l.left)) c.in-Ok.is c.in_ok-read.ensures.left in
    let later : reverse c.in_ok-visits.visits.items ≡ visits_of per x ++ reverse c.pop.new.self.items =
    c.in_ok-visits.ensures ∙ ap (λ (vs : List Visit). vs ++ reverse c.pop.new.self.items) (c.in_ok-below.ensures ∙ ap (visits_of per) c.in_ok-branch.ensures) in
    let chains : chains_of c.push.new.self ≡ chains_of l.branches ++ x ∷ [] =
    ap chains_of c.in_ok-push.ensures.ok ∙ map_push (λ (b : Branch). b.chain) l.branches c.in_ok-branch.branch ∙ ap (λ (d : Chain). chains_of l.branches ++ d ∷ []) c.in_ok-branch.ensures in (
      l.invariant.0
          ∙ chain_read per l.left l.visits.items (chains_of l.branches) l.most (l.most - 1) c.pop.new.self.items c.in-Some.visit x most c.in-Some.ensures.items (sym c.in-Ok.is ∙ c.in_ok-read.ensures.chain)
          c.read_chain.new.left left c.in_ok-visits.visits.items later (chains_of c.push.new.self) chains,
      ap length left ∙ length-without (numbers x) l.left ∙ l.invariant.1,
    )

pub returns : goal.returns
returns c =
    let l = c.loop-most in
    let none : 0 ≡ l.most = omega (arith, c.loop-most-test.false) in
    c.at_end.ensures c.args.per_track l.left
    ∙ ap (λ (n : ℕ). with_chains (chains_of l.branches) (chains_from n c.args.per_track l.left [] (reverse l.visits.items))) none
    ∙ sym l.invariant.0
