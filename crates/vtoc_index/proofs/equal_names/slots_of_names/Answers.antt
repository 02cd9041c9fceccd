-- A name stands earlier, or the map takes it.
use Rattle.std.proofs.Common.{Ok, inr, refl, sym, ap, ◌∙◌, get_or}
use Rattle.std.specs.BTreeMap.{get}
use Rattle.std.specs.Cmp.Lexicographic.{slice_cmp}
use Rattle.std.specs.Map.{lookup}
use Rattle.std.specs.BTreeMap.{is_at}
use Rattle.std.specs.Option.{option_map}
use Rattle.std.specs.Ordering.{nat_cmp}
use Rattle.pack_spec.specs.declared.MountErr.TheVariants.{DuplicateName}
use Rattle.pack_spec.specs.Rules.{name_fault, name_faults}
use Rattle.vtoc_index.proofs.FaultWalks.{first_from-none, first_from-some}
use Rattle.vtoc_index.proofs.NameFaults.{lowest-more, name_fault-is}
use Rattle.vtoc_index.proofs.equal_names.slots_of_names.Goals as goal

pub loop-index-init : goal.loop-index-init
unfolding name_faults
loop-index-init c = record {
  lowest = λ name. ap (lookup (is_at (slice_cmp nat_cmp name))) c.new-lowest.ensures.empty;
  apart = refl;
}

pub returns-in-Some-clause-refused : goal.returns-in-Some-clause-refused
returns-in-Some-clause-refused c =
    let slots = c.args.slots.now in
    let i = c.loop-index.index in
    let fault = name_fault-is (get (slice_cmp nat_cmp) c.loop-index.lowest) slots i (get_or slots i _) c.loop-index.invariant.lowest ∙ ap (option_map (DuplicateName i)) (sym c.in_ok-other.ensures.before ∙ c.in-Some.is) in
    inr (sym c.loop-index.invariant.apart ∙ first_from-some (λ p. name_fault slots p.0 p.1) slots i _ (DuplicateName i c.in-Some.other) c.loop-index-test.true fault)

pub loop-index-preserved : goal.loop-index-preserved
loop-index-preserved c =
    let slots = c.args.slots.now in
    let i = c.loop-index.index in
    let none = sym c.in_ok-other.ensures.before ∙ c.in_default.is in
    record {
      lowest = λ name. c.in_ok-other.ensures.noted (ap Ok c.in_default.is) name ∙ lowest-more (get (slice_cmp nat_cmp) c.loop-index.lowest) slots i _ c.loop-index-test.true c.loop-index.invariant.lowest none name;
      apart =
          let fault = name_fault-is (get (slice_cmp nat_cmp) c.loop-index.lowest) slots i (get_or slots i _) c.loop-index.invariant.lowest ∙ ap (option_map (DuplicateName i)) none in
          sym (first_from-none (λ p. name_fault slots p.0 p.1) slots i _ c.loop-index-test.true fault) ∙ c.loop-index.invariant.apart;
    }
