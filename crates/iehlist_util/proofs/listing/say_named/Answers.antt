use Rattle.std.proofs.Common.{◌≡◌, List, ◌++◌, ℕ, sym, ◌∙◌, ap, arith, rules}
use Rattle.std.specs.Prelude.{Some, slice_get}
use Rattle.vol_model.specs.declared.contents.Shelf.{Shelf}
use Rattle.vol_model.specs.Writing.{set_on}
use Rattle.util_steps.proofs.Reporting.{has_said, said_state}
use Rattle.iehlist_util.specs.Items.{Listing, lines_of_set, listed_sets}
use Rattle.iehlist_util.proofs.Listings.{says_all, says_more, says_stop}
use Rattle.iehlist_util.proofs.SetLemmas.{empty_names, named_all, named_lines, named_none, named_some, tail_none, tail_of, tail_some}
use Rattle.iehlist_util.proofs.listing.say_named.Goals as goal

pub returns-in_err-list_set_by_name-clause-says : goal.returns-in_err-list_set_by_name-clause-says
returns-in_err-list_set_by_name-clause-says g c told volume at =
    let shelf = (g.M.Machine.meaning c.loop-parts.machine).state in
    let dsn = c.in-Some.parts.0.now in
    let dsns = c.in-Some.parts.1.now in
    let here : slice_get shelf.volumes c.args.v ≡ Some volume = ap (λ (s : Shelf). slice_get s.volumes c.args.v) (c.loop-parts.invariant.state told) ∙ at in
    let left = named_lines c.args.format shelf c.args.v volume here c.loop-parts.rest.now dsn dsns c.in-Some.ensures.cases.0 in
    says_stop (c.loop-parts.invariant.so_far told volume at) (lines_of_set c.args.format (set_on shelf c.args.v dsn.bytes)) (tail_of (set_on shelf c.args.v dsn.bytes) (listed_sets c.args.format volume dsns).lines) c.from_residual.result c.from_residual.ensures.0 left (c.list_set_by_name.ensures.says told).moments

pub returns-then-not-branch-clause-says : goal.returns-then-not-branch-clause-says
returns-then-not-branch-clause-says g c told volume at =
    let shelf = (g.M.Machine.meaning c.loop-parts.machine).state in
    let dsn = c.in-Some.parts.0.now in
    let dsns = c.in-Some.parts.1.now in
    let here : slice_get shelf.volumes c.args.v ≡ Some volume = ap (λ (s : Shelf). slice_get s.volumes c.args.v) (c.loop-parts.invariant.state told) ∙ at in
    let left = named_lines c.args.format shelf c.args.v volume here c.loop-parts.rest.now dsn dsns c.in-Some.ensures.cases.0 in
    let lines = lines_of_set c.args.format (set_on shelf c.args.v dsn.bytes) in
    let rest = tail_of (set_on shelf c.args.v dsn.bytes) (listed_sets c.args.format volume dsns).lines in
    says_all (says_more (c.loop-parts.invariant.so_far told volume at) lines rest left (has_said lines (c.in_ok-list_set_by_name.ensures.says told))) _ (tail_none (set_on shelf c.args.v dsn.bytes) (listed_sets c.args.format volume dsns).lines (sym (c.in_ok-list_set_by_name.ensures.found told) ∙ c.if-not-branch.true))

pub returns-then-not-branch-clause-outcome : goal.returns-then-not-branch-clause-outcome
returns-then-not-branch-clause-outcome g c told volume at =
    let shelf = (g.M.Machine.meaning c.loop-parts.machine).state in
    let here : slice_get shelf.volumes c.args.v ≡ Some volume = ap (λ (s : Shelf). slice_get s.volumes c.args.v) (c.loop-parts.invariant.state told) ∙ at in
    sym (c.loop-parts.invariant.outcome told volume at ∙ named_none c.args.format shelf c.args.v volume here c.loop-parts.rest.now c.in-Some.parts.0.now c.in-Some.parts.1.now c.in-Some.ensures.cases.0 (sym (c.in_ok-list_set_by_name.ensures.found told) ∙ c.if-not-branch.true))

pub loop-parts-preserved : goal.loop-parts-preserved
loop-parts-preserved g c =
    let before = c.loop-parts.invariant in
    let shelf = (g.M.Machine.meaning c.loop-parts.machine).state in
    let dsn = c.in-Some.parts.0.now in
    let dsns = c.in-Some.parts.1.now in
    let o = set_on shelf c.args.v dsn.bytes in
    let lines = lines_of_set c.args.format o in
    record {
      so_far = λ told volume at.
          let here : slice_get shelf.volumes c.args.v ≡ Some volume = ap (λ (s : Shelf). slice_get s.volumes c.args.v) (before.state told) ∙ at in
          let left = named_lines c.args.format shelf c.args.v volume here c.loop-parts.rest.now dsn dsns c.in-Some.ensures.cases.0 in
          let more = (listed_sets c.args.format volume dsns).lines in
          let found = sym (c.in_ok-list_set_by_name.ensures.found told) ∙ c.if-not-branch.false in
          says_more (before.so_far told volume at) lines more (left ∙ ap (λ (l : List (List ℕ)). lines ++ l) (tail_some o more found)) (has_said lines (c.in_ok-list_set_by_name.ensures.says told));
      outcome = λ told volume at.
          let here : slice_get shelf.volumes c.args.v ≡ Some volume = ap (λ (s : Shelf). slice_get s.volumes c.args.v) (before.state told) ∙ at in
          let found = sym (c.in_ok-list_set_by_name.ensures.found told) ∙ c.if-not-branch.false in
          before.outcome told volume at ∙ named_some c.args.format shelf c.args.v volume here c.loop-parts.rest.now dsn dsns c.in-Some.ensures.cases.0 found;
      state = λ told. said_state lines (has_said lines (c.in_ok-list_set_by_name.ensures.says told)) ∙ before.state told;
      later = λ told. omega (arith, before.later told, (c.list_set_by_name.ensures.says told).moments.later);
      promise = λ told t known early kept. c.list_set_by_name.ensures.promise told t known (omega (arith, early, before.later told)) (before.promise told t known early kept);
      count = c.list_set_by_name.ensures.count ∙ before.count;
      call = search rules;
    }

pub returns-in-None-clause-says : goal.returns-in-None-clause-says
returns-in-None-clause-says g c told volume at =
    says_all (c.loop-parts.invariant.so_far told volume at) _ (ap (λ (l : Listing). l.lines) (named_all c.args.format volume c.loop-parts.rest.now (empty_names c.loop-parts.rest.now c.in-None.ensures.cases)))

pub returns-in-None-clause-outcome : goal.returns-in-None-clause-outcome
returns-in-None-clause-outcome g c told volume at =
    sym (c.loop-parts.invariant.outcome told volume at ∙ ap (λ (l : Listing). l.outcome) (named_all c.args.format volume c.loop-parts.rest.now (empty_names c.loop-parts.rest.now c.in-None.ensures.cases)))
