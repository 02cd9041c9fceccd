use Rattle.std.proofs.Common.{◌∙◌, ◌++◌, [], List, Bool, ap, map, sym, refl, arith, rules}
use Rattle.std.proofs.lemmas.List.{append-nil}
use Rattle.std.specs.Prelude.{if◌then◌else◌}
use Rattle.vol_model.specs.declared.contents.Shelf.{Shelf}
use Rattle.vol_model.specs.Events.{Item}
use Rattle.iebcopy_util.specs.Items.{Course, members, missing, missing_item, with_missing}
use Rattle.iebcopy_util.proofs.RunLemmas.{far_begins, far_ends, far_further, far_stops}
use Rattle.iebcopy_util.proofs.StepItems.{not_false, not_true}
use Rattle.iebcopy_util.proofs.program.copy_tasks.Goals as goal

pub returns-in_err-ending-clause-items : goal.returns-in_err-ending-clause-items
returns-in_err-ending-clause-items g c =
    let out = c.args.out.now in
    let picks = missing c.args.choice.now c.args.tasks.now in
    let course : Shelf → Course = λ s. members s c.args.card out [] c.args.tasks.now in
    let all : Shelf → List Item = λ s. with_missing c.args.card out picks (course s) in
    far_stops g.M.Machine (far_begins g.M.Machine {all = all} {left = all} c.requires.ready (λ told. refl)) c.from_residual.result c.from_residual.ensures (rw c.in_err-ending.was at c.copy_members.ensures.course)
    (λ told. ((if (course (g.M.Machine.meaning c.args.machine.now).state).goes_on then map (missing_item c.args.card out) picks else []), refl))

pub returns-then-not-ending-clause-items : goal.returns-then-not-ending-clause-items
returns-then-not-ending-clause-items g c =
    let out = c.args.out.now in
    let picks = missing c.args.choice.now c.args.tasks.now in
    let course : Shelf → Course = λ s. members s c.args.card out [] c.args.tasks.now in
    let all : Shelf → List Item = λ s. with_missing c.args.card out picks (course s) in
    let one = c.in_ok-ending.ensures.course in
    far_ends g.M.Machine
    (far_further g.M.Machine (far_begins g.M.Machine {all = all} {left = all} c.requires.ready (λ told. refl)) {after = λ (s : Shelf). []} c.in_ok-ending.ending.code c.in_ok-ending.ending.code one
    (λ told. ap (λ (b : Bool). (course (g.M.Machine.meaning c.args.machine.now).state).items ++ (if b then map (missing_item c.args.card out) picks else [])) (sym (one.does told).answer.1 ∙ not_true c.in_ok-ending.ending.goes_on c.if-not-ending.true))
    (λ told. (one.does told).answer.0) (omega arith)) c.in_ok-ending.ending.code (λ told. refl) (λ told is. is)

pub returns-in_err-code-clause-items : goal.returns-in_err-code-clause-items
returns-in_err-code-clause-items g c =
    let out = c.args.out.now in
    let picks = missing c.args.choice.now c.args.tasks.now in
    let course : Shelf → Course = λ s. members s c.args.card out [] c.args.tasks.now in
    let all : Shelf → List Item = λ s. with_missing c.args.card out picks (course s) in
    let one = c.in_ok-ending.ensures.course in
    far_stops g.M.Machine
    (far_further g.M.Machine (far_begins g.M.Machine {all = all} {left = all} c.requires.ready (λ told. refl)) {after = λ (s : Shelf). map (missing_item c.args.card out) picks} c.in_ok-ending.ending.code c.in_ok-ending.ending.code one
    (λ told. ap (λ (b : Bool). (course (g.M.Machine.meaning c.args.machine.now).state).items ++ (if b then map (missing_item c.args.card out) picks else [])) (sym (one.does told).answer.1 ∙ not_false c.in_ok-ending.ending.goes_on c.if-not-ending.false))
    (λ told. (one.does told).answer.0) (omega arith)) c.from_residual-in_err-code.result c.from_residual-in_err-code.ensures (rw (c.in_err-code.was, c.picks_in.ensures) at c.report_missing.ensures.items) (λ told. ([], sym (append-nil (map (missing_item c.args.card out) picks))))

pub returns-clause-items : goal.returns-clause-items
returns-clause-items g c =
    let out = c.args.out.now in
    let picks = missing c.args.choice.now c.args.tasks.now in
    let course : Shelf → Course = λ s. members s c.args.card out [] c.args.tasks.now in
    let all : Shelf → List Item = λ s. with_missing c.args.card out picks (course s) in
    let one = c.in_ok-ending.ensures.course in
    let two = rw c.picks_in.ensures at c.in_ok-code.ensures.items in
    far_ends g.M.Machine
    (far_further g.M.Machine
    (far_further g.M.Machine (far_begins g.M.Machine {all = all} {left = all} c.requires.ready (λ told. refl)) {after = λ (s : Shelf). map (missing_item c.args.card out) picks} c.in_ok-ending.ending.code c.in_ok-ending.ending.code one
    (λ told. ap (λ (b : Bool). (course (g.M.Machine.meaning c.args.machine.now).state).items ++ (if b then map (missing_item c.args.card out) picks else [])) (sym (one.does told).answer.1 ∙ not_false c.in_ok-ending.ending.goes_on c.if-not-ending.false))
    (λ told. (one.does told).answer.0) (omega arith)) {after = λ (s : Shelf). []} c.in_ok-code.code c.max.result two (λ told. sym (append-nil (map (missing_item c.args.card out) picks))) (λ told. (two.does told).answer) (search rules)) c.max.result (λ told. refl) (λ told is. is)
