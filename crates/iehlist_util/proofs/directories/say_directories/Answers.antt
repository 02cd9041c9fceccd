-- Each set is listed after those before it, up to the first that is refused.
use Rattle.std.proofs.Common.{◌≡◌, ◌++◌, List, ℕ, sym, ◌∙◌, ap, arith, rules}
use Rattle.std.specs.Prelude.{Some, slice_get}
use Rattle.ebcdic_names.specs.declared.names.Dsn.{Dsn}
use Rattle.vol_model.specs.declared.contents.Shelf.{Shelf}
use Rattle.util_steps.proofs.Reporting.{has_said, said_state}
use Rattle.iehlist_util.specs.Directories.{directory_on, lines_of, pds_listing}
use Rattle.iehlist_util.proofs.DirectoryLemmas.{behind_listed, behind_refused, lines_behind, listing_lines, listing_listed, listing_refused, others_of}
use Rattle.iehlist_util.proofs.Listings.{says_all, says_more, says_stop}
use Rattle.iehlist_util.proofs.SetLemmas.{empty_names}
use Rattle.iehlist_util.proofs.directories.say_directories.Goals as goal

pub returns-in_err-refusal-clause-says : goal.returns-in_err-refusal-clause-says
returns-in_err-refusal-clause-says g c told volume at =
    let shelf = (g.M.Machine.meaning c.loop-refusal.machine).state in
    let dsn = c.loop-refusal.dsn in
    let here : slice_get shelf.volumes c.args.v ≡ Some volume = ap (λ (s : Shelf). slice_get s.volumes c.args.v) (c.loop-refusal.invariant.state told) ∙ at in
    let r = directory_on shelf c.args.v dsn.bytes in
    says_stop (c.loop-refusal.invariant.so_far told volume at) (lines_of dsn.bytes r) (lines_behind r (others_of volume dsn c.loop-refusal.rest.now)) c.from_residual.result c.from_residual.ensures.0
    (listing_lines shelf c.args.v volume here dsn c.loop-refusal.rest.now) (c.say_directory.ensures.says told).moments

pub returns-in-Err-clause-says : goal.returns-in-Err-clause-says
returns-in-Err-clause-says g c told volume at =
    let shelf = (g.M.Machine.meaning c.loop-refusal.machine).state in
    let dsn = c.loop-refusal.dsn in
    let here : slice_get shelf.volumes c.args.v ≡ Some volume = ap (λ (s : Shelf). slice_get s.volumes c.args.v) (c.loop-refusal.invariant.state told) ∙ at in
    let r = directory_on shelf c.args.v dsn.bytes in
    let others = others_of volume dsn c.loop-refusal.rest.now in
    let left = listing_lines shelf c.args.v volume here dsn c.loop-refusal.rest.now in
    says_all (says_more (c.loop-refusal.invariant.so_far told volume at) (lines_of dsn.bytes r) (lines_behind r others) left (has_said (lines_of dsn.bytes r) (c.in_ok-refusal.ensures.says told))) _
    (behind_refused r c.in-Err.refusal others (sym c.in-Err.is ∙ c.in_ok-refusal.ensures.answer told))

pub returns-in-Err-clause-answer : goal.returns-in-Err-clause-answer
returns-in-Err-clause-answer g c told volume at =
    let shelf = (g.M.Machine.meaning c.loop-refusal.machine).state in
    let here : slice_get shelf.volumes c.args.v ≡ Some volume = ap (λ (s : Shelf). slice_get s.volumes c.args.v) (c.loop-refusal.invariant.state told) ∙ at in
    sym (c.loop-refusal.invariant.answer told volume at ∙ listing_refused shelf c.args.v volume here c.loop-refusal.dsn c.loop-refusal.rest.now c.in-Err.refusal (sym c.in-Err.is ∙ c.in_ok-refusal.ensures.answer told))

pub loop-refusal-preserved : goal.loop-refusal-preserved
loop-refusal-preserved g c =
    let before = c.loop-refusal.invariant in
    let shelf = (g.M.Machine.meaning c.loop-refusal.machine).state in
    let dsn = c.loop-refusal.dsn in
    let r = directory_on shelf c.args.v dsn.bytes in
    let lines = lines_of dsn.bytes r in
    record {
      so_far = λ told volume at.
          let here : slice_get shelf.volumes c.args.v ≡ Some volume = ap (λ (s : Shelf). slice_get s.volumes c.args.v) (before.state told) ∙ at in
          let listed = behind_listed r c.in_default.field-0 (others_of volume dsn c.loop-refusal.rest.now) (sym c.in_default.is ∙ c.in_ok-refusal.ensures.answer told) in
          let left = listing_lines shelf c.args.v volume here dsn c.loop-refusal.rest.now ∙ ap (λ (l : List (List ℕ)). lines ++ l) (listed ∙ ap (λ (l : List Dsn). (others_of volume dsn l).lines) c.in-Some.ensures.cases.0) in
          says_more (before.so_far told volume at) lines (pds_listing volume c.in-Some.next.now c.in-Some.others.now).lines left (has_said lines (c.in_ok-refusal.ensures.says told));
      answer = λ told volume at.
          let here : slice_get shelf.volumes c.args.v ≡ Some volume = ap (λ (s : Shelf). slice_get s.volumes c.args.v) (before.state told) ∙ at in
          before.answer told volume at ∙ listing_listed shelf c.args.v volume here dsn c.loop-refusal.rest.now c.in_default.field-0 (sym c.in_default.is ∙ c.in_ok-refusal.ensures.answer told)
          ∙ ap (λ (l : List Dsn). (others_of volume dsn l).answer) c.in-Some.ensures.cases.0;
      state = λ told. said_state lines (has_said lines (c.in_ok-refusal.ensures.says told)) ∙ before.state told;
      later = λ told. omega (arith, before.later told, (c.say_directory.ensures.says told).moments.later);
      promise = λ told t known early kept. c.say_directory.ensures.promise told t known (omega (arith, early, before.later told)) (before.promise told t known early kept);
      count = c.say_directory.ensures.count ∙ before.count;
      call = search rules;
    }

pub returns-in-None-clause-says : goal.returns-in-None-clause-says
returns-in-None-clause-says g c told volume at =
    let shelf = (g.M.Machine.meaning c.loop-refusal.machine).state in
    let dsn = c.loop-refusal.dsn in
    let here : slice_get shelf.volumes c.args.v ≡ Some volume = ap (λ (s : Shelf). slice_get s.volumes c.args.v) (c.loop-refusal.invariant.state told) ∙ at in
    let r = directory_on shelf c.args.v dsn.bytes in
    let others = others_of volume dsn c.loop-refusal.rest.now in
    let left = listing_lines shelf c.args.v volume here dsn c.loop-refusal.rest.now in
    says_all (says_more (c.loop-refusal.invariant.so_far told volume at) (lines_of dsn.bytes r) (lines_behind r others) left (has_said (lines_of dsn.bytes r) (c.in_ok-refusal.ensures.says told))) _
    (behind_listed r c.in_default.field-0 others (sym c.in_default.is ∙ c.in_ok-refusal.ensures.answer told) ∙ ap (λ (l : List Dsn). (others_of volume dsn l).lines) (empty_names c.loop-refusal.rest.now c.in-None.ensures.cases))

pub returns-in-None-clause-answer : goal.returns-in-None-clause-answer
returns-in-None-clause-answer g c told volume at =
    let shelf = (g.M.Machine.meaning c.loop-refusal.machine).state in
    let dsn = c.loop-refusal.dsn in
    let here : slice_get shelf.volumes c.args.v ≡ Some volume = ap (λ (s : Shelf). slice_get s.volumes c.args.v) (c.loop-refusal.invariant.state told) ∙ at in
    sym (c.loop-refusal.invariant.answer told volume at ∙ listing_listed shelf c.args.v volume here dsn c.loop-refusal.rest.now c.in_default.field-0 (sym c.in_default.is ∙ c.in_ok-refusal.ensures.answer told)
    ∙ ap (λ (l : List Dsn). (others_of volume dsn l).answer) (empty_names c.loop-refusal.rest.now c.in-None.ensures.cases))
