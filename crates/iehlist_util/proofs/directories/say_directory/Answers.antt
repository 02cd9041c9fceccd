-- A set's directory is listed, or the set is refused.
use Rattle.std.proofs.Common.{◌≡◌, [], refl, sym, ◌∙◌, ap}
use Rattle.std.proofs.lemmas.List.{append-nil}
use Rattle.std.specs.Prelude.{Some, Err}
use Rattle.vol_model.specs.Writing.{set_on}
use Rattle.util_steps.proofs.Reporting.{has_said}
use Rattle.iehlist_util.specs.Directories.{answer_of, directory_lines, directory_of, directory_on, lines_of}
use Rattle.iehlist_util.proofs.DirectoryLemmas.{lists_on, missing_set, refuses_directory}
use Rattle.iehlist_util.proofs.Listings.{says_all, says_begin, says_idle, says_more, says_stop}
use Rattle.iehlist_util.proofs.SetLemmas.{no_set, tells_set}
use Rattle.iehlist_util.proofs.directories.say_directory.Goals as goal

pub returns-in_default-clause-says : goal.returns-in_default-clause-says
returns-in_default-clause-says g c told =
    let old = g.M.Machine.meaning c.args.machine.now in
    let name = c.args.dsn.now.bytes in
    let durable = g.met.M.Machine.durable c.args.machine.now told c.requires.sound in
    let on = missing_set name (set_on old.state c.args.v name) (no_set (set_on old.state c.args.v name) (sym c.in_default.is ∙ c.in_ok-info.ensures.value told)) in
    says_all (says_idle (says_begin g.M.Machine.tells_prints (lines_of name (directory_on old.state c.args.v name)) old) (c.read_info.ensures.same told) durable) _ (ap (lines_of name) on)

pub returns-in_default-clause-answer : goal.returns-in_default-clause-answer
returns-in_default-clause-answer g c told =
    let old = g.M.Machine.meaning c.args.machine.now in
    let name = c.args.dsn.now.bytes in
    let on = missing_set name (set_on old.state c.args.v name) (no_set (set_on old.state c.args.v name) (sym c.in_default.is ∙ c.in_ok-info.ensures.value told)) in
    sym (ap answer_of on)

pub returns-in_err-say_lines-in-Ok-clause-says : goal.returns-in_err-say_lines-in-Ok-clause-says
returns-in_err-say_lines-in-Ok-clause-says g c told =
    let m = g.M.Machine.meaning in
    let old = m c.args.machine.now in
    let name = c.args.dsn.now.bytes in
    let same = c.read_info.ensures.same told in
    let durable = g.met.M.Machine.durable c.args.machine.now told c.requires.sound in
    let lists = lists_on old.state (m c.read_info.new.machine).state c.args.v name c.in-Some.info c.in-Ok.blocks (sym c.in-Some.is ∙ c.in_ok-info.ensures.value told) c.in-Ok.ensures same.state in
    let lines = directory_lines name lists.d in
    let so = says_idle (says_begin g.M.Machine.tells_prints (lines_of name (directory_on old.state c.args.v name)) old) same durable in
    says_stop so lines [] c.from_residual-in_err-say_lines-in-Ok.result c.from_residual-in_err-say_lines-in-Ok.ensures.0 (ap (lines_of name) lists.told ∙ sym (append-nil lines)) (c.say_lines.ensures.says told lists.d lists.is lists.blocks_are).moments

pub returns-in_ok-say_lines-in-Ok-clause-says : goal.returns-in_ok-say_lines-in-Ok-clause-says
returns-in_ok-say_lines-in-Ok-clause-says g c told =
    let m = g.M.Machine.meaning in
    let old = m c.args.machine.now in
    let name = c.args.dsn.now.bytes in
    let same = c.read_info.ensures.same told in
    let durable = g.met.M.Machine.durable c.args.machine.now told c.requires.sound in
    let lists = lists_on old.state (m c.read_info.new.machine).state c.args.v name c.in-Some.info c.in-Ok.blocks (sym c.in-Some.is ∙ c.in_ok-info.ensures.value told) c.in-Ok.ensures same.state in
    let lines = directory_lines name lists.d in
    let so = says_idle (says_begin g.M.Machine.tells_prints (lines_of name (directory_on old.state c.args.v name)) old) same durable in
    says_all (says_more so lines [] (ap (lines_of name) lists.told ∙ sym (append-nil lines)) (has_said lines (c.in_ok-say_lines-in-Ok.ensures.says told lists.d lists.is lists.blocks_are))) _ refl

pub returns-in_ok-say_lines-in-Ok-clause-answer : goal.returns-in_ok-say_lines-in-Ok-clause-answer
returns-in_ok-say_lines-in-Ok-clause-answer g c told =
    let old = g.M.Machine.meaning c.args.machine.now in
    let name = c.args.dsn.now.bytes in
    let lists = lists_on old.state old.state c.args.v name c.in-Some.info c.in-Ok.blocks (sym c.in-Some.is ∙ c.in_ok-info.ensures.value told) c.in-Ok.ensures refl in
    sym (ap answer_of lists.told)

pub returns-in-Err-clause-says : goal.returns-in-Err-clause-says
returns-in-Err-clause-says g c told =
    let old = g.M.Machine.meaning c.args.machine.now in
    let name = c.args.dsn.now.bytes in
    let durable = g.met.M.Machine.durable c.args.machine.now told c.requires.sound in
    let found = tells_set (set_on old.state c.args.v name) c.in-Some.info (sym c.in-Some.is ∙ c.in_ok-info.ensures.value told) in
    let on : directory_on old.state c.args.v name ≡ Err c.in-Err.refusal = ap (directory_of name) found.is ∙ refuses_directory (directory_of name (Some found.x)) c.in-Err.refusal (c.in-Err.ensures found.x found.info_is) in
    says_all (says_idle (says_begin g.M.Machine.tells_prints (lines_of name (directory_on old.state c.args.v name)) old) (c.read_info.ensures.same told) durable) _ (ap (lines_of name) on)

pub returns-in-Err-clause-answer : goal.returns-in-Err-clause-answer
returns-in-Err-clause-answer g c told =
    let old = g.M.Machine.meaning c.args.machine.now in
    let name = c.args.dsn.now.bytes in
    let found = tells_set (set_on old.state c.args.v name) c.in-Some.info (sym c.in-Some.is ∙ c.in_ok-info.ensures.value told) in
    let on : directory_on old.state c.args.v name ≡ Err c.in-Err.refusal = ap (directory_of name) found.is ∙ refuses_directory (directory_of name (Some found.x)) c.in-Err.refusal (c.in-Err.ensures found.x found.info_is) in
    sym (ap answer_of on)
