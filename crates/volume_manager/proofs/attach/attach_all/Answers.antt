use Rattle.std.proofs.Common.{◌+◌, ◌∙◌, ◌++◌, ◌∷◌, [], ℕ, List, Bor, drop, get_or, map, take, sym, ap, subst, arith}
use Rattle.std.specs.Prelude.{Contains, Err}
use Rattle.stop_model.proofs.MomentLemmas.{same_then}
use Rattle.stop_model.specs.Files.{File, file_of}
use Rattle.volume_manager.specs.Task.{missing_of}
use Rattle.volume_manager.proofs.Attaching.{found_more, missing_next, names_append, names_in, names_more, names_rest, not_yet}
use Rattle.volume_manager.proofs.attach.attach_all.Goals as goal

-- the name that is read past the end of a list
abbrev no_name : Bor (List ℕ)
no_name = record { ref_ptr = (0, 0); now = [] }

pub attach-requires-clause-once : goal.attach-requires-clause-once
attach-requires-clause-once g c held =
    let name = (get_or c.args.files.now c.loop-file.file-index no_name).now in
    not_yet (λ f. f.now) c.args.files.now c.loop-file.file-index no_name c.loop-file-test.true c.requires.apart
    (subst (λ (l : List (List ℕ)). Contains l name) c.loop-file.invariant.named held)

pub returns-in-Err-clause-missing : goal.returns-in-Err-clause-missing
returns-in-Err-clause-missing g c told gone =
    let names = map (λ f. f.now) c.args.files.now in
    let i = c.loop-file.file-index in
    let name = (get_or c.args.files.now i no_name).now in
    let before = (g.H.Hall.meaning c.args.hall.now).state in
    let same = (c.loop-file.invariant.files told).state in
    ap (missing_of before) (names_rest (λ f. f.now) c.args.files.now i no_name c.loop-file-test.true)
    ∙ missing_next before (take i names) name (drop (i + 1) names) (c.loop-file.invariant.there told)
    (ap (λ (files : List File). file_of files name) (sym same) ∙ c.in-Err.ensures.missing told (ap Err gone))

pub loop-file-preserved : goal.loop-file-preserved
loop-file-preserved g c =
    let names = map (λ f. f.now) c.args.files.now in
    let i = c.loop-file.file-index in
    let name = (get_or c.args.files.now i no_name).now in
    let before = (g.H.Hall.meaning c.args.hall.now).state in
    let so_far = c.loop-file.invariant in
    let more = names_more (λ f. f.now) c.args.files.now i no_name c.loop-file-test.true in
    record {
      files = λ told. same_then (so_far.files told) (c.attach.ensures.files told);
      there = λ told.
          let found = c.in_default.ensures.there told in
          ap (missing_of before) more
          ∙ found_more before (take i names) name found.0 (so_far.there told) (ap (λ (files : List File). file_of files name) (sym (so_far.files told).state) ∙ found.1);
      named = ap names_in c.in_default.ensures.added.1.1 ∙ names_append _ _ ∙ ap (λ (l : List (List ℕ)). l ++ name ∷ []) so_far.named ∙ sym more;
      later = record {
        devices = omega (arith, so_far.later.devices, c.attach.ensures.later.devices);
        prints = omega (arith, so_far.later.prints, c.attach.ensures.later.prints);
      };
      references = c.attach.ensures.references ∙ so_far.references;
    }
