use Rattle.std.proofs.Common.{◌≡◌, ◌∙◌, ◌≤◌, ⊎_elim, inl, inr, ℕ, List, [], Bor, length, map, sym, ap, subst, Some, option_map, refl, arith}
use Rattle.std.proofs.lemmas.List.{length-map}
use Rattle.std.specs.Prelude.{Option}
use Rattle.command_words.specs.Requests.{Request, Run, request_in}
use Rattle.shelf_machine.specs.Opening.{AreApart}
use Rattle.stop_model.proofs.MomentLemmas.{same_none}
use Rattle.volume_manager.specs.Lines.{words_line}
use Rattle.volume_manager.specs.Run.{Headline, status_of}
use Rattle.volume_manager.proofs.FileTasks.{answered_check, answered_init, answered_names, answered_nothing, answered_words}
use Rattle.volume_manager.proofs.Members.{with_members}
use Rattle.volume_manager.proofs.Tasks.{durable_left, files_kept, files_printed, files_same, text_said}
use Rattle.volume_manager.proofs.Words.{asked_run}
use Rattle.volume_manager.proofs.Works.{not_final}
use Rattle.volume_manager.proofs.top.act.Goals as goal

pub returns-in-Err-clause-headline : goal.returns-in-Err-clause-headline
returns-in-Err-clause-headline g c told =
    let hall = c.args.hall.now in
    let same = same_none _ (g.met.H.Hall.counts_now hall) in
    with_members _ _ _ _ _ _
    (answered_nothing _ g.C.Cards.tells (g.C.Cards.left c.args.cards.now) 25 (g.met.H.Hall.none_pending hall told c.requires) (g.met.H.Hall.only_now hall) same (not_final 25 25 refl (omega arith) (omega arith)))
    (λ unbegun. files_same same)
    (λ read. files_kept [] same)
    (λ other which. refl)
    (λ which. g.met.H.Hall.none_pending hall told c.requires)

pub returns-in-Ok-None-clause-headline : goal.returns-in-Ok-None-clause-headline
unfolding words_line
returns-in-Ok-None-clause-headline g c told =
    let hall = c.args.hall.now in
    let asked = sym c.in-Ok-None.ensures.request ∙ ap (option_map request_in) c.in-Ok-None.field-0-is in
    let prints = c.end.ensures.text told in
    with_members _ _ _ _ _ _
    (answered_words _ g.C.Cards.tells (g.C.Cards.left c.args.cards.now) (status_of c.end.result) asked (text_said 20 (status_of c.end.result) (λ is. cc) (same_none _ (g.met.H.Hall.counts_now hall)) prints c.end.ensures.status))
    (λ unbegun. files_printed prints)
    (λ read. absurd (omega (arith, read, c.end.ensures.status)))
    (λ other which. absurd (omega (arith, which, c.end.ensures.status)))
    (λ which. durable_left (g.H.Hall.meaning hall) (g.H.Hall.meaning c.end.new.hall) (files_printed prints) (g.met.H.Hall.none_pending hall told c.requires))

pub returns-in-Ok-Some-Names-clause-headline : goal.returns-in-Ok-Some-Names-clause-headline
returns-in-Ok-Some-Names-clause-headline g c told =
    let hall = c.args.hall.now in
    let asked = sym c.in-Ok-Some-Names.ensures.request ∙ ap (option_map request_in) (c.in-Ok-Some-Names.field-0-is ∙ ap Some c.in-Ok-Some-Names.field-0-0-is) in
    with_members _ _ _ _ _ _
    (answered_names _ c.in-Ok-Some-Names.file.now g.C.Cards.tells (g.C.Cards.left c.args.cards.now) (status_of c.names.result) asked (c.names.ensures.task told))
    (λ unbegun. c.names.ensures.files told)
    (λ read. absurd (omega (arith, read, c.names.ensures.facts.which)))
    (λ other which. c.names.ensures.silent told which)
    (λ which. durable_left (g.H.Hall.meaning hall) (g.H.Hall.meaning c.names.new.hall) (c.names.ensures.files told) (g.met.H.Hall.none_pending hall told c.requires))

pub returns-in-Ok-Some-Init-clause-headline : goal.returns-in-Ok-Some-Init-clause-headline
returns-in-Ok-Some-Init-clause-headline g c told =
    let asked = sym c.in-Ok-Some-Init.ensures.request ∙ ap (option_map request_in) (c.in-Ok-Some-Init.field-0-is ∙ ap Some c.in-Ok-Some-Init.field-0-0-is) in
    let which = c.init.ensures.facts.which in
    let durable = c.init.ensures.durable told in
    with_members _ _ _ _ _ _
    (answered_init _ c.in-Ok-Some-Init.pack c.in-Ok-Some-Init.file.now g.C.Cards.tells (g.C.Cards.left c.args.cards.now) (status_of c.init.result) asked (c.init.ensures.task told))
    (λ unbegun. c.init.ensures.refused told (omega (arith, unbegun, which)))
    (λ read. absurd (omega (arith, read, which)))
    (λ other which. c.init.ensures.silent told which)
    (⊎_elim (λ final. durable (inl final)) (⊎_elim (λ (read : status_of c.init.result ≡ 23). absurd (omega (arith, read, which))) (λ short. durable (inr short))))

pub returns-in-Ok-Some-Check-clause-headline : goal.returns-in-Ok-Some-Check-clause-headline
returns-in-Ok-Some-Check-clause-headline g c told =
    let hall = c.args.hall.now in
    let asked = sym c.in-Ok-Some-Check.ensures.request ∙ ap (option_map request_in) (c.in-Ok-Some-Check.field-0-is ∙ ap Some c.in-Ok-Some-Check.field-0-0-is) in
    with_members _ _ _ _ _ _
    (answered_check _ c.in-Ok-Some-Check.file.now g.C.Cards.tells (g.C.Cards.left c.args.cards.now) (status_of c.check.result) asked (c.check.ensures.task told))
    (λ unbegun. c.check.ensures.files told)
    (λ read. absurd (omega (arith, read, c.check.ensures.facts.which)))
    (λ other which. c.check.ensures.silent told which)
    (λ which. durable_left (g.H.Hall.meaning hall) (g.H.Hall.meaning c.check.new.hall) (c.check.ensures.files told) (g.met.H.Hall.none_pending hall told c.requires))

pub run_deck-requires-clause-date : goal.run_deck-requires-clause-date
run_deck-requires-clause-date g c =
    let asked = sym c.in-Ok-Some-Run.ensures.request ∙ ap (option_map request_in) (c.in-Ok-Some-Run.field-0-is ∙ ap Some c.in-Ok-Some-Run.field-0-0-is) in
    (asked_run _ c.in-Ok-Some-Run.date (map (λ f. f.now) c.in-Ok-Some-Run.files.items) asked).proper

pub run_deck-requires-clause-few : goal.run_deck-requires-clause-few
run_deck-requires-clause-few g c =
    let files : List (Bor (List ℕ)) = c.in-Ok-Some-Run.files.items in
    let asked = sym c.in-Ok-Some-Run.ensures.request ∙ ap (option_map request_in) (c.in-Ok-Some-Run.field-0-is ∙ ap Some c.in-Ok-Some-Run.field-0-0-is) in
    let few = (asked_run _ c.in-Ok-Some-Run.date (map (λ f. f.now) files) asked).few in
    subst (λ (fs : List (Bor (List ℕ))). length fs ≤ 8) (sym c.deref.ensures.value) (subst (λ (n : ℕ). n ≤ 8) (length-map files (λ f. f.now)) few)

pub run_deck-requires-clause-apart : goal.run_deck-requires-clause-apart
run_deck-requires-clause-apart g c =
    let files : List (Bor (List ℕ)) = c.in-Ok-Some-Run.files.items in
    let asked = sym c.in-Ok-Some-Run.ensures.request ∙ ap (option_map request_in) (c.in-Ok-Some-Run.field-0-is ∙ ap Some c.in-Ok-Some-Run.field-0-0-is) in
    subst (λ (fs : List (Bor (List ℕ))). AreApart (map (λ f. f.now) fs)) (sym c.deref.ensures.value) (asked_run _ c.in-Ok-Some-Run.date (map (λ f. f.now) files) asked).apart

pub returns-in-Ok-Some-Run-clause-headline : goal.returns-in-Ok-Some-Run-clause-headline
returns-in-Ok-Some-Run-clause-headline g c told =
    let M = g.H.Hall.meaning in
    let asked = sym c.in-Ok-Some-Run.ensures.request ∙ ap (option_map request_in) (c.in-Ok-Some-Run.field-0-is ∙ ap Some c.in-Ok-Some-Run.field-0-0-is) in
    let ran = subst (λ (fs : List (Bor (List ℕ))). Headline (Some (Run c.in-Ok-Some-Run.date (map (λ f. f.now) fs))) g.C.Cards.tells (g.C.Cards.left c.args.cards.now) (M c.args.hall.now) (M c.run_deck.new.hall) (status_of c.run_deck.result))
    c.deref.ensures.value (c.run_deck.ensures.headline told) in
    subst (λ (r : Option Request). Headline r g.C.Cards.tells (g.C.Cards.left c.args.cards.now) (M c.args.hall.now) (M c.run_deck.new.hall) (status_of c.run_deck.result)) (sym asked) ran
