use Rattle.std.proofs.Common.{◌≡◌, ◌∙◌, ⊎_elim, map, sym, ap, subst, Ok, arith}
use Rattle.stop_model.proofs.MomentLemmas.{same_none}
use Rattle.stop_model.specs.Moments.{IsDurable, Same}
use Rattle.volume_manager.specs.Run.{IsFinal, status_of}
use Rattle.volume_manager.proofs.Members.{with_members}
use Rattle.volume_manager.proofs.Running.{deck_refused, deck_run, refused_causes, refused_units, run_causes, run_durable, run_units, unread_keeps}
use Rattle.volume_manager.proofs.Tasks.{durable_left}
use Rattle.volume_manager.proofs.run.run_deck.Goals as goal

pub returns-in-Ok-clause-headline : goal.returns-in-Ok-clause-headline
returns-in-Ok-clause-headline g c told =
    let M = g.H.Hall.meaning in
    let hall = c.args.hall.now in
    let names = map (λ f. f.now) c.args.files.now in
    let which = c.run.ensures.facts.which in
    let durable = g.met.H.Hall.none_pending hall told c.requires.none in
    let final : IsFinal (status_of c.run.result) → IsDurable (M c.run.new.hall) = run_durable c.args.date names _ (status_of c.run.result) durable (c.run.ensures.task told) in
    with_members _ _ _ _ _ _
    (deck_run c.args.date names _ g.C.Cards.tells (g.C.Cards.left c.args.cards.now) (status_of c.run.result) (λ tells. c.in-Ok.ensures.cards tells ∙ ap Ok (sym c.deref.ensures.value)) (c.run.ensures.task told))
    (λ unbegun. c.run.ensures.refused told (omega (arith, unbegun, which)))
    (λ read. absurd (omega (arith, read, which)))
    (λ other. absurd (other tt))
    (⊎_elim final (⊎_elim (λ (read : status_of c.run.result ≡ 23). absurd (omega (arith, read, which))) (c.run.ensures.durable told)))

pub returns-in-Err-clause-headline : goal.returns-in-Err-clause-headline
returns-in-Err-clause-headline g c told =
    let M = g.H.Hall.meaning in
    let hall = c.args.hall.now in
    let names = map (λ f. f.now) c.args.files.now in
    let durable = g.met.H.Hall.none_pending hall told c.requires.none in
    let same : Same (M hall) (M hall) = same_none _ (g.met.H.Hall.counts_now hall) in
    with_members _ _ _ _ _ _
    (deck_refused _ c.args.date names g.C.Cards.tells (g.C.Cards.left c.args.cards.now) c.in-Err.why (status_of c.refuse_deck.result) c.in-Err.ensures.causes durable (g.met.H.Hall.only_now hall) (λ quiet. subst (λ h. Same (M hall) (M h)) (sym (c.refuse_deck.ensures.silent quiet)) same) c.refuse_deck.ensures.read c.refuse_deck.ensures.memory (c.refuse_deck.ensures.task told))
    (λ unbegun. c.refuse_deck.ensures.files told)
    (unread_keeps c.in-Err.why (status_of c.refuse_deck.result) (λ quiet. subst (λ h. Same (M hall) (M h)) (sym (c.refuse_deck.ensures.silent quiet)) same) c.refuse_deck.ensures.status)
    (λ other. absurd (other tt))
    (λ which. durable_left (M hall) (M c.refuse_deck.new.hall) (c.refuse_deck.ensures.files told) durable)

pub returns-in-Ok-clause-causes : goal.returns-in-Ok-clause-causes
returns-in-Ok-clause-causes g c =
    run_causes c.args.date (map (λ f. f.now) c.args.files.now) _ g.C.Cards.tells (g.C.Cards.left c.args.cards.now) (status_of c.run.result) (λ tells. c.in-Ok.ensures.cards tells ∙ ap Ok (sym c.deref.ensures.value)) c.read_deck.ensures.later c.run.ensures.facts

pub returns-in-Err-clause-causes : goal.returns-in-Err-clause-causes
returns-in-Err-clause-causes g c =
    let e = c.refuse_deck.ensures in
    refused_causes c.args.date (map (λ f. f.now) c.args.files.now) g.C.Cards.tells (g.C.Cards.left c.args.cards.now) c.in-Err.why (status_of c.refuse_deck.result) c.in-Err.ensures.causes c.read_deck.ensures.later e.later e.read e.memory e.status e.print

pub returns-in-Ok-clause-units : goal.returns-in-Ok-clause-units
returns-in-Ok-clause-units g c =
    run_units c.args.date (map (λ f. f.now) c.args.files.now) _ g.C.Cards.tells (g.C.Cards.left c.args.cards.now) (status_of c.run.result) (λ tells. c.in-Ok.ensures.cards tells ∙ ap Ok (sym c.deref.ensures.value)) c.run.ensures.facts

pub returns-in-Err-clause-units : goal.returns-in-Err-clause-units
returns-in-Err-clause-units g c =
    refused_units c.args.date (map (λ f. f.now) c.args.files.now) g.C.Cards.tells (g.C.Cards.left c.args.cards.now) (status_of c.refuse_deck.result) c.requires.none c.refuse_deck.ensures.units c.refuse_deck.ensures.references
