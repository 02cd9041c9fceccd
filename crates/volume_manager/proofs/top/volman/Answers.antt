use Rattle.std.proofs.Common.{ℕ, map, string_bytes, sym, subst}
use Rattle.command_words.specs.Requests.{request_of}
use Rattle.volume_manager.specs.Run.{Attachments, Causes, Headline, ReadsDeck}
use Rattle.volume_manager.proofs.top.volman.Goals as goal

pub returns-clause-headline : goal.returns-clause-headline
returns-clause-headline g c told =
    let M = g.H.Hall.meaning in
    subst (λ (n : ℕ). Headline (request_of (map string_bytes c.args.words.now)) g.C.Cards.tells (g.C.Cards.left c.args.cards.now) (M c.args.hall.now) (M c.act.new.hall) n) (sym c.status_of.ensures) (c.act.ensures.headline told)

pub returns-clause-causes : goal.returns-clause-causes
returns-clause-causes g c =
    let F = g.H.Hall.facts in
    subst (λ (n : ℕ). Causes (request_of (map string_bytes c.args.words.now)) g.C.Cards.tells (g.C.Cards.left c.args.cards.now) (g.C.Cards.faults c.args.cards.now) (g.C.Cards.faults c.act.new.cards) (F c.args.hall.now) (F c.act.new.hall) n) (sym c.status_of.ensures) c.act.ensures.causes

pub returns-clause-deck : goal.returns-clause-deck
returns-clause-deck g c told =
    subst (λ (n : ℕ). ReadsDeck (request_of (map string_bytes c.args.words.now)) (g.C.Cards.left c.act.new.cards) n) (sym c.status_of.ensures) (c.act.ensures.deck told)

pub returns-clause-units : goal.returns-clause-units
returns-clause-units g c =
    let F = g.H.Hall.facts in
    subst (λ (n : ℕ). Attachments (request_of (map string_bytes c.args.words.now)) g.C.Cards.tells (g.C.Cards.left c.args.cards.now) (F c.args.hall.now) (F c.act.new.hall) n) (sym c.status_of.ensures) c.act.ensures.units
