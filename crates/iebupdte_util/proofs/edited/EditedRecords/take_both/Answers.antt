use Rattle.std.proofs.Common.{ℕ, List, [], sym, ◌∙◌, ap, refl}
use Rattle.std.specs.Prelude.{Option, Some}
use Rattle.record_files.specs.Reader.{reader_given}
use Rattle.record_files.specs.Streams.{at_end}
use Rattle.update_forms.specs.declared.records.CardRecord.{CardRecord}
use Rattle.iebupdte_util.specs.Edited.{old_held}
use Rattle.update_forms.specs.Merging.{choice_of}
use Rattle.update_forms.specs.Records.{records_in}
use Rattle.iebupdte_util.proofs.GaveLemmas.{gave_card, gave_dropped, gave_instead, gave_old}
use Rattle.iebupdte_util.proofs.StepLemmas.{first_of, not_at_end}
use Rattle.iebupdte_util.proofs.edited.EditedRecords.take_both.Goals as goal

pub returns-in_ok-give_old-in-Old : goal.returns-in_ok-give_old-in-Old
returns-in_ok-give_old-in-Old c =
    let e = c.args.self.now in
    let by_cards = ap (λ (l : List CardRecord). choice_of e.ranges.now (old_held e.olds) (first_of (records_in l))) c.requires.cards in
    let held = ap (λ (o : Option (List ℕ)). choice_of e.ranges.now o (Some c.args.card.now.bytes)) (sym c.held.ensures) in
    gave_old e c.give_old.new.self c.requires.next (by_cards ∙ held ∙ sym c.choose.ensures ∙ c.in-Old.is) c.in_ok-give_old-in-Old.ensures

pub returns-in-Drop : goal.returns-in-Drop
returns-in-Drop c =
    let e = c.args.self.now in
    let by_cards = ap (λ (l : List CardRecord). choice_of e.ranges.now (old_held e.olds) (first_of (records_in l))) c.requires.cards in
    let held = ap (λ (o : Option (List ℕ)). choice_of e.ranges.now o (Some c.args.card.now.bytes)) (sym c.held.ensures) in
    gave_dropped e (record e { olds = c.pass.new.self }) c.requires.next (by_cards ∙ held ∙ sym c.choose.ensures ∙ c.in-Drop.is) c.pass.ensures refl refl refl refl

pub returns-in_ok-give_card-in-Card : goal.returns-in_ok-give_card-in-Card
returns-in_ok-give_card-in-Card c =
    let e = c.args.self.now in
    let held = ap (λ (o : Option (List ℕ)). choice_of e.ranges.now o (Some c.args.card.now.bytes)) (sym c.held.ensures) in
    gave_card e c.give_card.new.self c.requires.next c.args.card.now c.args.others.now c.requires.cards (held ∙ sym c.choose.ensures ∙ c.in-Card.is) c.in_ok-give_card-in-Card.ensures

pub returns-in_ok-give_card-in-Instead : goal.returns-in_ok-give_card-in-Instead
returns-in_ok-give_card-in-Instead c =
    let e = c.args.self.now in
    let held = ap (λ (o : Option (List ℕ)). choice_of e.ranges.now o (Some c.args.card.now.bytes)) (sym c.held.ensures) in
    let mid = c.give_card-in-Instead.new.self in
    gave_instead e (record mid { olds = c.pass-in-Instead.new.self }) c.requires.next c.args.card.now c.args.others.now c.requires.cards mid (held ∙ sym c.choose.ensures ∙ c.in-Instead.is) c.in_ok-give_card-in-Instead.ensures c.pass-in-Instead.ensures
    refl refl refl refl refl

pub returns-in-End : goal.returns-in-End
returns-in-End c =
    let e = c.args.self.now in
    let held = ap (λ (o : Option (List ℕ)). choice_of e.ranges.now o (Some c.args.card.now.bytes)) (sym c.held.ensures) in
    absurd (not_at_end e.ranges.now e.numbering (reader_given e.olds.reader) at_end c.args.card.now.bytes [] e.olds.next (held ∙ sym c.choose.ensures ∙ c.in-End.is))
