use Rattle.std.proofs.Common.{ℕ, List, sym, ◌∙◌, ap, refl}
use Rattle.std.specs.Prelude.{Option, None}
use Rattle.update_forms.specs.declared.records.CardRecord.{CardRecord}
use Rattle.iebupdte_util.specs.Edited.{old_held}
use Rattle.update_forms.specs.Merging.{choice_of}
use Rattle.update_forms.specs.Records.{records_in}
use Rattle.iebupdte_util.proofs.GaveLemmas.{gave_dropped, gave_none, gave_old}
use Rattle.iebupdte_util.proofs.StepLemmas.{first_of}
use Rattle.iebupdte_util.proofs.edited.EditedRecords.take_old.Goals as goal

pub returns-in_ok-give_old-in-Old : goal.returns-in_ok-give_old-in-Old
returns-in_ok-give_old-in-Old c =
    let e = c.args.self.now in
    let by_cards = ap (λ (l : List CardRecord). choice_of e.ranges.now (old_held e.olds) (first_of (records_in l))) c.requires.cards in
    let held = ap (λ (o : Option (List ℕ)). choice_of e.ranges.now o None) (sym c.held.ensures) in
    gave_old e c.give_old.new.self c.requires.next (by_cards ∙ held ∙ sym c.choose.ensures ∙ c.in-Old.is) c.in_ok-give_old-in-Old.ensures

pub returns-in-Drop : goal.returns-in-Drop
returns-in-Drop c =
    let e = c.args.self.now in
    let by_cards = ap (λ (l : List CardRecord). choice_of e.ranges.now (old_held e.olds) (first_of (records_in l))) c.requires.cards in
    let held = ap (λ (o : Option (List ℕ)). choice_of e.ranges.now o None) (sym c.held.ensures) in
    gave_dropped e (record e { olds = c.pass.new.self }) c.requires.next (by_cards ∙ held ∙ sym c.choose.ensures ∙ c.in-Drop.is) c.pass.ensures refl refl refl refl

pub returns-in_default : goal.returns-in_default
returns-in_default c =
    let e = c.args.self.now in
    let held = ap (λ (o : Option (List ℕ)). choice_of e.ranges.now o None) (sym c.held.ensures) in
    gave_none e c.requires.next c.requires.cards (λ is. c.in_default.not-Old (c.choose.ensures ∙ sym held ∙ is)) (λ is. c.in_default.not-Drop (c.choose.ensures ∙ sym held ∙ is))
