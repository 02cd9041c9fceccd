use Rattle.std.proofs.Common.{refl, arith, inr, sym, ◌∙◌, subst, ◌≡◌, List}
use Rattle.std.specs.Prelude.{slice_set}
use Rattle.vol_model.specs.declared.contents.Entry.{Entry}
use Rattle.stow_ops.specs.Entries.{HasEntered, IsPlaceOf, StandsAt}
use Rattle.stow_ops.proofs.EntryLists.{entered_added, entered_replaced, stands_nowhere}
use Rattle.stow_ops.proofs.entries.with_entry.Goals as goal

pub returns-then-not-stands_at-clause-entered : goal.returns-then-not-stands_at-clause-entered
returns-then-not-stands_at-clause-entered c =
    let old : List Entry = c.args.entries.items in
    let new : Entry = c.new-new.result in
    let same : new ≡ c.args.entry.now = c.new-new.ensures ∙ c.in-Ok.ensures in
    let first : c.deref.result.now ≡ old = c.deref.ensures.value in
    let second : c.deref-2.result.now ≡ old = c.deref-2.ensures.value in
    let place : IsPlaceOf old new c.place_of-at.result = subst (λ (l : List Entry). IsPlaceOf l new c.place_of-at.result) first c.place_of-at.ensures.place in
    subst (λ (e : Entry). HasEntered e old c.insert.new.self.items) same
    (entered_added new old c.insert.new.self.items c.place_of-at.result (omega arith) place (λ there. c.if-not-stands_at.ensures.free refl (subst (λ (l : List Entry). StandsAt l new c.place_of-at.result) (sym second) there)) c.in-Ok-insert.ensures.items)

pub returns-then-not-stands_at-clause-replaced : goal.returns-then-not-stands_at-clause-replaced
returns-then-not-stands_at-clause-replaced c =
    let old : List Entry = c.args.entries.items in
    let new : Entry = c.new-new.result in
    let same : new ≡ c.args.entry.now = c.new-new.ensures ∙ c.in-Ok.ensures in
    let first : c.deref.result.now ≡ old = c.deref.ensures.value in
    let second : c.deref-2.result.now ≡ old = c.deref-2.ensures.value in
    let place : IsPlaceOf old new c.place_of-at.result = subst (λ (l : List Entry). IsPlaceOf l new c.place_of-at.result) first c.place_of-at.ensures.place in
    inr (λ at there. stands_nowhere old new c.place_of-at.result c.requires.rise place (λ there. c.if-not-stands_at.ensures.free refl (subst (λ (l : List Entry). StandsAt l new c.place_of-at.result) (sym second) there)) at (subst (λ (e : Entry). StandsAt old e at) (sym same) there))

pub returns-clause-entered : goal.returns-clause-entered
returns-clause-entered c =
    let old : List Entry = c.args.entries.items in
    let new : Entry = c.new-new.result in
    let same : new ≡ c.args.entry.now = c.new-new.ensures ∙ c.in-Ok.ensures in
    let first : c.deref.result.now ≡ old = c.deref.ensures.value in
    let second : c.deref-2.result.now ≡ old = c.deref-2.ensures.value in
    let place : IsPlaceOf old new c.place_of-at.result = subst (λ (l : List Entry). IsPlaceOf l new c.place_of-at.result) first c.place_of-at.ensures.place in
    let there : StandsAt old new c.place_of-at.result = subst (λ (l : List Entry). StandsAt l new c.place_of-at.result) second (c.if-not-stands_at.ensures.stands refl) in
    subst (λ (e : Entry). HasEntered e old (slice_set old c.place_of-at.result new)) same (entered_replaced new old (slice_set old c.place_of-at.result new) c.place_of-at.result place there refl)
