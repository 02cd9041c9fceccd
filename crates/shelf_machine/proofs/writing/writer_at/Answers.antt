use Rattle.std.proofs.Common.{Some, refl, sym, ap, ◌∙◌}
use Rattle.std.specs.Prelude.{slice_get}
use Rattle.shelf_machine.proofs.BegunSets.{begun_at}
use Rattle.shelf_machine.proofs.writing.writer_at.Goals as goal

pub returns-clause-begun : goal.returns-clause-begun
returns-clause-begun g c shelf n has none begins =
    let items = c.args.vol.now.slots.items in
    begun_at shelf n c.args.vol.now has c.args.dsn.now c.args.mode c.args.front _ (sym c.find.ensures ∙ c.in-Some.is ∙ ap (λ s. Some s) (sym c.in-Ok.ensures.slot)) refl refl
    (λ image f at. c.in-Ok.ensures.writing image f (ap (slice_get items) (sym c.in-Ok.ensures.slot) ∙ at)) none begins

pub returns-clause-slot : goal.returns-clause-slot
returns-clause-slot g c =
    (sym c.find.ensures ∙ c.in-Some.is ∙ ap (λ s. Some s) (sym c.in-Ok.ensures.slot), sym c.is_catalog.ensures ∙ c.if-is_catalog.false)

pub returns-clause-target : goal.returns-clause-target
returns-clause-target g c = record { number = refl; name = refl; purpose = refl; opened = refl }
