use Rattle.std.proofs.Common.{◌≡◌, ◌<◌, ◌∙◌, List, length, get_or, false, true, sym, ap, rules, arith}
use Rattle.std.proofs.lemmas.List.{get_or-map, length-map}
use Rattle.hall_files.specs.FileHall.{notes_of}
use Rattle.hall_files.specs.declared.file_hall.Unit.{Unit}
use Rattle.hall_files.proofs.file_hall.FileHall.sync_written.Goals as goal

pub returns-in_err-sync_data : goal.returns-in_err-sync_data
returns-in_err-sync_data g c = record {
  none = λ all.
      let units = c.args.self.now.units.items in
      let at = c.loop-unit.unit-index in
      let unit = c.unit-item.result in
      let low : at < length units = search rules in
      let here : unit ≡ get_or units at unit = c.unit-item.is ∙ ap (λ (us : List Unit). get_or us at unit) c.deref-unit-items.ensures.value in
      let note : get_or (notes_of c.args.self.now) at false ≡ unit.is_written = get_or-map (λ (u : Unit). u.is_written) units at unit false low ∙ ap (λ (u : Unit). u.is_written) (sym here) in
      let clear = all at false (omega (arith, low, length-map units (λ (u : Unit). u.is_written))) in
      let no : true ≡ false = sym (note ∙ c.if-unit.true) ∙ clear in
      absurd (cc no);
}
