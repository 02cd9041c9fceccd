use Rattle.std.proofs.Common.{◌≡◌, ℕ, List, [], Option, Some, None, codes, map, option_map, unwrap_or, ap, sym, ◌∙◌, refl}
use Rattle.std.specs.Borrow.{Bor}
use Rattle.clap.specs.Words.{all_of, first_of, found_of, rows_of}
use Rattle.clap.proofs.WalkLemmas.{first_value-rows, raw_values-rows}
use Rattle.command_words.specs.Command.{Parts}
use Rattle.command_words.proofs.command.parts.Goals as goal

-- the texts after references, or none
texts_or_none : (o : Option (Bor (List (Bor (List ℕ))))) (else : Bor (List (Bor (List ℕ)))) → else.now ≡ [] →
    map (λ s. s.now) (unwrap_or o else).now ≡ unwrap_or (option_map (λ s. map (λ v. v.now) s.now) o) []
texts_or_none None else none = ap (map (λ (s : Bor (List ℕ)). s.now)) none
texts_or_none (Some s) else none = refl

pub returns : goal.returns
returns c =
    let f = found_of c.args.matches.now in
    rw (
      c.get_str.ensures ∙ first_value-rows f (codes "ACTION"),
      c.get_str-2.ensures ∙ first_value-rows f (codes "date"),
      c.get_str-3.ensures ∙ first_value-rows f (codes "type"),
      c.get_str-4.ensures ∙ first_value-rows f (codes "serial"),
      c.get_str-5.ensures ∙ first_value-rows f (codes "vtoc"),
      c.get_str-6.ensures ∙ first_value-rows f (codes "cyls"),
      c.get_str-7.ensures ∙ first_value-rows f (codes "count"),
      ap (map (λ (s : Bor (List ℕ)). s.now)) (c.in_ok-from_slice.ensures.items ∙ ap (λ (s : Bor (List (Bor (List ℕ)))). s.now) c.unwrap_or.ensures)
          ∙ texts_or_none c.get_strs.result _ refl ∙ ap (λ (o : Option (List (List ℕ))). unwrap_or o []) (c.get_strs.ensures ∙ raw_values-rows f (codes "FILE")),
    ) refl
