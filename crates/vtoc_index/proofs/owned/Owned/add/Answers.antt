-- The extents of a data set lie on the pack.
use Rattle.std.proofs.Common.{◌≡◌, ◌+◌, ◌++◌, ℕ, List, true, cond, map, length, nat_lt, sym, ap, subst, ◌∙◌}
use Rattle.std.specs.Prelude.{nat_le}
use Rattle.std.specs.List.{list_all}
use Rattle.std.proofs.lemmas.Bool.{and_parts}
use Rattle.std.proofs.lemmas.List.{length-map}
use Rattle.pack_spec.specs.Rules.{counted_extents, has_extents}
use Rattle.pack_spec.specs.Vtoc.{is_extent, run_of_extent}
use Rattle.pack_spec.specs.Volume.{data_set_of}
use Rattle.vtoc_index.proofs.GoodSets.{all_on_pack}
use Rattle.vtoc_index.proofs.owned.Owned.add.Goals as goal

pub push_runs-requires-clause-good : goal.push_runs-requires-clause-good
unfolding has_extents
push_runs-requires-clause-good c =
    let g = c.args.geometry in
    let counted = counted_extents c.args.slots.now c.args.set.now in
    subst (λ (l : List (List ℕ)). list_all (is_extent g) l ≡ true) (sym (c.deref.ensures.value ∙ c.in_ok-rows.ensures)) (and_parts (nat_le c.args.set.now.extents 16) (list_all (is_extent g) counted) c.requires.good).1

pub returns-clause-more : goal.returns-clause-more
unfolding data_set_of has_extents
returns-clause-more c tracks =
    let g = c.args.geometry in
    let old = c.args.self.now in
    let counted = counted_extents c.args.slots.now c.args.set.now in
    let rows = c.deref.ensures.value ∙ c.in_ok-rows.ensures in
    let many : c.len.result ≡ length (map (run_of_extent g) counted) = c.len.ensures ∙ sym c.deref.ensures.len ∙ ap length rows ∙ sym (length-map counted (run_of_extent g)) in
    record {
      runs = c.in_ok-push_runs.ensures ∙ ap (λ (l : List (List ℕ)). old.runs.items ++ map (run_of_extent g) l) rows;
      slots = ap (λ (n : ℕ). old.slots + n) (c.slots_of_set.ensures ∙ ap (λ (n : ℕ). cond (nat_lt 3 n) 2 1) many);
      inside = all_on_pack g counted (and_parts (nat_le c.args.set.now.extents 16) (list_all (is_extent g) counted) c.requires.good).1;
    }
