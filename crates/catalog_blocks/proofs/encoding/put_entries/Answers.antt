use Rattle.std.proofs.Common.{◌≡◌, ◌+◌, ℕ, List, ◌++◌, take, drop, sym, ap, subst, ◌∙◌, refl, arith}
use Rattle.std.proofs.lemmas.List.{append-nil, take_all, take-append-drop}
use Rattle.chain_spec.specs.Cut.{total}
use Rattle.catalog_blocks.specs.declared.blocks.CatEntry.{CatEntry}
use Rattle.catalog_blocks.specs.Blocks.{cat_size}
use Rattle.catalog_blocks.specs.Spelling.{AreSized, entry_bytes}
use Rattle.catalog_blocks.proofs.EntryBytes.{IsNext, IsPut, bytes_more, bytes_of, length_entries, length_entry, put_after, sized_more, total_more, total_within}
use Rattle.catalog_blocks.proofs.encoding.put_entries.Goals as goal

pub put_entry-at-requires : goal.put_entry-at-requires
put_entry-at-requires c =
    let es : List CatEntry = c.args.entries.now in
    let next : IsNext es c.loop-entry.entry-index c.entry-item.result = record { within = c.loop-entry-test.true; item = c.entry-item.is } in
    omega (arith, c.loop-entry.invariant.0, total_more es c.loop-entry.entry-index c.entry-item.result next, total_within es (c.loop-entry.entry-index + 1))

pub loop-entry-init : goal.loop-entry-init
loop-entry-init c = (refl, tt, record { fits = omega arith; bytes = sym (ap (λ (xs : List ℕ). xs ++ drop 2 c.args.data.now) (append-nil (take 2 c.args.data.now)) ∙ take-append-drop 2 c.args.data.now) })

pub loop-entry-preserved : goal.loop-entry-preserved
loop-entry-preserved c =
    let es : List CatEntry = c.args.entries.now in
    let i : ℕ = c.loop-entry.entry-index in
    let e : CatEntry = c.entry-item.result in
    let done = c.loop-entry.invariant in
    let next : IsNext es i e = record { within = c.loop-entry-test.true; item = c.entry-item.is } in
    let more = total_more es i e next in
    let long = length_entries (take i es) done.1 in
    let size = length_entry e c.put_entry-at.ensures.sized.name in
    let put : IsPut c.loop-entry.at (entry_bytes e) c.loop-entry.data c.put_entry-at.new.data = record {
      fits = omega (arith, size, done.0, more, total_within es (i + 1));
      bytes = c.put_entry-at.ensures.bytes ∙ ap (λ (n : ℕ). take c.loop-entry.at c.loop-entry.data ++ entry_bytes e ++ drop (c.loop-entry.at + n) c.loop-entry.data) (sym size);
    } in
    let all = put_after done.2 (omega (arith, done.0, long)) put (omega (arith, size, long, more, total_within es (i + 1))) in (
      omega (arith, done.0, more, c.put_entry-at.ensures.end),
      sized_more es i e next done.1 c.put_entry-at.ensures.sized,
      subst (λ (bs : List ℕ). IsPut 2 bs c.args.data.now c.put_entry-at.new.data) (sym (bytes_more es i e next)) all,
    )

pub returns : goal.returns
returns c =
    let es : List CatEntry = c.args.entries.now in
    let done = c.loop-entry.invariant in
    let all : take c.loop-entry.entry-index es ≡ es = take_all c.loop-entry.entry-index es (omega arith) in
    let sized = subst AreSized all done.1 in
    let put = subst (λ (xs : List CatEntry). IsPut 2 (bytes_of xs) c.args.data.now c.loop-entry.data) all done.2 in
    record {
      end = done.0 ∙ ap (λ (xs : List CatEntry). 2 + total cat_size xs) all;
      bytes = put.bytes ∙ ap (λ (n : ℕ). take 2 c.args.data.now ++ bytes_of es ++ drop (2 + n) c.args.data.now) (length_entries es sized);
      sized = sized;
    }
