use Rattle.std.proofs.Common.{◌∙◌, arith, length, ◌<◌, below_more}
use Rattle.std.proofs.lemmas.List.{length-map}
use Rattle.std.proofs.lemmas.Slice.Eq.{bytes_eq-Decides}
use Rattle.hall_core.specs.Held.{file_of_pair, files_of, attached_as, shapes_of}
use Rattle.hall_core.proofs.UnitLemmas.{none_named, named_at}
use Rattle.hall_core.proofs.mem_hall.pairs.first_named.Goals as goal

pub returns-then-eq : goal.returns-then-eq
returns-then-eq c =
    let pairs = c.args.files.now in
    let same = (bytes_eq-Decides _ _).0 (named_at pairs c.loop-place.place c.index-files-place.result c.as_str.result.now c.args.name.now _ (omega arith) c.index-files-place.is c.as_str.ensures.value c.eq.ensures ∙ c.if-eq.true) in
    let inside : c.loop-place.place < length (shapes_of (files_of pairs)) = omega (arith, length-map (files_of pairs) attached_as, length-map pairs file_of_pair) in
    (record { inside = inside; before = λ k low named. c.loop-place.invariant k low (named ∙ same) }, same)

pub loop-place-preserved : goal.loop-place-preserved
loop-place-preserved c =
    let pairs = c.args.files.now in
    below_more _ _ c.loop-place.invariant (λ same. absurd (cc ((bytes_eq-Decides _ _).1 same, named_at pairs c.loop-place.place c.index-files-place.result c.as_str.result.now c.args.name.now _ (omega arith) c.index-files-place.is c.as_str.ensures.value c.eq.ensures ∙ c.if-eq.false)))

pub returns : goal.returns
returns c =
    let pairs = c.args.files.now in
    none_named (files_of pairs) c.args.name.now (λ k low. c.loop-place.invariant k (omega (arith, low, length-map pairs file_of_pair)))
