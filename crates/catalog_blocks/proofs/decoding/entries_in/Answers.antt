use Rattle.std.proofs.Common.{◌≡◌, ◌+◌, ◌-◌, ◌≤◌, ◌++◌, ℕ, List, [], ◌∷◌, length, take, drop, Ok, sym, ap, ◌∙◌, arith}
use Rattle.std.proofs.lemmas.List.{append-nil, take_rest}
use Rattle.catalog_blocks.specs.declared.blocks.CatEntry.{CatEntry}
use Rattle.catalog_blocks.specs.Blocks.{front_length, front_place}
use Rattle.catalog_blocks.proofs.EntryReads.{after, after_none, inside, one_more, read, read_broken, read_link}
use Rattle.catalog_blocks.proofs.decoding.entries_in.Goals as goal

pub loop-rest-init : goal.loop-rest-init
loop-rest-init c = (
  sym (ap (λ (es : List CatEntry). after es (read 2 0 c.args.bytes.now)) c.new-entries.ensures ∙ after_none (read 2 0 c.args.bytes.now)),
  omega arith,
)

pub returns-then-is_link : goal.returns-then-is_link
returns-then-is_link c =
    let rest : List ℕ = c.loop-rest.rest.now in
    let done : List CatEntry = c.loop-rest.entries in
    let whole = sym c.breaks.ensures ∙ c.loop-rest-test.true in
    c.loop-rest.invariant.0
    ∙ ap (after done) (read_link c.loop-rest.at c.loop-rest.bound rest whole (sym c.is_link.ensures ∙ c.if-is_link.true))
    ∙ ap (λ (es : List CatEntry). Ok (record { entries = es; next = front_place rest })) (append-nil done)
    ∙ ap (λ p. Ok (record { entries = done; next = p })) (sym c.front_place-next.ensures)

pub loop-rest-preserved : goal.loop-rest-preserved
loop-rest-preserved c =
    let rest : List ℕ = c.loop-rest.rest.now in
    let done : List CatEntry = c.loop-rest.entries in
    let whole = sym c.breaks.ensures ∙ c.loop-rest-test.true in
    let len : ℕ = c.front_length-len.result in
    let low : len ≤ length rest = omega (arith, c.front_length-len.ensures, inside c.loop-rest.bound rest whole) in
    let left : take (length rest - len) (drop len rest) ≡ drop (front_length rest) rest = take_rest rest len ∙ ap (λ (n : ℕ). drop n rest) c.front_length-len.ensures in
    let pushed : c.push.new.self ≡ done ++ c.in-Ok.entry ∷ [] = c.in-Ok-push.ensures.ok in (
      one_more c.args.bytes.now rest (take (length rest - len) (drop len rest)) c.loop-rest.at c.loop-rest.bound (c.loop-rest.at + len) (c.front_number-bound.result + 1) done c.push.new.self
          c.loop-rest.invariant.0 whole (sym c.is_link.ensures ∙ c.if-is_link.false) (pushed ∙ ap (λ (x : CatEntry). done ++ x ∷ []) c.in-Ok.ensures) left
          (ap (λ (n : ℕ). c.loop-rest.at + n) c.front_length-len.ensures) (omega (arith, c.front_number-bound.ensures)),
      omega (arith, c.loop-rest.invariant.1, low),
    )

pub returns : goal.returns
returns c =
    c.loop-rest.invariant.0
    ∙ ap (after c.loop-rest.entries) (read_broken c.loop-rest.at c.loop-rest.bound c.loop-rest.rest.now (sym c.breaks.ensures ∙ c.loop-rest-test.false))
