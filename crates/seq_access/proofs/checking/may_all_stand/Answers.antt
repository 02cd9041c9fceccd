use Rattle.std.proofs.Common.{◌≡◌, ◌<◌, ◌+◌, ◌-◌, ℕ, Bool, List, Some, take, sym, ap, ap₂, ◌∙◌, arith}
use Rattle.std.specs.Prelude.{slice_get}
use Rattle.std.specs.List.{enumerate_from, list_all}
use Rattle.std.specs.Option.{option_map}
use Rattle.std.proofs.lemmas.List.{length-take-le, take_all}
use Rattle.ckd_image.specs.Track.{Record}
use Rattle.pack_spec.specs.Directories.{may_stand}
use Rattle.vol_model.specs.declared.contents.Place.{Place}
use Rattle.seq_access.proofs.Checked.{all_more, length-numbered, not_all, numbered, taken_within}
use Rattle.seq_access.proofs.checking.may_all_stand.Goals as goal

-- the test of the record after those that were passed
stands_next : (xs : List Record) (end : Place) (k m n : ℕ) (b : Bool) → n < m → option_map (λ (x : Record). may_stand end k (n + 1, x)) (slice_get xs (n + 1 - 1)) ≡ Some b → option_map (may_stand end k) (slice_get (enumerate_from 1 (take m xs)) n) ≡ Some b
stands_next xs end k m n b low is =
    let index : n ≡ n + 1 - 1 = omega arith in
    let number : 1 + n ≡ n + 1 = omega arith in
    numbered (may_stand end k) 1 (take m xs) n
    ∙ ap (option_map (λ (x : Record). may_stand end k (1 + n, x))) (taken_within m n xs low)
    ∙ ap₂ (λ (r i : ℕ). option_map (λ (x : Record). may_stand end k (r, x)) (slice_get xs i)) number index ∙ is

pub returns-then-not-may_stand : goal.returns-then-not-may_stand
returns-then-not-may_stand c =
    not_all (may_stand c.args.end c.args.k) (enumerate_from 1 (take c.args.count c.args.buf.now.records)) c.loop-passed.passed
    (stands_next c.args.buf.now.records c.args.end c.args.k c.args.count c.loop-passed.passed _ (omega (arith, c.loop-passed-test.true)) c.if-not-may_stand.ensures)

pub loop-passed-preserved : goal.loop-passed-preserved
loop-passed-preserved c =
    all_more (may_stand c.args.end c.args.k) (enumerate_from 1 (take c.args.count c.args.buf.now.records)) c.loop-passed.passed c.loop-passed.invariant
    (stands_next c.args.buf.now.records c.args.end c.args.k c.args.count c.loop-passed.passed _ (omega (arith, c.loop-passed-test.true)) c.if-not-may_stand.ensures)

pub returns : goal.returns
returns c =
    let ys : List Record = take c.args.count c.args.buf.now.records in
    let xs : List (ℕ × Record) = enumerate_from 1 ys in
    let all : take c.loop-passed.passed xs ≡ xs = take_all c.loop-passed.passed xs (omega (arith, length-numbered 1 ys, length-take-le c.args.count c.args.buf.now.records c.requires, c.loop-passed-test.false)) in
    sym (sym (ap (list_all (may_stand c.args.end c.args.k)) all) ∙ c.loop-passed.invariant)
