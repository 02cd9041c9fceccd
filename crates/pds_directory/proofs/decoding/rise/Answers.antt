use Rattle.std.proofs.Common.{◌≡◌, ◌+◌, ◌<◌, ℕ, suc, List, ◌∷◌, length, drop, get_or, sym, ap, ◌∙◌, arith}
use Rattle.std.specs.Prelude.{◌&&◌, nat_le}
use Rattle.std.proofs.lemmas.Bool.{le-leb, lt-leb}
use Rattle.std.proofs.lemmas.List.{drop_all, drop_more}
use Rattle.vol_model.specs.declared.contents.Entry.{Entry}
use Rattle.pack_spec.specs.Directories.{name_number, rise_from}
use Rattle.pds_directory.proofs.decoding.rise.Goals as goal

-- the entry at an index, and those after it
at_entry : (bound i : ℕ) (es : List Entry) (e : Entry) → i < length es → e ≡ get_or es i e → rise_from bound (drop i es) ≡ (nat_le bound (name_number e) && rise_from (suc (name_number e)) (drop (i + 1) es))
at_entry bound i es e within item =
    ap (rise_from bound) (drop_more es i e within ∙ ap (λ (x : Entry). x ∷ drop (i + 1) es) (sym item))

pub returns-then-number-bound : goal.returns-then-number-bound
returns-then-number-bound c =
    let es : List Entry = c.args.entries.now in
    let e : Entry = c.entry-item.result in
    let i : ℕ = c.loop-entry.entry-index in
    let number : c.from-number.result ≡ name_number e = c.from-number.ensures ∙ c.from_be_bytes.ensures ∙ ap name_number c.entry.ensures in
    sym (c.loop-entry.invariant ∙ at_entry c.loop-entry.bound i es e c.loop-entry-test.true c.entry-item.is
    ∙ ap (λ b. b && rise_from (suc (name_number e)) (drop (i + 1) es)) (lt-leb c.loop-entry.bound (name_number e) (omega (arith, number))))

pub loop-entry-preserved : goal.loop-entry-preserved
loop-entry-preserved c =
    let es : List Entry = c.args.entries.now in
    let e : Entry = c.entry-item.result in
    let i : ℕ = c.loop-entry.entry-index in
    let number : c.from-number.result ≡ name_number e = c.from-number.ensures ∙ c.from_be_bytes.ensures ∙ ap name_number c.entry.ensures in
    let next : suc (name_number e) ≡ c.from-number.result + 1 = omega (arith, number) in
    c.loop-entry.invariant ∙ at_entry c.loop-entry.bound i es e c.loop-entry-test.true c.entry-item.is
    ∙ ap (λ b. b && rise_from (suc (name_number e)) (drop (i + 1) es)) (le-leb c.loop-entry.bound (name_number e) (omega (arith, number)))
    ∙ ap (λ n. rise_from n (drop (i + 1) es)) next

pub returns : goal.returns
returns c = sym (c.loop-entry.invariant ∙ ap (rise_from c.loop-entry.bound) (drop_all c.loop-entry.entry-index c.args.entries.now c.loop-entry-test.false))
