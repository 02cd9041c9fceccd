use Rattle.std.proofs.Common.{◌≡◌, ◌-◌, ℕ, suc, Some, None, Option, length, map, List, [], ◌∷◌, refl, sym, ap, ◌∙◌, arith}
use Rattle.std.specs.Prelude.{slice_get, unwrap_or}
use Rattle.std.proofs.lemmas.Option.{slice_get-get_or}
use Rattle.std.specs.List.{last_or}
use Rattle.vol_model.specs.declared.contents.Entry.{Entry}
use Rattle.pack_spec.specs.Directories.{end_name}
use Rattle.pds_directory.specs.Spelling.{block_key}
use Rattle.pds_directory.proofs.encoding.key_of.Goals as goal

-- the name of the last entry is the key of a block that isn't the last
last_name : (o : Option (List ℕ)) (es : List Entry) (e : Entry) → slice_get es (length es - 1) ≡ Some e → last_or o (map (λ (x : Entry). x.name.bytes) es) ≡ Some e.name.bytes
last_name o [] e is = cc
last_name o (x ∷ []) e is = let same : x ≡ e = cc in ap (λ (y : Entry). Some y.name.bytes) same
last_name o (x ∷ y ∷ ys) e is =
    let back : length (x ∷ y ∷ ys) - 1 ≡ suc (length (y ∷ ys) - 1) = omega arith in
    last_name (Some x.name.bytes) (y ∷ ys) e (sym (ap (slice_get (x ∷ y ∷ ys)) back) ∙ is)

-- a block without entries has the key of the last
no_name : (o : Option (List ℕ)) (es : List Entry) → slice_get es (length es - 1) ≡ None → last_or o (map (λ (x : Entry). x.name.bytes) es) ≡ o
no_name o [] is = refl
no_name o (x ∷ []) is = cc
no_name o (x ∷ y ∷ ys) is =
    let back : length (x ∷ y ∷ ys) - 1 ≡ suc (length (y ∷ ys) - 1) = omega arith in
    absurd (none_there (y ∷ ys) refl (sym (ap (slice_get (x ∷ y ∷ ys)) back) ∙ is))
  where
    none_there : (zs : List Entry) → length zs ≡ suc (length ys) → slice_get zs (length zs - 1) ≡ None → ⊥
    none_there zs long none = let there = slice_get-get_or zs (length zs - 1) y (omega (arith, long)) in cc

pub returns-then-last : goal.returns-then-last
unfolding block_key
returns-then-last c = sym (ap (block_key c.args.entries.now) c.if-last.true)

pub returns-in-Some : goal.returns-in-Some
unfolding block_key
returns-in-Some c =
    let es : List Entry = c.args.entries.now in
    let named = last_name (Some end_name) es c.in-Some.entry.now (sym c.in-Some.ensures.value) in
    ap (λ (x : Entry). x.name.bytes) c.entry.ensures ∙ sym (ap (block_key es) c.if-last.false ∙ ap (λ (o : Option (List ℕ)). unwrap_or o []) named)

pub returns-in-None : goal.returns-in-None
unfolding block_key
returns-in-None c =
    let es : List Entry = c.args.entries.now in
    sym (ap (block_key es) c.if-last.false ∙ ap (λ (o : Option (List ℕ)). unwrap_or o []) (no_name (Some end_name) es (sym c.in-None.ensures.value)))
