-- The bytes of entries, put into a block one after the other.
use Rattle.std.proofs.Common.{◌≡◌, ◌+◌, ◌/◌, ◌≤◌, ◌<◌, ℕ, List, [], ◌∷◌, ◌++◌, length, map, take, drop, get_or, refl, sym, ap, subst, ◌∙◌, arith, append_assoc, length-append}
use Rattle.std.specs.Int.{w16, to_be_bytes}
use Rattle.std.specs.List.{concat}
use Rattle.std.proofs.lemmas.List.{append-nil, drop-drop, drop_at, length-take-le, take-append-drop, take_at, take_more}
use Rattle.chain_spec.specs.Cut.{total}
use Rattle.catalog_blocks.specs.declared.blocks.CatEntry.{CatEntry}
use Rattle.catalog_blocks.specs.Blocks.{cat_size}
use Rattle.catalog_blocks.specs.Spelling.{AreSized, IsSized, entry_bytes}

-- A part was put into bytes at an offset.
pub record IsPut (at : ℕ) (part old new : List ℕ) : Type 0 where
  pub fits : at + length part ≤ length old
  pub bytes : new ≡ take at old ++ part ++ drop (at + length part) old

-- two parts, one after the other, are one part
pub put_after : {at n : ℕ} {p q old mid new : List ℕ} → IsPut at p old mid → n ≡ at + length p → IsPut n q mid new → at + length p + length q ≤ length old → IsPut at (p ++ q) old new
put_after {at = at} {n = n} {p = p} {q = q} {old = old} {mid = mid} {new = new} first after second fits =
    let front : length (take at old ++ p) ≡ n = omega (arith, after, first.fits, length-append (take at old) p, length-take-le at old (omega (arith, first.fits))) in
    let is : mid ≡ take at old ++ p ++ drop n old = first.bytes ∙ ap (λ (k : ℕ). take at old ++ p ++ drop k old) (sym after) in
    let before : take n mid ≡ take at old ++ p = ap (take n) is ∙ take_at (take at old ++ p) (drop n old) n front in
    let rest : drop n mid ≡ drop n old = ap (drop n) is ∙ drop_at (take at old ++ p) (drop n old) n front in
    let later : drop (n + length q) mid ≡ drop (n + length q) old =
    sym (drop-drop (length q) n mid) ∙ ap (drop (length q)) rest ∙ drop-drop (length q) n old in
    let end : n + length q ≡ at + length (p ++ q) = omega (arith, after, length-append p q) in
    record {
      fits = omega (arith, fits, length-append p q);
      bytes = second.bytes
          ∙ ap (λ (xs : List ℕ). xs ++ q ++ drop (n + length q) mid) before
          ∙ ap (λ (xs : List ℕ). take at old ++ p ++ q ++ xs) later
          ∙ ap (λ (k : ℕ). take at old ++ p ++ q ++ drop k old) end
          ∙ ap (λ (xs : List ℕ). xs ++ drop (at + length (p ++ q)) old) (append_assoc (take at old) p q);
    }

-- the bytes of these entries
abbrev pub bytes_of : List CatEntry → List ℕ
bytes_of es = concat (map entry_bytes es)

-- an entry has as many bytes as its size says
pub length_entry : (e : CatEntry) → length e.name.bytes ≡ 8 → length (entry_bytes e) ≡ cat_size e
length_entry e eight =
    let track : List ℕ = to_be_bytes w16 e.place.tt in
    let rest : List ℕ = e.place.r ∷ length e.payload / 2 ∷ [] in
    omega (arith, eight, length-append (e.name.bytes ++ track ++ rest) e.payload, length-append (e.name.bytes ++ track) rest, length-append e.name.bytes track)

pub length_entries : (es : List CatEntry) → AreSized es → length (bytes_of es) ≡ total cat_size es
length_entries [] all = refl
length_entries (e ∷ es) all = omega (arith, length-append (entry_bytes e) (bytes_of es), length_entry e all.0.name, length_entries es all.1)

bytes_append : (xs ys : List CatEntry) → bytes_of (xs ++ ys) ≡ bytes_of xs ++ bytes_of ys
bytes_append [] ys = refl
bytes_append (x ∷ xs) ys = ap (λ (bs : List ℕ). entry_bytes x ++ bs) (bytes_append xs ys) ∙ sym (append_assoc (entry_bytes x) (bytes_of xs) (bytes_of ys))

total_append : (xs ys : List CatEntry) → total cat_size (xs ++ ys) ≡ total cat_size xs + total cat_size ys
total_append [] ys = omega arith
total_append (x ∷ xs) ys = omega (arith, total_append xs ys)

sized_append : (xs ys : List CatEntry) → AreSized xs → AreSized ys → AreSized (xs ++ ys)
sized_append [] ys first second = second
sized_append (x ∷ xs) ys first second = (first.0, sized_append xs ys first.1 second)

-- Entries are passed one by one: this one comes at this index.
pub record IsNext (es : List CatEntry) (i : ℕ) (e : CatEntry) : Type 0 where
  pub within : i < length es
  pub item : e ≡ get_or es i e

one_more : (es : List CatEntry) (i : ℕ) (e : CatEntry) → IsNext es i e → take (i + 1) es ≡ take i es ++ e ∷ []
one_more es i e next = take_more es i e next.within ∙ ap (λ (x : CatEntry). take i es ++ x ∷ []) (sym next.item)

pub bytes_more : (es : List CatEntry) (i : ℕ) (e : CatEntry) → IsNext es i e → bytes_of (take (i + 1) es) ≡ bytes_of (take i es) ++ entry_bytes e
bytes_more es i e next = ap bytes_of (one_more es i e next) ∙ bytes_append (take i es) (e ∷ []) ∙ ap (λ (bs : List ℕ). bytes_of (take i es) ++ bs) (append-nil (entry_bytes e))

pub total_more : (es : List CatEntry) (i : ℕ) (e : CatEntry) → IsNext es i e → total cat_size (take (i + 1) es) ≡ total cat_size (take i es) + cat_size e
total_more es i e next = omega (arith, ap (total cat_size) (one_more es i e next), total_append (take i es) (e ∷ []))

pub sized_more : (es : List CatEntry) (i : ℕ) (e : CatEntry) → IsNext es i e → AreSized (take i es) → IsSized e → AreSized (take (i + 1) es)
sized_more es i e next before here = subst AreSized (sym (one_more es i e next)) (sized_append (take i es) (e ∷ []) before (here, tt))

-- those that are passed take no more than all
pub total_within : (es : List CatEntry) (k : ℕ) → total cat_size (take k es) ≤ total cat_size es
total_within es k = omega (arith, ap (total cat_size) (take-append-drop k es), total_append (take k es) (drop k es))
