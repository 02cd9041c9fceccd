-- The entries of a chain's blocks, and when blocks suit it.
use Rattle.std.proofs.Common.{◌≡◌, ◌⊎◌, inl, inr, ℕ, suc, Bool, true, false, cond, List, [], ◌∷◌, ◌++◌, length, map, drop, Some, refl, sym, ap, ◌∙◌, arith, append_assoc, append-nil, length-append}
use Rattle.std.specs.Prelude.{◌==◌, ◌&&◌, ◌||◌, not, nat_le, slice_get}
use Rattle.std.specs.List.{list_all}
use Rattle.std.proofs.lemmas.Bool.{and_from, and_parts, ne_eqb}
use Rattle.chain_spec.specs.Kept.{bound_after, joined, kept, kept_from}
use Rattle.chain_spec.proofs.KeptLemmas.{after-append, kept-append}
use Rattle.catalog_blocks.specs.declared.blocks.CatEntry.{CatEntry}
use Rattle.catalog_blocks.specs.Blocks.{name_number}
use Rattle.catalog_blocks.specs.declared.chains.Level.{Level}
use Rattle.catalog_blocks.specs.declared.chains.Chain.{Chain}
use Rattle.catalog_blocks.specs.Trees.{entries_of, fits_group, is_control, is_group, kept_after, located_entries, with_block}
use Rattle.catalog_laws.specs.Forests.{SuitFrom}
use Rattle.catalog_laws.specs.Writes.{fit}

-- an entry with the number of the block that holds it, and without
abbrev pub entry_in : ℕ × CatEntry → CatEntry
entry_in p = p.1

abbrev pub list_in : ℕ × List CatEntry → List CatEntry
list_in b = b.1

map_append : (xs ys : List (ℕ × CatEntry)) → map entry_in (xs ++ ys) ≡ map entry_in xs ++ map entry_in ys
map_append [] ys = refl
map_append (x ∷ xs) ys = ap (λ (zs : List CatEntry). x.1 ∷ zs) (map_append xs ys)

numbered : (k : ℕ) (es : List CatEntry) → map entry_in (map (λ (e : CatEntry). (k, e)) es) ≡ es
numbered k [] = refl
numbered k (e ∷ es) = ap (λ (zs : List CatEntry). e ∷ zs) (numbered k es)

pub located_joined : (bs : List (ℕ × List CatEntry)) → map entry_in (located_entries bs) ≡ joined (map list_in bs)
located_joined [] = refl
located_joined (b ∷ bs) =
    map_append (map (λ (e : CatEntry). (b.0, e)) b.1) (located_entries bs)
    ∙ ap (λ (zs : List CatEntry). zs ++ map entry_in (located_entries bs)) (numbered b.0 b.1)
    ∙ ap (λ (zs : List CatEntry). b.1 ++ zs) (located_joined bs)

kept_located : (t : ℕ) (ps : List (ℕ × CatEntry)) → map entry_in (kept_from (λ (p : ℕ × CatEntry). name_number p.1) t ps) ≡ kept_from name_number t (map entry_in ps)
kept_located t [] = refl
kept_located t (p ∷ ps) = by (nat_le t (name_number p.1)) (kept_located (suc (name_number p.1)) ps) (kept_located t ps)
  where
    by : (b : Bool) → map entry_in (kept_from (λ (q : ℕ × CatEntry). name_number q.1) (suc (name_number p.1)) ps) ≡ kept_from name_number (suc (name_number p.1)) (map entry_in ps)
        → map entry_in (kept_from (λ (q : ℕ × CatEntry). name_number q.1) t ps) ≡ kept_from name_number t (map entry_in ps)
        → map entry_in (cond b (p ∷ kept_from (λ (q : ℕ × CatEntry). name_number q.1) (suc (name_number p.1)) ps) (kept_from (λ (q : ℕ × CatEntry). name_number q.1) t ps))
        ≡ cond b (p.1 ∷ kept_from name_number (suc (name_number p.1)) (map entry_in ps)) (kept_from name_number t (map entry_in ps))
    by true first second = ap (λ (zs : List CatEntry). p.1 ∷ zs) first
    by false first second = second

drop_one : (xs : List (ℕ × CatEntry)) → map entry_in (drop 1 xs) ≡ drop 1 (map entry_in xs)
drop_one [] = refl
drop_one (x ∷ xs) = refl

-- the entries of a chain, by those of its blocks
pub entries_by : (c : Chain) → entries_of c ≡ drop 1 (kept name_number (joined (map list_in c.blocks)))
entries_by c =
    drop_one (kept (λ (p : ℕ × CatEntry). name_number p.1) (located_entries c.blocks))
    ∙ ap (drop 1) (kept_located 0 (located_entries c.blocks) ∙ ap (kept name_number) (located_joined c.blocks))

all_append : (xs ys : List CatEntry) → list_all fits_group (xs ++ ys) ≡ (list_all fits_group xs && list_all fits_group ys)
all_append [] ys = refl
all_append (x ∷ xs) ys = by (fits_group x) (all_append xs ys)
  where
    by : (b : Bool) → list_all fits_group (xs ++ ys) ≡ (list_all fits_group xs && list_all fits_group ys) → (b && list_all fits_group (xs ++ ys)) ≡ ((b && list_all fits_group xs) && list_all fits_group ys)
    by true e = e
    by false e = refl

fit_parts : (level : Level) (xs ys : List CatEntry) → fit level (xs ++ ys) ≡ true → (fit level xs ≡ true) × (fit level ys ≡ true)
fit_parts level xs ys is = by (is_group level) (sym (ap (λ (t : Bool). not (is_group level) || t) (all_append xs ys)) ∙ is)
  where
    by : (g : Bool) → (not g || (list_all fits_group xs && list_all fits_group ys)) ≡ true → ((not g || list_all fits_group xs) ≡ true) × ((not g || list_all fits_group ys) ≡ true)
    by true e = and_parts (list_all fits_group xs) (list_all fits_group ys) e
    by false e = (refl, refl)

fit_both : (level : Level) (xs ys : List CatEntry) → fit level xs ≡ true → fit level ys ≡ true → fit level (xs ++ ys) ≡ true
fit_both level xs ys first second = ap (λ (t : Bool). not (is_group level) || t) (all_append xs ys) ∙ by (is_group level) first second
  where
    by : (g : Bool) → (not g || list_all fits_group xs) ≡ true → (not g || list_all fits_group ys) ≡ true → (not g || (list_all fits_group xs && list_all fits_group ys)) ≡ true
    by true e f = and_from (list_all fits_group xs) (list_all fits_group ys) e f
    by false e f = refl

-- what stands in a chain so far sets this bound
abbrev bound_of : Chain → ℕ
bound_of c = bound_after name_number 0 (map entry_in (located_entries c.blocks))

located_more : (c : Chain) (k : ℕ) (es : List CatEntry) → map entry_in (located_entries (c.blocks ++ (k, es) ∷ [])) ≡ map entry_in (located_entries c.blocks) ++ es
located_more c k es = on c.blocks
  where
    on : (bs : List (ℕ × List CatEntry)) → map entry_in (located_entries (bs ++ (k, es) ∷ [])) ≡ map entry_in (located_entries bs) ++ es
    on [] = ap (map entry_in) (append-nil (map (λ (e : CatEntry). (k, e)) es)) ∙ numbered k es
    on (b ∷ bs) =
        map_append (map (λ (e : CatEntry). (b.0, e)) b.1) (located_entries (bs ++ (k, es) ∷ []))
        ∙ ap (λ (zs : List CatEntry). map entry_in (map (λ (e : CatEntry). (b.0, e)) b.1) ++ zs) (on bs)
        ∙ sym (append_assoc (map entry_in (map (λ (e : CatEntry). (b.0, e)) b.1)) (map entry_in (located_entries bs)) es)
        ∙ ap (λ (zs : List CatEntry). zs ++ es) (sym (map_append (map (λ (e : CatEntry). (b.0, e)) b.1) (located_entries bs)))

-- blocks suit a chain so far that has a block, or of which the first begins with the control entry, where under a group the names of all that is kept of them fit
pub suit_on : (c : Chain) (bs : List (ℕ × List CatEntry)) → ((length c.blocks == 0) ≡ false) ⊎ ((b : ℕ × List CatEntry) → slice_get bs 0 ≡ Some b → is_control c.level (slice_get b.1 0) ≡ true)
    → fit c.level (kept_from name_number (bound_of c) (joined (map list_in bs))) ≡ true → SuitFrom c bs
suit_on c [] begins fits = tt
suit_on c (b ∷ bs) begins fits =
    let split = kept-append name_number (bound_of c) b.1 (joined (map list_in bs)) in
    let parts = fit_parts c.level (kept_after c b.1) (kept_from name_number (bound_after name_number (bound_of c) b.1) (joined (map list_in bs))) (sym (ap (fit c.level) split) ∙ fits) in
    let bound : bound_after name_number (bound_of c) b.1 ≡ bound_of (with_block c b.0 b.1) = sym (ap (bound_after name_number 0) (located_more c b.0 b.1) ∙ after-append name_number 0 (map entry_in (located_entries c.blocks)) b.1) in (
      and_from (not (length c.blocks == 0) || is_control c.level (slice_get b.1 0)) (fit c.level (kept_after c b.1)) (here begins) parts.0,
      suit_on (with_block c b.0 b.1) bs (inl (ne_eqb (length (c.blocks ++ (b.0, b.1) ∷ [])) 0 (λ e. omega (arith, e, length-append c.blocks ((b.0, b.1) ∷ [])))))
          (ap (λ (t : ℕ). fit c.level (kept_from name_number t (joined (map list_in bs)))) (sym bound) ∙ parts.1),
    )
  where
    here : ((length c.blocks == 0) ≡ false) ⊎ ((x : ℕ × List CatEntry) → slice_get (b ∷ bs) 0 ≡ Some x → is_control c.level (slice_get x.1 0) ≡ true) → (not (length c.blocks == 0) || is_control c.level (slice_get b.1 0)) ≡ true
    here (inl some) = ap (λ (t : Bool). not t || is_control c.level (slice_get b.1 0)) some
    here (inr first) = by (not (length c.blocks == 0)) (first b refl)
      where
        by : (t : Bool) → is_control c.level (slice_get b.1 0) ≡ true → (t || is_control c.level (slice_get b.1 0)) ≡ true
        by true e = refl
        by false e = e

-- of blocks that suit a chain so far the names of all that is kept of them fit, under a group
pub suit_fits : (c : Chain) (bs : List (ℕ × List CatEntry)) → SuitFrom c bs → fit c.level (kept_from name_number (bound_of c) (joined (map list_in bs))) ≡ true
suit_fits c [] suit = by (is_group c.level)
  where
    by : (g : Bool) → (not g || true) ≡ true
    by true = refl
    by false = refl
suit_fits c (b ∷ bs) suit =
    let split = kept-append name_number (bound_of c) b.1 (joined (map list_in bs)) in
    let bound : bound_after name_number (bound_of c) b.1 ≡ bound_of (with_block c b.0 b.1) = sym (ap (bound_after name_number 0) (located_more c b.0 b.1) ∙ after-append name_number 0 (map entry_in (located_entries c.blocks)) b.1) in
    let here = (and_parts (not (length c.blocks == 0) || is_control c.level (slice_get b.1 0)) (fit c.level (kept_after c b.1)) suit.0).1 in
    let rest = ap (λ (t : ℕ). fit c.level (kept_from name_number t (joined (map list_in bs)))) bound ∙ suit_fits (with_block c b.0 b.1) bs suit.1 in
    ap (fit c.level) split ∙ fit_both c.level (kept_after c b.1) (kept_from name_number (bound_after name_number (bound_of c) b.1) (joined (map list_in bs))) here rest
