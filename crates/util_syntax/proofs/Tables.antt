-- A table of keys is one of names.
use Rattle.std.proofs.Common.{◌≡◌, ap, refl, Bool, true, false, cond, nat_eq, List, [], ◌∷◌, map, Some}
use Rattle.std.specs.Map.{lookup}
use Rattle.std.specs.Cmp.Lexicographic.{pointwise}
use Rattle.indexmap.specs.IndexMap.{insert_entry}
use Rattle.ebcdic_names.specs.declared.names.Name8.{Name8}
use Rattle.util_syntax.specs.declared.step.DdIn.{DdIn}
use Rattle.util_syntax.specs.declared.step.DdKey.{DdKey}
use Rattle.util_syntax.specs.Step.{named, same_name}

abbrev pub same_key : DdKey → DdKey → Bool
same_key key other = pointwise nat_eq key.bytes other.bytes

-- the DD of a key is that of its name
pub lookup_named : (key : DdKey) (name : Name8) → key.bytes ≡ name.bytes → (entries : List (DdKey × DdIn))
    → lookup (same_key key) entries ≡ lookup (same_name name) (map named entries)
lookup_named key name same [] = refl
lookup_named key name same (entry ∷ entries) =
    let test : same_key key entry.0 ≡ same_name name (named entry).0 = ap (λ bytes. pointwise nat_eq bytes entry.0.bytes) same in
    rw test (ap (cond (same_name name (named entry).0) (Some entry.1)) (lookup_named key name same entries))

-- putting a DD under a key puts it under its name
pub insert_named : (key : DdKey) (name : Name8) → key.bytes ≡ name.bytes → (dd : DdIn) (entries : List (DdKey × DdIn))
    → map named (insert_entry same_key entries key dd) ≡ insert_entry same_name (map named entries) name dd
insert_named key name same dd [] = ap (λ bytes. (record { bytes = bytes }, dd) ∷ []) same
insert_named key name same dd (entry ∷ entries) =
    let test : same_key key entry.0 ≡ same_name name (named entry).0 = ap (λ bytes. pointwise nat_eq bytes entry.0.bytes) same in
    let others = insert_named key name same dd entries in
    rw test (elim (same_name name (named entry).0)
    as (λ t. map named (cond t ((entry.0, dd) ∷ entries) (entry ∷ insert_entry same_key entries key dd))
    ≡ cond t (((named entry).0, dd) ∷ map named entries) (named entry ∷ insert_entry same_name (map named entries) name dd))
    [ true ↦ refl | false ↦ ap (λ es. named entry ∷ es) others ])
