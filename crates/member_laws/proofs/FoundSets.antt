-- The set of a name among those of a volume: where one is changed, and where they are put in order.
use Rattle.std.proofs.Common.{◌≡◌, ◌<◌, ◌⊎◌, inl, inr, ⊎_elim, ℕ, zero, suc, Bool, true, false, cond, List, [], ◌∷◌, length, get_or, map, refl, sym, ◌∙◌, ap, subst, arith}
use Rattle.std.proofs.lemmas.List.Elements.{All-from_recursion, Contains-append_right}
use Rattle.std.specs.Prelude.{Contains, Option, Some, None, find, option_map, if◌then◌else◌}
use Rattle.std.specs.Option.{option_map_or}
use Rattle.std.specs.Str.{bytes_eq}
use Rattle.ebcdic_names.specs.declared.names.Dsn.{Dsn}
use Rattle.vol_model.specs.declared.contents.Block.{Block}
use Rattle.vol_model.specs.declared.contents.Body.TheVariants as bodies
use Rattle.vol_model.specs.declared.contents.DataSet.{DataSet}
use Rattle.vol_model.specs.declared.contents.Entry.{Entry}
use Rattle.vol_model.specs.declared.contents.Volume.{Volume}
use Rattle.vol_model.specs.Order.{IsAscending, is_before}
use Rattle.vol_model.specs.Shelf.{changed, has_name, set_of, with_set}
use Rattle.shelf_laws.proofs.SetChanges.{KeepsNames, behind_named, named_so}
use Rattle.member_laws.specs.Members.{HoldsMember}
use Rattle.member_laws.proofs.OnVolumes.{body_in}

-- ---- the first that passes

module _ {X : Type 0} (t : X → Bool) where
  -- it is among the list, and passes
  pub find_among : (xs : List X) (x : X) → find t xs ≡ Some x → Contains xs x × (t x ≡ true)
  find_among [] x found = cc
  find_among (y ∷ xs) x found = by_test (λ is. find_among xs x is) (t y) refl found
    where
      by_test : (find t xs ≡ Some x → Contains xs x × (t x ≡ true)) → (b : Bool) → t y ≡ b → cond b (Some y) (find t xs) ≡ Some x → Contains (y ∷ xs) x × (t x ≡ true)
      by_test rest true e is = let same : y ≡ x = cc in ((0, omega arith, same), ap t (sym same) ∙ e)
      by_test rest false e is = let behind = rest is in (Contains-append_right (y ∷ []) xs x behind.0, behind.1)

contains_map : {X Y : Type 0} (f : X → Y) (xs : List X) (x : X) (k : ℕ) → k < length xs → get_or xs k x ≡ x → Contains (map f xs) (f x)
contains_map f [] x k lt at = absurd (omega arith)
contains_map f (y ∷ xs) x zero lt at = (0, omega arith, ap f at)
contains_map f (y ∷ xs) x (suc k) lt at = Contains-append_right (f y ∷ []) (map f xs) (f x) (contains_map f xs x k (omega arith) at)

pub among_map : {X Y : Type 0} (f : X → Y) (xs : List X) (x : X) → Contains xs x → Contains (map f xs) (f x)
among_map f xs x among = contains_map f xs x among.0 among.1 among.2

-- ---- sets in ascending order

module _ (name : List ℕ) (x : DataSet) (named : has_name name x ≡ true) where
  found_at : (sets : List DataSet) (k : ℕ) → k < length sets → get_or sets k x ≡ x → IsAscending sets → find (has_name name) sets ≡ Some x
  found_at [] k lt at up = absurd (omega arith)
  found_at (y ∷ sets) zero lt at up = ap (λ b. cond b (Some y) (find (has_name name) sets)) (ap (has_name name) at ∙ named) ∙ ap (λ (z : DataSet). Some z) at
  found_at (y ∷ sets) (suc k) lt at up = by_name (found_at sets k (omega arith) at up.1) (has_name name y) refl
    where
      by_name : find (has_name name) sets ≡ Some x → (b : Bool) → has_name name y ≡ b → cond b (Some y) (find (has_name name) sets) ≡ Some x
      by_name rest true e =
          let before : is_before y x ≡ true = subst (λ (z : DataSet). is_before y z ≡ true) at (All-from_recursion (λ (z : DataSet). is_before y z ≡ true) sets up.0 k x (omega arith)) in
          absurd (behind_named name y x e before named)
      by_name rest false e = rest

-- of the sets that ascend the one of a name is found
pub found_among : (name : List ℕ) (sets : List DataSet) (x : DataSet) → IsAscending sets → Contains sets x → has_name name x ≡ true → find (has_name name) sets ≡ Some x
found_among name sets x up among named = found_at name x named sets among.0 among.1 among.2 up

-- ---- the set of a member

-- The set in which a member stands.
pub record MemberSet (name : List ℕ) (volume : Volume) (e : Entry) (blocks : List Block) : Type 0 where
  pub set : DataSet
  pub found : set_of name volume ≡ Some set
  pub holds : HoldsMember set.body e blocks

module _ (name : List ℕ) (volume : Volume) (e : Entry) (blocks : List Block) where
  by_set : (o : Option DataSet) → set_of name volume ≡ o → HoldsMember (option_map_or (λ (x : DataSet). x.body) o bodies.Other) e blocks → MemberSet name volume e blocks
  by_set None is holds = absurd holds
  by_set (Some x) is holds = record { set = x; found = is; holds = holds }

  pub member_set : HoldsMember (body_in name volume) e blocks → MemberSet name volume e blocks
  member_set holds = by_set (set_of name volume) refl holds

  -- a member stands in the set that is found
  pub member_in : (x : DataSet) → set_of name volume ≡ Some x → HoldsMember x.body e blocks → HoldsMember (body_in name volume) e blocks
  member_in x found holds = subst (λ (o : Option DataSet). HoldsMember (option_map_or (λ (x : DataSet). x.body) o bodies.Other) e blocks) (sym found) holds

-- ---- sets, of which those of one name are changed

module _ (name : List ℕ) (f : DataSet → DataSet) (names : KeepsNames f) where
  abbrev if_named : DataSet → DataSet
  if_named x = if has_name name x then f x else x

  name_stays : (other : List ℕ) (x : DataSet) (b : Bool) → has_name other (if b then f x else x) ≡ has_name other x
  name_stays other x true = ap (λ (d : Dsn). bytes_eq d.bytes other) (names x)
  name_stays other x false = refl

  found_first : (other : List ℕ) (x : DataSet) (sets : List DataSet) → find (has_name other) (changed name f sets) ≡ option_map if_named (find (has_name other) sets) → (b : Bool)
      → cond b (Some (if_named x)) (find (has_name other) (changed name f sets)) ≡ option_map if_named (cond b (Some x) (find (has_name other) sets))
  found_first other x sets rest true = refl
  found_first other x sets rest false = rest

  found_changed : (other : List ℕ) (sets : List DataSet) → find (has_name other) (changed name f sets) ≡ option_map if_named (find (has_name other) sets)
  found_changed other [] = refl
  found_changed other (x ∷ sets) =
      ap (λ (b : Bool). cond b (Some (if_named x)) (find (has_name other) (changed name f sets))) (name_stays other x (has_name name x)) ∙ found_first other x sets (found_changed other sets) (has_name other x)

  -- a member stays where its set is another, and else it stays or goes as in the set that is changed
  pub keeps_changed : (volume : Volume) (set : List ℕ) (e : Entry) (blocks : List Block) (Gone : Type 0) → HoldsMember (body_in set volume) e blocks
      → ((x : DataSet) → set_of name volume ≡ Some x → set ≡ name → HoldsMember x.body e blocks → Gone ⊎ HoldsMember (f x).body e blocks)
      → Gone ⊎ HoldsMember (body_in set (with_set volume name f)) e blocks
  keeps_changed volume set e blocks Gone holds changes =
      let m = member_set set volume e blocks holds in
      let x = m.set in
      let found : set_of set (with_set volume name f) ≡ Some (if_named x) = found_changed set volume.sets ∙ ap (option_map if_named) m.found in
      let same = named_so set x (find_among (has_name set) volume.sets x m.found).1 in
      by_name x m.found m.holds same (has_name name x) refl found
    where
      by_name : (x : DataSet) → set_of set volume ≡ Some x → HoldsMember x.body e blocks → x.name.bytes ≡ set → (b : Bool) → has_name name x ≡ b → set_of set (with_set volume name f) ≡ Some (if b then f x else x)
          → Gone ⊎ HoldsMember (body_in set (with_set volume name f)) e blocks
      by_name x at held same false off found = inr (member_in set (with_set volume name f) e blocks x found held)
      by_name x at held same true is found =
          let on : set ≡ name = sym same ∙ named_so name x is in
          ⊎_elim (λ gone. inl gone) (λ stays. inr (member_in set (with_set volume name f) e blocks (f x) found stays)) (changes x (subst (λ n. set_of n volume ≡ Some x) on at) on held)
