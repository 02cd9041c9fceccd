-- The test tells whether a VTOC is settled.
use Rattle.std.proofs.Common.{◌≡◌, ◌+◌, ℕ, Bool, true, false, cond, not, ◌&&◌, List, [], ◌∷◌, ◌++◌, length, Option, Some, None, option_and_then, Result, Ok, Err, refl, ap, ◌∙◌}
use Rattle.std.specs.Prelude.{◌==◌, count_by, replicate, slice_get}
use Rattle.std.specs.Bool.{Decides}
use Rattle.std.specs.Cmp.Lexicographic.{pointwise}
use Rattle.std.specs.List.{list_all}
use Rattle.std.specs.Option.{option_map_or}
use Rattle.std.specs.Str.{bytes_eq}
use Rattle.std.proofs.lemmas.Bool.{and_from, and_parts, eq-eqb, eqb-true, not-true, not_from_false}
use Rattle.std.proofs.lemmas.Slice.Eq.{bytes_eq-Decides, slice_eq-Decides}
use Rattle.dscb_codec.specs.declared.Dscb.{Dscb}
use Rattle.dscb_codec.specs.declared.Dscb.TheVariants as formats
use Rattle.dscb_codec.specs.declared.DscbErr.{DscbErr}
use Rattle.dscb_codec.specs.declared.F4.{F4}
use Rattle.vol_model.specs.declared.contents.Volume.{Volume}
use Rattle.pack_spec.specs.declared.MountErr.{MountErr}
use Rattle.pack_spec.specs.declared.slot.VtocSlot.{VtocSlot}
use Rattle.pack_spec.specs.FreeChain.{HasSpace, IsChain, IsSpace, free_entries, next_free}
use Rattle.pack_spec.specs.Settled.{AreSettled, IsSettledVtoc, head_of, highest_of, is_f0, is_f5, is_marked, slots_for}
use Rattle.pack_spec.specs.Volume.{volume_of}
use Rattle.free_rebuild.specs.Settled.{are_settled, are_settled_on, has_head, has_space, is_chain, is_kept, counts_match, is_settled_vtoc, is_space, leads_on}

same_entries : (xs ys : List (List ℕ)) → Decides (pointwise bytes_eq xs ys) (xs ≡ ys)
same_entries xs ys = slice_eq-Decides {A = List ℕ} {E = bytes_eq} bytes_eq-Decides xs ys (pointwise bytes_eq xs ys) refl

-- a format 5
space_from : (entries : List (List ℕ)) (pointer : List ℕ) (c : Result Dscb DscbErr) → is_space entries pointer c ≡ true → IsSpace entries pointer c
space_from entries pointer (Ok formats.F0) holds = cc
space_from entries pointer (Ok (formats.F1 f)) holds = cc
space_from entries pointer (Ok (formats.F3 f)) holds = cc
space_from entries pointer (Ok (formats.F4 f)) holds = cc
space_from entries pointer (Err e) holds = cc
space_from entries pointer (Ok (formats.F5 f)) holds =
    let parts = and_parts (pointwise bytes_eq (f.front ++ f.back) entries) (bytes_eq f.pointer pointer) holds in
    (f, refl, (same_entries (f.front ++ f.back) entries).0 parts.0, (bytes_eq-Decides f.pointer pointer).0 parts.1)

space_to : (entries : List (List ℕ)) (pointer : List ℕ) (c : Result Dscb DscbErr) → IsSpace entries pointer c → is_space entries pointer c ≡ true
space_to entries pointer c is =
    let f = is.0 in
    ap (is_space entries pointer) is.1
    ∙ and_from (pointwise bytes_eq (f.front ++ f.back) entries) (bytes_eq f.pointer pointer) ((same_entries (f.front ++ f.back) entries).1 is.2) ((bytes_eq-Decides f.pointer pointer).1 is.3)

has_from : (slots : List VtocSlot) (k : ℕ) (entries : List (List ℕ)) (pointer : List ℕ) → has_space slots k entries pointer ≡ true → HasSpace slots k entries pointer
has_from slots k entries pointer holds = by_slot (slice_get slots k) refl holds
  where
    by_slot : (o : Option VtocSlot) → slice_get slots k ≡ o → option_map_or (λ (s : VtocSlot). is_space entries pointer s.content) o false ≡ true → HasSpace slots k entries pointer
    by_slot None there holds = cc
    by_slot (Some s) there holds = (s, there, space_from entries pointer s.content holds)

has_to : (slots : List VtocSlot) (k : ℕ) (entries : List (List ℕ)) (pointer : List ℕ) → HasSpace slots k entries pointer → has_space slots k entries pointer ≡ true
has_to slots k entries pointer has = ap (λ (o : Option VtocSlot). option_map_or (λ (s : VtocSlot). is_space entries pointer s.content) o false) has.1 ∙ space_to entries pointer has.0.content has.2

-- the chain
chain_from : (slots : List VtocSlot) (k : ℕ) (ess : List (List (List ℕ))) → is_chain slots k ess ≡ true → IsChain slots k ess
unfolding is_chain
chain_from slots k [] holds = cc
chain_from slots k (entries ∷ []) holds = has_from slots k entries (replicate 5 0) holds
chain_from slots k (entries ∷ more ∷ others) holds = by_free (λ n rest. chain_from slots n (more ∷ others) rest) (next_free slots (k + 1)) refl holds
  where
    rest : ℕ → Bool
    rest n = is_chain slots n (more ∷ others)

    found : ℕ → Option ℕ
    found n = cond (leads_on slots k entries n) (Some n) None

    by_free : ((n : ℕ) → rest n ≡ true → IsChain slots n (more ∷ others)) → (o : Option ℕ) → next_free slots (k + 1) ≡ o → option_map_or rest (option_and_then found o) false ≡ true → IsChain slots k (entries ∷ more ∷ others)
    by_free more_from None free holds = cc
    by_free more_from (Some n) free holds = by_slot (slice_get slots n) refl holds
      where
        by_slot : (p : Option VtocSlot) → slice_get slots n ≡ p → option_map_or rest (cond (option_map_or (λ (next : VtocSlot). has_space slots k entries next.address) p false) (Some n) None) false ≡ true → IsChain slots k (entries ∷ more ∷ others)
        by_slot None there holds = cc
        by_slot (Some next) there holds = by_space (has_space slots k entries next.address) refl holds
          where
            by_space : (t : Bool) → has_space slots k entries next.address ≡ t → option_map_or rest (cond t (Some n) None) false ≡ true → IsChain slots k (entries ∷ more ∷ others)
            by_space false has holds = cc
            by_space true has holds = (n, next, free, there, has_from slots k entries next.address has, more_from n holds)

chain_to : (slots : List VtocSlot) (k : ℕ) (ess : List (List (List ℕ))) → IsChain slots k ess → is_chain slots k ess ≡ true
unfolding is_chain
chain_to slots k [] is = absurd is
chain_to slots k (entries ∷ []) is = has_to slots k entries (replicate 5 0) is
chain_to slots k (entries ∷ more ∷ others) is =
    let n : ℕ = is.0 in
    let next : VtocSlot = is.1 in
    let found : ℕ → Option ℕ = λ m. cond (leads_on slots k entries m) (Some m) None in
    let rest : ℕ → Bool = λ m. is_chain slots m (more ∷ others) in
    let leads : leads_on slots k entries n ≡ true = ap (λ (o : Option VtocSlot). option_map_or (λ (s : VtocSlot). has_space slots k entries s.address) o false) is.3 ∙ has_to slots k entries next.address is.4 in
    ap (λ (o : Option ℕ). option_map_or rest (option_and_then found o) false) is.2
    ∙ ap (λ (t : Bool). option_map_or rest (cond t (Some n) None) false) leads
    ∙ chain_to slots n (more ∷ others) is.5

-- the slots of a volume
settled_from : (slots : List VtocSlot) (volume : Volume) → are_settled slots (free_entries volume) ≡ true → AreSettled slots volume
unfolding are_settled
settled_from slots volume holds = by_head (head_of slots) refl holds
  where
    kept : Bool
    kept = list_all (is_kept slots) slots

    alone : Bool
    alone = count_by (λ (s : VtocSlot). is_f5 s.content) slots == length (free_entries volume)

    chain : Bool
    chain = is_chain slots 1 (free_entries volume)

    by_head : (o : Option F4) → head_of slots ≡ o → (option_map_or (counts_match slots) o false && (chain && (kept && alone))) ≡ true → AreSettled slots volume
    by_head None first holds = cc
    by_head (Some head) first holds =
        let parts = and_parts (counts_match slots head) (chain && (kept && alone)) holds in
        let more = and_parts chain (kept && alone) parts.1 in
        let last = and_parts kept alone more.1 in
        let count : ℕ = count_by (λ (s : VtocSlot). is_f0 s.content) slots in
        let right = and_parts (not (is_marked head)) ((head.free == count) && bytes_eq head.highest (highest_of slots)) parts.0 in
        let counts = and_parts (head.free == count) (bytes_eq head.highest (highest_of slots)) right.1 in
        record {
          head = head;
          first = first;
          bits = not-true (is_marked head) right.0;
          chain = chain_from slots 1 (free_entries volume) more.0;
          free = eqb-true head.free count counts.0;
          highest = (bytes_eq-Decides head.highest (highest_of slots)).0 counts.1;
          used = last.0;
          alone = eqb-true (count_by (λ (s : VtocSlot). is_f5 s.content) slots) (length (free_entries volume)) last.1;
        }

settled_to : (slots : List VtocSlot) (volume : Volume) → AreSettled slots volume → are_settled slots (free_entries volume) ≡ true
unfolding are_settled
settled_to slots volume are =
    let count : ℕ = count_by (λ (s : VtocSlot). is_f0 s.content) slots in
    let bits = not_from_false (is_marked are.head) are.bits in
    let free = eq-eqb are.head.free count are.free in
    let highest = (bytes_eq-Decides are.head.highest (highest_of slots)).1 are.highest in
    let right : counts_match slots are.head ≡ true = and_from _ _ bits (and_from _ _ free highest) in
    let head : has_head slots ≡ true = ap (λ (o : Option F4). option_map_or (counts_match slots) o false) are.first ∙ right in
    let chain = chain_to slots 1 (free_entries volume) are.chain in
    let alone = eq-eqb (count_by (λ (s : VtocSlot). is_f5 s.content) slots) (length (free_entries volume)) are.alone in
    and_from _ _ head (and_from _ _ chain (and_from _ _ are.used alone))

-- the VTOC of an image for which the test is true is settled
pub settled_vtoc : (image : List ℕ) → is_settled_vtoc image ≡ true → IsSettledVtoc image
unfolding is_settled_vtoc
settled_vtoc image holds = by_volume (volume_of image) refl holds
  where
    by_volume : (r : Result Volume MountErr) → volume_of image ≡ r → are_settled_on image r ≡ true → IsSettledVtoc image
    by_volume (Err e) is holds = cc
    by_volume (Ok volume) is holds = (volume, is, settled_from (slots_for image volume) volume holds)

-- and the test is true of each image whose VTOC is settled
pub settled_true : (image : List ℕ) → IsSettledVtoc image → is_settled_vtoc image ≡ true
unfolding is_settled_vtoc
settled_true image settled = ap (are_settled_on image) settled.1 ∙ settled_to (slots_for image settled.0) settled.0 settled.2
