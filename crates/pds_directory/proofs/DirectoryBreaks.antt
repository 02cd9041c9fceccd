-- Where the blocks of a directory break it, by those that were read of it.
use Rattle.std.proofs.Common.{◌≡◌, ◌≤◌, ℕ, Bool, true, false, cond, List, [], ◌∷◌, ◌++◌, length, map, Option, Some, None, refl, sym, ap, ◌∙◌, arith, append_assoc}
use Rattle.std.specs.List.{AllByRecursion}
use Rattle.std.specs.Option.{option_map}
use Rattle.std.proofs.lemmas.List.{append-nil, map-append}
use Rattle.chain_spec.specs.Kept.{joined}
use Rattle.chain_spec.specs.Store.{Block as Stored, stored, up_to_end}
use Rattle.vol_model.specs.declared.contents.Block.{Block}
use Rattle.vol_model.specs.declared.contents.Entry.{Entry}
use Rattle.pack_spec.specs.Directories.{break_from, directory_break, stored_in}
use Rattle.pds_directory.specs.Reading.{HoldEntries, open_block}

-- blocks stand on this relative track or after it
abbrev pub StandPast : ℕ → List Block → Type 0
StandPast k bs = AllByRecursion (λ (b : Block). k ≤ b.place.tt) bs

break_late : (k last : ℕ) (bs : List Block) → k ≤ last → StandPast k bs → (j : ℕ) → directory_break last bs ≡ Some j → k ≤ j
break_late k last [] low past j is = let same : last ≡ j = cc in omega (arith, low, same)
break_late k last (b ∷ bs) low past j is = by (stored_in b) (λ e. break_late k last bs low past.1 j e) is
  where
    ends : (c : Bool) (o : Option ℕ) → (o ≡ Some j → k ≤ j) → cond c None o ≡ Some j → k ≤ j
    ends true o later e = cc
    ends false o later e = later e

    by : (o : Option (Stored Entry)) → (directory_break last bs ≡ Some j → k ≤ j) → break_from b.place.tt (directory_break last bs) o ≡ Some j → k ≤ j
    by None later e = let same : b.place.tt ≡ j = cc in omega (arith, past.0, same)
    by (Some s) later e = ends s.ends (directory_break last bs) later e

-- blocks that don't end the directory don't break it
break_open : (last : ℕ) (bs : List Block) (es : List (List Entry)) (more : List Block) → map stored_in bs ≡ map open_block es → directory_break last (bs ++ more) ≡ directory_break last more
break_open last [] es more are = refl
break_open last (b ∷ bs) [] more are = cc
break_open last (b ∷ bs) (e ∷ es) more are =
    let here : stored_in b ≡ open_block e = cc in
    let rest : map stored_in bs ≡ map open_block es = cc in
    ap (break_from b.place.tt (directory_break last (bs ++ more))) here ∙ break_open last bs es more rest

-- after one that ends it nothing does
break_ended : (last : ℕ) (bs : List Block) (es : List (List Entry)) (behind : List (Option (Stored Entry))) (more : List Block) → 1 ≤ length es → map stored_in bs ≡ stored es ++ behind → directory_break last (bs ++ more) ≡ None
break_ended last bs [] behind more some are = absurd (omega (arith, some))
break_ended last [] (e ∷ []) behind more some are = cc
break_ended last [] (e ∷ d ∷ ds) behind more some are = cc
break_ended last (b ∷ bs) (e ∷ []) behind more some are =
    let here : stored_in b ≡ Some (record { entries = e; ends = true }) = cc in
    ap (break_from b.place.tt (directory_break last (bs ++ more))) here
break_ended last (b ∷ bs) (e ∷ d ∷ ds) behind more some are =
    let here : stored_in b ≡ open_block e = cc in
    let rest : map stored_in bs ≡ stored (d ∷ ds) ++ behind = cc in
    ap (break_from b.place.tt (directory_break last (bs ++ more))) here ∙ break_ended last bs (d ∷ ds) behind more (omega arith) rest

-- so the blocks after those that were read break it on their tracks
pub break_read : (ended : Bool) (bs : List Block) (es : List (List Entry)) → HoldEntries ended bs es → (k last : ℕ) (more : List Block) → k ≤ last → StandPast k more → (j : ℕ) → directory_break last (bs ++ more) ≡ Some j → k ≤ j
break_read false bs es hold k last more low past j is = break_late k last more low past j (sym (break_open last bs es more hold) ∙ is)
break_read true bs es hold k last more low past j is = let none = break_ended last bs es hold.1 more hold.0 hold.2 in cc

-- those that were read to the end of a directory don't break it
pub break_none : (last : ℕ) (bs : List Block) (es : List (List Entry)) → HoldEntries true bs es → directory_break last bs ≡ None
break_none last bs es hold = ap (directory_break last) (sym (append-nil bs)) ∙ break_ended last bs es hold.1 [] hold.0 hold.2

-- and none ends it of those that don't
pub break_last : (last : ℕ) (bs : List Block) (es : List (List Entry)) → HoldEntries false bs es → directory_break last bs ≡ Some last
break_last last bs es hold = ap (directory_break last) (sym (append-nil bs)) ∙ break_open last bs es [] hold

-- a block that breaks the format breaks the directory that no block before it ends
pub break_here : (last : ℕ) (bs : List Block) (es : List (List Entry)) (b : Block) (more : List Block) → HoldEntries false bs es → stored_in b ≡ None → directory_break last (bs ++ b ∷ more) ≡ Some b.place.tt
break_here last bs es b more hold none = break_open last bs es (b ∷ more) hold ∙ ap (break_from b.place.tt (directory_break last more)) none

-- the entries up to the end
pub entries_up_to : (es : List (List Entry)) (behind : List (Option (Stored Entry))) → 1 ≤ length es → up_to_end (stored es ++ behind) ≡ Some (joined es)
entries_up_to [] behind some = absurd (omega (arith, some))
entries_up_to (e ∷ []) behind some = ap Some (sym (append-nil e))
entries_up_to (e ∷ d ∷ ds) behind some = ap (option_map (λ (xs : List Entry). e ++ xs)) (entries_up_to (d ∷ ds) behind (omega arith))

-- ---- one block more

stored_last : (es : List (List Entry)) (e : List Entry) → stored (es ++ e ∷ []) ≡ map open_block es ++ Some (record { entries = e; ends = true }) ∷ []
stored_last [] e = refl
stored_last (d ∷ []) e = refl
stored_last (d ∷ c ∷ cs) e = ap (λ (xs : List (Option (Stored Entry))). open_block d ∷ xs) (stored_last (c ∷ cs) e)

pub hold_more : (bs : List Block) (es : List (List Entry)) (b : Block) (s : Stored Entry) → HoldEntries false bs es → stored_in b ≡ Some s → HoldEntries s.ends (bs ++ b ∷ []) (es ++ s.entries ∷ [])
hold_more bs es b s hold is = by s.ends refl
  where
    all : (c : Bool) → s.ends ≡ c → map stored_in (bs ++ b ∷ []) ≡ map open_block es ++ Some (record { entries = s.entries; ends = c }) ∷ []
    all c e = map-append stored_in bs (b ∷ []) ∙ ap (λ (xs : List (Option (Stored Entry))). xs ++ stored_in b ∷ []) hold
        ∙ ap (λ (o : Option (Stored Entry)). map open_block es ++ o ∷ []) is
        ∙ ap (λ (c : Bool). map open_block es ++ Some (record { entries = s.entries; ends = c }) ∷ []) e

    by : (c : Bool) → s.ends ≡ c → HoldEntries c (bs ++ b ∷ []) (es ++ s.entries ∷ [])
    by false e = all false e ∙ sym (map-append open_block es (s.entries ∷ []))
    by true e = (some es, [], all true e ∙ sym (stored_last es s.entries) ∙ sym (append-nil (stored (es ++ s.entries ∷ []))))
      where
        some : (ds : List (List Entry)) → 1 ≤ length (ds ++ s.entries ∷ [])
        some [] = omega arith
        some (d ∷ ds) = omega arith

pub hold_behind : (bs : List Block) (es : List (List Entry)) (b : Block) → HoldEntries true bs es → HoldEntries true (bs ++ b ∷ []) es
hold_behind bs es b hold =
    (hold.0, hold.1 ++ stored_in b ∷ [], map-append stored_in bs (b ∷ []) ∙ ap (λ (xs : List (Option (Stored Entry))). xs ++ stored_in b ∷ []) hold.2 ∙ append_assoc (stored es) hold.1 (stored_in b ∷ []))
