use Rattle.std.proofs.Common.{◌≡◌, ◌<◌, ◌≤◌, ◌+◌, ◌++◌, ℕ, zero, suc, List, [], ◌∷◌, length, get_or, map, take, drop, set, refl, ap, ◌∙◌, arith}
use Rattle.std.proofs.lemmas.List.{get_or_default}
use Rattle.std.proofs.lemmas.List.Edits.{map_over_more}
use Rattle.ebcdic_names.specs.declared.names.Dsn.{Dsn}
use Rattle.pack_machine.specs.Unread.{renamed_in}
use Rattle.pack_machine.specs.declared.unread.Unread.{Unread}
use Rattle.pack_machine.proofs.unread.rename.Goals as goal

-- one more entry has its name
renamed_more : (old : List ℕ) (new : Dsn) (xs ys : List Unread) (i : ℕ) (y d : Unread) → i < length xs → length ys ≡ length xs → ys ≡ map (renamed_in old new) (take i xs) ++ drop i xs → y ≡ renamed_in old new (get_or ys i d)
    → set ys i y ≡ map (renamed_in old new) (take (i + 1) xs) ++ drop (i + 1) xs
renamed_more old new xs ys i y d low same is one =
    ap (λ (u : Unread). set ys i u) one
    ∙ map_over_more (renamed_in old new) xs ys i (get_or ys i d) low is (get_or_default ys i d (get_or ys i d) (omega (arith, low, same)))

all_taken : (f : Unread → Unread) (xs : List Unread) (k : ℕ) → length xs ≤ k → map f (take k xs) ++ drop k xs ≡ map f xs
all_taken f [] zero low = refl
all_taken f [] (suc k) low = refl
all_taken f (x ∷ xs) zero low = absurd (omega (arith, low))
all_taken f (x ∷ xs) (suc k) low = ap (λ (l : List Unread). f x ∷ l) (all_taken f xs k (omega (arith, low)))

-- what is written over a list of this length is the list then
written : (n : ℕ) (ys items : List Unread) → length ys ≡ length items → length ys ≤ n → take n (ys ++ drop (length ys) items) ≡ ys
written zero [] [] same low = refl
written (suc n) [] [] same low = refl
written n [] (x ∷ items) same low = absurd (omega (arith, same))
written n (y ∷ ys) [] same low = absurd (omega (arith, same))
written zero (y ∷ ys) (x ∷ items) same low = absurd (omega (arith, low))
written (suc n) (y ∷ ys) (x ∷ items) same low = ap (λ (l : List Unread). y ∷ l) (written n ys items (omega (arith, same)) (omega (arith, low)))

pub loop-entry-preserved : goal.loop-entry-preserved
loop-entry-preserved c =
    let l = c.loop-entry in
    renamed_more c.args.old.now.bytes c.args.new.now c.deref_mut-entry-items.result.now l.entry-items l.entry-index c.rename_entry.new.entry _ c.loop-entry-test.true l.auto.entry-items l.invariant c.rename_entry.ensures

pub returns : goal.returns
returns c =
    let l = c.loop-entry in
    let items = c.args.unread.now.items in
    let start : c.deref_mut-entry-items.result.now ≡ items = c.deref_mut-entry-items.ensures.value in
    let many : length l.entry-items ≡ length items = l.auto.entry-items ∙ ap length start in
    written c.args.unread.now.len l.entry-items items many (omega (arith, many, c.args.unread.now.ok.0))
    ∙ l.invariant ∙ all_taken (renamed_in c.args.old.now.bytes c.args.new.now) c.deref_mut-entry-items.result.now l.entry-index c.loop-entry-test.false
    ∙ ap (map (renamed_in c.args.old.now.bytes c.args.new.now)) start
