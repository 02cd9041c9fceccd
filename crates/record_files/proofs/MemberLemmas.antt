-- Entries by their names, and the last block of a library.
use Rattle.std.proofs.Common.{◌≡◌, ℕ, Bool, true, false, cond, List, [], ◌∷◌, refl, sym, ◌∙◌, ap}
use Rattle.std.specs.Prelude.{◌||◌, find, is_some, Option, Some, Result, Ok, Err}
use Rattle.std.specs.Str.{bytes_eq}
use Rattle.ebcdic_names.specs.declared.names.Name8.{Name8}
use Rattle.vol_model.specs.declared.contents.Block.{Block}
use Rattle.vol_model.specs.declared.contents.Entry.{Entry}
use Rattle.vol_model.specs.declared.contents.Place.{Place}
use Rattle.vol_model.specs.declared.refusals.Refusal.{Refusal}
use Rattle.vol_model.specs.Places.{last_place}
use Rattle.vol_model.specs.Reading.{Picks, blocks_from}
use Rattle.vol_model.specs.Shelf.{has_member}
use Rattle.vol_model.proofs.Keeping.{AreBlocks}
use Rattle.util_steps.specs.Copying.{behind_place}
use Rattle.record_files.specs.Members.{entry_named}
use Rattle.record_files.proofs.BlockLemmas.{left_blocks}

-- ---- entries

found_first : (name : List ℕ) (e : Entry) (es : List Entry) (t : Bool) → is_some (find (λ (x : Entry). bytes_eq x.name.bytes name) es) ≡ has_member name es → is_some (cond t (Some e) (find (λ (x : Entry). bytes_eq x.name.bytes name) es)) ≡ (t || has_member name es)
found_first name e es true rest = refl
found_first name e es false rest = rest

-- an entry of a name is found where there is one
pub found_some : (name : List ℕ) (es : List Entry) → is_some (find (λ (x : Entry). bytes_eq x.name.bytes name) es) ≡ has_member name es
found_some name [] = refl
found_some name (e ∷ es) = found_first name e es (bytes_eq e.name.bytes name) (found_some name es)

pub entry_told : (found named : Option Entry) → (let r : Result (Option Entry) Refusal = Ok found in r) ≡ Ok named → named ≡ found
entry_told found named is = cc

pub entry_answered : (r : Refusal) (named : Option Entry) → (let x : Result (Option Entry) Refusal = Err r in x) ≡ Ok named → ⊥
entry_answered r named is = cc

-- the entry that is told is that of the name
pub entry_picked : (name : Name8) (r : Result (List Entry) ℕ) (es : List Entry) (found : Option Entry) → r ≡ Ok es → Picks (Ok found) r (λ (l : List Entry). find (λ (x : Entry). bytes_eq x.name.bytes name.bytes) l) → entry_named name es ≡ found
entry_picked name (Ok l) es found is picks = let same : l ≡ es = cc in ap (entry_named name) (sym same) ∙ sym picks
entry_picked name (Err t) es found is picks = let never : ⊥ = cc in absurd never

-- a directory that can be read is told
pub entry_refused : (r : Result (List Entry) ℕ) (es : List Entry) (track : ℕ) → r ≡ Ok es → r ≡ Err track → ⊥
entry_refused r es track is not = let e = sym is ∙ not in cc

-- ---- the last block

-- one block more is passed
pub last_further : (bs : List Block) (place last found next whole : Place) (b : Block) (rest : List Block) → AreBlocks bs → blocks_from place bs ≡ b ∷ rest → found ≡ b.place → next ≡ behind_place b.place → last_place last (blocks_from place bs) ≡ whole → last_place found (blocks_from next bs) ≡ whole
last_further bs place last found next whole b rest are is here at so =
    ap (λ (p : Place). last_place p (blocks_from next bs)) here ∙ ap (λ (p : Place). last_place b.place (blocks_from p bs)) at
    ∙ ap (last_place b.place) (left_blocks place bs b rest are is) ∙ sym (ap (last_place last) is) ∙ so
