-- What goes in front of the blocks of a writer, and what was placed after it.
use Rattle.std.proofs.Common.{◌≡◌, ◌≢◌, inl, inr, Bool, true, false, List, [], ◌∷◌, ◌++◌, refl, ap, ◌∙◌}
use Rattle.std.specs.Prelude.{◌⊎◌}
use Rattle.std.proofs.lemmas.List.{append-nil}
use Rattle.seq_access.specs.declared.writer.Writer.{Writer as BlockWriter}
use Rattle.seq_access.specs.Writing.{has_put}
use Rattle.vol_model.specs.Places.{Content, end_of_file}
use Rattle.shelf_machine.specs.Fronts.{BeginsWell, behind_first, due, firsts}

-- nothing stands after nothing
pub behind_none : (first : Bool) → behind_first first [] ≡ []
behind_none true = refl
behind_none false = refl

-- and nothing begins well
pub begins_none : (first : Bool) → BeginsWell first []
begins_none true = tt
begins_none false = tt

-- one more content after others, or the first
pub begins_more : (first : Bool) (puts : List Content) (c : Content) → BeginsWell first puts → (puts ≡ [] → first ≡ true → c ≡ end_of_file) → BeginsWell first (puts ++ c ∷ [])
begins_more true [] c begins is = is refl refl
begins_more true (d ∷ puts) c begins is = begins
begins_more false puts c begins is = tt

-- nothing was placed where nothing is there
pub put_nothing : (w : BlockWriter) (puts : List Content) → (has_put w ≡ true → puts ≢ []) → puts ≡ [] → has_put w ≡ false
put_nothing w puts some none = by (has_put w) refl
  where
    by : (b : Bool) → has_put w ≡ b → has_put w ≡ false
    by true is = absurd (some is none)
    by false is = is

-- what was placed is what goes in front, and the rest; or nothing was
pub placed_parts : (first : Bool) (puts : List Content) → BeginsWell first puts → (puts ≡ []) ⊎ (puts ≡ firsts first ++ behind_first first puts)
placed_parts true [] begins = inl refl
placed_parts true (c ∷ cs) begins = inr (ap (λ (d : Content). d ∷ cs) begins)
placed_parts false puts begins = inr refl

-- so with what is due it is all in front, and the rest
pub due_placed : (first : Bool) (puts : List Content) → BeginsWell first puts → puts ++ due first puts ≡ firsts first ++ behind_first first puts
due_placed true [] begins = refl
due_placed true (c ∷ cs) begins = append-nil (c ∷ cs) ∙ ap (λ (d : Content). d ∷ cs) begins
due_placed false [] begins = refl
due_placed false (c ∷ cs) begins = append-nil (c ∷ cs)

-- more after that which is placed already goes to the rest
pub behind_more : (first : Bool) (puts : List Content) (c : Content) → (first ≡ true → puts ≢ []) → behind_first first (puts ++ c ∷ []) ≡ behind_first first puts ++ c ∷ []
behind_more true [] c some = absurd (some refl refl)
behind_more true (d ∷ puts) c some = refl
behind_more false puts c some = refl

-- what is due in front isn't of the rest
pub behind_due : (first : Bool) (puts : List Content) → behind_first first (puts ++ due first puts) ≡ behind_first first puts
behind_due true [] = refl
behind_due true (c ∷ cs) = append-nil cs
behind_due false [] = refl
behind_due false (c ∷ cs) = append-nil (c ∷ cs)
