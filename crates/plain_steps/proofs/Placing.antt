-- Contents placed one by one.
use Rattle.std.proofs.Common.{◌≡◌, ◌+◌, ◌<◌, ◌≤◌, ℕ, List, [], ◌∷◌, ◌++◌, length, drop, get_or, refl, sym, ap, ◌∙◌, append_assoc}
use Rattle.std.proofs.lemmas.List.{append-nil, drop_all, drop_more}
use Rattle.ckd_image.specs.declared.device.DiskType.{DiskType}
use Rattle.vol_model.specs.declared.contents.Block.{Block}
use Rattle.vol_model.specs.declared.contents.Body.{Body}
use Rattle.vol_model.specs.Places.{Content, next_block, placed, with_blocks}

-- the first content, and the others after it
placed_cons : (device : DiskType) (body : Body) (c : Content) (cs : List Content) → placed device body (c ∷ cs) ≡ next_block device body c ∷ placed device (with_blocks body (next_block device body c ∷ [])) cs
unfolding placed
placed_cons device body c cs = refl

-- with one more content placed, the whole is the same
pub placed_more : (device : DiskType) (body next : Body) (blocks after : List Block) (cs : List Content) (i : ℕ) (c : Content) (b : Block) → i < length cs → c ≡ get_or cs i c
    → b ≡ next_block device body c → after ≡ blocks ++ b ∷ [] → next ≡ with_blocks body (b ∷ []) → after ++ placed device next (drop (i + 1) cs) ≡ blocks ++ placed device body (drop i cs)
placed_more device body next blocks after cs i c b inside is made pushed added =
    let rest = drop (i + 1) cs in
    let first : drop i cs ≡ c ∷ rest = drop_more cs i c inside ∙ ap (λ x. x ∷ rest) (sym is) in
    let whole : placed device body (drop i cs) ≡ b ∷ placed device next rest =
    ap (placed device body) first ∙ placed_cons device body c rest
    ∙ ap (λ x. x ∷ placed device (with_blocks body (x ∷ [])) rest) (sym made) ∙ ap (λ y. b ∷ placed device y rest) (sym added) in
    ap (λ l. l ++ placed device next rest) pushed ∙ append_assoc blocks (b ∷ []) (placed device next rest) ∙ ap (λ l. blocks ++ l) (sym whole)

-- after all contents none is left to be placed
pub placed_all : (device : DiskType) (body next : Body) (blocks : List Block) (cs : List Content) (i : ℕ) → length cs ≤ i → blocks ++ placed device next (drop i cs) ≡ placed device body cs → blocks ≡ placed device body cs
unfolding placed
placed_all device body next blocks cs i all so_far = sym (append-nil blocks) ∙ ap (λ l. blocks ++ placed device next l) (sym (drop_all i cs all)) ∙ so_far
