-- A cut that is made entry by entry.
use Rattle.std.proofs.Common.{◌≡◌, ℕ, suc, ◌+◌, ◌<◌, ◌≤◌, List, [], ◌∷◌, ◌++◌, refl, ap, sym, ◌∙◌, arith, length, append-nil, append_assoc, subst, length-append}
use Rattle.chain_spec.proofs.CutLemmas.{total-append}
use Rattle.chain_spec.specs.Cut.{AllFit, IsFull, first_size, total}
use Rattle.chain_spec.specs.Kept.{joined}
use Rattle.sorted_chain.specs.Cutting.{IsForward, IsOpen, IsStarted, blocks_of, forward_writes}

module _ {E : Type 0} where
  pub forward_writes-push : (i n : ℕ) (bs : List (List E)) (b : List E) → n ≡ i + length bs → forward_writes i (bs ++ (b ∷ [])) ≡ forward_writes i bs ++ ((n, b) ∷ [])
  forward_writes-push i n [] b h = let e : n ≡ i = omega (arith, h) in rw e refl
  forward_writes-push i n (c ∷ cs) b h = ap (λ ws. (i, c) ∷ ws) (forward_writes-push (suc i) n cs b (omega (arith, h)))

  pub blocks-push : (ws : List (ℕ × List E)) (n : ℕ) (b : List E) → blocks_of (ws ++ ((n, b) ∷ [])) ≡ blocks_of ws ++ (b ∷ [])
  blocks-push [] n b = refl
  blocks-push (w ∷ ws) n b = ap (λ bs. w.1 ∷ bs) (blocks-push ws n b)

  pub length-blocks : (ws : List (ℕ × List E)) → length (blocks_of ws) ≡ length ws
  length-blocks [] = refl
  length-blocks (w ∷ ws) = omega (arith, length-blocks ws)

  pub joined-push : (bs : List (List E)) (b : List E) → joined (bs ++ (b ∷ [])) ≡ joined bs ++ b
  joined-push [] b = append-nil b
  joined-push (c ∷ cs) b = ap (λ es. c ++ es) (joined-push cs b) ∙ sym (append_assoc c (joined cs) b)

  started_by : (ds : List (List E)) (e : E) (es : List E) → IsStarted ds (e ∷ es)
  started_by [] e es = tt
  started_by (d ∷ ds) e es = tt

  started_more : (ds : List (List E)) (block : List E) (e : E) → IsStarted ds (block ++ (e ∷ []))
  started_more ds [] e = started_by ds e []
  started_more ds (x ∷ xs) e = started_by ds x (xs ++ (e ∷ []))

module _ {E : Type 0} (size : E → ℕ) where
  fits_grown : (room : ℕ) (done : List (List E)) (block : List E) (e : E) → AllFit size room 0 (done ++ (block ∷ [])) → total size block + size e ≤ room → AllFit size room 0 (done ++ ((block ++ (e ∷ [])) ∷ []))
  fits_grown room [] block e fits h = omega (arith, h, total-append size block (e ∷ []))
  fits_grown room (d ∷ []) block e fits h = (fits.0, fits_grown room [] block e fits.1 h)
  fits_grown room (d ∷ c ∷ cs) block e fits h = (fits.0, fits_grown room (c ∷ cs) block e fits.1 h)

  first_size_either : (end : ℕ) (c : List E) (cs : List (List E)) (x y : List E) → first_size size end c (cs ++ (x ∷ [])) ≡ first_size size end c (cs ++ (y ∷ []))
  first_size_either end [] [] x y = refl
  first_size_either end [] (d ∷ ds) x y = refl
  first_size_either end (e ∷ c) cs x y = refl

  full_grown : (room end : ℕ) (done : List (List E)) (block : List E) (e : E) → IsFull size room end (done ++ (block ∷ [])) → IsStarted done block → IsFull size room end (done ++ ((block ++ (e ∷ [])) ∷ []))
  full_grown room end [] block e full started = tt
  full_grown room end (d ∷ []) [] e full started = absurd started
  full_grown room end (d ∷ []) (x ∷ xs) e full started = full
  full_grown room end (d ∷ c ∷ cs) block e full started = (omega (arith, full.0, first_size_either end c cs block (block ++ (e ∷ []))), full_grown room end (c ∷ cs) block e full.1 (started_in block started))
    where
      started_in : (b : List E) → IsStarted (d ∷ c ∷ cs) b → IsStarted (c ∷ cs) b
      started_in [] h = absurd h
      started_in (x ∷ xs) h = tt

  fits_more : (room : ℕ) (done : List (List E)) (block next : List E) → AllFit size room 0 (done ++ (block ∷ [])) → total size next ≤ room → AllFit size room 0 ((done ++ (block ∷ [])) ++ (next ∷ []))
  fits_more room [] block next fits h = (omega (arith, fits), omega (arith, h))
  fits_more room (d ∷ []) block next fits h = (fits.0, fits_more room [] block next fits.1 h)
  fits_more room (d ∷ c ∷ cs) block next fits h = (fits.0, fits_more room (c ∷ cs) block next fits.1 h)

  first_size_more : (end : ℕ) (c : List E) (cs : List (List E)) (x y : List E) → first_size size end c (cs ++ (x ∷ [])) ≡ first_size size end c ((cs ++ (x ∷ [])) ++ (y ∷ []))
  first_size_more end [] [] x y = refl
  first_size_more end [] (d ∷ ds) x y = refl
  first_size_more end (e ∷ c) cs x y = refl

  full_more : (room end : ℕ) (done : List (List E)) (block next : List E) → IsFull size room end (done ++ (block ∷ [])) → IsStarted done block → room < total size block + first_size size end next [] → IsFull size room end ((done ++ (block ∷ [])) ++ (next ∷ []))
  full_more room end [] block next full started h = (h, tt)
  full_more room end (d ∷ []) [] next full started h = absurd started
  full_more room end (d ∷ []) (x ∷ xs) next full started h = (full.0, (h, tt))
  full_more room end (d ∷ c ∷ cs) block next full started h = (omega (arith, full.0, first_size_more end c cs block next), full_more room end (c ∷ cs) block next full.1 (started_in block started) h)
    where
      started_in : (b : List E) → IsStarted (d ∷ c ∷ cs) b → IsStarted (c ∷ cs) b
      started_in [] k = absurd k
      started_in (x ∷ xs) k = tt

  fits_end : (room end : ℕ) (done : List (List E)) (block : List E) → AllFit size room 0 (done ++ (block ∷ [])) → total size block + end ≤ room → AllFit size room end (done ++ (block ∷ []))
  fits_end room end [] block fits h = h
  fits_end room end (d ∷ []) block fits h = (fits.0, h)
  fits_end room end (d ∷ c ∷ cs) block fits h = (fits.0, fits_end room end (c ∷ cs) block fits.1 h)

  -- an entry that fits the open block
  pub open_grown : (room end : ℕ) (done : List (ℕ × List E)) (block : List E) (used : ℕ) (es : List E) (e : E) → IsOpen size room end done block used es → used + size e ≤ room → IsOpen size room end done (block ++ (e ∷ [])) (used + size e) (es ++ (e ∷ []))
  open_grown room end done block used es e is h = record {
    ordered = is.ordered;
    holds = joined-push (blocks_of done) (block ++ (e ∷ [])) ∙ sym (append_assoc (joined (blocks_of done)) block (e ∷ [])) ∙ ap (λ xs. xs ++ (e ∷ [])) (sym (joined-push (blocks_of done) block) ∙ is.holds);
    fits = fits_grown room (blocks_of done) block e is.fits (omega (arith, h, is.counts));
    full = full_grown room end (blocks_of done) block e is.full is.started;
    started = started_more (blocks_of done) block e;
    counts = omega (arith, is.counts, total-append size block (e ∷ []));
  }

  -- a block that is full, and an entry that opens the next
  pub open_next : (room end n : ℕ) (done : List (ℕ × List E)) (block : List E) (used : ℕ) (es : List E) (e : E) → IsOpen size room end done block used es → room < used + size e → size e ≤ room → n ≡ length done → IsOpen size room end (done ++ ((n, block) ∷ [])) (e ∷ []) (size e) (es ++ (e ∷ []))
  open_next room end n done block used es e is h fits at =
      let blocks : blocks_of (done ++ ((n, block) ∷ [])) ≡ blocks_of done ++ (block ∷ []) = blocks-push done n block in
      record {
        ordered = ap (λ ws. ws ++ ((n, block) ∷ [])) is.ordered ∙ sym (forward_writes-push 0 n (blocks_of done) block (omega (arith, at, length-blocks done))) ∙ ap (forward_writes 0) (sym blocks);
        holds = rw blocks (joined-push (blocks_of done ++ (block ∷ [])) (e ∷ []) ∙ ap (λ xs. xs ++ (e ∷ [])) is.holds);
        fits = rw blocks (fits_more room (blocks_of done) block (e ∷ []) is.fits (omega (arith, fits)));
        full = rw blocks (full_more room end (blocks_of done) block (e ∷ []) is.full is.started (omega (arith, h, is.counts)));
        started = started_by (blocks_of (done ++ ((n, block) ∷ []))) e [];
        counts = omega arith;
      }

  -- the end entry fits the open block
  pub cut_here : (room end n : ℕ) (done : List (ℕ × List E)) (block : List E) (used : ℕ) (es : List E) → IsOpen size room end done block used es → used + end ≤ room → n ≡ length done → IsForward size room end es (done ++ ((n, block) ∷ []))
  cut_here room end n done block used es is h at =
      let blocks : blocks_of (done ++ ((n, block) ∷ [])) ≡ blocks_of done ++ (block ∷ []) = blocks-push done n block in
      record {
        cut = record {
          holds = ap joined blocks ∙ is.holds;
          fits = rw blocks (fits_end room end (blocks_of done) block is.fits (omega (arith, h, is.counts)));
          full = rw blocks is.full;
        };
        ordered = ap (λ ws. ws ++ ((n, block) ∷ [])) is.ordered ∙ sym (forward_writes-push 0 n (blocks_of done) block (omega (arith, at, length-blocks done))) ∙ ap (forward_writes 0) (sym blocks);
      }

  -- the end entry has a block of its own
  pub cut_behind : (room end n m : ℕ) (done : List (ℕ × List E)) (block : List E) (used : ℕ) (es : List E) → IsOpen size room end done block used es → room < used + end → end ≤ room → n ≡ length done → m ≡ suc n → IsForward size room end es ((done ++ ((n, block) ∷ [])) ++ ((m, []) ∷ []))
  cut_behind room end n m done block used es is h fits at next =
      let first : blocks_of (done ++ ((n, block) ∷ [])) ≡ blocks_of done ++ (block ∷ []) = blocks-push done n block in
      let blocks : blocks_of ((done ++ ((n, block) ∷ [])) ++ ((m, []) ∷ [])) ≡ (blocks_of done ++ (block ∷ [])) ++ ([] ∷ []) = blocks-push (done ++ ((n, block) ∷ [])) m [] ∙ ap (λ bs. bs ++ ([] ∷ [])) first in
      let ordered : done ++ ((n, block) ∷ []) ≡ forward_writes 0 (blocks_of done ++ (block ∷ [])) = ap (λ ws. ws ++ ((n, block) ∷ [])) is.ordered ∙ sym (forward_writes-push 0 n (blocks_of done) block (omega (arith, at, length-blocks done))) in
      record {
        cut = record {
          holds = ap joined blocks ∙ joined-push (blocks_of done ++ (block ∷ [])) [] ∙ append-nil (joined (blocks_of done ++ (block ∷ []))) ∙ is.holds;
          fits = rw blocks (fits_end room end (blocks_of done ++ (block ∷ [])) [] (fits_more room (blocks_of done) block [] is.fits (omega arith)) (omega (arith, fits)));
          full = rw blocks (full_more room end (blocks_of done) block [] is.full is.started (omega (arith, h, is.counts)));
        };
        ordered = ap (λ ws. ws ++ ((m, []) ∷ [])) ordered ∙ sym (forward_writes-push 0 m (blocks_of done ++ (block ∷ [])) [] (omega (arith, next, at, length-append (blocks_of done) (block ∷ []), length-blocks done))) ∙ ap (forward_writes 0) (sym blocks);
      }

  -- the same, by equal parts
  pub open_as : (room end : ℕ) (done done' : List (ℕ × List E)) (block block' : List E) (used used' : ℕ) (es : List E) → done' ≡ done → block' ≡ block → used' ≡ used → IsOpen size room end done block used es → IsOpen size room end done' block' used' es
  open_as room end done done' block block' used used' es a b c is = subst (λ d. IsOpen size room end d block' used' es) (sym a) (subst (λ b'. IsOpen size room end done b' used' es) (sym b) (subst (λ u. IsOpen size room end done block u es) (sym c) is))

  -- a cut has at most one block more than entries
  pub few_blocks : (room end : ℕ) (bs : List (List E)) → ((e : E) → size e ≤ room) → end ≤ room → AllFit size room end bs → IsFull size room end bs → length bs ≤ suc (length (joined bs))
  few_blocks room end [] sizes within fits full = absurd fits
  few_blocks room end (b ∷ []) sizes within fits full = omega arith
  few_blocks room end ([] ∷ c ∷ cs) sizes within fits full = absurd (omega (arith, full.0, leads c cs))
    where
      leads : (d : List E) (ds : List (List E)) → first_size size end d ds ≤ room
      leads [] [] = within
      leads [] (x ∷ xs) = omega arith
      leads (e ∷ d) ds = sizes e
  few_blocks room end ((e ∷ b) ∷ c ∷ cs) sizes within fits full = omega (arith, few_blocks room end (c ∷ cs) sizes within fits.1 full.1, length-append b (joined (c ∷ cs)))
