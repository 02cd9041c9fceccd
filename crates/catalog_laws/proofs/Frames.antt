-- What a write of blocks leaves of the chains that don't have them.
use Rattle.std.proofs.Common.{◌≡◌, ℕ, Bool, true, false, List, [], ◌∷◌, ◌++◌, refl, sym, ap, subst, ◌∙◌}
use Rattle.std.specs.Prelude.{◌==◌, ◌||◌}
use Rattle.std.proofs.lemmas.Bool.{eq-eqb}
use Rattle.vol_model.specs.declared.contents.Place.{Place}
use Rattle.catalog_blocks.specs.declared.blocks.CatEntry.{CatEntry}
use Rattle.catalog_blocks.specs.declared.chains.Chain.{Chain}
use Rattle.catalog_blocks.specs.declared.chains.Lead.{Lead}
use Rattle.catalog_blocks.specs.Trees.{Store, is_among, number_at, numbers}
use Rattle.catalog_laws.specs.Forests.{AgreeAt, Follow, Links, StandsAt, all_numbers, leads_of}
use Rattle.catalog_laws.proofs.ChainReads.{of}

or_true : (a b : Bool) → b ≡ true → (a || b) ≡ true
or_true true b is = refl
or_true false b is = is

or_first : (a b : Bool) → a ≡ true → (a || b) ≡ true
or_first true b is = refl
or_first false b is = ap (λ (x : Bool). x || b) is

pub among_first : (k : ℕ) (ks : List ℕ) → is_among k (k ∷ ks) ≡ true
among_first k ks = or_first (k == k) (is_among k ks) (eq-eqb k k refl)

pub among_later : (k j : ℕ) (ks : List ℕ) → is_among k ks ≡ true → is_among k (j ∷ ks) ≡ true
among_later k j ks is = or_true (j == k) (is_among k ks) is

pub among_left : (k : ℕ) (xs ys : List ℕ) → is_among k xs ≡ true → is_among k (xs ++ ys) ≡ true
among_left k [] ys is = cc
among_left k (x ∷ xs) ys is = by (λ e. among_left k xs ys e) (x == k) refl
  where
    by : (is_among k xs ≡ true → is_among k (xs ++ ys) ≡ true) → (b : Bool) → (x == k) ≡ b → is_among k ((x ∷ xs) ++ ys) ≡ true
    by later true e = or_first (x == k) (is_among k (xs ++ ys)) e
    by later false e = or_true (x == k) (is_among k (xs ++ ys)) (later (sym (ap (λ (b : Bool). b || is_among k xs) e) ∙ is))

pub among_right : (k : ℕ) (xs ys : List ℕ) → is_among k ys ≡ true → is_among k (xs ++ ys) ≡ true
among_right k [] ys is = is
among_right k (x ∷ xs) ys is = or_true (x == k) (is_among k (xs ++ ys)) (among_right k xs ys is)

pub agree_left : (xs ys : List ℕ) (store new : Store) → AgreeAt (xs ++ ys) store new → AgreeAt xs store new
agree_left xs ys store new agree = record { size = agree.size; blocks = λ k is. agree.blocks k (among_left k xs ys is) }

pub agree_right : (xs ys : List ℕ) (store new : Store) → AgreeAt (xs ++ ys) store new → AgreeAt ys store new
agree_right xs ys store new agree = record { size = agree.size; blocks = λ k is. agree.blocks k (among_right k xs ys is) }

agree_rest : (x : ℕ) (xs : List ℕ) (store new : Store) → AgreeAt (x ∷ xs) store new → AgreeAt xs store new
agree_rest x xs store new agree = record { size = agree.size; blocks = λ k is. agree.blocks k (among_later k x xs is) }

-- blocks one after the other stay so
pub links_stay : (per : ℕ) (store new : Store) (p : Place) (bs : List (ℕ × List CatEntry)) → AgreeAt (of bs) store new → Links per store p bs → Links per new p bs
links_stay per store new p [] agree links = links
links_stay per store new p (b ∷ bs) agree links = (
  ap (λ (n : ℕ). number_at per n p) agree.size ∙ links.0,
  links.1,
  agree.blocks b.0 (among_first b.0 (of bs)) ∙ links.2,
  links_stay per store new links.1 bs (agree_rest b.0 (of bs) store new agree) links.3,
)

pub stands_still : (per : ℕ) (store new : Store) (l : Lead) (c : Chain) → AgreeAt (numbers c) store new → StandsAt per store l c → StandsAt per new l c
stands_still per store new l c agree stands = record {
  some = stands.some;
  links = links_stay per store new l.place c.blocks agree stands.links;
  suit = stands.suit;
  is = stands.is;
}

-- all chains stay that have none of the blocks that change
pub follow_still : (per : ℕ) (store new : Store) (ls : List Lead) (cs : List Chain) → AgreeAt (all_numbers cs) store new → Follow per store ls cs → Follow per new ls cs
follow_still per store new [] [] agree follow = tt
follow_still per store new [] (c ∷ cs) agree follow = follow
follow_still per store new (l ∷ ls) [] agree follow = follow
follow_still per store new (l ∷ ls) (c ∷ cs) agree follow = (
  stands_still per store new l c (agree_left (numbers c) (all_numbers cs) store new agree) follow.0,
  follow_still per store new (leads_of c ++ ls) cs (agree_right (numbers c) (all_numbers cs) store new agree) follow.1,
)

-- one chain gives way to another that leads to the same chains, all others stay
pub replaced : (per : ℕ) (store new : Store) (ls : List Lead) (before : List Chain) (c d : Chain) (after : List Chain) → Follow per store ls (before ++ c ∷ after)
    → AgreeAt (all_numbers before) store new → AgreeAt (all_numbers after) store new → ((l : Lead) → StandsAt per store l c → StandsAt per new l d) → leads_of d ≡ leads_of c → Follow per new ls (before ++ d ∷ after)
replaced per store new [] [] c d after follow first second stands leads = follow
replaced per store new (l ∷ ls) [] c d after follow first second stands leads = (
  stands l follow.0,
  subst (λ (ms : List Lead). Follow per new (ms ++ ls) after) (sym leads) (follow_still per store new (leads_of c ++ ls) after second follow.1),
)
replaced per store new [] (a ∷ more) c d after follow first second stands leads = follow
replaced per store new (l ∷ ls) (a ∷ more) c d after follow first second stands leads = (
  stands_still per store new l a (agree_left (numbers a) (all_numbers more) store new first) follow.0,
  replaced per store new (leads_of a ++ ls) more c d after follow.1 (agree_right (numbers a) (all_numbers more) store new first) second stands leads,
)
