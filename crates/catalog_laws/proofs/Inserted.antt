-- A chain to which one more entry leads, or one less.
use Rattle.std.proofs.Common.{◌≡◌, ℕ, List, [], ◌∷◌, ◌++◌, refl, sym, ap, subst, ◌∙◌, append_assoc}
use Rattle.catalog_blocks.specs.declared.chains.Chain.{Chain}
use Rattle.catalog_blocks.specs.declared.chains.Lead.{Lead}
use Rattle.catalog_blocks.specs.Trees.{Store, numbers}
use Rattle.catalog_laws.specs.Forests.{AgreeAt, Follow, StandsAt, all_numbers, leads_of}
use Rattle.catalog_laws.proofs.Frames.{agree_left, agree_right, follow_still, stands_still}

pub numbers_append : (xs ys : List Chain) → all_numbers (xs ++ ys) ≡ all_numbers xs ++ all_numbers ys
numbers_append [] ys = refl
numbers_append (x ∷ xs) ys = ap (λ (ks : List ℕ). numbers x ++ ks) (numbers_append xs ys) ∙ sym (append_assoc (numbers x) (all_numbers xs) (all_numbers ys))

-- Chains follow leads of which some come first.
pub record Splits (per : ℕ) (store : Store) (us ws : List Lead) (cs : List Chain) : Type 0 where
  pub front : List Chain
  pub rest : List Chain
  pub is : cs ≡ front ++ rest
  pub first : Follow per store us front
  pub second : Follow per store ws rest

pub split : (per : ℕ) (store : Store) (us ws : List Lead) (cs : List Chain) → Follow per store (us ++ ws) cs → Splits per store us ws cs
split per store [] ws cs follow = record { front = []; rest = cs; is = refl; first = tt; second = follow }
split per store (u ∷ us) ws [] follow = absurd follow
split per store (u ∷ us) ws (c ∷ cs) follow =
    let rest = split per store (leads_of c ++ us) ws cs (subst (λ (ls : List Lead). Follow per store ls cs) (sym (append_assoc (leads_of c) us ws)) follow.1) in
    record { front = c ∷ rest.front; rest = rest.rest; is = ap (λ (ds : List Chain). c ∷ ds) rest.is; first = (follow.0, rest.first); second = rest.second }

pub join : (per : ℕ) (store : Store) (us ws : List Lead) (front rest : List Chain) → Follow per store us front → Follow per store ws rest → Follow per store (us ++ ws) (front ++ rest)
join per store [] ws [] rest first second = second
join per store [] ws (c ∷ cs) rest first second = absurd first
join per store (u ∷ us) ws [] rest first second = absurd first
join per store (u ∷ us) ws (c ∷ cs) rest first second = (
  first.0,
  subst (λ (ls : List Lead). Follow per store ls (cs ++ rest)) (append_assoc (leads_of c) us ws) (join per store (leads_of c ++ us) ws cs rest first.1 second),
)

-- One chain leads to one more, and no chain below that; in the new store all others stand as they did.
pub record Gains (per : ℕ) (store new : Store) (c c' d : Chain) : Type 0 where
  pub us : List Lead
  pub lead : Lead
  pub vs : List Lead
  pub was : leads_of c ≡ us ++ vs
  pub is : leads_of c' ≡ us ++ lead ∷ vs
  pub here : (l : Lead) → StandsAt per store l c → StandsAt per new l c'
  pub there : StandsAt per new lead d
  pub leaf : leads_of d ≡ []

-- Chains of which one has come.
pub record HasCome (per : ℕ) (new : Store) (ls : List Lead) (before : List Chain) (c' d : Chain) (after : List Chain) : Type 0 where
  pub front : List Chain
  pub rest : List Chain
  pub is : after ≡ front ++ rest
  pub follow : Follow per new ls (before ++ c' ∷ (front ++ d ∷ rest))

come_here : (per : ℕ) (store new : Store) (l : Lead) (ls : List Lead) (c c' d : Chain) (after : List Chain) → Gains per store new c c' d → AgreeAt (all_numbers after) store new
    → Follow per store (l ∷ ls) (c ∷ after) → HasCome per new (l ∷ ls) [] c' d after
come_here per store new l ls c c' d after g second follow =
    let still : Follow per new (g.us ++ (g.vs ++ ls)) after = follow_still per store new (g.us ++ (g.vs ++ ls)) after second
    (subst (λ (ms : List Lead). Follow per store ms after) (ap (λ (ms : List Lead). ms ++ ls) g.was ∙ append_assoc g.us g.vs ls) follow.1) in
    let s = split per new g.us (g.vs ++ ls) after still in
    let leaf : Follow per new (leads_of d ++ (g.vs ++ ls)) s.rest = subst (λ (ms : List Lead). Follow per new (ms ++ (g.vs ++ ls)) s.rest) (sym g.leaf) s.second in
    let joined : Follow per new (g.us ++ (g.lead ∷ (g.vs ++ ls))) (s.front ++ d ∷ s.rest) = join per new g.us (g.lead ∷ (g.vs ++ ls)) s.front (d ∷ s.rest) s.first (g.there, leaf) in
    record {
      front = s.front;
      rest = s.rest;
      is = s.is;
      follow = (g.here l follow.0, subst (λ (ms : List Lead). Follow per new ms (s.front ++ d ∷ s.rest)) (sym (ap (λ (ms : List Lead). ms ++ ls) g.is ∙ append_assoc g.us (g.lead ∷ g.vs) ls)) joined);
    }

-- a new chain comes after the chains to which the entries before its own lead
pub come : (per : ℕ) (store new : Store) (ls : List Lead) (before : List Chain) (c c' d : Chain) (after : List Chain) → Gains per store new c c' d → AgreeAt (all_numbers before) store new → AgreeAt (all_numbers after) store new
    → Follow per store ls (before ++ c ∷ after) → HasCome per new ls before c' d after
come per store new [] [] c c' d after g first second follow = absurd follow
come per store new (l ∷ ls) [] c c' d after g first second follow = come_here per store new l ls c c' d after g second follow
come per store new [] (a ∷ more) c c' d after g first second follow = absurd follow
come per store new (l ∷ ls) (a ∷ more) c c' d after g first second follow =
    let rest = come per store new (leads_of a ++ ls) more c c' d after g (agree_right (numbers a) (all_numbers more) store new first) second follow.1 in
    record {
      front = rest.front;
      rest = rest.rest;
      is = rest.is;
      follow = (stands_still per store new l a (agree_left (numbers a) (all_numbers more) store new first) follow.0, rest.follow);
    }

-- the blocks of chains of which one is left out
number_parts : (front : List Chain) (d : Chain) (rest : List Chain) (store new : Store) → AgreeAt (all_numbers (front ++ d ∷ rest)) store new → AgreeAt (all_numbers front) store new × AgreeAt (all_numbers rest) store new
number_parts front d rest store new agree =
    let both = subst (λ (ks : List ℕ). AgreeAt ks store new) (numbers_append front (d ∷ rest)) agree in
    (agree_left (all_numbers front) (all_numbers (d ∷ rest)) store new both, agree_right (numbers d) (all_numbers rest) store new (agree_right (all_numbers front) (all_numbers (d ∷ rest)) store new both))

-- One chain leads to one less, below which no chain was.
pub record Loses (per : ℕ) (store new : Store) (c c' : Chain) : Type 0 where
  pub us : List Lead
  pub lead : Lead
  pub vs : List Lead
  pub was : leads_of c ≡ us ++ lead ∷ vs
  pub is : leads_of c' ≡ us ++ vs
  pub here : (l : Lead) → StandsAt per store l c → StandsAt per new l c'
  pub leaf : (d : Chain) → StandsAt per store lead d → leads_of d ≡ []

-- Chains of which one has gone.
pub record HasGone (per : ℕ) (store new : Store) (ls : List Lead) (before : List Chain) (c' : Chain) (after : List Chain) (lead : Lead) : Type 0 where
  pub front : List Chain
  pub gone : Chain
  pub rest : List Chain
  pub is : after ≡ front ++ gone ∷ rest
  pub stood : StandsAt per store lead gone
  pub follow : Follow per new ls (before ++ c' ∷ (front ++ rest))

gone_from : (per : ℕ) (store : Store) (lead : Lead) (vs : List Lead) (cs : List Chain) → ((d : Chain) → StandsAt per store lead d → leads_of d ≡ []) → Follow per store (lead ∷ vs) cs
    → (d : Chain) × (rest : List Chain) × (cs ≡ d ∷ rest) × StandsAt per store lead d × Follow per store vs rest
gone_from per store lead vs [] leaf follow = absurd follow
gone_from per store lead vs (d ∷ rest) leaf follow = (d, rest, refl, follow.0, subst (λ (ms : List Lead). Follow per store (ms ++ vs) rest) (leaf d follow.0) follow.1)

go_here : (per : ℕ) (store new : Store) (l : Lead) (ls : List Lead) (c c' : Chain) (after : List Chain) (g : Loses per store new c c') → AgreeAt (all_numbers after) store new
    → Follow per store (l ∷ ls) (c ∷ after) → HasGone per store new (l ∷ ls) [] c' after g.lead
go_here per store new l ls c c' after g second follow =
    let s = split per store g.us (g.lead ∷ (g.vs ++ ls)) after (subst (λ (ms : List Lead). Follow per store ms after) (ap (λ (ms : List Lead). ms ++ ls) g.was ∙ append_assoc g.us (g.lead ∷ g.vs) ls) follow.1) in
    let d = gone_from per store g.lead (g.vs ++ ls) s.rest g.leaf s.second in
    let all : after ≡ s.front ++ d.0 ∷ d.1 = s.is ∙ ap (λ (cs : List Chain). s.front ++ cs) d.2 in
    let parts = number_parts s.front d.0 d.1 store new (subst (λ (cs : List Chain). AgreeAt (all_numbers cs) store new) all second) in
    let joined = join per new g.us (g.vs ++ ls) s.front d.1 (follow_still per store new g.us s.front parts.0 s.first) (follow_still per store new (g.vs ++ ls) d.1 parts.1 d.4) in
    record {
      front = s.front;
      gone = d.0;
      rest = d.1;
      is = all;
      stood = d.3;
      follow = (g.here l follow.0, subst (λ (ms : List Lead). Follow per new ms (s.front ++ d.1)) (sym (ap (λ (ms : List Lead). ms ++ ls) g.is ∙ append_assoc g.us g.vs ls)) joined);
    }

-- a chain without chains below it goes
pub go : (per : ℕ) (store new : Store) (ls : List Lead) (before : List Chain) (c c' : Chain) (after : List Chain) (g : Loses per store new c c') → AgreeAt (all_numbers before) store new → AgreeAt (all_numbers after) store new
    → Follow per store ls (before ++ c ∷ after) → HasGone per store new ls before c' after g.lead
go per store new [] [] c c' after g first second follow = absurd follow
go per store new (l ∷ ls) [] c c' after g first second follow = go_here per store new l ls c c' after g second follow
go per store new [] (a ∷ more) c c' after g first second follow = absurd follow
go per store new (l ∷ ls) (a ∷ more) c c' after g first second follow =
    let rest = go per store new (leads_of a ++ ls) more c c' after g (agree_right (numbers a) (all_numbers more) store new first) second follow.1 in
    record {
      front = rest.front;
      gone = rest.gone;
      rest = rest.rest;
      is = rest.is;
      stood = rest.stood;
      follow = (stands_still per store new l a (agree_left (numbers a) (all_numbers more) store new first) follow.0, rest.follow);
    }
