-- How time goes on from one call to the next, and what a stop leaves then.
use Rattle.std.specs.Prelude.{ℕ, ◌≤◌, List}
use Rattle.std.proofs.Common.{inl, inr, ⊎_elim, arith, sym, subst, refl, ap, ◌∙◌}
use Rattle.stop_model.specs.Moments.{Meaning, LeftNow, IsDurable, ElapsesExactly, Elapses, Same}
use Rattle.stop_model.specs.Steps.{seen, Leaves}

-- what a stop now leaves, one since any earlier moment may have left
abbrev pub CountsNow : {X : Type 0} → Meaning X → Type 0
CountsNow {X} m = (t : ℕ) (x : X) → t ≤ m.clock → m.left x → m.left_since t x m.printed

-- since this moment there is no other
abbrev pub OnlyNow : {X : Type 0} → Meaning X → Type 0
OnlyNow {X} m = (x : X) (p : List ℕ) → m.left_since m.clock x p → LeftNow m x p

-- what is known exactly is known, and so is what follows from it
pub elapses_from_exactly : {X : Type 0} {old new : Meaning X} {P Q : X → List ℕ → Type 0} → ElapsesExactly old new P → ((x : X) (p : List ℕ) → P x p → Q x p) → Elapses old new Q
elapses_from_exactly exactly weaker = record {
  later = exactly.later;
  moments = λ t x p early left. ⊎_elim (λ before. inl before) (λ here. inr (weaker x p here)) ((exactly.since t x p early).0 left);
  keeps = λ t x p early left. (exactly.since t x p early).1 (inl left);
}

-- what has P has Q
pub elapses_weaker : {X : Type 0} {old new : Meaning X} {P Q : X → List ℕ → Type 0} → Elapses old new P → ((x : X) (p : List ℕ) → P x p → Q x p) → Elapses old new Q
elapses_weaker time weaker = record {
  later = time.later;
  moments = λ t x p early left. ⊎_elim (λ before. inl before) (λ here. inr (weaker x p here)) (time.moments t x p early left);
  keeps = time.keeps;
}

-- no call
pub elapses_none : {X : Type 0} (m : Meaning X) (P : X → List ℕ → Type 0) → Elapses m m P
elapses_none m P = record { later = omega arith; moments = λ t x p early left. inl left; keeps = λ t x p early left. left }

-- one call after another
pub elapses_then : {X : Type 0} {old mid new : Meaning X} {P : X → List ℕ → Type 0} → Elapses old mid P → Elapses mid new P → Elapses old new P
elapses_then first second = record {
  later = omega (arith, first.later, second.later);
  moments = λ t x p early left. ⊎_elim (λ before. first.moments t x p early before) (λ here. inr here) (second.moments t x p (omega (arith, early, first.later)) left);
  keeps = λ t x p early left. second.keeps t x p (omega (arith, early, first.later)) (first.keeps t x p early left);
}

-- nothing but time goes on
pub elapses_same : {X : Type 0} {old new : Meaning X} {P : X → List ℕ → Type 0} → Same old new → Leaves old P → Elapses old new P
elapses_same {P = P} same here = elapses_from_exactly same.time (λ x p now. subst (λ q. P x q) (sym now.1) (here x now.0))

-- what a stop since the start leaves, if one at the start left what has P
pub stops_leave : {X : Type 0} {old new : Meaning X} {P : X → List ℕ → Type 0} → OnlyNow old → Leaves old P → Elapses old new P → (x : X) (p : List ℕ) → new.left_since old.clock x p → P x p
stops_leave {old = old} {P = P} only here time x p left =
    ⊎_elim (λ before. let now = only x p before in subst (λ q. P x q) (sym now.1) (here x now.0)) (λ has. has) (time.moments old.clock x p (omega arith) left)

-- and what one leaves now, whether or not the last call failed
pub leaves_now : {X : Type 0} {old new : Meaning X} {P : X → List ℕ → Type 0} → OnlyNow old → CountsNow new → Leaves old P → Elapses old new P → Leaves new P
leaves_now {old = old} only counts here time x left = stops_leave only here time x _ (counts old.clock x time.later left)

-- a state that is durable is all that a stop leaves
pub durable_leaves : {X : Type 0} (m : Meaning X) (P : X → Type 0) → IsDurable m → P m.state → (x : X) → m.left x → P x
durable_leaves m P durable here x left = subst P (sym (durable x left)) here

-- a stop while nothing but time goes on leaves what one left before
pub same_elapses : {X : Type 0} {old new : Meaning X} → Same old new → Elapses old new (LeftNow old)
same_elapses same = elapses_from_exactly same.time (λ x p now. now)

-- and one after it, too
pub left_back : {X : Type 0} {old new : Meaning X} → Same old new → (x : X) (p : List ℕ) → LeftNow new x p → LeftNow old x p
left_back same x p now = ((same.left x).0 now.0, now.1 ∙ same.printed)

-- a call that changes nothing, after another or none
pub same_none : {X : Type 0} (m : Meaning X) → CountsNow m → Same m m
same_none m counts = record {
  state = refl;
  printed = refl;
  left = λ x. (λ left. left, λ left. left);
  time = record { later = omega arith; since = λ t x p early. (inl, ⊎_elim (λ before. before) (λ now. subst (λ q. m.left_since t x q) (sym now.1) (counts t x early now.0))) };
}

pub same_then : {X : Type 0} {old mid new : Meaning X} → Same old mid → Same mid new → Same old new
same_then first second = record {
  state = second.state ∙ first.state;
  printed = second.printed ∙ first.printed;
  left = λ x. (λ left. (first.left x).0 ((second.left x).0 left), λ left. (second.left x).1 ((first.left x).1 left));
  time = record {
    later = omega (arith, first.time.later, second.time.later);
    since = λ t x p early. (
      λ left. ⊎_elim (λ before. (first.time.since t x p early).0 before) (λ now. inr ((first.left x).0 now.0, now.1 ∙ first.printed)) ((second.time.since t x p (omega (arith, early, first.time.later))).0 left),
      λ left. (second.time.since t x p (omega (arith, early, first.time.later))).1 (inl ((first.time.since t x p early).1 left)),
    );
  };
}

pub durable_same : {X : Type 0} {old new : Meaning X} → Same old new → IsDurable old → IsDurable new
durable_same same durable x left = durable x ((same.left x).0 left) ∙ sym same.state

-- through a function of the state
pub elapses_seen : {X Y : Type 0} (f : X → Y) {old new : Meaning X} {P : Y → List ℕ → Type 0} → Elapses old new (λ x p. P (f x) p) → Elapses (seen f old) (seen f new) P
elapses_seen f {P = P} time = record {
  later = time.later;
  moments = λ t y p early left. ⊎_elim (λ before. inl (left.0, before, left.2)) (λ here. inr (subst (λ z. P z p) left.2 here)) (time.moments t left.0 p early left.1);
  keeps = λ t y p early left. (left.0, time.keeps t left.0 p early left.1, left.2);
}

pub durable_seen : {X Y : Type 0} (f : X → Y) (m : Meaning X) → IsDurable m → IsDurable (seen f m)
durable_seen f m durable y left = sym left.2 ∙ ap f (durable left.0 left.1)

pub same_seen : {X Y : Type 0} (f : X → Y) {old new : Meaning X} → Same old new → Same (seen f old) (seen f new)
same_seen f same = record {
  state = ap f same.state;
  printed = same.printed;
  left = λ y. (λ left. (left.0, (same.left left.0).0 left.1, left.2), λ left. (left.0, (same.left left.0).1 left.1, left.2));
  time = record {
    later = same.time.later;
    since = λ t y p early. (
      λ left. ⊎_elim (λ before. inl (left.0, before, left.2)) (λ now. inr ((left.0, now.0, left.2), now.1)) ((same.time.since t left.0 p early).0 left.1),
      ⊎_elim (λ before. (before.0, (same.time.since t before.0 p early).1 (inl before.1), before.2)) (λ now. (now.0.0, (same.time.since t now.0.0 p early).1 (inr (now.0.1, now.1)), now.0.2)),
    );
  };
}

pub counts_now_seen : {X Y : Type 0} (f : X → Y) (m : Meaning X) → CountsNow m → CountsNow (seen f m)
counts_now_seen f m counts t y early left = (left.0, counts t left.0 early left.1, left.2)

pub only_now_seen : {X Y : Type 0} (f : X → Y) (m : Meaning X) → OnlyNow m → OnlyNow (seen f m)
only_now_seen f m only y p left = let now = only left.0 p left.1 in ((left.0, now.0, left.2), now.1)
