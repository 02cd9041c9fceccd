-- The entry of a run fits its five bytes.
use Rattle.std.proofs.Common.{◌≡◌, ◌+◌, ◌-◌, ◌*◌, ◌/◌, ◌≤◌, ◌<◌, ℕ, suc, inl, inr, ap, ◌∙◌, arith}
use Rattle.std.proofs.Math.Nat.{div-mul-le_self, lt-div-mul-add, mul-le-mul_right, mul-sub, mul_comm}
use Rattle.std.proofs.lemmas.Bool.Decides.{leb_tells}
use Rattle.vol_model.specs.declared.contents.Run.{Run}
use Rattle.pack_spec.specs.FreeChain.{whole_cylinders}

-- so many whole cylinders lie in the run, and fewer than two cylinders of tracks beside them
pub record Split (h l w : ℕ) : Type 0 where
  pub whole : w * h ≤ l
  pub rest : l < w * h + 2 * h
  pub few : w ≤ l

split_some : (a l h e f : ℕ) → 1 ≤ h → f ≤ e → e * h ≤ a + l → a + l < e * h + h → f * h ≤ a + h - 1 → a + h - 1 < f * h + h → Split h l (e - f)
split_some a l h e f some le e1 e2 f1 f2 =
    let product : (e - f) * h ≡ e * h - f * h = mul_comm (e - f) h ∙ mul-sub h e f ∙ ap (λ (n : ℕ). n - h * f) (mul_comm h e) ∙ ap (λ (n : ℕ). e * h - n) (mul_comm h f) in
    let more : f * h ≤ e * h = mul-le-mul_right {m = f} {n = e} h le in
    let ones : (e - f) * 1 ≤ (e - f) * h = omega (arith, mul-le-mul_right {m = 1} {n = h} (e - f) some, mul_comm h (e - f)) in
    record {
      whole = omega (arith, product, e1, f2, some);
      rest = omega (arith, product, e2, f1, more);
      few = omega (arith, ones, product, e1, f2, some);
    }

split_none : (a l h e f : ℕ) → 1 ≤ h → e < f → a + l < e * h + h → f * h ≤ a + h - 1 → Split h l (e - f)
split_none a l h e f some lt e2 f1 =
    let none : e - f ≡ 0 = omega (arith, lt) in
    let next : suc e * h ≤ f * h = mul-le-mul_right {m = suc e} {n = f} h (omega (arith, lt)) in
    rw none (record { whole = omega arith; rest = omega (arith, next, e2, f1); few = omega arith })

pub split : (h : ℕ) (run : Run) → 1 ≤ h → Split h run.len (whole_cylinders h run)
split h run some =
    let a : ℕ = run.start in
    let l : ℕ = run.len in
    let e : ℕ = (a + l) / h in
    let f : ℕ = (a + h - 1) / h in
    let e1 : e * h ≤ a + l = div-mul-le_self (a + l) h in
    let e2 : a + l < e * h + h = lt-div-mul-add {a = a + l} {b = h} some in
    let f1 : f * h ≤ a + h - 1 = div-mul-le_self (a + h - 1) h in
    let f2 : a + h - 1 < f * h + h = lt-div-mul-add {a = a + h - 1} {b = h} some in
    elim (leb_tells f e) [
      | inl w ↦ split_some a l h e f some w.1 e1 e2 f1 f2
      | inr w ↦ split_none a l h e f some (omega (arith, w.1)) e2 f1
    ]
