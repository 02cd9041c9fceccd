use Rattle.std.proofs.Common.{◌≡◌, ℕ, Bool, true, false, IsTrue, Option, None, refl, sym, ◌∙◌}
use Rattle.std.specs.Prelude.{IsFalse, is_some}
use Rattle.vtoc_index.specs.Free.{open_slot}
use Rattle.dadsm_ops.proofs.NewSetCalls.{open_there}
use Rattle.dadsm_ops.proofs.allocating.open_slot.Goals as goal

-- a hall that tells its content doesn't come to what can't be there
untold : (tells : Bool) (P : Type 0) → (IsTrue tells → ⊥) → (IsFalse tells → P) → P
untold true P never there = absurd (never refl)
untold false P never there = there refl

none_there : (o : Option ℕ) → is_some o ≡ true → o ≡ None → ⊥
none_there o some none = cc

pub returns-in-None-clause-told : goal.returns-in-None-clause-told
returns-in-None-clause-told g c told =
    absurd (none_there (open_slot c.args.vol.now.slots.items) (open_there c.args.vol.now.slots.items (c.requires.some told)) (sym c.free_slot.ensures ∙ c.in-None.is))

pub returns-in-None-clause-faults : goal.returns-in-None-clause-faults
returns-in-None-clause-faults g c = record {
  units = c.differs.ensures.faults.units;
  references = c.differs.ensures.faults.references;
  prints = c.differs.ensures.faults.prints;
  later = c.differs.ensures.faults.later;
  done = tt;
  failed = untold g.H.Hall.tells _ (λ told. none_there (open_slot c.args.vol.now.slots.items) (open_there c.args.vol.now.slots.items (c.requires.some told)) (sym c.free_slot.ensures ∙ c.in-None.is)) c.differs.ensures.rose;
}
