use Rattle.std.proofs.Common.{Bool, true, false, IsTrue, arith, refl}
use Rattle.std.specs.Prelude.{IsFalse}
use Rattle.dadsm_ops.proofs.ExtendedNames.{led_told}
use Rattle.dadsm_ops.proofs.extending.place_for.Goals as goal

-- a hall that tells its content doesn't come to what can't be there
untold : (tells : Bool) (P : Type 0) → (IsTrue tells → ⊥) → (IsFalse tells → P) → P
untold true P never there = absurd (never refl)
untold false P never there = there refl

pub returns-in-None-clause-told : goal.returns-in-None-clause-told
returns-in-None-clause-told g c told =
    let there = c.requires.own told (omega arith) in
    absurd (led_told c.args.vol.now c.args.set.now there.0 there.1 there.2 (c.further_of.ensures.none c.in-None.is))

pub returns-in-None-clause-faults : goal.returns-in-None-clause-faults
returns-in-None-clause-faults g c = record {
  units = c.differs.ensures.faults.units;
  references = c.differs.ensures.faults.references;
  prints = c.differs.ensures.faults.prints;
  later = c.differs.ensures.faults.later;
  done = tt;
  failed = untold g.H.Hall.tells _ (λ told. let there = c.requires.own told (omega arith) in led_told c.args.vol.now c.args.set.now there.0 there.1 there.2 (c.further_of.ensures.none c.in-None.is)) c.differs.ensures.rose;
}
