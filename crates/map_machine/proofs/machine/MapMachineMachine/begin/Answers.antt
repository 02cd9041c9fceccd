-- A writer that has just begun can commit.
use Rattle.std.proofs.Common.{List, sym, subst, ap, ◌∙◌}
use Rattle.std.specs.Prelude.{is_some}
use Rattle.shelf_laws.specs.Ready.{IsReady}
use Rattle.vol_model.specs.Places.{Content}
use Rattle.vol_model.specs.Writing.{Target}
use Rattle.map_machine.proofs.machine.MapMachineMachine.begin.Goals as goal

pub invariant_of-self : goal.invariant_of-self
invariant_of-self c =
    let s = c.args.self.now.shelf in
    let t : Target = record { v = c.args.v; dsn = c.args.dsn.now; mode = c.args.mode } in
    record {
      lawful = c.args.self.now.lawful;
      ready = record {
        ready = subst (λ (l : List Content). IsReady s (record { target = t; puts = l })) (sym c.new-puts.ensures) (c.begin_law.ensures s t);
        target = ap is_some (sym c.begin_refusal.ensures ∙ c.in_default.is);
      };
    }
