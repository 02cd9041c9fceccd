use Rattle.std.proofs.Common.{◌≡◌, ◌++◌, ◌∷◌, [], ℕ, List, Option, Some, subst, sym}
use Rattle.std.specs.Prelude.{OnOk, Result}
use Rattle.pack_spec.specs.declared.MountErr.{MountErr}
use Rattle.pds_directory.specs.declared.dir.Dir.{Dir}
use Rattle.mount_repair.specs.Walks.{HoldsFrom}
use Rattle.mount_repair.specs.declared.library.Library.{Library}
use Rattle.mount_repair.proofs.walk.hold.Goals as goal
use Rattle.mount_repair.proofs.walk.hold.Goals.{in-Ok, in-Err}

holds : (o : Option ℕ) (start : ℕ) (dir : Dir) (l : Library) (old new : List Library) → o ≡ Some start → (l.dir ≡ dir) × (l.start ≡ start) → new ≡ old ++ l ∷ [] → HoldsFrom o dir old new
holds o start dir l old new is of pushed = subst (λ (x : Option ℕ). HoldsFrom x dir old new) (sym is) (l, of.0, of.1, pushed)

pub returns-clause-held : goal.returns-clause-held
returns-clause-held c =
    let from = HoldsFrom c.args.start c.args.dir c.args.libraries.now.items c.push.new.self.items in
    elim c.match-push.branch as (λ _. OnOk c.match-push.result from) [
      | in-Ok w ↦ subst (λ (r : Result (Unit {0}) MountErr). OnOk r from) (sym w.result-is) (holds _ _ _ c.in_ok-library.library _ _ c.in-Some.is c.in_ok-library.ensures w.in-Ok.ensures.items)
      | in-Err w ↦ subst (λ (r : Result (Unit {0}) MountErr). OnOk r from) (sym w.result-is) tt
    ]
