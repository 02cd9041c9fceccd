use Rattle.std.proofs.Common.{◌≡◌, ◌++◌, ◌∷◌, [], length, false, refl, ap, ◌∙◌, arith, rules}
use Rattle.std.specs.Prelude.{string_bytes}
use Rattle.std.proofs.lemmas.List.{length-map}
use Rattle.hall_files.specs.FileHall.{units_of}
use Rattle.hall_files.proofs.Units.{units_of-push}
use Rattle.hall_files.proofs.file_hall.FileHallHall.create.Goals as goal

pub returns-clause-faults : goal.returns-clause-faults
returns-clause-faults g c =
    let old = c.args.self.now.units.items in
    let named : string_bytes c.in_ok-name_copy.name_copy ≡ c.args.name.now = search rules in
    let pushed : c.push.new.self.items ≡ old ++ record { name = c.in_ok-name_copy.name_copy; file = c.in_ok-file.file; size = c.args.len; is_written = false } ∷ [] = search rules in
    let count : c.len-unit.result ≡ length old = search rules in
    let uncounted : c.counted.new.faults ≡ c.args.self.now.dev_faults = search rules in
    record {
      added = (simp length-map count, ap units_of pushed ∙ units_of-push old _ _ named);
      stays = tt;
      references = refl;
      prints = refl;
      later = omega (arith, uncounted);
      failed = λ e. absurd (cc e);
      others = λ _. uncounted;
      memory = λ e. absurd (cc e);
      never_missing = λ e. absurd (cc e);
    }
