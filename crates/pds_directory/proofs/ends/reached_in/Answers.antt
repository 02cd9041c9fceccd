use Rattle.std.proofs.Common.{◌≡◌, ◌+◌, ◌-◌, ℕ, ap, ◌∙◌, arith}
use Rattle.std.specs.Prelude.{slice_get}
use Rattle.std.specs.Option.{option_map}
use Rattle.pack_spec.specs.Directories.{is_end_record}
use Rattle.pds_directory.proofs.EndReads.{no_end_so_far}
use Rattle.pds_directory.proofs.ends.reached_in.Goals as goal

pub returns-then-is_end_record : goal.returns-then-is_end_record
returns-then-is_end_record c =
    let same : c.loop-before.before ≡ c.loop-before.before + 1 - 1 = omega arith in
    record {
      none = c.loop-before.invariant;
      end = λ _. ap (λ (n : ℕ). option_map is_end_record (slice_get c.args.buf.now.records n)) same ∙ c.if-is_end_record.ensures;
      all = λ e. cc;
      within = omega arith;
    }

pub loop-before-preserved : goal.loop-before-preserved
loop-before-preserved c =
    let same : c.loop-before.before ≡ c.loop-before.before + 1 - 1 = omega arith in
    no_end_so_far c.loop-before.before c.args.buf.now.records c.loop-before.invariant (ap (λ (n : ℕ). option_map is_end_record (slice_get c.args.buf.now.records n)) same ∙ c.if-is_end_record.ensures)
