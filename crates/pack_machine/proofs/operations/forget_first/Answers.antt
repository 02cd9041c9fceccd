use Rattle.std.proofs.Common.{rules, ◌≡◌, ◌∙◌, Option, Some, ℕ, List, refl, sym, ap}
use Rattle.std.specs.Prelude.{◌==◌, not}
use Rattle.std.proofs.lemmas.Fn.{filter_same}
use Rattle.vtoc_index.specs.Index.{IsMounted}
use Rattle.vtoc_sets.specs.Sets.{volume_in}
use Rattle.pack_machine.specs.NewSets.{first_track, without_first}
use Rattle.mount_repair.specs.declared.library.Library.{Library}
use Rattle.pack_machine.proofs.FirstTracks.{first_found, first_none}
use Rattle.pack_machine.proofs.operations.forget_first.Goals as goal

pub returns-in_default-clause-libraries : goal.returns-in_default-clause-libraries
returns-in_default-clause-libraries c image mounted =
    ap (λ (first : Option ℕ). without_first first c.args.known.now.libraries.items) (sym (first_none image c.args.vol.now mounted c.args.dsn.now.bytes (c.in_default.ensures.none refl)))

pub returns-in_default-track_at-clause-libraries : goal.returns-in_default-track_at-clause-libraries
returns-in_default-track_at-clause-libraries c image mounted =
    let found = first_found image c.args.vol.now mounted c.args.dsn.now.bytes c.in-Some.field-0-0 c.in-Some.set c.in-Some.ensures.slot c.in-Some.ensures.set in
    ap (λ (first : Option ℕ). without_first first c.args.known.now.libraries.items) (sym (found.1 ∙ sym (c.track_at.ensures.track image found.0) ∙ c.in_default-track_at.is))

-- the set begins on the track that was found
begins : (c : goal.After-retain) (image : List ℕ) → IsMounted image c.args.vol.now → first_track c.args.dsn.now.bytes (volume_in image c.args.vol.now) ≡ Some c.in-Some-track_at.start
begins c image mounted =
    let found = first_found image c.args.vol.now mounted c.args.dsn.now.bytes c.in-Some.field-0-0 c.in-Some.set c.in-Some.ensures.slot c.in-Some.ensures.set in
    found.1 ∙ sym (c.track_at.ensures.track image found.0) ∙ c.in-Some-track_at.is

pub returns-clause-libraries : goal.returns-clause-libraries
returns-clause-libraries c image mounted =
    filter_same _ (λ (l : Library). not (l.start == c.in-Some-track_at.start)) _ (λ x b f' k. search rules) c.args.known.now.libraries.items c.retain.new.self.items c.retain.ensures.filtered
    ∙ ap (λ (first : Option ℕ). without_first first c.args.known.now.libraries.items) (sym (begins c image mounted))
