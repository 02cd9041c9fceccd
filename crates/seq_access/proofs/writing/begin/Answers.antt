use Rattle.std.proofs.Common.{◌≡◌, ap, ◌∙◌, sym, arith}
use Rattle.std.specs.Option.{option_map_or}
use Rattle.std.proofs.lemmas.Option.{get_or_from_slice_get}
use Rattle.dscb_codec.specs.declared.Dscb.TheVariants as formats
use Rattle.dscb_codec.specs.declared.F1.{F1}
use Rattle.pack_spec.specs.Blocks.{last_of}
use Rattle.pack_spec.specs.Directories.{read_to}
use Rattle.vol_model.specs.declared.contents.Place.{Place}
use Rattle.seq_access.proofs.Begins.{begins}
use Rattle.seq_access.proofs.writing.begin.Goals as goal

pub returns-in-F1-clause-writing : goal.returns-in-F1-clause-writing
returns-in-F1-clause-writing g c image f is set writable told =
    let there = c.index.ensures ∙ get_or_from_slice_get c.args.vol.now.slots.items c.args.slot (formats.F1 f) _ is in
    let one : formats.F1 c.in-F1.set ≡ formats.F1 f = sym c.in-F1.is ∙ there in
    let same : c.in-F1.set ≡ f = cc in
    begins image c.args.vol.now f c.args.slot c.args.end c.last_read.result is set writable told
    (c.last_read.ensures ∙ ap (λ (x : F1). option_map_or (λ (p : Place). read_to p x.lstar) c.args.end (last_of x.lstar)) same) (omega arith)

pub returns-in_default-clause-writing : goal.returns-in_default-clause-writing
returns-in_default-clause-writing g c image f is set writable told =
    absurd (c.in_default.not-F1 f (c.index.ensures ∙ get_or_from_slice_get c.args.vol.now.slots.items c.args.slot (formats.F1 f) _ is))
