use Rattle.std.proofs.Common.{◌≡◌, Some, None, sym, ap, ◌∙◌, subst, arith}
use Rattle.std.specs.Prelude.{IfSome, Ok, Option}
use Rattle.hall_core.specs.Images.{image_in}
use Rattle.pack_spec.specs.Blocks.{blocks_at, last_of}
use Rattle.vol_model.specs.declared.contents.Place.{Place}
use Rattle.vol_model.specs.Places.{is_before}
use Rattle.seq_access.specs.Bodies.{data_in, owned_in}
use Rattle.seq_access.specs.Reading.{FindsOn}
use Rattle.seq_access.proofs.OpenEnded.{closed_none, first, found_tells, found_there, last_there}
use Rattle.seq_access.proofs.members.is_open_ended.Goals.{then-not-is_before-via-then-not-is_before, then-not-is_before-via-else-not-is_before+then-last-eq0}
use Rattle.seq_access.proofs.members.is_open_ended.Goals as goal

pub returns-then-not-is_before-clause-answer : goal.returns-then-not-is_before-clause-answer
returns-then-not-is_before-clause-answer g c told =
    let image = image_in (g.H.Hall.meaning c.args.hall.now) (g.H.Hall.facts c.args.hall.now) c.args.vol.now.unit in
    let end = c.args.end in
    elim c.then-not-is_before.branch [
      | then-not-is_before-via-then-not-is_before w ↦
          closed_none image c.args.vol.now c.args.set.now end (c.requires.end told) (c.requires.readable told) (sym (w.if-not-is_before.ensures ∙ ap (is_before end) c.last_of-last.ensures))
      | then-not-is_before-via-else-not-is_before+then-last-eq0 w ↦
          let one = first image c.args.vol.now c.args.set.now end (c.requires.end told) (c.requires.readable told) (sym (w.if-not-is_before.ensures ∙ ap (is_before end) c.last_of-last.ensures)) in
          absurd (omega (arith, one, w.if-last-eq0.true, ap (λ (p : Place). p.r) c.last_of-last.ensures))
    ]

pub seek_on-requires-clause-blocks : goal.seek_on-requires-clause-blocks
seek_on-requires-clause-blocks g c told =
    let image = image_in (g.H.Hall.meaning c.args.hall.now) (g.H.Hall.facts c.args.hall.now) c.args.vol.now.unit in
    let v = c.args.vol.now in
    let f = c.args.set.now in
    rw c.last_of-last.ensures (last_there image v f c.args.end (c.requires.end told) (c.requires.readable told) (sym (c.if-not-is_before.ensures ∙ ap (is_before c.args.end) c.last_of-last.ensures)))

pub returns-in-Some-clause-answer : goal.returns-in-Some-clause-answer
returns-in-Some-clause-answer g c told =
    let image = image_in (g.H.Hall.meaning c.args.hall.now) (g.H.Hall.facts c.args.hall.now) c.args.vol.now.unit in
    let v = c.args.vol.now in
    let f = c.args.set.now in
    let b = c.seek_on.new.buf.records in
    let p = c.in-Some.place in
    let P : Place → Option Place → Type 0 = λ last o. FindsOn (Ok o) (blocks_at v.geometry (data_in image v) (owned_in image v f) last last.tt) last b in
    let found : P (last_of f.lstar) (Some p) = subst (λ (q : Place). P q (Some p)) c.last_of-last.ensures (subst (P c.last_of-last.result) c.in-Some.is (c.in_ok-place.ensures.found told)) in
    let same : p ≡ c.last_of-last.result = subst (λ (o : Option Place). IfSome o (λ q. q ≡ c.last_of-last.result)) c.in-Some.is c.in_ok-place.ensures.place in
    found_tells image v f c.args.end (c.requires.end told) (c.requires.readable told) (sym (c.if-not-is_before.ensures ∙ ap (is_before c.args.end) c.last_of-last.ensures))
    p b c.is_end_record.result (same ∙ c.last_of-last.ensures) found c.is_end_record.ensures

pub returns-in-None-clause-answer : goal.returns-in-None-clause-answer
returns-in-None-clause-answer g c told =
    let image = image_in (g.H.Hall.meaning c.args.hall.now) (g.H.Hall.facts c.args.hall.now) c.args.vol.now.unit in
    let v = c.args.vol.now in
    let f = c.args.set.now in
    let b = c.seek_on.new.buf.records in
    let P : Place → Option Place → Type 0 = λ last o. FindsOn (Ok o) (blocks_at v.geometry (data_in image v) (owned_in image v f) last last.tt) last b in
    let found : P (last_of f.lstar) None = subst (λ (q : Place). P q None) c.last_of-last.ensures (subst (P c.last_of-last.result) c.in-None.is (c.in_ok-place.ensures.found told)) in
    absurd (found_there image v f c.args.end (c.requires.end told) (c.requires.readable told) (sym (c.if-not-is_before.ensures ∙ ap (is_before c.args.end) c.last_of-last.ensures)) b found)
