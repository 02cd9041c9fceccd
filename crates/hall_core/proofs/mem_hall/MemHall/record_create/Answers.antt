use Rattle.std.proofs.Common.{refl, rules, ◌≡◌, ◌+◌, ◌∙◌, ◌++◌, ◌∷◌, [], ℕ, List, length, replicate, ap, sym, subst, arith}
use Rattle.std.proofs.lemmas.List.{map-append, length-map, length-replicate}
use Rattle.std.proofs.lemmas.List.Elements.{All-pop}
use Rattle.std.specs.Prelude.{Option, String, Vec}
use Rattle.std.specs.Option.{IfSome}
use Rattle.std.specs.declared.alloc.Global.{Global}
use Rattle.stop_model.specs.Files.{File}
use Rattle.hall_core.specs.Facts.{Attached, Facts}
use Rattle.hall_core.specs.Held.{file_of_pair, files_of, first_pairs, attached_as, shapes_of, units_at, IsSpare}
use Rattle.hall_core.specs.History.{made}
use Rattle.hall_core.specs.Images.{zeros_named}
use Rattle.hall_core.specs.Memory.{facts_of}
use Rattle.hall_core.specs.Replay.{IsReplay}
use Rattle.hall_core.specs.declared.mem_hall.step.Step.TheVariants.{Create}
use Rattle.hall_core.proofs.RecordLemmas.{IsMore, records_by, create_more, first_stays}
use Rattle.hall_core.proofs.UnitLemmas.{spare_less, spares_less}
use Rattle.hall_core.proofs.mem_hall.MemHall.record_create.Goals as goal
use Rattle.hall_core.proofs.mem_hall.MemHall.record_create.Goals.{After-note}

pub filled-requires : goal.filled-requires
filled-requires c =
    let s = c.args.self.now in
    let popped = All-pop (IsSpare s.room_bytes) s.spares.items c.pop.new.self.items c.pop.result c.pop.ensures.items s.spares_room in
    spare_less c.unwrap-spare.result s.room_bytes (length c.args.name.now + c.args.len) c.requires.room.bytes
    (subst (λ (o : Option (String Global × Vec ℕ Global)). IfSome o (IsSpare s.room_bytes)) c.unwrap-spare.ensures popped.1)

pushed : (c : After-note) → c.push.new.self.items ≡ c.args.self.now.files.items ++ c.filled.result ∷ []
pushed c = search rules

placed : (c : After-note) → c.push-2.new.self.items ≡ c.args.self.now.units.items ++ c.len-place.result ∷ []
placed c = search rules

created_more : (c : After-note) → let s = c.args.self.now in let f = zeros_named c.args.name.now c.args.len in
    IsMore (files_of (first_pairs s.first s.files.items)) (files_of s.files.items) (files_of c.push.new.self.items) s.units.items c.push-2.new.self.items s.steps.items c.note.new.steps.items s.written.items s.written.items s.printed.items s.printed.items (made f)
    × (units_at (shapes_of (files_of c.push.new.self.items)) c.push-2.new.self.items ≡ units_at (shapes_of (files_of s.files.items)) s.units.items ++ attached_as f ∷ [])
created_more c =
    let s = c.args.self.now in
    let f : File = zeros_named c.args.name.now c.args.len in
    let place : c.len-place.result ≡ length (files_of s.files.items) = omega (arith, length-map s.files.items file_of_pair) in
    let unit : c.len-unit.result ≡ length s.units.items = omega arith in
    create_more _ _ _ _ _ _ s.replay f (files_of c.push.new.self.items) c.push-2.new.self.items c.note.new.steps.items c.requires.fresh
    (ap (λ (n : ℕ). replicate n 0) (sym (length-replicate c.args.len 0)))
    (ap files_of (pushed c) ∙ map-append file_of_pair s.files.items (c.filled.result ∷ []) ∙ ap (λ (x : File). files_of s.files.items ++ x ∷ []) c.filled.ensures)
    (placed c ∙ ap (λ (n : ℕ). s.units.items ++ n ∷ []) place)
    (c.note.ensures.steps ∙ ap (λ (n : ℕ). s.steps.items ++ Create n ∷ []) unit)

pub invariant_of-self-clause-replay : goal.invariant_of-self-clause-replay
invariant_of-self-clause-replay c =
    let s = c.args.self.now in
    let stays = first_stays s.first s.files.items c.push.new.self.items s.room_calls s.copied c.requires.room.calls in
    subst (λ (l : List File). IsReplay l (files_of c.push.new.self.items) c.push-2.new.self.items c.note.new.steps.items s.written.items s.printed.items) (ap files_of (sym stays)) (created_more c).0.replay

pub invariant_of-self-clause-spares_room : goal.invariant_of-self-clause-spares_room
invariant_of-self-clause-spares_room c =
    let s = c.args.self.now in
    spares_less c.pop.new.self.items s.room_bytes _ (omega arith) (All-pop (IsSpare s.room_bytes) s.spares.items c.pop.new.self.items c.pop.result c.pop.ensures.items s.spares_room).0

pub returns-clause-noted : goal.returns-clause-noted
returns-clause-noted c = records_by c.requires.room c.note.ensures.calls (created_more (goal.at.returns-clause-noted c).After-note).0.events refl refl

pub returns-clause-facts : goal.returns-clause-facts
returns-clause-facts c =
    let s = c.args.self.now in
    let name = c.args.name.now in
    ap (λ (us : List Attached). let x : Facts = record (facts_of s) { units = us } in x)
    ((created_more (goal.at.returns-clause-facts c).After-note).1
    ∙ ap (λ (n : ℕ). (facts_of s).units ++ record { name = name; size = n } ∷ []) (length-replicate c.args.len 0))
