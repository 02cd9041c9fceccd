use Rattle.std.proofs.Common.{◌≡◌, ◌-◌, ◌≤◌, ◌++◌, ℕ, List, [], ◌∷◌, length, take, drop, Some, true, false, sym, ap, ◌∙◌, arith}
use Rattle.std.specs.Option.{option_map}
use Rattle.std.proofs.lemmas.Bool.{eqb-true, eqb-false}
use Rattle.std.proofs.lemmas.List.{append-nil, take_rest}
use Rattle.vol_model.specs.declared.contents.Entry.{Entry}
use Rattle.pack_spec.specs.Directories.{front_entry, front_length, no_entry}
use Rattle.pds_directory.proofs.ReadEntries.{behind, behind_none, one_more, read, read_broken, read_end, read_none}
use Rattle.pds_directory.proofs.decoding.entries_in.Goals as goal

-- a block that was read whole, if nothing stands after these entries
whole : (done : List Entry) (ends : _) → behind done (no_entry ends) ≡ record { entries = done; ends = ends }
whole done ends = ap (λ (es : List Entry). record { entries = es; ends = ends }) (append-nil done)

pub loop-rest-init : goal.loop-rest-init
loop-rest-init c =
    sym (ap (λ (es : List Entry). option_map (behind es) (read c.args.bytes.now)) c.new-entries.ensures.items ∙ behind_none (read c.args.bytes.now))

pub returns-in-End : goal.returns-in-End
returns-in-End c =
    let done : List Entry = c.loop-rest.entries.items in
    sym (c.loop-rest.invariant ∙ ap (option_map (behind done)) (read_end c.loop-rest.rest.now c.in-End.ensures.0 c.in-End.ensures.1) ∙ ap Some (whole done true))

pub returns-in-Broken : goal.returns-in-Broken
returns-in-Broken c =
    let some : 1 ≤ length c.loop-rest.rest.now = omega (arith, eqb-false (length c.loop-rest.rest.now) 0 (sym c.is_empty.ensures ∙ c.loop-rest-test.true)) in
    sym (c.loop-rest.invariant ∙ ap (option_map (behind c.loop-rest.entries.items)) (read_broken c.loop-rest.rest.now some c.in-Broken.ensures))

pub loop-rest-preserved : goal.loop-rest-preserved
loop-rest-preserved c =
    let rest : List ℕ = c.loop-rest.rest.now in
    let done : List Entry = c.loop-rest.entries.items in
    let front = c.in-Entry.ensures in
    let len : ℕ = c.in-Entry.len in
    let later : drop (front_length rest) rest ≡ take (length rest - len) (drop len rest) = ap (λ (n : ℕ). drop n rest) (sym front.2) ∙ sym (take_rest rest len) in
    let e : Entry = c.in_ok-front_entry.field-0 in
    let pushed : c.push.new.self.items ≡ done ++ e ∷ [] = c.in_ok-push.ensures.items in
    let is : e ≡ front_entry rest = c.in_ok-front_entry.ensures in
    one_more c.args.bytes.now rest (take (length rest - len) (drop len rest)) done c.push.new.self.items c.loop-rest.invariant front.0 front.1 (omega (arith, front)) (pushed ∙ ap (λ (x : Entry). done ++ x ∷ []) is) later

pub returns : goal.returns
returns c =
    let done : List Entry = c.loop-rest.entries.items in
    sym (c.loop-rest.invariant ∙ ap (option_map (behind done)) (read_none c.loop-rest.rest.now (eqb-true (length c.loop-rest.rest.now) 0 (sym c.is_empty.ensures ∙ c.loop-rest-test.false))) ∙ ap Some (whole done false))
