-- The entry is there, and the directory holds the others.
use Rattle.std.proofs.Common.{◌≡◌, Bool, true, false, Ok, not, List, refl, ap, ◌∙◌, rules}
use Rattle.std.specs.Prelude.{filter}
use Rattle.std.specs.Str.{bytes_eq}
use Rattle.vol_model.specs.declared.contents.Entry.{Entry}
use Rattle.vol_model.specs.declared.contents.Volume.{Volume}
use Rattle.vol_model.specs.declared.refusals.Refusal.{Refusal}
use Rattle.vol_model.specs.Shelf.{has_member, refuse, with_entries, with_set}
use Rattle.plain_steps.proofs.directories.dropped.Goals as goal

done : (b : Bool) (r : Refusal) (x y : Volume) → b ≡ false → x ≡ y → Ok x ≡ refuse b r (Ok y)
done false r x y e same = ap Ok same
done true r x y e same = absurd (cc)

pub returns : goal.returns
returns c =
    let there : not (has_member c.args.name.now.bytes c.args.entries.now) ≡ false = search rules in
    let others : c.in_ok-after.after ≡ filter (λ (e : Entry). not (bytes_eq e.name.bytes c.args.name.now.bytes)) c.args.entries.now = search rules in
    done _ _ _ _ there (c.in_ok-with_set.ensures ∙ ap (λ es. with_set c.args.volume.now c.args.dsn.now.bytes (with_entries es)) others)
