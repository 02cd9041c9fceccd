use Rattle.std.proofs.Common.{◌∙◌, List, Option, sym, ap}
use Rattle.std.specs.Prelude.{option_and_then, slice_get}
use Rattle.pack_machine.specs.declared.pack.Pack.{Pack}
use Rattle.pack_machine.specs.declared.pack_cache.PackCache.{PackCache}
use Rattle.pack_machine.proofs.ListPlaces.{get_map, map_none}
use Rattle.shelf_machine.proofs.libraries.library_at.Goals as goal

pub returns-in-Some : goal.returns-in-Some
returns-in-Some c =
    let there = ap (λ (l : List Pack). slice_get l c.args.v) (sym c.deref.ensures.value) ∙ sym c.in-Some.ensures in
    c.library_in.ensures ∙ sym (ap (λ (o : Option PackCache). option_and_then (λ (b : PackCache). slice_get b.libraries.items c.args.at) o) (get_map (λ (p : Pack). p.cache) c.args.packs.now.items c.args.v c.in-Some.pack.now there))

pub returns-in-None : goal.returns-in-None
returns-in-None c =
    let none = ap (λ (l : List Pack). slice_get l c.args.v) (sym c.deref.ensures.value) ∙ sym c.in-None.ensures in
    sym (ap (λ (o : Option PackCache). option_and_then (λ (b : PackCache). slice_get b.libraries.items c.args.at) o) (map_none (λ (p : Pack). p.cache) c.args.packs.now.items c.args.v none))
