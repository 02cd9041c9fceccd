-- What members need of a shelf to stay whole: that it is ordered, as each lawful one is.
use Rattle.std.proofs.Common.{◌≡◌, ℕ, true, List, [], ◌∷◌}
use Rattle.std.specs.List.{AllByRecursion}
use Rattle.vol_model.specs.declared.contents.Attr.{Attr}
use Rattle.vol_model.specs.declared.contents.Block.{Block}
use Rattle.vol_model.specs.declared.contents.Body.{Body}
use Rattle.vol_model.specs.declared.contents.Body.TheVariants as bodies
use Rattle.vol_model.specs.declared.contents.DataSet.{DataSet}
use Rattle.vol_model.specs.declared.contents.Place.{Place}
use Rattle.vol_model.specs.declared.contents.Shelf.{Shelf}
use Rattle.vol_model.specs.declared.contents.Volume.{Volume}
use Rattle.vol_model.specs.Lawful.{FollowFrom, IsLawful, IsLawfulBody, IsLawfulSet, IsLawfulVolume, is_next, is_of_kind}
use Rattle.vol_model.specs.Order.{IsAscending}
use Rattle.vol_model.specs.Shelf.{is_partitioned}
use Rattle.shelf_laws.proofs.Lists.{all_weaker}

-- blocks stand each next to the one before it, the first next to a place, on any number of tracks
abbrev pub Follow : Place → List Block → Type 0
Follow p [] = Unit {0}
Follow p (b ∷ bs) = (is_next p b.place ≡ true) × Follow b.place bs

-- a partitioned body is that of a partitioned set, and its blocks follow the end of its directory
abbrev pub IsOrderedBody : List ℕ → Attr → Body → Type 0
IsOrderedBody name attr (bodies.Part dir end es bs) = (is_partitioned name attr ≡ true) × Follow end bs
IsOrderedBody name attr body = Unit {0}

abbrev pub IsOrderedSet : DataSet → Type 0
IsOrderedSet x = IsOrderedBody x.name.bytes x.attr x.body

-- A volume is ordered: no name of a set stands twice, and each set is ordered.
pub record IsOrderedVolume (volume : Volume) : Type 0 where
  pub order : IsAscending volume.sets
  pub sets : AllByRecursion IsOrderedSet volume.sets

abbrev pub IsOrdered : Shelf → Type 0
IsOrdered shelf = AllByRecursion IsOrderedVolume shelf.volumes

-- ---- what is lawful is ordered

follow : (tracks : ℕ) (p : Place) (bs : List Block) → FollowFrom tracks p bs → Follow p bs
follow tracks p [] h = tt
follow tracks p (b ∷ bs) h = (h.1, follow tracks b.place bs h.2)

body_ordered : (name : List ℕ) (attr : Attr) (tracks : ℕ) (body : Body) → is_of_kind name attr body ≡ true → IsLawfulBody tracks body → IsOrderedBody name attr body
body_ordered name attr tracks (bodies.Part dir end es bs) kind h = (kind, follow tracks end bs h.follow)
body_ordered name attr tracks (bodies.Seq bs) kind h = tt
body_ordered name attr tracks bodies.Catalog kind h = tt
body_ordered name attr tracks bodies.Other kind h = tt
body_ordered name attr tracks (bodies.Unreadable track) kind h = tt

pub volume_ordered : (volume : Volume) → IsLawfulVolume volume → IsOrderedVolume volume
volume_ordered volume h = record {
  order = h.order;
  sets = all_weaker (IsLawfulSet volume.geometry) IsOrderedSet (λ x set. body_ordered x.name.bytes x.attr _ x.body set.kind set.body) volume.sets h.sets;
}

pub shelf_ordered : (shelf : Shelf) → IsLawful shelf → IsOrdered shelf
shelf_ordered shelf h = all_weaker IsLawfulVolume IsOrderedVolume volume_ordered shelf.volumes h.volumes
