-- That a shelf is lawful has one proof.
use Rattle.std.specs.Prelude.{ℕ, List, [], ◌∷◌, Option, Some, None}
use Rattle.std.specs.List.{AllByRecursion-prop}
use Rattle.std.proofs.Props.{props}
use Rattle.ckd_image.specs.declared.header.Geometry.{Geometry}
use Rattle.vol_model.specs.declared.catalogs.CatBody.{CatBody}
use Rattle.vol_model.specs.declared.catalogs.CatBody.TheVariants as catalogs
use Rattle.vol_model.specs.declared.contents.Block.{Block}
use Rattle.vol_model.specs.declared.contents.Body.{Body}
use Rattle.vol_model.specs.declared.contents.Body.TheVariants as bodies
use Rattle.vol_model.specs.declared.contents.DataSet.{DataSet}
use Rattle.vol_model.specs.declared.contents.Entry.{Entry}
use Rattle.vol_model.specs.declared.contents.Place.{Place}
use Rattle.vol_model.specs.declared.contents.Shelf.{Shelf}
use Rattle.vol_model.specs.declared.contents.Volume.{Volume}
use Rattle.vol_model.specs.Order.{IsAscending}
use Rattle.vol_model.specs.Lawful.{EntriesAscend, FollowFrom, IsLawful, IsLawfulBlock, IsLawfulBody, IsLawfulCatalog, IsLawfulEntry, IsLawfulPart, IsLawfulSet, IsLawfulTree, IsLawfulVolume}
use Rattle.vol_model.specs.Trees.{AreAscending, Node}

IsAscending-prop : (sets : List DataSet) → IsProp (IsAscending sets)
IsAscending-prop [] = hlevel
IsAscending-prop (x ∷ sets) = hlevel (props, AllByRecursion-prop, IsAscending-prop sets)

EntriesAscend-prop : (es : List Entry) → IsProp (EntriesAscend es)
EntriesAscend-prop [] = hlevel
EntriesAscend-prop (e ∷ es) = hlevel (props, AllByRecursion-prop, EntriesAscend-prop es)

AreAscending-prop : (nodes : List Node) → IsProp (AreAscending nodes)
AreAscending-prop [] = hlevel
AreAscending-prop (x ∷ nodes) = hlevel (props, AllByRecursion-prop, AreAscending-prop nodes)

FollowFrom-prop : (tracks : ℕ) (p : Place) (bs : List Block) → IsProp (FollowFrom tracks p bs)
FollowFrom-prop tracks p [] = hlevel
FollowFrom-prop tracks p (b ∷ bs) = hlevel (props, FollowFrom-prop tracks b.place bs)

IsLawfulBlock-prop : (b : Block) → IsProp (IsLawfulBlock b)
IsLawfulBlock-prop b = hlevel props

IsLawfulEntry-prop : (e : Entry) → IsProp (IsLawfulEntry e)
IsLawfulEntry-prop e = hlevel props

IsLawfulPart-prop : (tracks dir : ℕ) (last : Place) (es : List Entry) (bs : List Block) → IsProp (IsLawfulPart tracks dir last es bs)
IsLawfulPart-prop tracks dir last es bs = hlevel (props, AllByRecursion-prop, EntriesAscend-prop, IsLawfulEntry-prop, FollowFrom-prop, IsLawfulBlock-prop)

IsLawfulBody-prop : (tracks : ℕ) (body : Body) → IsProp (IsLawfulBody tracks body)
IsLawfulBody-prop tracks (bodies.Seq bs) = hlevel (props, AllByRecursion-prop, FollowFrom-prop, IsLawfulBlock-prop)
IsLawfulBody-prop tracks (bodies.Part dir end es bs) = IsLawfulPart-prop tracks dir end es bs
IsLawfulBody-prop tracks bodies.Catalog = hlevel
IsLawfulBody-prop tracks bodies.Other = hlevel
IsLawfulBody-prop tracks (bodies.Unreadable track) = hlevel

IsLawfulSet-prop : (g : Geometry) (x : DataSet) → IsProp (IsLawfulSet g x)
IsLawfulSet-prop g x = hlevel (props, AllByRecursion-prop, IsLawfulBody-prop)

IsLawfulTree-prop : (blocks : ℕ) (nodes : List Node) → IsProp (IsLawfulTree blocks nodes)
IsLawfulTree-prop blocks nodes = hlevel (props, AllByRecursion-prop, AreAscending-prop)

IsLawfulCatalog-prop : (catalog : Option CatBody) → IsProp (IsLawfulCatalog catalog)
IsLawfulCatalog-prop None = hlevel
IsLawfulCatalog-prop (Some (catalogs.Unreadable track)) = hlevel
IsLawfulCatalog-prop (Some (catalogs.Tree blocks nodes)) = IsLawfulTree-prop blocks nodes

IsLawfulVolume-prop : (volume : Volume) → IsProp (IsLawfulVolume volume)
IsLawfulVolume-prop volume = hlevel (props, AllByRecursion-prop, IsAscending-prop, IsLawfulSet-prop, IsLawfulCatalog-prop)

-- so a machine may keep it
pub IsLawful-prop : (shelf : Shelf) → IsProp (IsLawful shelf)
IsLawful-prop shelf = hlevel (props, AllByRecursion-prop, IsLawfulVolume-prop)
