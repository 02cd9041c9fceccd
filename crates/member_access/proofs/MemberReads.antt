-- What is read of a member passes its blocks.
use Rattle.std.proofs.Common.{◌≡◌, ◌≤◌, not, Bool, true, false, List, ◌∷◌, sym, ◌∙◌, ap}
use Rattle.std.specs.Prelude.{Ok}
use Rattle.vol_model.specs.declared.contents.Block.{Block}
use Rattle.vol_model.specs.declared.contents.Body.{Body}
use Rattle.vol_model.specs.declared.contents.Place.{Place}
use Rattle.vol_model.specs.Places.{is_end_of_file}
use Rattle.vol_model.specs.Reading.{blocks_from}
use Rattle.vol_model.specs.Shelf.{blocks_of}
use Rattle.vol_model.proofs.Keeping.{readable_blocks}
use Rattle.seq_access.specs.Reading.{ReadsMembers}
use Rattle.member_access.specs.declared.ends.Walk.{Walk}
use Rattle.member_access.specs.Ends.{IsNextPlace, Passes, end_behind}
use Rattle.member_access.proofs.LaterBlocks.{AreOrdered}
use Rattle.member_access.proofs.MemberSteps.{last_passed, none_left, one_passed}

module _ (body : Body) (w : Walk) (b : Block) where
  abbrev bs : List Block
  bs = blocks_of body

  -- no block is left
  pub reads_none : ReadsMembers (Ok false) body w.next b → w.last ≡ end_behind bs w
  reads_none read = none_left bs w (ap (blocks_from w.next) (sym (readable_blocks body read.0 read.1)) ∙ read.2)

  -- a block is passed
  pub reads_one : AreOrdered bs → w.next.r ≤ 255 → (new : Walk) → new.last ≡ b.place → IsNextPlace b.place new.next → (ends : Bool) → is_end_of_file b ≡ ends → ReadsMembers (Ok true) body w.next b → Passes (Ok (not ends)) bs w new
  reads_one are low new last next true is read =
      let left : blocks_from w.next bs ≡ b ∷ read.2.0 = ap (blocks_from w.next) (sym (readable_blocks body read.0 read.1)) ∙ read.2.1 in
      last ∙ last_passed bs w b read.2.0 left is
  reads_one are low new last next false is read =
      let left : blocks_from w.next bs ≡ b ∷ read.2.0 = ap (blocks_from w.next) (sym (readable_blocks body read.0 read.1)) ∙ read.2.1 in
      ap (λ (p : Place). end_behind bs (record { last = p; next = new.next })) last ∙ one_passed bs w are low new.next b read.2.0 left is next
