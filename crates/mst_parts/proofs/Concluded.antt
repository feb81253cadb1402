-- What came of a block, said of its edits.
use Rattle.mst_parts.proofs.Names.{◌≡◌, ℕ, List, subst, AllByRecursion, OnOk, IfErr, Result, Edit, Known, whole, parts_of, LeavesAll, Concludes, IsWriter, AddsBlock, RefusesBlock, KeepStores, BlockFault, writes_still, left_keeps, on_ok}
use Rattle.mst_key.specs.History.{IsSmall}
use Rattle.mst_blocks.specs.Blocks.{MakesBlock, RefusesParts}
use Rattle.mst_blocks.proofs.Blocked.{writes_again, adds_block, refuses_block}
use Rattle.mst_blocks.proofs.Kept.{made_keeps, either_way, if_err}

module _ {D : Type 0} (splits : List (List ℕ)) (edits : List Edit) (parts : List (List Edit))
    (ps qs : List Known) (d e : Known) (r : Result D BlockFault) (w : IsWriter (whole splits ps d))
    (of : parts ≡ parts_of splits edits) (small : AllByRecursion IsSmall edits)
    (c : Concludes splits parts ps qs d e r) where
  abbrev Made : Type 0
  Made = MakesBlock splits parts ps qs d e

  made : Made → MakesBlock splits (parts_of splits edits) ps qs d e
  made m = subst (λ (xs : List (List Edit)). MakesBlock splits xs ps qs d e) of m

  pub concluded_ok : OnOk r (AddsBlock edits (whole splits ps d) (whole splits qs e))
  concluded_ok = on_ok r c.ok
      (λ (m : Made). adds_block splits edits ps qs d e w small (made m))

  pub concluded_err : IfErr r
      (λ (fault : BlockFault). RefusesBlock fault edits (whole splits ps d) (whole splits qs e))
  concluded_err = if_err (λ (fault : BlockFault). RefusesParts fault splits parts ps qs d e)
      (λ (fault : BlockFault). RefusesBlock fault edits (whole splits ps d) (whole splits qs e))
      r c.err c.why
      (λ (left : LeavesAll ps qs d e) (fault : BlockFault) why.
      refuses_block splits ps qs d e w left fault edits
      (subst (λ (xs : List (List Edit)). RefusesParts fault splits xs ps qs d e) of why))

  pub concluded_writer : IsWriter (whole splits qs e)
  concluded_writer = either_way r c.ok c.err
      (λ (m : Made). writes_again splits edits ps qs d e w small (made m))
      (λ (left : LeavesAll ps qs d e). writes_still splits ps qs d e w left)

  pub concluded_own : KeepStores ps qs d e
  concluded_own = either_way r c.ok c.err
      (λ (m : Made). made_keeps splits parts ps qs d e m)
      (λ (left : LeavesAll ps qs d e). left_keeps ps qs d e left)
