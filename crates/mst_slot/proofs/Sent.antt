-- Shares of a value may go to another thread where the value may.
use denote.RattleType.{RattleType}
use denote.Param.Send.{IsSend, IsSync, Frees, sendable, view_send}
use denote.Param.SendFields.{declared_send, as_row_send}
use Rattle.std.specs.declared.alloc.Allocator.{Ghosts}
use Rattle.std.specs.contracts.snapshot.Snapshot as Snapshot
use Rattle.std.specs.contracts.collections.VecDeque as VecDeque
use Rattle.std.specs.contracts.vec.Vec as Vec
use Rattle.std_alloc.proofs.SendSync.{Deque-send, Vec-send}
use Rattle.mst_slot.specs.contracts.share.Seated as Seated
use Rattle.mst_slot.specs.contracts.share.Share as Share
use Rattle.mst_slot.specs.contracts.share.Lent as Lent
use Rattle.mst_slot.specs.contracts.shares.Shares as Shares
use Rattle.mst_slot.proofs.share.Seated.TheSendSync as seated

snap : (T : RattleType) → IsSend (Snapshot.the_field T).row
snap T = search sendable depth 20

module _ (T A : RattleType) (g : Ghosts A.Denot) (s : IsSend T) (a : IsSend A) (y : IsSync A)
    (f : Frees g g.dealloc_token) where
  share_inside : IsSend (Share.TheInside.the_row T A g)
  share_inside =
      declared_send (Share.TheInside.the_type T A g) (
        as_row_send (Seated.the_field T A g) (seated.the_field_send T A g s a y f),
        (as_row_send (Snapshot.the_field T) (snap T), tt),
      )

  pub share_send : IsSend (Share.the_row T A g)
  share_send = view_send (Share.TheInside.the_row T A g) _ _ _ _ share_inside

  lent_inside : IsSend (Lent.TheInside.the_row T A g)
  lent_inside =
      declared_send (Lent.TheInside.the_type T A g) (
        as_row_send (Seated.the_field T A g) (seated.the_field_send T A g s a y f),
        (as_row_send (Snapshot.the_field T) (snap T), tt),
      )

  lent_send : IsSend (Lent.the_row T A g)
  lent_send = view_send (Lent.TheInside.the_row T A g) _ _ _ _ lent_inside

  shares_inside : IsSend (Shares.TheInside.the_row T A g)
  shares_inside =
      declared_send (Shares.TheInside.the_type T A g) (
        as_row_send (VecDeque.the_field (Share.the_row T A g) A g)
            (Deque-send (Share.the_row T A g) A g share_send a f),
        (
          as_row_send (Vec.the_field (Lent.the_row T A g) A g)
              (Vec-send (Lent.the_row T A g) A g lent_send a f),
          (as_row_send (Vec.the_field T A g) (Vec-send T A g s a f), tt),
        ),
      )

  pub shares_send : IsSend (Shares.the_row T A g)
  shares_send = view_send (Shares.TheInside.the_row T A g) _ _ _ _ shares_inside
