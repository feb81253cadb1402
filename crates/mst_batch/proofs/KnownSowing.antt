-- The tree that stood stands on while a plan is carried out.
use Rattle.mst_batch.proofs.Names.{ℕ, List, [], refl, Format, Tree, Content, State, Root, Placed, OldPiece, NodeWriter, alive_out, old_piece_later, Known, AreKnown, HasKnown, PlannedEntry, Sown}
use Rattle.mst_batch.proofs.Sowings.{SownSoFar}

-- beside the entries of a node that are written so far
pub still_known : {A : Type 0} (format : Format) (at : ℕ → Placed) (old now : State)
    (before content : Content) (w : NodeWriter A) (xs : List PlannedEntry)
    → SownSoFar format at old now before content w xs → {known : List Known}
    → (k : HasKnown before old known) → OldPiece k.format content now k.whole
still_known format at old now before content w xs s k =
    old_piece_later k.format before content old now s.taken [] s.taken s.moves s.keeps
    (alive_out old now s.taken [] s.moves) k.whole (λ x i. refl) k.stands

-- beside a plan that is carried out
pub sown_still : {format f : Format} {before content : Content} {old now : State} {t : Tree}
    {root : Root} {given : List ℕ} {count : ℕ}
    → Sown format before content old now t root given count → (whole : Placed)
    → OldPiece f before old whole → OldPiece f content now whole
sown_still {f = f} {before = before} {content = content} {old = old} {now = now} q whole piece =
    old_piece_later f before content old now q.taken [] q.taken q.moves q.keeps
    (alive_out old now q.taken [] q.moves) whole (λ x i. refl) piece

-- part of what was known is known of the same tree
pub has_known : {before content : Content} {old now : State} {known : List Known}
    (k : HasKnown before old known) (part : List Known) → OldPiece k.format content now k.whole
    → AreKnown k.format k.whole part → HasKnown content now part
has_known k part stands each =
    record { format = k.format; whole = k.whole; stands = stands; each = each }
