use Rattle.mst_proof.proofs.Names.{◌≡◌, ◌∙◌, ap, sym, length, List, ℕ, texts_or_none}
use Rattle.mst_proof.proofs.Frames.{texts-count, is_empty}
use Rattle.mst_proof.proofs.texts.Texts.is_empty.Goals as goal

pub returns : goal.returns
returns c =
    let n = c.self.inside.count in
    let bytes = c.self.inside.bytes.now in
    let count : length (texts_or_none n bytes) ≡ n = texts-count n bytes _ c.self.invariant.1 in
    record {
      empty =
          is_empty n c.args.self.now (ap (λ (ts : List (List ℕ)). length ts) (sym c.self.view_is)
          ∙ count);
    }
