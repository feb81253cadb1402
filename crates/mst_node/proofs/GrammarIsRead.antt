-- The texts of the grammar are those that are read, with keys that fit.
use Rattle.mst_node.proofs.Names.{◌≡◌, ℕ, List, Some, sym, ◌∙◌, ap, Format, IsBytes, FlatNode, spelling, KeysFit, IsFlatNode, InGrammar, node_at}
use Rattle.mst_node.proofs.ReadIsSpelled.{node_takes}
use Rattle.mst_node.proofs.SpelledIsRead.{node_again}

-- what is read, with keys that fit, is in the grammar
pub read_in_grammar : (format : Format) (bytes : List ℕ) (n : FlatNode) → node_at format bytes
    ≡ Some n → IsBytes bytes → KeysFit n → (n.format ≡ format) × IsFlatNode n × (bytes ≡ spelling n)
read_in_grammar format bytes n h b fit =
    let takes = node_takes format bytes n h b in (
      takes.in_format,
      record {
        some = takes.some;
        few = takes.few;
        entries = takes.entries;
        tail =
            takes.tail;
        keys = fit;
      },
      takes.text,
    )

-- what is in the grammar is read
pub grammar_read : (format : Format) (bytes : List ℕ) (g : InGrammar format bytes)
    → node_at format bytes ≡ Some g.0
grammar_read format bytes g =
    ap (node_at format) g.3 ∙ ap (λ (f : Format). node_at f (spelling g.0)) (sym g.1)
    ∙ node_again g.0 g.2
