use Rattle.mst_path.proofs.Names.{rules, ◌≡◌, ◌+◌, ◌++◌, ℕ, List, length, Option, None, Some, refl, sym, ◌∙◌, ap, subst, arith, sha256, child_text, child_digest, Head, tree_of, rows_of, used, count_of, first_of, tail_of, HasRows, all-append, placed_frame, same_of_write, chain_of, link_from, link_to, IsAhead, entry_rows, entries_used, text_up_to}
use Rattle.mst_path.proofs.lemmas.rows.Taking.{out_front, out_back, out_flip}
use Rattle.mst_path.proofs.lemmas.rows.Entries.{entries_frame, first_chain, tail_chain, count_chain, rows_chain, text_chain}
use Rattle.mst_path.proofs.node_writer.NodeWriter.finish.Goals as goal

-- no row is ahead if nothing is left
none_ahead : (next : Option ℕ) (left : ℕ) → IsAhead next left → left ≡ 0 → link_to next ≡ 0
none_ahead None left is none = refl
none_ahead (Some r) left is none = absurd (omega (arith, is, none))

same_head : (layer n m f g t u : ℕ) (d e : List ℕ) → n ≡ m → f ≡ g → t ≡ u → d ≡ e
    → Some (Head layer n f t d) ≡ Some (Head layer m g u e)
same_head layer n m f g t u d e nm fg tu de = cc

pub returns-clause-root : goal.returns-clause-root
returns-clause-root g c format es p w root =
    let layer = c.args.self.layer in
    let count : c.args.self.count ≡ length es = omega (arith, w.counted, c.requires.all) in
    let fed = rw (c.digest_at.ensures.digest format p root) at c.child.ensures.child _ w.fed in
    record {
      link = refl;
      sum = c.digest-digest.ensures.digest _ fed
          ∙ ap (λ (n : ℕ). sha256
          (text_up_to format layer n es ++ child_text (child_digest (tree_of format p)))) count
          ∙ sym (ap sha256 (text_chain format layer es p));
    }

pub returns-clause-stands : goal.returns-clause-stands
returns-clause-stands g c format es p w root has out =
    let old = g.R.Rows.content c.args.rows.now in
    let new = g.R.Rows.content c.write.new.self in
    let layer = c.args.self.layer in
    let is_root = returns-clause-root g c format es p w root in
    let none = none_ahead c.args.self.next c.args.self.left c.requires.writer.reserved
    c.requires.all in
    let count : c.args.self.count ≡ count_of (chain_of es p) =
    omega (arith, w.counted, c.requires.all, count_chain es p) in
    let first : c.args.self.first + 1 ≡ first_of (chain_of es p) =
    sym w.begins ∙ ap (λ (n : ℕ). link_from n es) none ∙ sym (first_chain es p) in
    let tail : c.args.tail.now.link ≡ tail_of (chain_of es p) = root.link ∙ sym (tail_chain es p) in
    let before : HasRows old (entry_rows format 0 es) =
    subst (λ (n : ℕ). HasRows old (entry_rows format n es)) none w.rows in
    let other : (ns : List ℕ) → _ → _ = λ ns o. same_of_write old new c.args.self.head _
    c.write.ensures.writes ns (out_flip c.args.self.head ns o) in (
      c.write.ensures.writes.here ∙ same_head layer _ _ _ _ _ _ _ _ count first tail is_root.sum,
      subst (HasRows new) (sym (rows_chain format es p))
          (all-append _ (entry_rows format 0 es) (rows_of format p)
          (entries_frame format old new 0 es
          (other (entries_used es) (out_front c.args.self.head (entries_used es) (used p) out))
          before)
          (placed_frame format old new p
          (other (used p) (out_back c.args.self.head (entries_used es) (used p) out)) has)),
    )

pub overflow_add-head : goal.overflow_add-head
overflow_add-head g c = search rules

pub write-requires-clause-blank : goal.write-requires-clause-blank
write-requires-clause-blank g c = search rules

pub write-requires-clause-limits : goal.write-requires-clause-limits
write-requires-clause-limits g c = search rules

pub overflow_add-result : goal.overflow_add-result
overflow_add-result g c = search rules

pub returns-clause-keeps : goal.returns-clause-keeps
returns-clause-keeps g c = search rules

pub returns-clause-beside : goal.returns-clause-beside
returns-clause-beside g c = search rules
