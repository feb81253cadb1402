use Rattle.mst_path.proofs.Names.{rules, elements, ◌≡◌, ◌≢◌, ◌+◌, ◌∷◌, [], ℕ, List, Option, Some, IfSome, IsTrue, sym, ◌∙◌, ap, subst, arith, length-append, AllByRecursion, HasTaken, Writes, Entry, rows_of, used, link_of, HasRows, all-append, placed_frame, same_of_write, IsOut, PlacedEntry, link_from, link_to, entry_rows, entries_used, ahead}
use Rattle.mst_path.proofs.lemmas.rows.Taking.{out_front, out_back, out_flip}
use Rattle.mst_path.proofs.lemmas.rows.Entries.{link_from-push, entry_rows-push, text_up_to-push, entries_frame, pair_in, copy_is, copy_keeps}
use Rattle.mst_path.proofs.node_writer.NodeWriter.copy.Goals as goal
use Rattle.mst_path.proofs.node_writer.NodeWriter.copy.Goals.{in-Some-next, in-None}

same_entry : (a b n m : ℕ) (k v : List ℕ) → a ≡ b → n ≡ m → Some (Entry a n k v) ≡ Some
    (Entry b m k v)
same_entry a b n m k v ab nm = cc

pub returns-clause-written : goal.returns-clause-written
returns-clause-written g c format es p r pair next has_pair w root has out =
    let old = g.R.Rows.content c.args.rows.now in
    let new = g.R.Rows.content c.copy_entry.new.self in
    let k = pair.0 in
    let v = pair.1 in
    let layer = c.args.self.now.layer in
    let count = c.args.self.now.count in
    let e : PlacedEntry = record { at = r; child = p; key = k; value = v } in
    let row : c.in-Some.to ≡ r = cc (c.in-Some.is, next) in
    let link : c.match-self-2.next ≡ link_to c.take_next-self.result = elim c.match-self-2.branch [
      | in-Some-next b ↦ b.next-is ∙ sym (ap link_to b.in-Some-next.is)
      | in-None b ↦ b.next-is ∙ sym (ap link_to b.in-None.is)
    ] in
    let writes : Writes old new c.in-Some.to (Entry c.args.child.now.link c.match-self-2.next k v) =
    copy_is old new c.args.from c.in-Some.to c.args.child.now.link c.match-self-2.next
    pair has_pair c.copy_entry.ensures.writes in
    let begins : link_from (r + 1) es ≡ c.args.self.now.first + 1 =
    subst (λ (o : Option ℕ). link_from (link_to o) es ≡ c.args.self.now.first + 1) next w.begins
    in
    let before : HasRows old (entry_rows format (r + 1) es) =
    subst (λ (o : Option ℕ). HasRows old (entry_rows format (link_to o) es)) next w.rows in
    let other : (ns : List ℕ) → _ → _ = λ ns o. same_of_write old new c.in-Some.to _ writes ns
    (subst (λ (n : ℕ). AllByRecursion (λ x. x ≢ n) ns) (sym row) (out_flip r ns o)) in
    let here : new r ≡ Some (Entry (link_of p) (link_to c.take_next-self.result) k v) =
    ap new (sym row) ∙ writes.here ∙ same_entry _ _ _ _ k v root.link link in
    let fed = c.copy_entry.ensures.entry pair has_pair _ (c.move_kept.ensures.same _ w.fed) in
    record {
      format_is = w.format_is;
      counted = omega (arith, w.counted, length-append es (e ∷ []), c.requires.some);
      begins = link_from-push (link_to c.take_next-self.result) es e ∙ begins;
      fed = subst (HasTaken c.copy_entry.new.hasher) (sym (text_up_to-push format layer count es e))
          (rw (c.digest_at-digest.ensures.digest format p root, w.format_is) at fed);
      rows =
          subst (HasRows new) (sym (entry_rows-push format (link_to c.take_next-self.result) es e))
          (all-append _ (entry_rows format (r + 1) es)
          ((r, Entry (link_of p) (link_to c.take_next-self.result) k v) ∷ rows_of format p)
          (entries_frame format old new (r + 1) es
          (other (entries_used es) (out_front r (entries_used es) (used p) out)) before) (
            here,
            placed_frame format old new p
                (other (used p) (out_back r (entries_used es) (used p) out)) has,
          ));
    }

pub returns-clause-keeps : goal.returns-clause-keeps
returns-clause-keeps g c = λ k out.
    copy_keeps (g.R.Rows.content c.args.rows.now) (g.R.Rows.content c.copy_entry.new.self)
    c.args.from c.in-Some.to c.args.child.now.link c.match-self-2.next
    c.requires.entry c.copy_entry.ensures.writes k
    (subst (λ (o : Option ℕ). IsOut k (ahead o)) c.in-Some.is out).0

pub overflow_sub-self : goal.overflow_sub-self
overflow_sub-self g c = search rules

pub take_next-self-requires : goal.take_next-self-requires
take_next-self-requires g c = search rules

pub overflow_add-next : goal.overflow_add-next
overflow_add-next g c = grind (arith, elements)

pub copy_entry-requires-clause-there : goal.copy_entry-requires-clause-there
copy_entry-requires-clause-there g c = c.requires.entry

pub copy_entry-requires-clause-blank : goal.copy_entry-requires-clause-blank
copy_entry-requires-clause-blank g c =
    subst (λ (o : Option ℕ). IfSome o (λ r. IsTrue (g.R.Rows.blank c.args.rows.now r)))
    c.in-Some.is c.requires.blank

pub copy_entry-requires-clause-child : goal.copy_entry-requires-clause-child
copy_entry-requires-clause-child g c = search rules

pub copy_entry-requires-clause-next : goal.copy_entry-requires-clause-next
copy_entry-requires-clause-next g c = grind (arith, elements)

pub returns-clause-writer : goal.returns-clause-writer
returns-clause-writer g c =
    let writer = c.requires.writer in
    let pair = pair_in (g.R.Rows.content c.args.rows.now c.args.from) c.requires.entry in
    record {
      low = writer.low;
      some = writer.some;
      few = writer.few;
      small = grind (arith, elements);
      reserved = c.take_next-self.ensures.ahead;
      hashes = (
        _,
        c.copy_entry.ensures.entry pair.0 pair.1 writer.hashes.0
            (c.move_kept.ensures.same writer.hashes.0 writer.hashes.1),
      );
    }

pub returns-clause-node : goal.returns-clause-node
returns-clause-node g c = search rules

pub returns-clause-takes : goal.returns-clause-takes
returns-clause-takes g c = search rules

pub returns-clause-beside : goal.returns-clause-beside
returns-clause-beside g c = (c.copy_entry.ensures.blank, c.copy_entry.ensures.kept)
