use Rattle.mst_path.proofs.Names.{rules, elements, ◌≡◌, ◌≢◌, ◌+◌, ◌∷◌, [], ℕ, List, Option, Some, sym, ◌∙◌, ap, subst, arith, length-append, AllByRecursion, HasTaken, Entry, rows_of, used, link_of, HasRows, all-append, placed_frame, same_of_write, PlacedEntry, link_from, link_to, entry_rows, entries_used}
use Rattle.mst_path.proofs.lemmas.rows.Taking.{out_front, out_back, out_flip}
use Rattle.mst_path.proofs.lemmas.rows.Entries.{link_from-push, entry_rows-push, text_up_to-push, entries_frame}
use Rattle.mst_path.proofs.node_writer.NodeWriter.entry.Goals as goal
use Rattle.mst_path.proofs.node_writer.NodeWriter.entry.Goals.{in-Some-next, in-None}

same_entry : (a b n m : ℕ) (k l v w : List ℕ) → a ≡ b → n ≡ m → k ≡ l → v ≡ w → Some (Entry a n k v)
    ≡ Some (Entry b m l w)
same_entry a b n m k l v w ab nm kl vw = cc

pub returns-clause-written : goal.returns-clause-written
returns-clause-written g c format es p r next w root has out =
    let old = g.R.Rows.content c.args.rows.now in
    let new = g.R.Rows.content c.write.new.self in
    let k = c.args.key.now in
    let v = c.args.value.now in
    let layer = c.args.self.now.layer in
    let count = c.args.self.now.count in
    let e : PlacedEntry = record { at = r; child = p; key = k; value = v } in
    let row : c.in-Some.row ≡ r = cc (c.in-Some.is, next) in
    let link : c.match-self-2.next ≡ link_to c.take_next-self.result = elim c.match-self-2.branch [
      | in-Some-next b ↦ b.next-is ∙ sym (ap link_to b.in-Some-next.is)
      | in-None b ↦ b.next-is ∙ sym (ap link_to b.in-None.is)
    ] in
    let begins : link_from (r + 1) es ≡ c.args.self.now.first + 1 =
    subst (λ (o : Option ℕ). link_from (link_to o) es ≡ c.args.self.now.first + 1) next w.begins
    in
    let before : HasRows old (entry_rows format (r + 1) es) =
    subst (λ (o : Option ℕ). HasRows old (entry_rows format (link_to o) es)) next w.rows in
    let other : (ns : List ℕ) → _ → _ = λ ns o. same_of_write old new c.in-Some.row _
    c.write.ensures.writes ns
    (subst (λ (n : ℕ). AllByRecursion (λ x. x ≢ n) ns) (sym row) (out_flip r ns o)) in
    let here : new r ≡ Some (Entry (link_of p) (link_to c.take_next-self.result) k v) =
    ap new (sym row) ∙ c.write.ensures.writes.here ∙ same_entry _ _ _ _ _ _ _ _ root.link link
    c.copy.ensures.same c.copy-2.ensures.same in
    let fed = c.copied_entry.ensures.entry _ (c.move_kept.ensures.same _ w.fed) in
    record {
      format_is = w.format_is;
      counted = omega (arith, w.counted, length-append es (e ∷ []), c.requires.some);
      begins = link_from-push (link_to c.take_next-self.result) es e ∙ begins;
      fed = subst (HasTaken c.copied_entry.new.self) (sym (text_up_to-push format layer count es e))
          (rw (
            c.digest_at.ensures.digest format p root,
            c.bytes-key.ensures.bytes,
            c.bytes-value.ensures.bytes,
            w.format_is,
          ) at fed);
      rows =
          subst (HasRows new) (sym (entry_rows-push format (link_to c.take_next-self.result) es e))
          (all-append _ (entry_rows format (r + 1) es)
          ((r, Entry (link_of p) (link_to c.take_next-self.result) k v) ∷ rows_of format p)
          (entries_frame format old new (r + 1) es
          (other (entries_used es) (out_front r (entries_used es) (used p) out)) before) (
            here,
            placed_frame format old new p
                (other (used p) (out_back r (entries_used es) (used p) out)) has,
          ));
    }

pub overflow_sub-self : goal.overflow_sub-self
overflow_sub-self g c = search rules

pub take_next-self-requires : goal.take_next-self-requires
take_next-self-requires g c = search rules

pub overflow_add-next : goal.overflow_add-next
overflow_add-next g c = grind (arith, elements)

pub write-requires-clause-blank : goal.write-requires-clause-blank
write-requires-clause-blank g c = search rules

pub write-requires-clause-limits : goal.write-requires-clause-limits
write-requires-clause-limits g c = grind (arith, elements)

pub copied_entry-requires : goal.copied_entry-requires
copied_entry-requires g c = search rules

pub returns-clause-writer : goal.returns-clause-writer
returns-clause-writer g c =
    let writer = c.requires.writer in
    record {
      low = writer.low;
      some = writer.some;
      few = writer.few;
      small = grind (arith, elements);
      reserved = c.take_next-self.ensures.ahead;
      hashes = (
        _,
        c.copied_entry.ensures.entry writer.hashes.0
            (c.move_kept.ensures.same writer.hashes.0 writer.hashes.1),
      );
    }

pub returns-clause-node : goal.returns-clause-node
returns-clause-node g c = search rules

pub returns-clause-takes : goal.returns-clause-takes
returns-clause-takes g c = search rules

pub returns-clause-keeps : goal.returns-clause-keeps
returns-clause-keeps g c = search rules

pub returns-clause-beside : goal.returns-clause-beside
returns-clause-beside g c = search rules
