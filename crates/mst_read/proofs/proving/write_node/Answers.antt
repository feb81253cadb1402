use Rattle.mst_read.proofs.Names.{◌≡◌, ◌-◌, ◌++◌, length, ℕ, List, [], Option, Some, IsSome, ◌∙◌, sym, ap, subst, refl, arith, length-append, IfSome, same_Some, heading, child_text, child_digest, counted, held_text, held_of, keyed_links, entry_pair, KeyedLinks, links_at, Pair, tree_of}
use Rattle.mst_read.proofs.Still.{read_still, there_still}
use Rattle.mst_read.proofs.Walk.{at_cell, at_end, child_lies, tail_lies}
use Rattle.mst_read.proofs.Gathering.{cell_pair}
use Rattle.mst_read.proofs.NodeTexts.{entry_length, text_starts, text_goes_on, text_ends, short_text}
use Rattle.mst_read.proofs.proving.write_node.Goals as goal

pub loop-init : goal.loop-init
loop-init g c =
    let begun = heading c.args.format c.args.head.now.layer c.args.head.now.count in
    let size : length begun ≡ 4 = refl in
    record {
      same = refl;
      written = (
        begun,
        c.heading.ensures.heading [] c.begin.ensures.empty,
        omega (arith, size),
        λ chain lies. record {
          rest = chain;
          first_is = lies.first;
          tail_is = lies.tail;
          left = omega (arith, lies.count);
          rows = lies.rows;
          holds = text_starts c.args.format c.args.head.now.layer c.args.head.now.count chain begun
              lies.count refl;
        },
      );
    }

-- ---- an entry is written

pub digest_at-child-requires : goal.digest_at-child-requires
digest_at-child-requires g c =
    let a = at_cell (c.loop.invariant.written.3 c.requires.lies.0 c.requires.lies.1)
    c.loop-test.true (ap g.R.Rows.content c.loop.invariant.same)
    (links_at (g.R.Rows.content c.loop.rows) (c.loop.link - 1) c.links-links.result
    c.links-links.ensures.value).1 in
    record {
      lies = (
        c.args.format,
        a.child,
        child_lies a
            (ap g.R.Rows.content (c.links-links.ensures.same ∙ c.loop.invariant.same)),
      );
    }

pub spell-requires : goal.spell-requires
spell-requires g c = record {
  there = there_still
      (ap g.R.Rows.content (c.digest_at-child.ensures.same ∙ c.links-links.ensures.same))
      keyed_links (c.loop.link - 1)
      (let Is : Option KeyedLinks → Type 0 =
      IsSome in subst Is
      (sym (links_at (g.R.Rows.content c.loop.rows) (c.loop.link - 1) c.links-links.result
      c.links-links.ensures.value).1) refl);
}

pub loop-preserved : goal.loop-preserved
loop-preserved g c =
    let m = c.loop.invariant.written.0 in
    let read = links_at (g.R.Rows.content c.loop.rows) (c.loop.link - 1) c.links-links.result
    c.links-links.ensures.value in
    let some = at_cell (c.loop.invariant.written.3 c.requires.lies.0 c.requires.lies.1)
    c.loop-test.true (ap g.R.Rows.content c.loop.invariant.same) read.1 in
    let still = ap g.R.Rows.content (c.digest_at-child.ensures.same ∙ c.links-links.ensures.same
    ∙ c.loop.invariant.same) in
    let there = read_still still entry_pair (c.loop.link - 1) (cell_pair some) in
    let limits = c.spell.ensures.limits _ there in
    record {
      same = c.spell.ensures.same ∙ c.digest_at-child.ensures.same ∙ c.links-links.ensures.same
          ∙ c.loop.invariant.same;
      written = (
        _,
        c.spell.ensures.entry _ there m c.loop.invariant.written.1,
        omega (
          arith,
          entry_length c.args.format m (child_text c.digest_at-child.result) read.0 some.value
              limits.1,
          c.digest_at-child.ensures.short,
          c.loop.invariant.written.2,
          limits.0.1,
        ),
        λ chain behind.
            let here = at_cell (c.loop.invariant.written.3 chain behind) c.loop-test.true
            (ap g.R.Rows.content c.loop.invariant.same) read.1 in
            let gap : c.digest_at-child.result ≡ child_digest (tree_of c.args.format here.child) =
            c.digest_at-child.ensures.digest c.args.format here.child
            (child_lies here
            (ap g.R.Rows.content (c.links-links.ensures.same ∙ c.loop.invariant.same))) in
            let one : ◌≡◌ {A = Option Pair} (Some (read.0, some.value))
            (Some (read.0, here.value)) = sym (cell_pair some) ∙ cell_pair here in
            let value : some.value ≡ here.value =
            ap (λ (p : Pair). p.1) (same_Some (read.0, some.value) (read.0, here.value) one) in
            let written : ((m ++ child_text c.digest_at-child.result) ++ counted read.0)
            ++ held_text c.args.format (held_of c.args.format some.value)
            ≡ ((m ++ child_text (child_digest (tree_of c.args.format here.child)))
            ++ counted read.0) ++ held_text c.args.format (held_of c.args.format here.value) =
            cc (gap, value) in
            text_goes_on c.args.format m here written,
      );
    }

-- ---- the last gap is written

pub digest_at-requires : goal.digest_at-requires
digest_at-requires g c =
    let a = at_end (c.loop.invariant.written.3 c.requires.lies.0 c.requires.lies.1)
    (omega (arith, c.loop-test.false)) in
    record {
      lies =
          (c.args.format, a.child, tail_lies a (ap g.R.Rows.content c.loop.invariant.same));
    }

pub returns-clause-ok : goal.returns-clause-ok
returns-clause-ok g c chain behind =
    let m = c.loop.invariant.written.0 in
    let last = at_end (c.loop.invariant.written.3 chain behind) (omega (arith, c.loop-test.false))
    in
    let tail : c.digest_at.result ≡ child_digest (tree_of c.args.format last.child) =
    c.digest_at.ensures.digest c.args.format last.child
    (tail_lies last (ap g.R.Rows.content c.loop.invariant.same)) in
    let whole = text_ends c.args.format m last (ap (λ d. m ++ child_text d) tail) in
    subst (λ (xs : List ℕ). IfSome c.child.new.self (λ bytes. bytes ≡ xs)) whole
    (c.child.ensures.child m c.loop.invariant.written.1)

pub returns-clause-short : goal.returns-clause-short
returns-clause-short g c =
    let m = c.loop.invariant.written.0 in
    let done = (c.loop.invariant.written.3 c.requires.lies.0 c.requires.lies.1).left in
    short_text c.child.new.self (m ++ child_text c.digest_at.result) 8584991
    (c.child.ensures.child m c.loop.invariant.written.1)
    (omega (
      arith,
      length-append m (child_text c.digest_at.result),
      c.digest_at.ensures.short,
      c.loop.invariant.written.2,
      done,
      c.requires.limits.2,
    ))
