use Rattle.mst_versions.proofs.Names.{ℕ, ◌+◌, List, inr, set, get_or, arith, sym, refl, ap, ◌∙◌, subst, In, record_word, Seated, IsHolder, IsFiled}
use Rattle.mst_versions.proofs.Filing.{filed_more}
use Rattle.mst_versions.proofs.roots.store_all.Goals as goal

pub store-requires-clause-holder : goal.store-requires-clause-holder
store-requires-clause-holder g c =
    subst (λ (z : Seated). IsHolder z.me) (sym c.loop-k.invariant.kept) c.requires.holder

pub store-requires-clause-writable : goal.store-requires-clause-writable
store-requires-clause-writable g c =
    inr (
      c.args.which,
      c.loop-k.k,
      subst (λ (z : Seated). In c.args.which z.me.0.drained)
          (sym c.loop-k.invariant.kept) c.requires.drained,
      (omega arith),
      c.record_word.ensures.place,
    )

pub loop-k-preserved : goal.loop-k-preserved
loop-k-preserved g c = let old : Seated = c.args.seat.now in let now : Seated =
    c.loop-k.seat in let s =
    c.store.ensures.written
    ∙ ap (λ (i : ℕ).
    record now {
      me = (
        record now.me.0 {
          known_words =
              set now.me.0.known_words i (get_or c.args.words.now c.loop-k.k 0);
        },
        now.me.1,
      );
    })
    c.record_word.ensures.place in let held = ap (λ (z : Seated). z.me.0.known_words) s in let k =
    c.loop-k.invariant in record {
      kept =
          s ∙ ap (λ (z : Seated).
          record z {
            me = (
              record z.me.0 {
                known_words = set now.me.0.known_words (record_word c.args.which c.loop-k.k)
                    (get_or c.args.words.now c.loop-k.k 0);
              },
              z.me.1,
            );
          }) k.kept
          ∙ ap (λ (h : List ℕ). record old { me = (record old.me.0 { known_words = h }, old.me.1) })
          (sym held);
      filed =
          subst (λ (h : List ℕ). IsFiled c.args.which (c.loop-k.k + 1) c.args.words.now
          old.me.0.known_words h) (sym held)
          (filed_more c.args.which c.loop-k.k c.args.words.now old.me.0.known_words
          now.me.0.known_words
          k.filed (omega arith) (let l = k.filed.kept.long in let w = c.requires.wide in let t =
          c.requires.there in omega arith) (get_or c.args.words.now c.loop-k.k 0) refl);
    }
