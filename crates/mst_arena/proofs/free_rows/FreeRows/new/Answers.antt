use Rattle.mst_arena.proofs.Names.{◌≡◌, ◌≢◌, ◌<◌, ◌+◌, ◌∙◌, ap, arith, ℕ, List, Bool, true, false, length, Some, replicate, inl, inr, ◌⊎◌, slice_get, slice_set, length-set, cases_eq, flags}
use Rattle.mst_arena.proofs.FlagLemmas.{length-flags}
use Rattle.mst_arena.proofs.SetLemmas.{empty_set, no_flag, get_set_same, get_set_other, all_true}
use Rattle.mst_arena.proofs.free_rows.FreeRows.new.Goals as goal

pub invariant_of-free : goal.invariant_of-free
invariant_of-free g c =
    let words : c.in_ok-words.words.items ≡ replicate c.div_ceil-count.result 0 =
    c.in_ok-words.ensures.ok.0 in
    let sums : c.in_ok-summary.summary.items ≡ replicate c.div_ceil.result 0 =
    c.in_ok-summary.ensures.ok.0 in
    rw (words, sums, c.in_ok-words.ensures.ok.1, c.in_ok-summary.ensures.ok.1)
    (empty_set c.args.rows c.div_ceil-count.result c.div_ceil.result (omega arith) (omega arith)
    (omega arith) (omega arith) (omega arith) (omega arith) (omega arith) (omega arith))

pub loop-row-init : goal.loop-row-init
loop-row-init g c =
    let words : c.in_ok-words.words.items ≡ replicate c.div_ceil-count.result 0 =
    c.in_ok-words.ensures.ok.0 in
    record {
      len = length-flags c.args.rows c.in_ok-words.words.items;
      done = λ k lt. absurd (omega arith);
      left = λ k le lt. ap (λ (l : List ℕ). slice_get (flags c.args.rows l) k) words
          ∙ no_flag c.args.rows c.div_ceil-count.result k lt;
    }

pub loop-row-preserved : goal.loop-row-preserved
loop-row-preserved g c =
    let old = c.loop-row.free in
    let row = c.loop-row.row in
    let is : c.put.new.self ≡ slice_set old row true = c.put.ensures.put in
    let out : slice_get old row ≡ Some false = c.loop-row.invariant.left row (omega arith)
    (omega arith) in
    record {
      len = ap (λ (l : List Bool). length l) is ∙ length-set old row true
          ∙ c.loop-row.invariant.len;
      done = λ k lt. ap (λ (l : List Bool). slice_get l k) is ∙ done old row k out
          (c.loop-row.invariant.done k) lt (cases_eq k row);
      left = λ k le lt. ap (λ (l : List Bool). slice_get l k) is ∙ get_set_other old row k true
          (λ e. absurd (omega arith)) ∙ c.loop-row.invariant.left k (omega arith) lt;
    }
  where
    done : (old : List Bool) (row k : ℕ) → slice_get old row ≡ Some false
        → (k < row → slice_get old k ≡ Some true) → k < row + 1 → (k ≡ row) ⊎ (k ≢ row)
        → slice_get (slice_set old row true) k ≡ Some true
    done old row k out below lt (inl e) = ap (λ (j : ℕ). slice_get (slice_set old row true) j) e
        ∙ get_set_same old row false true out
    done old row k out below lt (inr e) = get_set_other old row k true e ∙ below (omega arith)

pub returns : goal.returns
returns g c =
    record {
      ok = all_true c.loop-row.free c.args.rows c.loop-row.invariant.len
          (λ k lt. c.loop-row.invariant.done k (omega arith));
    }
