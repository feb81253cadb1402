use Rattle.mst_c.proofs.Names.{◌≡◌, ◌+◌, ◌++◌, ℕ, List, length, take, get_or, ap, ◌∙◌, rules, arith, length-append, Pair, pair_bytes, pairs_bytes}
use Rattle.mst_c.proofs.Listing.{one_more}
use Rattle.mst_c.proofs.ranging.pairs_size.Goals as goal

pub loop-key-preserved : goal.loop-key-preserved
loop-key-preserved c =
    let i : ℕ = c.loop-key.key-index in let ps : List Pair = c.args.pairs.now in let d : Pair =
    c.loop-key-item.result in
    let a : List ℕ = pairs_bytes (take i ps) in let b : List ℕ = pair_bytes (get_or ps i d) in
    let more : pairs_bytes (take (i + 1) ps) ≡ a ++ b = one_more ps i d (omega arith) in
    let is : c.pair_size-size.result ≡ length b = search rules in
    let longer : length (pairs_bytes (take (i + 1) ps)) ≡ length a + length b =
    ap length more ∙ length-append a b in
    let was = c.loop-key.invariant in
    (omega (arith, is, longer, was.0), omega (arith, was.1, c.pair_size-size.ensures.few))
