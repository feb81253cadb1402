use Rattle.mst_c.proofs.Names.{◌≡◌, ◌≤◌, ◌+◌, ◌++◌, ℕ, List, length, take, get_or, sym, ap, subst, ◌∙◌, rules, arith, length-append, Pair, pair_bytes, pairs_bytes, written}
use Rattle.mst_c.proofs.Listing.{one_more, first_shorter, written_more, written_length}
use Rattle.mst_c.proofs.ranging.put_pairs.Goals as goal

pub put_pair-at-requires : goal.put_pair-at-requires
put_pair-at-requires c =
    let i : ℕ = c.loop-key.key-index in let ps : List Pair = c.args.pairs.now in let d : Pair =
    c.loop-key-item.result in let room : List ℕ = c.args.room.now in
    let a : List ℕ = pairs_bytes (take i ps) in let b : List ℕ = pair_bytes (get_or ps i d) in
    let more : pairs_bytes (take (i + 1) ps) ≡ a ++ b = one_more ps i d (omega arith) in
    let longer : length (pairs_bytes (take (i + 1) ps)) ≡ length a + length b =
    ap length more ∙ length-append a b in
    let all : length (pairs_bytes (take (i + 1) ps)) ≤ length (pairs_bytes ps) =
    first_shorter ps (i + 1) in
    let front : length a ≤ length (pairs_bytes ps) = first_shorter ps i in
    let fits : length (pairs_bytes ps) ≤ length room = search rules in
    let was = c.loop-key.invariant in
    let same : length c.loop-key.room ≡ length room = ap length was.room ∙ written_length 0 a room
    (omega (arith, front, fits)) in
    let is : get_or ps i d ≡ d = search rules in
    let end : c.loop-key.at + length b ≤ length c.loop-key.room =
    omega (arith, was.at, longer, all, fits, same) in
    record {
      fits =
          subst (λ (p : Pair). c.loop-key.at + length (pair_bytes p) ≤ length c.loop-key.room)
          is end;
    }

pub loop-key-preserved : goal.loop-key-preserved
loop-key-preserved c =
    let i : ℕ = c.loop-key.key-index in let ps : List Pair = c.args.pairs.now in let d : Pair =
    c.loop-key-item.result in let room : List ℕ = c.args.room.now in
    let a : List ℕ = pairs_bytes (take i ps) in let b : List ℕ = pair_bytes (get_or ps i d) in
    let more : pairs_bytes (take (i + 1) ps) ≡ a ++ b = one_more ps i d (omega arith) in
    let longer : length (pairs_bytes (take (i + 1) ps)) ≡ length a + length b =
    ap length more ∙ length-append a b in
    let front : length a ≤ length (pairs_bytes ps) = first_shorter ps i in
    let fits : length (pairs_bytes ps) ≤ length room = search rules in
    let end : c.put_pair-at.result ≡ c.loop-key.at + length b = search rules in
    let now : c.put_pair-at.new.room ≡ written c.loop-key.at b c.loop-key.room = search rules in
    let was = c.loop-key.invariant in
    let place : c.loop-key.at ≡ 0 + length a = omega (arith, was.at) in record {
      at = omega (arith, end, longer, was.at);
      room = now ∙ ap (λ (n : ℕ). written n b c.loop-key.room) place ∙ ap (written (0 + length a) b)
          was.room
          ∙ written_more 0 a b room (omega (arith, front, fits))
          ∙ ap (λ (l : List ℕ). written 0 l room) (sym more);
    }
