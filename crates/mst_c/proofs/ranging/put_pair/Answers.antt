use Rattle.mst_c.proofs.Names.{◌≡◌, ◌≤◌, ◌+◌, ◌++◌, ℕ, List, length, refl, ap, ◌∙◌, rules, arith, w16, to_be_bytes, length-append, pair_bytes, written}
use Rattle.mst_c.proofs.Listing.{pair_length, written_more}
use Rattle.mst_c.proofs.ranging.put_pair.Goals as goal

-- the two lengths, the key and the value, one after the other
pub returns-clause-room : goal.returns-clause-room
returns-clause-room c =
    let at : ℕ = c.args.at in let room : List ℕ = c.args.room.now in let key : List ℕ =
    c.args.key.now in let value : List ℕ = c.args.value.now in
    let ks : List ℕ = to_be_bytes w16 (length key) in let vs : List ℕ =
    to_be_bytes w16 (length value) in
    let one : c.put_at-behind_one.new.room ≡ written at ks room = search rules in
    let two : c.put_at-behind_two.new.room ≡ written (at + length ks) vs
    c.put_at-behind_one.new.room = search rules in
    let three : c.put_mostly-behind_key.new.room ≡ written c.put_at-behind_two.result key
    c.put_at-behind_two.new.room = search rules in
    let four : c.put_mostly.new.room ≡ written c.put_mostly-behind_key.result value
    c.put_mostly-behind_key.new.room = search rules in
    let size : length (pair_bytes (key, value)) ≡ 4 + length key + length value =
    pair_length (key, value) in
    let fits : at + length (pair_bytes (key, value)) ≤ length room = search rules in
    let lengths : length (ks ++ vs) ≡ 4 = refl in
    let kept : length (ks ++ vs ++ key) ≡ length (ks ++ vs) + length key =
    length-append (ks ++ vs) key in
    let at_key : c.put_at-behind_two.result ≡ at + length (ks ++ vs) = search rules in
    let end : c.put_mostly-behind_key.result ≡ c.put_at-behind_two.result + length key =
    search rules in
    let at_value : c.put_mostly-behind_key.result ≡ at + length (ks ++ vs ++ key) =
    omega (arith, at_key, kept, end) in
    let first : c.put_at-behind_two.new.room ≡ written at (ks ++ vs) room =
    two ∙ ap (written (at + length ks) vs) one ∙ written_more at ks vs room
    (omega (arith, fits, size)) in
    let second : c.put_mostly-behind_key.new.room ≡ written at (ks ++ vs ++ key) room =
    three ∙ ap (λ (n : ℕ). written n key c.put_at-behind_two.new.room) at_key
    ∙ ap (written (at + length (ks ++ vs)) key) first ∙ written_more at (ks ++ vs) key room
    (omega (arith, fits, size)) in
    four ∙ ap (λ (n : ℕ). written n value c.put_mostly-behind_key.new.room) at_value
    ∙ ap (written (at + length (ks ++ vs ++ key)) value) second ∙ written_more at
    (ks ++ vs ++ key) value room (omega (arith, fits, size, kept))
