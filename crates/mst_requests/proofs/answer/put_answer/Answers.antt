use Rattle.mst_requests.proofs.Names.{◌≡◌, ◌∷◌, [], ◌++◌, ℕ, List, sym, ap, ◌∙◌, subst, rules, encode_lower, Puts, Breaks, line_of, pair_lines, breaks_more, on_err, puts_then, puts_breaks}
use Rattle.mst_requests.specs.Texts.{count_words}
use Rattle.mst_requests.specs.Answers.{text_of}
use Rattle.mst_devices.proofs.Putting.{map_ok, map_err}
use Rattle.mst_requests.proofs.answer.put_answer.Goals as goal

pub returns-in_err-put-in-Pairs-clause-err : goal.returns-in_err-put-in-Pairs-clause-err
returns-in_err-put-in-Pairs-clause-err g c = let found = c.in-Pairs.pairs.items in
    let first : c.as_slice.result.now ≡ line_of (count_words found) = search rules in
    let all : text_of c.args.answer.now ≡ c.as_slice.result.now ++ pair_lines found =
    ap text_of c.in-Pairs.is ∙ ap (λ (l : List ℕ). l ++ pair_lines found) (sym first) in
    on_err c.from_residual.result
    (subst (λ (l : List ℕ). Breaks g.W.Sink.takes c.args.sink.now c.args.pending.now l
    c.put.new.sink) (sym all)
    (breaks_more g.W.Sink.takes c.args.sink.now c.put.new.sink c.args.pending.now
    c.as_slice.result.now (pair_lines found) c.in_err-put-in-Pairs.ensures.err))

pub returns-in_ok-put-in-Pairs-clause-ok : goal.returns-in_ok-put-in-Pairs-clause-ok
returns-in_ok-put-in-Pairs-clause-ok g c = let found = c.in-Pairs.pairs.items in
    let first : c.as_slice.result.now ≡ line_of (count_words found) = search rules in
    let slice : c.as_slice-in-Pairs.result.now ≡ found = search rules in
    let all : text_of c.args.answer.now ≡ c.as_slice.result.now ++ pair_lines
    c.as_slice-in-Pairs.result.now =
    ap text_of c.in-Pairs.is ∙ ap (λ (l : List ℕ). l ++ pair_lines found) (sym first)
    ∙ ap (λ ps. c.as_slice.result.now ++ pair_lines ps) (sym slice) in
    map_ok c.put_pairs.result c.put_pairs.ensures.ok (λ puts.
    subst (λ (l : List ℕ). Puts g.W.Sink.takes c.args.sink.now c.args.pending.now l
    c.put_pairs.new.sink c.put_pairs.new.pending) (sym all)
    (puts_then g.W.Sink.takes g.met.W.Sink.takes_more c.args.sink.now c.put.new.sink
    c.put_pairs.new.sink c.args.pending.now c.put.new.self c.put_pairs.new.pending
    c.as_slice.result.now (pair_lines c.as_slice-in-Pairs.result.now)
    c.in_ok-put-in-Pairs.ensures.ok puts))

pub returns-in_ok-put-in-Pairs-clause-err : goal.returns-in_ok-put-in-Pairs-clause-err
returns-in_ok-put-in-Pairs-clause-err g c = let found = c.in-Pairs.pairs.items in
    let first : c.as_slice.result.now ≡ line_of (count_words found) = search rules in
    let slice : c.as_slice-in-Pairs.result.now ≡ found = search rules in
    let all : text_of c.args.answer.now ≡ c.as_slice.result.now ++ pair_lines
    c.as_slice-in-Pairs.result.now =
    ap text_of c.in-Pairs.is ∙ ap (λ (l : List ℕ). l ++ pair_lines found) (sym first)
    ∙ ap (λ ps. c.as_slice.result.now ++ pair_lines ps) (sym slice) in
    map_err c.put_pairs.result c.put_pairs.ensures.err (λ broke.
    subst (λ (l : List ℕ). Breaks g.W.Sink.takes c.args.sink.now c.args.pending.now l
    c.put_pairs.new.sink) (sym all)
    (puts_breaks g.W.Sink.takes g.met.W.Sink.takes_more c.args.sink.now c.put.new.sink
    c.put_pairs.new.sink c.args.pending.now c.put.new.self c.as_slice.result.now
    (pair_lines c.as_slice-in-Pairs.result.now) c.in_ok-put-in-Pairs.ensures.ok broke))

pub returns-in_err-put_digits-in-Bytes-clause-err :
    goal.returns-in_err-put_digits-in-Bytes-clause-err
returns-in_err-put_digits-in-Bytes-clause-err g c = let found = c.in-Bytes.bytes.items in
    let slice : c.as_slice-in-Bytes.result.now ≡ found = search rules in
    let all : text_of c.args.answer.now ≡ encode_lower c.as_slice-in-Bytes.result.now ++ 10 ∷ [] =
    ap text_of c.in-Bytes.is ∙ ap (λ (l : List ℕ). encode_lower l ++ 10 ∷ []) (sym slice) in
    on_err c.from_residual-in_err-put_digits-in-Bytes.result
    (subst (λ (l : List ℕ). Breaks g.W.Sink.takes c.args.sink.now c.args.pending.now l
    c.put_digits.new.sink) (sym all)
    (breaks_more g.W.Sink.takes c.args.sink.now c.put_digits.new.sink c.args.pending.now
    (encode_lower c.as_slice-in-Bytes.result.now) (10 ∷ [])
    c.in_err-put_digits-in-Bytes.ensures.err))

pub returns-in_ok-put_digits-in-Bytes-clause-ok : goal.returns-in_ok-put_digits-in-Bytes-clause-ok
returns-in_ok-put_digits-in-Bytes-clause-ok g c = let found = c.in-Bytes.bytes.items in
    let slice : c.as_slice-in-Bytes.result.now ≡ found = search rules in
    let end : c.as_slice-in-Bytes-2.result.now ≡ 10 ∷ [] = search rules in
    let all : text_of c.args.answer.now ≡ encode_lower c.as_slice-in-Bytes.result.now
    ++ c.as_slice-in-Bytes-2.result.now =
    ap text_of c.in-Bytes.is ∙ ap (λ (l : List ℕ). encode_lower l ++ 10 ∷ []) (sym slice)
    ∙ ap (λ (l : List ℕ). encode_lower c.as_slice-in-Bytes.result.now ++ l) (sym end) in
    map_ok c.put-in-Bytes.result c.put-in-Bytes.ensures.ok (λ puts.
    subst (λ (l : List ℕ). Puts g.W.Sink.takes c.args.sink.now c.args.pending.now l
    c.put-in-Bytes.new.sink c.put-in-Bytes.new.self) (sym all)
    (puts_then g.W.Sink.takes g.met.W.Sink.takes_more c.args.sink.now c.put_digits.new.sink
    c.put-in-Bytes.new.sink c.args.pending.now c.put_digits.new.pending c.put-in-Bytes.new.self
    (encode_lower c.as_slice-in-Bytes.result.now) c.as_slice-in-Bytes-2.result.now
    c.in_ok-put_digits-in-Bytes.ensures.ok puts))

pub returns-in_ok-put_digits-in-Bytes-clause-err : goal.returns-in_ok-put_digits-in-Bytes-clause-err
returns-in_ok-put_digits-in-Bytes-clause-err g c = let found = c.in-Bytes.bytes.items in
    let slice : c.as_slice-in-Bytes.result.now ≡ found = search rules in
    let end : c.as_slice-in-Bytes-2.result.now ≡ 10 ∷ [] = search rules in
    let all : text_of c.args.answer.now ≡ encode_lower c.as_slice-in-Bytes.result.now
    ++ c.as_slice-in-Bytes-2.result.now =
    ap text_of c.in-Bytes.is ∙ ap (λ (l : List ℕ). encode_lower l ++ 10 ∷ []) (sym slice)
    ∙ ap (λ (l : List ℕ). encode_lower c.as_slice-in-Bytes.result.now ++ l) (sym end) in
    map_err c.put-in-Bytes.result c.put-in-Bytes.ensures.err (λ broke.
    subst (λ (l : List ℕ). Breaks g.W.Sink.takes c.args.sink.now c.args.pending.now l
    c.put-in-Bytes.new.sink) (sym all)
    (puts_breaks g.W.Sink.takes g.met.W.Sink.takes_more c.args.sink.now c.put_digits.new.sink
    c.put-in-Bytes.new.sink c.args.pending.now c.put_digits.new.pending
    (encode_lower c.as_slice-in-Bytes.result.now) c.as_slice-in-Bytes-2.result.now
    c.in_ok-put_digits-in-Bytes.ensures.ok broke))

pub as_slice-requires : goal.as_slice-requires
as_slice-requires g c = search rules

pub put-requires : goal.put-requires
put-requires g c = search rules

pub returns-in_err-put-in-Pairs-clause-ok : goal.returns-in_err-put-in-Pairs-clause-ok
returns-in_err-put-in-Pairs-clause-ok g c = search rules

pub returns-in_err-put-in-Pairs-clause-steady : goal.returns-in_err-put-in-Pairs-clause-steady
returns-in_err-put-in-Pairs-clause-steady g c = search rules

pub returns-in_err-put-in-Pairs-clause-failed : goal.returns-in_err-put-in-Pairs-clause-failed
returns-in_err-put-in-Pairs-clause-failed g c = search rules

pub put_pairs-requires : goal.put_pairs-requires
put_pairs-requires g c = search rules

pub put_digits-requires : goal.put_digits-requires
put_digits-requires g c = search rules

pub returns-in_err-put_digits-in-Bytes-clause-ok : goal.returns-in_err-put_digits-in-Bytes-clause-ok
returns-in_err-put_digits-in-Bytes-clause-ok g c = search rules

pub returns-in_err-put_digits-in-Bytes-clause-steady :
    goal.returns-in_err-put_digits-in-Bytes-clause-steady
returns-in_err-put_digits-in-Bytes-clause-steady g c = search rules

pub returns-in_err-put_digits-in-Bytes-clause-failed :
    goal.returns-in_err-put_digits-in-Bytes-clause-failed
returns-in_err-put_digits-in-Bytes-clause-failed g c = search rules

pub as_slice-requires-in-Bytes-2 : goal.as_slice-requires-in-Bytes-2
as_slice-requires-in-Bytes-2 g c = search rules

pub put-requires-in-Bytes : goal.put-requires-in-Bytes
put-requires-in-Bytes g c = search rules

pub as_slice-requires-in_default : goal.as_slice-requires-in_default
as_slice-requires-in_default g c = search rules

pub put-requires-in_default : goal.put-requires-in_default
put-requires-in_default g c = search rules

pub returns-in_ok-put-in-Pairs-clause-steady : goal.returns-in_ok-put-in-Pairs-clause-steady
returns-in_ok-put-in-Pairs-clause-steady g c = search rules

pub returns-in_ok-put-in-Pairs-clause-failed : goal.returns-in_ok-put-in-Pairs-clause-failed
returns-in_ok-put-in-Pairs-clause-failed g c = search rules

pub returns-in_ok-put_digits-in-Bytes-clause-steady :
    goal.returns-in_ok-put_digits-in-Bytes-clause-steady
returns-in_ok-put_digits-in-Bytes-clause-steady g c = search rules

pub returns-in_ok-put_digits-in-Bytes-clause-failed :
    goal.returns-in_ok-put_digits-in-Bytes-clause-failed
returns-in_ok-put_digits-in-Bytes-clause-failed g c = search rules

pub returns-in_default : goal.returns-in_default
returns-in_default g c = search rules
