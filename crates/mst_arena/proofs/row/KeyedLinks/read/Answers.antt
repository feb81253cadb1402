use Rattle.mst_arena.proofs.Names.{rules}
use Rattle.mst_arena.proofs.Readers.{key_bytes, keyed_links_of}
use Rattle.mst_arena.proofs.row.KeyedLinks.read.Goals as goal

pub returns-then-len-gt32-clause-some : goal.returns-then-len-gt32-clause-some
returns-then-len-gt32-clause-some c = search rules

pub returns-then-len-gt32-clause-when : goal.returns-then-len-gt32-clause-when
returns-then-len-gt32-clause-when c = search rules

pub returns-then-len-gt32-clause-part : goal.returns-then-len-gt32-clause-part
returns-then-len-gt32-clause-part c all at some = keyed_links_of c.args.words.now all _
    (λ child next key a b size e f len front. search rules) at some

pub returns-in_err-ok-clause-some : goal.returns-in_err-ok-clause-some
returns-in_err-ok-clause-some c = search rules

pub returns-in_err-ok-clause-when : goal.returns-in_err-ok-clause-when
returns-in_err-ok-clause-when c = search rules

pub returns-in_err-ok-clause-part : goal.returns-in_err-ok-clause-part
returns-in_err-ok-clause-part c all at some = keyed_links_of c.args.words.now all _
    (λ child next key a b size e f len front. search rules) at some

pub returns-in_err-ok-2-clause-some : goal.returns-in_err-ok-2-clause-some
returns-in_err-ok-2-clause-some c = search rules

pub returns-in_err-ok-2-clause-when : goal.returns-in_err-ok-2-clause-when
returns-in_err-ok-2-clause-when c = search rules

pub returns-in_err-ok-2-clause-part : goal.returns-in_err-ok-2-clause-part
returns-in_err-ok-2-clause-part c all at some = keyed_links_of c.args.words.now all _
    (λ child next key a b size e f len front. search rules) at some

pub returns-in_err-ok-3-clause-some : goal.returns-in_err-ok-3-clause-some
returns-in_err-ok-3-clause-some c = search rules

pub returns-in_err-ok-3-clause-when : goal.returns-in_err-ok-3-clause-when
returns-in_err-ok-3-clause-when c = search rules

pub returns-in_err-ok-3-clause-part : goal.returns-in_err-ok-3-clause-part
returns-in_err-ok-3-clause-part c all at some = keyed_links_of c.args.words.now all _
    (λ child next key a b size e f len front. search rules) at some

pub returns-clause-some : goal.returns-clause-some
returns-clause-some c = search (rules, key_bytes c.args.words.now c.told-words)

pub returns-clause-when : goal.returns-clause-when
returns-clause-when c = search rules

pub returns-clause-part : goal.returns-clause-part
returns-clause-part c all at some = keyed_links_of c.args.words.now all _
    (λ child next key a b size e f len front. search rules) at some

pub bounds-words-2 : goal.bounds-words-2
bounds-words-2 c = search rules

pub bounds-words-0 : goal.bounds-words-0
bounds-words-0 c = search rules

pub bounds-words-1 : goal.bounds-words-1
bounds-words-1 c = search rules
