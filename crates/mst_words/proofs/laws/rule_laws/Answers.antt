use Rattle.mst_words.proofs.Ruling.{one_history, same_events, same_length}
use Rattle.mst_words.proofs.Deeds.{live_stays, row_unreached, publication_grows, other_keeps, words_tell}
use Rattle.mst_words.proofs.Names.{stored}
use Rattle.mst_words.proofs.laws.rule_laws.Goals as goal

pub returns-clause-one : goal.returns-clause-one
returns-clause-one c z s t a b forth back = one_history z.rows z.passes z.format a.parts.next
    b.parts.next a.parts.log b.parts.log s.views t.views a.parts.world b.parts.world a.seen.whole
    b.seen.whole forth back

pub returns-clause-made : goal.returns-clause-made
returns-clause-made c z s t a b forth back = same_events z.rows z.passes z.format a.parts.next
    b.parts.next a.parts.log b.parts.log s.views t.views a.parts.world b.parts.world forth back

pub returns-clause-versions : goal.returns-clause-versions
returns-clause-versions c z s t a b forth back = same_length z.rows z.passes z.format a.parts.next
    b.parts.next a.parts.log b.parts.log s.views t.views a.parts.world b.parts.world forth back

pub returns-clause-stays : goal.returns-clause-stays
returns-clause-stays c z s a v r i turn = live_stays (stored z.format) z.rows z.passes s a turn.0 v
    r i turn.1 turn.2

pub returns-clause-row : goal.returns-clause-row
returns-clause-row c z s a v r x k turn = row_unreached (stored z.format) z.rows z.passes s a turn.0
    v r x k turn.1 turn.2

pub returns-clause-grows : goal.returns-clause-grows
returns-clause-grows c = publication_grows

pub returns-clause-keeps : goal.returns-clause-keeps
returns-clause-keeps c = other_keeps

pub returns-clause-words : goal.returns-clause-words
returns-clause-words c = words_tell
