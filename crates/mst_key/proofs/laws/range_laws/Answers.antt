use Rattle.mst_key.proofs.SpanLaws.{next_above, next_least, next_none, span_within, span_is_map, span_limit, span_first}
use Rattle.mst_key.proofs.laws.range_laws.Goals as goal

pub returns-clause-next_above : goal.returns-clause-next_above
returns-clause-next_above c = next_above

pub returns-clause-next_least : goal.returns-clause-next_least
returns-clause-next_least c = next_least

pub returns-clause-next_none : goal.returns-clause-next_none
returns-clause-next_none c = next_none

pub returns-clause-span_within : goal.returns-clause-span_within
returns-clause-span_within c = span_within

pub returns-clause-span_is_map : goal.returns-clause-span_is_map
returns-clause-span_is_map c = span_is_map

pub returns-clause-span_limit : goal.returns-clause-span_limit
returns-clause-span_limit c = span_limit

pub returns-clause-span_first : goal.returns-clause-span_first
returns-clause-span_first c = span_first
