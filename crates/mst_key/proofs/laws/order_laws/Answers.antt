use Rattle.mst_key.proofs.KeyOrder.{key_cmp-total, key_cmp-front, key_cmp-first_byte, same_from_equal, equal_from_same}
use Rattle.mst_key.proofs.laws.order_laws.Goals as goal

pub returns-clause-total : goal.returns-clause-total
returns-clause-total c = key_cmp-total

pub returns-clause-equal : goal.returns-clause-equal
returns-clause-equal c a b = (same_from_equal a b, equal_from_same a b)

pub returns-clause-bytewise : goal.returns-clause-bytewise
returns-clause-bytewise c = key_cmp-first_byte

pub returns-clause-shorter_first : goal.returns-clause-shorter_first
returns-clause-shorter_first c = key_cmp-front
