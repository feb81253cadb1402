use Rattle.mst_requests.proofs.Names.{rules}
use Rattle.mst_requests.proofs.answer.fault_words.Goals as goal

pub returns-in-LongLine-clause-words : goal.returns-in-LongLine-clause-words
returns-in-LongLine-clause-words c = search rules

pub returns-in-LongLine-clause-small : goal.returns-in-LongLine-clause-small
returns-in-LongLine-clause-small c = search rules

pub returns-in-NoPass-clause-words : goal.returns-in-NoPass-clause-words
returns-in-NoPass-clause-words c = search rules

pub returns-in-NoPass-clause-small : goal.returns-in-NoPass-clause-small
returns-in-NoPass-clause-small c = search rules

pub returns-in-NoCommand-clause-words : goal.returns-in-NoCommand-clause-words
returns-in-NoCommand-clause-words c = search rules

pub returns-in-NoCommand-clause-small : goal.returns-in-NoCommand-clause-small
returns-in-NoCommand-clause-small c = search rules

pub returns-in-FieldCount-clause-words : goal.returns-in-FieldCount-clause-words
returns-in-FieldCount-clause-words c = search rules

pub returns-in-FieldCount-clause-small : goal.returns-in-FieldCount-clause-small
returns-in-FieldCount-clause-small c = search rules

pub returns-in-BadField-clause-words : goal.returns-in-BadField-clause-words
returns-in-BadField-clause-words c = search rules

pub returns-in-BadField-clause-small : goal.returns-in-BadField-clause-small
returns-in-BadField-clause-small c = search rules

pub returns-in-KeySize-clause-words : goal.returns-in-KeySize-clause-words
returns-in-KeySize-clause-words c = search rules

pub returns-in-KeySize-clause-small : goal.returns-in-KeySize-clause-small
returns-in-KeySize-clause-small c = search rules

pub returns-in-ValueSize-clause-words : goal.returns-in-ValueSize-clause-words
returns-in-ValueSize-clause-words c = search rules

pub returns-in-ValueSize-clause-small : goal.returns-in-ValueSize-clause-small
returns-in-ValueSize-clause-small c = search rules

pub returns-in-Pinning-clause-words : goal.returns-in-Pinning-clause-words
returns-in-Pinning-clause-words c = search rules

pub returns-in-Pinning-clause-small : goal.returns-in-Pinning-clause-small
returns-in-Pinning-clause-small c = search rules
