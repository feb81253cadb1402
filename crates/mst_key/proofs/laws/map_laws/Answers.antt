use Rattle.mst_key.proofs.Names.{refl}
use Rattle.mst_key.proofs.KeyOrder.{key_cmp-itself}
use Rattle.mst_key.proofs.MapLaws.{map_get-put_same, map_get-put_other, map_get-remove_same, map_get-remove_other, IsMap-nil, IsMap-put, IsMap-remove, Contains-look, map_get-contains, map_determined, put-unchanged, remove-unchanged}
use Rattle.mst_key.proofs.Splits.{put-between, put-at, remove-at}
use Rattle.mst_key.proofs.laws.map_laws.Goals as goal

pub returns-clause-put_same : goal.returns-clause-put_same
returns-clause-put_same c = map_get-put_same

pub returns-clause-put_other : goal.returns-clause-put_other
returns-clause-put_other c = map_get-put_other

pub returns-clause-remove_same : goal.returns-clause-remove_same
returns-clause-remove_same c = map_get-remove_same

pub returns-clause-remove_other : goal.returns-clause-remove_other
returns-clause-remove_other c = map_get-remove_other

pub returns-clause-empty_is_map : goal.returns-clause-empty_is_map
returns-clause-empty_is_map c = IsMap-nil

pub returns-clause-put_is_map : goal.returns-clause-put_is_map
returns-clause-put_is_map c = IsMap-put

pub returns-clause-remove_is_map : goal.returns-clause-remove_is_map
returns-clause-remove_is_map c = IsMap-remove

pub returns-clause-found : goal.returns-clause-found
returns-clause-found c m k v map = (Contains-look m k v, map_get-contains m k v map.ascending)

pub returns-clause-determined : goal.returns-clause-determined
returns-clause-determined c m n one other = map_determined m n one.ascending other.ascending

pub returns-clause-put_again : goal.returns-clause-put_again
returns-clause-put_again c m k v map = put-unchanged m k v map.ascending

pub returns-clause-remove_absent : goal.returns-clause-remove_absent
returns-clause-remove_absent c m k map = remove-unchanged m k map.ascending

pub returns-clause-put_adds : goal.returns-clause-put_adds
returns-clause-put_adds c front back k v below above = put-between _ front back k refl below above v

pub returns-clause-put_replaces : goal.returns-clause-put_replaces
returns-clause-put_replaces c front back k v w below above =
    put-at _ front back k k w refl (key_cmp-itself k) below above v

pub returns-clause-remove_takes : goal.returns-clause-remove_takes
returns-clause-remove_takes c front back k w below above =
    remove-at _ front back k k w refl (key_cmp-itself k) below above
