use Rattle.std.proofs.Common.{rules}
use Rattle.mst.proofs.Ends.{script_root, script_key, verify_shape, replay_shape, replay_root, replay_key, load_root, load_key, help_shape, help_root, help_key, sharded_root, sharded_key, script_splits, verify_splits, replay_splits, load_splits, help_splits}
use Rattle.mst.proofs.tasks.execute.Goals as goal

pub returns-in-Run-clause-root : goal.returns-in-Run-clause-root
returns-in-Run-clause-root g c = search (rules, script_root)

pub returns-in-Run-clause-key : goal.returns-in-Run-clause-key
returns-in-Run-clause-key g c = search (rules, script_key)

pub returns-in-Verify-clause-shape : goal.returns-in-Verify-clause-shape
returns-in-Verify-clause-shape g c = search (rules, verify_shape)

pub returns-in-Replay-clause-shape : goal.returns-in-Replay-clause-shape
returns-in-Replay-clause-shape g c = search (rules, replay_shape)

pub returns-in-Replay-clause-root : goal.returns-in-Replay-clause-root
returns-in-Replay-clause-root g c = search (rules, replay_root)

pub returns-in-Replay-clause-key : goal.returns-in-Replay-clause-key
returns-in-Replay-clause-key g c = search (rules, replay_key)

pub returns-in-Load-clause-root : goal.returns-in-Load-clause-root
returns-in-Load-clause-root g c = search (rules, load_root)

pub returns-in-Load-clause-key : goal.returns-in-Load-clause-key
returns-in-Load-clause-key g c = search (rules, load_key)

pub returns-in-Help-clause-shape : goal.returns-in-Help-clause-shape
returns-in-Help-clause-shape g c = search (rules, help_shape)

pub returns-in-Help-clause-root : goal.returns-in-Help-clause-root
returns-in-Help-clause-root g c = search (rules, help_root)

pub returns-in-Help-clause-key : goal.returns-in-Help-clause-key
returns-in-Help-clause-key g c = search (rules, help_key)

pub run_script-requires-clause-source : goal.run_script-requires-clause-source
run_script-requires-clause-source g c = search rules

pub run_script-requires-clause-out : goal.run_script-requires-clause-out
run_script-requires-clause-out g c = search rules

pub run_verify-requires-text-root : goal.run_verify-requires-text-root
run_verify-requires-text-root g c = search rules

pub run_verify-requires-text-key : goal.run_verify-requires-text-key
run_verify-requires-text-key g c = search rules

pub run_verify-requires-clause-source : goal.run_verify-requires-clause-source
run_verify-requires-clause-source g c = search rules

pub run_verify-requires-clause-out : goal.run_verify-requires-clause-out
run_verify-requires-clause-out g c = search rules

pub run_replay-requires-clause-source : goal.run_replay-requires-clause-source
run_replay-requires-clause-source g c = search rules

pub run_replay-requires-clause-out : goal.run_replay-requires-clause-out
run_replay-requires-clause-out g c = search rules

pub show-requires : goal.show-requires
show-requires g c = search rules

pub returns-in-Run-clause-did : goal.returns-in-Run-clause-did
returns-in-Run-clause-did g c = search rules

pub returns-in-Run-clause-steady : goal.returns-in-Run-clause-steady
returns-in-Run-clause-steady g c = search rules

pub returns-in-Run-clause-device : goal.returns-in-Run-clause-device
returns-in-Run-clause-device g c = search rules

pub returns-in-Run-clause-unread : goal.returns-in-Run-clause-unread
returns-in-Run-clause-unread g c = search rules

pub returns-in-Run-clause-untouched : goal.returns-in-Run-clause-untouched
returns-in-Run-clause-untouched g c = search rules

pub returns-in-Run-clause-unwritten : goal.returns-in-Run-clause-unwritten
returns-in-Run-clause-unwritten g c = search rules

pub returns-in-Run-clause-shape : goal.returns-in-Run-clause-shape
returns-in-Run-clause-shape g c = search rules

pub returns-in-Run-clause-ends : goal.returns-in-Run-clause-ends
returns-in-Run-clause-ends g c = search rules

pub returns-in-Verify-clause-did : goal.returns-in-Verify-clause-did
returns-in-Verify-clause-did g c = search rules

pub returns-in-Verify-clause-steady : goal.returns-in-Verify-clause-steady
returns-in-Verify-clause-steady g c = search rules

pub returns-in-Verify-clause-device : goal.returns-in-Verify-clause-device
returns-in-Verify-clause-device g c = search rules

pub returns-in-Verify-clause-unread : goal.returns-in-Verify-clause-unread
returns-in-Verify-clause-unread g c = search rules

pub returns-in-Verify-clause-untouched : goal.returns-in-Verify-clause-untouched
returns-in-Verify-clause-untouched g c = search rules

pub returns-in-Verify-clause-unwritten : goal.returns-in-Verify-clause-unwritten
returns-in-Verify-clause-unwritten g c = search rules

pub returns-in-Verify-clause-root : goal.returns-in-Verify-clause-root
returns-in-Verify-clause-root g c = search rules

pub returns-in-Verify-clause-key : goal.returns-in-Verify-clause-key
returns-in-Verify-clause-key g c = search rules

pub returns-in-Verify-clause-ends : goal.returns-in-Verify-clause-ends
returns-in-Verify-clause-ends g c = search rules

pub returns-in-Replay-clause-did : goal.returns-in-Replay-clause-did
returns-in-Replay-clause-did g c = search rules

pub returns-in-Replay-clause-steady : goal.returns-in-Replay-clause-steady
returns-in-Replay-clause-steady g c = search rules

pub returns-in-Replay-clause-device : goal.returns-in-Replay-clause-device
returns-in-Replay-clause-device g c = search rules

pub returns-in-Replay-clause-unread : goal.returns-in-Replay-clause-unread
returns-in-Replay-clause-unread g c = search rules

pub returns-in-Replay-clause-untouched : goal.returns-in-Replay-clause-untouched
returns-in-Replay-clause-untouched g c = search rules

pub returns-in-Replay-clause-unwritten : goal.returns-in-Replay-clause-unwritten
returns-in-Replay-clause-unwritten g c = search rules

pub returns-in-Replay-clause-ends : goal.returns-in-Replay-clause-ends
returns-in-Replay-clause-ends g c = search rules

pub returns-in-Help-clause-did : goal.returns-in-Help-clause-did
returns-in-Help-clause-did g c = search rules

pub returns-in-Help-clause-steady : goal.returns-in-Help-clause-steady
returns-in-Help-clause-steady g c = search rules

pub returns-in-Help-clause-device : goal.returns-in-Help-clause-device
returns-in-Help-clause-device g c = search rules

pub returns-in-Help-clause-unread : goal.returns-in-Help-clause-unread
returns-in-Help-clause-unread g c = search rules

pub returns-in-Help-clause-untouched : goal.returns-in-Help-clause-untouched
returns-in-Help-clause-untouched g c = search rules

pub returns-in-Help-clause-unwritten : goal.returns-in-Help-clause-unwritten
returns-in-Help-clause-unwritten g c = search rules

pub returns-in-Help-clause-ends : goal.returns-in-Help-clause-ends
returns-in-Help-clause-ends g c = search rules

pub returns-in-Run-clause-stopped : goal.returns-in-Run-clause-stopped
returns-in-Run-clause-stopped g c = search rules

pub returns-in-Verify-clause-stopped : goal.returns-in-Verify-clause-stopped
returns-in-Verify-clause-stopped g c = search rules

pub returns-in-Replay-clause-stopped : goal.returns-in-Replay-clause-stopped
returns-in-Replay-clause-stopped g c = search rules

pub returns-in-Load-clause-did : goal.returns-in-Load-clause-did
returns-in-Load-clause-did g c = search rules

pub returns-in-Load-clause-steady : goal.returns-in-Load-clause-steady
returns-in-Load-clause-steady g c = search rules

pub returns-in-Load-clause-device : goal.returns-in-Load-clause-device
returns-in-Load-clause-device g c = search rules

pub returns-in-Load-clause-unread : goal.returns-in-Load-clause-unread
returns-in-Load-clause-unread g c = search rules

pub returns-in-Load-clause-untouched : goal.returns-in-Load-clause-untouched
returns-in-Load-clause-untouched g c = search rules

pub returns-in-Load-clause-unwritten : goal.returns-in-Load-clause-unwritten
returns-in-Load-clause-unwritten g c = search rules

pub returns-in-Load-clause-shape : goal.returns-in-Load-clause-shape
returns-in-Load-clause-shape g c = search rules

pub returns-in-Load-clause-ends : goal.returns-in-Load-clause-ends
returns-in-Load-clause-ends g c = search rules

pub returns-in-Load-clause-stopped : goal.returns-in-Load-clause-stopped
returns-in-Load-clause-stopped g c = search rules

pub returns-in-Help-clause-stopped : goal.returns-in-Help-clause-stopped
returns-in-Help-clause-stopped g c = search rules

pub returns-in-Run-clause-splits : goal.returns-in-Run-clause-splits
returns-in-Run-clause-splits g c = search (rules, script_splits)

pub returns-in-Verify-clause-splits : goal.returns-in-Verify-clause-splits
returns-in-Verify-clause-splits g c = search (rules, verify_splits)

pub returns-in-Replay-clause-splits : goal.returns-in-Replay-clause-splits
returns-in-Replay-clause-splits g c = search (rules, replay_splits)

pub returns-in-Load-clause-splits : goal.returns-in-Load-clause-splits
returns-in-Load-clause-splits g c = search (rules, load_splits)

pub returns-in-Help-clause-splits : goal.returns-in-Help-clause-splits
returns-in-Help-clause-splits g c = search (rules, help_splits)

pub returns-in-RunSharded-clause-did : goal.returns-in-RunSharded-clause-did
returns-in-RunSharded-clause-did g c = search rules

pub returns-in-RunSharded-clause-steady : goal.returns-in-RunSharded-clause-steady
returns-in-RunSharded-clause-steady g c = search rules

pub returns-in-RunSharded-clause-device : goal.returns-in-RunSharded-clause-device
returns-in-RunSharded-clause-device g c = search rules

pub returns-in-RunSharded-clause-unread : goal.returns-in-RunSharded-clause-unread
returns-in-RunSharded-clause-unread g c = search rules

pub returns-in-RunSharded-clause-untouched : goal.returns-in-RunSharded-clause-untouched
returns-in-RunSharded-clause-untouched g c = search rules

pub returns-in-RunSharded-clause-unwritten : goal.returns-in-RunSharded-clause-unwritten
returns-in-RunSharded-clause-unwritten g c = search rules

pub returns-in-RunSharded-clause-shape : goal.returns-in-RunSharded-clause-shape
returns-in-RunSharded-clause-shape g c = search rules

pub returns-in-RunSharded-clause-splits : goal.returns-in-RunSharded-clause-splits
returns-in-RunSharded-clause-splits g c = search rules

pub returns-in-RunSharded-clause-root : goal.returns-in-RunSharded-clause-root
returns-in-RunSharded-clause-root g c = search (rules, sharded_root)

pub returns-in-RunSharded-clause-key : goal.returns-in-RunSharded-clause-key
returns-in-RunSharded-clause-key g c = search (rules, sharded_key)

pub returns-in-RunSharded-clause-ends : goal.returns-in-RunSharded-clause-ends
returns-in-RunSharded-clause-ends g c = search rules

pub returns-in-RunSharded-clause-stopped : goal.returns-in-RunSharded-clause-stopped
returns-in-RunSharded-clause-stopped g c = search rules

pub run_sharded-requires-text-splits : goal.run_sharded-requires-text-splits
run_sharded-requires-text-splits g c = search rules

pub run_sharded-requires-clause-source : goal.run_sharded-requires-clause-source
run_sharded-requires-clause-source g c = search rules

pub run_sharded-requires-clause-out : goal.run_sharded-requires-clause-out
run_sharded-requires-clause-out g c = search rules

pub returns-in-UnknownFormat-clause-splits : goal.returns-in-UnknownFormat-clause-splits
returns-in-UnknownFormat-clause-splits g c = search rules
