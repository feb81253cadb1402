use Rattle.std.proofs.Common.{rules}
use Rattle.mst_command.proofs.loading.run_load.Goals as goal

pub returns-then-not-is_load_size-clause-ran : goal.returns-then-not-is_load_size-clause-ran
returns-then-not-is_load_size-clause-ran g c = search rules

pub returns-then-not-is_load_size-clause-done : goal.returns-then-not-is_load_size-clause-done
returns-then-not-is_load_size-clause-done g c = search rules

pub returns-then-not-is_load_size-clause-steady : goal.returns-then-not-is_load_size-clause-steady
returns-then-not-is_load_size-clause-steady g c = search rules

pub returns-then-not-is_load_size-clause-device : goal.returns-then-not-is_load_size-clause-device
returns-then-not-is_load_size-clause-device g c = search rules

pub returns-then-not-is_load_size-clause-unwritten :
    goal.returns-then-not-is_load_size-clause-unwritten
returns-then-not-is_load_size-clause-unwritten g c = search rules

pub returns-then-not-is_load_size-clause-ends : goal.returns-then-not-is_load_size-clause-ends
returns-then-not-is_load_size-clause-ends g c = search rules

pub returns-then-not-is_load_size-clause-shape : goal.returns-then-not-is_load_size-clause-shape
returns-then-not-is_load_size-clause-shape g c = search rules

pub returns-in-Err-Memory-clause-ran : goal.returns-in-Err-Memory-clause-ran
returns-in-Err-Memory-clause-ran g c = search rules

pub returns-in-Err-Thread-clause-ran : goal.returns-in-Err-Thread-clause-ran
returns-in-Err-Thread-clause-ran g c = search rules

pub returns-in-Err-Memory-clause-done : goal.returns-in-Err-Memory-clause-done
returns-in-Err-Memory-clause-done g c = search rules

pub returns-in-Err-Thread-clause-done : goal.returns-in-Err-Thread-clause-done
returns-in-Err-Thread-clause-done g c = search rules

pub returns-in-Err-Memory-clause-steady : goal.returns-in-Err-Memory-clause-steady
returns-in-Err-Memory-clause-steady g c = search rules

pub returns-in-Err-Thread-clause-steady : goal.returns-in-Err-Thread-clause-steady
returns-in-Err-Thread-clause-steady g c = search rules

pub returns-in-Err-Memory-clause-device : goal.returns-in-Err-Memory-clause-device
returns-in-Err-Memory-clause-device g c = search rules

pub returns-in-Err-Thread-clause-device : goal.returns-in-Err-Thread-clause-device
returns-in-Err-Thread-clause-device g c = search rules

pub returns-in-Err-Memory-clause-unwritten : goal.returns-in-Err-Memory-clause-unwritten
returns-in-Err-Memory-clause-unwritten g c = search rules

pub returns-in-Err-Thread-clause-unwritten : goal.returns-in-Err-Thread-clause-unwritten
returns-in-Err-Thread-clause-unwritten g c = search rules

pub returns-in-Err-Memory-clause-ends : goal.returns-in-Err-Memory-clause-ends
returns-in-Err-Memory-clause-ends g c = search rules

pub returns-in-Err-Thread-clause-ends : goal.returns-in-Err-Thread-clause-ends
returns-in-Err-Thread-clause-ends g c = search rules

pub returns-in-Err-Memory-clause-shape : goal.returns-in-Err-Memory-clause-shape
returns-in-Err-Memory-clause-shape g c = search rules

pub returns-in-Err-Thread-clause-shape : goal.returns-in-Err-Thread-clause-shape
returns-in-Err-Thread-clause-shape g c = search rules

pub returns-in-Ok-write_all-clause-ran : goal.returns-in-Ok-write_all-clause-ran
returns-in-Ok-write_all-clause-ran g c = search rules

pub returns-in-Ok-write_all-clause-done : goal.returns-in-Ok-write_all-clause-done
returns-in-Ok-write_all-clause-done g c = search rules

pub returns-in-Ok-write_all-clause-steady : goal.returns-in-Ok-write_all-clause-steady
returns-in-Ok-write_all-clause-steady g c = search rules

pub returns-in-Ok-write_all-clause-device : goal.returns-in-Ok-write_all-clause-device
returns-in-Ok-write_all-clause-device g c = search rules

pub returns-in-Ok-write_all-clause-unwritten : goal.returns-in-Ok-write_all-clause-unwritten
returns-in-Ok-write_all-clause-unwritten g c = search rules

pub returns-in-Ok-write_all-clause-ends : goal.returns-in-Ok-write_all-clause-ends
returns-in-Ok-write_all-clause-ends g c = search rules

pub returns-in-Ok-write_all-clause-shape : goal.returns-in-Ok-write_all-clause-shape
returns-in-Ok-write_all-clause-shape g c = search rules

pub returns-in-Err-clause-ran : goal.returns-in-Err-clause-ran
returns-in-Err-clause-ran g c = search rules

pub returns-in-Err-clause-done : goal.returns-in-Err-clause-done
returns-in-Err-clause-done g c = search rules

pub returns-in-Err-clause-steady : goal.returns-in-Err-clause-steady
returns-in-Err-clause-steady g c = search rules

pub returns-in-Err-clause-device : goal.returns-in-Err-clause-device
returns-in-Err-clause-device g c = search rules

pub returns-in-Err-clause-unwritten : goal.returns-in-Err-clause-unwritten
returns-in-Err-clause-unwritten g c = search rules

pub returns-in-Err-clause-ends : goal.returns-in-Err-clause-ends
returns-in-Err-clause-ends g c = search rules

pub returns-in-Err-clause-shape : goal.returns-in-Err-clause-shape
returns-in-Err-clause-shape g c = search rules

pub returns-then-not-is_load_size-clause-stopped : goal.returns-then-not-is_load_size-clause-stopped
returns-then-not-is_load_size-clause-stopped g c = search rules

pub load-requires-clause-readers : goal.load-requires-clause-readers
load-requires-clause-readers g c = search rules

pub load-requires-clause-writers : goal.load-requires-clause-writers
load-requires-clause-writers g c = search rules

pub load-requires-clause-calls : goal.load-requires-clause-calls
load-requires-clause-calls g c = search rules

pub returns-in-Err-Memory-clause-stopped : goal.returns-in-Err-Memory-clause-stopped
returns-in-Err-Memory-clause-stopped g c = search rules

pub returns-in-Err-Thread-clause-stopped : goal.returns-in-Err-Thread-clause-stopped
returns-in-Err-Thread-clause-stopped g c = search rules

pub write_all-requires : goal.write_all-requires
write_all-requires g c = search rules

pub returns-in-Ok-write_all-clause-stopped : goal.returns-in-Ok-write_all-clause-stopped
returns-in-Ok-write_all-clause-stopped g c = search rules

pub returns-in-Err-clause-stopped : goal.returns-in-Err-clause-stopped
returns-in-Err-clause-stopped g c = search rules
