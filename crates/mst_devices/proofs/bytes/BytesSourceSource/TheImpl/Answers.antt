use Rattle.std.proofs.Common.{◌≡◌, ℕ, min, length, Result, Ok, Err, OnOk, OnErr, refl}
use Rattle.mst_devices.specs.declared.Device.{Device}
use Rattle.mst_devices.proofs.bytes.BytesSourceSource.TheImpl.Goals as goal

-- what is said of failures holds of a read that never fails
never_fails : (r : Result ℕ Device) (n : ℕ) (X : Type 0) → r ≡ Ok n → OnErr r X
never_fails (Ok m) n X is = tt
never_fails (Err e) n X is = absurd (cc)

none_more : (r : Result ℕ Device) (failures : ℕ) → OnOk r (failures ≡ failures)
none_more (Ok m) failures = refl
none_more (Err e) failures = tt

-- so a source over memory is as a source is to be
pub read-tells : goal.read-tells
read-tells g c =
    let n : ℕ = min (length c.args.self.now) (length c.args.buffer.now) in
    record {
      ok = c.ensures.ok;
      steady = none_more c.result 0;
      err = never_fails c.result n _ c.ensures.whole;
      failed = never_fails c.result n _ c.ensures.whole;
    }
