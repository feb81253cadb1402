-- A script over a new store.
use Rattle.std.proofs.Common.{◌≡◌, ℕ, List, subst}
use Rattle.mst_key.specs.History.{History}
use Rattle.mst_words.specs.declared.view.Shape.{Shape}
use Rattle.mst_store.specs.Passes.{StoreId, Known, HasShape, IsShape, new_passes}
use Rattle.mst_script.specs.Machine.{Line, with_no_pins}
use Rattle.mst_lines.specs.Runs.{Ran, Stopped}
use Rattle.mst_script.specs.Scripts as script
use Rattle.mst_script.specs.Serving.{Gathers}
use Rattle.mst_script.proofs.Scripts.{nothing_yet}
use Rattle.mst_command.specs.Programs.{RanScript, BrokeScript}

pub fresh_run : {S W : Type 0} (gives : S → List ℕ → S → Type 0) (takes : W → List ℕ → W → Type 0)
    (shape : Shape) (store : StoreId) (s t : S) (w x : W) (ps qs : List Known) → IsShape shape
    → HasShape shape store → ps ≡ new_passes store →
    script.RanScript gives takes store s w ps t x qs → RanScript gives takes shape s w t x
fresh_run gives takes shape store s t w x ps qs fits size is r = record {
  fits = fits;
  store = store;
  size = size;
  last = r.last;
  ran = subst (λ (h : History). Ran gives takes (Line store) s w (with_no_pins h) t x r.last)
      (nothing_yet store r.start (subst (Gathers r.start) is r.begun)) r.ran;
}

pub fresh_stop : {S W : Type 0} (gives : S → List ℕ → S → Type 0) (takes : W → List ℕ → W → Type 0)
    (failures : W → ℕ) (shape : Shape) (store : StoreId) (s t : S) (w x : W) (ps qs : List Known)
    → IsShape shape → HasShape shape store → ps ≡ new_passes store →
    script.StoppedScript gives takes failures store s w ps t x qs → BrokeScript gives takes failures
    shape s w t x
fresh_stop gives takes failures shape store s t w x ps qs fits size is r = record {
  fits = fits;
  store = store;
  size = size;
  last = r.last;
  stopped =
      subst (λ (h : History). Stopped gives takes failures (Line store) s w (with_no_pins h) t x
      r.last) (nothing_yet store r.start (subst (Gathers r.start) is r.begun)) r.stopped;
}
