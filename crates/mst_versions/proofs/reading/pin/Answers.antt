use Rattle.mst_versions.proofs.Names.{rules, ℕ, ◌≤◌, sym, subst, Seated, PinsVersion}
use Rattle.mst_versions.proofs.Pinning.{pinned_link, pinned_root}
use Rattle.mst_versions.proofs.reading.pin.Goals as goal

pub read_link-version-requires-clause-link : goal.read_link-version-requires-clause-link
read_link-version-requires-clause-link g c = let p = c.pin-pinned.ensures.pinned in
    pinned_link c.args.seat.now.me c.pin-pinned.new.self.me p.0 c.pin-pinned.result p.1 p.2
    (subst (λ (r : ℕ). r ≤ 65535) (sym c.requires.rest.rows_is) c.requires.rest.few_rows)

pub returns-clause-pinned : goal.returns-clause-pinned
returns-clause-pinned g c = let p = c.pin-pinned.ensures.pinned in let r = c.read_link-version in
    subst (λ (z : Seated). PinsVersion c.args.seat.now.me record {
      pinned = c.pin-pinned.result;
      version =
          r.result.0;
      link = r.result.1;
    } z.me) (sym r.ensures.same)
    (pinned_root c.args.seat.now.me c.pin-pinned.new.self.me p.0 p.1
    (record { pinned = c.pin-pinned.result; version = r.result.0; link = r.result.1 })
    (subst (λ (n : ℕ). n ≤ 32) (sym c.requires.rest.passes_is) c.requires.rest.few) p.2
    r.ensures.version r.ensures.link)

pub pin-pinned-requires-clause-free : goal.pin-pinned-requires-clause-free
pin-pinned-requires-clause-free g c = search rules

pub pin-pinned-requires-clause-few : goal.pin-pinned-requires-clause-few
pin-pinned-requires-clause-few g c = search rules

pub read_link-version-requires-clause-there : goal.read_link-version-requires-clause-there
read_link-version-requires-clause-there g c = search rules

pub read_link-version-requires-clause-readable : goal.read_link-version-requires-clause-readable
read_link-version-requires-clause-readable g c = search rules

pub returns-clause-same : goal.returns-clause-same
returns-clause-same g c = search rules
