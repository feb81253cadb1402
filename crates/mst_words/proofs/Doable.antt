-- From each ruled table a seat can do each deed that it may, and can publish what is ready.
use Rattle.mst_words.proofs.Names.{◌≡◌, ℕ, ◌*◌, ◌^◌, ◌<◌, Option, List, length, get_or, refl, none, Me, step, carried_after, stepped, Event, masks, View, Shape, DeskState, SeatAt, IsReady, stored, Deed, MayDo, word_after, Table, IsRuled, Does, MakesCurrent}
use Rattle.mst_arena.specs.Lives as lives
use Rattle.mst_words.proofs.Formats.{publishes_by}
use Rattle.mst_words.proofs.ByDeed.{allowed}

-- what a pass has and what it holds
abbrev Mine : Type 0
Mine = Me (Option lives.State) View

module _ (z : Shape) (s : Table) (a : IsRuled z s) (id : ℕ) (me : Mine)
    (at : SeatAt s.views id me.0) where
  abbrev Small : ℕ → Type 0
  Small i = get_or s.words i 0 < 2 ^ 64

  pub can : (deed : Deed) (i : ℕ) → MayDo deed i me → Small i → (t : Table) × IsRuled z t
      × (d : Does deed s t) × (d.makes.id ≡ id) × (d.makes.before ≡ me)
  can deed i may small = let r = allowed z.format z.rows z.passes (length s.homes) id me deed i 0 0
      may s a refl at small in (
        stepped s i
            (word_after deed (step (length s.homes) i 0 0 none) me.0 (get_or s.words i 0)) id me.1
            r.0 r.1,
        r.3,
        record {
          makes = record {
            id = id;
            step = step (length s.homes) i 0 0 none;
            found = get_or s.words i 0;
            before = me;
            after = (r.0, carried_after me.1 r.1);
            at = at;
            views = refl;
            tells = r.4;
          };
          may = may;
          finds = refl;
          words = refl;
        },
        refl,
        refl,
      )

  pub can_publish : (into : ℕ) (e : Event) (d : DeskState) (used : List ℕ)
      → IsReady (stored me.0.format) into e d used me.0 → Small 1 → (t : Table) × IsRuled z t
      × (p : MakesCurrent into s t) × (p.publishes.made.id ≡ id) × (p.publishes.made.before ≡ me)
  can_publish into e d used ready small = let r =
      publishes_by z.format z.rows z.passes (length s.homes) id (into * masks) into e d used me
      ready refl s a refl at small in (
        stepped s 1 (into * masks) id me.1 r.0 r.1,
        r.3,
        record {
          event = e;
          publishes = record {
            desk = d;
            made = record {
              id = id;
              step = step (length s.homes) 1 (into * masks) 0 none;
              found = get_or s.words 1 0;
              before = me;
              after = (r.0, carried_after me.1 r.1);
              at = at;
              views = refl;
              tells = r.4;
            };
            on = ready.on;
          };
          settled = ready.settled;
          drained = ready.drained;
          words = refl;
        },
        refl,
        refl,
      )
