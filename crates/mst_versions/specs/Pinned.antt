-- What a pass knows of the version that it pins.
use Rattle.std.specs.Prelude.{◌≡◌, ◌+◌, ◌<◌, length, Some}
use Rattle.atomic_table.specs.Table.{Me}
use Rattle.mst_key.specs.declared.format.Format.{Format}
use Rattle.mst_key.specs.History.{after, format_after, events_of, IsPrefix}
use Rattle.mst_node.specs.Text.{root}
use Rattle.mst_read.specs.Search.{StandsBelow}
use Rattle.mst_words.specs.declared.view.View.{View}
use Rattle.mst_words.specs.Access.{content_of}
use Rattle.mst_words.specs.Layout.{most_records}
use Rattle.mst_words.specs.Notes.{IsOfPasses}
use Rattle.mst_words.specs.Records.{field}
use Rattle.mst_words.specs.Stored.{root_in, format_number}
use Rattle.mst_versions.specs.declared.reading.PinnedVersion.{PinnedVersion}

-- the format of the version that is pinned
abbrev pub format_pinned : View → Format
format_pinned v = format_after v.format v.pinned_history

-- The record is pinned. The map of the history at the pin stands at the link, on rows that the pass
-- may read, its root digest and the number of its format stand in the record, and the version is
-- the number of events.
pub record HasPinned (at : PinnedVersion) (v : View) : Type 0 where
  pub pin : v.pin ≡ Some at.pinned
  pub there : at.pinned < v.passes + 2
  pub low : at.pinned < most_records
  pub version : at.version ≡ length v.pinned_history
  pub stands : StandsBelow (format_pinned v) (content_of v) at.link (after v.pinned_history)
  pub digest : (root_in (field v.known_words at.pinned)).digest
      ≡ root (format_pinned v) (after v.pinned_history)
  pub number : field v.known_words at.pinned 6 ≡ format_number (format_pinned v)

-- The current version was pinned. The history at the pin begins with all that the pass had seen,
-- its events there are its own, and each event is of a pass of the store. One step was counted, the
-- pin. Nothing else changed
pub record PinsVersion {S : Type 0} (m : Me S View) (at : PinnedVersion) (m' : Me S View) : Type 0
  where
    pub later : IsPrefix m.0.seen m'.0.pinned_history
    pub own : events_of m.0.number m'.0.pinned_history ≡ m.0.mine
    pub alone : IsOfPasses m.0.passes m'.0.pinned_history
    pub has : HasPinned at m'.0
    pub rest : m' ≡ (
      record m.0 {
        pin = m'.0.pin;
        pinned_history = m'.0.pinned_history;
        pinned_rows = m'.0.pinned_rows;
        known_words = m'.0.known_words;
        asked = m.0.asked + 1;
      },
      m.1,
    )
