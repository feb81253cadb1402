-- A report as it is written.
use Rattle.std.specs.Prelude.{ℕ, List, [], ◌∷◌, ◌++◌, codes, decimal}
use Rattle.hex.specs.Hex.{encode_lower}
use Rattle.mst_load.specs.declared.engine.Report.{Report}

-- a line: its name, what it says, and the newline
abbrev pub line_of : List ℕ → List ℕ → List ℕ
line_of name words = name ++ words ++ 10 ∷ []

-- the four lines
unfoldable pub lines_of : Report → List ℕ
lines_of report =
    line_of (codes "events ") (decimal report.events)
    ++ line_of (codes "falls ") (decimal report.falls)
    ++ line_of (codes "root ") (encode_lower report.root)
    ++ line_of (codes "built ") (encode_lower report.built)
