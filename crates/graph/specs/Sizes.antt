-- A graph: how many parties it has, and who of them pays whom.
use Rattle.std.specs.Prelude.{ℕ}
use Rattle.graph.specs.Graphs.{count, Among}
use Rattle.graph.specs.declared.Graph.{Graph}

abbrev pub size : Graph → ℕ
size g = count g.parties

abbrev pub Paying : Graph → ℕ → ℕ → Type 0
Paying g = Among (size g) g.legs.now
