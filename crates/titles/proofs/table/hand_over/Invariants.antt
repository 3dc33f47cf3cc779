use Rattle.std.proofs.Common.{◌≡◌, ℕ, ◌<◌, ◌≤◌, get_or, None}
use Rattle.titles.specs.Titles.{handed}
use Rattle.titles.proofs.table.hand_over.Given as goal

abbrev pub invariant-loop-title : goal.invariant-loop-title
invariant-loop-title l = record {
  done : (k : ℕ) → k < l.title-index → get_or l.titles k None ≡ handed (get_or l.initial.titles k None) l.from l.to;
  rest : (k : ℕ) → l.title-index ≤ k → get_or l.titles k None ≡ get_or l.initial.titles k None;
}
