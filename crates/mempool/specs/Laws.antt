-- What every mempool keeps, whatever it hands out, and why oldest first leaves no choice.
use Rattle.std.specs.Prelude.{◌≡◌, ℕ, ◌≤◌, List, length, Option, Result, IsTrue}
use Rattle.swap.specs.Limits.{max_lines}
use Rattle.swap.specs.Routes.{distinct}
use Rattle.swap.specs.declared.records.Waiting.{Waiting}
use Rattle.mempool.specs.Calls.{Taken, numbers, Submitted, Handed, Drained, Oldest}
use Rattle.mempool.specs.declared.refusal.Refusal.{Refusal}

-- if P holds of what waits, it still does after a submit or a take, of any mempool
pub record Kept (P : List Waiting → Type 0) : Type 0 where
  pub submit : (w : Waiting) (r : Result (Unit {0}) Refusal) (before after : List Waiting) → Submitted w r before after → P before → P after
  pub take : (tick delta : ℕ) (r : Option Waiting) (before after : List Waiting) → Handed tick delta r before after → P before → P after

-- no number waits twice
abbrev pub Apart : List Waiting → Type 0
Apart ws = IsTrue (distinct (numbers ws))

-- no more wait than may
abbrev pub Few : List Waiting → Type 0
Few ws = length ws ≤ max_lines

-- Where no number waits twice, none is handed out twice, and none is left twice.
abbrev pub DrainedApart : Type 0
DrainedApart = (taken before after : List Waiting) → Drained taken before after → Apart before → Apart taken × Apart after

-- where no number waits twice, there is one oldest, and so one outcome of handing it out
abbrev pub OneOldest : Type 0
OneOldest =
    (v w : Waiting) (before after after' : List Waiting) → Apart before → Taken v before after → Taken w before after'
    → Oldest v before → Oldest w before → (v ≡ w) × (after ≡ after')
