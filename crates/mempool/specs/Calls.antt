-- What a call does to the list of transactions that wait in a mempool.
use Rattle.std.specs.Prelude.{◌≡◌, ℕ, ◌+◌, ◌<◌, ◌≤◌, Bool, ◌&&◌, ◌||◌, List, [], ◌∷◌, map, length, Some, None, Ok, Err, Option, Result, ◌==◌, nat_lt, All, IsTrue, IsFalse, MatchOption}
use Rattle.swap.specs.Limits.{max_lines}
use Rattle.swap.specs.Routes.{mem}
use Rattle.swap.specs.declared.records.Waiting.{Waiting}
use Rattle.mempool.specs.declared.refusal.Refusal.{Refusal}
use Rattle.mempool.specs.declared.refusal.Refusal.TheVariants.{Full, Duplicate}

-- w stands in the first list, and the second list is the others, in their order
pub data Taken (w : Waiting) : List Waiting → List Waiting → Type 0 where
  here : {ws : List Waiting} → Taken w (w ∷ ws) ws
  later : {v : Waiting} {ws rest : List Waiting} → Taken w ws rest → Taken w (v ∷ ws) (v ∷ rest)

abbrev pub numbers : List Waiting → List ℕ
numbers ws = map (λ w. w.number) ws

-- does a transaction of that number wait?
abbrev pub waits : ℕ → List Waiting → Bool
waits n ws = mem n (numbers ws)

-- A submitted transaction is added anywhere among the others. Full is told before Duplicate, and a refusal changes nothing.
abbrev pub Submitted : Waiting → Result (Unit {0}) Refusal → List Waiting → List Waiting → Type 0
Submitted w (Ok done) before after = (length before < max_lines) × IsFalse (waits w.number before) × Taken w after before
Submitted w (Err Full) before after = (max_lines ≤ length before) × (after ≡ before)
Submitted w (Err Duplicate) before after = (length before < max_lines) × IsTrue (waits w.number before) × (after ≡ before)

-- filed delta or more ticks before
abbrev pub Due : ℕ → ℕ → Waiting → Type 0
Due tick delta w = w.tick + delta ≤ tick

-- filed less than delta ticks before
abbrev pub Fresh : ℕ → ℕ → Waiting → Type 0
Fresh tick delta w = tick < w.tick + delta

-- One is handed out and waits no longer; or none, and then all are fresh and nothing changes.
abbrev pub Handed : ℕ → ℕ → Option Waiting → List Waiting → List Waiting → Type 0
Handed tick delta (Some w) before after = Taken w before after
Handed tick delta None before after = (after ≡ before) × All (Fresh tick delta) before

-- The transactions of the first list are handed out one after another, in that order, and lead from the second list to the third.
pub data Drained : List Waiting → List Waiting → List Waiting → Type 0 where
  none : {ws : List Waiting} → Drained [] ws ws
  more : {w : Waiting} {taken before between after : List Waiting} → Taken w before between → Drained taken between after
      → Drained (w ∷ taken) before after

-- v was filed before w: at an earlier tick, or at the same tick with a lower number
abbrev pub older : Waiting → Waiting → Bool
older v w = nat_lt v.tick w.tick || (v.tick == w.tick && nat_lt v.number w.number)

-- none of the list is older than w
abbrev pub Oldest : Waiting → List Waiting → Type 0
Oldest w ws = All (λ v. IsFalse (older v w)) ws

-- One that is ready is handed out, and none is older; or none, and then none is ready.
abbrev pub OldestReady : (Waiting → Type 0) → Option Waiting → List Waiting → Type 0
OldestReady Ready handed ws = MatchOption handed (All (λ w. ¬ Ready w) ws) (λ w. Ready w × Oldest w ws)
