-- Runs that compute: with delivery at once, or as late as may be.
use Rattle.std.specs.Prelude.{◌≡◌, ℕ, zero, suc, ◌+◌, List, [], ◌∷◌, nat_le, if◌then◌else◌}
use Rattle.protocol.specs.Calls.{fresh, ticked, Reached}
use Rattle.protocol.specs.Parties.{enter, turns}
use Rattle.protocol.specs.State.{Phase, Transaction, Run, running}
use Rattle.protocol.specs.Tables.{each}
use Rattle.protocol.specs.Verdicts.{handle}
use Rattle.std.specs.List.{All}
use Rattle.swap.specs.Swaps.{Swap}
use Rattle.swap.specs.declared.records.Waiting.{Waiting}

-- which waiting lines are handed out in a tick, oldest first: all, or those that have waited Δ ticks
pub data Delivery : Type 0 where
  prompt slow : Delivery

abbrev pub hands : Delivery → Swap → ℕ → Run → Run
hands prompt p n r = handle p n r
hands slow p n r = if nat_le ((r.line n).filed + p.delta) r.tick then handle p n r else r

unfoldable pub tick_by : Delivery → Swap → Run → Run
tick_by delivery p r = turns p (each r.count (hands delivery p) (ticked r))

unfoldable pub ticks_by : ℕ → Delivery → Swap → Run → Run
ticks_by zero delivery p r = r
ticks_by (suc n) delivery p r = tick_by delivery p (ticks_by n delivery p r)

-- what is filed, each after so many ticks
unfoldable pub filings : Delivery → Swap → List (ℕ × ℕ × Transaction) → Run → Run
filings delivery p [] r = r
filings delivery p (f ∷ fs) r = filings delivery p fs (enter f.1 f.2 (ticks_by f.0 delivery p r))

-- A run: how it is delivered, what outsiders file, and the ticks after the last filing. Its results: the verdict of each line
-- that is asked for, and the phase of each leg and the tick of its last change.
pub record Example : Type 0 where
  pub delivery : Delivery
  pub swap : Swap
  pub filed : List (ℕ × ℕ × Transaction)
  pub ticks : ℕ
  pub lines : List (ℕ × ℕ)
  pub legs : List (ℕ × Phase × ℕ)

unfoldable pub ends : Example → Run
ends e = ticks_by e.ticks e.delivery e.swap (filings e.delivery e.swap e.filed (turns e.swap (fresh e.swap)))

-- calls lead to the run, and its results are as told
abbrev pub Comes : Example → Type 0
Comes e = ((ws : List Waiting) × Reached (running e.swap (ends e) ws))
    × All (λ l. (ends e).verdict l.0 ≡ l.1) e.lines
    × All (λ l. (((ends e).escrow l.0).phase ≡ l.1) × (((ends e).escrow l.0).changed ≡ l.2)) e.legs
