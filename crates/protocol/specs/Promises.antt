-- What holds after every call.
use Rattle.std.specs.Prelude.{◌≡◌, ℕ, ◌-◌, ◌<◌, ◌≤◌, Bool, not, ◌&&◌, ◌||◌, ◌==◌, if◌then◌else◌, IsTrue}
use Rattle.protocol.specs.State.{is_vacant, is_paid, is_back, Escrow, Run, State, idle, running, conforming, stands, refund_tick, last_tick}
use Rattle.swap.specs.Assets.{rules_of, worth}
use Rattle.swap.specs.Below.{sum_below}
use Rattle.swap.specs.Swaps.{Swap, start}
use Rattle.swap.specs.declared.records.Holder.TheVariants.{Party}

module _ (p : Swap) where
  -- the leg stands and is paid
  abbrev pub paid_in_full : ℕ → Escrow → Bool
  paid_in_full i e = stands p i e && is_paid e.phase

  -- an open of the leg took effect
  abbrev pub put_up : Escrow → Bool
  put_up e = not (is_vacant e.phase)

  -- what the legs that party v paid have of a unit on a ledger
  abbrev pub spent : (ℕ → Escrow) → ℕ → ℕ → ℕ → ℕ
  spent escrow v l u =
      sum_below p.legs
      (λ i. if p.payer i == v && p.ledger i == l && is_paid (escrow i).phase then worth (rules_of l) (escrow i).asset u else 0)

  -- by how much a party's stock has fallen since tick 0, when it had its holdings
  abbrev pub fallen : Run → ℕ → ℕ → ℕ → ℕ
  fallen r v l u = start p v l u - r.stock l (Party v) u

  pub record Kept (r : Run) : Type 0 where
    -- if every party conforms, each leg is paid in full once tick 2·W·Δ is done
    pub complete : ((v : ℕ) → v < p.parties → IsTrue (conforming p v)) → refund_tick p ≤ r.tick
        → (i : ℕ) → i < p.legs → IsTrue (paid_in_full i (r.escrow i))
    -- from then on a conforming party that paid any leg has been paid in full on every leg due to it
    pub atomic : (v : ℕ) → IsTrue (conforming p v) → refund_tick p ≤ r.tick
        → (j : ℕ) → j < p.legs → p.payer j ≡ v → IsTrue (is_paid (r.escrow j).phase)
        → (i : ℕ) → i < p.legs → p.receiver i ≡ v → IsTrue (paid_in_full i (r.escrow i))
    -- once tick (2·W+1)·Δ is done, each leg that a conforming party put up is paid or back
    pub ended : (v : ℕ) → IsTrue (conforming p v) → last_tick p ≤ r.tick
        → (i : ℕ) → i < p.legs → p.payer i ≡ v → IsTrue (put_up (r.escrow i))
        → IsTrue (is_paid (r.escrow i).phase || is_back (r.escrow i).phase)
    -- and its stock has fallen by no more than the legs it paid
    pub safe : (v : ℕ) → IsTrue (conforming p v) → last_tick p ≤ r.tick
        → (l u : ℕ) → fallen r v l u ≤ spent r.escrow v l u

abbrev pub Promises : State → Type 0
Promises (idle stock ws) = Unit {0}
Promises (running p r ws) = Kept p r

-- The swap stays, and paid and back are final.
abbrev pub Final : State → State → Type 0
Final (idle stock ws) s = Unit {0}
Final (running p r ws) (idle stock vs) = ⊥
Final (running p r ws) (running q s vs) = (q ≡ p)
    × ((i : ℕ) → IsTrue (is_paid (r.escrow i).phase) → IsTrue (is_paid (s.escrow i).phase))
    × ((i : ℕ) → IsTrue (is_back (r.escrow i).phase) → IsTrue (is_back (s.escrow i).phase))
