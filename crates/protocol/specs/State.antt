-- What is so while a swap runs.
use Rattle.std.specs.Prelude.{ℕ, Bool, true, false, not, ◌&&◌, List, Option, ◌==◌, nat_lt, if◌then◌else◌}
use Rattle.protocol.specs.Stocks.{Stock}
use Rattle.protocol.specs.Tables.{same_bool}
use Rattle.swap.specs.Below.{all_below}
use Rattle.swap.specs.Swaps.{Swap}
pub use Rattle.swap.specs.Ticks.{open_end, key_end, refund_tick, last_tick}
use Rattle.swap.specs.declared.records.Waiting.{Waiting}
use Rattle.swap.specs.Limits.{set_bits}

-- An escrow is none (Vacant), open (Held), paid or back.
pub data Phase : Type 0 where
  Vacant Held Paid Back : Phase

abbrev pub is_vacant : Phase → Bool
is_vacant Vacant = true
is_vacant Held = false
is_vacant Paid = false
is_vacant Back = false

abbrev pub is_held : Phase → Bool
is_held Vacant = false
is_held Held = true
is_held Paid = false
is_held Back = false

abbrev pub is_paid : Phase → Bool
is_paid Vacant = false
is_paid Held = false
is_paid Paid = true
is_paid Back = false

abbrev pub is_back : Phase → Bool
is_back Vacant = false
is_back Held = false
is_back Paid = false
is_back Back = true

-- One escrow: its asset and locks, for each opened lock the route that opened it, and the tick of its last change of phase.
pub record Escrow : Type 0 where
  pub phase : Phase
  pub asset : ℕ
  pub locks : ℕ → Bool
  pub opened : ℕ → Option (List ℕ)
  pub changed : ℕ

-- What can be filed: an open (leg, asset, locks), a key (leg, route), a refund (leg).
pub data Transaction : Type 0 where
  Open : ℕ → ℕ → (ℕ → Bool) → Transaction
  Key : ℕ → List ℕ → Transaction
  Refund : ℕ → Transaction

abbrev pub leg_of : Transaction → ℕ
leg_of (Open leg asset locks) = leg
leg_of (Key leg route) = leg
leg_of (Refund leg) = leg

-- A line of the journal: what was filed, by whom, at which tick.
pub record Line : Type 0 where
  pub transaction : Transaction
  pub filer : ℕ
  pub filed : ℕ

-- A swap under way. Journal lines are numbered from 0; the verdict of a line is 255 while it waits, 0 if it took effect.
pub record Run : Type 0 where
  pub tick : ℕ
  -- by leg
  pub escrow : ℕ → Escrow
  -- by party and lock: the one route that the party has signed
  pub signed : ℕ → ℕ → Option (List ℕ)
  -- which parties have filed their opens
  pub begun : ℕ → Bool
  pub count : ℕ
  pub line : ℕ → Line
  pub verdict : ℕ → ℕ
  -- the tick of delivery, 0 before it
  pub delivered : ℕ → ℕ
  pub stock : Stock

-- A run without a swap, or with one; what waits for delivery stands beside.
pub data State : Type 0 where
  idle : Stock → List Waiting → State
  running : Swap → Run → List Waiting → State

module _ (p : Swap) where
  -- a party that keeps to the rules
  abbrev pub conforming : ℕ → Bool
  conforming v = nat_lt v p.parties && not (p.outsider v)

  -- the locks are all leaders
  unfoldable pub all_leaders : (ℕ → Bool) → Bool
  all_leaders locks = all_below set_bits (λ q. same_bool (locks q) (p.leader q))

  -- opened with the plan's asset and with all leaders as locks, even if it has ended since
  abbrev pub stands : ℕ → Escrow → Bool
  stands i e = not (is_vacant e.phase) && e.asset == p.asset i && all_leaders e.locks

  -- all legs that v receives stand
  unfoldable pub entering_stand : (ℕ → Escrow) → ℕ → Bool
  entering_stand escrow v = all_below p.legs (λ i. if p.receiver i == v then stands i (escrow i) else true)
