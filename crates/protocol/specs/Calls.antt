-- Calls, what they answer, and what they leave.
use Rattle.std.specs.Prelude.{◌≡◌, ℕ, suc, Bool, true, false, not, ◌&&◌, List, [], ◌∷◌, Some, None, Ok, Err, Option, Result, nat_le, nat_lt, if◌then◌else◌}
use Rattle.mempool.specs.Calls.{Drained, Fresh, Submitted}
use Rattle.mempool.specs.declared.refusal.Refusal.{Refusal}
use Rattle.protocol.specs.Parties.{enter, turns}
use Rattle.protocol.specs.State.{Vacant, Transaction, Open, Key, Refund, Run, State, idle, running, last_tick}
use Rattle.protocol.specs.Stocks.{Stock, entered}
use Rattle.protocol.specs.Tables.{count_below}
use Rattle.protocol.specs.Verdicts.{handle}
use Rattle.std.specs.List.{All}
use Rattle.swap.specs.Assets.{asset_on}
use Rattle.swap.specs.Limits.{outsider_lines}
use Rattle.swap.specs.Routes as routes
use Rattle.swap.specs.Swaps.{Swap, Sound}
use Rattle.swap.specs.declared.faults.Fault.{Fault}
use Rattle.swap.specs.declared.faults.Reason.TheVariants.{SwapHeld, NotRunning, NotOutsider, JournalFull, BadRequest}
use Rattle.swap.specs.declared.records.Waiting.{Waiting}

-- Taking a file, of which we see what it means: a swap, or why it is refused. Filing. Ticking.
pub data Call : Type 0 where
  load : Result Swap Fault → Call
  submit : ℕ → Transaction → Call
  tick' : Call

abbrev pub Answer : Type 0
Answer = Result ℕ Fault

abbrev pub all_parties : ℕ → List ℕ → Bool
all_parties n [] = true
all_parties n (x ∷ r) = nat_lt x n && all_parties n r

-- the leg exists, the asset is in its ledger's range, and the key's parties are a route
abbrev pub proper : Swap → Transaction → Bool
proper p (Open i asset locks) = nat_lt i p.legs && asset_on (p.ledger i) asset
proper p (Key i route) = nat_lt i p.legs && routes.proper route && all_parties p.parties route
proper p (Refund i) = nat_lt i p.legs

-- how many lines of the journal are outsiders'
abbrev pub outsiders : Swap → Run → ℕ
outsiders p r = count_below r.count (λ n. p.outsider (r.line n).filer)

abbrev pub over : Swap → Run → Bool
over p r = nat_le (last_tick p) r.tick

-- The clock goes on by one.
abbrev pub ticked : Run → Run
ticked r = record {
  tick = suc r.tick;
  escrow = r.escrow;
  signed = r.signed;
  begun = r.begun;
  count = r.count;
  line = r.line;
  verdict = r.verdict;
  delivered = r.delivered;
  stock = r.stock;
}

-- The books have the holdings and nothing else, and nothing is filed.
abbrev pub fresh : Swap → Run
fresh p = record {
  tick = 0;
  escrow = λ _. record { phase = Vacant; asset = 0; locks = λ _. false; opened = λ _. None; changed = 0 };
  signed = λ _ _. None;
  begun = λ _. false;
  count = 0;
  line = λ _. record { transaction = Refund 0; filer = 0; filed = 0 };
  verdict = λ _. 0;
  delivered = λ _. 0;
  stock = entered p p.holdings;
}

abbrev pub refuse : Bool → Fault → Option Fault → Option Fault
refuse test fault further = if test then Some fault else further

-- why a call is refused: the first reason that applies
abbrev pub refusal : State → Call → Option Fault
refusal (idle stock waiting) (load (Ok p)) = None
refusal (idle stock waiting) (load (Err fault)) = Some fault
refusal (idle stock waiting) (submit v x) = Some (record { reason = NotRunning; place = 0 })
refusal (idle stock waiting) tick' = Some (record { reason = NotRunning; place = 0 })
refusal (running p r waiting) (load file) = Some (record { reason = SwapHeld; place = 0 })
refusal (running p r waiting) (submit v x) =
    refuse (over p r) (record { reason = NotRunning; place = r.tick })
    (refuse (not (p.outsider v)) (record { reason = NotOutsider; place = r.tick })
    (refuse (nat_le outsider_lines (outsiders p r)) (record { reason = JournalFull; place = r.tick })
    (refuse (not (proper p x)) (record { reason = BadRequest; place = r.tick }) None)))
refusal (running p r waiting) tick' = refuse (over p r) (record { reason = NotRunning; place = r.tick }) None

-- line n as it waits
abbrev pub waiting_line : Run → ℕ → Waiting
waiting_line r n = record { number = n; filer = (r.line n).filer; tick = (r.line n).filed }

-- The lines from n up to m were submitted, one by one, to the mempool, and it answered.
pub data Added (r : Run) (n : ℕ) : ℕ → List Waiting → List Waiting → Type 0 where
  nothing : {ws : List Waiting} → Added r n n ws ws
  added : {m : ℕ} {ws before after : List Waiting} → Added r n m ws before
      → (answer : Result (Unit {0}) Refusal) → Submitted (waiting_line r m) answer before after → Added r n (suc m) ws after

-- transactions, judged one after another
abbrev pub handled : Swap → List Waiting → Run → Run
handled p [] r = r
handled p (w ∷ ws) r = handled p ws (handle p w.number r)

-- A tick, from run r to s: the clock goes on; the mempool hands out transactions, until none that is left has waited Δ ticks;
-- they are judged in the order in which they are handed out; then the conforming parties file by number.
pub record Ticked (p : Swap) (r : Run) (ws : List Waiting) (s : Run) (after : List Waiting) : Type 0 where
  pub handed : List Waiting
  pub left : List Waiting
  pub drained : Drained handed ws left
  pub fresh : All (Fresh (suc r.tick) p.delta) left
  pub filed : s ≡ turns p (handled p handed (ticked r))
  pub waits : Added s r.count s.count left after

-- A swap is taken up: the books are cleared and hold the plan's holdings, and the conforming parties file for tick 0.
pub record TakenUp (p : Swap) (s : Run) (after : List Waiting) : Type 0 where
  pub sound : Sound p
  pub filed : s ≡ turns p (fresh p)
  pub waits : Added s 0 s.count [] after

-- what a call that is not refused answers and leaves
abbrev pub Effect : State → Call → Answer → State → Type 0
Effect (idle stock ws) (load (Ok p)) a s =
    (run : Run) × (after : List Waiting) × TakenUp p run after × (a ≡ Ok 0) × (s ≡ running p run after)
Effect (idle stock ws) (load (Err fault)) a s = ⊥
Effect (idle stock ws) (submit v x) a s = ⊥
Effect (idle stock ws) tick' a s = ⊥
Effect (running p r ws) (load file) a s = ⊥
Effect (running p r ws) (submit v x) a s =
    (after : List Waiting) × Added (enter v x r) r.count (enter v x r).count ws after × (a ≡ Ok r.count)
    × (s ≡ running p (enter v x r) after)
Effect (running p r ws) tick' a s =
    (run : Run) × (after : List Waiting) × Ticked p r ws run after × (a ≡ Ok (suc r.tick)) × (s ≡ running p run after)

abbrev pub Settled : Option Fault → State → Call → Answer → State → Type 0
Settled (Some fault) s c a s' = (a ≡ Err fault) × (s' ≡ s)
Settled None s c a s' = Effect s c a s'

-- The answer of a call in a state, and the state after it. A refused call changes nothing.
abbrev pub Answered : State → Call → Answer → State → Type 0
Answered s c a s' = Settled (refusal s c) s c a s'

-- got from a run without a swap by calls
pub data Reached : State → Type 0 where
  new : (stock : Stock) (ws : List Waiting) → Reached (idle stock ws)
  after : {s s' : State} (c : Call) (a : Answer) → Reached s → Answered s c a s' → Reached s'

-- A list of calls with their answers; L holds of the states before and after each.
pub data History (L : State → State → Type 0) : State → List Call → List Answer → State → Type 0 where
  ended : {s : State} → History L s [] [] s
  called : {s s' s'' : State} {c : Call} {a : Answer} {cs : List Call} {as' : List Answer}
      → Answered s c a s' → L s s' → History L s' cs as' s'' → History L s (c ∷ cs) (a ∷ as') s''
