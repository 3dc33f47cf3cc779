-- What is proved of the protocol.
use Rattle.std.specs.Prelude.{◌≡◌, ℕ, ◌<◌, ◌≤◌, Bool, List, [], map, length, Some, None, Ok, Err, IsTrue, IsFalse}
use Rattle.ledgers.specs.Calls.{credit_verdict, release_verdict}
use Rattle.protocol.specs.Calls.{fresh, Call, load, submit, tick', Answer, Added, nothing, added, Ticked, TakenUp, refusal, Answered, Reached, History}
use Rattle.protocol.specs.Parties.{enter}
use Rattle.protocol.specs.Promises.{Promises, Final}
use Rattle.protocol.specs.State.{Held, Escrow, Transaction, Open, Run, State, running, conforming, stands, entering_stand, idle}
use Rattle.protocol.specs.Steps.{Entering, Leaving, Rested, Steps}
use Rattle.protocol.specs.Stocks.{entered}
use Rattle.protocol.specs.Verdicts.{joined, proper_locks, judged, pending}
use Rattle.std.specs.List.{All}
use Rattle.swap.specs.Assets.{rules_of}
use Rattle.swap.specs.Limits.{max_lines, max_parties, set_bits}
use Rattle.swap.specs.Routes.{mem, distinct, Joined}
use Rattle.swap.specs.Sets.{Exactly}
use Rattle.swap.specs.Swaps.{Swap, Sound, Pays, start}
use Rattle.swap.specs.declared.records.Holder.TheVariants.{Party}
use Rattle.swap.specs.declared.records.Waiting.{Waiting}

-- After every call the promises hold: for any cheats, any order of delivery, any books of the stated meaning.
abbrev pub Law : Type 0
Law = (s : State) → Reached s → Promises s

-- of one call
abbrev pub Lawful : State → State → Type 0
Lawful s s' = Promises s' × Final s s'

-- In every list of calls the promises hold after each, and paid and back are final from its begin to its end.
abbrev pub Histories : Type 0
Histories = (s s' : State) (cs : List Call) (as' : List Answer) → Reached s → History (λ _ _. Unit {0}) s cs as' s'
    → History Lawful s cs as' s' × Reached s' × Final s s'

-- No call is left without an answer: taking a file, of which a swap that is read is sound, filing, ticking.
abbrev pub Legible : Call → Type 0
Legible (load (Ok p)) = Sound p
Legible (load (Err fault)) = Unit {0}
Legible (submit v x) = Unit {0}
Legible tick' = Unit {0}

abbrev pub Total : Type 0
Total = (s : State) → Reached s → (c : Call) → Legible c → (a : Answer) × (s' : State) × Answered s c a s'

-- A call has one answer, and but for a tick one effect; only the order in which transactions wait is open.
-- (A tick's effect follows from what is handed out, and in which order: see Ticked.)
abbrev pub Timeless : Call → Type 0
Timeless (load file) = Unit {0}
Timeless (submit v x) = Unit {0}
Timeless tick' = ⊥

-- a state but for what waits
abbrev pub bare : State → State
bare (idle stock ws) = idle stock []
bare (running p r ws) = running p r []

abbrev pub Single : Type 0
Single = (s s' s'' : State) (c : Call) (a b : Answer) → Answered s c a s' → Answered s c b s'' → (a ≡ b) × (Timeless c → bare s' ≡ bare s'')

-- The tests of the rules say what they are named for.
pub record Tests (p : Swap) : Type 0 where
  pub routes : (r : List ℕ) → Exactly (joined p r) (Joined (Pays p) r)
  pub standing : (escrow : ℕ → Escrow) (v : ℕ)
      → Exactly (entering_stand p escrow v) ((i : ℕ) → Entering p v i → IsTrue (stands p i (escrow i)))
  pub locks : (locks : ℕ → Bool) → Exactly (proper_locks p locks)
      (((q : ℕ) × (q < set_bits) × IsTrue (locks q)) × ((q : ℕ) → q < set_bits → IsTrue (locks q) → IsTrue (p.leader q)))

-- The rules in their order are the relation: a run comes about by steps that are allowed, and after each call nothing is left undone.
pub record Ruled (p : Swap) (r : Run) (ws : List Waiting) : Type 0 where
  pub sound : Sound p
  pub allowed : Steps p (fresh p) r
  pub rested : Rested p r
  pub ticks : (s : Run) (after : List Waiting) → Ticked p r ws s after → Steps p r s × Rested p s

abbrev pub Rules : Type 0
Rules = (p : Swap) (r : Run) (ws : List Waiting) → Reached (running p r ws) → Ruled p r ws

-- When tick 0 is done, each party has its holdings.
abbrev pub Begins : Type 0
Begins =
    (p : Swap) (r : Run) (ws : List Waiting) → Reached (running p r ws) → r.tick ≡ 0 → (v l u : ℕ) → r.stock l (Party v) u ≡ start p v l u

-- What never happens, at any moment of a run.
pub record Never (p : Swap) (r : Run) : Type 0 where
  -- a conforming party never puts itself in front of a route that it is on, or that is full
  pub apart : (v lock j : ℕ) (q : List ℕ) → IsTrue (conforming p v) → Leaving p v j → (r.escrow j).opened lock ≡ Some q
      → r.signed v lock ≡ None
      → IsFalse (mem v q) × (length q < max_parties)
  -- an open by a conforming party is never refused
  pub taken : (n i asset : ℕ) (locks : ℕ → Bool) → n < r.count → r.verdict n ≡ pending → (r.line n).filed < r.tick
      → IsTrue (conforming p (r.line n).filer) → (r.line n).transaction ≡ Open i asset locks → judged p r (r.line n) ≡ 0
  -- a release never meets an empty account: the book accepts it, to whichever party it goes
  pub released : (i v : ℕ) → i < p.legs → v < p.parties → (r.escrow i).phase ≡ Held
      → release_verdict (rules_of (p.ledger i)) i v (r.stock (p.ledger i)) ≡ Ok tt
  -- the journal never overflows
  pub room : r.count ≤ max_lines

abbrev pub Nevers : Type 0
Nevers = (p : Swap) (r : Run) → Sound p → Steps p (fresh p) r → Never p r

-- What waits is what has no verdict: each once, with its filer and tick.
pub record Waits (r : Run) (ws : List Waiting) : Type 0 where
  pub known : All (λ w. (w.number < r.count) × (r.verdict w.number ≡ pending) × ((r.line w.number).filer ≡ w.filer)
      × ((r.line w.number).filed ≡ w.tick)) ws
  pub all : (n : ℕ) → n < r.count → r.verdict n ≡ pending → IsTrue (mem n (map (λ w. w.number) ws))
  pub apart : IsTrue (distinct (map (λ w. w.number) ws))
  pub few : length ws ≤ r.count

-- every line was accepted
abbrev pub NoneRefused : {r : Run} {n m : ℕ} {ws after : List Waiting} → Added r n m ws after → Type 0
NoneRefused nothing = Unit {0}
NoneRefused (added before answer _) = NoneRefused before × (answer ≡ Ok tt)

-- The mempool never refuses: neither when a swap is taken up, nor when an outsider files, nor in a tick.
pub record Pools : Type 0 where
  pub waits : (p : Swap) (r : Run) (ws : List Waiting) → Reached (running p r ws) → Waits r ws
  pub begun : (p : Swap) (s : Run) (after : List Waiting) → (t : TakenUp p s after) → NoneRefused t.waits
  pub filed : (p : Swap) (r : Run) (ws after : List Waiting) (v : ℕ) (x : Transaction) → Reached (running p r ws)
      → refusal (running p r ws) (submit v x) ≡ None → (a : Added (enter v x r) r.count (enter v x r).count ws after) → NoneRefused a
  pub ticked : (p : Swap) (r s : Run) (ws after : List Waiting) → Reached (running p r ws) → (t : Ticked p r ws s after)
      → NoneRefused t.waits

-- The books never refuse an accepted plan's holdings: entered one after another, each is accepted by the book of its ledger.
abbrev pub Holdings : Type 0
Holdings = (p : Swap) → Sound p → (k : ℕ) → k < p.holdings
    → credit_verdict (rules_of (p.held_on k)) (p.holder k) (p.held k) (entered p k (p.held_on k)) ≡ Ok tt
