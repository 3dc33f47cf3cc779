-- The rules as a relation: the small steps that may be taken, in any order, and what must be done before the clock moves.
use Rattle.std.specs.Prelude.{◌≡◌, ℕ, ◌+◌, ◌<◌, ◌≤◌, Bool, true, false, List, [], ◌∷◌, Some, None, ◌≢◌, IsTrue, IsFalse}
use Rattle.protocol.specs.Parties.{file, begin, sign}
use Rattle.protocol.specs.State.{Held, Transaction, Open, Key, Refund, Run, conforming, open_end, refund_tick, entering_stand}
use Rattle.protocol.specs.Verdicts.{ends, deliver, pending}
use Rattle.protocol.specs.Calls.{proper, outsiders, ticked}
use Rattle.swap.specs.Limits.{outsider_lines}
use Rattle.swap.specs.Swaps.{Swap}

-- What a conforming party files a line for: it has no two lines for one purpose.
pub data Purpose : Type 0 where
  opens : ℕ → Purpose
  keys : ℕ → ℕ → Purpose
  refunds : ℕ → Purpose

abbrev pub purpose : Transaction → Purpose
purpose (Open i asset locks) = opens i
purpose (Key i route) = keys i (ends route)
purpose (Refund i) = refunds i

-- party v has a line with this transaction
abbrev pub HasLine : Run → ℕ → Transaction → Type 0
HasLine r v x = (n : ℕ) × (n < r.count) × ((r.line n).filer ≡ v) × ((r.line n).transaction ≡ x)

abbrev pub NoLine : Run → ℕ → Transaction → Type 0
NoLine r v x = (n : ℕ) → n < r.count → (r.line n).filer ≡ v → purpose (r.line n).transaction ≢ purpose x

module _ (p : Swap) where
  abbrev pub Entering : ℕ → ℕ → Type 0
  Entering v i = (i < p.legs) × (p.receiver i ≡ v)

  abbrev pub Leaving : ℕ → ℕ → Type 0
  Leaving v i = (i < p.legs) × (p.payer i ≡ v)

  -- v may take up its opens: a leader at tick 0, another when all entering legs stand and a delivery is still in time
  abbrev pub MayBegin : Run → ℕ → Bool → Type 0
  MayBegin r v true = r.tick ≡ 0
  MayBegin r v false = IsTrue (entering_stand p r.escrow v) × (r.tick + p.delta ≤ open_end p)

  -- v may sign a route for a lock: itself alone for its own, and for another's
  -- itself in front of the route that the lowest leaving leg shows
  pub data MaySign (r : Run) (v : ℕ) : ℕ → List ℕ → Type 0 where
    own : IsTrue (p.leader v) → MaySign r v v (v ∷ [])
    other : {lock : ℕ} {route : List ℕ} → (lock ≢ v) → (j : ℕ) → Leaving v j → (r.escrow j).opened lock ≡ Some route
        → ((k : ℕ) → k < j → p.payer k ≡ v → (r.escrow k).opened lock ≡ None) → MaySign r v lock (v ∷ route)

  -- what v may file: the opens that it took up, what it signed, and at tick 2·W·Δ a refund of what is still open
  pub data MayFile (r : Run) (v : ℕ) : Transaction → Type 0 where
    open' : {i : ℕ} → Leaving v i → IsTrue (r.begun v) → MayFile r v (Open i (p.asset i) p.leader)
    key : {i : ℕ} {route : List ℕ} → Entering v i → r.signed v (ends route) ≡ Some route → MayFile r v (Key i route)
    refund : {i : ℕ} → Leaving v i → r.tick ≡ refund_tick p → (r.escrow i).phase ≡ Held → MayFile r v (Refund i)

  -- what party v has done before the clock moves
  pub record Done (r : Run) (v : ℕ) : Type 0 where
    pub leads : IsTrue (p.leader v) → IsTrue (r.begun v)
    pub follows : IsFalse (p.leader v) → IsFalse (r.begun v) → IsTrue (entering_stand p r.escrow v) → r.tick + p.delta ≤ open_end p → ⊥
    pub opened : (i : ℕ) → Leaving v i → IsTrue (r.begun v) → HasLine r v (Open i (p.asset i) p.leader)
    pub reveals : IsTrue (p.leader v) → IsTrue (entering_stand p r.escrow v) → r.signed v v ≢ None
    pub relays : (lock j : ℕ) (route : List ℕ) → (lock ≢ v) → IsTrue (entering_stand p r.escrow v) → Leaving v j
        → (r.escrow j).opened lock ≡ Some route → r.signed v lock ≢ None
    pub passed : (lock i : ℕ) (route : List ℕ) → Entering v i → r.signed v lock ≡ Some route → HasLine r v (Key i route)
    pub refunds : (i : ℕ) → Leaving v i → r.tick ≡ refund_tick p → (r.escrow i).phase ≡ Held → HasLine r v (Refund i)

  -- The tick is done: nothing waits Δ ticks, and every conforming party has done its part.
  pub record Rested (r : Run) : Type 0 where
    pub fresh : (n : ℕ) → n < r.count → r.verdict n ≡ pending → r.tick < (r.line n).filed + p.delta
    pub done : (v : ℕ) → IsTrue (conforming p v) → Done r v

  -- one small step
  pub data Step : Run → Run → Type 0 where
    outside : (r : Run) (v : ℕ) (x : Transaction) → IsTrue (p.outsider v) → outsiders p r < outsider_lines → IsTrue (proper p x)
        → Step r (file v x r)
    begins : (r : Run) (v : ℕ) → IsTrue (conforming p v) → IsFalse (r.begun v) → MayBegin r v (p.leader v) → Step r (begin v r)
    signs : (r : Run) (v lock : ℕ) (route : List ℕ) → IsTrue (conforming p v) → IsTrue (entering_stand p r.escrow v)
        → r.signed v lock ≡ None
        → MaySign r v lock route → Step r (sign v lock route r)
    files : (r : Run) (v : ℕ) (x : Transaction) → IsTrue (conforming p v) → MayFile r v x → NoLine r v x → Step r (file v x r)
    delivers : (r : Run) (n : ℕ) → n < r.count → r.verdict n ≡ pending → (r.line n).filed < r.tick → Step r (deliver p n r)
    ticks : (r : Run) → Rested r → Step r (ticked r)

  pub data Steps : Run → Run → Type 0 where
    stop : (r : Run) → Steps r r
    then : {r s t : Run} → Steps r s → Step s t → Steps r t
