-- What a conforming party files in a tick, in its order.
use Rattle.std.specs.Prelude.{ℕ, suc, ◌+◌, Bool, true, not, ◌&&◌, List, [], ◌∷◌, Some, None, Option, ◌==◌, nat_le, nat_lt, is_some, if◌then◌else◌}
use Rattle.protocol.specs.State.{is_held, Escrow, Transaction, Open, Key, Refund, Line, Run, conforming, open_end, refund_tick, entering_stand}
use Rattle.protocol.specs.Tables.{put, each, lowest}
use Rattle.protocol.specs.Verdicts.{pending}
use Rattle.swap.specs.Limits.{max_lines}
use Rattle.swap.specs.Swaps.{Swap}

-- what v files now, as a line
abbrev pub as_line : ℕ → Transaction → Run → Line
as_line v x r = record { transaction = x; filer = v; filed = r.tick }

-- one more line in the journal
abbrev pub file : ℕ → Transaction → Run → Run
file v x r = record {
  tick = r.tick;
  escrow = r.escrow;
  signed = r.signed;
  begun = r.begun;
  count = suc r.count;
  line = put r.line r.count (as_line v x r);
  verdict = put r.verdict r.count pending;
  delivered = put r.delivered r.count 0;
  stock = r.stock;
}

-- A line is added if the journal has room. (It is shown that it always has.)
unfoldable pub enter : ℕ → Transaction → Run → Run
enter v x r = if nat_lt r.count max_lines then file v x r else r

abbrev pub begin : ℕ → Run → Run
begin v r = record {
  tick = r.tick;
  escrow = r.escrow;
  signed = r.signed;
  begun = put r.begun v true;
  count = r.count;
  line = r.line;
  verdict = r.verdict;
  delivered = r.delivered;
  stock = r.stock;
}

abbrev pub sign : ℕ → ℕ → List ℕ → Run → Run
sign v lock route r = record {
  tick = r.tick;
  escrow = r.escrow;
  signed = put r.signed v (put (r.signed v) lock (Some route));
  begun = r.begun;
  count = r.count;
  line = r.line;
  verdict = r.verdict;
  delivered = r.delivered;
  stock = r.stock;
}

module _ (p : Swap) (v : ℕ) where
  -- an open of each leaving leg, with the plan's asset and all leaders as locks
  unfoldable pub open_legs : Run → Run
  open_legs r = each p.legs (λ i s. if p.payer i == v then enter v (Open i (p.asset i) p.leader) s else s) (begin v r)

  -- a route signed for a lock, and filed on each entering leg
  unfoldable pub pass_key : ℕ → List ℕ → Run → Run
  pass_key lock route r = each p.legs (λ i s. if p.receiver i == v then enter v (Key i route) s else s) (sign v lock route r)

  -- a refund of each leaving leg that is open
  unfoldable pub refund_legs : Run → Run
  refund_legs r = each p.legs (λ i s. if p.payer i == v && is_held (s.escrow i).phase then enter v (Refund i) s else s) r

  -- the route from the lowest leaving leg that shows a lock open
  unfoldable pub shown : (ℕ → Escrow) → ℕ → Option (List ℕ)
  shown escrow lock = lowest p.legs (λ i. if p.payer i == v then (escrow i).opened lock else None)

  -- 1, 2: once, a leader at tick 0, another when all entering legs stand and a delivery is still in time
  abbrev pub opens : Run → Bool
  opens r = not (r.begun v) && (if p.leader v then r.tick == 0 else entering_stand p r.escrow v && nat_le (r.tick + p.delta) (open_end p))

  -- 3: a leader whose entering legs all stand, and who has not signed for its own lock
  abbrev pub reveals : Run → Bool
  reveals r = p.leader v && entering_stand p r.escrow v && not (is_some (r.signed v v))

  -- 4: another's lock that v has not signed for, when all entering legs stand
  abbrev pub relays : ℕ → Run → Bool
  relays lock r = not (lock == v) && not (is_some (r.signed v lock)) && entering_stand p r.escrow v

  abbrev pub relayed : ℕ → Option (List ℕ) → Run → Run
  relayed lock None r = r
  relayed lock (Some route) r = pass_key lock (v ∷ route) r

  unfoldable pub relay : ℕ → Run → Run
  relay lock r = if relays lock r then relayed lock (shown r.escrow lock) r else r

  -- 5: at tick 2·W·Δ
  abbrev pub refunds : Run → Bool
  refunds r = r.tick == refund_tick p

  unfoldable pub opening : Run → Run
  opening r = if opens r then open_legs r else r

  unfoldable pub revealing : Run → Run
  revealing r = if reveals r then pass_key v (v ∷ []) r else r

  unfoldable pub relaying : Run → Run
  relaying r = each p.parties relay r

  unfoldable pub refunding : Run → Run
  refunding r = if refunds r then refund_legs r else r

-- the rules of party v in their order, if it conforms
unfoldable pub turn : Swap → ℕ → Run → Run
turn p v r = if conforming p v then refunding p v (relaying p v (revealing p v (opening p v r))) else r

-- all parties by number
unfoldable pub turns : Swap → Run → Run
turns p r = each p.parties (turn p) r
