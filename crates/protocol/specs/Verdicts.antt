-- What becomes of a transaction when it is delivered.
use Rattle.std.specs.Prelude.{ℕ, Bool, true, false, not, ◌&&◌, ◌||◌, List, [], ◌∷◌, length, Some, None, Option, ◌==◌, nat_le, nat_lt, is_some, if◌then◌else◌}
use Rattle.protocol.specs.State.{Held, Paid, Back, is_vacant, is_held, is_paid, Escrow, Transaction, Open, Key, Refund, leg_of, Line, Run, conforming, open_end, key_end, refund_tick}
use Rattle.protocol.specs.Stocks.{Stock, refuses, deposit, release}
use Rattle.protocol.specs.Tables.{put, same_list}
use Rattle.swap.specs.Below.{all_below, some_below}
use Rattle.swap.specs.Routes.{mem}
-- the last party of a route: its lock is the one that the key opens
pub use Rattle.swap.specs.Routes.{last_party as ends}
use Rattle.swap.specs.Swaps.{Swap}
use Rattle.swap.specs.Limits.{set_bits}

-- The first test that holds tells its number; 0 if none does.
unfoldable pub first_failed : List (Bool × ℕ) → ℕ
first_failed [] = 0
first_failed (x ∷ xs) = if x.0 then x.1 else first_failed xs

-- the verdict of a line that waits
abbrev pub pending : ℕ
pending = 255

abbrev pub begins : ℕ → List ℕ → Bool
begins x [] = false
begins x (y ∷ r) = x == y

abbrev pub is_route : Option (List ℕ) → List ℕ → Bool
is_route None r = false
is_route (Some q) r = same_list q r

-- every lock of the set is opened
unfoldable pub all_opened : (ℕ → Bool) → (ℕ → Option (List ℕ)) → Bool
all_opened locks opened = all_below set_bits (λ q. not (locks q) || is_some (opened q))

module _ (p : Swap) where
  unfoldable pub pays : ℕ → ℕ → Bool
  pays x y = some_below p.legs (λ i. (p.payer i == x) && p.receiver i == y)

  abbrev pub joined : List ℕ → Bool
  joined [] = false
  joined (x ∷ []) = true
  joined (x ∷ (y ∷ r)) = pays x y && not (mem x (y ∷ r)) && joined (y ∷ r)

  -- every conforming party on the route has signed the suffix that begins with it
  abbrev pub suffixes_signed : (ℕ → ℕ → Option (List ℕ)) → ℕ → List ℕ → Bool
  suffixes_signed signed lock [] = true
  suffixes_signed signed lock (x ∷ r) = (not (conforming p x) || is_route (signed x lock) (x ∷ r)) && suffixes_signed signed lock r

  -- locks are leaders, and there is one
  unfoldable pub proper_locks : (ℕ → Bool) → Bool
  proper_locks locks = some_below set_bits locks && all_below set_bits (λ q. not (locks q) || p.leader q)

  -- what speaks against a transaction at tick t, in the order in which it is told
  abbrev pub tests : ℕ → (ℕ → ℕ → Option (List ℕ)) → Stock → ℕ → Transaction → Escrow → List (Bool × ℕ)
  tests t signed stock filer (Open i asset locks) e =
      (not (filer == p.payer i), 17)
      ∷ (not (is_vacant e.phase), 18)
      ∷ (nat_lt (open_end p) t, 19)
      ∷ (not (proper_locks locks), 20)
      ∷ (refuses (p.ledger i) (p.payer i) i asset stock, 21)
      ∷ []
  tests t signed stock filer (Key i route) e =
      (not (filer == p.receiver i && begins (p.receiver i) route), 22)
      ∷ (not (is_held e.phase), 23)
      ∷ (not (e.locks (ends route)), 24)
      ∷ (is_some (e.opened (ends route)), 25)
      ∷ (not (joined route), 26)
      ∷ (nat_lt (key_end p (length route)) t, 27)
      ∷ (not (suffixes_signed signed (ends route) route), 28)
      ∷ []
  tests t signed stock filer (Refund i) e =
      (not (filer == p.payer i), 29)
      ∷ (not (is_held e.phase), 30)
      ∷ (nat_le t (refund_tick p), 31)
      ∷ []

  -- the verdict on what was filed in a line, if it is delivered now
  unfoldable pub judged : Run → Line → ℕ
  judged r l = first_failed (tests r.tick r.signed r.stock l.filer l.transaction (r.escrow (leg_of l.transaction)))

  -- An open puts up the asset with all locks shut; a key opens the lock of its last party,
  -- and the last shut lock makes the leg paid; a refund makes it back.
  abbrev pub altered : ℕ → Transaction → Escrow → Escrow
  altered t (Open i asset locks) e = record { phase = Held; asset = asset; locks = locks; opened = λ _. None; changed = t }
  altered t (Key i route) e =
      let opened : ℕ → Option (List ℕ) = put e.opened (ends route) (Some route) in
      let last : Bool = all_opened e.locks opened in
      record {
        phase = if last then Paid else e.phase;
        asset = e.asset;
        locks = e.locks;
        opened = opened;
        changed = if last then t else e.changed;
      }
  altered t (Refund i) e = record { phase = Back; asset = e.asset; locks = e.locks; opened = e.opened; changed = t }

  -- what an effect moves in the books; the escrow is seen after it
  abbrev pub moved : Transaction → Escrow → Stock → Stock
  moved (Open i asset locks) e stock = deposit (p.ledger i) (p.payer i) i asset stock
  moved (Key i route) e stock = if is_paid e.phase then release (p.ledger i) i (p.receiver i) stock else stock
  moved (Refund i) e stock = release (p.ledger i) i (p.payer i) stock

  -- the escrows and the stock after an effect
  abbrev pub Assets : Type 0
  Assets = (ℕ → Escrow) × Stock

  abbrev pub effect : ℕ → Transaction → Assets → Assets
  effect t x a =
      let e : Escrow = altered t x (a.0 (leg_of x)) in
      (put a.0 (leg_of x) e, moved x e a.1)

  -- line n is delivered, with verdict v and with these escrows and stock after it
  abbrev pub recorded : Run → ℕ → ℕ → Assets → Run
  recorded r n v a = record {
    tick = r.tick;
    escrow = a.0;
    signed = r.signed;
    begun = r.begun;
    count = r.count;
    line = r.line;
    verdict = put r.verdict n v;
    delivered = put r.delivered n r.tick;
    stock = a.1;
  }

  unfoldable pub deliver : ℕ → Run → Run
  deliver n r =
      let v : ℕ = judged r (r.line n) in
      recorded r n v (if v == 0 then (effect r.tick (r.line n).transaction (r.escrow, r.stock)) else (r.escrow, r.stock))

  -- A number that is no waiting line is passed over. (It is shown that none such is handed out.)
  unfoldable pub handle : ℕ → Run → Run
  handle n r = if nat_lt n r.count && r.verdict n == pending then deliver n r else r
