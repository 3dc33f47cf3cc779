-- What holds at every moment of a swap, between calls and while a tick hands out transactions.
use Rattle.std.proofs.Common.{◌≡◌, ℕ, ◌+◌, ◌<◌, ◌≤◌, Bool, true, false, cond, ◌&&◌, ◌||◌, eqb, ◌⊎◌, List, [], ◌∷◌, length, Some, None, Option, is_some}
use Rattle.protocol.specs.Calls.{outsiders}
use Rattle.protocol.specs.State.{Vacant, Held, Paid, Back, is_vacant, is_held, is_paid, Escrow, Transaction, Open, Key, Refund, leg_of, Run, conforming, stands, entering_stand, open_end, key_end, refund_tick}
use Rattle.protocol.specs.Steps.{purpose, HasLine, Entering, Leaving}
use Rattle.protocol.specs.Stocks.{Stock}
use Rattle.protocol.specs.Verdicts.{ends, pays, all_opened, pending}
use Rattle.swap.specs.Assets.{rules_of, worth, asset_on}
use Rattle.swap.specs.Limits.{outsider_lines, set_bits}
use Rattle.swap.specs.Routes.{mem}
use Rattle.swap.specs.Below.{sum_below}
use Rattle.swap.specs.Swaps.{Swap, start}
use Rattle.swap.specs.declared.records.Holder.TheVariants.{Party}
use Rattle.swap.specs.declared.records.Holder.TheVariants.{Escrow as Account}

abbrev pub Signed : Type 0
Signed = ℕ → ℕ → Option (List ℕ)

-- A joined route from x to a lock on which every conforming party has signed its suffix.
pub data Way (p : Swap) (σ : Signed) : ℕ → ℕ → List ℕ → Type 0 where
  one : {x : ℕ} → (conforming p x ≡ true → σ x x ≡ Some (x ∷ [])) → Way p σ x x (x ∷ [])
  more : {x y lock : ℕ} {r : List ℕ} → pays p x y ≡ true → mem x (y ∷ r) ≡ false → (conforming p x ≡ true → σ x lock ≡ Some (x ∷ (y ∷ r)))
      → Way p σ y lock (y ∷ r) → Way p σ x lock (x ∷ (y ∷ r))

-- what is so of escrows, signatures and the parties that have begun, at tick t
pub record Facts (p : Swap) (t : ℕ) (escrow : ℕ → Escrow) (σ : Signed) (begun : ℕ → Bool) : Type 0 where
  pub routes : (i lock : ℕ) (q : List ℕ) → i < p.legs → (escrow i).opened lock ≡ Some q → Way p σ (p.receiver i) lock q
  -- opened locks, and those of an escrow, are leaders'
  pub led : (i lock : ℕ) (q : List ℕ) → i < p.legs → (escrow i).opened lock ≡ Some q → p.leader lock ≡ true
  pub proper : (i lock : ℕ) → i < p.legs → is_vacant (escrow i).phase ≡ false → lock < set_bits → (escrow i).locks lock ≡ true
      → p.leader lock ≡ true
  pub ranged : (i : ℕ) → i < p.legs → is_vacant (escrow i).phase ≡ false → asset_on (p.ledger i) (escrow i).asset ≡ true
  pub shut : (i lock : ℕ) → i < p.legs → (escrow i).phase ≡ Vacant → (escrow i).opened lock ≡ None
  pub held : (i : ℕ) → i < p.legs → (escrow i).phase ≡ Held → all_opened (escrow i).locks (escrow i).opened ≡ false
  pub paid : (i : ℕ) → i < p.legs → (escrow i).phase ≡ Paid → all_opened (escrow i).locks (escrow i).opened ≡ true
  pub returned : (i : ℕ) → i < p.legs → (escrow i).phase ≡ Back → all_opened (escrow i).locks (escrow i).opened ≡ false
  pub planned : (i : ℕ) → i < p.legs → conforming p (p.payer i) ≡ true → is_vacant (escrow i).phase ≡ false
      → (stands p i (escrow i) ≡ true) × (begun (p.payer i) ≡ true)
  pub late : (i : ℕ) → i < p.legs → (escrow i).phase ≡ Back → refund_tick p < t
  pub signs : (v lock : ℕ) (q : List ℕ) → conforming p v ≡ true → σ v lock ≡ Some q → Way p σ v lock q × (entering_stand p escrow v ≡ true)
  pub signs_led : (v lock : ℕ) (q : List ℕ) → conforming p v ≡ true → σ v lock ≡ Some q → p.leader lock ≡ true
  pub followed : (v : ℕ) → conforming p v ≡ true → p.leader v ≡ false → begun v ≡ true → entering_stand p escrow v ≡ true
  -- whatever is still to be done is in time
  pub leading : (v : ℕ) → conforming p v ≡ true → p.leader v ≡ true → begun v ≡ false → t ≡ 0
  pub revealing : (v : ℕ) → conforming p v ≡ true → p.leader v ≡ true → entering_stand p escrow v ≡ true → σ v v ≡ None → t ≤ open_end p
  pub relaying : (v lock j : ℕ) (q : List ℕ) → conforming p v ≡ true → (lock ≡ v → ⊥) → entering_stand p escrow v ≡ true → Leaving p v j
      → (escrow j).opened lock ≡ Some q → σ v lock ≡ None → t ≤ key_end p (length q)

-- what is so of a conforming party's line with this filer, tick of filing and verdict
pub record OpenLine (p : Swap) (escrow : ℕ → Escrow) (begun : ℕ → Bool) (v f n i asset : ℕ) (locks : ℕ → Bool) : Type 0 where
  pub leaving : Leaving p v i
  pub planned : (asset ≡ p.asset i) × (locks ≡ p.leader)
  pub begins : begun v ≡ true
  pub first : p.leader v ≡ true → f ≡ 0
  pub intime : f + p.delta ≤ open_end p
  pub waits : n ≡ pending → (escrow i).phase ≡ Vacant
  pub took : (n ≡ pending → ⊥) → stands p i (escrow i) ≡ true

pub record KeyLine (p : Swap) (escrow : ℕ → Escrow) (σ : Signed) (v f n i : ℕ) (q : List ℕ) : Type 0 where
  pub entering : Entering p v i
  pub signs : σ v (ends q) ≡ Some q
  pub intime : f + p.delta ≤ key_end p (length q)
  pub took : (n ≡ pending → ⊥) → is_some ((escrow i).opened (ends q)) ≡ true

pub record RefundLine (p : Swap) (escrow : ℕ → Escrow) (v f n i : ℕ) : Type 0 where
  pub leaving : Leaving p v i
  pub due : f ≡ refund_tick p
  pub stays : is_vacant (escrow i).phase ≡ false
  pub took : (n ≡ pending → ⊥) → is_held (escrow i).phase ≡ false

abbrev pub LineFact : (p : Swap) (escrow : ℕ → Escrow) (σ : Signed) (begun : ℕ → Bool) (v f n : ℕ) → Transaction → Type 0
LineFact p escrow σ begun v f n (Open i asset locks) = OpenLine p escrow begun v f n i asset locks
LineFact p escrow σ begun v f n (Key i q) = KeyLine p escrow σ v f n i q
LineFact p escrow σ begun v f n (Refund i) = RefundLine p escrow v f n i

-- the leg exists, and an open's asset is in its ledger's range
abbrev pub Ranged : Swap → Transaction → Type 0
Ranged p (Open i asset locks) = asset_on (p.ledger i) asset ≡ true
Ranged p (Key i q) = Unit {0}
Ranged p (Refund i) = Unit {0}

abbrev pub Fair : Swap → Transaction → Type 0
Fair p x = (leg_of x < p.legs) × Ranged p x

pub record Lines (p : Swap) (r : Run) : Type 0 where
  pub fair : (n : ℕ) → n < r.count → Fair p (r.line n).transaction
  pub who : (n : ℕ) → n < r.count → conforming p (r.line n).filer ≡ false → p.outsider (r.line n).filer ≡ true
  pub before : (n : ℕ) → n < r.count → (r.line n).filed ≤ r.tick
  pub waits : (n : ℕ) → n < r.count → r.verdict n ≡ pending → r.tick ≤ (r.line n).filed + p.delta
  pub facts : (n : ℕ) → n < r.count → conforming p (r.line n).filer ≡ true
      → LineFact p r.escrow r.signed r.begun (r.line n).filer (r.line n).filed (r.verdict n) (r.line n).transaction
  pub once : (n m : ℕ) → n < r.count → m < r.count → conforming p (r.line n).filer ≡ true → (r.line n).filer ≡ (r.line m).filer
      → purpose (r.line n).transaction ≡ purpose (r.line m).transaction → n ≡ m

-- what a conforming party owes has been filed, or is still in time
pub record Duties (p : Swap) (r : Run) : Type 0 where
  pub opening : (v i : ℕ) → conforming p v ≡ true → r.begun v ≡ true → Leaving p v i
      → HasLine r v (Open i (p.asset i) p.leader) ⊎ ((r.tick + p.delta ≤ open_end p) × (p.leader v ≡ true → r.tick ≡ 0))
  -- a leg that a conforming party put up was opened by a line of its own
  pub raised : (i : ℕ) → i < p.legs → conforming p (p.payer i) ≡ true → is_vacant (r.escrow i).phase ≡ false
      → HasLine r (p.payer i) (Open i (p.asset i) p.leader)
  pub passing : (v lock i : ℕ) (q : List ℕ) → conforming p v ≡ true → r.signed v lock ≡ Some q → Entering p v i
      → HasLine r v (Key i q) ⊎ (r.tick + p.delta ≤ key_end p (length q))
  pub refunding : (v i : ℕ) → conforming p v ≡ true → Leaving p v i → (r.escrow i).phase ≡ Held → refund_tick p ≤ r.tick
      → HasLine r v (Refund i) ⊎ (r.tick ≡ refund_tick p)

-- what is in the books
abbrev pub gone : Swap → (ℕ → Escrow) → ℕ → ℕ → ℕ → ℕ → ℕ
gone p escrow v l u i =
    cond (eqb (p.payer i) v && eqb (p.ledger i) l && (is_held (escrow i).phase || is_paid (escrow i).phase))
    (worth (rules_of l) (escrow i).asset u) 0

abbrev pub come : Swap → (ℕ → Escrow) → ℕ → ℕ → ℕ → ℕ → ℕ
come p escrow v l u i =
    cond (eqb (p.receiver i) v && eqb (p.ledger i) l && is_paid (escrow i).phase) (worth (rules_of l) (escrow i).asset u) 0

pub record Books (p : Swap) (escrow : ℕ → Escrow) (stock : Stock) : Type 0 where
  pub parties : (v l u : ℕ) → stock l (Party v) u + sum_below p.legs (gone p escrow v l u) ≡ start p v l u + sum_below p.legs
      (come p escrow v l u)
  pub accounts : (i l u : ℕ) → i < p.legs
      → stock l (Account i) u ≡ cond (eqb (p.ledger i) l && is_held (escrow i).phase) (worth (rules_of l) (escrow i).asset u) 0

pub record Inv (p : Swap) (r : Run) : Type 0 where
  pub facts : Facts p r.tick r.escrow r.signed r.begun
  pub lines : Lines p r
  pub duties : Duties p r
  pub books : Books p r.escrow r.stock
  pub few : outsiders p r ≤ outsider_lines
