-- The books never refuse an accepted plan's holdings.
use Rattle.std.proofs.Common.{◌≡◌, ℕ, suc, ◌+◌, ◌<◌, ◌≤◌, Bool, cond, ◌&&◌, eqb, sym, refl, ap, ◌∙◌, arith}
use Rattle.ledgers.proofs.LawsHold.{credit_ok}
use Rattle.ledgers.specs.Stocks.{total}
use Rattle.protocol.proofs.Books.{in_range, entered_party, entered_account, worth_unit}
use Rattle.protocol.specs.Law.{Holdings}
use Rattle.protocol.specs.Stocks.{entered}
use Rattle.std.proofs.lemmas.Bool.{cond-true, eq-eqb, ne_eqb}
use Rattle.swap.proofs.Sums.{sum_zero, sum_same, sum_front, sum_changed, sum_swap}
use Rattle.swap.specs.Assets.{rules_of, worth}
use Rattle.swap.specs.Limits.{max_parties, max_legs}
use Rattle.swap.specs.Below.{sum_below}
use Rattle.swap.specs.Swaps.{Swap, Sound}
use Rattle.swap.specs.declared.records.Holder.TheVariants.{Party, Escrow}

-- a holding is one party's
one_holder : (n party : ℕ) (b : Bool) (w : ℕ) → party < n → sum_below n (λ v. cond (eqb party v && b) w 0) ≡ cond b w 0
one_holder n party b w h =
    let c = sum_changed n (λ v. cond (eqb party v && b) w 0) (λ _. 0) party h
    (λ v _ ne. ap (λ t. cond (t && b) w 0) (ne_eqb party v (λ e. ne (sym e)))) in
    let z = sum_zero n (λ _. 0) (λ _ _. refl) in
    let e : cond (eqb party party && b) w 0 ≡ cond b w 0 = ap (λ t. cond (t && b) w 0) (eq-eqb party party refl) in
    omega arith

-- over variables, since the figures would unfold the sums
fits : (t sum add amount most : ℕ) → t ≡ sum → add ≡ amount → sum + add ≤ most → t + amount ≤ most
fits t sum add amount most a b c = omega arith

module _ (p : Swap) (sound : Sound p) where
  -- what the j_th holding adds to a unit of a ledger
  abbrev adds : ℕ → ℕ → ℕ → ℕ
  adds l u j = cond (eqb (p.held_on j) l) (worth (rules_of l) (p.held j) u) 0

  -- what all of n parties and m accounts have after k holdings
  entered_total : (n m k l u : ℕ) → p.parties ≤ n → k ≤ p.holdings
      → sum_below n (λ v. entered p k l (Party v) u) + sum_below m (λ i. entered p k l (Escrow i) u) ≡ sum_below k (adds l u)
  entered_total n m k l u parties first =
      let term : ℕ → ℕ → ℕ = λ v j. cond (eqb (p.holder j) v && eqb (p.held_on j) l) (worth (rules_of l) (p.held j) u) 0 in
      let each = sum_same n (λ v. entered p k l (Party v) u) (λ v. sum_below k (term v)) (λ v _. entered_party p v l u k) in
      let turned = sum_swap k n term in
      let ones = sum_same k (λ j. sum_below n (λ v. term v j)) (adds l u)
      (λ j b. let h = (sound.holders j (omega arith)).0 in one_holder n (p.holder j) (eqb (p.held_on j) l) (worth (rules_of l) (p.held j) u)
      (omega arith)) in
      let none = sum_zero m (λ i. entered p k l (Escrow i) u) (λ i _. entered_account p i l u k) in
      omega arith

  -- with each holding more, no ceiling is passed
  below : (k l u : ℕ) → k < p.holdings → sum_below p.holdings (adds l u) ≤ (rules_of l).ceiling
      → sum_below k (adds l u) + adds l u k ≤ (rules_of l).ceiling
  below k l u h most = let t = sum_front (suc k) p.holdings (adds l u) h in omega arith

pub holdings : Holdings
holdings p sound k h =
    let l : ℕ = p.held_on k in
    let a : ℕ = p.held k in
    let u : ℕ = (rules_of l).unit a in
    let range = sound.holders k h in
    credit_ok (rules_of l) (p.holder k) a (entered p k l) (in_range (p.holder k) p.parties max_parties range.0 sound.most)
    range.2
    (fits (total (entered p k l) u) (sum_below k (adds p sound l u)) (adds p sound l u k) ((rules_of l).amount a) (rules_of l).ceiling
    (entered_total p sound max_parties max_legs k l u sound.most (omega arith))
    (cond-true (eqb l l) (worth (rules_of l) a u) 0 (eq-eqb l l refl) ∙ worth_unit (rules_of l) a)
    (below p sound k l u h (sound.fits l u range.1)))
