-- What coverage and the rules on holdings come to: each party holds what its legs pay, and no ledger is asked for more than it takes.
use Rattle.std.proofs.Common.{◌≡◌, ℕ, zero, suc, ◌<◌, ◌≤◌, Bool, true, false, cond, ◌&&◌, eqb, leb, ◌⊎◌, List, length, sym, refl, ap, ◌∙◌, subst, subst₂, inl, inr, ⊎_elim, le_trans, le_of_eq, arith}
use mathlib.Core.Path.{subst₃}
use Rattle.swap.proofs.Below.{some_in, none_in}
use Rattle.coverage.specs.Coverage.{covered, coins_held, coins_owed, coins_of, holds_title, is_title, names_title, names}
use Rattle.swap.proofs.Tests.{eqb_comm}
use Rattle.swap.proofs.Sums.{sum_zero, sum_le, sum_term, sum_swap, sum_most, sum_one}
use Rattle.std.proofs.lemmas.Bool.{cases_eq, eq-eqb, ne_eqb, eqb-true, cond-true, cond-false, and_parts, and_from, leb-true, not-true, both_ways}
use Rattle.swap.specs.Assets.{worth, title_rules, rules_if, rules_of, holds_coins, asset_on}
use Rattle.swap.specs.Limits.{max_parties, max_coins, coin_ceiling}
use Rattle.swap.specs.Below.{sum_below}
use Rattle.swap.specs.Swaps.{owed, start, total}
use Rattle.swap.specs.Views.{leg_at, holding_at, swap_of}
use Rattle.swap.specs.declared.records.Holding.{Holding}
use Rattle.swap.specs.declared.records.Leg.{Leg}
use Rattle.swap.specs.declared.records.Terms.{Terms}

-- both tests hold, or one fails
both : (x y : Bool) → ((x ≡ true) × (y ≡ true)) ⊎ ((x && y) ≡ false)
both true true = inl (refl, refl)
both true false = inr refl
both false y = inr refl

nothing : (t : Bool) → ◌≡◌ {A = ℕ} (cond t 0 0) 0
nothing true = refl
nothing false = refl

at_most_one : (x y : Bool) → cond x (cond y 1 0) 0 ≤ 1
at_most_one true true = omega arith
at_most_one true false = omega arith
at_most_one false y = omega arith

counted : (x y : Bool) → ((x ≡ true) × (y ≡ true)) ⊎ (◌≡◌ {A = ℕ} (cond x (cond y 1 0) 0) 0)
counted true true = inl (refl, refl)
counted true false = inr refl
counted false y = inr refl

nothing_kept : (x y : Bool) → y ≡ false → ◌≡◌ {A = ℕ} (cond x (cond y 1 0) 0) 0
nothing_kept true y e = ap {B = ℕ} (λ b. cond b 1 0) e
nothing_kept false y e = refl

all_kept : (x y z : Bool) → (x && (y && z)) ≡ true → 1 ≤ cond (x && y) (cond z 1 0) 0
all_kept true true true e = omega arith
all_kept true true false e = absurd (both_ways false refl e)
all_kept true false z e = absurd (both_ways false refl e)
all_kept false y z e = absurd (both_ways false refl e)

-- a title named before is not counted again
not_named : (x y z : Bool) → (y && z) ≡ false → ◌≡◌ {A = ℕ} (cond (x && y) (cond z 1 0) 0) 0
not_named true true z e = ap {B = ℕ} (λ b. cond b 1 0) e
not_named true false z e = refl
not_named false y z e = refl

module _ (holdings : List Holding) (legs : List Leg) (all : (i : ℕ) → i < length legs → covered holdings legs i ≡ true) where
  -- a leg on a coin ledger, at its own payer and ledger
  coins_at : (i : ℕ) → i < length legs → holds_coins (leg_at legs i).ledger ≡ true →
      coins_owed legs (suc i) (leg_at legs i).payer (leg_at legs i).ledger ≤ coins_held holdings (leg_at legs i).payer (leg_at legs i).ledger
  coins_at i h k =
      leb-true _ _ (sym (cond-true (holds_coins (leg_at legs i).ledger) _ _ k) ∙ all i h)

  coins_covered : (n p l : ℕ) → n ≤ length legs → holds_coins l ≡ true → coins_owed legs n p l ≤ coins_held holdings p l
  coins_covered zero p l h k = omega arith
  coins_covered (suc n) p l h k =
      ⊎_elim
      (λ m.
      let ep = eqb-true (leg_at legs n).payer p m.0 in
      let el = eqb-true (leg_at legs n).ledger l m.1 in
      subst₂ (λ q r. coins_owed legs (suc n) q r ≤ coins_held holdings q r) ep el (coins_at n h (ap holds_coins el ∙ k)))
      (λ m.
      let i = coins_covered n p l (omega arith) k in
      let z = cond-false (eqb (leg_at legs n).payer p && eqb (leg_at legs n).ledger l) (leg_at legs n).asset 0 m in
      omega arith)
      (both (eqb (leg_at legs n).payer p) (eqb (leg_at legs n).ledger l))

  -- what the first n legs of a party on a title ledger have of a unit, and what it holds
  titles_owed : ℕ → ℕ → ℕ → ℕ → ℕ
  titles_owed n p l u =
      sum_below n (λ i. cond (eqb (leg_at legs i).payer p && eqb (leg_at legs i).ledger l) (worth title_rules (leg_at legs i).asset u) 0)

  titles_held : ℕ → ℕ → ℕ → ℕ
  titles_held p l u =
      sum_below (length holdings)
      (λ k. cond (eqb (holding_at holdings k).party p && eqb (holding_at holdings k).ledger l) (worth title_rules (holding_at holdings k).asset u) 0)

  -- a title leg is held by its payer, and no earlier leg names it
  title_at : (i : ℕ) → i < length legs → holds_coins (leg_at legs i).ledger ≡ false →
      (holds_title holdings (leg_at legs i).payer (leg_at legs i).ledger (leg_at legs i).asset ≡ true)
      × (names_title legs i (leg_at legs i).ledger (leg_at legs i).asset ≡ false)
  title_at i h k =
      let e = sym (cond-false (holds_coins (leg_at legs i).ledger) _ _ k) ∙ all i h in
      let r = and_parts _ _ e in
      (r.0, not-true _ r.1)

  title_held : (p l u : ℕ) → holds_title holdings p l u ≡ true → 1 ≤ titles_held p l u
  unfolding titles_held
  title_held p l u e =
      let r = some_in (length holdings) (λ k. is_title (holding_at holdings k) p l u) e in
      let h = holding_at holdings r.0 in
      let t =
      subst (λ b. 1 ≤ cond (eqb h.party p && eqb h.ledger l) (cond b 1 0) 0) (eqb_comm h.asset u)
      (all_kept (eqb h.party p) (eqb h.ledger l) (eqb h.asset u) r.2) in
      let m =
      sum_term (length holdings)
      (λ k. cond (eqb (holding_at holdings k).party p && eqb (holding_at holdings k).ledger l) (worth title_rules (holding_at holdings k).asset u) 0)
      r.0 r.1 in
      omega arith

  title_here : (i : ℕ) → i < length legs → holds_coins (leg_at legs i).ledger ≡ false →
      titles_owed (suc i) (leg_at legs i).payer (leg_at legs i).ledger (leg_at legs i).asset
      ≤ titles_held (leg_at legs i).payer (leg_at legs i).ledger (leg_at legs i).asset
  unfolding titles_owed
  title_here i h k =
      let leg = leg_at legs i in
      let t = title_at i h k in
      let held = title_held leg.payer leg.ledger leg.asset t.0 in
      let f = λ (j : ℕ). cond (eqb (leg_at legs j).payer leg.payer && eqb (leg_at legs j).ledger leg.ledger) (worth title_rules (leg_at legs j).asset leg.asset) 0 in
      let z =
      sum_zero i f
      (λ j q.
      not_named (eqb (leg_at legs j).payer leg.payer) (eqb (leg_at legs j).ledger leg.ledger) (eqb leg.asset (leg_at legs j).asset)
      (ap (λ b. eqb (leg_at legs j).ledger leg.ledger && b) (eqb_comm leg.asset (leg_at legs j).asset)
      ∙ none_in i (λ j. names (leg_at legs j) leg.ledger leg.asset) t.1 j q)) in
      let one = at_most_one (eqb leg.payer leg.payer && eqb leg.ledger leg.ledger) (eqb leg.asset leg.asset) in
      omega arith

  titles_covered : (n p l u : ℕ) → n ≤ length legs → holds_coins l ≡ false → titles_owed n p l u ≤ titles_held p l u
  unfolding titles_owed titles_held
  titles_covered zero p l u h k = omega arith
  titles_covered (suc n) p l u h k =
      ⊎_elim
      (λ m.
      let ep = eqb-true (leg_at legs n).payer p m.0 in
      let el = eqb-true (leg_at legs n).ledger l m.1 in
      ⊎_elim
      (λ (eu : (leg_at legs n).asset ≡ u).
      subst₃ (λ q r v. titles_owed (suc n) q r v ≤ titles_held q r v) ep el eu (title_here n h (ap holds_coins el ∙ k)))
      (λ ne.
      let i = titles_covered n p l u (omega arith) k in
      let z =
      nothing_kept (eqb (leg_at legs n).payer p && eqb (leg_at legs n).ledger l) (eqb u (leg_at legs n).asset)
      (ne_eqb u (leg_at legs n).asset (λ e. ne (sym e))) in
      omega arith)
      (cases_eq (leg_at legs n).asset u))
      (λ m.
      let i = titles_covered n p l u (omega arith) k in
      let z = cond-false (eqb (leg_at legs n).payer p && eqb (leg_at legs n).ledger l) (worth title_rules (leg_at legs n).asset u) 0 m in
      omega arith)
      (both (eqb (leg_at legs n).payer p) (eqb (leg_at legs n).ledger l))

  -- each party holds what its legs pay, of any unit on any ledger
  pub legs_covered : (number : ℕ) (terms : Terms) (span p l u : ℕ) →
      owed (swap_of number terms holdings legs span) p l u ≤ start (swap_of number terms holdings legs span) p l u
  unfolding titles_owed titles_held
  legs_covered number terms span p l u = go (holds_coins l) refl
    where
      -- c: the unit is that of coins
      coins : (c : Bool) → holds_coins l ≡ true →
          sum_below (length legs) (λ i. cond (eqb (leg_at legs i).payer p && eqb (leg_at legs i).ledger l) (cond c (leg_at legs i).asset 0) 0)
          ≤ sum_below (length holdings)
          (λ k. cond (eqb (holding_at holdings k).party p && eqb (holding_at holdings k).ledger l) (cond c (holding_at holdings k).asset 0) 0)
      coins true e = coins_covered (length legs) p l (omega arith) e
      coins false e =
          let z = sum_zero (length legs) (λ i. cond (eqb (leg_at legs i).payer p && eqb (leg_at legs i).ledger l) 0 0) (λ i h. nothing _) in
          omega arith

      go : (b : Bool) → holds_coins l ≡ b →
          sum_below (length legs) (λ i. cond (eqb (leg_at legs i).payer p && eqb (leg_at legs i).ledger l) (worth (rules_if b) (leg_at legs i).asset u) 0)
          ≤ sum_below (length holdings)
          (λ k. cond (eqb (holding_at holdings k).party p && eqb (holding_at holdings k).ledger l) (worth (rules_if b) (holding_at holdings k).asset u) 0)
      go true e = coins (eqb u 0) e
      go false e = titles_covered (length legs) p l u (omega arith) e

-- The rules on holdings keep every ledger below its ceiling.
module _
    (holdings : List Holding)
    (few : (k : ℕ) → k < length holdings → (holding_at holdings k).party < max_parties)
    (ranged : (k : ℕ) → k < length holdings → asset_on (holding_at holdings k).ledger (holding_at holdings k).asset ≡ true)
    (coins_apart :
    (j k : ℕ) → j < k → k < length holdings → (holding_at holdings j).ledger ≡ (holding_at holdings k).ledger →
    holds_coins (holding_at holdings k).ledger ≡ true → (holding_at holdings j).party ≡ (holding_at holdings k).party → ⊥)
    (titles_apart :
    (j k : ℕ) → j < k → k < length holdings → (holding_at holdings j).ledger ≡ (holding_at holdings k).ledger →
    holds_coins (holding_at holdings k).ledger ≡ false → (holding_at holdings j).asset ≡ (holding_at holdings k).asset → ⊥) where
  -- a holding on a coin ledger is at most the largest
  coin_most : (k : ℕ) → k < length holdings → holds_coins (holding_at holdings k).ledger ≡ true → (holding_at holdings k).asset ≤ max_coins
  coin_most k h e =
      let r = sym (ap (λ b. (rules_if b).valid (holding_at holdings k).asset) e) ∙ ranged k h in
      leb-true (holding_at holdings k).asset max_coins (and_parts (leb 1 (holding_at holdings k).asset) (leb (holding_at holdings k).asset max_coins) r).1

  -- of one party's holdings on a coin ledger only one counts
  coins_one : (p l : ℕ) → holds_coins l ≡ true → coins_held holdings p l ≤ max_coins
  coins_one p l e =
      sum_one (length holdings) (λ k. coins_of (holding_at holdings k) p l) max_coins
      (λ k h. ⊎_elim
      (λ m. let z = cond-true (eqb (holding_at holdings k).party p && eqb (holding_at holdings k).ledger l) (holding_at holdings k).asset 0 (and_from (eqb (holding_at holdings k).party p) (eqb (holding_at holdings k).ledger l) m.0 m.1) in
      let q = coin_most k h (ap holds_coins (eqb-true (holding_at holdings k).ledger l m.1) ∙ e) in
      omega arith)
      (λ m. let z = cond-false (eqb (holding_at holdings k).party p && eqb (holding_at holdings k).ledger l) (holding_at holdings k).asset 0 m in omega arith)
      (both (eqb (holding_at holdings k).party p) (eqb (holding_at holdings k).ledger l)))
      (λ j k lt h. ⊎_elim
      (λ m. ⊎_elim
      (λ n. absurd (coins_apart j k lt h
      (eqb-true (holding_at holdings j).ledger l m.1 ∙ sym (eqb-true (holding_at holdings k).ledger l n.1))
      (ap holds_coins (eqb-true (holding_at holdings k).ledger l n.1) ∙ e)
      (eqb-true (holding_at holdings j).party p m.0 ∙ sym (eqb-true (holding_at holdings k).party p n.0))))
      (λ n. inr (cond-false (eqb (holding_at holdings k).party p && eqb (holding_at holdings k).ledger l) (holding_at holdings k).asset 0 n))
      (both (eqb (holding_at holdings k).party p) (eqb (holding_at holdings k).ledger l)))
      (λ m. inl (cond-false (eqb (holding_at holdings j).party p && eqb (holding_at holdings j).ledger l) (holding_at holdings j).asset 0 m))
      (both (eqb (holding_at holdings j).party p) (eqb (holding_at holdings j).ledger l)))

  coins_total : (l : ℕ) → holds_coins l ≡ true →
      sum_below (length holdings) (λ k. cond (eqb (holding_at holdings k).ledger l) (holding_at holdings k).asset 0) ≤ coin_ceiling
  coins_total l e =
      let g = λ (p k : ℕ). coins_of (holding_at holdings k) p l in
      let own : (k : ℕ) → k < length holdings →
      cond (eqb (holding_at holdings k).ledger l) (holding_at holdings k).asset 0 ≤ sum_below max_parties (λ p. g p k) =
      λ k h.
      subst (λ b. cond (b && eqb (holding_at holdings k).ledger l) (holding_at holdings k).asset 0 ≤ sum_below max_parties (λ p. g p k))
      (eq-eqb (holding_at holdings k).party (holding_at holdings k).party refl)
      (sum_term max_parties (λ p. g p k) (holding_at holdings k).party (few k h)) in
      let a = sum_le (length holdings) (λ k. cond (eqb (holding_at holdings k).ledger l) (holding_at holdings k).asset 0) (λ k. sum_below max_parties (λ p. g p k)) own in
      let b = sum_swap (length holdings) max_parties g in
      let m = sum_most max_parties (λ p. sum_below (length holdings) (g p)) max_coins (λ p h. coins_one p l e) in
      le_trans a (le_trans (le_of_eq b) m)

  titles_total : (l u : ℕ) → holds_coins l ≡ false →
      sum_below (length holdings) (λ k. cond (eqb (holding_at holdings k).ledger l) (worth title_rules (holding_at holdings k).asset u) 0) ≤ 1
  titles_total l u e =
      sum_one (length holdings) (λ k. cond (eqb (holding_at holdings k).ledger l) (worth title_rules (holding_at holdings k).asset u) 0) 1
      (λ k h. at_most_one (eqb (holding_at holdings k).ledger l) (eqb u (holding_at holdings k).asset))
      (λ j k lt h. ⊎_elim
      (λ m. ⊎_elim
      (λ n. absurd (titles_apart j k lt h
      (eqb-true (holding_at holdings j).ledger l m.0 ∙ sym (eqb-true (holding_at holdings k).ledger l n.0))
      (ap holds_coins (eqb-true (holding_at holdings k).ledger l n.0) ∙ e)
      (sym (eqb-true u (holding_at holdings j).asset m.1) ∙ eqb-true u (holding_at holdings k).asset n.1)))
      inr
      (counted (eqb (holding_at holdings k).ledger l) (eqb u (holding_at holdings k).asset)))
      inl
      (counted (eqb (holding_at holdings j).ledger l) (eqb u (holding_at holdings j).asset)))

  pub holdings_fit : (number : ℕ) (terms : Terms) (legs : List Leg) (span l u : ℕ) →
      total (swap_of number terms holdings legs span) l u ≤ (rules_of l).ceiling
  holdings_fit number terms legs span l u = go (holds_coins l) refl
    where
      coins : (c : Bool) → holds_coins l ≡ true →
          sum_below (length holdings) (λ k. cond (eqb (holding_at holdings k).ledger l) (cond c (holding_at holdings k).asset 0) 0) ≤ coin_ceiling
      coins true e = coins_total l e
      coins false e =
          let z = sum_zero (length holdings) (λ k. cond (eqb (holding_at holdings k).ledger l) 0 0) (λ k h. nothing (eqb (holding_at holdings k).ledger l)) in
          omega arith

      go : (b : Bool) → holds_coins l ≡ b →
          sum_below (length holdings) (λ k. cond (eqb (holding_at holdings k).ledger l) (worth (rules_if b) (holding_at holdings k).asset u) 0) ≤ (rules_if b).ceiling
      go true e = coins (eqb u 0) e
      go false e = titles_total l u e
