-- The books balance: what a party has and has put up or paid is what it held and was paid, and an escrow account holds its asset
-- while the leg is open.
use Rattle.std.proofs.Common.{◌≡◌, ℕ, zero, suc, ◌+◌, ◌-◌, ◌<◌, ◌≤◌, Bool, true, false, cond, not, ◌&&◌, ◌||◌, eqb, leb, List, is_err, Some, Ok, Err, Option, sym, refl, ap, ◌∙◌, arith}
use Rattle.ledgers.proofs.LawsHold.{worth_le, accepted_deposit, deposit_ok}
use Rattle.ledgers.specs.Calls.{Answer, deposit_verdict}
use Rattle.ledgers.specs.Stocks.{Lawful, content}
use Rattle.protocol.proofs.Basics.{Fails, put_case}
use Rattle.protocol.proofs.Invariants.{Signed, Fair, Books, gone, come}
use Rattle.protocol.proofs.Standing.{vacant as vacant_of_is_vacant, held as held_of_is_held}
use Rattle.protocol.proofs.Sums.{sum_put}
use Rattle.swap.proofs.Sums.{sum_zero, sum_le, sum_term, sum_less}
use Rattle.swap.proofs.Tests.{eqb_comm}
use Rattle.protocol.specs.Calls.{fresh}
use Rattle.protocol.specs.Promises.{spent, fallen}
use Rattle.protocol.specs.State.{Phase, Vacant, Held, Paid, Back, is_vacant, is_held, is_paid, Escrow, Transaction, Open, Key, Refund, leg_of, Run, stands}
use Rattle.protocol.specs.Stocks.{Stock, refuses, credit, deposit, release, entered}
use Rattle.protocol.specs.Tables.{put}
use Rattle.protocol.specs.Verdicts.{tests, effect, all_opened, ends}
use Rattle.std.proofs.lemmas.Bool.{eqb-true, eqb-false, eq-eqb, ne_eqb, ltb-true, leb-true, and_parts, not-false, cond-true, false≢true}
use Rattle.swap.specs.Assets.{Rules, rules_if, rules_of, worth, holds_coins, asset_on}
use Rattle.swap.specs.Limits.{titles, max_coins, max_parties, max_legs}
use Rattle.swap.specs.Below.{sum_below}
use Rattle.swap.specs.Swaps.{Swap, Sound, start}
use Rattle.swap.specs.declared.records.Holder.TheVariants.{Party}
use Rattle.swap.specs.declared.records.Holder.TheVariants.{Escrow as Account}

-- A party with no open leg has lost no more than the legs it paid.
safe_term : (b c : Bool) (x : Phase) (w : ℕ) → (b ≡ true → x ≡ Held → ⊥)
    → cond (b && c && (is_held x || is_paid x)) w 0 ≤ cond (b && c && is_paid x) w 0
safe_term true true Vacant w h = omega arith
safe_term true true Held w h = absurd (h refl refl)
safe_term true true Paid w h = omega arith
safe_term true true Back w h = omega arith
safe_term true false x w h = omega arith
safe_term false c x w h = omega arith

pub safe : (p : Swap) (r : Run) → Books p r.escrow r.stock → (v : ℕ)
    → ((i : ℕ) → i < p.legs → p.payer i ≡ v → (r.escrow i).phase ≡ Held → ⊥) → (l u : ℕ) → fallen p r v l u ≤ spent p r.escrow v l u
safe p r b v none l u =
    let t = b.parties v l u in
    let s =
    sum_le p.legs (gone p r.escrow v l u)
    (λ i. cond (eqb (p.payer i) v && eqb (p.ledger i) l && is_paid (r.escrow i).phase) (worth (rules_of l) (r.escrow i).asset u) 0)
    (λ i h. safe_term (eqb (p.payer i) v) (eqb (p.ledger i) l) (r.escrow i).phase (worth (rules_of l) (r.escrow i).asset u)
    (λ e. none i h (eqb-true (p.payer i) v e)))
    in
    omega arith

-- over variables, since the figures would unfold the sums
pub in_range : (v n m : ℕ) → v < n → n ≤ m → v < m
in_range v n m a b = omega arith

-- An asset is so many of its unit, and some.
pub worth_unit : (k : Rules) (a : ℕ) → worth k a (k.unit a) ≡ k.amount a
worth_unit k a = cond-true (eqb (k.unit a) (k.unit a)) (k.amount a) 0 (eq-eqb (k.unit a) (k.unit a) refl)

lawful : (b : Bool) → Lawful (rules_if b)
lawful true a h = (leb-true 1 a (and_parts (leb 1 a) (leb a max_coins) h).0, omega arith)
lawful false a h = (omega arith, ltb-true a titles h)

-- A release never meets an empty account.
pub full : (p : Swap) → (escrow : ℕ → Escrow) (stock : Stock) → Books p escrow stock → (i : ℕ) → i < p.legs → (escrow i).phase ≡ Held
    → asset_on (p.ledger i) (escrow i).asset ≡ true → 0 < content (rules_of (p.ledger i)) (stock (p.ledger i)) i
full p escrow stock b i h held on =
    let l : ℕ = p.ledger i in
    let k : Rules = rules_of l in
    let a : ℕ = (escrow i).asset in
    let some = lawful (holds_coins l) a on in
    let t = sum_term k.units (stock l (Account i)) (k.unit a) some.1 in
    let e = b.accounts i l (k.unit a) h in
    let c = cond-true (eqb l l && is_held (escrow i).phase) (worth k a (k.unit a)) 0 (rw held (rw (eq-eqb l l refl) refl)) in
    let w = worth_unit k a in
    let z = some.0 in
    omega arith

-- Moves

-- A count of party P on ledger L changes from y to x, and d is by how much; no other party's does, and none on another ledger.
one_place : (R : ℕ → ℕ → Type 0) (l L v P x y d : ℕ) → (l ≡ L → v ≡ P → R x d) → R y 0
    → R (cond (eqb l L) (cond (eqb v P) x y) y) (cond (eqb P v && eqb L l) d 0)
one_place R l L v P x y d yes' no' = rw (eqb_comm l L, eqb_comm v P) (go (eqb P v) refl (eqb L l) refl)
  where
    go : (c : Bool) → eqb P v ≡ c → (b : Bool) → eqb L l ≡ b → R (cond b (cond c x y) y) (cond (c && b) d 0)
    go true e true f = yes' (sym (eqb-true L l f)) (sym (eqb-true P v e))
    go true e false f = no'
    go false e true f = no'
    go false e false f = no'

no_change : (b : Bool) (y : ℕ) → cond b y y ≡ y
no_change true y = refl
no_change false y = refl

and_none : (b : Bool) (w : ℕ) → cond (b && false) w 0 ≡ 0
and_none true w = refl
and_none false w = refl

credit_party : (L P a : ℕ) (s : Stock) (v l u : ℕ)
    → credit L P a s l (Party v) u ≡ s l (Party v) u + cond (eqb P v && eqb L l) (worth (rules_of l) a u) 0
credit_party L P a s v l u =
    one_place (λ c d. c ≡ s l (Party v) u + d) l L v P (s l (Party P) u + worth (rules_of L) a u) (s l (Party v) u) (worth (rules_of l) a u)
    (λ e f. rw (e, f) refl) (omega arith)

credit_account : (L P a : ℕ) (s : Stock) (i l u : ℕ) → credit L P a s l (Account i) u ≡ s l (Account i) u
credit_account L P a s i l u = no_change (eqb l L) (s l (Account i) u)

deposit_party : (L P i a : ℕ) (s : Stock) (v l u : ℕ) → worth (rules_of L) a u ≤ s L (Party P) u
    → deposit L P i a s l (Party v) u + cond (eqb P v && eqb L l) (worth (rules_of l) a u) 0 ≡ s l (Party v) u
deposit_party L P i a s v l u h =
    one_place (λ c d. c + d ≡ s l (Party v) u) l L v P (s l (Party P) u - worth (rules_of L) a u) (s l (Party v) u) (worth (rules_of l) a u)
    (λ e f. rw (e, f) (omega arith)) (omega arith)

deposit_account : (L P i a : ℕ) (s : Stock) (l u : ℕ) → s l (Account i) u ≡ 0
    → deposit L P i a s l (Account i) u ≡ cond (eqb L l && true) (worth (rules_of l) a u) 0
deposit_account L P i a s l u h = rw (eq-eqb i i refl, eqb_comm l L) (go (eqb L l) refl)
  where
    go : (b : Bool) → eqb L l ≡ b → cond b (s l (Account i) u + worth (rules_of L) a u) (s l (Account i) u) ≡ cond (b && true)
        (worth (rules_of l) a u) 0
    go true e = rw (h, eqb-true L l e) (omega arith)
    go false e = h

deposit_other : (L P i a : ℕ) (s : Stock) (k l u : ℕ) → (k ≡ i → ⊥) → deposit L P i a s l (Account k) u ≡ s l (Account k) u
deposit_other L P i a s k l u ne = rw (ne_eqb k i ne) (no_change (eqb l L) (s l (Account k) u))

release_party : (L i P a : ℕ) (s : Stock) (v l u : ℕ) → s L (Account i) u ≡ worth (rules_of L) a u
    → release L i P s l (Party v) u ≡ s l (Party v) u + cond (eqb P v && eqb L l) (worth (rules_of l) a u) 0
release_party L i P a s v l u h =
    one_place (λ c d. c ≡ s l (Party v) u + d) l L v P (s l (Party P) u + s l (Account i) u) (s l (Party v) u) (worth (rules_of l) a u)
    (λ e f. rw (e, f) (ap (λ x. s L (Party P) u + x) h)) (omega arith)

release_account : (L i P : ℕ) (s : Stock) (l u : ℕ) → ((L ≡ l → ⊥) → s l (Account i) u ≡ 0) → release L i P s l (Account i) u ≡ 0
release_account L i P s l u h = rw (eq-eqb i i refl) (go (eqb l L) refl)
  where
    go : (b : Bool) → eqb l L ≡ b → cond b 0 (s l (Account i) u) ≡ 0
    go true e = refl
    go false e = h (λ q. eqb-false l L e (sym q))

release_other : (L i P : ℕ) (s : Stock) (k l u : ℕ) → (k ≡ i → ⊥) → release L i P s l (Account k) u ≡ s l (Account k) u
release_other L i P s k l u ne = rw (ne_eqb k i ne) (no_change (eqb l L) (s l (Account k) u))

-- The start

pub entered_party : (p : Swap) (v l u k : ℕ)
    → entered p k l (Party v) u ≡ sum_below k (λ j. cond (eqb (p.holder j) v && eqb (p.held_on j) l) (worth (rules_of l) (p.held j) u) 0)
unfolding entered
entered_party p v l u zero = refl
entered_party p v l u (suc k) =
    credit_party (p.held_on k) (p.holder k) (p.held k) (entered p k) v l u
    ∙ ap (λ x. x + cond (eqb (p.holder k) v && eqb (p.held_on k) l) (worth (rules_of l) (p.held k) u) 0) (entered_party p v l u k)

pub entered_account : (p : Swap) (i l u k : ℕ) → entered p k l (Account i) u ≡ 0
unfolding entered
entered_account p i l u zero = refl
entered_account p i l u (suc k) = credit_account (p.held_on k) (p.holder k) (p.held k) (entered p k) i l u ∙ entered_account p i l u k

-- At tick 0 a party's stock is its holdings.
pub start_stock : (p : Swap) → Sound p → (v l u : ℕ) → (fresh p).stock l (Party v) u ≡ start p v l u
start_stock p sound v l u = entered_party p v l u p.holdings

pub books_fresh : (p : Swap) → Sound p → Books p (fresh p).escrow (fresh p).stock
books_fresh p sound = record {
  parties = λ v l u.
      let s = start_stock p sound v l u in
      let a = sum_zero p.legs (gone p (fresh p).escrow v l u)
      (λ i h. and_none (eqb (p.payer i) v && eqb (p.ledger i) l) (worth (rules_of l) 0 u)) in
      let b = sum_zero p.legs (come p (fresh p).escrow v l u)
      (λ i h. and_none (eqb (p.receiver i) v && eqb (p.ledger i) l) (worth (rules_of l) 0 u)) in
      omega arith;
  accounts = λ i l u h. entered_account p i l u p.holdings ∙ sym (and_none (eqb (p.ledger i) l) (worth (rules_of l) 0 u));
}

-- The book takes a conforming party's open: what it has put up is the plan's, and its holdings cover that.

owed_term : (x y : Bool) (e : Phase) (w w' : ℕ) → (x ≡ true → is_vacant e ≡ false → w ≡ w')
    → cond (x && y && (is_held e || is_paid e)) w 0 ≤ cond (x && y) w' 0
owed_term true true Vacant w w' h = omega arith
owed_term true true Held w w' h = let e = h refl refl in omega arith
owed_term true true Paid w w' h = let e = h refl refl in omega arith
owed_term true true Back w w' h = omega arith
owed_term true false e w w' h = omega arith
owed_term false y e w w' h = omega arith

stands_asset : (p : Swap) (k : ℕ) (e : Escrow) → stands p k e ≡ true → e.asset ≡ p.asset k
stands_asset p k e h =
    eqb-true e.asset (p.asset k)
    (and_parts (not (is_vacant e.phase)) (eqb e.asset (p.asset k)) (and_parts (not (is_vacant e.phase) && eqb e.asset (p.asset k)) _ h).0).1

pub enough : (p : Swap) → Sound p → (escrow : ℕ → Escrow) (stock : Stock) → Books p escrow stock → (i : ℕ) → i < p.legs
    → (escrow i).phase ≡ Vacant
    → ((k : ℕ) → k < p.legs → p.payer k ≡ p.payer i → is_vacant (escrow k).phase ≡ false → stands p k (escrow k) ≡ true)
    → refuses (p.ledger i) (p.payer i) i (p.asset i) stock ≡ false
unfolding refuses
enough p sound escrow stock b i h vacant planned =
    let l : ℕ = p.ledger i in
    let v : ℕ = p.payer i in
    let a : ℕ = p.asset i in
    let u : ℕ = (rules_of l).unit a in
    let here : gone p escrow v l u i + (rules_of l).amount a ≤ cond (eqb (p.payer i) v && eqb (p.ledger i) l)
    (worth (rules_of l) (p.asset i) u) 0
    = rw (vacant, eq-eqb v v refl, eq-eqb l l refl, worth_unit (rules_of l) a) (omega arith)
    in
    let less =
    sum_less p.legs (gone p escrow v l u) (λ k. cond (eqb (p.payer k) v && eqb (p.ledger k) l) (worth (rules_of l) (p.asset k) u) 0) i
    ((rules_of l).amount a) h
    (λ k hk. owed_term (eqb (p.payer k) v) (eqb (p.ledger k) l) (escrow k).phase (worth (rules_of l) (escrow k).asset u)
    (worth (rules_of l) (p.asset k) u)
    (λ e n. ap (λ a. worth (rules_of l) a u) (stands_asset p k (escrow k) (planned k hk (eqb-true (p.payer k) v e) n))))
    here
    in
    let bal = b.parties v l u in
    let cov = sound.covered v l u in
    ap is_err (deposit_ok (rules_of l) v i a (stock l) (record {
      payer = in_range v p.parties max_parties (sound.exist i h).0 sound.most;
      free = in_range i p.legs max_legs h sound.legs_most;
      asset_ok = (sound.assets i h).1;
      empty = sum_zero (rules_of l).units (stock l (Account i))
          (λ w hw. b.accounts i l w h ∙ rw vacant (and_none (eqb l l) (worth (rules_of l) (escrow i).asset w)));
      enough = omega arith;
    }))

-- What takes effect keeps the books.

not_err : (a : Answer) → is_err a ≡ false → a ≡ Ok tt
not_err (Ok _) h = refl
not_err (Err e) h = absurd (false≢true (sym h))

-- what an escrow of leg k takes from a party and brings it
abbrev takes : Swap → ℕ → ℕ → ℕ → ℕ → Escrow → ℕ
takes p v l u k e = cond (eqb (p.payer k) v && eqb (p.ledger k) l && (is_held e.phase || is_paid e.phase)) (worth (rules_of l) e.asset u) 0

abbrev brings : Swap → ℕ → ℕ → ℕ → ℕ → Escrow → ℕ
brings p v l u k e = cond (eqb (p.receiver k) v && eqb (p.ledger k) l && is_paid e.phase) (worth (rules_of l) e.asset u) 0

-- One escrow changes, and the stock with it.
books_put : (p : Swap) (escrow : ℕ → Escrow) (stock stock' : Stock) (i : ℕ) (e : Escrow) → i < p.legs → Books p escrow stock
    → ((v l u : ℕ) → stock' l (Party v) u + takes p v l u i e + brings p v l u i (escrow i)
    ≡ stock l (Party v) u + takes p v l u i (escrow i) + brings p v l u i e)
    → ((l u : ℕ) → stock' l (Account i) u ≡ cond (eqb (p.ledger i) l && is_held e.phase) (worth (rules_of l) e.asset u) 0)
    → ((k l u : ℕ) → (k ≡ i → ⊥) → stock' l (Account k) u ≡ stock l (Account k) u)
    → Books p (put escrow i e) stock'
books_put p escrow stock stock' i e h b moved here other = record {
  parties = λ v l u.
      let a = sum_put p.legs (takes p v l u) escrow i e h in
      let c = sum_put p.legs (brings p v l u) escrow i e h in
      let m = moved v l u in
      let q = b.parties v l u in
      omega arith;
  accounts = λ k l u hk.
      put_case (λ x. stock' l (Account k) u ≡ cond (eqb (p.ledger k) l && is_held x.phase) (worth (rules_of l) x.asset u) 0) escrow i e k
      (λ q. rw q (here l u)) (λ ne. other k l u ne ∙ b.accounts k l u hk);
}

-- x: the party pays the leg; z: it receives the leg; y: the ledger is the leg's; w: what the asset has
opened_terms : (x y z : Bool) (w w₀ s s' : ℕ) → s' + cond (x && y) w 0 ≡ s
    → s' + cond (x && y && true) w 0 + cond (z && y && false) w₀ 0 ≡ s + cond (x && y && false) w₀ 0 + cond (z && y && false) w 0
opened_terms true true true w w₀ s s' h = omega arith
opened_terms true true false w w₀ s s' h = omega arith
opened_terms true false true w w₀ s s' h = omega arith
opened_terms true false false w w₀ s s' h = omega arith
opened_terms false true true w w₀ s s' h = omega arith
opened_terms false true false w w₀ s s' h = omega arith
opened_terms false false true w w₀ s s' h = omega arith
opened_terms false false false w w₀ s s' h = omega arith

paid_terms : (x y z : Bool) (w s s' : ℕ) → s' ≡ s + cond (z && y) w 0
    → s' + cond (x && y && true) w 0 + cond (z && y && false) w 0 ≡ s + cond (x && y && true) w 0 + cond (z && y && true) w 0
paid_terms true true true w s s' h = omega arith
paid_terms true true false w s s' h = omega arith
paid_terms true false true w s s' h = omega arith
paid_terms true false false w s s' h = omega arith
paid_terms false true true w s s' h = omega arith
paid_terms false true false w s s' h = omega arith
paid_terms false false true w s s' h = omega arith
paid_terms false false false w s s' h = omega arith

back_terms : (x y z : Bool) (w s s' : ℕ) → s' ≡ s + cond (x && y) w 0
    → s' + cond (x && y && false) w 0 + cond (z && y && false) w 0 ≡ s + cond (x && y && true) w 0 + cond (z && y && false) w 0
back_terms true true true w s s' h = omega arith
back_terms true true false w s s' h = omega arith
back_terms true false true w s s' h = omega arith
back_terms true false false w s s' h = omega arith
back_terms false true true w s s' h = omega arith
back_terms false true false w s s' h = omega arith
back_terms false false true w s s' h = omega arith
back_terms false false false w s s' h = omega arith

module _ (p : Swap) (escrow : ℕ → Escrow) (stock : Stock) (i : ℕ) (h : i < p.legs) (b : Books p escrow stock) where
  -- the account of a leg that is not open is empty, and an open leg's holds its asset
  vacant_account : (escrow i).phase ≡ Vacant → (l u : ℕ) → stock l (Account i) u ≡ 0
  vacant_account e l u = b.accounts i l u h ∙ rw e (and_none (eqb (p.ledger i) l) (worth (rules_of l) (escrow i).asset u))

  held_account : (escrow i).phase ≡ Held → (u : ℕ) → stock (p.ledger i) (Account i) u ≡ worth (rules_of (p.ledger i)) (escrow i).asset u
  held_account e u = b.accounts i (p.ledger i) u h ∙ rw (e, eq-eqb (p.ledger i) (p.ledger i) refl) refl

  away_account : (l u : ℕ) → (p.ledger i ≡ l → ⊥) → stock l (Account i) u ≡ 0
  away_account l u ne = b.accounts i l u h ∙ rw (ne_eqb (p.ledger i) l ne) refl

  opened_books : (asset : ℕ) (e : Escrow) → e.phase ≡ Held → e.asset ≡ asset → (escrow i).phase ≡ Vacant
      → refuses (p.ledger i) (p.payer i) i asset stock ≡ false
      → Books p (put escrow i e) (deposit (p.ledger i) (p.payer i) i asset stock)
  unfolding refuses
  opened_books asset e held has vacant taken =
      let L : ℕ = p.ledger i in
      let P : ℕ = p.payer i in
      let le = (accepted_deposit (rules_of L) P i asset (stock L)
      (sym (not_err (deposit_verdict (rules_of L) P i asset (stock L)) taken))).enough in
      books_put p escrow stock (deposit L P i asset stock) i e h b
      (λ v l u. rw (vacant, held, has)
      (opened_terms (eqb P v) (eqb L l) (eqb (p.receiver i) v) (worth (rules_of l) asset u) (worth (rules_of l) (escrow i).asset u)
      (stock l (Party v) u)
      (deposit L P i asset stock l (Party v) u) (deposit_party L P i asset stock v l u
      (worth_le (rules_of L) asset (stock L (Party P)) le u))))
      (λ l u. rw (held, has) (deposit_account L P i asset stock l u (vacant_account vacant l u)))
      (λ k l u ne. deposit_other L P i asset stock k l u ne)

  paid_books : (e : Escrow) → e.phase ≡ Paid → e.asset ≡ (escrow i).asset → (escrow i).phase ≡ Held
      → Books p (put escrow i e) (release (p.ledger i) i (p.receiver i) stock)
  paid_books e paid has held =
      let L : ℕ = p.ledger i in
      let P : ℕ = p.receiver i in
      let a : ℕ = (escrow i).asset in
      books_put p escrow stock (release L i P stock) i e h b
      (λ v l u. rw (held, paid, has)
      (paid_terms (eqb (p.payer i) v) (eqb L l) (eqb P v) (worth (rules_of l) a u) (stock l (Party v) u)
      (release L i P stock l (Party v) u) (release_party L i P a stock v l u (held_account held u))))
      (λ l u. rw (paid, has) (release_account L i P stock l u (away_account l u) ∙ sym (and_none (eqb L l) (worth (rules_of l) a u))))
      (λ k l u ne. release_other L i P stock k l u ne)

  back_books : (e : Escrow) → e.phase ≡ Back → e.asset ≡ (escrow i).asset → (escrow i).phase ≡ Held
      → Books p (put escrow i e) (release (p.ledger i) i (p.payer i) stock)
  back_books e back has held =
      let L : ℕ = p.ledger i in
      let P : ℕ = p.payer i in
      let a : ℕ = (escrow i).asset in
      books_put p escrow stock (release L i P stock) i e h b
      (λ v l u. rw (held, back, has)
      (back_terms (eqb P v) (eqb L l) (eqb (p.receiver i) v) (worth (rules_of l) a u) (stock l (Party v) u)
      (release L i P stock l (Party v) u) (release_party L i P a stock v l u (held_account held u))))
      (λ l u. rw (back, has) (release_account L i P stock l u (away_account l u) ∙ sym (and_none (eqb L l) (worth (rules_of l) a u))))
      (λ k l u ne. release_other L i P stock k l u ne)

  same_books : (e : Escrow) → e.phase ≡ (escrow i).phase → e.asset ≡ (escrow i).asset → Books p (put escrow i e) stock
  same_books e phase has =
      books_put p escrow stock stock i e h b
      (λ v l u. rw (phase, has) refl)
      (λ l u. rw (phase, has) (b.accounts i l u h))
      (λ k l u ne. refl)

  -- a key: the last shut lock makes the leg paid
  key_books : (last : Bool) (t : ℕ) (opened : ℕ → Option (List ℕ)) → (escrow i).phase ≡ Held
      → Books p (put escrow i (record {
        phase = cond last Paid (escrow i).phase;
        asset = (escrow i).asset;
        locks = (escrow i).locks;
        opened =
            opened;
        changed = cond last t (escrow i).changed;
      }))
      (cond (is_paid (cond last Paid (escrow i).phase)) (release (p.ledger i) i (p.receiver i) stock) stock)
  key_books true t opened held = paid_books _ refl refl held
  key_books false t opened held = rw (ap is_paid held) (same_books _ refl refl)

pub books_took : (p : Swap) → Sound p → (t : ℕ) (σ : Signed) (filer : ℕ) (x : Transaction) (escrow : ℕ → Escrow) (stock : Stock)
    → Fair p x → Fails (tests p t σ stock filer x (escrow (leg_of x))) → Books p escrow stock
    → Books p (effect p t x (escrow, stock)).0 (effect p t x (escrow, stock)).1
books_took p sound t σ filer (Open i asset locks) escrow stock fair fails b =
    opened_books p escrow stock i fair.0 b asset _ refl refl
    (vacant_of_is_vacant (escrow i).phase (not-false (is_vacant (escrow i).phase) fails.1.0)) fails.1.1.1.1.0
books_took p sound t σ filer (Key i route) escrow stock fair fails b =
    key_books p escrow stock i fair.0 b (all_opened (escrow i).locks (put (escrow i).opened (ends route) (Some route))) t
    (put (escrow i).opened (ends route) (Some route)) (held_of_is_held (escrow i).phase (not-false (is_held (escrow i).phase) fails.1.0))
books_took p sound t σ filer (Refund i) escrow stock fair fails b =
    back_books p escrow stock i fair.0 b _ refl refl (held_of_is_held (escrow i).phase (not-false (is_held (escrow i).phase) fails.1.0))
