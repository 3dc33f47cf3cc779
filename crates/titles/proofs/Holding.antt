-- Counts kept as the holder of each title.
use Rattle.std.proofs.Common.{◌≡◌, ℕ, zero, suc, ◌+◌, ◌<◌, ◌≤◌, Bool, true, false, not, cond, ltb, List, length, get_or, set, take, replicate, Some, None, Ok, Err, Option, sym, refl, ap, ◌∙◌, ◌-◌, ⊎_elim, arith, eqb}
use Rattle.std.specs.List.{list_any}
use Rattle.ledgers.specs.Calls.{Answer, Settles, refuse, deposit_verdict, deposited, release_verdict, released}
use Rattle.ledgers.specs.Stocks.{IsEmpty, is_party, is_account, content, title_rules}
use Rattle.ledgers.specs.declared.refusals.Refusal.TheVariants.{OutOfRange, AccountTaken, TooLittle, AccountEmpty}
use Rattle.std.proofs.lemmas.List.{get_or_past, take_all}
use Rattle.std.proofs.lemmas.List.Folds.{list_any_more}
use Rattle.std.proofs.lemmas.Bool.{cases_lt, and_from, cond_both, cond-false, cond-true, eq-eqb, eqb-true, lt-ltb, ne_eqb, not_from_true}
use Rattle.std.proofs.lemmas.Bool.Decides.{nat_tests}
use Rattle.std.proofs.lemmas.Grind.{common_steps}
use Rattle.swap.specs.Assets.{title_asset}
use Rattle.swap.specs.Below.{sum_below}
use Rattle.swap.specs.Limits.{titles, max_legs, max_parties}
use Rattle.swap.specs.declared.records.Holder.{Holder}
use Rattle.swap.specs.declared.records.Holder.TheVariants.{Party, Escrow}
use Rattle.titles.specs.Counts.{held}
use Rattle.titles.specs.Titles.{held_by, exists, handed}

-- ---- no holders
free : (n i : ℕ) → ◌≡◌ {A = Option Holder} (get_or (replicate n None) i None) None
free zero i = refl
free (suc n) zero = refl
free (suc n) (suc i) = free n i

pub nothing : (n : ℕ) → IsEmpty (held (replicate n None))
nothing n h u = ap (λ (t : Option Holder). cond (held_by t h) 1 0) (free n u)

pub all_exist : (n u : ℕ) → exists (get_or (replicate n None) u None) ≡ true
all_exist n u = ap exists (free n u)

-- ---- handing over
pub handed_all : (xs ys : List (Option Holder)) (giver taker : Holder) (i : ℕ) → length xs ≤ i
    → ((k : ℕ) → k < i → get_or ys k None ≡ handed (get_or xs k None) giver taker)
    → ((k : ℕ) → i ≤ k → get_or ys k None ≡ get_or xs k None)
    → (k : ℕ) → get_or ys k None ≡ handed (get_or xs k None) giver taker
handed_all xs ys giver taker i all done rest k =
    ⊎_elim (done k)
    (λ le.
    let beyond : length xs ≤ k = omega arith in
    let past = get_or_past xs k None beyond in
    rest k le ∙ past ∙ sym (ap (λ (t : Option Holder). handed t giver taker) past))
    (cases_lt k i)

-- ---- what an account holds
any_of : (ts : List (Option Holder)) (h : Holder) (n : ℕ) → n ≤ length ts
    → list_any (λ t. held_by t h) (take n ts) ≡ ltb 0 (sum_below n (held ts h))
any_of ts h zero le = refl
any_of ts h (suc n) le =
    let below = any_of ts h n (omega arith) in
    let more = list_any_more (λ t. held_by t h) ts n None (omega arith) in
    let next : n + 1 ≡ suc n = omega arith in
    grind (arith, nat_tests)

taken : (ts : List (Option Holder)) (account : ℕ) → length ts ≡ titles
    → list_any (λ t. held_by t (Escrow account)) ts ≡ ltb 0 (content title_rules (held ts) account)
taken ts account full =
    ap (list_any (λ t. held_by t (Escrow account))) (sym (take_all titles ts (omega arith))) ∙ any_of ts (Escrow account) titles (omega arith)

-- ---- the effects
held_is : (t : Option Holder) (h : Holder) → held_by t h ≡ true → t ≡ Some h
held_is None h e = cc
held_is (Some (Party p)) (Party q) e = grind (arith, nat_tests)
held_is (Some (Party p)) (Escrow b) e = cc
held_is (Some (Escrow a)) (Party q) e = cc
held_is (Some (Escrow a)) (Escrow b) e = grind (arith, nat_tests)

deposit_counts : (ts : List (Option Holder)) (party account title : ℕ) → title < length ts → get_or ts title None ≡ Some (Party party)
    → (h : Holder) (u : ℕ) → held (set ts title (Some (Escrow account))) h u ≡ deposited title_rules party account title (held ts) h u
deposit_counts ts party account title lt is (Party q) u = grind (arith, nat_tests, common_steps)
deposit_counts ts party account title lt is (Escrow q) u = grind (arith, nat_tests, common_steps)

-- a deposit leaves the counts of every other title
keep_count : (f : Holder → ℕ → ℕ) (party account asset : ℕ) (h : Holder) (u : ℕ) → (u ≡ asset → ⊥)
    → f h u ≡ deposited title_rules party account asset f h u
keep_count f p a x (Party q) u ne =
    let none : ◌≡◌ {A = ℕ} (cond (eqb u x) 1 0) 0 = cond-false (eqb u x) 1 0 (ne_eqb u x ne) in
    let same_party : f (Party p) u ≡ f (Party p) u - cond (eqb u x) 1 0 = omega arith in
    cond_both (eqb q p) _ _ (λ y. f (Party q) u ≡ y) (λ e. ap (λ r. f (Party r) u) (eqb-true q p e) ∙ same_party) (λ _. refl)
keep_count f p a x (Escrow b) u ne =
    let none : ◌≡◌ {A = ℕ} (cond (eqb u x) 1 0) 0 = cond-false (eqb u x) 1 0 (ne_eqb u x ne) in
    let same_account : f (Escrow a) u ≡ f (Escrow a) u + cond (eqb u x) 1 0 = omega arith in
    cond_both (eqb b a) _ _ (λ y. f (Escrow b) u ≡ y) (λ e. ap (λ r. f (Escrow r) u) (eqb-true b a e) ∙ same_account) (λ _. refl)

release_counts : (t : Option Holder) (account party : ℕ) (h : Holder)
    → cond (held_by (handed t (Escrow account) (Party party)) h) 1 0 ≡ released account party (λ g _. cond (held_by t g) 1 0) h 0
release_counts None a p (Party q) = grind (arith, nat_tests)
release_counts None a p (Escrow b) = grind (arith, nat_tests)
release_counts (Some (Party r)) a p (Party q) = grind (arith, nat_tests)
release_counts (Some (Party r)) a p (Escrow b) = grind (arith, nat_tests)
release_counts (Some (Escrow c)) a p (Party q) = grind (arith, nat_tests)
release_counts (Some (Escrow c)) a p (Escrow b) = grind (arith, nat_tests)

-- ---- the calls, once their numbers have places
abbrev Placed : Bool → ℕ → ℕ → Type 0
Placed exists number place = Ok place ≡ refuse (not exists) OutOfRange (Ok number)

too_little : (has : Bool) → ltb (cond has 1 0) 1 ≡ not has
too_little true = refl
too_little false = refl

module _ (ts : List (Option Holder)) (full : length ts ≡ titles) where
  abbrev is_taken : ℕ → Bool
  is_taken account = list_any (λ t. held_by t (Escrow account)) ts

  module _ (party account asset : ℕ) {party_at account_at title : ℕ}
      (p : Placed (is_party party) party party_at) (a : Placed (is_account account) account account_at) (x : Placed (title_asset asset) asset title) where
    abbrev has : Bool
    has = held_by (get_or ts title None) (Party party)

    deposit_told : deposit_verdict title_rules party account asset (held ts)
        ≡ refuse (is_taken account) AccountTaken (refuse (not has) TooLittle (Ok tt))
    deposit_told =
        let taken_is = taken ts account full in
        let little_is = too_little has in
        grind (arith, nat_tests)

    abbrev Deposits : Answer → List (Option Holder) → Type 0
    Deposits answer after =
        Settles (deposit_verdict title_rules party account asset) (deposited title_rules party account asset) (held ts) answer (held after)

    pub deposit_taken : true ≡ is_taken account → Deposits (Err AccountTaken) ts
    deposit_taken some = record { told = sym (deposit_told ∙ rw (← some)); counts = λ h u. refl }

    pub deposit_little : false ≡ is_taken account → has ≡ false → Deposits (Err TooLittle) ts
    deposit_little none lacks = record { told = sym (deposit_told ∙ rw (← none, lacks)); counts = λ h u. refl }

    pub deposit_done : false ≡ is_taken account → has ≡ true → Deposits (Ok tt) (set ts title (Some (Escrow account)))
    deposit_done none does =
        let at : (asset ≡ title) × (title < titles) = grind (arith, nat_tests) in
        record {
          told = sym (deposit_told ∙ rw (← none, does));
          counts = rw at.0 (deposit_counts ts party account title (omega arith) (held_is _ _ does));
        }

  module _ (account party : ℕ) {account_at party_at : ℕ}
      (a : Placed (is_account account) account account_at) (p : Placed (is_party party) party party_at) where
    release_told : release_verdict title_rules account party (held ts) ≡ refuse (not (is_taken account)) AccountEmpty (Ok tt)
    release_told =
        let taken_is = taken ts account full in
        grind (arith, nat_tests)

    abbrev Releases : Answer → List (Option Holder) → Type 0
    Releases answer after = Settles (release_verdict title_rules account party) (released account party) (held ts) answer (held after)

    pub release_empty : false ≡ is_taken account → Releases (Err AccountEmpty) ts
    release_empty none = record { told = sym (release_told ∙ rw (← none)); counts = λ h u. refl }

    pub release_done : (ys : List (Option Holder)) → true ≡ is_taken account
        → ((k : ℕ) → get_or ys k None ≡ handed (get_or ts k None) (Escrow account) (Party party)) → Releases (Ok tt) ys
    release_done ys some gave =
        record {
          told = sym (release_told ∙ rw (← some));
          counts = λ h u. ap (λ (t : Option Holder). cond (held_by t h) 1 0) (gave u) ∙ release_counts (get_or ts u None) account party h;
        }

-- ---- the calls, for any list of holders, by what the account holds
module _ (ts : List (Option Holder)) (party account : ℕ) (p : party < max_parties) (a : account < max_legs) where
  module _ (asset : ℕ) (x : asset < titles) where
    deposit_told_by_content : deposit_verdict title_rules party account asset (held ts)
        ≡ refuse (ltb 0 (content title_rules (held ts) account)) AccountTaken (refuse (ltb (held ts (Party party) asset) 1) TooLittle (Ok tt))
    deposit_told_by_content =
        cond-false _ _ _ (not_from_true _ (and_from _ _ (and_from _ _ (lt-ltb party max_parties p) (lt-ltb account max_legs a)) (lt-ltb asset titles x)))

    pub deposit_taken_by_content : 0 < content title_rules (held ts) account
        → Settles (deposit_verdict title_rules party account asset) (deposited title_rules party account asset) (held ts) (Err AccountTaken) (held ts)
    deposit_taken_by_content some = record { told = sym (deposit_told_by_content ∙ cond-true _ _ _ (lt-ltb _ _ some)); counts = λ h u. refl }

    free_told : content title_rules (held ts) account ≡ 0
        → deposit_verdict title_rules party account asset (held ts) ≡ refuse (ltb (held ts (Party party) asset) 1) TooLittle (Ok tt)
    free_told none = deposit_told_by_content ∙ cond-false _ _ _ (ap (ltb 0) none)

    pub deposit_little_by_content : content title_rules (held ts) account ≡ 0 → held_by (get_or ts asset None) (Party party) ≡ false
        → Settles (deposit_verdict title_rules party account asset) (deposited title_rules party account asset) (held ts) (Err TooLittle) (held ts)
    deposit_little_by_content none lacks =
        record { told = sym (free_told none ∙ cond-true _ _ _ (ap (λ (b : Bool). ltb (cond b 1 0) 1) lacks)); counts = λ h u. refl }

    pub deposit_done_by_content : asset < length ts → content title_rules (held ts) account ≡ 0 → held_by (get_or ts asset None) (Party party) ≡ true
        → Settles (deposit_verdict title_rules party account asset) (deposited title_rules party account asset) (held ts) (Ok tt) (held (set ts asset (Some (Escrow account))))
    deposit_done_by_content lt none has =
        record {
          told = sym (free_told none ∙ cond-false _ _ _ (ap (λ (b : Bool). ltb (cond b 1 0) 1) has));
          counts = deposit_counts ts party account asset lt (held_is (get_or ts asset None) (Party party) has);
        }

  release_told_by_content : release_verdict title_rules account party (held ts) ≡ refuse (eqb (content title_rules (held ts) account) 0) AccountEmpty (Ok tt)
  release_told_by_content = cond-false _ _ _ (not_from_true _ (and_from _ _ (lt-ltb account max_legs a) (lt-ltb party max_parties p)))

  pub release_empty_by_content : content title_rules (held ts) account ≡ 0
      → Settles (release_verdict title_rules account party) (released account party) (held ts) (Err AccountEmpty) (held ts)
  release_empty_by_content none = record { told = sym (release_told_by_content ∙ cond-true _ _ _ (eq-eqb _ 0 none)); counts = λ h u. refl }

  pub release_done_by_content : (ys : List (Option Holder)) → 0 < content title_rules (held ts) account
      → ((k : ℕ) → get_or ys k None ≡ handed (get_or ts k None) (Escrow account) (Party party))
      → Settles (release_verdict title_rules account party) (released account party) (held ts) (Ok tt) (held ys)
  release_done_by_content ys some gave =
      record {
        told = sym (release_told_by_content ∙ cond-false _ _ _ (ne_eqb _ 0 (above (content title_rules (held ts) account) some)));
        counts = λ h u. ap (λ (t : Option Holder). cond (held_by t h) 1 0) (gave u) ∙ release_counts (get_or ts u None) account party h;
      }
    where
      above : (n : ℕ) → 0 < n → n ≡ 0 → ⊥
      above n lt e = omega arith
