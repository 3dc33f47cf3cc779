-- The laws of every book.
use Rattle.std.proofs.Common.{◌≡◌, ℕ, ◌+◌, ◌-◌, ◌<◌, ◌≤◌, Bool, true, false, not, Ok, Err, Result, sym, refl, ap, ◌∙◌, subst, ⊎_elim, arith}
use mathlib.Core.Path.{fun_ext}
use Rattle.swap.proofs.Sums.{sum_set, sum_term}
use Rattle.ledgers.specs.Calls.{Answer, OnLedger, refuse, settled, credit_verdict, deposit_verdict, deposited, release_verdict, released, Deposited, Released, credited}
use Rattle.ledgers.specs.Laws.{SameTotals, DepositsComeBack, DepositsKeepTotals, ReleasesKeepTotals, PaidThrough, Then, Unmoved}
use Rattle.ledgers.specs.Stocks.{Counts, Stock, Rules, Lawful, worth, is_ledger, total, content}
use Rattle.ledgers.specs.declared.refusals.Refusal.{Refusal}
use Rattle.ledgers.specs.declared.refusals.Refusal.TheVariants.{OutOfRange}
use Rattle.std.proofs.lemmas.Bool.{cases_eq, cond-false, not-false, not_from_true, and_parts, ltb-true}
use Rattle.std.proofs.lemmas.Bool.Decides.{nat_tests}
use Rattle.swap.specs.Limits.{max_legs, max_parties}
use Rattle.swap.specs.Below.{sum_below}
use Rattle.swap.specs.declared.records.Holder.{Holder}
use Rattle.swap.specs.declared.records.Holder.TheVariants.{Party, Escrow}

-- what is accepted was refused by no test
pub accepted : {T : Type 0} (test : Bool) (reason : Refusal) (further : Result T Refusal) (x : T)
    → Ok x ≡ refuse test reason further → (test ≡ false) × (Ok x ≡ further)
accepted true reason further x h = let z : ◌≡◌ {A = ℕ} 0 1 = cc in absurd (omega arith)
accepted false reason further x h = (refl, h)

-- an asset is no more than a party has of each unit, if it is not of its own
pub worth_le : (k : Rules) (asset : ℕ) (has : ℕ → ℕ) → k.amount asset ≤ has (k.unit asset) → (u : ℕ) → worth k asset u ≤ has u
worth_le k asset has enough u = grind (arith, nat_tests)

-- ---- totals on one ledger, of any number of parties and accounts
abbrev total_of : ℕ → ℕ → Counts → ℕ → ℕ
total_of parties accounts f u = sum_below parties (λ p. f (Party p) u) + sum_below accounts (λ a. f (Escrow a) u)

module _ (n m : ℕ) (f : Counts) (party : ℕ) (exists : party < n) (u : ℕ) where
  -- a credit raises the total by its worth, a deposit and a release leave it
  pub credited_total : (k : Rules) (asset : ℕ) → total_of n m (credited k party asset f) u ≡ total_of n m f u + worth k asset u
  credited_total k asset =
      let parties = sum_set n party (f (Party party) u + worth k asset u) (λ p. f (Party p) u) exists in
      omega arith

  module _ (account : ℕ) (exists' : account < m) where
    pub deposited_total : (k : Rules) (asset : ℕ) → worth k asset u ≤ f (Party party) u
        → total_of n m (deposited k party account asset f) u ≡ total_of n m f u
    deposited_total k asset enough =
        let parties = sum_set n party (f (Party party) u - worth k asset u) (λ p. f (Party p) u) exists in
        let accounts = sum_set m account (f (Escrow account) u + worth k asset u) (λ a. f (Escrow a) u) exists' in
        omega arith

    pub released_total : total_of n m (released account party f) u ≡ total_of n m f u
    released_total =
        let parties = sum_set n party (f (Party party) u + f (Escrow account) u) (λ p. f (Party p) u) exists in
        let accounts = sum_set m account 0 (λ a. f (Escrow a) u) exists' in
        omega arith

-- ---- what an accepted call was tested for
pub accepted_credit : (k : Rules) (party asset : ℕ) (f : Counts) → Ok tt ≡ credit_verdict k party asset f → party < max_parties
accepted_credit k party asset f h =
    let range = (accepted _ _ _ tt h).0 in
    ltb-true party max_parties (and_parts _ _ (not-false _ range)).0

pub record DepositOk (k : Rules) (party account asset : ℕ) (f : Counts) : Type 0 where
  pub payer : party < max_parties
  pub free : account < max_legs
  pub asset_ok : k.valid asset ≡ true
  pub empty : content k f account ≡ 0
  pub enough : k.amount asset ≤ f (Party party) (k.unit asset)

pub accepted_deposit : (k : Rules) (party account asset : ℕ) (f : Counts) → Ok tt ≡ deposit_verdict k party account asset f
    → DepositOk k party account asset f
accepted_deposit k party account asset f h =
    record {
      payer = grind (arith, nat_tests);
      free = grind (arith, nat_tests);
      asset_ok = grind (arith, nat_tests);
      empty = grind (arith, nat_tests);
      enough = grind (arith, nat_tests);
    }

pub accepted_release : (k : Rules) (account party : ℕ) (f : Counts) → Ok tt ≡ release_verdict k account party f
    → (account < max_legs) × (party < max_parties)
accepted_release k account party f h = grind (arith, nat_tests)

-- ---- a call that passes its tests is accepted
pub credit_ok : (k : Rules) (party asset : ℕ) (f : Counts) → party < max_parties → k.valid asset ≡ true
    → total f (k.unit asset) + k.amount asset ≤ k.ceiling
    → credit_verdict k party asset f ≡ Ok tt
credit_ok k party asset f p ok fits = grind (arith, nat_tests)

pub deposit_ok : (k : Rules) (party account asset : ℕ) (f : Counts) → DepositOk k party account asset f
    → deposit_verdict k party account asset f ≡ Ok tt
deposit_ok k party account asset f ok = grind (arith, nat_tests)

pub release_ok : (k : Rules) (account party : ℕ) (f : Counts) → account < max_legs → party < max_parties → 0 < content k f account
    → release_verdict k account party f ≡ Ok tt
release_ok k account party f a p some = grind (arith, nat_tests)

-- ---- the laws of totals
-- a ledger's total is kept if the call's effect keeps it
on_total : (ledger : ℕ) (verdict : Counts → Answer) (effect : Counts → Counts) (s s' : Stock) (answer : Answer)
    → OnLedger ledger verdict effect s answer s'
    → (Ok tt ≡ verdict (s ledger) → (u : ℕ) → total (effect (s ledger)) u ≡ total (s ledger) u)
    → SameTotals s s'
on_total ledger verdict effect s s' answer did keeps l u =
    ⊎_elim
    (λ e. subst (λ x. total (s' x) u ≡ total (s x) u) (sym e) (here answer did))
    (λ ne. ap (λ (f : Counts). total f u) (fun_ext (λ h. fun_ext (λ v. did.others l ne h v))))
    (cases_eq l ledger)
  where
    here : (r : Answer) → OnLedger ledger verdict effect s r s' → total (s' ledger) u ≡ total (s ledger) u
    here (Ok _) d = ap (λ (f : Counts). total f u) (fun_ext (λ h. fun_ext (λ v. d.counts h v))) ∙ keeps (accepted _ _ _ tt d.told).1 u
    here (Err e) d = ap (λ (f : Counts). total f u) (fun_ext (λ h. fun_ext (λ v. d.counts h v)))

pub deposits_keep_totals : DepositsKeepTotals
deposits_keep_totals k ledger party account asset s s' answer did =
    on_total ledger _ _ s s' answer did
    (λ told u.
    let ok = accepted_deposit k party account asset (s ledger) told in
    deposited_total max_parties max_legs (s ledger) party ok.payer u account ok.free k asset
    (worth_le k asset (s ledger (Party party)) ok.enough u))

pub releases_keep_totals : ReleasesKeepTotals
releases_keep_totals k ledger account party s s' answer did =
    on_total ledger _ _ s s' answer did
    (λ told u.
    let ok = accepted_release k account party (s ledger) told in
    released_total max_parties max_legs (s ledger) party ok.1 u account ok.0)

-- ---- a deposit that is released to the payer
module _ (k : Rules) (lawful : Lawful k) (party account asset : ℕ) (f : Counts) (ok : DepositOk k party account asset f) where
  -- the account was empty of every unit
  none : (u : ℕ) → u < k.units → f (Escrow account) u ≡ 0
  none u lt = let part = sum_term k.units (f (Escrow account)) u lt in omega (arith, ok.empty)

  full : 0 < content k (deposited k party account asset f) account
  full =
      let some = lawful asset ok.asset_ok in
      let part = sum_term k.units (deposited k party account asset f (Escrow account)) (k.unit asset) some.1 in
      grind (arith, nat_tests)

  back : (h : Holder) (u : ℕ) → u < k.units → released account party (deposited k party account asset f) h u ≡ f h u
  back (Party p) u lt = let empty = none u lt in let enough = worth_le k asset (f (Party party)) ok.enough u in grind (arith, nat_tests)
  back (Escrow a) u lt = let empty = none u lt in grind (arith, nat_tests)

pub deposits_come_back : DepositsComeBack
deposits_come_back k lawful ledger party account asset s s' s'' answer put_up given =
    let ok = accepted_deposit k party account asset (s ledger) (accepted (not (is_ledger ledger)) OutOfRange _ tt put_up.told).1 in
    let there : s' ledger ≡ deposited k party account asset (s ledger) = fun_ext (λ h. fun_ext (λ u. put_up.counts h u)) in
    let some : is_ledger ledger ≡ true = not-false _ (accepted (not (is_ledger ledger)) OutOfRange _ tt put_up.told).0 in
    let yes : answer ≡ Ok tt
    = given.told
    ∙ cond-false _ _ _ (not_from_true _ some)
    ∙ ap (release_verdict k account party) there
    ∙ release_ok k account party (deposited k party account asset (s ledger)) ok.free ok.payer
    (full k lawful party account asset (s ledger) ok) in (
      yes,
      λ l h u lt.
          ⊎_elim
          (λ e. subst (λ x. s'' x h u ≡ s x h u) (sym e)
          (given.counts h u
          ∙ ap (λ r. settled r (released account party (s' ledger)) (s' ledger) h u) yes
          ∙ ap (λ (f : Counts). released account party f h u) there
          ∙ back k lawful party account asset (s ledger) ok h u lt))
          (λ ne. given.others l ne h u ∙ put_up.others l ne h u)
          (cases_eq l ledger),
    )

-- ---- a payment through an escrow account: it keeps the totals, and one to its own payer moves nothing
module _ (k : Rules) (ledger payer account receiver asset : ℕ) (s s'' : Stock) where
  paid : (first answer : Answer) (s' : Stock) → Deposited k ledger payer account asset s first s'
      → Then first (Released k ledger account receiver s' answer s'') ((answer ≡ first) × (s'' ≡ s')) → SameTotals s s''
  paid (Ok _) answer s' one two l u =
      releases_keep_totals k ledger account receiver s' s'' answer two l u ∙ deposits_keep_totals k ledger payer account asset s s' (Ok tt) one l u
  paid (Err e) answer s' one two l u =
      ap (λ (f : Stock). total (f l) u) two.1 ∙ deposits_keep_totals k ledger payer account asset s s' (Err e) one l u

  pub paid_totals : (answer : Answer) → PaidThrough k ledger payer account receiver asset s answer s'' → SameTotals s s''
  paid_totals answer did = paid did.first answer did.s' did.put_up did.passed_on

  unpaid : Lawful k → receiver ≡ payer → (first answer : Answer) (s' : Stock) → Deposited k ledger payer account asset s first s'
      → Then first (Released k ledger account receiver s' answer s'') ((answer ≡ first) × (s'' ≡ s')) → Unmoved k s s''
  unpaid lawful same (Ok _) answer s' one two l h u lt =
      (deposits_come_back k lawful ledger payer account asset s s' s'' answer one (subst (λ p. Released k ledger account p s' answer s'') same two)).1 l h u lt
  unpaid lawful same (Err e) answer s' one two l h u lt =
      ap (λ (f : Stock). f l h u) two.1
      ∙ ⊎_elim (λ here. subst (λ x. s' x h u ≡ s x h u) (sym here) (one.counts h u)) (λ ne. one.others l ne h u) (cases_eq l ledger)

  pub paid_back : Lawful k → receiver ≡ payer → (answer : Answer) → PaidThrough k ledger payer account receiver asset s answer s'' → Unmoved k s s''
  paid_back lawful same answer did = unpaid lawful same did.first answer did.s' did.put_up did.passed_on
