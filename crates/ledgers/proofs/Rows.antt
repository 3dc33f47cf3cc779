-- The stock of a list of ledgers: what it says of one of them, and what a change of one leaves.
use Rattle.std.proofs.Common.{◌≡◌, ℕ, zero, suc, ◌<◌, not, List, [], ◌∷◌, map, length, get_or, set, Ok, subst, sym, refl, ap, ◌∙◌, arith, get_or-set_other, get_or-set_same, lt-ltb}
use lib.Seq.{map-set}
use mathlib.Core.Path.{fun_ext}
use Rattle.std.proofs.lemmas.List.{get_or-map, length-map}
use Rattle.std.proofs.lemmas.List.Elements.{All-head, All-tail}
use Rattle.std.proofs.lemmas.Bool.Decides.{nat_tests}
use Rattle.std.specs.List.{All}
use Rattle.ledgers.specs.Calls.{Answer, Cleared, OnLedger, Settles, settled, refuse}
use Rattle.ledgers.specs.Rows.{stock_of}
use Rattle.ledgers.specs.Stocks.{Counts, IsEmpty, is_ledger}
use Rattle.ledgers.specs.declared.refusals.Refusal.TheVariants.{OutOfRange}
use Rattle.swap.specs.Limits.{book_ledgers}
use Rattle.swap.specs.declared.records.Holder.{Holder}

-- ledgers with nothing on them have nothing together
pub all_cleared : {L : Type 0} (counts : L → Counts) (xs : List L) → All (λ x. IsEmpty (counts x)) xs → Cleared (stock_of counts xs)
all_cleared counts [] all l = λ h u. refl
all_cleared counts (x ∷ xs) all zero = All-head (λ y. IsEmpty (counts y)) x xs all
all_cleared counts (x ∷ xs) all (suc l) = all_cleared counts xs (All-tail (λ y. IsEmpty (counts y)) x xs all) l

-- a ledger that is found in a book exists, and is at its number
found : (ledger place : ℕ) → Ok place ≡ refuse (not (is_ledger ledger)) OutOfRange (Ok ledger) → (ledger < book_ledgers) × (ledger ≡ place)
found ledger place h = grind (arith, nat_tests)

module _ {L : Type 0} (counts : L → Counts) (xs : List L) (four : length xs ≡ book_ledgers)
    (verdict : Counts → Answer) (effect : Counts → Counts) (answer : Answer) where
  pub at_place : (place : ℕ) (d y : L) → place < book_ledgers
      → Settles verdict effect (counts (get_or xs place d)) answer (counts y)
      → OnLedger place verdict effect (stock_of counts xs) answer (stock_of counts (set xs place y))
  at_place place d y few did =
      let lt : place < length xs = omega arith in
      let at : stock_of counts xs place ≡ counts (get_or xs place d)
      = fun_ext (λ h. fun_ext (λ u. get_or-map (λ l. counts l h u) xs place d 0 lt)) in
      let short : (h : Holder) (u : ℕ) → place < length (map (λ l. counts l h u) xs) = λ h u. rw length-map lt in
      record {
        told = rw (lt-ltb place book_ledgers few) (did.told ∙ sym (ap verdict at));
        counts = λ h u.
            rw (map-set (λ l. counts l h u) xs place y) (get_or-set_same _ place _ 0 (short h u))
            ∙ did.counts h u
            ∙ ap (λ f. settled answer (effect f) f h u) (sym at);
        others = λ l ne h u. rw (map-set (λ l. counts l h u) xs place y) (get_or-set_other _ place l _ 0 ne);
      }

  -- a call on one ledger is a call on the book
  pub on_ledger : (ledger place : ℕ) (d y : L) → Ok place ≡ refuse (not (is_ledger ledger)) OutOfRange (Ok ledger)
      → Settles verdict effect (counts (get_or xs place d)) answer (counts y)
      → OnLedger ledger verdict effect (stock_of counts xs) answer (stock_of counts (set xs place y))
  on_ledger ledger place d y there did =
      let few = found ledger place there in
      let here : place < book_ledgers = omega arith in
      subst (λ n. OnLedger n verdict effect (stock_of counts xs) answer (stock_of counts (set xs place y)))
      (sym few.1) (at_place place d y here did)
