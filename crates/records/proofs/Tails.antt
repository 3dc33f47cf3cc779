-- What stands behind a place of the bytes. `rest xs i` is `&xs[i..]` as the checker reads it.
use Rattle.std.proofs.Common.{◌≡◌, ℕ, ◌-◌, ◌≤◌, List, ◌∷◌, ◌++◌, length, get_or, take, drop, Err, Option, Result, sym, ap, ◌∙◌, subst, append_assoc, arith}
use Rattle.std.proofs.lemmas.List.{drop_more, take_rest, drop_at, length-append, take-append-drop}
use Rattle.swap.specs.declared.faults.Fault.{Fault}
use Rattle.records.specs.declared.record.Record.{Record}
use Rattle.records.specs.Reading.{Unread, Next}

abbrev rest : List ℕ → ℕ → List ℕ
rest xs i = take (length xs - i) (drop i xs)

opened : (xs : List ℕ) (i : ℕ) → 1 ≤ length (rest xs i) → drop i xs ≡ get_or (rest xs i) 0 0 ∷ rest (rest xs i) 1
opened xs i h =
    sym (take_rest xs i)
    ∙ drop_more (rest xs i) 0 0 h
    ∙ ap (λ r. get_or (rest xs i) 0 0 ∷ r) (sym (take_rest (rest xs i) 1))

pub refused :
    (xs : List ℕ) (i after : ℕ) (r : Result (Option (ℕ × Record)) Fault) (f g : Fault) → r ≡ Err g → g ≡ f → f.place ≡ i
    → 1 ≤ length (rest xs i) → Unread (get_or (rest xs i) 0 0) (rest (rest xs i) 1) f.reason → Next xs i after r
refused xs i after r f g e q p h u = subst (λ x. Next xs i after x) (sym (e ∙ ap Err q)) (p, (_, _, opened xs i h, u))

-- what follows a record
module _ (xs : List ℕ) (i k : ℕ) (body more : List ℕ) (h : 1 ≤ length (rest xs i)) (e : k ≡ get_or (rest xs i) 0 0) (f : body ++ more ≡ rest (rest xs i) 1) where
  split : drop i xs ≡ k ∷ body ++ more
  split = opened xs i h ∙ (λ j. sym e j ∷ sym f j)

  whole : xs ≡ (take i xs ++ k ∷ body) ++ more
  whole = sym (take-append-drop i xs) ∙ ap (λ t. take i xs ++ t) split ∙ sym (append_assoc (take i xs) (k ∷ body) more)

  follows : drop (length xs - length more) xs ≡ more
  follows =
      let n : length (take i xs ++ k ∷ body) ≡ length xs - length more = omega (arith, ap length whole, length-append (take i xs ++ k ∷ body) more) in
      ap (λ t. drop (length xs - length more) t) whole ∙ drop_at (take i xs ++ k ∷ body) more _ n

  pub found : k ∷ body ++ drop (length xs - length more) xs ≡ drop i xs
  found = ap (λ t. k ∷ body ++ t) follows ∙ sym split
