-- Lists of few bytes written out, and numbers of four bytes.
use Rattle.std.proofs.Common.{◌≡◌, ℕ, ◌+◌, ◌-◌, ◌*◌, ◌/◌, ◌%◌, ◌^◌, ◌<◌, ◌≤◌, List, [], ◌∷◌, length, get_or, take, drop, sym, ap, ◌∙◌, arith}
use Rattle.std.proofs.lemmas.List.{drop_more, drop_all, take_rest}
use Rattle.records.specs.Records.{bytes4}

abbrev pub at : List ℕ → ℕ → ℕ
at xs i = get_or xs i 0

pub two : (xs : List ℕ) → 2 ≤ length xs → xs ≡ at xs 0 ∷ at xs 1 ∷ drop 2 xs
two xs h = drop_more xs 0 0 (omega arith) ∙ ap (λ r. at xs 0 ∷ r) (drop_more xs 1 0 (omega arith))

pub three : (xs : List ℕ) → 3 ≤ length xs → xs ≡ at xs 0 ∷ at xs 1 ∷ at xs 2 ∷ drop 3 xs
three xs h = two xs (omega arith) ∙ ap (λ r. at xs 0 ∷ at xs 1 ∷ r) (drop_more xs 2 0 (omega arith))

pub four : (xs : List ℕ) → length xs ≡ 4 → xs ≡ at xs 0 ∷ at xs 1 ∷ at xs 2 ∷ at xs 3 ∷ []
four xs h =
    three xs (omega arith)
    ∙ ap (λ r. at xs 0 ∷ at xs 1 ∷ at xs 2 ∷ r)
    (drop_more xs 3 0 (omega arith) ∙ ap (λ r. at xs 3 ∷ r) (drop_all 4 xs (omega arith)))

-- the four bytes of a number that was put together from four bytes
pub number_holds :
    (xs : List ℕ) (n : ℕ) → length xs ≡ 4 → at xs 0 < 256 → at xs 1 < 256 → at xs 2 < 256 → at xs 3 < 256
    → n ≡ at xs 0 * 16777216 + at xs 1 * 65536 + at xs 2 * 256 + at xs 3 → bytes4 n ≡ xs
number_holds xs n l ha hb hc hd e =
    let p : n / 16777216 ≡ at xs 0 = omega arith in
    let q : (n / 65536) % 256 ≡ at xs 1 = omega arith in
    let r : (n / 256) % 256 ≡ at xs 2 = omega arith in
    let s : n % 256 ≡ at xs 3 = omega arith in
    let t : bytes4 n ≡ at xs 0 ∷ at xs 1 ∷ at xs 2 ∷ at xs 3 ∷ [] = λ i. p i ∷ q i ∷ r i ∷ s i ∷ [] in
    t ∙ sym (four xs l)

-- and back
pub number_of :
    (n : ℕ) → n < 2 ^ 32
    → (n / 16777216) * 16777216 + ((n / 65536) % 256) * 65536 + ((n / 256) % 256) * 256 + n % 256 ≡ n
number_of n h = omega arith

pub terms_hold :
    (xs : List ℕ) (b c : ℕ) → length xs ≡ 4 → b ≡ at xs 1 → c ≡ at xs 2 → at xs 0 ∷ b ∷ c ∷ at xs 3 ∷ [] ≡ xs
terms_hold xs b c l p q =
    let t : at xs 0 ∷ b ∷ c ∷ at xs 3 ∷ [] ≡ at xs 0 ∷ at xs 1 ∷ at xs 2 ∷ at xs 3 ∷ [] = λ i. at xs 0 ∷ p i ∷ q i ∷ at xs 3 ∷ [] in
    t ∙ sym (four xs l)

pub holding_holds :
    (xs : List ℕ) (n : ℕ) → 2 ≤ length xs → bytes4 n ≡ take (length xs - 2) (drop 2 xs)
    → at xs 0 ∷ at xs 1 ∷ bytes4 n ≡ xs
holding_holds xs n l e = ap (λ r. at xs 0 ∷ at xs 1 ∷ r) (e ∙ take_rest xs 2) ∙ sym (two xs l)

pub leg_holds :
    (xs : List ℕ) (n : ℕ) → 3 ≤ length xs → bytes4 n ≡ take (length xs - 3) (drop 3 xs)
    → at xs 0 ∷ at xs 1 ∷ at xs 2 ∷ bytes4 n ≡ xs
leg_holds xs n l e = ap (λ r. at xs 0 ∷ at xs 1 ∷ at xs 2 ∷ r) (e ∙ take_rest xs 3) ∙ sym (three xs l)
