-- All joined routes of a small plan, level by level: a test that holds of each one computed holds of each one there is.
use Rattle.std.proofs.Common.{◌≡◌, ℕ, zero, suc, ◌<◌, ◌≤◌, Bool, true, false, cond, not, ◌&&◌, ◌||◌, eqb, List, [], ◌∷◌, ◌++◌, length, sym, refl, ap, subst, ⊎_elim, arith}
use Rattle.swap.proofs.Below.{some_of, some_in}
use Rattle.swap.specs.Below.{some_below}
use Rattle.graph.specs.Graphs.{Pays}
use Rattle.std.proofs.lemmas.Bool.{and_parts, and_from, both_ways, eq-eqb, not_from_false, cases_eq, eqb-true, not-true, or_cases}
use Rattle.std.proofs.lemmas.List.Elements.{All-nil, All-cons, All-head, All-tail, All-append}
use Rattle.std.specs.List.{All}
use Rattle.swap.specs.Routes.{mem, Joined}
use Rattle.swap.specs.Views.{leg_at}
use Rattle.swap.specs.declared.records.Leg.{Leg}

-- x pays a leg to y: the test
abbrev pub pays : List Leg → ℕ → ℕ → Bool
pays legs x y = some_below (length legs) (λ i. eqb (leg_at legs i).payer x && eqb (leg_at legs i).receiver y)

pub pays_found : (legs : List Leg) (x y : ℕ) → Pays legs x y → pays legs x y ≡ true
pays_found legs x y p =
    some_of (length legs) (λ i. eqb (leg_at legs i).payer x && eqb (leg_at legs i).receiver y) p.0 p.1
    (and_from _ _ (eq-eqb _ _ p.2) (eq-eqb _ _ p.3))

pays_sound : (legs : List Leg) (x y : ℕ) → pays legs x y ≡ true → Pays legs x y
pays_sound legs x y e =
    let r = some_in (length legs) (λ i. eqb (leg_at legs i).payer x && eqb (leg_at legs i).receiver y) e in
    let a = and_parts (eqb (leg_at legs r.0).payer x) (eqb (leg_at legs r.0).receiver y) r.2 in
    (r.0, r.1, eqb-true (leg_at legs r.0).payer x a.0, eqb-true (leg_at legs r.0).receiver y a.1)

-- does the test hold of every element?
abbrev pub every : {X : Type 0} → (X → Bool) → List X → Bool
every p [] = true
every p (x ∷ xs) = p x && every p xs

-- the routes with x in front, for every x below n
abbrev pub longer : List Leg → ℕ → List ℕ → List (List ℕ)
longer legs zero r = []
longer legs (suc n) [] = []
longer legs (suc n) (y ∷ r) =
    cond (pays legs n y && not (mem n (y ∷ r))) ((n ∷ y ∷ r) ∷ longer legs n (y ∷ r)) (longer legs n (y ∷ r))

abbrev pub all_longer : List Leg → ℕ → List (List ℕ) → List (List ℕ)
all_longer legs n [] = []
all_longer legs n (r ∷ rs) = longer legs n r ++ all_longer legs n rs

abbrev pub singles : ℕ → List (List ℕ)
singles zero = []
singles (suc n) = (n ∷ []) ∷ singles n

-- the joined routes of k + 1 parties below n
abbrev pub level : List Leg → ℕ → ℕ → List (List ℕ)
level legs n zero = singles n
level legs n (suc k) = all_longer legs n (level legs n k)

-- the first k levels pass the test, and the next is empty
abbrev pub passes : List Leg → ℕ → ℕ → (List ℕ → Bool) → Bool
passes legs n zero p = true
passes legs n (suc k) p = every p (level legs n k) && passes legs n k p

-- does one element pass the test?
abbrev pub some : {X : Type 0} → (X → Bool) → List X → Bool
some p [] = false
some p (x ∷ xs) = p x || some p xs

-- does a route of the first k levels pass it?
abbrev pub met : List Leg → ℕ → ℕ → (List ℕ → Bool) → Bool
met legs n zero p = false
met legs n (suc k) p = some p (level legs n k) || met legs n k p

abbrev pub none : List (List ℕ) → Bool
none [] = true
none (r ∷ rs) = false

pub data In {X : Type 0} (x : X) : List X → Type 0 where
  here : {xs : List X} → In x (x ∷ xs)
  later : {y : X} {xs : List X} → In x xs → In x (y ∷ xs)

in_left : {X : Type 0} {x : X} {xs : List X} (ys : List X) → In x xs → In x (xs ++ ys)
in_left ys here = here
in_left ys (later i) = later (in_left ys i)

in_right : {X : Type 0} {x : X} (xs : List X) {ys : List X} → In x ys → In x (xs ++ ys)
in_right [] i = i
in_right (y ∷ xs) i = later (in_right xs i)

in_every : {X : Type 0} (p : X → Bool) {x : X} {xs : List X} → every p xs ≡ true → In x xs → p x ≡ true
in_every p {x} e (here {xs = xs}) = (and_parts (p x) (every p xs) e).0
in_every p e (later {y = y} {xs = xs} i) = in_every p (and_parts (p y) (every p xs) e).1 i

in_none : {r : List ℕ} {rs : List (List ℕ)} → none rs ≡ true → In r rs → ⊥
in_none e here = both_ways false refl e
in_none e (later i) = both_ways false refl e

in_singles : (n x : ℕ) → x < n → In (x ∷ []) (singles n)
in_singles zero x h = absurd (omega arith)
in_singles (suc n) x h =
    ⊎_elim
    (λ e. subst (λ y. In (x ∷ []) ((y ∷ []) ∷ singles n)) e here)
    (λ ne. later (in_singles n x (omega (arith, ne))))
    (cases_eq x n)

in_cond : {X : Type 0} {x : X} (b : Bool) (y : X) (xs : List X) → In x xs → In x (cond b (y ∷ xs) xs)
in_cond true y xs i = later i
in_cond false y xs i = i

in_longer : (legs : List Leg) (n x y : ℕ) (r : List ℕ) → x < n → (pays legs x y && not (mem x (y ∷ r))) ≡ true
    → In (x ∷ y ∷ r) (longer legs n (y ∷ r))
in_longer legs zero x y r h e = absurd (omega arith)
in_longer legs (suc n) x y r h e =
    ⊎_elim
    (λ q. subst (λ z. In (x ∷ y ∷ r) (cond (pays legs z y && not (mem z (y ∷ r))) ((z ∷ y ∷ r) ∷ longer legs n (y ∷ r))
    (longer legs n (y ∷ r)))) q
    (subst (λ b. In (x ∷ y ∷ r) (cond b ((x ∷ y ∷ r) ∷ longer legs n (y ∷ r)) (longer legs n (y ∷ r)))) (sym e) here))
    (λ ne. in_cond _ _ _ (in_longer legs n x y r (omega (arith, ne)) e))
    (cases_eq x n)

in_all : (legs : List Leg) (n x y : ℕ) (r : List ℕ) (rs : List (List ℕ)) → x < n → (pays legs x y && not (mem x (y ∷ r))) ≡ true →
    In (y ∷ r) rs → In (x ∷ y ∷ r) (all_longer legs n rs)
in_all legs n x y r [] h e i = elim i [ ]
in_all legs n x y r (q ∷ rs) h e here = in_left (all_longer legs n rs) (in_longer legs n x y r h e)
in_all legs n x y r (q ∷ rs) h e (later i) = in_right (longer legs n q) (in_all legs n x y r rs h e i)

-- every joined route of k + 1 parties below n stands in its level
pub in_level : (legs : List Leg) (n k : ℕ) (r : List ℕ) → Joined (Pays legs) r → All (λ x. x < n) r → length r ≡ suc k
    → In r (level legs n k)
in_level legs n zero [] j a e = absurd j
in_level legs n zero (x ∷ []) j a e = in_singles n x (All-head (λ z. z < n) x [] a)
in_level legs n zero (x ∷ (y ∷ r)) j a e = absurd (omega arith)
in_level legs n (suc k) [] j a e = absurd j
in_level legs n (suc k) (x ∷ []) j a e = absurd (omega arith)
in_level legs n (suc k) (x ∷ (y ∷ r)) j a e =
    in_all legs n x y r (level legs n k) (All-head (λ z. z < n) x (y ∷ r) a)
    (and_from (pays legs x y) (not (mem x (y ∷ r))) (pays_found legs x y j.0) (not_from_false _ j.1))
    (in_level legs n k (y ∷ r) j.2 (All-tail (λ z. z < n) x (y ∷ r) a) (omega arith))

-- where a level is empty, no route has that many parties or more
pub ends : (legs : List Leg) (n k : ℕ) → none (level legs n k) ≡ true → (r : List ℕ) → Joined (Pays legs) r → All (λ x. x < n) r
    → length r ≤ k
ends legs n k e [] j a = absurd j
ends legs n zero e (x ∷ []) j a = absurd (in_none e (in_singles n x (All-head (λ z. z < n) x [] a)))
ends legs n (suc k) e (x ∷ []) j a = omega arith
ends legs n k e (x ∷ (y ∷ r)) j a =
    let i = ends legs n k e (y ∷ r) j.2 (All-tail (λ z. z < n) x (y ∷ r) a) in
    ⊎_elim
    (λ q. absurd (in_none e (in_level legs n k (x ∷ y ∷ r) j a (ap suc q))))
    (λ ne. omega (arith, ne))
    (cases_eq (suc (length r)) k)

passes_at : (legs : List Leg) (n k m : ℕ) (p : List ℕ → Bool) → passes legs n k p ≡ true → m < k → every p (level legs n m) ≡ true
passes_at legs n zero m p e h = absurd (omega arith)
passes_at legs n (suc k) m p e h =
    let b = and_parts (every p (level legs n k)) (passes legs n k p) e in
    ⊎_elim
    (λ q. subst (λ i. every p (level legs n i) ≡ true) (sym q) b.0)
    (λ ne. passes_at legs n k m p b.1 (omega (arith, ne)))
    (cases_eq m k)

-- a test that all levels pass, up to an empty one, holds of every joined route of parties below n
pub every_route :
    (legs : List Leg) (n k : ℕ) (p : List ℕ → Bool) → none (level legs n k) ≡ true → passes legs n k p ≡ true →
    (r : List ℕ) → Joined (Pays legs) r → All (λ x. x < n) r → p r ≡ true
every_route legs n k p e t [] j a = absurd j
every_route legs n k p e t (x ∷ r) j a =
    in_every p (passes_at legs n k (length r) p t (ends legs n k e (x ∷ r) j a)) (in_level legs n (length r) (x ∷ r) j a refl)

-- Every route in a level is a joined route of parties below n.
module _ (legs : List Leg) (n : ℕ) where
  abbrev Found : List ℕ → Type 0
  Found r = Joined (Pays legs) r × All (λ x. x < n) r

  in_front : (m y : ℕ) (r : List ℕ) → m < n → Found (y ∷ r) → All Found (longer legs m (y ∷ r)) →
      (b : Bool) → (pays legs m y && not (mem m (y ∷ r))) ≡ b
      → All Found (cond b ((m ∷ y ∷ r) ∷ longer legs m (y ∷ r)) (longer legs m (y ∷ r)))
  in_front m y r h f rest true e =
      let a = and_parts (pays legs m y) (not (mem m (y ∷ r))) e in
      All-cons Found (m ∷ y ∷ r) (longer legs m (y ∷ r))
      ((pays_sound legs m y a.0, not-true (mem m (y ∷ r)) a.1, f.0), All-cons (λ z. z < n) m (y ∷ r) h f.1) rest
  in_front m y r h f rest false e = rest

  longer_found : (m : ℕ) → m ≤ n → (r : List ℕ) → Found r → All Found (longer legs m r)
  longer_found zero h r f = All-nil Found
  longer_found (suc m) h [] f = All-nil Found
  longer_found (suc m) h (y ∷ r) f =
      in_front m y r h f (longer_found m (omega arith) (y ∷ r) f) (pays legs m y && not (mem m (y ∷ r))) refl

  all_found : (rs : List (List ℕ)) → All Found rs → All Found (all_longer legs n rs)
  all_found [] f = All-nil Found
  all_found (r ∷ rs) f =
      All-append Found (longer legs n r) (all_longer legs n rs) (longer_found n (omega arith) r (All-head Found r rs f))
      (all_found rs (All-tail Found r rs f))

  singles_found : (m : ℕ) → m ≤ n → All Found (singles m)
  singles_found zero h = All-nil Found
  singles_found (suc m) h =
      All-cons Found (m ∷ []) (singles m) (tt, All-cons (λ z. z < n) m [] h (All-nil (λ z. z < n))) (singles_found m (omega arith))

  level_found : (k : ℕ) → All Found (level legs n k)
  level_found zero = singles_found n (omega arith)
  level_found (suc k) = all_found (level legs n k) (level_found k)

  some_found : (p : List ℕ → Bool) (rs : List (List ℕ)) → All Found rs → some p rs ≡ true → (r : List ℕ) × Found r × (p r ≡ true)
  some_found p [] f e = absurd (both_ways false refl e)
  some_found p (r ∷ rs) f e =
      ⊎_elim (λ h. (r, All-head Found r rs f, h)) (some_found p rs (All-tail Found r rs f)) (or_cases (p r) (some p rs) e)

  -- a test that one of the first k levels passes holds of some joined route
  pub some_route : (k : ℕ) (p : List ℕ → Bool) → met legs n k p ≡ true
      → (r : List ℕ) × Joined (Pays legs) r × All (λ x. x < n) r × (p r ≡ true)
  some_route zero p e = absurd (both_ways false refl e)
  some_route (suc k) p e =
      ⊎_elim
      (λ h. let s = some_found p (level legs n k) (level_found k) h in (s.0, s.1.0, s.1.1, s.2))
      (some_route k p)
      (or_cases (some p (level legs n k)) (met legs n k p) e)
