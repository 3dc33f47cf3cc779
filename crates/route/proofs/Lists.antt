-- Lists of parties.
use Rattle.std.proofs.Common.{◌≡◌, ℕ, zero, suc, ◌-◌, ◌<◌, ◌≤◌, Bool, true, false, cond, not, ◌&&◌, eqb, ltb, ◌+◌, leb, List, [], ◌∷◌, ◌++◌, ◌∙◌, length, get_or, take, drop, replicate, Some, None, option_map, refl, sym, ap, arith, set, Decides, ⊎_elim, drop-cons}
use Rattle.route.specs.Views.{IsRoute, proper, suffix, first_party, last_party}
use Rattle.std.proofs.lemmas.Bool.{and_parts, and_from, leb-true, le-leb, lt-ltb, cond-true, both_ways, cond-false, cases_Bool, not_from_true}
use Rattle.std.proofs.lemmas.Bool.Decides.{nat_tests}
use Rattle.std.proofs.lemmas.List.{take_at, drop-replicate, length-drop, get_or-take, get_or-drop, length-take-le, take_more, take_more_set}
use Rattle.std.proofs.lemmas.Slice.{between_to_end}
use Rattle.std.specs.List.{list_any, position, position_or_len}
use Rattle.swap.specs.Limits.{max_parties}
use Rattle.swap.specs.Routes.{mem, distinct, last}

-- the library's test for an element
pub found : (x : ℕ) (ps : List ℕ) → list_any (λ y. eqb y x) ps ≡ mem x ps
found x [] = refl
found x (y ∷ ps) = let e = found x ps in grind (arith, nat_tests, e)

-- the parties, and what is left of eight zeros, are a route
pub is_route : (ps : List ℕ) → proper ps ≡ true
    → IsRoute (record { parties = ps ++ drop (length ps) (replicate max_parties 0); len = length ps })
is_route ps h =
    let e = take_at ps (drop (length ps) (replicate max_parties 0)) (length ps) refl in
    record {
      route = rw e h;
      len = rw e refl;
      padding = rw e (ap (λ zs. ps ++ zs) (drop-replicate (length ps) max_parties 0));
    }

-- no party stands twice: the first not among the others, and none of these twice
pub distinct_rest : (ps rest : List ℕ) → 1 ≤ length ps → rest ≡ drop 1 ps
    → distinct ps ≡ (not (list_any (λ y. eqb y (get_or ps 0 0)) rest) && distinct rest)
distinct_rest [] rest l e = absurd (omega arith)
distinct_rest (x ∷ ps) rest l e = rw (e, found x ps) refl

pub distinct_drop : (n : ℕ) (ps : List ℕ) → distinct ps ≡ true → distinct (drop n ps) ≡ true
distinct_drop zero ps h = h
distinct_drop (suc n) [] h = h
distinct_drop (suc n) (x ∷ ps) h = distinct_drop n ps (and_parts (not (mem x ps)) (distinct ps) h).1

-- what is left of a route at a place on it
pub proper_rest : (n : ℕ) (ps : List ℕ) → proper ps ≡ true → n < length ps → proper (take (length ps - n) (drop n ps)) ≡ true
proper_rest n ps h l =
    let a = and_parts (leb 1 (length ps) && leb (length ps) max_parties) (distinct ps) h in
    let most : length ps ≤ max_parties = leb-true _ _ (and_parts (leb 1 (length ps)) (leb (length ps) max_parties) a.0).1 in
    let e = length-drop n ps in
    rw (between_to_end ps n (length ps) (omega arith))
    (and_from _ _ (and_from _ _ (le-leb 1 (length (drop n ps)) (omega arith)) (le-leb (length (drop n ps)) max_parties (omega arith)))
    (distinct_drop n ps a.1))

-- the part of a list from a party on is what is left at its place
pub suffix_is : (p : ℕ) (ps : List ℕ) → suffix p ps ≡ option_map (λ i. drop i ps) (position (λ q. eqb p q) ps)
suffix_is p [] = refl
suffix_is p (x ∷ ps) = step (eqb p x) (suffix_is p ps)
  where
    n : ℕ
    n = position_or_len (λ q. eqb p q) ps

    step : (b : Bool) → suffix p ps ≡ option_map (λ i. drop i ps) (cond (ltb n (length ps)) (Some n) None)
        → cond b (Some (x ∷ ps)) (suffix p ps)
        ≡ option_map (λ i. drop i (x ∷ ps)) (cond (ltb (cond (not b) (1 + n) 0) (suc (length ps))) (Some (cond (not b) (1 + n) 0)) None)
    step true e =
        let here = lt-ltb 0 (suc (length ps)) (omega arith) in
        ap (option_map (λ i. drop i (x ∷ ps))) (sym (cond-true (ltb 0 (suc (length ps))) (Some 0) None here))
    step false e = grind (arith, nat_tests, e)

-- the first and the last party by their places
pub first_at : (n : ℕ) (ps : List ℕ) → 1 ≤ n → get_or ps 0 0 ≡ first_party (take n ps)
first_at zero ps h = absurd (omega arith)
first_at (suc n) [] h = refl
first_at (suc n) (x ∷ ps) h = refl

last_from : (x : ℕ) (r : List ℕ) → get_or (x ∷ r) (length r) 0 ≡ last x r
last_from x [] = refl
last_from x (y ∷ r) = last_from y r

last_of_at : (ps : List ℕ) (n : ℕ) → length ps ≡ suc n → get_or ps n 0 ≡ last_party ps
last_of_at [] n e = refl
last_of_at (x ∷ r) n e = let k : n ≡ length r = omega arith in rw k (last_from x r)

pub last_at : (n : ℕ) (ps : List ℕ) → 1 ≤ n → n ≤ length ps → get_or ps (n - 1) 0 ≡ last_party (take n ps)
last_at n ps h l =
    let k : length (take n ps) ≡ suc (n - 1) = length-take-le n ps l ∙ omega arith in
    let e : get_or (take n ps) (n - 1) 0 ≡ get_or ps (n - 1) 0 = get_or-take n ps (n - 1) 0 (omega arith) in
    sym e ∙ last_of_at (take n ps) (n - 1) k

-- one more party copied from the place n on
pub copied : (n i d : ℕ) (xs ys : List ℕ) → n + i < length xs → i < length ys
    → take i ys ≡ take i (drop n xs) → take (i + 1) (set ys i (get_or xs (n + i) d)) ≡ take (i + 1) (drop n xs)
copied n i d xs ys l m e =
    take_more_set ys i (get_or xs (n + i) d) m
    ∙ ap (λ zs. zs ++ get_or xs (n + i) d ∷ []) e
    ∙ ap (λ x. take i (drop n xs) ++ x ∷ []) (sym (get_or-drop n xs i d))
    ∙ sym (take_more (drop n xs) i d (simp length-drop (omega arith)))

-- what makes a list a route: one party or more, not too many, and none twice
proper_is : (ps : List ℕ) → Decides (proper ps) ((1 ≤ length ps) × (length ps ≤ max_parties) × (distinct ps ≡ true))
proper_is ps = (
  λ h.
      let a = and_parts (leb 1 (length ps) && leb (length ps) max_parties) (distinct ps) h in
      let b = and_parts (leb 1 (length ps)) (leb (length ps) max_parties) a.0 in
      (leb-true _ _ b.0, leb-true _ _ b.1, a.1),
  λ h. and_from _ _ (and_from _ _ (le-leb _ _ h.0) (le-leb _ _ h.1)) h.2,
)

-- a list as an answer, if it is a route: where its parties are known, where it is none, where it is too long, and where a party stands twice
module _ (ps : List ℕ) where
  pub route_of_is_route : (n : ℕ) (xs : List ℕ) → 1 ≤ n → n ≤ max_parties → n ≤ length xs → distinct (take n xs) ≡ true → take n xs ≡ ps
      → Some (take n xs) ≡ cond (proper ps) (Some ps) None
  route_of_is_route n xs h m l d e =
      let k : length ps ≡ n = ap length (sym e) ∙ length-take-le n xs l in
      let g : proper ps ≡ true = (proper_is ps).1 (omega arith, omega arith, rw e at d) in
      ap Some e ∙ sym (cond-true (proper ps) (Some ps) None g)

  no_route : (((1 ≤ length ps) × (length ps ≤ max_parties) × (distinct ps ≡ true)) → ⊥) → None ≡ cond (proper ps) (Some ps) None
  no_route n = sym (cond-false (proper ps) (Some ps) None (⊎_elim (λ e. absurd (n ((proper_is ps).0 e))) (λ e. e) (cases_Bool (proper ps))))

  pub long : (n i : ℕ) (xs : List ℕ) → max_parties ≤ n → n ≤ length xs → i < length ps → take n xs ≡ drop (suc i) ps
      → None ≡ cond (proper ps) (Some ps) None
  long n i xs h l m e =
      let k : n ≡ length ps - suc i = sym (length-take-le n xs l) ∙ ap length e ∙ length-drop (suc i) ps in
      no_route (λ g. let b = g.1 in omega arith)

  pub twice : (i : ℕ) → i < length ps → mem (get_or ps i 0) (drop (suc i) ps) ≡ true → None ≡ cond (proper ps) (Some ps) None
  twice i l h = no_route (λ g. both_ways _ (not_from_true _ h) (and_parts _ _ (rw (drop-cons ps i 0 l) at (distinct_drop i ps g.2))).0)
