-- Routes whose suffixes are signed.
use Rattle.std.proofs.Common.{◌≡◌, ℕ, ◌<◌, ◌≤◌, Bool, true, false, not, ◌&&◌, ◌||◌, eqb, List, [], ◌∷◌, length, Some, None, Option, sym, refl, ap, subst, ⊎_elim, arith, is_some}
use Rattle.swap.proofs.Below.{some_in, some_of}
use Rattle.protocol.proofs.Invariants.{Signed, Way, one, more}
use Rattle.protocol.specs.State.{conforming}
use Rattle.protocol.specs.Tables.{same_list}
use Rattle.protocol.specs.Verdicts.{begins, ends, is_route, pays, joined, suffixes_signed}
use Rattle.std.proofs.lemmas.Bool.{eqb-true, eq-eqb, and_parts, and_from, or_cases, or_left, or_right, not-true, not_from_false}
use Rattle.swap.specs.Routes.{mem, last, Joined}
use Rattle.swap.specs.Swaps.{Swap, Sound, Pays}

pub same_refl : (r : List ℕ) → same_list r r ≡ true
same_refl [] = refl
same_refl (x ∷ r) = grind (arith, same_refl r)

pub same_eq : (q r : List ℕ) → same_list q r ≡ true → q ≡ r
same_eq [] [] e = refl
same_eq [] (y ∷ r) e = grind arith
same_eq (x ∷ q) [] e = grind arith
same_eq (x ∷ q) (y ∷ r) e =
    let h = and_parts (eqb x y) (same_list q r) e in
    let a = eqb-true x y h.0 in
    let b = same_eq q r h.1 in
    cc

pub route_of_is_route : (o : Option (List ℕ)) (r : List ℕ) → is_route o r ≡ true → o ≡ Some r
route_of_is_route None r e = grind arith
route_of_is_route (Some q) r e = ap {B = Option (List ℕ)} Some (same_eq q r e)

pub route_is : (o : Option (List ℕ)) (r : List ℕ) → o ≡ Some r → is_route o r ≡ true
route_is o r e = rw e (same_refl r)

pub some_none : (o : Option (List ℕ)) → o ≡ None → is_some o ≡ true → ⊥
some_none o e h = grind arith

pub none_of : (o : Option (List ℕ)) → is_some o ≡ false → o ≡ None
none_of None e = refl
none_of (Some q) e = grind arith

pub of_some : (o : Option (List ℕ)) → is_some o ≡ true → (q : List ℕ) × (o ≡ Some q)
of_some None e = grind arith
of_some (Some q) e = (q, refl)

pub some_is_some : (o : Option (List ℕ)) (q : List ℕ) → o ≡ Some q → is_some o ≡ true
some_is_some o q e = rw e refl

-- some route has a party
pub span_some : (p : Swap) → Sound p → 1 ≤ p.span
span_some p s = go s.spanned.some.0 s.spanned.some.1 s.spanned.some.3
  where
    go : (r : List ℕ) → Joined (Pays p) r → length r ≡ p.span → 1 ≤ p.span
    go [] j e = absurd j
    go (x ∷ r) j e = omega arith

module _ (p : Swap) where
  pub pays_in : (x y : ℕ) → pays p x y ≡ true → Pays p x y
  unfolding pays
  pays_in x y e =
      let t = some_in p.legs (λ i. eqb (p.payer i) x && eqb (p.receiver i) y) e in
      let h = and_parts _ _ t.2 in
      (t.0, t.1, eqb-true _ _ h.0, eqb-true _ _ h.1)

  pub pays_of : (i : ℕ) → i < p.legs → (x y : ℕ) → p.payer i ≡ x → p.receiver i ≡ y → pays p x y ≡ true
  unfolding pays
  pays_of i h x y a b = some_of p.legs (λ k. eqb (p.payer k) x && eqb (p.receiver k) y) i h (and_from _ _ (eq-eqb _ _ a) (eq-eqb _ _ b))

  pub way_mono : {σ σ' : Signed} {x lock : ℕ} {r : List ℕ}
      → ((v l : ℕ) (q : List ℕ) → conforming p v ≡ true → σ v l ≡ Some q → σ' v l ≡ Some q) → Way p σ x lock r → Way p σ' x lock r
  way_mono keep (one {x} h) = one (λ c. keep x x (x ∷ []) c (h c))
  way_mono keep (more {x} {y} {lock} {r} a b h w) = more a b (λ c. keep x lock (x ∷ (y ∷ r)) c (h c)) (way_mono keep w)

  pub way_signed : {σ : Signed} {x lock : ℕ} {r : List ℕ} → Way p σ x lock r → (v : ℕ) → conforming p v ≡ true → mem v r ≡ true
      → is_some (σ v lock) ≡ true
  way_signed {σ} (one {x} h) v c m =
      let e : v ≡ x = ⊎_elim (λ t. eqb-true v x t) (λ f. grind arith)
      (or_cases (eqb v x) false m) in
      some_is_some (σ v x) (x ∷ []) (rw e (h (rw (← e) c)))
  way_signed {σ} (more {x} {y} {lock} {r} a b h w) v c m = ⊎_elim
      (λ t. let e = eqb-true v x t in some_is_some (σ v lock) (x ∷ (y ∷ r)) (rw e (h (rw (← e) c))))
      (λ t. way_signed w v c t)
      (or_cases (eqb v x) (mem v (y ∷ r)) m)

  pub way_last : {σ : Signed} {x lock : ℕ} {r : List ℕ} → Way p σ x lock r → mem lock r ≡ true
  way_last (one {x} h) = or_left (eqb x x) false (eq-eqb x x refl)
  way_last (more {x} {y} {lock} {r} a b h w) = or_right (eqb lock x) (mem lock (y ∷ r)) (way_last w)

  pub way_front : {σ : Signed} {y lock : ℕ} {r : List ℕ} → Way p σ y lock r → (x : ℕ) → pays p x y ≡ true → mem x r ≡ false
      → σ x lock ≡ Some (x ∷ r) → Way p σ x lock (x ∷ r)
  way_front (one h) x a b e = more a b (λ _. e) (one h)
  way_front (more a' b' h w) x a b e = more a b (λ _. e) (more a' b' h w)

  pub way_begins : {σ : Signed} {x lock : ℕ} {r : List ℕ} → Way p σ x lock r → begins x r ≡ true
  way_begins (one {x} h) = eq-eqb x x refl
  way_begins (more {x} a b h w) = eq-eqb x x refl

  pub way_ends : {σ : Signed} {x lock : ℕ} {r : List ℕ} → Way p σ x lock r → ends r ≡ lock
  way_ends (one h) = refl
  way_ends (more a b h w) = way_ends w

  pub way_joined : {σ : Signed} {x lock : ℕ} {r : List ℕ} → Way p σ x lock r → joined p r ≡ true
  way_joined (one h) = refl
  way_joined (more {x} {y} {lock} {r} a b h w) = and_from _ _ (and_from _ _ a (not_from_false _ b)) (way_joined w)

  pub suffix_signed : (c : Bool) (o : Option (List ℕ)) (r : List ℕ) → (c ≡ true → o ≡ Some r) → (not c || is_route o r) ≡ true
  suffix_signed c o r h = grind (arith, route_is o r)

  pub signed_suffix : (c : Bool) (o : Option (List ℕ)) (r : List ℕ) → (not c || is_route o r) ≡ true → c ≡ true → o ≡ Some r
  signed_suffix c o r h e = grind (arith, route_of_is_route o r)

  pub way_suffixes : {σ : Signed} {x lock : ℕ} {r : List ℕ} → Way p σ x lock r → suffixes_signed p σ lock r ≡ true
  way_suffixes {σ} (one {x} h) = and_from _ _ (suffix_signed (conforming p x) (σ x x) (x ∷ []) h) refl
  way_suffixes {σ} (more {x} {y} {lock} {r} a b h w) =
      and_from _ _ (suffix_signed (conforming p x) (σ x lock) (x ∷ (y ∷ r)) h) (way_suffixes w)

  pub way_of : (σ : Signed) (x lock : ℕ) (r : List ℕ) → last x r ≡ lock → joined p (x ∷ r) ≡ true → suffixes_signed p σ lock (x ∷ r) ≡ true
      → Way p σ x lock (x ∷ r)
  way_of σ x lock [] e j t =
      let h = signed_suffix (conforming p x) (σ x lock) (x ∷ []) (and_parts _ _ t).0 in
      subst (λ l. (conforming p x ≡ true → σ x l ≡ Some (x ∷ [])) → Way p σ x l (x ∷ [])) e one h
  way_of σ x lock (y ∷ r) e j t =
      let a = and_parts _ _ j in
      let b = and_parts _ _ a.0 in
      more b.0 (not-true _ b.1) (signed_suffix (conforming p x) (σ x lock) (x ∷ (y ∷ r)) (and_parts _ _ t).0)
      (way_of σ y lock r e a.1 (and_parts _ _ t).1)

  pub judged_way : (σ : Signed) (x : ℕ) (r : List ℕ) → begins x r ≡ true → joined p r ≡ true → suffixes_signed p σ (ends r) r ≡ true
      → Way p σ x (ends r) r
  judged_way σ x [] b j t = grind arith
  judged_way σ x (y ∷ r) b j t = subst (λ q. Way p σ q (last y r) (y ∷ r)) (sym (eqb-true x y b)) (way_of σ y (last y r) r refl j t)

  pub way_true : {σ : Signed} {x lock : ℕ} {r : List ℕ} → Way p σ x lock r → Joined (Pays p) r
  way_true (one h) = tt
  way_true (more {x} {y} {lock} {r} a b h w) = (pays_in x y a, b, way_true w)

  pub way_short : {σ : Signed} {x lock : ℕ} {r : List ℕ} → Sound p → Way p σ x lock r → length r ≤ p.span
  way_short {σ} {x} {lock} {r} s w = s.spanned.most r (way_true w)

  pub way_party : {σ : Signed} {x lock : ℕ} {r : List ℕ} → Sound p → Way p σ x lock r → x < p.parties → lock < p.parties
  way_party s (one h) b = b
  way_party s (more {x} {y} a m h w) b =
      let t = pays_in x y a in
      way_party s w (subst (λ z. z < p.parties) t.3 (s.exist t.0 t.1).1)
