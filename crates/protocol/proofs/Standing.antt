-- Escrows: what stands, what is opened.
use Rattle.std.proofs.Common.{◌≡◌, ℕ, ◌<◌, Bool, true, false, cond, not, ◌||◌, eqb, ◌⊎◌, List, Option, inl, inr, ⊎_elim, arith, is_some}
use Rattle.swap.proofs.Below.{all_in, all_of, all_fails}
use Rattle.protocol.specs.State.{Phase, Vacant, Held, Paid, is_vacant, is_held, is_paid, Escrow, conforming, stands, all_leaders, entering_stand}
use Rattle.protocol.specs.Steps.{Entering}
use Rattle.protocol.specs.Tables.{same_bool}
use Rattle.protocol.specs.Verdicts.{all_opened}
use Rattle.std.proofs.lemmas.Bool.{both_ways, eq-eqb, and_parts, cases_Bool, ltb-true}
use Rattle.swap.specs.Swaps.{Swap}
use Rattle.swap.specs.Limits.{set_bits}

pub clash : (b : Bool) → b ≡ true → b ≡ false → ⊥
clash b t f = both_ways b f t

pub vacant : (f : Phase) → is_vacant f ≡ true → f ≡ Vacant
vacant f e = grind arith

pub held : (f : Phase) → is_held f ≡ true → f ≡ Held
held f e = grind arith

pub paid : (f : Phase) → is_paid f ≡ true → f ≡ Paid
paid f e = grind arith

pub same_true : (a b : Bool) → same_bool a b ≡ true → a ≡ b
same_true a b e = grind arith

pub same_self : (a : Bool) → same_bool a a ≡ true
same_self a = grind arith

pub leaders_self : (p : Swap) → all_leaders p p.leader ≡ true
unfolding all_leaders
leaders_self p = all_of set_bits (λ q. same_bool (p.leader q) (p.leader q)) (λ k _. same_self (p.leader k))

pub leader_lock : (p : Swap) (locks : ℕ → Bool) → all_leaders p locks ≡ true → (q : ℕ) → q < set_bits → locks q ≡ p.leader q
unfolding all_leaders
leader_lock p locks e q h = same_true (locks q) (p.leader q) (all_in set_bits (λ k. same_bool (locks k) (p.leader k)) e q h)

-- every lock that a set of opened locks names is opened
pub opened_in : (locks : ℕ → Bool) (opened : ℕ → Option (List ℕ)) → all_opened locks opened ≡ true → (q : ℕ) → q < set_bits → locks q ≡ true
    → is_some (opened q) ≡ true
unfolding all_opened
opened_in locks opened e q h l =
    let t = all_in set_bits (λ k. not (locks k) || is_some (opened k)) e q h in
    grind (arith, t)

pub opened_of : (locks : ℕ → Bool) (opened : ℕ → Option (List ℕ)) → ((q : ℕ) → q < set_bits → locks q ≡ true → is_some (opened q) ≡ true)
    → all_opened locks opened ≡ true
unfolding all_opened
opened_of locks opened h = all_of set_bits (λ k. not (locks k) || is_some (opened k)) (λ k b. grind (arith, h k b))

module _ (p : Swap) where
  pub standing : (i : ℕ) (e : Escrow) → stands p i e ≡ true
      → (is_vacant e.phase ≡ false) × (e.asset ≡ p.asset i) × (all_leaders p e.locks ≡ true)
  standing i e h = grind arith

  pub stand : (i : ℕ) (e : Escrow) → is_vacant e.phase ≡ false → e.asset ≡ p.asset i → all_leaders p e.locks ≡ true → stands p i e ≡ true
  stand i e a b c = grind arith

  pub entering_in : (escrow : ℕ → Escrow) (v : ℕ) → entering_stand p escrow v ≡ true → (i : ℕ) → Entering p v i
      → stands p i (escrow i) ≡ true
  unfolding entering_stand
  entering_in escrow v e i h =
      let t = all_in p.legs (λ k. cond (eqb (p.receiver k) v) (stands p k (escrow k)) true) e i h.0 in
      rw (eq-eqb (p.receiver i) v h.1) at t

  pub entering_of : (escrow : ℕ → Escrow) (v : ℕ) → ((i : ℕ) → Entering p v i → stands p i (escrow i) ≡ true)
      → entering_stand p escrow v ≡ true
  unfolding entering_stand
  entering_of escrow v h =
      all_of p.legs (λ k. cond (eqb (p.receiver k) v) (stands p k (escrow k)) true) (λ k b. grind (arith, h k))

  pub entering_fails : (escrow : ℕ → Escrow) (v : ℕ) → entering_stand p escrow v ≡ false
      → (i : ℕ) × Entering p v i × (stands p i (escrow i) ≡ false)
  unfolding entering_stand
  entering_fails escrow v e =
      let t = all_fails p.legs (λ k. cond (eqb (p.receiver k) v) (stands p k (escrow k)) true) e in
      (t.0, (t.1, grind (arith, t.2)), grind (arith, t.2))

  pub entering_mono : (escrow escrow' : ℕ → Escrow) (v : ℕ)
      → ((i : ℕ) → i < p.legs → stands p i (escrow i) ≡ true → stands p i (escrow' i) ≡ true)
      → entering_stand p escrow v ≡ true → entering_stand p escrow' v ≡ true
  entering_mono escrow escrow' v keep h = entering_of escrow' v (λ i e. keep i e.0 (entering_in escrow v h i e))

  -- all entering legs stood before, or one has just come to stand
  pub entering_new : (escrow escrow' : ℕ → Escrow) (v : ℕ) → entering_stand p escrow' v ≡ true
      → (entering_stand p escrow v ≡ true) ⊎ ((i : ℕ) × (i < p.legs) × (stands p i (escrow i) ≡ false) × (stands p i (escrow' i) ≡ true))
  entering_new escrow escrow' v h = ⊎_elim
      (λ t. inl t)
      (λ f. let t = entering_fails escrow v f in inr (t.0, t.1.0, t.2, entering_in escrow' v h t.0 t.1))
      (cases_Bool (entering_stand p escrow v))

  pub party : (v : ℕ) → conforming p v ≡ true → v < p.parties
  party v c = ltb-true _ _ (and_parts _ _ c).0
