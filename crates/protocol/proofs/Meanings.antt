-- The tests of the rules say what they are named for.
use Rattle.std.proofs.Common.{◌≡◌, ℕ, Bool, true, false, not, ◌||◌, List, [], ◌∷◌, refl, arith}
use Rattle.swap.proofs.Below.{all_in, all_of, some_in, some_of}
use Rattle.protocol.proofs.Standing.{clash, entering_in, entering_of}
use Rattle.protocol.proofs.Ways.{pays_in, pays_of}
use Rattle.protocol.specs.Law.{Tests}
use Rattle.protocol.specs.Verdicts.{joined, proper_locks}
use Rattle.std.proofs.lemmas.Bool.{and_parts, and_from, not-true, not_from_false}
use Rattle.swap.specs.Routes.{Joined}
use Rattle.swap.specs.Sets.{Exactly}
use Rattle.swap.specs.Swaps.{Swap, Pays}
use Rattle.swap.specs.Limits.{set_bits}

exactly : (b : Bool) (P : Type 0) → (b ≡ true → P) → (P → b ≡ true) → Exactly b P
exactly true P f g = f refl
exactly false P f g = λ x. clash false (g x) refl

module _ (p : Swap) where
  joined_true : (r : List ℕ) → joined p r ≡ true → Joined (Pays p) r
  joined_true [] e = clash false e refl
  joined_true (x ∷ []) e = tt
  joined_true (x ∷ (y ∷ r)) e =
      let a = and_parts _ _ e in
      let b = and_parts _ _ a.0 in
      (pays_in p x y b.0, not-true _ b.1, joined_true (y ∷ r) a.1)

  true_joined : (r : List ℕ) → Joined (Pays p) r → joined p r ≡ true
  true_joined [] j = absurd j
  true_joined (x ∷ []) j = refl
  true_joined (x ∷ (y ∷ r)) j =
      and_from _ _ (and_from _ _ (pays_of p j.0.0 j.0.1 x y j.0.2 j.0.3) (not_from_false _ j.1)) (true_joined (y ∷ r) j.2)

  implied : (a b : Bool) → (a ≡ true → b ≡ true) → (not a || b) ≡ true
  implied a b h = grind arith

  implies : (a b : Bool) → (not a || b) ≡ true → a ≡ true → b ≡ true
  implies a b h e = grind arith

  pub tests_meant : Tests p
  unfolding proper_locks
  tests_meant = record {
    routes = λ r. exactly (joined p r) _ (joined_true r) (true_joined r);
    standing = λ escrow v. exactly _ _ (entering_in p escrow v) (entering_of p escrow v);
    locks = λ locks. exactly (proper_locks p locks) _
        (λ e. let a = and_parts _ _ e in (
          some_in set_bits locks a.0,
          λ q b h. implies (locks q) (p.leader q)
              (all_in set_bits (λ k. not (locks k) || p.leader k) a.1 q b) h,
        ))
        (λ h. and_from _ _ (some_of set_bits locks h.0.0 h.0.1 h.0.2)
        (all_of set_bits (λ k. not (locks k) || p.leader k) (λ q b. implied (locks q) (p.leader q) (h.1 q b))));
  }
