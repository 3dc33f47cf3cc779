-- Sets of free parties: how many are in one, and one party taken out.
use Rattle.std.proofs.Common.{◌≡◌, ℕ, zero, suc, ◌<◌, ◌≤◌, Bool, true, false, eqb, List, [], ◌∷◌, length, set, sym, refl, ap, ◌∙◌, subst, ⊎_elim, arith}
use Rattle.graph.specs.Search.{Free}
use Rattle.std.proofs.lemmas.List.{get_or-set_other, get_or_past}
use Rattle.std.proofs.lemmas.List.Elements.{All-nil, All-cons, All-head, All-tail}
use Rattle.std.proofs.lemmas.Bool.{both_ways, cases_eq, cases_lt, or_parts, or_from, ne_eqb, eqb-false}
use Rattle.std.specs.List.{All}
use Rattle.swap.specs.Routes.{mem}

abbrev pub size : List Bool → ℕ
size [] = 0
size (true ∷ f) = suc (size f)
size (false ∷ f) = size f

pub size_set : (f : List Bool) (z : ℕ) → Free f z → suc (size (set f z false)) ≡ size f
size_set [] z h = absurd (both_ways false refl h)
size_set (true ∷ f) zero h = refl
size_set (false ∷ f) zero h = absurd (both_ways false refl h)
size_set (true ∷ f) (suc z) h = ap suc (size_set f z h)
size_set (false ∷ f) (suc z) h = size_set f z h

pub size_le : (f : List Bool) → size f ≤ length f
size_le [] = omega arith
size_le (true ∷ f) = let h = size_le f in omega arith
size_le (false ∷ f) = let h = size_le f in omega arith

pub taken : (f : List Bool) (z : ℕ) → Free (set f z false) z → ⊥
taken [] z h = both_ways false refl h
taken (b ∷ f) zero h = both_ways false refl h
taken (b ∷ f) (suc z) h = taken f z h

pub free_before : (f : List Bool) (z q : ℕ) → Free (set f z false) q → Free f q
free_before f z q h =
    ⊎_elim (λ e. absurd (taken f z (subst (Free (set f z false)) e h))) (λ n. sym (get_or-set_other f z q false false n) ∙ h) (cases_eq q z)

-- whoever is not z is still free when z is taken
pub free_after : (f : List Bool) (z : ℕ) (s : List ℕ) → mem z s ≡ false → All (Free f) s → All (Free (set f z false)) s
free_after f z [] m a = All-nil (Free (set f z false))
free_after f z (q ∷ s) m a =
    let p = or_parts (eqb z q) (mem z s) m in
    All-cons (Free (set f z false)) q s
    (get_or-set_other f z q false false (λ e. eqb-false z q p.0 (sym e)) ∙ All-head (Free f) q s a)
    (free_after f z s p.1 (All-tail (Free f) q s a))

pub not_on : (f : List Bool) (x : ℕ) (s : List ℕ) → (Free f x → ⊥) → All (Free f) s → mem x s ≡ false
not_on f x [] n a = refl
not_on f x (q ∷ s) n a =
    or_from (eqb x q) (mem x s)
    (ne_eqb x q (λ e. n (subst (Free f) (sym e) (All-head (Free f) q s a)))) (not_on f x s n (All-tail (Free f) q s a))

pub free_lt : (f : List Bool) (z : ℕ) → Free f z → z < length f
free_lt f z h = ⊎_elim (λ l. l) (λ l. absurd (both_ways false refl (sym (get_or_past f z false l) ∙ h))) (cases_lt z (length f))
