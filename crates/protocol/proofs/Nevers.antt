-- What the code leans on: what never happens, and what waits.
use Rattle.std.proofs.Common.{◌≡◌, ℕ, ◌<◌, ◌≤◌, true, false, not, eqb, List, [], ◌∷◌, length, sym, refl, ap, ◌∙◌, ◌||◌, subst, ⊎_elim, arith}
use Rattle.ledgers.proofs.LawsHold.{release_ok}
use Rattle.mempool.specs.Calls.{numbers}
use Rattle.protocol.proofs.Basics.{Fails, passes, one_if}
use Rattle.protocol.proofs.Books.{in_range, books_took, enough, full}
use Rattle.protocol.proofs.Delivery.{open_passes}
use Rattle.protocol.proofs.Invariants.{Signed, Way, one, more, LineFact}
use Rattle.protocol.proofs.Keeps.{inv_fresh, inv_steps}
use Rattle.protocol.proofs.Queue.{Queue, Known, times, waits_taken, numbers_apart, Quiet, taken_up, tick_done}
use Rattle.protocol.proofs.Reach.{reached_lasts, filed}
use Rattle.protocol.proofs.Room.{journal_room}
use Rattle.protocol.proofs.Standing.{party}
use Rattle.protocol.proofs.Ways.{pays_in, way_signed, some_none}
use Rattle.protocol.specs.Calls.{fresh, Reached}
use Rattle.protocol.specs.Law.{Nevers, Waits, Pools}
use Rattle.protocol.specs.State.{leg_of, Line, Run, running}
use Rattle.protocol.specs.Verdicts.{pending, tests, judged}
use Rattle.std.proofs.lemmas.Bool.{or_parts, and_parts, and_from, not-true, not_from_false, cases_Bool, eq-eqb, eqb-true, ne_eqb}
use Rattle.std.proofs.lemmas.List.Elements.{All-nil, All-cons, All-head, All-tail}
use Rattle.std.proofs.lemmas.List.Folds.{Any-from_list_any}
use Rattle.std.proofs.lemmas.Map.Steps.{length-le_from_distinct_below}
use Rattle.std.specs.List.{All, AllByRecursion as ByRecursion, IsDistinct}
use Rattle.swap.specs.Assets.{rules_of}
use Rattle.swap.specs.Limits.{max_legs, max_parties}
use Rattle.swap.specs.Routes.{mem, distinct}
use Rattle.swap.specs.Swaps.{Swap, Sound}
use Rattle.swap.specs.declared.records.Waiting.{Waiting}
use Rattle.swap.proofs.Sums.{sum_zero, sum_changed}
use Rattle.swap.specs.Below.{sum_below}

none_equal : (x : ℕ) (r : List ℕ) → mem x r ≡ false → ByRecursion (λ y. eqb x y ≡ false) r
none_equal x [] e = tt
none_equal x (y ∷ r) e = let p = or_parts _ _ e in (p.0, none_equal x r p.1)

apart : (r : List ℕ) → distinct r ≡ true → IsDistinct eqb r
unfolding IsDistinct
apart [] d = tt
apart (x ∷ r) d = let e = and_parts _ _ d in (none_equal x r (not-true _ e.0), apart r e.1)

-- counted one by one, numbers below n of which none stands twice are as many as their list is long
counted : (n : ℕ) (r : List ℕ) → ByRecursion (λ x. x < n) r → distinct r ≡ true → sum_below n (λ k. one_if (mem k r)) ≡ length r
counted n [] h d = sum_zero n (λ k. one_if (mem k [])) (λ k _. refl)
counted n (x ∷ r) h d =
    let e = and_parts (not (mem x r)) (distinct r) d in
    let i = counted n r h.1 e.1 in
    let s = sum_changed n (λ k. one_if (mem k (x ∷ r))) (λ k. one_if (mem k r)) x h.0 (λ k _ ne. ap (λ b. one_if (b || mem k r)) (ne_eqb k x ne)) in
    let a : one_if (mem x (x ∷ r)) ≡ 1 = ap (λ b. one_if (b || mem x r)) (eq-eqb x x refl) in
    let b : one_if (mem x r) ≡ 0 = ap one_if (not-true _ e.0) in
    omega arith

-- numbers below n of which none stands twice are at most n
pub pigeonhole : (n : ℕ) (r : List ℕ) → All (λ x. x < n) r → distinct r ≡ true → length r ≤ n
pigeonhole n r h d =
    length-le_from_distinct_below r n (apart r d)
    (λ q e. let f = Any-from_list_any (eqb q) r e in subst (λ x. x < n) (f.3 ∙ sym (eqb-true q f.1 f.4)) (h f.0 f.1 f.2))

module _ (p : Swap) where
  pub way_distinct : {σ : Signed} {x lock : ℕ} {r : List ℕ} → Way p σ x lock r → distinct r ≡ true
  way_distinct (one h) = refl
  way_distinct (more a b h w) = and_from _ _ (not_from_false _ b) (way_distinct w)

  pub way_within : {σ : Signed} {x lock : ℕ} {r : List ℕ} → Sound p → Way p σ x lock r → x < p.parties → All (λ y. y < p.parties) r
  way_within {x} s (one h) b = All-cons (λ y. y < p.parties) x [] b (All-nil (λ y. y < p.parties))
  way_within s (more {x} {y} {r = r} a m h w) b =
      let t = pays_in p x y a in
      All-cons (λ z. z < p.parties) x (y ∷ r) b (way_within s w (subst (λ z. z < p.parties) t.3 (s.exist t.0 t.1).1))

pub nevers : Nevers
unfolding judged
nevers p r s h =
    let k = inv_steps p s (fresh p) r (inv_fresh p s) h in
    record {
      apart = λ v lock j q c l e u.
          let w = k.facts.routes j lock q l.0 e in
          let off : mem v q ≡ false = ⊎_elim (λ t. absurd (some_none _ u (way_signed p w v c t))) (λ f. f) (cases_Bool (mem v q)) in
          let short = pigeonhole p.parties (v ∷ q) (All-cons (λ y. y < p.parties) v q (party p v c) (way_within p s w (s.exist j l.0).1))
          (and_from _ _ (not_from_false _ off) (way_distinct p w)) in
          let most = s.most in
          (off, omega arith);
      taken = λ n i asset locks b w e c x.
          let f = subst (λ y. LineFact p r.escrow r.signed r.begun (r.line n).filer (r.line n).filed (r.verdict n) y) x
          (k.lines.facts n b c) in
          let t = open_passes p s (books_took p s) (enough p s) r k n b w e i asset locks c f in
          passes (tests p r.tick r.signed r.stock (r.line n).filer (r.line n).transaction (r.escrow (leg_of (r.line n).transaction)))
          (subst (λ y. Fails (tests p r.tick r.signed r.stock (r.line n).filer y (r.escrow (leg_of y)))) (sym x) t);
      released = λ i v b w e.
          release_ok (rules_of (p.ledger i)) i v (r.stock (p.ledger i)) (in_range i p.legs max_legs b s.legs_most)
          (in_range v p.parties max_parties w s.most)
          (full p r.escrow r.stock k.books i b e (k.facts.ranged i b (rw e refl)));
      room = journal_room p s r k;
    }

-- what waits
all_waiting : (P : Waiting → Type 0) (Q : ℕ → Type 0) (ws : List Waiting) → All P ws → ((n : ℕ) → 0 < times n ws → Q n)
    → All (λ w. P w × Q w.number) ws
all_waiting P Q [] h k = All-nil (λ v. P v × Q v.number)
all_waiting P Q (w ∷ ws) h k =
    let e : one_if (eqb w.number w.number) ≡ 1 = ap one_if (eq-eqb w.number w.number refl) in
    All-cons (λ v. P v × Q v.number) w ws (All-head P w ws h, k w.number (omega arith))
    (all_waiting P Q ws (All-tail P w ws h) (λ n b. k n (omega arith)))

times_mem : (n : ℕ) (ws : List Waiting) → 0 < times n ws → mem n (numbers ws) ≡ true
times_mem n [] h = absurd (omega arith)
times_mem n (w ∷ ws) h = grind (arith, times_mem n ws)

-- what waits is known, and has no verdict
pub queue_known : {m : ℕ} {line : ℕ → Line} {verdict : ℕ → ℕ} {ws : List Waiting} → Queue m line verdict ws
    → All (λ w. Known m line w × (verdict w.number ≡ pending)) ws
queue_known {m} {line} {verdict} {ws} q = all_waiting (Known m line) (λ n. verdict n ≡ pending) ws q.known (λ n b. grind (arith, q.once n))

waiting : (p : Swap) (r : Run) (ws : List Waiting) → Reached (running p r ws) → Waits r ws
waiting p r ws h =
    let q : Quiet p r ws = reached_lasts h in
    let u = q.queue in
    record {
      known = λ i d b. let k = queue_known u i d b in (k.0.0, k.1, k.0.1, k.0.2);
      all = λ n b e. times_mem n ws (waits_taken u n b e);
      apart = numbers_apart u;
      few = u.short;
    }

pub pools : Pools
pools = record {
  waits = waiting;
  begun = λ p s after t. (taken_up p s after t).1;
  filed = λ p r ws after v x h e a. (filed p r ws after v x (reached_lasts h) e a).1;
  ticked = λ p r s ws after h t. (tick_done p r s ws after t (reached_lasts h)).1;
}
