-- The journal never overflows: a conforming party has no two lines for one purpose, and there are only so many purposes.
use Rattle.std.proofs.Common.{◌≡◌, ℕ, zero, suc, ◌+◌, ◌*◌, ◌/◌, ◌<◌, ◌≤◌, Bool, true, false, cond, ◌&&◌, eqb, ◌⊎◌, List, Some, Option, sym, refl, ap, ◌∙◌, ap₂, inl, inr, mul-le-mul, arith}
use lib.Arith.{digits_lt}
use Rattle.protocol.proofs.Basics.{one_most}
use Rattle.protocol.proofs.Invariants.{Inv, LineFact}
use Rattle.swap.proofs.Sums.{sum_le, sum_term, sum_swap, sum_most, sum_one}
use Rattle.protocol.specs.Calls.{outsiders}
use Rattle.protocol.specs.State.{Transaction, Open, Key, Refund, Escrow, Run, conforming}
use Rattle.protocol.specs.Steps.{Purpose, opens, keys, refunds, purpose}
use Rattle.protocol.specs.Tables.{count_below}
use Rattle.protocol.specs.Verdicts.{ends}
use Rattle.std.proofs.lemmas.Nat.{div-mul-add}
use Rattle.std.proofs.lemmas.Bool.{eqb-true, eq-eqb, and_parts, both_ways}
use Rattle.swap.specs.Limits.{max_legs, max_lines, max_parties}
use Rattle.swap.specs.Below.{sum_below}
use Rattle.swap.specs.Swaps.{Swap, Sound}

-- Counting

-- every number passes one test or the other
count_either : (n : ℕ) (b c : ℕ → Bool) → ((k : ℕ) → k < n → c k ≡ false → b k ≡ true) → n ≤ count_below n b + count_below n c
unfolding count_below
count_either zero b c h = omega arith
count_either (suc n) b c h =
    let rest = count_either n b c (λ k l. h k (omega arith)) in
    let one = either (b n) (c n) (h n (omega arith)) in
    omega arith
  where
    either : (x y : Bool) → (y ≡ false → x ≡ true) → 1 ≤ cond x 1 0 + cond y 1 0
    either true true e = omega arith
    either true false e = omega arith
    either false true e = omega arith
    either false false e = let z = e refl in absurd (both_ways false refl z)

-- Numbers that pass a test and are told apart by codes below m are at most m.
pigeons : (n m : ℕ) (c : ℕ → Bool) (code : ℕ → ℕ)
    → ((k : ℕ) → k < n → c k ≡ true → code k < m)
    → ((j k : ℕ) → j < n → k < n → c j ≡ true → c k ≡ true → code j ≡ code k → j ≡ k)
    → count_below n c ≤ m
unfolding count_below
pigeons n m c code low apart =
    let a = sum_le n (λ k. cond (c k) 1 0) (λ k. sum_below m (λ q. hit q k)) (λ k l. some k (c k) refl (low k l)) in
    let s = sum_swap n m hit in
    let t = sum_most m (λ q. sum_below n (hit q)) 1 (λ q l. sum_one n (hit q) 1 (λ k h. one_most (c k && eqb (code k) q)) (once q)) in
    omega arith
  where
    hit : ℕ → ℕ → ℕ
    hit q k = cond (c k && eqb (code k) q) 1 0

    some : (k : ℕ) (b : Bool) → c k ≡ b → (c k ≡ true → code k < m) → cond b 1 0 ≤ sum_below m (λ q. hit q k)
    some k true e l =
        let t = sum_term m (λ q. hit q k) (code k) (l e) in
        let h : hit (code k) k ≡ 1 = rw (e, eq-eqb (code k) (code k) refl) refl in
        omega arith
    some k false e l = omega arith

    once : (q j k : ℕ) → j < k → k < n → (hit q j ≡ 0) ⊎ (hit q k ≡ 0)
    once q j k l h = go (c j && eqb (code j) q) refl (c k && eqb (code k) q) refl
      where
        go : (x : Bool) → (c j && eqb (code j) q) ≡ x → (y : Bool) → (c k && eqb (code k) q) ≡ y
            → (◌≡◌ {A = ℕ} (cond x 1 0) 0) ⊎ (◌≡◌ {A = ℕ} (cond y 1 0) 0)
        go true d true f =
            let a = and_parts (c j) (eqb (code j) q) d in
            let b = and_parts (c k) (eqb (code k) q) f in
            let z = apart j k (omega arith) h a.0 b.0 (eqb-true (code j) q a.1 ∙ sym (eqb-true (code k) q b.1)) in
            absurd (omega arith)
        go true d false f = inr refl
        go false d y f = inl refl

-- Purposes as numbers: opens by leg, refunds by leg, keys by leg and lock.
module _ (p : Swap) where
  abbrev Known : Purpose → Type 0
  Known (opens i) = i < p.legs
  Known (keys i lock) = (i < p.legs) × (lock < p.parties)
  Known (refunds i) = i < p.legs

  abbrev number : Purpose → ℕ
  number (opens i) = i
  number (keys i lock) = 2 * p.legs + (i * p.parties + lock)
  number (refunds i) = p.legs + i

  number_below : (a : Purpose) → Known a → number a < 2 * p.legs + p.legs * p.parties
  number_below (opens i) h = omega arith
  number_below (keys i lock) h = let d = digits_lt h.0 h.1 in omega arith
  number_below (refunds i) h = omega arith

  number_apart : (a b : Purpose) → Known a → Known b → number a ≡ number b → a ≡ b
  number_apart (opens i) (opens j) h k e = ap opens e
  number_apart (opens i) (keys j lock) h k e = absurd (omega arith)
  number_apart (opens i) (refunds j) h k e = absurd (omega arith)
  number_apart (keys i lock) (opens j) h k e = absurd (omega arith)
  number_apart (keys i lock) (keys j lock') h k e =
      let d : i * p.parties + lock ≡ j * p.parties + lock' = omega arith in
      let leg : i ≡ j =
      sym (div-mul-add i p.parties lock h.1) ∙ ap (λ n. n / p.parties) d ∙ div-mul-add j p.parties lock' k.1
      in
      let m = ap (λ n. n * p.parties) leg in
      let same : lock ≡ lock' = omega arith in
      ap₂ keys leg same
  number_apart (keys i lock) (refunds j) h k e = absurd (omega arith)
  number_apart (refunds i) (opens j) h k e = absurd (omega arith)
  number_apart (refunds i) (keys j lock) h k e = absurd (omega arith)
  number_apart (refunds i) (refunds j) h k e = let d : i ≡ j = omega arith in ap refunds d

  -- who has lines for a purpose
  abbrev filer_for : Purpose → ℕ
  filer_for (opens i) = p.payer i
  filer_for (keys i lock) = p.receiver i
  filer_for (refunds i) = p.payer i

module _ (p : Swap) (sound : Sound p) (r : Run) (inv : Inv p r) where
  abbrev aim : ℕ → Purpose
  aim n = purpose (r.line n).transaction

  abbrev ours : ℕ → Bool
  ours n = conforming p (r.line n).filer

  of_line : (σ : ℕ → ℕ → Option (List ℕ)) (escrow : ℕ → Escrow) (begun : ℕ → Bool) (v f n : ℕ) (x : Transaction)
      → ((lock : ℕ) (q : List ℕ) → σ v lock ≡ Some q → lock < p.parties)
      → LineFact p escrow σ begun v f n x → Known p (purpose x) × (filer_for p (purpose x) ≡ v)
  of_line σ escrow begun v f n (Open i asset locks) led h = h.leaving
  of_line σ escrow begun v f n (Key i q) led h = ((h.entering.0, led (ends q) q h.signs), h.entering.1)
  of_line σ escrow begun v f n (Refund i) led h = h.leaving

  line_aim : (n : ℕ) → n < r.count → ours n ≡ true → Known p (aim n) × (filer_for p (aim n) ≡ (r.line n).filer)
  line_aim n l c =
      of_line r.signed r.escrow r.begun (r.line n).filer (r.line n).filed (r.verdict n) (r.line n).transaction
      (λ lock q e. sound.leaders lock (inv.facts.signs_led (r.line n).filer lock q c e)) (inv.lines.facts n l c)

  pub room : r.count ≤ outsiders p r + 2 * p.legs + p.legs * p.parties
  room =
      let all = count_either r.count (λ n. p.outsider (r.line n).filer) ours inv.lines.who in
      let few =
      pigeons r.count (2 * p.legs + p.legs * p.parties) ours (λ n. number p (aim n))
      (λ n l c. number_below p (aim n) (line_aim n l c).0)
      (λ j k hj hk cj ck e.
      let a = line_aim j hj cj in
      let b = line_aim k hk ck in
      let same = number_apart p (aim j) (aim k) a.0 b.0 e in
      inv.lines.once j k hj hk cj (sym a.1 ∙ ap (filer_for p) same ∙ b.1) same)
      in
      omega arith

  -- the journal never overflows
  pub journal_room : r.count ≤ max_lines
  journal_room =
      let a = room in
      let b = inv.few in
      let c = sound.legs_most in
      let d : p.legs * p.parties ≤ max_legs * max_parties = mul-le-mul sound.legs_most sound.most in
      omega arith
