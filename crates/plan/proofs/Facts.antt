-- An accepted file's plan has the facts that the promises rest on, and no bytes mean two things.
use Rattle.std.proofs.Common.{◌≡◌, ℕ, ◌<◌, Bool, true, false, cond, eqb, List, length, Ok, Err, Result, sym, ap, ◌∙◌, subst, ap₂, inl, inr, arith}
use Rattle.filerules.specs.Said.{clash}
use Rattle.graph.specs.Graphs.{Inside}
use Rattle.plan.proofs.Holdings.{legs_covered, holdings_fit}
use Rattle.plan.proofs.Unique.{checked_one}
use Rattle.plan.specs.Check.{Accepted, Checked}
use Rattle.plan.specs.Meaning.{swap_in, OneMeaning, MeansSound}
use Rattle.std.proofs.lemmas.List.Elements.{All-get_or}
use Rattle.std.proofs.lemmas.Bool.{both_ways, eq-eqb, and_from}
use Rattle.swap.specs.Assets.{holds_coins}
use Rattle.swap.specs.Swaps.{Sound}
use Rattle.swap.specs.Views.{leg_at, holding_at}
use Rattle.swap.specs.declared.faults.Fault.{Fault}
use Rattle.swap.specs.declared.records.Holding.{Holding}
use Rattle.swapfile.proofs.Rules.{ruled}
use Rattle.swapfile.proofs.Unique.{one_answer}
use Rattle.swapfile.specs.Files.{Content, Answer}
use Rattle.swapfile.specs.Ruled.{Ruled, RuledHolding, RuledLeg}

module _ (c : Content) (r : Ruled c) where
  leg_ruled : (i : ℕ) → i < length c.legs → RuledLeg c.terms.parties (leg_at c.legs i)
  leg_ruled i h = All-get_or (RuledLeg c.terms.parties) c.legs i (record { payer = 0; receiver = 0; ledger = 0; asset = 0 }) h r.legs

  holding_ruled : (k : ℕ) → k < length c.holdings → RuledHolding c.terms.parties (holding_at c.holdings k)
  holding_ruled k h = All-get_or (RuledHolding c.terms.parties) c.holdings k (record { ledger = 0; party = 0; asset = 0 }) h r.holdings

  pub legs_inside : Inside c.terms.parties c.legs
  legs_inside i h = let l = leg_ruled i h in (l.payer, l.receiver)

  not_clash : (j k : ℕ) → j < k → k < length c.holdings → clash (holding_at c.holdings j) (holding_at c.holdings k) ≡ false
  not_clash j k l h = r.apart j k (record { ledger = 0; party = 0; asset = 0 }) l h

  -- two holdings that stand for the same would clash
  clashing : (k h : Holding) (b : Bool) → holds_coins h.ledger ≡ b → k.ledger ≡ h.ledger →
      cond b (eqb k.party h.party) (eqb k.asset h.asset) ≡ true → clash k h ≡ true
  clashing k h b e l t =
      and_from (eqb k.ledger h.ledger) (cond (holds_coins h.ledger) (eqb k.party h.party) (eqb k.asset h.asset))
      (eq-eqb k.ledger h.ledger l)
      (subst (λ x. cond x (eqb k.party h.party) (eqb k.asset h.asset) ≡ true) (sym e) t)

  pub sound : (span : ℕ) → Accepted c.terms c.holdings c.legs span → Sound (swap_in c span)
  sound span a = record {
    few = r.terms.few;
    most = r.terms.most;
    legs_most = r.legs_most;
    delay = r.terms.delay;
    exist = legs_inside;
    differ = λ i h. (leg_ruled i h).differ;
    assets = λ i h. let l = leg_ruled i h in (l.ledger, l.asset);
    holders = λ k h. let g = holding_ruled k h in (g.party, g.ledger, g.asset);
    connected = a.connected;
    led = a.led;
    spanned = a.spanned;
    covered = legs_covered c.holdings c.legs a.covered c.number c.terms span;
    leaders = r.terms.leaders;
    leads = r.terms.leads;
    fits = λ l u _.
        holdings_fit c.holdings
        (λ k h. let g = holding_ruled k h in let p = g.party in let m = r.terms.most in omega arith)
        (λ k h. (holding_ruled k h).asset)
        (λ j k l h e b p. both_ways _ (not_clash j k l h) (clashing (holding_at c.holdings j) (holding_at c.holdings k) true b e (eq-eqb _ _ p)))
        (λ j k l h e b p. both_ways _ (not_clash j k l h) (clashing (holding_at c.holdings j) (holding_at c.holdings k) false b e (eq-eqb _ _ p)))
        c.number c.terms c.legs span l u;
  }

pub means_sound : MeansSound
means_sound bytes swap (c, span, a, p, e) = subst Sound (sym e) (sound c (ruled bytes c a) span p)

-- the answers of the file and of its plan are each one
module _ (bytes : List ℕ) where
  same : (c d : Content) → Answer bytes (Ok c) → Answer bytes (Ok d) → c ≡ d
  same c d a b = let e = one_answer bytes (Ok c) (Ok d) a b in cc

  never : (c : Content) (f : Fault) → Answer bytes (Ok c) → Answer bytes (Err f) → ⊥
  never c f a b =
      let e = one_answer bytes (Ok c) (Err f) a b in
      let z : ◌≡◌ {A = ℕ} 0 1 = cc in
      omega arith

  checks : (c d : Content) (p q : Result ℕ Fault) → c ≡ d → Checked c.terms c.holdings c.legs p → Checked d.terms d.holdings d.legs q → p ≡ q
  checks c d p q e a b =
      checked_one c.terms c.holdings c.legs p q a
      (subst (λ x. Checked x.terms x.holdings x.legs q) (sym e) b)

pub one_meaning : OneMeaning
one_meaning bytes (Ok s) (Ok t) (c, w, a, p, e) (d, v, b, q, g) =
    let i = same bytes c d a b in
    let k = checks bytes c d (Ok w) (Ok v) i p q in
    let j : w ≡ v = cc in
    ap Ok (e ∙ ap₂ swap_in i j ∙ sym g)
one_meaning bytes (Ok s) (Err f) (c, w, a, p, e) (inl b) = absurd (never bytes c f a b)
one_meaning bytes (Ok s) (Err f) (c, w, a, p, e) (inr (d, b, q)) =
    let k = checks bytes c d (Ok w) (Err f) (same bytes c d a b) p q in
    let z : ◌≡◌ {A = ℕ} 0 1 = cc in
    absurd (omega arith)
one_meaning bytes (Err f) (Ok t) (inl a) (d, v, b, q, g) = absurd (never bytes d f b a)
one_meaning bytes (Err f) (Ok t) (inr (c, a, p)) (d, v, b, q, g) =
    let k = checks bytes c d (Err f) (Ok v) (same bytes c d a b) p q in
    let z : ◌≡◌ {A = ℕ} 0 1 = cc in
    absurd (omega arith)
one_meaning bytes (Err f) (Err g) (inl a) (inl b) =
    let e = one_answer bytes (Err f) (Err g) a b in
    let k : f ≡ g = cc in
    ap Err k
one_meaning bytes (Err f) (Err g) (inl a) (inr (d, b, q)) = absurd (never bytes d f b a)
one_meaning bytes (Err f) (Err g) (inr (c, a, p)) (inl b) = absurd (never bytes c g a b)
one_meaning bytes (Err f) (Err g) (inr (c, a, p)) (inr (d, b, q)) =
    let e = checks bytes c d (Err f) (Err g) (same bytes c d a b) p q in
    let k : f ≡ g = cc in
    ap Err k
