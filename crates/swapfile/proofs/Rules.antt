-- Lawful records say what is ruled.
use Rattle.std.proofs.Common.{◌≡◌, ℕ, zero, suc, ◌%◌, ◌<◌, ◌≤◌, Bool, true, false, not, ◌&&◌, ◌||◌, eqb, ltb, leb, List, [], ◌∷◌, ◌++◌, length, get_or, is_some, Some, None, Option, unwrap_or, sym, refl, ap, ◌∙◌, subst, ⊎_elim, arith, cond}
use Rattle.filerules.specs.Fields.{terms_hold, holding_holds, leg_holds}
use Rattle.filerules.specs.Said.{Said, start, put, parties_of, late, fields_hold, full, clash, held, held_before, first_failed, fault_of}
use Rattle.records.specs.Records.{Fits}
use Rattle.records.specs.declared.record.Statement.{Statement}
use Rattle.records.specs.declared.record.Statement.TheVariants as states
use Rattle.std.proofs.lemmas.List.Elements.{All-nil, All-push}
use Rattle.std.proofs.lemmas.Option.{none-some}
use Rattle.std.proofs.lemmas.List.{length_push, get_or_append_left, get_or_push}
use Rattle.std.proofs.lemmas.Bool.{and_parts, or_parts, not-true, not-false, ltb-true, leb-true, leb-false, eqb-true, eqb-false, cases_eq, both_ways, eq-eqb}
use Rattle.std.specs.List.{All}
use Rattle.swap.proofs.Bits as bits
use Rattle.swap.specs.Limits.{max_holdings, max_legs}
use Rattle.swap.specs.Sets.{member}
use Rattle.swap.specs.declared.faults.Reason.TheVariants.{OutOfOrder, BadField, TooMany, HeldTwice}
use Rattle.swap.specs.declared.records.Holding.{Holding}
use Rattle.swap.specs.declared.records.Leg.{Leg}
use Rattle.swap.specs.declared.records.Terms.{Terms}
use Rattle.swapfile.specs.Files.{Content, complete, after, Lawful, Accepted}
use Rattle.swapfile.specs.Ruled.{RuledTerms, RuledHolding, RuledLeg, Apart, Ruled}
use Rattle.swap.specs.Assets.{holds_coins}

-- a record that breaks no rule fails each test
module _ (s : Said) (r : Statement) where
  clean_by :
      (a b c d : Bool) → first_failed ((a, OutOfOrder) ∷ (not b, BadField) ∷ (c, TooMany) ∷ (d, HeldTwice) ∷ []) ≡ None
      → (a ≡ false) × (b ≡ true) × (c ≡ false) × (d ≡ false)
  clean_by true b c d e = absurd (none-some _ (sym e))
  clean_by false false c d e = absurd (none-some _ (sym e))
  clean_by false true true d e = absurd (none-some _ (sym e))
  clean_by false true false true e = absurd (none-some _ (sym e))
  clean_by false true false false e = (refl, refl, refl, refl)

  pub clean :
      fault_of s r ≡ None
      → (late s r ≡ false) × (fields_hold s r ≡ true) × (full s r ≡ false) × (held_before s r ≡ false)
  clean e = clean_by (late s r) (fields_hold s r) (full s r) (held_before s r) e

-- the fields
some_member : (set : ℕ) → set < 256 → not (eqb set 0) ≡ true → (p : ℕ) × (member set p ≡ true)
some_member set f e =
    let ne = eqb-false set 0 (not-true _ e) in
    let top = bits.top set (omega (arith, ne)) (omega arith) in
    (top.0, ap (λ x. eqb (x % 2) 1) top.1)

terms_ruled : (t : Terms) → Fits (states.Terms t) → terms_hold t ≡ true → RuledTerms t
terms_ruled t f e =
    let n = t.parties in
    let a = and_parts _ _ e in
    let b = and_parts _ _ a.1 in
    let c = and_parts _ _ b.1 in
    let d = and_parts _ _ c.1 in
    let g = and_parts _ _ d.1 in
    let h = and_parts _ _ g.1 in
    record {
      few = leb-true _ _ a.0;
      most = leb-true _ _ b.0;
      delay = (leb-true _ _ h.0, leb-true _ _ h.1);
      leads = some_member t.leaders.bits f.1 c.0;
      leaders = bits.within t.leaders.bits n (eqb-true _ _ d.0);
      outsiders = bits.within t.outsiders.bits n (eqb-true _ _ g.0);
    }

holding_ruled : (n : ℕ) (h : Holding) → holding_holds n h ≡ true → RuledHolding n h
holding_ruled n h e =
    let a = and_parts _ _ e in
    let b = and_parts _ _ a.1 in
    record { ledger = ltb-true _ _ a.0; party = ltb-true _ _ b.0; asset = b.1 }

leg_ruled : (n : ℕ) (l : Leg) → leg_holds n l ≡ true → RuledLeg n l
leg_ruled n l e =
    let a = and_parts _ _ e in
    let b = and_parts _ _ a.1 in
    let c = and_parts _ _ b.1 in
    let d = and_parts _ _ c.1 in
    record {
      payer = ltb-true _ _ a.0;
      receiver = ltb-true _ _ b.0;
      differ = eqb-false _ _ (not-true _ c.0);
      ledger = ltb-true _ _ d.0;
      asset = d.1;
    }

-- holdings apart
held_each : (ks : List Holding) (i : ℕ) (d h : Holding) → held ks h ≡ false → i < length ks → clash (get_or ks i d) h ≡ false
held_each [] i d h e l = absurd (omega arith)
held_each (k ∷ ks) zero d h e l = (or_parts (clash k h) (held ks h) e).0
held_each (k ∷ ks) (suc i) d h e l = held_each ks i d h (or_parts (clash k h) (held ks h) e).1 (omega arith)

apart_push : (hs : List Holding) (h : Holding) → Apart hs → held hs h ≡ false → Apart (hs ++ h ∷ [])
apart_push hs h a e i j d l m =
    let il : i < length hs = omega (arith, length_push hs h) in
    let p = get_or_append_left hs (h ∷ []) d i il in
    ⊎_elim
    (λ q. ap (λ x. clash x (get_or (hs ++ h ∷ []) j d)) p ∙ ap (λ x. clash (get_or hs i d) x) (get_or_push hs h d j (sym q)) ∙ held_each hs i d h e il)
    (λ q. let jl : j < length hs = omega (arith, length_push hs h, q) in
    ap (λ x. clash x (get_or (hs ++ h ∷ []) j d)) p ∙ ap (λ x. clash (get_or hs i d) x) (get_or_append_left hs (h ∷ []) d j jl) ∙ a i j d l jl)
    (cases_eq j (length hs))

-- two holdings on one ledger that do not clash: of coins, of two parties; of titles, of two assets
pub coins_apart : (k h : Holding) → clash k h ≡ false → k.ledger ≡ h.ledger → holds_coins h.ledger ≡ true → k.party ≡ h.party → ⊥
coins_apart k h e l c p =
    let t : clash k h ≡ true =
    ap (λ x. x && cond (holds_coins h.ledger) (eqb k.party h.party) (eqb k.asset h.asset)) (eq-eqb _ _ l)
    ∙ ap (λ x. cond x (eqb k.party h.party) (eqb k.asset h.asset)) c
    ∙ eq-eqb _ _ p in
    both_ways (clash k h) e t

pub titles_apart : (k h : Holding) → clash k h ≡ false → k.ledger ≡ h.ledger → holds_coins h.ledger ≡ false → k.asset ≡ h.asset → ⊥
titles_apart k h e l c p =
    let t : clash k h ≡ true =
    ap (λ x. x && cond (holds_coins h.ledger) (eqb k.party h.party) (eqb k.asset h.asset)) (eq-eqb _ _ l)
    ∙ ap (λ x. cond x (eqb k.party h.party) (eqb k.asset h.asset)) c
    ∙ eq-eqb _ _ p in
    both_ways (clash k h) e t

-- what holds of all that is said
abbrev KeptBy : Option Terms → List Holding → List Leg → Type 0
KeptBy None hs ls = (hs ≡ []) × (ls ≡ [])
KeptBy (Some t) hs ls =
    RuledTerms t × All (RuledHolding t.parties) hs × All (RuledLeg t.parties) ls × (length hs ≤ max_holdings)
    × (length ls ≤ max_legs) × Apart hs

abbrev Kept : Said → Type 0
Kept s = KeptBy s.terms s.holdings s.legs

none_apart : Apart []
none_apart i j d l m = absurd (omega arith)

with_terms : (o : Option Terms) (hs : List Holding) (ls : List Leg) (t : Terms) → is_some o ≡ false → RuledTerms t → KeptBy o hs ls → KeptBy (Some t) hs ls
with_terms None hs ls t e r k = (
  r,
  subst (All (RuledHolding t.parties)) (sym k.0) (All-nil (RuledHolding t.parties)),
  subst (All (RuledLeg t.parties)) (sym k.1) (All-nil (RuledLeg t.parties)),
  omega (arith, ap length k.0),
  omega (arith, ap length k.1),
  subst Apart (sym k.0) none_apart,
)
with_terms (Some u) hs ls t e r k = absurd (both_ways true e refl)

with_holding :
    (o : Option Terms) (hs : List Holding) (ls : List Leg) (h : Holding) → is_some o ≡ true → holding_holds (parties_of o) h ≡ true
    → leb max_holdings (length hs) ≡ false → held hs h ≡ false → KeptBy o hs ls → KeptBy o (hs ++ h ∷ []) ls
with_holding None hs ls h e f m c k = absurd (both_ways false refl e)
with_holding (Some t) hs ls h e f m c k =
    let lt = leb-false max_holdings (length hs) m in (
      k.0,
      All-push (RuledHolding t.parties) hs h k.1 (holding_ruled t.parties h f),
      k.2,
      omega (arith, lt, length_push hs h),
      k.4,
      apart_push hs h k.5 c,
    )

with_leg :
    (o : Option Terms) (hs : List Holding) (ls : List Leg) (l : Leg) → is_some o ≡ true → leg_holds (parties_of o) l ≡ true
    → leb max_legs (length ls) ≡ false → KeptBy o hs ls → KeptBy o hs (ls ++ l ∷ [])
with_leg None hs ls l e f m k = absurd (both_ways false refl e)
with_leg (Some t) hs ls l e f m k =
    let lt = leb-false max_legs (length ls) m in (
      k.0,
      k.1,
      All-push (RuledLeg t.parties) ls l k.2 (leg_ruled t.parties l f),
      k.3,
      omega (arith, lt, length_push ls l),
      k.5,
    )

on_terms : (a : Bool) (o : Option Terms) → (a || (true && not (is_some o))) ≡ false → is_some o ≡ true
on_terms a o e = not-false (is_some o) (or_parts a (not (is_some o)) e).1

step : (s : Said) (r : Statement) → Fits r → fault_of s r ≡ None → Kept s → Kept (put s r)
step s (states.Heading n) f e k = k
step s (states.Terms t) f e k =
    let c = clean s (states.Terms t) e in with_terms s.terms s.holdings s.legs t c.2 (terms_ruled t f c.1) k
step s (states.Holding h) f e k =
    let c = clean s (states.Holding h) e in
    with_holding s.terms s.holdings s.legs h (on_terms (ltb 3 s.ahead) s.terms c.0) c.1 c.2 c.3 k
step s (states.Leg l) f e k =
    let c = clean s (states.Leg l) e in
    with_leg s.terms s.holdings s.legs l (on_terms (ltb 4 s.ahead) s.terms c.0) c.1 c.2 k

kept : (s : Said) (rs : List Statement) → Lawful s rs → Kept s → Kept (after s rs)
kept s [] l k = k
kept s (r ∷ rs) l k = kept (put s r) rs l.2 (step s r l.0 l.1 k)

ruled_by : (n : Option ℕ) (o : Option Terms) (hs : List Holding) (ls : List Leg) (c : Content) → complete n o hs ls ≡ Some c → KeptBy o hs ls → Ruled c
ruled_by n None hs ls c e k = absurd (none-some _ e)
ruled_by n (Some t) hs [] c e k = absurd (none-some _ e)
ruled_by n (Some t) hs (l ∷ ls) c e k =
    let q : record { number = unwrap_or n 0; terms = t; holdings = hs; legs = l ∷ ls } ≡ c = cc in
    subst Ruled q
    record {
      terms = k.0;
      holdings = k.1;
      legs = k.2;
      holdings_most = k.3;
      legs_some = omega arith;
      legs_most = k.4;
      apart = k.5;
    }

-- an accepted file's content is ruled
pub ruled : (bytes : List ℕ) (c : Content) → Accepted bytes c → Ruled c
ruled bytes c h =
    let s = after start h.records in
    ruled_by s.number s.terms s.holdings s.legs c h.says (kept start h.records h.lawful (refl, refl))
