-- A heading tells the number and nothing else.
use Rattle.std.proofs.Common.{◌≡◌, ℕ, ◌^◌, ◌<◌, ◌≤◌, ltb, List, [], ◌∷◌, ◌++◌, length, get_or, Some, None, Option, unwrap_or, sym, refl, ap, ◌∙◌, subst, arith}
use Rattle.filerules.specs.Said.{Said, start, put, late}
use Rattle.records.specs.Records.{encode}
use Rattle.records.specs.declared.record.Statement.{Statement}
use Rattle.records.specs.declared.record.Statement.TheVariants as states
use Rattle.std.proofs.lemmas.Bool.{or_left, lt-ltb, both_ways}
use Rattle.std.proofs.lemmas.List.{length-append}
use Rattle.std.proofs.lemmas.Option.{none-some}
use Rattle.std.specs.List.{flat_map}
use Rattle.swap.specs.Limits.{max_file}
use Rattle.swap.specs.declared.records.Holding.{Holding}
use Rattle.swap.specs.declared.records.Leg.{Leg}
use Rattle.swap.specs.declared.records.Terms.{Terms}
use Rattle.swapfile.proofs.Looks.{goes, look, goes_on}
use Rattle.swapfile.proofs.Rules.{clean}
use Rattle.swapfile.specs.Files.{Content, complete, whole, after, Lawful, Sized, Accepted}
use Rattle.swapfile.specs.Theorems.{numbered, HeadingTells}

-- the same, said under another number
abbrev re : Option ℕ → Said → Said
re m s = record { ahead = s.ahead; number = m; terms = s.terms; holdings = s.holdings; legs = s.legs }

-- after the terms, the number plays no part
steady :
    (m : Option ℕ) (s : Said) (rs : List Statement) → 2 ≤ s.ahead → Lawful s rs
    → Lawful (re m s) rs × (after (re m s) rs ≡ re m (after s rs))
steady m s [] a l = (tt, refl)
steady m s (states.Heading k ∷ rs) a l =
    absurd (both_ways (late s (states.Heading k)) (clean s (states.Heading k) l.1).0 (or_left (ltb 1 s.ahead) _ (lt-ltb 1 s.ahead a)))
steady m s (states.Terms t ∷ rs) a l = let i = steady m (put s (states.Terms t)) rs (omega arith) l.2 in ((l.0, l.1, i.0), i.1)
steady m s (states.Holding h ∷ rs) a l = let i = steady m (put s (states.Holding h)) rs (omega arith) l.2 in ((l.0, l.1, i.0), i.1)
steady m s (states.Leg p ∷ rs) a l = let i = steady m (put s (states.Leg p)) rs (omega arith) l.2 in ((l.0, l.1, i.0), i.1)

-- what a whole file says under another number
other :
    (m m' : Option ℕ) (o : Option Terms) (hs : List Holding) (ls : List Leg) (c : Content) → complete m o hs ls ≡ Some c
    → (c.number ≡ unwrap_or m 0) × (complete m' o hs ls ≡ Some (numbered (unwrap_or m' 0) c))
other m m' None hs ls c e = absurd (none-some _ e)
other m m' (Some t) hs [] c e = absurd (none-some _ e)
other m m' (Some t) hs (l ∷ ls) c e =
    let q : record { number = unwrap_or m 0; terms = t; holdings = hs; legs = l ∷ ls } ≡ c = cc in
    (ap (λ x. x.number) (sym q), ap (λ x. Some (numbered (unwrap_or m' 0) x)) q)

-- records that begin with the terms, after a heading or not
module _ (m m' : Option ℕ) (t : Terms) (rs : List Statement) where
  abbrev said_by : Option ℕ → Said
  said_by k = record { ahead = 2; number = k; terms = Some t; holdings = []; legs = [] }

  moved :
      (c : Content) → Lawful (said_by m) rs → whole (after (said_by m) rs) ≡ Some c
      → (c.number ≡ unwrap_or m 0) × Lawful (said_by m') rs
      × (whole (after (said_by m') rs) ≡ Some (numbered (unwrap_or m' 0) c))
  moved c l w =
      let i = steady m (said_by m) rs (omega arith) l in
      let j = steady m' (said_by m) rs (omega arith) l in
      let s = after (said_by m) rs in
      let o = other m m' s.terms s.holdings s.legs c (ap whole (sym i.1) ∙ w) in
      (o.0, j.0, ap whole j.1 ∙ o.1)

-- what a file with a heading in front is
module _ (n : ℕ) (bytes : List ℕ) (c : Content) (f : n < 2 ^ 32) where
  abbrev head : Statement
  head = states.Heading n

  -- the records behind the heading
  behind :
      (r : Statement) (rs : List Statement) → encode head ++ bytes ≡ flat_map encode (r ∷ rs) → Lawful start (r ∷ rs)
      → (head ≡ r) × (bytes ≡ flat_map encode rs)
  behind r rs e l =
      let g : goes head bytes ≡ goes r (flat_map encode rs) =
      sym (goes_on start head bytes f refl) ∙ ap (look start) e ∙ goes_on start r (flat_map encode rs) l.0 l.1 in
      let a : head ≡ r = cc in
      let b : bytes ≡ flat_map encode rs = cc in
      (a, b)

  without_by :
      (rs : List Statement) → bytes ≡ flat_map encode rs → length bytes ≤ max_file → Lawful (put start head) rs
      → whole (after (put start head) rs) ≡ Some c → (c.number ≡ n) × Accepted bytes (numbered 0 c)
  without_by [] e z l w = absurd (none-some _ w)
  without_by (states.Heading k ∷ rs) e z l w = absurd (none-some _ (sym l.1))
  without_by (states.Terms t ∷ rs) e z l w =
      let m = moved (Some n) None t rs c l.2 w in
      (m.0, record { records = states.Terms t ∷ rs; sized = (omega (arith, ap length e), z); encoded = e; lawful = (l.0, l.1, m.1); says = m.2 })
  without_by (states.Holding h ∷ rs) e z l w = absurd (none-some _ (sym l.1))
  without_by (states.Leg p ∷ rs) e z l w = absurd (none-some _ (sym l.1))

  without : Accepted (encode head ++ bytes) c → (c.number ≡ n) × Accepted bytes (numbered 0 c)
  without h = go h.records h.encoded h.lawful h.says
    where
      go :
          (rs : List Statement) → encode head ++ bytes ≡ flat_map encode rs → Lawful start rs → whole (after start rs) ≡ Some c
          → (c.number ≡ n) × Accepted bytes (numbered 0 c)
      go [] e l w = absurd (none-some _ w)
      go (r ∷ rs) e l w =
          let b = behind r rs e l in
          without_by rs b.1 (omega (arith, h.sized.1, length-append (encode head) bytes))
          (subst (λ x. Lawful (put start x) rs) (sym b.0) l.2)
          (ap (λ x. whole (after (put start x) rs)) b.0 ∙ w)

  with_by :
      (rs : List Statement) → bytes ≡ flat_map encode rs → Sized (encode head ++ bytes) → (get_or bytes 0 0 ≡ 1 → ⊥) → Lawful start rs
      → whole (after start rs) ≡ Some c → (c.number ≡ 0) × Accepted (encode head ++ bytes) (numbered n c)
  with_by [] e z no_head l w = absurd (none-some _ w)
  with_by (states.Heading k ∷ rs) e z no_head l w = absurd (no_head (ap (λ x. get_or x 0 0) e))
  with_by (states.Terms t ∷ rs) e z no_head l w =
      let m = moved None (Some n) t rs c l.2 w in (
        m.0,
        record {
          records = head ∷ (states.Terms t ∷ rs);
          sized = z;
          encoded = ap (λ x. encode head ++ x) e;
          lawful = (f, refl, (l.0, l.1, m.1));
          says = m.2;
        },
      )
  with_by (states.Holding h ∷ rs) e z no_head l w = absurd (none-some _ (sym l.1))
  with_by (states.Leg p ∷ rs) e z no_head l w = absurd (none-some _ (sym l.1))

pub heading_tells : HeadingTells
heading_tells n bytes c f =
    (without n bytes c f, λ z no_head h. with_by n bytes c f h.records h.encoded z no_head h.lawful h.says)
