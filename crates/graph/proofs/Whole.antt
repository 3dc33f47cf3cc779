-- Of a swap whose legs are between its parties, everything is said over its legs alone.
use Rattle.std.proofs.Common.{◌≡◌, ℕ, ◌<◌, ◌≤◌, List, Some, None, Option, subst, inl, inr, ⊎_elim, arith}
use Rattle.graph.proofs.Joins.{joined_map, reaches_map, cycle_map}
use Rattle.graph.proofs.Statements.{plain}
use Rattle.graph.specs.Graphs.{Pays, Among, count, Spanned, Connects, Leads, Inside}
use Rattle.swap.specs.Limits.{max_parties}
use Rattle.swap.specs.Routes.{Joined, Reaches, Span}
use Rattle.swap.specs.declared.records.Leg.{Leg}

module _ (legs : List Leg) (n : ℕ) (inside : Inside n legs) where
  to : (x y : ℕ) → Pays legs x y → Among n legs x y
  to x y p = (p, subst (λ q. q < n) p.2 (inside p.0 p.1).0, subst (λ q. q < n) p.3 (inside p.0 p.1).1)

  from : (x y : ℕ) → Among n legs x y → Pays legs x y
  from x y p = p.0

  tos : (r : List ℕ) → Joined (Pays legs) r → Joined (Among n legs) r
  tos = joined_map (Pays legs) (Among n legs) to

  reach_to : (x y : ℕ) → Reaches (Pays legs) x y → Reaches (Among n legs) x y
  reach_to = reaches_map (Pays legs) (Among n legs) to

  reach_from : (x y : ℕ) → Reaches (Among n legs) x y → Reaches (Pays legs) x y
  reach_from = reaches_map (Among n legs) (Pays legs) from

  span_from : (w : ℕ) → Span (Among n legs) n w → Span (Pays legs) n w
  span_from w s = record {
    some = (s.some.0, plain legs n s.some.0 s.some.1, s.some.2, s.some.3);
    most = λ r j. s.most r (tos r j);
  }

  connects_from : (r : Option ℕ) → Connects (Among n legs) n r → Connects (Pays legs) n r
  connects_from None h = λ x y l m. reach_from x y (h x y l m)
  connects_from (Some p) h = record {
    exists = h.exists;
    apart = ⊎_elim (λ never. inl (λ r. never (reach_to 0 p r))) (λ never. inr (λ r. never (reach_to p 0 r))) h.apart;
    lowest = λ q l. (reach_from 0 q (h.lowest q l).0, reach_from q 0 (h.lowest q l).1);
  }

  leads_from : (leaders : ℕ) (r : Option ℕ) → Leads (Among n legs) n leaders r → Leads (Pays legs) n leaders r
  leads_from leaders None h = λ x r c. h x r (cycle_map (Pays legs) (Among n legs) to x r c)
  leads_from leaders (Some p) h =
      let l = h.cycle in
      record {
        exists = h.exists;
        cycle = record {
          from = l.from;
          by = l.by;
          cycle = cycle_map (Among n legs) (Pays legs) from l.from l.by l.cycle;
          on = l.on;
          none = l.none;
        };
        lowest = λ q lt c. h.lowest q lt (record {
          from = c.from;
          by = c.by;
          cycle = cycle_map (Pays legs) (Among n legs) to c.from c.by c.cycle;
          on = c.on;
          none = c.none;
        });
      }

  module _ (few : n ≤ max_parties) where
    same : count n ≡ n
    same = omega arith

    -- what `span`, `cut_off` and `unled` ensure, of such a swap
    pub whole_span : (w : ℕ) → 1 ≤ n → Spanned (Among (count n) legs) (count n) w → Span (Pays legs) n w
    whole_span w l h = span_from w ((subst (λ m. Spanned (Among m legs) m w) same h).some l)

    pub whole_connects : (r : Option ℕ) → Connects (Among (count n) legs) (count n) r → Connects (Pays legs) n r
    whole_connects r h = connects_from r (subst (λ m. Connects (Among m legs) m r) same h)

    pub whole_leads : (leaders : ℕ) (r : Option ℕ) → Leads (Among (count n) legs) (count n) leaders r → Leads (Pays legs) n leaders r
    whole_leads leaders r h = leads_from leaders r (subst (λ m. Leads (Among m legs) m leaders r) same h)
