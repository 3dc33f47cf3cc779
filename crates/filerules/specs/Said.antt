-- What records say, one after another, and the rules that a record obeys after those before it.
use Rattle.std.specs.Prelude.{ℕ, Bool, true, false, not, ◌&&◌, ◌||◌, List, [], ◌∷◌, ◌++◌, length, is_some, Some, None, vec_items, Option, ◌==◌, nat_le, nat_lt, if◌then◌else◌}
use Rattle.filerules.specs.Fields.{terms_hold, holding_holds, leg_holds}
use Rattle.filerules.specs.declared.draft.Draft.{Draft}
use Rattle.records.specs.Records.{kind_of}
use Rattle.records.specs.declared.record.Statement.{Statement}
use Rattle.records.specs.declared.record.Statement.TheVariants as states
use Rattle.std.specs.List.{list_any}
use Rattle.swap.specs.Assets.{holds_coins}
use Rattle.swap.specs.Limits.{max_holdings, max_legs}
use Rattle.swap.specs.declared.faults.Reason.{Reason}
use Rattle.swap.specs.declared.faults.Reason.TheVariants.{OutOfOrder, BadField, TooMany, HeldTwice}
use Rattle.swap.specs.declared.records.Holding.{Holding}
use Rattle.swap.specs.declared.records.Leg.{Leg}
use Rattle.swap.specs.declared.records.Terms.{Terms}

-- what the records so far say; `ahead` is the kind of the last one, 0 before the first
pub record Said : Type 0 where
  pub ahead : ℕ
  pub number : Option ℕ
  pub terms : Option Terms
  pub holdings : List Holding
  pub legs : List Leg

abbrev pub start : Said
start = record { ahead = 0; number = None; terms = None; holdings = []; legs = [] }

abbrev pub said : Draft → Said
said d =
    record { ahead = d.ahead; number = d.number; terms = d.terms; holdings = vec_items d.holdings; legs = vec_items d.legs }

-- with one record more
abbrev pub put : Said → Statement → Said
put s (states.Heading n) = record s { ahead = 1; number = Some n }
put s (states.Terms t) = record s { ahead = 2; terms = Some t }
put s (states.Holding h) = record s { ahead = 3; holdings = s.holdings ++ h ∷ [] }
put s (states.Leg l) = record s { ahead = 4; legs = s.legs ++ l ∷ [] }

-- its kind comes before that of the record ahead of it, or it is a holding or a leg before the terms
abbrev pub late : Said → Statement → Bool
late s r = nat_lt (kind_of r) s.ahead || (nat_lt 2 (kind_of r) && not (is_some s.terms))

abbrev pub parties_of : Option Terms → ℕ
parties_of None = 0
parties_of (Some t) = t.parties

abbrev pub fields_hold : Said → Statement → Bool
fields_hold s (states.Heading n) = true
fields_hold s (states.Terms t) = terms_hold t
fields_hold s (states.Holding h) = holding_holds (parties_of s.terms) h
fields_hold s (states.Leg l) = leg_holds (parties_of s.terms) l

-- no more of its kind may come
abbrev pub full : Said → Statement → Bool
full s (states.Heading n) = is_some s.number
full s (states.Terms t) = is_some s.terms
full s (states.Holding h) = nat_le max_holdings (length s.holdings)
full s (states.Leg l) = nat_le max_legs (length s.legs)

-- both are coins of one party on one ledger, or one title of one ledger
abbrev pub clash : Holding → Holding → Bool
clash k h =
    (k.ledger == h.ledger) && (if holds_coins h.ledger then k.party == h.party else k.asset == h.asset)

abbrev pub held : List Holding → Holding → Bool
held ks h = list_any (λ k. clash k h) ks

abbrev pub held_before : Said → Statement → Bool
held_before s (states.Heading n) = false
held_before s (states.Terms t) = false
held_before s (states.Holding h) = held s.holdings h
held_before s (states.Leg l) = false

-- the reason of the first test that is true
abbrev pub first_failed : List (Bool × Reason) → Option Reason
first_failed [] = None
first_failed (t ∷ ts) = if t.0 then Some t.1 else first_failed ts

-- the rule that a record breaks after those before it: the one with the lowest number
abbrev pub fault_of : Said → Statement → Option Reason
fault_of s r =
    first_failed
    ((late s r, OutOfOrder) ∷ (not (fields_hold s r), BadField) ∷ (full s r, TooMany) ∷ (held_before s r, HeldTwice) ∷ [])
