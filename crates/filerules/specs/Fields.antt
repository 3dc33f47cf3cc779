-- The rules on a record's own fields.
use Rattle.std.specs.Prelude.{ℕ, ◌/◌, ◌^◌, Bool, not, ◌&&◌, ◌==◌, nat_le, nat_lt}
use Rattle.swap.specs.Assets.{asset_on}
use Rattle.swap.specs.Limits.{min_parties, max_parties, max_delta, file_ledgers}
use Rattle.swap.specs.declared.records.Holding.{Holding}
use Rattle.swap.specs.declared.records.Leg.{Leg}
use Rattle.swap.specs.declared.records.Terms.{Terms}

-- no party at or above n is in the set
abbrev pub within : ℕ → ℕ → Bool
within set n = (set / 2 ^ n) == 0

abbrev pub terms_hold : Terms → Bool
terms_hold t =
    nat_le min_parties t.parties && (nat_le t.parties max_parties && (not (t.leaders.bits == 0)
    && (within t.leaders.bits t.parties && (within t.outsiders.bits t.parties
    && (nat_le 1 t.delta && nat_le t.delta max_delta)))))

abbrev pub holding_holds : ℕ → Holding → Bool
holding_holds parties h = nat_lt h.ledger file_ledgers && (nat_lt h.party parties && asset_on h.ledger h.asset)

abbrev pub leg_holds : ℕ → Leg → Bool
leg_holds parties l =
    nat_lt l.payer parties && (nat_lt l.receiver parties && (not (l.payer == l.receiver)
    && (nat_lt l.ledger file_ledgers && asset_on l.ledger l.asset)))
