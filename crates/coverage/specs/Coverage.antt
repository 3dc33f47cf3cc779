-- When a leg is covered by its payer's holdings.
use Rattle.std.specs.Prelude.{ℕ, suc, ◌<◌, Bool, not, ◌&&◌, List, length, Some, None, Option, ◌==◌, nat_le, if◌then◌else◌, IsTrue, IsFalse}
use Rattle.swap.specs.Assets.{holds_coins}
use Rattle.swap.specs.Below.{sum_below, some_below}
use Rattle.swap.specs.Views.{leg_at, holding_at}
use Rattle.swap.specs.declared.records.Holding.{Holding}
use Rattle.swap.specs.declared.records.Leg.{Leg}

-- the coins that a party holds on a ledger
abbrev pub coins_of : Holding → ℕ → ℕ → ℕ
coins_of h party ledger = if h.party == party && h.ledger == ledger then h.asset else 0

abbrev pub coins_held : List Holding → ℕ → ℕ → ℕ
coins_held holdings party ledger = sum_below (length holdings) (λ k. coins_of (holding_at holdings k) party ledger)

-- the coins that a party's first n legs on a ledger come to
abbrev pub coins_paid : Leg → ℕ → ℕ → ℕ
coins_paid leg party ledger = if leg.payer == party && leg.ledger == ledger then leg.asset else 0

abbrev pub coins_owed : List Leg → ℕ → ℕ → ℕ → ℕ
coins_owed legs n party ledger = sum_below n (λ j. coins_paid (leg_at legs j) party ledger)

-- does a party hold a title on a ledger?
abbrev pub is_title : Holding → ℕ → ℕ → ℕ → Bool
is_title h party ledger title = h.party == party && (h.ledger == ledger && h.asset == title)

abbrev pub holds_title : List Holding → ℕ → ℕ → ℕ → Bool
holds_title holdings party ledger title = some_below (length holdings) (λ k. is_title (holding_at holdings k) party ledger title)

-- does one of the first n legs name a title on a ledger?
abbrev pub names : Leg → ℕ → ℕ → Bool
names leg ledger title = leg.ledger == ledger && leg.asset == title

abbrev pub names_title : List Leg → ℕ → ℕ → ℕ → Bool
names_title legs n ledger title = some_below n (λ j. names (leg_at legs j) ledger title)

-- A coin leg is covered when its payer holds there what its legs come to, up to and including this one;
-- a title leg when its payer holds the title and no earlier leg on the ledger names it.
abbrev pub covered_leg : List Holding → List Leg → ℕ → Leg → Bool
covered_leg holdings legs i leg =
    if holds_coins leg.ledger
    then nat_le (coins_owed legs (suc i) leg.payer leg.ledger) (coins_held holdings leg.payer leg.ledger)
    else holds_title holdings leg.payer leg.ledger leg.asset && not (names_title legs i leg.ledger leg.asset)

abbrev pub covered : List Holding → List Leg → ℕ → Bool
covered holdings legs i = covered_leg holdings legs i (leg_at legs i)

-- the answer: none where every leg is covered, else the lowest that is not
abbrev pub Uncovered : List Holding → List Leg → Option ℕ → Type 0
Uncovered holdings legs None = (i : ℕ) → i < length legs → IsTrue (covered holdings legs i)
Uncovered holdings legs (Some i) =
    (i < length legs) × IsFalse (covered holdings legs i) × ((j : ℕ) → j < i → IsTrue (covered holdings legs j))
