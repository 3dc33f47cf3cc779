-- The two kinds of asset, and what an asset is worth.
use Rattle.std.specs.Prelude.{ℕ, Bool, true, false, ◌&&◌, ◌==◌, nat_le, nat_lt, if◌then◌else◌}
use Rattle.swap.specs.Limits.{coin_ledgers, coin_ceiling, max_coins, titles}

-- A kind of asset: which numbers are assets, the one unit that an asset is of and how many of it,
-- how many units there are, and the most of a unit that a ledger takes.
pub record Rules : Type 0 where
  pub valid : ℕ → Bool
  pub unit : ℕ → ℕ
  pub amount : ℕ → ℕ
  pub units : ℕ
  pub ceiling : ℕ

-- what an asset has of a unit
abbrev pub worth : Rules → ℕ → ℕ → ℕ
worth k asset unit = if unit == k.unit asset then k.amount asset else 0

abbrev pub coin_asset : ℕ → Bool
coin_asset asset = nat_le 1 asset && nat_le asset max_coins

abbrev pub title_asset : ℕ → Bool
title_asset asset = nat_lt asset titles

-- asset n is n of unit 0
abbrev pub coin_rules : Rules
coin_rules = record { valid = coin_asset; unit = λ _. 0; amount = λ asset. asset; units = 1; ceiling = coin_ceiling }

-- asset n is one of unit n
abbrev pub title_rules : Rules
title_rules = record { valid = title_asset; unit = λ asset. asset; amount = λ _. 1; units = titles; ceiling = 1 }

-- which of a file's ledgers hold coins; the others hold titles
abbrev pub holds_coins : ℕ → Bool
holds_coins ledger = nat_lt ledger coin_ledgers

abbrev pub rules_if : Bool → Rules
rules_if true = coin_rules
rules_if false = title_rules

-- the rules of a file's ledger
abbrev pub rules_of : ℕ → Rules
rules_of ledger = rules_if (holds_coins ledger)

-- the assets that a file's ledger can hold
abbrev pub asset_on : ℕ → ℕ → Bool
asset_on ledger asset = (rules_of ledger).valid asset
