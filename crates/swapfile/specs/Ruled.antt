-- What holds of an accepted file's content.
use Rattle.std.specs.Prelude.{◌≡◌, ℕ, ◌<◌, ◌≤◌, List, length, slice_index_or, IsTrue, IsFalse}
use Rattle.filerules.specs.Said.{clash}
use Rattle.std.specs.List.{All}
use Rattle.swap.specs.Assets.{asset_on}
use Rattle.swap.specs.Limits.{min_parties, max_parties, max_delta, max_holdings, max_legs, file_ledgers}
use Rattle.swap.specs.Sets.{member}
use Rattle.swap.specs.declared.records.Holding.{Holding}
use Rattle.swap.specs.declared.records.Leg.{Leg}
use Rattle.swap.specs.declared.records.Terms.{Terms}
use Rattle.swapfile.specs.Files.{Content}

pub record RuledTerms (t : Terms) : Type 0 where
  pub few : min_parties ≤ t.parties
  pub most : t.parties ≤ max_parties
  pub delay : (1 ≤ t.delta) × (t.delta ≤ max_delta)
  -- some party leads, and all that are named exist
  pub leads : (p : ℕ) × IsTrue (member t.leaders.bits p)
  pub leaders : (p : ℕ) → IsTrue (member t.leaders.bits p) → p < t.parties
  pub outsiders : (p : ℕ) → IsTrue (member t.outsiders.bits p) → p < t.parties

pub record RuledHolding (parties : ℕ) (h : Holding) : Type 0 where
  pub ledger : h.ledger < file_ledgers
  pub party : h.party < parties
  pub asset : IsTrue (asset_on h.ledger h.asset)

pub record RuledLeg (parties : ℕ) (l : Leg) : Type 0 where
  pub payer : l.payer < parties
  pub receiver : l.receiver < parties
  pub differ : l.payer ≡ l.receiver → ⊥
  pub ledger : l.ledger < file_ledgers
  pub asset : IsTrue (asset_on l.ledger l.asset)

-- no two holdings are coins of one party on one ledger, or one title of one ledger
abbrev pub Apart : List Holding → Type 0
Apart hs = (i j : ℕ) (d : Holding) → i < j → j < length hs → IsFalse (clash (slice_index_or hs i d) (slice_index_or hs j d))

pub record Ruled (c : Content) : Type 0 where
  pub terms : RuledTerms c.terms
  pub holdings : All (RuledHolding c.terms.parties) c.holdings
  pub legs : All (RuledLeg c.terms.parties) c.legs
  pub holdings_most : length c.holdings ≤ max_holdings
  pub legs_some : 1 ≤ length c.legs
  pub legs_most : length c.legs ≤ max_legs
  pub apart : Apart c.holdings
