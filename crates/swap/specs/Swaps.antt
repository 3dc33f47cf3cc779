-- A swap as planned, seen as functions of a leg's and a holding's number, and the facts that the promises rest on.
use Rattle.std.specs.Prelude.{◌≡◌, ℕ, ◌<◌, ◌≤◌, Bool, ◌&&◌, ◌==◌, ◌≢◌, if◌then◌else◌, IsTrue}
use Rattle.swap.specs.Assets.{rules_of, worth, asset_on}
use Rattle.swap.specs.Below.{sum_below}
use Rattle.swap.specs.Limits.{min_parties, max_parties, max_legs, max_delta, file_ledgers}
use Rattle.swap.specs.Routes.{Connected, Led, Span}

pub record Swap : Type 0 where
  pub number : ℕ
  pub parties : ℕ
  pub leader : ℕ → Bool
  pub outsider : ℕ → Bool
  pub delta : ℕ
  pub span : ℕ
  -- legs are numbered from 0
  pub legs : ℕ
  pub payer : ℕ → ℕ
  pub receiver : ℕ → ℕ
  pub ledger : ℕ → ℕ
  pub asset : ℕ → ℕ
  -- holdings likewise: who holds what, on which ledger
  pub holdings : ℕ
  pub holder : ℕ → ℕ
  pub held_on : ℕ → ℕ
  pub held : ℕ → ℕ

-- x pays a leg to y
abbrev pub Pays : Swap → ℕ → ℕ → Type 0
Pays s x y = (i : ℕ) × (i < s.legs) × (s.payer i ≡ x) × (s.receiver i ≡ y)

-- what a party holds of a unit on a ledger before the swap
abbrev pub start : Swap → ℕ → ℕ → ℕ → ℕ
start s party ledger unit =
    sum_below s.holdings (λ k. if s.holder k == party && s.held_on k == ledger then worth (rules_of ledger) (s.held k) unit else 0)

-- what a party's legs on a ledger are worth in a unit
abbrev pub owed : Swap → ℕ → ℕ → ℕ → ℕ
owed s party ledger unit =
    sum_below s.legs (λ i. if s.payer i == party && s.ledger i == ledger then worth (rules_of ledger) (s.asset i) unit else 0)

-- what all holdings on a ledger are worth in a unit
abbrev pub total : Swap → ℕ → ℕ → ℕ
total s ledger unit = sum_below s.holdings (λ k. if s.held_on k == ledger then worth (rules_of ledger) (s.held k) unit else 0)

-- What an accepted plan gives.
pub record Sound (s : Swap) : Type 0 where
  pub few : min_parties ≤ s.parties
  pub most : s.parties ≤ max_parties
  pub legs_most : s.legs ≤ max_legs
  pub delay : (1 ≤ s.delta) × (s.delta ≤ max_delta)
  pub exist : (i : ℕ) → i < s.legs → (s.payer i < s.parties) × (s.receiver i < s.parties)
  pub differ : (i : ℕ) → i < s.legs → s.payer i ≢ s.receiver i
  pub assets : (i : ℕ) → i < s.legs → (s.ledger i < file_ledgers) × IsTrue (asset_on (s.ledger i) (s.asset i))
  pub holders : (k : ℕ) → k < s.holdings → (s.holder k < s.parties) × (s.held_on k < file_ledgers) × IsTrue (asset_on (s.held_on k) (s.held k))
  -- any two parties are joined by a route
  pub connected : Connected (Pays s) s.parties
  -- every cycle holds a leader
  pub led : Led (Pays s) s.leader
  pub spanned : Span (Pays s) s.parties s.span
  -- each party holds what its legs pay
  pub covered : (p l u : ℕ) → owed s p l u ≤ start s p l u
  -- leaders are parties, and there is one
  pub leaders : (p : ℕ) → IsTrue (s.leader p) → p < s.parties
  pub leads : (p : ℕ) × IsTrue (s.leader p)
  -- no ledger is asked to take more of a unit than it can
  pub fits : (l u : ℕ) → l < file_ledgers → total s l u ≤ (rules_of l).ceiling
