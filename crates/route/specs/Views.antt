-- A route as the list of its parties.
use Rattle.std.specs.Prelude.{◌≡◌, ℕ, ◌-◌, List, ◌++◌, length, take, replicate, IsTrue}
use Rattle.route.specs.declared.Route.TheInside.{Inside}
use Rattle.swap.specs.Limits.{max_parties}
pub use Rattle.swap.specs.Routes.{proper, first_party, last_party, suffix}

abbrev pub parties_of : Inside → List ℕ
parties_of r = take r.len r.parties

-- the parties, and zeros behind
abbrev pub padded : List ℕ → List ℕ
padded parties = parties ++ replicate (max_parties - length parties) 0

pub record IsRoute (r : Inside) : Type 0 where
  pub route : IsTrue (proper (parties_of r))
  pub len : length (parties_of r) ≡ r.len
  pub padding : r.parties ≡ padded (parties_of r)
