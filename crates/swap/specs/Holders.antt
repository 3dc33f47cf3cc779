-- The parties and the escrow accounts that there can be.
use Rattle.std.specs.Prelude.{ℕ, Bool, nat_lt}
use Rattle.swap.specs.Limits.{max_legs, max_parties}
use Rattle.swap.specs.declared.records.Holder.{Holder}
use Rattle.swap.specs.declared.records.Holder.TheVariants.{Party, Escrow}

abbrev pub is_party : ℕ → Bool
is_party party = nat_lt party max_parties

-- each leg has the account of its number
abbrev pub is_account : ℕ → Bool
is_account account = nat_lt account max_legs

abbrev pub is_holder : Holder → Bool
is_holder (Party p) = is_party p
is_holder (Escrow a) = is_account a
