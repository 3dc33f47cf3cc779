-- Who holds a title.
use Rattle.std.specs.Prelude.{Bool, true, false, Some, None, Option, if◌then◌else◌}
use Rattle.ledgers.specs.Stocks.{is_holder, same}
use Rattle.swap.specs.declared.records.Holder.{Holder}

abbrev pub held_by : Option Holder → Holder → Bool
held_by None holder = false
held_by (Some h) holder = same holder h

-- a title's holder exists, if it has one
abbrev pub exists : Option Holder → Bool
exists None = true
exists (Some h) = is_holder h

-- a title after one holder has given all to another
abbrev pub handed : Option Holder → Holder → Holder → Option Holder
handed title giver taker = if held_by title giver then Some taker else title
