-- What a ledger of titles means: each title is one of a unit of its own.
use Rattle.std.specs.Prelude.{List, None, Option, slice_index_or, if◌then◌else◌}
use Rattle.ledgers.specs.Stocks.{Counts}
use Rattle.swap.specs.declared.records.Holder.{Holder}
use Rattle.titles.specs.Titles.{held_by}
use Rattle.titles.specs.declared.ledger.TitleLedger.{TitleLedger}

abbrev pub held : List (Option Holder) → Counts
held titles holder unit = if held_by (slice_index_or titles unit None) holder then 1 else 0

abbrev pub titles_on : TitleLedger → Counts
titles_on ledger = held ledger.holders
