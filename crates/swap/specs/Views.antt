-- A swap as functions, read off the records of a file.
use Rattle.std.specs.Prelude.{ℕ, List, length, slice_index_or}
use Rattle.swap.specs.Sets.{member}
use Rattle.swap.specs.Swaps.{Swap}
use Rattle.swap.specs.declared.records.Holding.{Holding}
use Rattle.swap.specs.declared.records.Leg.{Leg}
use Rattle.swap.specs.declared.records.Terms.{Terms}

abbrev pub leg_at : List Leg → ℕ → Leg
leg_at legs i = slice_index_or legs i (record { payer = 0; receiver = 0; ledger = 0; asset = 0 })

abbrev pub holding_at : List Holding → ℕ → Holding
holding_at holdings k = slice_index_or holdings k (record { ledger = 0; party = 0; asset = 0 })

abbrev pub swap_of : ℕ → Terms → List Holding → List Leg → ℕ → Swap
swap_of number terms holdings legs span =
    record {
      number = number;
      parties = terms.parties;
      leader = member terms.leaders.bits;
      outsider = member terms.outsiders.bits;
      delta = terms.delta;
      span = span;
      legs = length legs;
      payer = λ i. (leg_at legs i).payer;
      receiver = λ i. (leg_at legs i).receiver;
      ledger = λ i. (leg_at legs i).ledger;
      asset = λ i. (leg_at legs i).asset;
      holdings = length holdings;
      holder = λ k. (holding_at holdings k).party;
      held_on = λ k. (holding_at holdings k).ledger;
      held = λ k. (holding_at holdings k).asset;
    }
