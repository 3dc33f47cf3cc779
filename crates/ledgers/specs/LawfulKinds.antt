-- Both kinds of asset are lawful.
use Rattle.std.proofs.Common.{le_refl}
use Rattle.std.proofs.lemmas.Bool.{and_parts, leb-true, ltb-true}
use Rattle.ledgers.specs.Stocks.{Lawful, coin_rules, title_rules}
use Rattle.swap.specs.Limits.{titles}

pub coins_lawful : Lawful coin_rules
coins_lawful asset valid = (leb-true 1 asset (and_parts _ _ valid).0, le_refl 1)

pub titles_lawful : Lawful title_rules
titles_lawful asset valid = (le_refl 1, ltb-true asset titles valid)
