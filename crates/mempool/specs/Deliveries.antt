-- What a drain hands over, in the order in which it was handed out.
use Rattle.std.specs.Iterator.{Yields, YieldsThen}
use Rattle.std.specs.Prelude.{List, [], ◌∷◌, ◌++◌, None, Ok, Err, vec_items, Option, Result, Vec}
use Rattle.swap.specs.declared.records.Waiting.{Waiting}
use Rattle.mempool.specs.declared.delivery.Overrun.{Overrun}

abbrev pub delivered : {A : Type 0} → Result (Vec Waiting A) Overrun → List Waiting
delivered (Ok v) = vec_items v
delivered (Err o) = vec_items o.taken ++ o.last ∷ []

-- Take after take, each of which Gives, handed over just that; the last one none, unless memory ran out.
abbrev pub DeliveredBy : {A S : Type 0} → (S → Option Waiting → S → Type 0) → Result (Vec Waiting A) Overrun → S → S → Type 0
DeliveredBy Gives (Ok v) before after = YieldsThen Gives before (vec_items v) None after
DeliveredBy Gives (Err o) before after = Yields Gives before (vec_items o.taken ++ o.last ∷ []) after
