use Rattle.std.proofs.Common.{◌≡◌, suc, ◌+◌, ◌&&◌, not, ap, ap₂, sym, ◌∙◌, leb, add-one, arith}
use Rattle.std.proofs.lemmas.Bool.{cond-true, cond-false}
use Rattle.coverage.proofs.Below.{sum_front, sum_all, some_front, some_all}
use Rattle.coverage.proofs.covers.Goals as goal
use Rattle.coverage.specs.Coverage.{coins_of, coins_paid, is_title, names, coins_owed, coins_held, holds_title, names_title}
use Rattle.swap.specs.Assets.{holds_coins}
use Rattle.swap.specs.Views.{leg_at}

pub returns-then-holds_coins : goal.returns-then-holds_coins
returns-then-holds_coins c =
    let leg = leg_at c.args.legs.now c.args.i in
    let owed : c.coins_owed.result ≡ coins_owed c.args.legs.now (suc c.args.i) leg.payer leg.ledger =
    c.coins_owed.ensures ∙ sum_front _ _ (λ l. coins_paid l leg.payer leg.ledger) (c.args.i + 1) (omega arith)
    ∙ ap (λ n. coins_owed c.args.legs.now n leg.payer leg.ledger) (add-one c.args.i) in
    let held : c.coins_held.result ≡ coins_held c.args.holdings.now leg.payer leg.ledger =
    c.coins_held.ensures ∙ sum_all _ _ (λ h. coins_of h leg.payer leg.ledger) in
    ap₂ leb owed held ∙ sym (cond-true (holds_coins leg.ledger) _ _ (sym c.holds_coins.ensures ∙ c.if-holds_coins.true))

pub returns-then-holds_title : goal.returns-then-holds_title
returns-then-holds_title c =
    let leg = leg_at c.args.legs.now c.args.i in
    let held : c.holds_title.result ≡ holds_title c.args.holdings.now leg.payer leg.ledger leg.asset =
    c.holds_title.ensures ∙ some_all _ _ (λ h. is_title h leg.payer leg.ledger leg.asset) in
    let named : c.names_title.result ≡ names_title c.args.legs.now c.args.i leg.ledger leg.asset =
    c.names_title.ensures ∙ some_front _ _ (λ l. names l leg.ledger leg.asset) c.args.i (omega arith) in
    ap₂ (λ x y. x && not y) (sym c.if-holds_title.true ∙ held) named
    ∙ sym (cond-false (holds_coins leg.ledger) _ _ (sym c.holds_coins.ensures ∙ c.if-holds_coins.false))

pub returns-else-holds_title : goal.returns-else-holds_title
returns-else-holds_title c =
    let leg = leg_at c.args.legs.now c.args.i in
    let held : c.holds_title.result ≡ holds_title c.args.holdings.now leg.payer leg.ledger leg.asset =
    c.holds_title.ensures ∙ some_all _ _ (λ h. is_title h leg.payer leg.ledger leg.asset) in
    c.if-holds_title.false ∙ ap (λ x. x && not (names_title c.args.legs.now c.args.i leg.ledger leg.asset)) (sym c.if-holds_title.false ∙ held)
    ∙ sym (cond-false (holds_coins leg.ledger) _ _ (sym c.holds_coins.ensures ∙ c.if-holds_coins.false))
