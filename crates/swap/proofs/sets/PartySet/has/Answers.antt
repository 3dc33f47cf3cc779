use Rattle.std.proofs.Common.{◌^◌, ◌<◌, sym, ◌∙◌, arith}
use Rattle.std.proofs.lemmas.Bool.{le-ltb}
use Rattle.swap.proofs.Bits.{none, short}
use Rattle.swap.proofs.sets.PartySet.has.Goals as goal

pub returns-else-party-lt-SET_BITS : goal.returns-else-party-lt-SET_BITS
returns-else-party-lt-SET_BITS c =
    let f : c.args.self.now.bits < 2 ^ 16 = omega arith in
    le-ltb c.args.party 16 c.if-party-lt-SET_BITS.false ∙ sym (none _ _ (short _ _ f c.if-party-lt-SET_BITS.false))
