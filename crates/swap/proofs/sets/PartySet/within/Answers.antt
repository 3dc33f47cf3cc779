use Rattle.std.proofs.Common.{◌^◌, ◌<◌, arith}
use Rattle.std.proofs.lemmas.Bool.{le-leb}
use Rattle.swap.proofs.Bits.{within, short, tells}
use Rattle.swap.proofs.sets.PartySet.within.Goals as goal

pub returns-then-parties-ge-SET_BITS : goal.returns-then-parties-ge-SET_BITS
returns-then-parties-ge-SET_BITS c =
    let f : c.args.self.now.bits < 2 ^ 16 = omega arith in
    rw (le-leb 16 c.args.parties c.if-parties-ge-SET_BITS.true) (within _ _ (short _ _ f c.if-parties-ge-SET_BITS.true))

pub returns-else-parties-ge-SET_BITS : goal.returns-else-parties-ge-SET_BITS
returns-else-parties-ge-SET_BITS c =
    let f : c.args.self.now.bits < 2 ^ 16 = omega arith in
    tells c.args.self.now.bits c.args.parties f
