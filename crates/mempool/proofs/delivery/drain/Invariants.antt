use Rattle.std.proofs.Common.{length, vec_items}
use Rattle.std.specs.Iterator.{Yields}
use Rattle.mempool.specs.Calls.{Drained}
use Rattle.mempool.proofs.delivery.drain.Given as goal

abbrev pub invariant-loop-w : goal.invariant-loop-w
invariant-loop-w g l = record {
  taken : Drained (vec_items l.taken) (g.M.Mempool.waiting l.initial.pool) (g.M.Mempool.waiting l.pool);
  gives : Yields (g.M.Mempool.take_gives l.tick l.delta) l.initial.pool (vec_items l.taken) l.pool;
}

abbrev pub decreases-loop-w : goal.decreases-loop-w
decreases-loop-w g l = length (g.M.Mempool.waiting l.pool)
