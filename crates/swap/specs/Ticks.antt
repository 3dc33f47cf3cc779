-- The ticks that the rules speak of. W is the span.
use Rattle.std.specs.Prelude.{ℕ, ◌+◌, ◌*◌}
use Rattle.swap.specs.Swaps.{Swap}

-- the last tick at which an open works, W·delta
abbrev pub open_end : Swap → ℕ
open_end s = s.span * s.delta

-- the last tick at which a key of k parties works, (W + k)·delta
abbrev pub key_end : Swap → ℕ → ℕ
key_end s k = (s.span + k) * s.delta

-- the tick at which refunds are filed, and after which they work, 2·W·delta
abbrev pub refund_tick : Swap → ℕ
refund_tick s = 2 * s.span * s.delta

-- the last tick of a swap, (2·W + 1)·delta
abbrev pub last_tick : Swap → ℕ
last_tick s = (2 * s.span + 1) * s.delta
