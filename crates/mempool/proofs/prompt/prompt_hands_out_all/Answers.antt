use Rattle.std.proofs.Common.{[], ◌∷◌, Some, None, refl, arith}
use Rattle.mempool.proofs.prompt.prompt_hands_out_all.Goals as goal

pub returns-clause-all : goal.returns-clause-all
returns-clause-all c None [] none = refl
returns-clause-all c None (w ∷ ws) none = absurd (none 0 w (omega arith) tt)
returns-clause-all c (Some w) old handed = handed.1

pub returns-clause-prompt : goal.returns-clause-prompt
returns-clause-prompt c tick delta None [] new none = refl
returns-clause-prompt c tick delta None (w ∷ ws) new none = absurd (none 0 w (omega arith) tt)
returns-clause-prompt c tick delta (Some w) old new handed = handed.1
