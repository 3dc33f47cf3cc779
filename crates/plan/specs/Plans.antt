-- A plan, and what reading one answers.
use Rattle.std.specs.Prelude.{ℕ, List, Ok, Err, Result}
use Rattle.plan.specs.Meaning.{TheAnswer, swap_in}
use Rattle.plan.specs.declared.plan.Plan.{Plan}
use Rattle.swap.specs.Swaps.{Swap, Sound}
use Rattle.swapfile.specs.Reads.{content_of}
use Rattle.swapfile.specs.declared.refusal.Refusal.{Refusal}
use Rattle.swapfile.specs.declared.refusal.Refusal.TheVariants as refusal

abbrev pub planned : Plan → Swap
planned p = swap_in (content_of p.file) p.span

-- The plan, whose facts the promises rest on; or the refusal; or memory runs out, and nothing is said.
abbrev pub Reads : List ℕ → Result Plan Refusal → Type 0
Reads bytes (Ok p) = TheAnswer bytes (Ok (planned p)) × Sound (planned p)
Reads bytes (Err (refusal.Fault f)) = TheAnswer bytes (Err f)
Reads bytes (Err refusal.Memory) = Unit {0}
