-- What any string of bytes means: a swap as planned, or the one refusal.
use Rattle.std.specs.Prelude.{◌≡◌, ℕ, ◌⊎◌, List, Ok, Err, Result}
use Rattle.plan.specs.Check.{Accepted, Refused}
use Rattle.swap.specs.Swaps.{Swap, Sound}
use Rattle.swap.specs.Views.{swap_of}
use Rattle.swap.specs.declared.faults.Fault.{Fault}
use Rattle.swapfile.specs.Files.{Content, Answer}

-- the swap that a file's content plans, with this span
abbrev pub swap_in : Content → ℕ → Swap
swap_in c span = swap_of c.number c.terms c.holdings c.legs span

-- A file that keeps its rules and whose plan is accepted means its swap; else the refusal of the file, or of its plan, is told.
abbrev pub Means : List ℕ → Result Swap Fault → Type 0
Means bytes (Ok swap) =
    (c : Content) × (span : ℕ) × Answer bytes (Ok c) × Accepted c.terms c.holdings c.legs span × (swap ≡ swap_in c span)
Means bytes (Err fault) =
    Answer bytes (Err fault) ⊎ ((c : Content) × Answer bytes (Ok c) × Refused c.terms c.holdings c.legs fault)

-- the answer, and there is no other
pub record TheAnswer (bytes : List ℕ) (answer : Result Swap Fault) : Type 0 where
  pub means : Means bytes answer
  pub only : (other : Result Swap Fault) → Means bytes other → other ≡ answer

-- no bytes mean two things
abbrev pub OneMeaning : Type 0
OneMeaning = (bytes : List ℕ) (a b : Result Swap Fault) → Means bytes a → Means bytes b → a ≡ b

-- what bytes mean is a swap with all the facts that the promises rest on
abbrev pub MeansSound : Type 0
MeansSound = (bytes : List ℕ) (swap : Swap) → Means bytes (Ok swap) → Sound swap
