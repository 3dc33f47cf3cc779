-- What the functions answer.
use Rattle.std.specs.Prelude.{◌≡◌, ℕ, List, Some, None, Ok, Err, vec_items, Result}
use Rattle.filerules.specs.Said.{Said, put, fault_of}
use Rattle.records.specs.Records.{States}
use Rattle.records.specs.declared.record.Record.{Record}
use Rattle.records.specs.declared.record.Statement.{Statement}
use Rattle.swap.specs.declared.faults.Fault.{Fault}
use Rattle.swap.specs.declared.faults.Reason.TheVariants.{Missing}
use Rattle.swapfile.specs.Files.{Content, whole, Answer}
use Rattle.swapfile.specs.declared.file.SwapFile.{SwapFile}
use Rattle.swapfile.specs.declared.refusal.Refusal.{Refusal}
use Rattle.swapfile.specs.declared.refusal.Refusal.TheVariants as refusal

abbrev pub content_of : SwapFile → Content
content_of f = record { number = f.number; terms = f.terms; holdings = vec_items f.holdings; legs = vec_items f.legs }

-- a record taken in after what is said, or refused at its place with the rule that it breaks first
abbrev pub Taken : Said → ℕ → Record → Said → Result (Unit {0}) Refusal → Type 0
Taken s at r after (Ok u) = (st : Statement) × States r st × (fault_of s st ≡ None) × (after ≡ put s st)
Taken s at r after (Err (refusal.Fault f)) =
    (st : Statement) × States r st × (fault_of s st ≡ Some f.reason) × (f.place ≡ at) × (after ≡ s)
Taken s at r after (Err refusal.Memory) = after ≡ s

abbrev pub Finished : Said → ℕ → Result SwapFile Fault → Type 0
Finished s end (Ok f) = whole s ≡ Some (content_of f)
Finished s end (Err f) = (whole s ≡ None) × (f ≡ record { reason = Missing; place = end })

-- what a reading answers: the one answer of the rules, unless memory runs out
abbrev pub Reading : List ℕ → Result SwapFile Refusal → Type 0
Reading bytes (Ok f) = Answer bytes (Ok (content_of f))
Reading bytes (Err (refusal.Fault f)) = Answer bytes (Err f)
Reading bytes (Err refusal.Memory) = Unit {0}
