-- What holds of every file.
use Rattle.std.specs.Prelude.{◌≡◌, ℕ, ◌^◌, ◌<◌, List, ◌++◌, Some, Ok, Result, ◌≢◌, slice_index}
use Rattle.filerules.specs.Said.{start}
use Rattle.records.specs.Records.{encode}
use Rattle.records.specs.declared.record.Statement.{Statement}
use Rattle.records.specs.declared.record.Statement.TheVariants.{Heading}
use Rattle.std.specs.List.{flat_map, All}
use Rattle.swap.specs.declared.faults.Fault.{Fault}
use Rattle.swapfile.specs.Files.{Content, whole, after, Lawful, Sized, Answer}

-- no bytes have two answers
abbrev pub OneAnswer : Type 0
OneAnswer = (bytes : List ℕ) (a b : Result Content Fault) → Answer bytes a → Answer bytes b → a ≡ b

-- every string of bytes has an answer
abbrev pub SomeAnswer : Type 0
SomeAnswer = (bytes : List ℕ) → All (λ b. b < 256) bytes → (a : Result Content Fault) × Answer bytes a

-- the one answer to the encodings of a lawful file is what its records say
abbrev pub ReadsBack : Type 0
ReadsBack =
    (rs : List Statement) (content : Content) → Sized (flat_map encode rs) → Lawful start rs
    → whole (after start rs) ≡ Some content
    → Answer (flat_map encode rs) (Ok content) × ((a : Result Content Fault) → Answer (flat_map encode rs) a → a ≡ Ok content)

-- the content under another number
abbrev pub numbered : ℕ → Content → Content
numbered n c = record { number = n; terms = c.terms; holdings = c.holdings; legs = c.legs }

-- With a heading in front and without, a file says the same but for the number, which is the heading's or 0.
abbrev pub HeadingTells : Type 0
HeadingTells =
    (n : ℕ) (bytes : List ℕ) (c : Content) → n < 2 ^ 32
    → (Answer (encode (Heading n) ++ bytes) (Ok c) → (c.number ≡ n) × Answer bytes (Ok (numbered 0 c)))
    × (Sized (encode (Heading n) ++ bytes) → (slice_index bytes 0 ≢ 1) → Answer bytes (Ok c)
    → (c.number ≡ 0) × Answer (encode (Heading n) ++ bytes) (Ok (numbered n c)))
