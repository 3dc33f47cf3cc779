-- What the reader answers.
use Rattle.std.specs.Prelude.{◌≡◌, ℕ, ◌<◌, List, [], ◌∷◌, ◌++◌, length, drop, Some, None, Ok, Err, Option, Result}
use Rattle.std.specs.Borrow.{Bor}
use Rattle.records.specs.Records.{body_size, record_kind, record_body, Formed}
use Rattle.records.specs.declared.reader.Reader.{Reader}
use Rattle.records.specs.declared.record.Record.{Record}
use Rattle.swap.specs.declared.faults.Fault.{Fault}
use Rattle.swap.specs.declared.faults.Reason.{Reason}
use Rattle.swap.specs.declared.faults.Reason.TheVariants.{UnknownKind, CutShort}

abbrev pub source : Reader → List ℕ
source r = r.bytes.now

-- how far the reader has come
abbrev pub place : Reader → ℕ
place r = r.at

-- no record can be read where a kind byte and then `tail` stand: the kind is unknown, or its body is cut short
pub data Unread (kind : ℕ) (tail : List ℕ) (reason : Reason) : Type 0 where
  unknown : body_size kind ≡ None → reason ≡ UnknownKind → Unread kind tail reason
  short : (n : ℕ) → body_size kind ≡ Some n → length tail < n → reason ≡ CutShort → Unread kind tail reason

-- what `framed` answers of a kind byte at `at` and the bytes behind it
abbrev pub Framed : ℕ → List ℕ → ℕ → Result (Record × Bor (List ℕ)) Fault → Type 0
Framed kind tail at (Ok p) =
    (record_kind p.0 ≡ kind) × Formed p.0 × (record_body p.0 ++ p.1.now ≡ tail)
Framed kind tail at (Err f) = (f.place ≡ at) × Unread kind tail f.reason

-- What `next` answers of the bytes behind `at`, and how far it comes: the end, a record with its place, or no record.
abbrev pub Next : List ℕ → ℕ → ℕ → Result (Option (ℕ × Record)) Fault → Type 0
Next bytes at after (Ok None) = (drop at bytes ≡ []) × (after ≡ at)
Next bytes at after (Ok (Some p)) =
    (p.0 ≡ at) × Formed p.1 × (record_kind p.1 ∷ record_body p.1 ++ drop after bytes ≡ drop at bytes)
Next bytes at after (Err f) =
    (f.place ≡ at) × ((kind : ℕ) × (tail : List ℕ) × (drop at bytes ≡ kind ∷ tail) × Unread kind tail f.reason)
