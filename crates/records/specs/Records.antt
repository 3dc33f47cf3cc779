-- The bytes of a swap file's records. A record is a kind byte and a body whose length its kind fixes.
use Rattle.std.specs.Prelude.{◌≡◌, ℕ, ◌/◌, ◌%◌, ◌^◌, ◌<◌, List, [], ◌∷◌, length, Some, None, Ok, Err, Option, Result, ◌==◌, if◌then◌else◌}
use Rattle.records.specs.declared.record.Kind.{Kind}
use Rattle.records.specs.declared.record.Kind.TheVariants as kinds
use Rattle.records.specs.declared.record.Record.{Record}
use Rattle.records.specs.declared.record.Record.TheVariants as raw
use Rattle.records.specs.declared.record.Statement.{Statement}
use Rattle.records.specs.declared.record.Statement.TheVariants.{Heading, Terms, Holding, Leg}
use Rattle.swap.specs.declared.faults.Reason.{Reason}
use Rattle.swap.specs.declared.faults.Reason.TheVariants.{UnknownKind}

-- a number as four bytes, the highest first
abbrev pub bytes4 : ℕ → List ℕ
bytes4 n = n / 2 ^ 24 ∷ (n / 2 ^ 16) % 256 ∷ (n / 2 ^ 8) % 256 ∷ n % 256 ∷ []

abbrev pub kind_of : Statement → ℕ
kind_of (Heading n) = 1
kind_of (Terms t) = 2
kind_of (Holding h) = 3
kind_of (Leg l) = 4

abbrev pub body_of : Statement → List ℕ
body_of (Heading n) = bytes4 n
body_of (Terms t) = t.parties ∷ t.leaders.bits ∷ t.outsiders.bits ∷ t.delta ∷ []
body_of (Holding h) = h.ledger ∷ h.party ∷ bytes4 h.asset
body_of (Leg l) = l.payer ∷ l.receiver ∷ l.ledger ∷ bytes4 l.asset

abbrev pub encode : Statement → List ℕ
encode s = kind_of s ∷ body_of s

-- each field fits its bytes
abbrev pub Fits : Statement → Type 0
Fits (Heading n) = n < 2 ^ 32
Fits (Terms t) = (t.parties < 256) × (t.leaders.bits < 256) × (t.outsiders.bits < 256) × (t.delta < 256)
Fits (Holding h) = (h.ledger < 256) × (h.party < 256) × (h.asset < 2 ^ 32)
Fits (Leg l) = (l.payer < 256) × (l.receiver < 256) × (l.ledger < 256) × (l.asset < 2 ^ 32)

-- the length of a body, where the kind is known
abbrev pub body_size : ℕ → Option ℕ
body_size kind =
    if kind == 1 then Some 4 else (if kind == 2 then Some 4 else (if kind == 3 then Some 6 else (if kind == 4 then Some 7 else None)))

-- the kind byte
abbrev pub byte_of : Kind → ℕ
byte_of kinds.Heading = 1
byte_of kinds.Terms = 2
byte_of kinds.Holding = 3
byte_of kinds.Leg = 4

-- a byte is a kind's, or of no known kind
abbrev pub Decodes : ℕ → Result Kind Reason → Type 0
Decodes byte (Ok kind) = byte_of kind ≡ byte
Decodes byte (Err reason) = (reason ≡ UnknownKind) × (body_size byte ≡ None)

-- a record as the reader hands it on
abbrev pub record_kind : Record → ℕ
record_kind (raw.Heading b) = 1
record_kind (raw.Terms b) = 2
record_kind (raw.Holding b) = 3
record_kind (raw.Leg b) = 4

abbrev pub record_body : Record → List ℕ
record_body (raw.Heading b) = b.now
record_body (raw.Terms b) = b.now
record_body (raw.Holding b) = b.now
record_body (raw.Leg b) = b.now

-- its body has the length of its kind
abbrev pub Formed : Record → Type 0
Formed r = body_size (record_kind r) ≡ Some (length (record_body r))

-- the body is the statement's
abbrev pub Holds : List ℕ → Statement → Type 0
Holds body s = (body_of s ≡ body) × Fits s

-- the record is the statement's
abbrev pub States : Record → Statement → Type 0
States r s = (kind_of s ≡ record_kind r) × Holds (record_body r) s
