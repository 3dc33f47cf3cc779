-- What a swap file is: the encodings, one after another, of records that obey the rules.
use Rattle.std.specs.Prelude.{◌≡◌, ℕ, ◌≤◌, ◌⊎◌, List, [], ◌∷◌, ◌++◌, length, Some, None, Ok, Err, Option, Result}
use Rattle.filerules.specs.Said.{Said, start, put, fault_of}
use Rattle.records.specs.Reading.{Unread}
use Rattle.records.specs.Records.{encode, Fits}
use Rattle.records.specs.declared.record.Statement.{Statement}
use Rattle.std.specs.Option.{unwrap_or}
use Rattle.std.specs.List.{flat_map}
use Rattle.swap.specs.Limits.{max_file}
use Rattle.swap.specs.declared.faults.Fault.{Fault}
use Rattle.swap.specs.declared.faults.Reason.{Reason}
use Rattle.swap.specs.declared.faults.Reason.TheVariants.{FileSize, Missing}
use Rattle.swap.specs.declared.records.Holding.{Holding}
use Rattle.swap.specs.declared.records.Leg.{Leg}
use Rattle.swap.specs.declared.records.Terms.{Terms}

-- what an accepted file says
pub record Content : Type 0 where
  pub number : ℕ
  pub terms : Terms
  pub holdings : List Holding
  pub legs : List Leg

abbrev pub complete : Option ℕ → Option Terms → List Holding → List Leg → Option Content
complete n None hs ls = None
complete n (Some t) hs [] = None
complete n (Some t) hs (l ∷ ls) = Some record { number = unwrap_or n 0; terms = t; holdings = hs; legs = l ∷ ls }

-- what the records of a whole file say, unless terms or legs are missing; without a heading the number is 0
abbrev pub whole : Said → Option Content
whole s = complete s.number s.terms s.holdings s.legs

-- what is said after all of the records
abbrev pub after : Said → List Statement → Said
after s [] = s
after s (r ∷ rs) = after (put s r) rs

-- every record fits its bytes and obeys the rules after those before it
abbrev pub Lawful : Said → List Statement → Type 0
Lawful s [] = Unit {0}
Lawful s (r ∷ rs) = Fits r × (fault_of s r ≡ None) × Lawful (put s r) rs

abbrev pub Sized : List ℕ → Type 0
Sized bytes = (1 ≤ length bytes) × (length bytes ≤ max_file)

-- the bytes are those of lawful records, with terms and a leg, and say the content
pub record Accepted (bytes : List ℕ) (content : Content) : Type 0 where
  pub records : List Statement
  pub sized : Sized bytes
  pub encoded : bytes ≡ flat_map encode records
  pub lawful : Lawful start records
  pub says : whole (after start records) ≡ Some content

-- No file goes on with these bytes after records that said s, for this reason: what stands there cannot be read as a
-- record; or is a record that breaks a rule, this one first; or nothing stands there, and terms or legs are missing.
pub data Stuck (s : Said) (bytes : List ℕ) (reason : Reason) : Type 0 where
  unread : (kind : ℕ) (tail : List ℕ) → bytes ≡ kind ∷ tail → Unread kind tail reason → Stuck s bytes reason
  broken : (r : Statement) (tail : List ℕ) → bytes ≡ encode r ++ tail → Fits r → fault_of s r ≡ Some reason → Stuck s bytes reason
  ended : bytes ≡ [] → whole s ≡ None → reason ≡ Missing → Stuck s bytes reason

-- up to the fault's place the bytes are those of lawful records, and there no file goes on
pub record Refused (bytes : List ℕ) (fault : Fault) : Type 0 where
  pub records : List Statement
  pub rest : List ℕ
  pub sized : Sized bytes
  pub encoded : bytes ≡ flat_map encode records ++ rest
  pub lawful : Lawful start records
  pub place : fault.place ≡ length (flat_map encode records)
  pub stuck : Stuck (after start records) rest fault.reason

-- the file is empty or too long
abbrev pub Unsized : List ℕ → Fault → Type 0
Unsized bytes fault = (Sized bytes → ⊥) × (fault ≡ record { reason = FileSize; place = 0 })

-- the answer that the rules give to bytes
abbrev pub Answer : List ℕ → Result Content Fault → Type 0
Answer bytes (Ok content) = Accepted bytes content
Answer bytes (Err fault) = Unsized bytes fault ⊎ Refused bytes fault
