-- Every string of bytes has an answer.
use Rattle.std.proofs.Common.{◌≡◌, ℕ, zero, suc, ◌+◌, ◌*◌, ◌^◌, ◌<◌, ◌≤◌, Bool, true, false, cond, eqb, ◌⊎◌, List, [], ◌∷◌, ◌++◌, length, take, drop, Some, None, Ok, Err, Option, Result, sym, refl, ap, ◌∙◌, subst, inl, inr, ⊎_elim, append_assoc, arith}
use Rattle.filerules.specs.Said.{Said, start, put, fault_of}
use Rattle.swapfile.proofs.Bytes.{at, number_holds, terms_hold, holding_holds, leg_holds}
use Rattle.records.specs.Reading.{Unread, unknown, short}
use Rattle.records.specs.Records.{bytes4, kind_of, encode, body_of, body_size, Fits, Holds}
use Rattle.records.specs.declared.record.Statement.{Statement}
use Rattle.records.specs.declared.record.Statement.TheVariants as states
use Rattle.std.proofs.lemmas.List.Elements.{All-get_or, All-tail, All-take, All-drop}
use Rattle.std.proofs.lemmas.List.{append-nil, take-append-drop, length-append, length-take-le, length-drop, take_rest, drop_at}
use Rattle.std.proofs.lemmas.Bool.{eqb-true, cases_lt}
use Rattle.std.specs.List.{flat_map, All}
use Rattle.swap.specs.Limits.{max_file}
use Rattle.swap.specs.declared.faults.Fault.{Fault}
use Rattle.swap.specs.declared.faults.Reason.{Reason}
use Rattle.swap.specs.declared.faults.Reason.TheVariants.{FileSize, UnknownKind, CutShort, Missing}
use Rattle.swapfile.specs.Files.{Content, whole, after, Lawful, Sized, Stuck, unread, broken, ended, Answer}
use Rattle.swapfile.specs.Theorems.{SomeAnswer}

abbrev Byte : ℕ → Type 0
Byte b = b < 256

-- a list of four bytes is a number's
number : (xs : List ℕ) → length xs ≡ 4 → All Byte xs → (n : ℕ) × (bytes4 n ≡ xs) × (n < 2 ^ 32)
number xs l a =
    let p : Byte (at xs 0) = All-get_or Byte xs 0 0 (omega arith) a in
    let q : Byte (at xs 1) = All-get_or Byte xs 1 0 (omega arith) a in
    let r : Byte (at xs 2) = All-get_or Byte xs 2 0 (omega arith) a in
    let s : Byte (at xs 3) = All-get_or Byte xs 3 0 (omega arith) a in
    let n : ℕ = at xs 0 * 16777216 + at xs 1 * 65536 + at xs 2 * 256 + at xs 3 in
    (n, number_holds xs n l p q r s refl, omega arith)

-- a body of the right length is a statement's
abbrev Body : ℕ → List ℕ → Type 0
Body kind xs = (r : Statement) × (kind_of r ≡ kind) × Holds xs r

heading_of : (xs : List ℕ) → length xs ≡ 4 → All Byte xs → Body 1 xs
heading_of xs l a = let m = number xs l a in (states.Heading m.0, refl, (m.1, m.2))

terms_of : (xs : List ℕ) → length xs ≡ 4 → All Byte xs → Body 2 xs
terms_of xs l a =
    let p : Byte (at xs 0) = All-get_or Byte xs 0 0 (omega arith) a in
    let q : Byte (at xs 1) = All-get_or Byte xs 1 0 (omega arith) a in
    let r : Byte (at xs 2) = All-get_or Byte xs 2 0 (omega arith) a in
    let s : Byte (at xs 3) = All-get_or Byte xs 3 0 (omega arith) a in (
      states.Terms record { parties = at xs 0; leaders = record { bits = at xs 1 }; outsiders = record { bits = at xs 2 }; delta = at xs 3 },
      refl,
      (terms_hold xs (at xs 1) (at xs 2) l refl refl, (p, q, r, s)),
    )

holding_of : (xs : List ℕ) → length xs ≡ 6 → All Byte xs → Body 3 xs
holding_of xs l a =
    let p : Byte (at xs 0) = All-get_or Byte xs 0 0 (omega arith) a in
    let q : Byte (at xs 1) = All-get_or Byte xs 1 0 (omega arith) a in
    let m = number (drop 2 xs) (omega (arith, length-drop 2 xs)) (All-drop Byte 2 xs a) in (
      states.Holding record { ledger = at xs 0; party = at xs 1; asset = m.0 },
      refl,
      (holding_holds xs m.0 (omega arith) (m.1 ∙ sym (take_rest xs 2)), (p, q, m.2)),
    )

leg_of : (xs : List ℕ) → length xs ≡ 7 → All Byte xs → Body 4 xs
leg_of xs l a =
    let p : Byte (at xs 0) = All-get_or Byte xs 0 0 (omega arith) a in
    let q : Byte (at xs 1) = All-get_or Byte xs 1 0 (omega arith) a in
    let r : Byte (at xs 2) = All-get_or Byte xs 2 0 (omega arith) a in
    let m = number (drop 3 xs) (omega (arith, length-drop 3 xs)) (All-drop Byte 3 xs a) in (
      states.Leg record { payer = at xs 0; receiver = at xs 1; ledger = at xs 2; asset = m.0 },
      refl,
      (leg_holds xs m.0 (omega arith) (m.1 ∙ sym (take_rest xs 3)), (p, q, r, m.2)),
    )

-- a kind byte and what follows: a record, or none
data Seen (k : ℕ) (t : List ℕ) : Type 0 where
  gets : (r : Statement) (t' : List ℕ) → k ∷ t ≡ encode r ++ t' → Fits r → Seen k t
  fails : (x : Reason) → Unread k t x → Seen k t

from_body :
    (k n : ℕ) (t : List ℕ) → body_size k ≡ Some n → All Byte t
    → ((xs : List ℕ) → length xs ≡ n → All Byte xs → Body k xs) → Seen k t
from_body k n t e a f =
    ⊎_elim (λ lt. fails CutShort (short n e lt refl))
    (λ ge.
    let x = f (take n t) (length-take-le n t ge) (All-take Byte n t a) in
    let p : t ≡ body_of x.0 ++ drop n t = sym (take-append-drop n t) ∙ ap (λ y. y ++ drop n t) (sym x.2.0) in
    gets x.0 (drop n t) (λ i. sym x.1 i ∷ p i) x.2.1)
    (cases_lt (length t) n)

see : (k : ℕ) (t : List ℕ) → All Byte t → Seen k t
see k t a = go (eqb k 1) (eqb k 2) (eqb k 3) (eqb k 4) refl refl refl refl
  where
    go : (b c d e : Bool) → eqb k 1 ≡ b → eqb k 2 ≡ c → eqb k 3 ≡ d → eqb k 4 ≡ e → Seen k t
    go true c d e p q r s = subst (λ j. Seen j t) (sym (eqb-true k 1 p)) (from_body 1 4 t refl a heading_of)
    go false true d e p q r s = subst (λ j. Seen j t) (sym (eqb-true k 2 q)) (from_body 2 4 t refl a terms_of)
    go false false true e p q r s = subst (λ j. Seen j t) (sym (eqb-true k 3 r)) (from_body 3 6 t refl a holding_of)
    go false false false true p q r s = subst (λ j. Seen j t) (sym (eqb-true k 4 s)) (from_body 4 7 t refl a leg_of)
    go false false false false p q r s =
        let z : body_size k ≡ None =
        λ i. cond (p i) (Some 4) (cond (q i) (Some 4) (cond (r i) (Some 6) (cond (s i) (Some 7) None))) in
        fails UnknownKind (unknown z refl)

-- a way through the bytes, as far as it goes
abbrev Final : Said → List ℕ → Type 0
Final s t = ((c : Content) × (t ≡ []) × (whole s ≡ Some c)) ⊎ ((x : Reason) × Stuck s t x)

record Way (s : Said) (bytes : List ℕ) : Type 0 where
  records : List Statement
  rest : List ℕ
  encoded : bytes ≡ flat_map encode records ++ rest
  lawful : Lawful s records
  final : Final (after s records) rest

at_once : (s : Said) (bytes : List ℕ) → Final s bytes → Way s bytes
at_once s bytes f = record { records = []; rest = bytes; encoded = refl; lawful = tt; final = f }

at_end : (s : Said) (o : Option Content) → whole s ≡ o → Way s []
at_end s None e = at_once s [] (inr (Missing, ended refl e refl))
at_end s (Some c) e = at_once s [] (inl (c, refl, e))

one_more : (s : Said) (r : Statement) (t bytes : List ℕ) → bytes ≡ encode r ++ t → Fits r → fault_of s r ≡ None → Way (put s r) t → Way s bytes
one_more s r t bytes e f g w =
    record {
      records = r ∷ w.records;
      rest = w.rest;
      encoded = e ∙ ap (λ x. encode r ++ x) w.encoded ∙ sym (append_assoc (encode r) (flat_map encode w.records) w.rest);
      lawful = (f, g, w.lawful);
      final = w.final;
    }

onward :
    (s : Said) (k : ℕ) (t : List ℕ) → All Byte (k ∷ t)
    → ((s' : Said) (t' : List ℕ) → length t' ≤ length t → All Byte t' → Way s' t') → Seen k t → Way s (k ∷ t)
onward s k t a more (fails x u) = at_once s (k ∷ t) (inr (x, unread k t refl u))
onward s k t a more (gets r t' e f) = judged (fault_of s r) refl
  where
    judged : (o : Option Reason) → fault_of s r ≡ o → Way s (k ∷ t)
    judged (Some x) q = at_once s (k ∷ t) (inr (x, broken r t' e f q))
    judged None q =
        let l : length t' ≤ length t = omega (arith, ap length e, length-append (body_of r) t') in
        let b : All Byte (drop (length (encode r)) (encode r ++ t')) = All-drop Byte (length (encode r)) (encode r ++ t') (subst (All Byte) e a) in
        one_more s r t' (k ∷ t) e f q (more (put s r) t' l (subst (All Byte) (drop_at (encode r) t' _ refl) b))

way : (fuel : ℕ) (s : Said) (bytes : List ℕ) → length bytes ≤ fuel → All Byte bytes → Way s bytes
way zero s [] l a = at_end s (whole s) refl
way zero s (k ∷ t) l a = absurd (omega arith)
way (suc fuel) s [] l a = at_end s (whole s) refl
way (suc fuel) s (k ∷ t) l a = onward s k t a (λ s' t' m b. way fuel s' t' (omega arith) b) (see k t (All-tail Byte k t a))

answered : (bytes : List ℕ) → Sized bytes → Way start bytes → (a : Result Content Fault) × Answer bytes a
answered bytes z w = go w.final
  where
    go : Final (after start w.records) w.rest → (a : Result Content Fault) × Answer bytes a
    go (inl c) = (
      Ok c.0,
      record {
        records = w.records;
        sized = z;
        encoded = w.encoded ∙ ap (λ t. flat_map encode w.records ++ t) c.1 ∙ append-nil _;
        lawful = w.lawful;
        says = c.2;
      },
    )
    go (inr x) = (
      Err record { reason = x.0; place = length (flat_map encode w.records) },
      inr record {
        records = w.records;
        rest = w.rest;
        sized = z;
        encoded = w.encoded;
        lawful = w.lawful;
        place = refl;
        stuck = x.1;
      },
    )

pub some_answer : SomeAnswer
some_answer bytes a =
    let unsized : (Sized bytes → ⊥) → (x : Result Content Fault) × Answer bytes x =
    λ no_size. (Err record { reason = FileSize; place = 0 }, inl (no_size, refl)) in
    ⊎_elim (λ none. unsized (λ z. omega (arith, z.0)))
    (λ some.
    ⊎_elim (λ long. unsized (λ z. omega (arith, z.1)))
    (λ fit. answered bytes (some, fit) (way (length bytes) start bytes (omega arith) a)) (cases_lt max_file (length bytes)))
    (cases_lt (length bytes) 1)
