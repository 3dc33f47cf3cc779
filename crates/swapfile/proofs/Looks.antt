-- What stands at the front of some bytes, after records that said s: one thing only.
use Rattle.std.proofs.Common.{◌≡◌, ℕ, ◌+◌, ◌*◌, ◌<◌, Bool, true, false, cond, eqb, List, [], ◌∷◌, ◌++◌, length, Some, None, Option, sym, refl, ap, ◌∙◌, arith}
use Rattle.filerules.specs.Said.{Said, fault_of}
use Rattle.swapfile.proofs.Bytes.{number_of}
use Rattle.records.specs.Reading.{Unread, unknown, short}
use Rattle.records.specs.Records.{kind_of, body_of, encode, Fits}
use Rattle.records.specs.declared.record.Statement.{Statement}
use Rattle.records.specs.declared.record.Statement.TheVariants as states
use Rattle.std.proofs.lemmas.Option.{none-some}
use Rattle.swap.specs.declared.faults.Reason.{Reason}
use Rattle.swap.specs.declared.faults.Reason.TheVariants.{UnknownKind, CutShort, Missing}
use Rattle.swapfile.specs.Files.{Content, whole, Stuck, unread, broken, ended}

pub data Look : Type 0 where
  done : Content → Look
  stop : Reason → Look
  goes : Statement → List ℕ → Look

pub data Parse : Type 0 where
  fails : Reason → Parse
  gets : Statement → List ℕ → Parse

abbrev num : ℕ → ℕ → ℕ → ℕ → ℕ
num a b c d = a * 16777216 + b * 65536 + c * 256 + d

abbrev terms : List ℕ → Parse
terms [] = fails CutShort
terms (n ∷ []) = fails CutShort
terms (n ∷ (l ∷ [])) = fails CutShort
terms (n ∷ (l ∷ (o ∷ []))) = fails CutShort
terms (n ∷ (l ∷ (o ∷ (d ∷ t)))) =
    gets (states.Terms record { parties = n; leaders = record { bits = l }; outsiders = record { bits = o }; delta = d }) t

abbrev with_number : (ℕ → Statement) → List ℕ → Parse
with_number f [] = fails CutShort
with_number f (a ∷ []) = fails CutShort
with_number f (a ∷ (b ∷ [])) = fails CutShort
with_number f (a ∷ (b ∷ (c ∷ []))) = fails CutShort
with_number f (a ∷ (b ∷ (c ∷ (d ∷ t)))) = gets (f (num a b c d)) t

abbrev holding : List ℕ → Parse
holding [] = fails CutShort
holding (l ∷ []) = fails CutShort
holding (l ∷ (p ∷ t)) = with_number (λ n. states.Holding record { ledger = l; party = p; asset = n }) t

abbrev leg : List ℕ → Parse
leg [] = fails CutShort
leg (p ∷ []) = fails CutShort
leg (p ∷ (r ∷ [])) = fails CutShort
leg (p ∷ (r ∷ (l ∷ t))) = with_number (λ n. states.Leg record { payer = p; receiver = r; ledger = l; asset = n }) t

abbrev by_kind : Bool → Bool → Bool → Bool → List ℕ → Parse
by_kind true b c d t = with_number states.Heading t
by_kind false true c d t = terms t
by_kind false false true d t = holding t
by_kind false false false true t = leg t
by_kind false false false false t = fails UnknownKind

abbrev parse : ℕ → List ℕ → Parse
parse k t = by_kind (eqb k 1) (eqb k 2) (eqb k 3) (eqb k 4) t

parses : (r : Statement) (t : List ℕ) → Fits r → parse (kind_of r) (body_of r ++ t) ≡ gets r t
parses (states.Heading n) t f = ap (λ x. gets (states.Heading x) t) (number_of n f)
parses (states.Terms u) t f = refl
parses (states.Holding h) t f =
    ap (λ x. gets (states.Holding record { ledger = h.ledger; party = h.party; asset = x }) t) (number_of h.asset f.2)
parses (states.Leg l) t f =
    ap (λ x. gets (states.Leg record { payer = l.payer; receiver = l.receiver; ledger = l.ledger; asset = x }) t)
    (number_of l.asset f.3)

number_short : (f : ℕ → Statement) (t : List ℕ) → length t < 4 → with_number f t ≡ fails CutShort
number_short f [] h = refl
number_short f (a ∷ []) h = refl
number_short f (a ∷ (b ∷ [])) h = refl
number_short f (a ∷ (b ∷ (c ∷ []))) h = refl
number_short f (a ∷ (b ∷ (c ∷ (d ∷ t)))) h = absurd (omega arith)

terms_short : (t : List ℕ) → length t < 4 → terms t ≡ fails CutShort
terms_short [] h = refl
terms_short (a ∷ []) h = refl
terms_short (a ∷ (b ∷ [])) h = refl
terms_short (a ∷ (b ∷ (c ∷ []))) h = refl
terms_short (a ∷ (b ∷ (c ∷ (d ∷ t)))) h = absurd (omega arith)

holding_short : (t : List ℕ) → length t < 6 → holding t ≡ fails CutShort
holding_short [] h = refl
holding_short (a ∷ []) h = refl
holding_short (a ∷ (b ∷ t)) h =
    number_short (λ n. states.Holding record { ledger = a; party = b; asset = n }) t (omega arith)

leg_short : (t : List ℕ) → length t < 7 → leg t ≡ fails CutShort
leg_short [] h = refl
leg_short (a ∷ []) h = refl
leg_short (a ∷ (b ∷ [])) h = refl
leg_short (a ∷ (b ∷ (c ∷ t))) h =
    number_short (λ n. states.Leg record { payer = a; receiver = b; ledger = c; asset = n }) t (omega arith)

-- the length of a body by the same tests
abbrev size_by : Bool → Bool → Bool → Bool → Option ℕ
size_by a b c d = cond a (Some 4) (cond b (Some 4) (cond c (Some 6) (cond d (Some 7) None)))

cut : (a b c d : Bool) (t : List ℕ) (n : ℕ) → size_by a b c d ≡ Some n → length t < n → by_kind a b c d t ≡ fails CutShort
cut true b c d t n e h = let k : 4 ≡ n = cc in number_short states.Heading t (omega arith)
cut false true c d t n e h = let k : 4 ≡ n = cc in terms_short t (omega arith)
cut false false true d t n e h = let k : 6 ≡ n = cc in holding_short t (omega arith)
cut false false false true t n e h = let k : 7 ≡ n = cc in leg_short t (omega arith)
cut false false false false t n e h = absurd (none-some _ e)

foreign : (a b c d : Bool) (t : List ℕ) → size_by a b c d ≡ None → by_kind a b c d t ≡ fails UnknownKind
foreign true b c d t e = absurd (none-some _ (sym e))
foreign false true c d t e = absurd (none-some _ (sym e))
foreign false false true d t e = absurd (none-some _ (sym e))
foreign false false false true t e = absurd (none-some _ (sym e))
foreign false false false false t e = refl

unparsed : (k : ℕ) (t : List ℕ) (x : Reason) → Unread k t x → parse k t ≡ fails x
unparsed k t x (unknown e q) = foreign (eqb k 1) (eqb k 2) (eqb k 3) (eqb k 4) t e ∙ ap fails (sym q)
unparsed k t x (short n e h q) = cut (eqb k 1) (eqb k 2) (eqb k 3) (eqb k 4) t n e h ∙ ap fails (sym q)

-- the look
abbrev pub at_end : Option Content → Look
at_end None = stop Missing
at_end (Some c) = done c

abbrev judged : Statement → List ℕ → Option Reason → Look
judged r t None = goes r t
judged r t (Some x) = stop x

abbrev seen : Said → Parse → Look
seen s (fails x) = stop x
seen s (gets r t) = judged r t (fault_of s r)

abbrev pub look : Said → List ℕ → Look
look s [] = at_end (whole s)
look s (k ∷ t) = seen s (parse k t)

pub goes_on : (s : Said) (r : Statement) (t : List ℕ) → Fits r → fault_of s r ≡ None → look s (encode r ++ t) ≡ goes r t
goes_on s r t f e = ap (seen s) (parses r t f) ∙ ap (judged r t) e

pub stops_at : (s : Said) (bytes : List ℕ) (x : Reason) → Stuck s bytes x → look s bytes ≡ stop x
stops_at s bytes x (unread k t e u) = ap (look s) e ∙ ap (seen s) (unparsed k t x u)
stops_at s bytes x (broken r t e f b) = ap (look s) e ∙ ap (seen s) (parses r t f) ∙ ap (judged r t) b
stops_at s bytes x (ended e w q) = ap (look s) e ∙ ap at_end w ∙ ap stop (sym q)
