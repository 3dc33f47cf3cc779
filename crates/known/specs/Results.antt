-- Results that are known beforehand, worked out by hand: files, what each means, and how a swap runs.
use Rattle.std.specs.Prelude.{◌≡◌, ℕ, Bool, List, [], ◌∷◌, ◌++◌, take, Ok, Err, ◌==◌}
use Rattle.plan.specs.Meaning.{Means}
use Rattle.protocol.specs.Courses.{Delivery, prompt, slow, Example, Comes}
use Rattle.protocol.specs.State.{Phase, Vacant, Held, Paid, Back, Transaction, Open, Key, Refund}
use Rattle.records.specs.Records.{encode}
use Rattle.records.specs.declared.record.Statement.{Statement}
use Rattle.records.specs.declared.record.Statement.TheVariants as states
use Rattle.std.specs.List.{flat_map, All}
use Rattle.swap.specs.Faults.{number_of}
use Rattle.swap.specs.Swaps.{Swap}
use Rattle.swap.specs.Ticks.{last_tick}
use Rattle.swap.specs.declared.faults.Fault.{Fault}

-- A file is accepted, with its number, span and last tick, or refused with a number and a place.
pub data Outcome : Type 0 where
  accepted : ℕ → ℕ → ℕ → Outcome
  refused : ℕ → ℕ → Outcome

abbrev pub Gives : List ℕ → Outcome → Type 0
Gives bytes (accepted number span last) =
    (s : Swap) × Means bytes (Ok s) × (s.number ≡ number) × (s.span ≡ span) × (last_tick s ≡ last)
Gives bytes (refused number place) = (f : Fault) × Means bytes (Err f) × (number_of f.reason ≡ number) × (f.place ≡ place)

-- two parties: 5 coins against title 7
abbrev pub two : List ℕ
two =
    0x02 ∷ 0x02 ∷ 0x01 ∷ 0x00 ∷ 0x01 ∷
    0x03 ∷ 0x00 ∷ 0x00 ∷ 0x00 ∷ 0x00 ∷ 0x00 ∷ 0x05 ∷
    0x03 ∷ 0x04 ∷ 0x01 ∷ 0x00 ∷ 0x00 ∷ 0x00 ∷ 0x07 ∷
    0x04 ∷ 0x00 ∷ 0x01 ∷ 0x00 ∷ 0x00 ∷ 0x00 ∷ 0x00 ∷ 0x05 ∷
    0x04 ∷ 0x01 ∷ 0x00 ∷ 0x04 ∷ 0x00 ∷ 0x00 ∷ 0x00 ∷ 0x07 ∷ []

abbrev pub heading42 : List ℕ
heading42 = 0x01 ∷ 0x00 ∷ 0x00 ∷ 0x00 ∷ 0x2A ∷ []

-- records in short: every leg is of 5 coins on ledger 0
abbrev pub terms : ℕ → ℕ → ℕ → ℕ → Statement
terms parties leaders outsiders delta =
    states.Terms (record { parties = parties; leaders = record { bits = leaders }; outsiders = record { bits = outsiders }; delta = delta })

abbrev pub holds : ℕ → ℕ → Statement
holds party coins = states.Holding (record { ledger = 0; party = party; asset = coins })

abbrev pub pays : ℕ → ℕ → Statement
pays payer receiver = states.Leg (record { payer = payer; receiver = receiver; ledger = 0; asset = 5 })

-- 0 → 1 → 2 → 0, with these outsiders
abbrev pub ring : ℕ → List Statement
ring outsiders = terms 3 1 outsiders 4 ∷ holds 0 5 ∷ holds 1 5 ∷ holds 2 5 ∷ pays 0 1 ∷ pays 1 2 ∷ pays 2 0 ∷ []

-- legs both ways between 0 and each of 1, 2, 3
abbrev pub star : ℕ → List Statement
star leaders =
    terms 4 leaders 0 1 ∷ holds 0 15 ∷ holds 1 5 ∷ holds 2 5 ∷ holds 3 5
    ∷ pays 0 1 ∷ pays 1 0 ∷ pays 0 2 ∷ pays 2 0 ∷ pays 0 3 ∷ pays 3 0 ∷ []

-- 0 → 1 → 2 and no way back
abbrev pub chain : List Statement
chain = terms 3 1 0 1 ∷ holds 0 5 ∷ holds 1 5 ∷ pays 0 1 ∷ pays 1 2 ∷ []

-- How a swap is run, and how it ends. All parties conform:
abbrev pub undisturbed : Delivery → ℕ → List (ℕ × Phase × ℕ) → Swap → Example
undisturbed delivery ticks legs s = record { delivery = delivery; swap = s; filed = []; ticks = ticks; lines = []; legs = legs }

-- Outsiders file, each so many ticks after the one before; then one tick more, with prompt delivery.
abbrev pub disturbed : List (ℕ × ℕ × Transaction) → List (ℕ × ℕ) → List (ℕ × Phase × ℕ) → Swap → Example
disturbed filed lines legs s = record { delivery = prompt; swap = s; filed = filed; ticks = 1; lines = lines; legs = legs }

-- the lock of party 0
abbrev pub lock0 : ℕ → Bool
lock0 q = q == 0

-- What is known: what a file means, and how the swap that it means runs.
pub data Case : Type 0 where
  file : List ℕ → Outcome → Case
  run : List ℕ → (Swap → Example) → Case

abbrev pub Holds : Case → Type 0
Holds (file bytes outcome) = Gives bytes outcome
Holds (run bytes course) = (s : Swap) × Means bytes (Ok s) × Comes (course s)

abbrev pub known : List Case
known =
    file two (accepted 0 2 5)
    ∷ file (heading42 ++ two) (accepted 42 2 5)
    ∷ file (take 34 two) (refused 4 27)
    ∷ file (flat_map encode (ring 0)) (accepted 0 3 28)
    -- leader 0; leaders 1 and 2
    ∷ file (flat_map encode (star 1)) (accepted 0 3 7)
    ∷ file (flat_map encode (star 6)) (refused 12 0)
    ∷ file (flat_map encode chain) (refused 11 1)
    -- legs 0 and 1 are paid at 4 and 3, with either delivery
    ∷ run two (undisturbed prompt 5 ((0, Paid, 4) ∷ (1, Paid, 3) ∷ []))
    ∷ run two (undisturbed slow 5 ((0, Paid, 4) ∷ (1, Paid, 3) ∷ []))
    ∷ run (flat_map encode (ring 0)) (undisturbed prompt 28 ((0, Paid, 6) ∷ (1, Paid, 5) ∷ (2, Paid, 4) ∷ []))
    ∷ run (flat_map encode (ring 0)) (undisturbed slow 28 ((0, Paid, 24) ∷ (1, Paid, 20) ∷ (2, Paid, 16) ∷ []))
    -- all outsiders: an open works at 12 and gets 19 at 13
    ∷ run (flat_map encode (ring 7))
    (disturbed ((11, 0, Open 0 5 lock0) ∷ (1, 1, Open 1 5 lock0) ∷ []) ((0, 0) ∷ (1, 19) ∷ []) ((0, Held, 12) ∷ (1, Vacant, 0) ∷ []))
    -- on leg 2 the key of party 0 alone opens at 16 and gets 27 at 17
    ∷ run (flat_map encode (ring 7)) (disturbed ((0, 2, Open 2 5 lock0) ∷ (15, 0, Key 2 (0 ∷ [])) ∷ []) ((1, 0) ∷ []) ((2, Paid, 16) ∷ []))
    ∷ run (flat_map encode (ring 7)) (disturbed ((0, 2, Open 2 5 lock0) ∷ (16, 0, Key 2 (0 ∷ [])) ∷ []) ((1, 27) ∷ []) ((2, Held, 1) ∷ []))
    -- a refund of leg 0 gets 31 at 24 and works at 25
    ∷ run (flat_map encode (ring 7))
    (disturbed ((0, 0, Open 0 5 lock0) ∷ (23, 0, Refund 0) ∷ (1, 0, Refund 0) ∷ []) ((1, 31) ∷ (2, 0) ∷ []) ((0, Back, 25) ∷ []))
    ∷ []

-- every one of them comes out as told
abbrev pub Known : Type 0
Known = All Holds known
