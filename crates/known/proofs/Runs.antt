-- The known runs compute to their ends.
use Rattle.std.proofs.Common.{◌≡◌, ℕ, ◌+◌, true, leb, List, [], ◌∷◌, refl}
use Rattle.filerules.specs.Said.{start}
use Rattle.known.proofs.Files.{said, lawful, two_records, two_means, ring_means, two_given, headed_given, cut_given, ring_given, star_given, star_refused, chain_refused}
use Rattle.known.specs.Results.{two, ring, undisturbed, disturbed, lock0, Holds, run, known, Known}
use Rattle.plan.proofs.Facts.{means_sound}
use Rattle.plan.specs.Meaning.{swap_in}
use Rattle.protocol.proofs.Attained.{fine, attained}
use Rattle.protocol.specs.Calls.{fresh}
use Rattle.protocol.specs.Courses.{Delivery, Example, Comes, prompt, slow, ends, tick_by, ticks_by, filings}
use Rattle.protocol.specs.Parties.{enter, open_legs, pass_key, refund_legs, shown, relay, opening, revealing, relaying, refunding, turn, turns}
use Rattle.protocol.specs.State.{Phase, Vacant, Held, Paid, Back, Open, Key, Refund, all_leaders, entering_stand, last_tick}
use Rattle.protocol.specs.Stocks.{refuses, entered}
use Rattle.protocol.specs.Tables.{put, count_below, each, lowest}
use Rattle.swap.specs.Below.{all_below, some_below}
use Rattle.protocol.specs.Verdicts.{first_failed, all_opened, pays, proper_locks, judged, deliver, handle}
use Rattle.records.specs.Records.{encode}
use Rattle.std.proofs.lemmas.List.Elements.{All-from_recursion}
use Rattle.std.specs.List.{flat_map, AllByRecursion as ByRecursion}
use Rattle.swap.specs.Swaps.{Swap, Sound}

-- all that a run computes with
computing : Unit {0}
unfolding ends enter tick_by ticks_by filings open_legs pass_key refund_legs shown relay opening revealing relaying refunding turn turns all_leaders entering_stand refuses entered put all_below some_below count_below each lowest first_failed all_opened pays proper_locks judged deliver handle
computing = tt

-- a run of a swap, of filings and ticks that it allows, comes out as told, one result after another
comes : (e : Example) → Sound e.swap → fine e.delivery e.swap e.filed (turns e.swap (fresh e.swap)) ≡ true
    → leb ((filings e.delivery e.swap e.filed (turns e.swap (fresh e.swap))).tick + e.ticks) (last_tick e.swap) ≡ true
    → ByRecursion (λ l. (ends e).verdict l.0 ≡ l.1) e.lines
    → ByRecursion (λ l. (((ends e).escrow l.0).phase ≡ l.1) × (((ends e).escrow l.0).changed ≡ l.2)) e.legs
    → Comes e
unfolding ends
comes e sound filed ticks lines legs = (
  attained e.delivery e.swap sound e.filed e.ticks filed ticks,
  All-from_recursion (λ l. (ends e).verdict l.0 ≡ l.1) e.lines lines,
  All-from_recursion (λ l. (((ends e).escrow l.0).phase ≡ l.1) × (((ends e).escrow l.0).changed ≡ l.2)) e.legs legs,
)

-- two parties, all conforming
abbrev swap_of_two : Swap
swap_of_two = swap_in (said two_records) 2

two_ok : Sound swap_of_two
two_ok = means_sound two swap_of_two two_means

abbrev two_run : Delivery → Swap → Example
two_run delivery = undisturbed delivery 5 ((0, Paid, 4) ∷ (1, Paid, 3) ∷ [])

two_prompt : Holds (run two (two_run prompt))
unfolding computing
two_prompt = (swap_of_two, two_means, comes (two_run prompt swap_of_two) two_ok refl refl tt ((refl, refl), ((refl, refl), tt)))

two_slow : Holds (run two (two_run slow))
unfolding computing
two_slow = (swap_of_two, two_means, comes (two_run slow swap_of_two) two_ok refl refl tt ((refl, refl), ((refl, refl), tt)))

-- the ring, with everybody conforming or nobody
abbrev swap_of_ring : ℕ → Swap
swap_of_ring outsiders = swap_in (said (ring outsiders)) 3

ring_ok : (outsiders : ℕ) → lawful start (ring outsiders) ≡ true → Sound (swap_of_ring outsiders)
ring_ok outsiders l = means_sound (flat_map encode (ring outsiders)) (swap_of_ring outsiders) (ring_means outsiders l)

ring_holds : (outsiders : ℕ) → lawful start (ring outsiders) ≡ true → (course : Swap → Example) → Comes (course (swap_of_ring outsiders))
    → Holds (run (flat_map encode (ring outsiders)) course)
ring_holds outsiders l course c = (swap_of_ring outsiders, ring_means outsiders l, c)

module _ (course : Swap → Example) where
  abbrev Conforming : Type 0
  Conforming = Holds (run (flat_map encode (ring 0)) course)

  abbrev Outside : Type 0
  Outside = Holds (run (flat_map encode (ring 7)) course)

abbrev ring_at_once : Swap → Example
ring_at_once = undisturbed prompt 28 ((0, Paid, 6) ∷ (1, Paid, 5) ∷ (2, Paid, 4) ∷ [])

ring_prompt : Conforming ring_at_once
unfolding computing
ring_prompt = ring_holds 0 refl ring_at_once (comes (ring_at_once (swap_of_ring 0)) (ring_ok 0 refl) refl refl tt
    ((refl, refl), ((refl, refl), ((refl, refl), tt))))

abbrev ring_in_time : Swap → Example
ring_in_time = undisturbed slow 28 ((0, Paid, 24) ∷ (1, Paid, 20) ∷ (2, Paid, 16) ∷ [])

ring_slow : Conforming ring_in_time
unfolding computing
ring_slow = ring_holds 0 refl ring_in_time (comes (ring_in_time (swap_of_ring 0)) (ring_ok 0 refl) refl refl tt
    ((refl, refl), ((refl, refl), ((refl, refl), tt))))

abbrev opens : Swap → Example
opens = disturbed ((11, 0, Open 0 5 lock0) ∷ (1, 1, Open 1 5 lock0) ∷ []) ((0, 0) ∷ (1, 19) ∷ []) ((0, Held, 12) ∷ (1, Vacant, 0) ∷ [])

open_limit : Outside opens
unfolding computing
open_limit = ring_holds 7 refl opens (comes (opens (swap_of_ring 7)) (ring_ok 7 refl) refl refl (refl, (refl, tt))
    ((refl, refl), ((refl, refl), tt)))

abbrev key_after : ℕ → List (ℕ × ℕ) → List (ℕ × Phase × ℕ) → Swap → Example
key_after ticks = disturbed ((0, 2, Open 2 5 lock0) ∷ (ticks, 0, Key 2 (0 ∷ [])) ∷ [])

abbrev early : Swap → Example
early = key_after 15 ((1, 0) ∷ []) ((2, Paid, 16) ∷ [])

key_in_time : Outside early
unfolding computing
key_in_time = ring_holds 7 refl early (comes (early (swap_of_ring 7)) (ring_ok 7 refl) refl refl (refl, tt) ((refl, refl), tt))

abbrev late : Swap → Example
late = key_after 16 ((1, 27) ∷ []) ((2, Held, 1) ∷ [])

key_late : Outside late
unfolding computing
key_late = ring_holds 7 refl late (comes (late (swap_of_ring 7)) (ring_ok 7 refl) refl refl (refl, tt) ((refl, refl), tt))

abbrev refunds : Swap → Example
refunds = disturbed ((0, 0, Open 0 5 lock0) ∷ (23, 0, Refund 0) ∷ (1, 0, Refund 0) ∷ []) ((1, 31) ∷ (2, 0) ∷ []) ((0, Back, 25) ∷ [])

refund_limit : Outside refunds
unfolding computing
refund_limit = ring_holds 7 refl refunds (comes (refunds (swap_of_ring 7)) (ring_ok 7 refl) refl refl (refl, (refl, tt)) ((refl, refl), tt))

pub all_known : Known
all_known = All-from_recursion Holds known (
  two_given,
  (
    headed_given,
    (
      cut_given,
      (
        ring_given,
        (
          star_given,
          (
            star_refused,
            (
              chain_refused,
              (two_prompt, (two_slow, (ring_prompt, (ring_slow, (open_limit, (key_in_time, (key_late, (refund_limit, tt)))))))),
            ),
          ),
        ),
      ),
    ),
  ),
)
