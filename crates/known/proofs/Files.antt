-- The known files.
use Rattle.std.proofs.Common.{◌≡◌, ℕ, ◌+◌, ◌*◌, ◌^◌, Bool, true, false, not, ◌&&◌, eqb, ltb, leb, List, [], ◌∷◌, ◌++◌, length, take, Some, None, Ok, Option, refl, subst, inl, inr, arith}
use Rattle.filerules.specs.Said.{Said, start, put, fault_of}
use Rattle.graph.specs.Graphs.{Pays}
use Rattle.known.proofs.Decide.{accepts, accepted, covered_by, connects, of_all, joins}
use Rattle.known.specs.Results.{Gives, two, heading42, ring, star, chain}
use Rattle.known.specs.Results as results
use Rattle.plan.specs.Check.{fault, unled, cut_off}
use Rattle.plan.specs.Meaning.{Means, swap_in}
use Rattle.swap.specs.Below.{all_below, some_below}
use Rattle.records.specs.Reading.{short}
use Rattle.records.specs.Records.{encode, Fits}
use Rattle.records.specs.declared.record.Statement.{Statement}
use Rattle.records.specs.declared.record.Statement.TheVariants as states
use Rattle.std.proofs.lemmas.Bool.{and_parts, leb-true, ltb-true, both_ways, eq-eqb, not-true}
use Rattle.std.proofs.lemmas.List.Elements.{All-from_recursion}
use Rattle.std.specs.List.{flat_map}
use Rattle.swap.specs.Sets.{member}
use Rattle.swap.specs.Limits.{max_file}
use Rattle.swap.specs.Routes.{last, Reaches}
use Rattle.swap.specs.declared.faults.Reason.TheVariants.{CutShort, NoLeader, NotConnected}
use Rattle.swapfile.specs.Files.{Content, whole, after, Lawful, Answer, unread}

-- each field fits its bytes, as a test
abbrev pub fits : Statement → Bool
fits (states.Heading n) = ltb n (2 ^ 32)
fits (states.Terms t) = ltb t.parties 256 && (ltb t.leaders.bits 256 && (ltb t.outsiders.bits 256 && ltb t.delta 256))
fits (states.Holding h) = ltb h.ledger 256 && (ltb h.party 256 && ltb h.asset (2 ^ 32))
fits (states.Leg l) = ltb l.payer 256 && (ltb l.receiver 256 && (ltb l.ledger 256 && ltb l.asset (2 ^ 32)))

fits_sound : (r : Statement) → fits r ≡ true → Fits r
fits_sound (states.Heading n) e = ltb-true n (2 ^ 32) e
fits_sound (states.Terms t) e =
    let a = and_parts (ltb t.parties 256) _ e in
    let b = and_parts (ltb t.leaders.bits 256) _ a.1 in
    let c = and_parts (ltb t.outsiders.bits 256) _ b.1 in
    (ltb-true t.parties 256 a.0, ltb-true t.leaders.bits 256 b.0, ltb-true t.outsiders.bits 256 c.0, ltb-true t.delta 256 c.1)
fits_sound (states.Holding h) e =
    let a = and_parts (ltb h.ledger 256) _ e in
    let b = and_parts (ltb h.party 256) _ a.1 in
    (ltb-true h.ledger 256 a.0, ltb-true h.party 256 b.0, ltb-true h.asset (2 ^ 32) b.1)
fits_sound (states.Leg l) e =
    let a = and_parts (ltb l.payer 256) _ e in
    let b = and_parts (ltb l.receiver 256) _ a.1 in
    let c = and_parts (ltb l.ledger 256) _ b.1 in
    (ltb-true l.payer 256 a.0, ltb-true l.receiver 256 b.0, ltb-true l.ledger 256 c.0, ltb-true l.asset (2 ^ 32) c.1)

abbrev pub is_none : {X : Type 0} → Option X → Bool
is_none None = true
is_none (Some x) = false

none_sound : {X : Type 0} (o : Option X) → is_none o ≡ true → o ≡ None
none_sound None e = refl
none_sound (Some x) e = absurd (both_ways false refl e)

-- the records obey the rules, as a test
abbrev pub lawful : Said → List Statement → Bool
lawful s [] = true
lawful s (r ∷ rs) = fits r && (is_none (fault_of s r) && lawful (put s r) rs)

lawful_sound : (s : Said) (rs : List Statement) → lawful s rs ≡ true → Lawful s rs
lawful_sound s [] e = tt
lawful_sound s (r ∷ rs) e =
    let a = and_parts (fits r) _ e in
    let b = and_parts (is_none (fault_of s r)) _ a.1 in
    (fits_sound r a.0, none_sound (fault_of s r) b.0, lawful_sound (put s r) rs b.1)

-- what lawful records with terms and legs say is the file's answer
answered : (rs : List Statement) (bytes : List ℕ) (c : Content) → bytes ≡ flat_map encode rs
    → (leb 1 (length bytes) && leb (length bytes) max_file) ≡ true →
    lawful start rs ≡ true → whole (after start rs) ≡ Some c → Answer bytes (Ok c)
answered rs bytes c e z l w =
    let a = and_parts (leb 1 (length bytes)) (leb (length bytes) max_file) z in
    record {
      records = rs;
      sized = (leb-true 1 (length bytes) a.0, leb-true (length bytes) max_file a.1);
      encoded = e;
      lawful = lawful_sound start rs l;
      says = w;
    }

-- and if its plan passes the test, the file means its swap
means : (bytes : List ℕ) (c : Content) (k w : ℕ) → Answer bytes (Ok c) → accepts c.terms c.holdings c.legs k w ≡ true
    → Means bytes (Ok (swap_in c w))
means bytes c k w a t = (c, w, a, accepted c.terms c.holdings c.legs k w t, refl)

gives : (bytes : List ℕ) (c : Content) (w : ℕ) → Means bytes (Ok (swap_in c w))
    → Gives bytes (results.accepted c.number w ((2 * w + 1) * c.terms.delta))
gives bytes c w m = (swap_in c w, m, refl, refl, refl)

-- what the records say, where they say it
abbrev pub content : Option Content → Content
content None = record {
  number = 0;
  terms = record {
    parties = 0;
    leaders = record { bits = 0 };
    outsiders = record { bits = 0 };
    delta =
        0;
  };
  holdings = [];
  legs = [];
}
content (Some c) = c

abbrev pub said : List Statement → Content
said rs = content (whole (after start rs))

abbrev pub two_records : List Statement
two_records =
    results.terms 2 1 0 1
    ∷ states.Holding (record { ledger = 0; party = 0; asset = 5 })
    ∷ states.Holding (record { ledger = 4; party = 1; asset = 7 })
    ∷ states.Leg (record { payer = 0; receiver = 1; ledger = 0; asset = 5 })
    ∷ states.Leg (record { payer = 1; receiver = 0; ledger = 4; asset = 7 })
    ∷ []

pub two_means : Means two (Ok (swap_in (said two_records) 2))
unfolding all_below some_below
two_means = means two (said two_records) 2 2 (answered two_records two (said two_records) refl refl refl refl) refl

pub two_given : Gives two (results.accepted 0 2 5)
two_given = gives two (said two_records) 2 two_means

pub headed_given : Gives (heading42 ++ two) (results.accepted 42 2 5)
unfolding all_below some_below
headed_given =
    let rs = states.Heading 42 ∷ two_records in
    gives (heading42 ++ two) (said rs) 2 (means (heading42 ++ two) (said rs) 2 2
    (answered rs (heading42 ++ two) (said rs) refl refl refl refl) refl)

pub cut_given : Gives (take 34 two) (results.refused 4 27)
cut_given =
    let rs : List Statement = take 4 two_records in
    let rest : List ℕ = 0x04 ∷ 0x01 ∷ 0x00 ∷ 0x04 ∷ 0x00 ∷ 0x00 ∷ 0x00 ∷ [] in (
      fault CutShort 27,
      inl (inr (record {
        records = rs;
        rest = rest;
        sized = (leb-true 1 34 refl, leb-true 34 max_file refl);
        encoded = refl;
        lawful = lawful_sound start rs refl;
        place = refl;
        stuck = unread 4 (0x01 ∷ 0x00 ∷ 0x04 ∷ 0x00 ∷ 0x00 ∷ 0x00 ∷ []) refl (short 7 refl (ltb-true 6 7 refl) refl);
      })),
      refl,
      refl,
    )

given : (rs : List Statement) → (leb 1 (length (flat_map encode rs)) && leb (length (flat_map encode rs)) max_file) ≡ true
    → lawful start rs ≡ true →
    whole (after start rs) ≡ Some (said rs) → Answer (flat_map encode rs) (Ok (said rs))
given rs z l w = answered rs (flat_map encode rs) (said rs) refl z l w

pub ring_means : (outsiders : ℕ) → lawful start (ring outsiders) ≡ true
    → Means (flat_map encode (ring outsiders)) (Ok (swap_in (said (ring outsiders)) 3))
unfolding all_below some_below
ring_means outsiders l = means (flat_map encode (ring outsiders)) (said (ring outsiders)) 3 3 (given (ring outsiders) refl l refl) refl

pub ring_given : Gives (flat_map encode (ring 0)) (results.accepted 0 3 28)
ring_given = gives (flat_map encode (ring 0)) (said (ring 0)) 3 (ring_means 0 refl)

pub star_given : Gives (flat_map encode (star 1)) (results.accepted 0 3 7)
unfolding all_below some_below
star_given = gives (flat_map encode (star 1)) (said (star 1)) 3
    (means (flat_map encode (star 1)) (said (star 1)) 3 3 (given (star 1) refl refl refl) refl)

-- the route 0, 3 is a cycle without leader 1 or 2
pub star_refused : Gives (flat_map encode (star 6)) (results.refused 12 0)
unfolding all_below some_below
star_refused =
    let c = said (star 6) in (
      fault NoLeader 0,
      inr (
        c,
        given (star 6) refl refl refl,
        unled 0
            (covered_by c.holdings c.legs refl)
            (connects c.legs 4 refl 3 refl refl)
            (record {
              exists = ltb-true 0 4 refl;
              cycle = record {
                from = 0;
                by = 3 ∷ [];
                cycle = (((4, ltb-true 4 6 refl, refl, refl), refl, tt), (5, ltb-true 5 6 refl, refl, refl));
                on = refl;
                none = All-from_recursion (λ q. member 6 q ≡ false) (0 ∷ 3 ∷ []) (refl, (refl, tt));
              };
              lowest = λ q h. absurd (omega arith);
            }),
      ),
      refl,
      refl,
    )

-- no joined route begins with 1 and ends with 0
pub chain_refused : Gives (flat_map encode chain) (results.refused 11 1)
unfolding all_below some_below
chain_refused =
    let c = said chain in (
      fault NotConnected 1,
      inr (
        c,
        given chain refl refl refl,
        cut_off 1
            (covered_by c.holdings c.legs refl)
            (record {
              exists = ltb-true 1 3 refl;
              apart = inr apart;
              lowest = λ q h.
                  let e : 0 ≡ q = omega arith in
                  subst (λ q. Reaches (Pays c.legs) 0 q × Reaches (Pays c.legs) q 0) e
                  (record { by = []; route = tt; ends = refl }, record { by = []; route = tt; ends = refl });
            }),
      ),
      refl,
      refl,
    )
  where
    apart : Reaches (Pays (said chain).legs) 1 0 → ⊥
    apart r =
        both_ways (eqb (last 1 r.by) 0)
        (not-true (eqb (last 1 r.by) 0)
        (of_all (said chain).legs 3 refl 3 refl (λ r. not (joins 1 0 r)) refl 1 r.by (ltb-true 1 3 refl) r.route))
        (eq-eqb (last 1 r.by) 0 r.ends)
