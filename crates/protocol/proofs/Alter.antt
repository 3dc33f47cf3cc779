-- What a delivery does to one escrow.
use Rattle.std.proofs.Common.{◌≡◌, ℕ, ◌<◌, ◌≤◌, Bool, true, false, cond, not, ◌||◌, ◌⊎◌, List, length, Some, None, sym, refl, ◌∙◌, subst, inl, inr, ⊎_elim, arith}
use Rattle.protocol.proofs.Basics.{put_case, Fails, Numbered}
use Rattle.swap.proofs.Below.{some_in, all_in}
use Rattle.protocol.proofs.Invariants.{Signed, Way}
use Rattle.protocol.proofs.Standing.{clash, vacant, held, standing, stand, leaders_self, opened_in}
use Rattle.protocol.proofs.Ways.{judged_way, way_party, none_of, some_none}
use Rattle.protocol.specs.State.{Phase, Vacant, Held, Paid, Back, is_vacant, is_held, Escrow, Transaction, Open, Key, Refund, Run, conforming, stands, all_leaders, open_end, key_end, refund_tick}
use Rattle.protocol.specs.Stocks.{Stock}
use Rattle.protocol.specs.Tables.{put}
use Rattle.swap.specs.Below.{some_below, all_below}
use Rattle.protocol.specs.Verdicts.{ends, tests, altered, all_opened, proper_locks}
use Rattle.std.proofs.lemmas.Bool.{eqb-true, and_parts, or_cases, not-true, not-false, cases_Bool, ltb-false, leb-false}
use Rattle.swap.specs.Assets.{asset_on}
use Rattle.swap.specs.Swaps.{Swap, Sound}
use Rattle.swap.specs.Limits.{set_bits}

-- the escrow of leg i at tick t
pub record Shape (p : Swap) (t i : ℕ) (e : Escrow) : Type 0 where
  pub proper : (lock : ℕ) → is_vacant e.phase ≡ false → lock < set_bits → e.locks lock ≡ true → p.leader lock ≡ true
  pub ranged : is_vacant e.phase ≡ false → asset_on (p.ledger i) e.asset ≡ true
  pub shut : (lock : ℕ) → e.phase ≡ Vacant → e.opened lock ≡ None
  pub held : e.phase ≡ Held → all_opened e.locks e.opened ≡ false
  pub paid : e.phase ≡ Paid → all_opened e.locks e.opened ≡ true
  pub returned : e.phase ≡ Back → all_opened e.locks e.opened ≡ false
  pub late : e.phase ≡ Back → refund_tick p < t

-- the escrow of leg i before and after line n is delivered
pub record Alter (p : Swap) (r : Run) (n i : ℕ) (e e' : Escrow) : Type 0 where
  pub stood : stands p i e ≡ true → stands p i e' ≡ true
  pub kept : (lock : ℕ) (q : List ℕ) → e.opened lock ≡ Some q → e'.opened lock ≡ Some q
  pub filled : is_vacant e.phase ≡ false → is_vacant e'.phase ≡ false
  pub ended : is_vacant e.phase ≡ false → is_held e.phase ≡ false → is_held e'.phase ≡ false
  -- whatever is new was in time
  pub since : e'.phase ≡ Held → (e.phase ≡ Held) ⊎ (r.tick ≤ open_end p)
  pub rises : stands p i e ≡ false → stands p i e' ≡ true → r.tick ≤ open_end p
  pub opens : (lock : ℕ) (q : List ℕ) → e'.opened lock ≡ Some q
      → (e.opened lock ≡ Some q) ⊎ (Way p r.signed (p.receiver i) lock q × (p.leader lock ≡ true) × (r.tick ≤ key_end p (length q)))
  -- a conforming party's leg is opened by the line of its own that is delivered
  pub fills : is_vacant e'.phase ≡ false → (is_vacant e.phase ≡ false) ⊎ (conforming p (p.payer i) ≡ true
      → (stands p i e' ≡ true) × (r.begun (p.payer i) ≡ true) × ((r.line n).filer ≡ p.payer i)
      × ((r.line n).transaction ≡ Open i (p.asset i) p.leader))
  pub shape : Shape p r.tick i e → Shape p r.tick i e'

pub unaltered : (p : Swap) (r : Run) (n i : ℕ) (e : Escrow) → Alter p r n i e e
unaltered p r n i e = record {
  stood = λ h. h;
  kept = λ _ _ h. h;
  filled = λ h. h;
  ended = λ _ h. h;
  since = λ h. inl h;
  rises = λ f t. absurd (clash _ t f);
  opens = λ _ _ h. inl h;
  fills = λ h. inl h;
  shape = λ h. h;
}

pub no_phase : {A : Type 0} → (f : Phase) → f ≡ Vacant → is_vacant f ≡ false → A
no_phase f e h = grind arith

pub numbered : (p : Swap) (t : ℕ) (σ : Signed) (stock : Stock) (v : ℕ) (x : Transaction) (e : Escrow) → Numbered (tests p t σ stock v x e)
numbered p t σ stock v (Open i asset locks) e = omega arith
numbered p t σ stock v (Key i q) e = omega arith
numbered p t σ stock v (Refund i) e = omega arith

module _ (p : Swap) (s : Sound p) (r : Run) (n i : ℕ) (b : i < p.legs) (e : Escrow) where
  pub alter_open : (asset : ℕ) (locks : ℕ → Bool) → (r.line n).transaction ≡ Open i asset locks
      → (conforming p (r.line n).filer ≡ true → (r.begun (r.line n).filer ≡ true) × (asset ≡ p.asset i) × (locks ≡ p.leader))
      → asset_on (p.ledger i) asset ≡ true → Shape p r.tick i e
      → Fails (tests p r.tick r.signed r.stock (r.line n).filer (Open i asset locks) e)
      → Alter p r n i e (altered p r.tick (Open i asset locks) e)
  unfolding proper_locks all_opened
  alter_open asset locks line fact range shape f =
      let filer : (r.line n).filer ≡ p.payer i = eqb-true _ _ (not-false _ f.0) in
      let empty : e.phase ≡ Vacant = vacant _ (not-false _ f.1.0) in
      let time : r.tick ≤ open_end p = ltb-false _ _ f.1.1.0 in
      let locked : (some_below set_bits locks ≡ true) × (all_below set_bits (λ q. not (locks q) || p.leader q) ≡ true) =
      and_parts _ _ (not-false _ f.1.1.1.0) in
      record {
        stood = λ h. no_phase _ empty (standing p i e h).0;
        kept = λ lock q h. let z = shape.shut lock empty in grind arith;
        filled = λ h. refl;
        ended = λ h. no_phase _ empty h;
        since = λ _. inr time;
        rises = λ _ _. time;
        opens = λ lock q h. grind arith;
        fills = λ _. inr (λ c.
            let g = fact (subst (λ w. conforming p w ≡ true) (sym filer) c) in (
              stand p i (altered p r.tick (Open i asset locks) e) refl g.1 (subst (λ l. all_leaders p l ≡ true) (sym g.2) (leaders_self p)),
              subst (λ w. r.begun w ≡ true) filer g.0,
              filer,
              line ∙ (λ j. Open i (g.1 j) (g.2 j)),
            ));
        shape = λ _. record {
          proper = λ lock _ h l. ⊎_elim (λ m. absurd (clash (locks lock) l (not-true _ m))) (λ m. m)
              (or_cases _ _ (all_in set_bits _ locked.1 lock h));
          ranged = λ _. range;
          shut = λ lock h. refl;
          held = λ _. let t = some_in set_bits locks locked.0 in
              ⊎_elim (λ a. absurd (some_none None refl (opened_in locks (λ _. None) a t.0 t.1 t.2))) (λ a. a)
              (cases_Bool (all_opened locks (λ _. None)));
          paid = λ h. grind arith;
          returned = λ h. grind arith;
          late = λ h. grind arith;
        };
      }

  in_set : {x : ℕ} → x < p.parties → x < set_bits
  in_set h = let most = s.most in omega arith

  pub alter_key : (q : List ℕ) → Shape p r.tick i e → Fails (tests p r.tick r.signed r.stock (r.line n).filer (Key i q) e)
      → Alter p r n i e (altered p r.tick (Key i q) e)
  alter_key q shape f =
      let open' : e.phase ≡ Held = held _ (not-false _ f.1.0) in
      let full : is_vacant e.phase ≡ false = rw open' refl in
      let locked : e.locks (ends q) ≡ true = not-false _ f.1.1.0 in
      let new' : e.opened (ends q) ≡ None = none_of _ f.1.1.1.0 in
      let way : Way p r.signed (p.receiver i) (ends q) q =
      judged_way p r.signed (p.receiver i) q (and_parts _ _ (not-false _ f.0)).1 (not-false _ f.1.1.1.1.0) (not-false _ f.1.1.1.1.1.1.0) in
      let time : r.tick ≤ key_end p (length q) = ltb-false _ _ f.1.1.1.1.1.0 in
      let leads : p.leader (ends q) ≡ true = shape.proper (ends q) full (in_set (way_party p s way (s.exist i b).1)) locked in
      go (all_opened e.locks (put e.opened (ends q) (Some q))) refl open' full new' way time leads
    where
      after : Bool → Escrow
      after l = record {
        phase = cond l Paid e.phase;
        asset = e.asset;
        locks = e.locks;
        opened = put e.opened (ends q) (Some q);
        changed =
            cond l r.tick e.changed;
      }

      go : (l : Bool) → all_opened e.locks (put e.opened (ends q) (Some q)) ≡ l → e.phase ≡ Held → is_vacant e.phase ≡ false
          → e.opened (ends q) ≡ None
          → Way p r.signed (p.receiver i) (ends q) q → r.tick ≤ key_end p (length q) → p.leader (ends q) ≡ true → Alter p r n i e (after l)
      go l d open' full new' way time leads = record {
        stood = λ h. let g = standing p i e h in stand p i (after l) (not_vacant l) g.1 g.2;
        kept = λ lock o h. put_case (λ x. x ≡ Some o) e.opened (ends q) (Some q) lock
            (λ z. grind arith) (λ _. h);
        filled = λ _. not_vacant l;
        ended = λ _ h. grind arith;
        since = λ _. inl open';
        rises = λ g h. let a = standing p i (after l) h in absurd (clash _ (stand p i e full a.1 a.2) g);
        opens = λ lock o. put_case (λ x. x ≡ Some o → (e.opened lock ≡ Some o)
            ⊎ (Way p r.signed (p.receiver i) lock o × (p.leader lock ≡ true) × (r.tick ≤ key_end p (length o))))
            e.opened (ends q) (Some q) lock
            (λ z h. let y : q ≡ o = cc in inr (subst
            (λ w. Way p r.signed (p.receiver i) lock w × (p.leader lock ≡ true) × (r.tick ≤ key_end p (length w))) y
            (subst (λ w. Way p r.signed (p.receiver i) w q) (sym z) way, subst (λ w. p.leader w ≡ true) (sym z) leads, time)))
            (λ _ h. inl h);
        fills = λ _. inl full;
        shape = λ g. record {
          proper = λ lock _ h m. g.proper lock full h m;
          ranged = λ _. g.ranged full;
          shut = λ lock h. no_phase _ h (not_vacant l);
          held = λ h. go_held l d h;
          paid = λ h. go_paid l d h;
          returned = λ h. absurd (go_late l h);
          late = λ h. absurd (go_late l h);
        };
      }
        where
          not_vacant : (l : Bool) → is_vacant (cond l Paid e.phase) ≡ false
          not_vacant true = refl
          not_vacant false = full

          go_held : (l : Bool) → all_opened e.locks (put e.opened (ends q) (Some q)) ≡ l → cond l Paid e.phase ≡ Held
              → all_opened e.locks (put e.opened (ends q) (Some q)) ≡ false
          go_held true d h = grind arith
          go_held false d h = d

          go_paid : (l : Bool) → all_opened e.locks (put e.opened (ends q) (Some q)) ≡ l → cond l Paid e.phase ≡ Paid
              → all_opened e.locks (put e.opened (ends q) (Some q)) ≡ true
          go_paid true d h = d
          go_paid false d h = grind arith

          go_late : (l : Bool) → cond l Paid e.phase ≡ Back → ⊥
          go_late true h = grind arith
          go_late false h = grind arith

  pub alter_refund : Shape p r.tick i e → Fails (tests p r.tick r.signed r.stock (r.line n).filer (Refund i) e)
      → Alter p r n i e (altered p r.tick (Refund i) e)
  alter_refund shape f =
      let open' : e.phase ≡ Held = held _ (not-false _ f.1.0) in
      let full : is_vacant e.phase ≡ false = rw open' refl in
      let time : refund_tick p < r.tick = leb-false _ _ f.1.1.0 in
      record {
        stood = λ h. let g = standing p i e h in stand p i (altered p r.tick (Refund i) e) refl g.1 g.2;
        kept = λ _ _ h. h;
        filled = λ _. refl;
        ended = λ _ _. refl;
        since = λ _. inl open';
        rises = λ g h. let a = standing p i (altered p r.tick (Refund i) e) h in absurd (clash _ (stand p i e full a.1 a.2) g);
        opens = λ _ _ h. inl h;
        fills = λ _. inl full;
        shape = λ g. record {
          proper = λ lock _ h m. g.proper lock full h m;
          ranged = λ _. g.ranged full;
          shut = λ lock h. grind arith;
          held = λ h. grind arith;
          paid = λ h. grind arith;
          returned = λ _. g.held open';
          late = λ _. time;
        };
      }
