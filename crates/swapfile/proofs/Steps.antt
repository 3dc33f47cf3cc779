-- Reading record by record.
use Rattle.std.proofs.Common.{◌≡◌, ℕ, ◌≤◌, false, ◌||◌, eqb, ltb, List, [], ◌∷◌, ◌++◌, length, drop, Some, None, Ok, Err, Option, Result, sym, refl, ap, ◌∙◌, ◌-◌, ◌<◌, subst, inr, append_assoc, arith}
use Rattle.filerules.specs.Said.{Said, start, put, fault_of}
use Rattle.records.specs.Reading.{Next}
use Rattle.records.specs.Records.{encode, Fits, record_kind, record_body, States}
use Rattle.records.specs.declared.record.Record.{Record}
use Rattle.records.specs.declared.record.Statement.{Statement}
use Rattle.std.proofs.lemmas.List.{append-nil, flat_map_more, length-append, length-drop}
use Rattle.std.proofs.lemmas.Bool.{eqb-false, ltb-false, or_parts}
use Rattle.std.specs.List.{flat_map}
use Rattle.swap.specs.Limits.{max_file}
use Rattle.swap.specs.declared.faults.Fault.{Fault}
use Rattle.swapfile.specs.declared.file.SwapFile.{SwapFile}
use Rattle.swapfile.specs.declared.refusal.Refusal.{Refusal}
use Rattle.swapfile.specs.declared.refusal.Refusal.TheVariants as refusal
use Rattle.swapfile.specs.Reads.{Taken, Reading}
use Rattle.swapfile.specs.Files.{after, Lawful, Content, whole, Sized, Stuck, broken, Accepted, Refused}

-- what is known on the way: the bytes up to a place are those of lawful records, which say s
pub record SoFar (bytes source : List ℕ) (place : ℕ) (s : Said) : Type 0 where
  pub same : source ≡ bytes
  pub records : List Statement
  pub encoded : bytes ≡ flat_map encode records ++ drop place source
  pub lawful : Lawful start records
  pub says : after start records ≡ s

pub sized : (bytes : List ℕ) → false ≡ (eqb (length bytes) 0 || ltb max_file (length bytes)) → Sized bytes
sized bytes e =
    let p = or_parts (eqb (length bytes) 0) (ltb max_file (length bytes)) (sym e) in
    let ne = eqb-false (length bytes) 0 p.0 in
    (omega (arith, ne), ltb-false max_file (length bytes) p.1)

-- what `next` found
pub found_as :
    (source : List ℕ) (at at' : ℕ) (o o' : Option (ℕ × Record)) → o ≡ o' → Next source at at' (Ok o) → Next source at at' (Ok o')
found_as source at at' o o' e h = subst (λ x. Next source at at' (Ok x)) e h

-- a refusal passed on by `?`
pub passed :
    (bytes : List ℕ) (r : Result SwapFile Refusal) (y : Refusal) (f : Fault) → r ≡ Err y → y ≡ refusal.Fault f
    → Refused bytes f → Reading bytes r
passed bytes r y f e g h = subst (λ x. Reading bytes x) (sym (e ∙ ap Err g)) (inr h)

after_push : (s : Said) (rs : List Statement) (r : Statement) → after s (rs ++ r ∷ []) ≡ put (after s rs) r
after_push s [] r = refl
after_push s (q ∷ rs) r = after_push (put s q) rs r

lawful_push :
    (s : Said) (rs : List Statement) (r : Statement) → Lawful s rs → Fits r → fault_of (after s rs) r ≡ None
    → Lawful s (rs ++ r ∷ [])
lawful_push s [] r l f e = (f, e, tt)
lawful_push s (q ∷ rs) r l f e = (l.0, l.1, lawful_push (put s q) rs r l.2 f e)

module _ (bytes source : List ℕ) (at : ℕ) (s : Said) (h : SoFar bytes source at s) where
  -- a record that breaks no rule
  pub advance :
      (source' : List ℕ) (at' : ℕ) (s' : Said) (r : Record) (st : Statement) → source' ≡ source
      → record_kind r ∷ record_body r ++ drop at' source ≡ drop at source → States r st → fault_of s st ≡ None → s' ≡ put s st
      → SoFar bytes source' at' s'
  advance source' at' s' r st e found states good p =
      let js = flat_map encode h.records in
      let told : record_kind r ∷ record_body r ≡ encode st = λ i. sym states.0 i ∷ sym states.1.0 i in
      let more : js ++ encode st ≡ flat_map encode (h.records ++ st ∷ []) = flat_map_more encode [] h.records st in
      record {
        same = e ∙ h.same;
        records = h.records ++ st ∷ [];
        encoded =
            h.encoded
            ∙ ap (λ t. js ++ t) (sym found ∙ ap (λ t. t ++ drop at' source) told)
            ∙ sym (append_assoc js (encode st) (drop at' source))
            ∙ ap (λ t. t ++ drop at' source) more
            ∙ ap (λ x. flat_map encode (h.records ++ st ∷ []) ++ drop at' x) (sym e);
        lawful = lawful_push start h.records st h.lawful states.1.1 (ap (λ x. fault_of x st) h.says ∙ good);
        says = after_push start h.records st ∙ ap (λ x. put x st) h.says ∙ sym p;
      }

  -- behind a record less is left to read
  pub less :
      (source' : List ℕ) (at' : ℕ) (r : Record) → source' ≡ source → record_kind r ∷ record_body r ++ drop at' source ≡ drop at source
      → length source' - at' < length source - at
  less source' at' r e found =
      omega (
        arith,
        ap length e,
        ap length found,
        length-append (record_body r) (drop at' source),
        length-drop at' source,
        length-drop at source,
      )

  module _ (inside : at ≤ length source) (sized : Sized bytes) where
    ended_at : at ≡ length (flat_map encode h.records)
    ended_at =
        omega (
          arith,
          ap length h.same,
          ap length h.encoded,
          length-append (flat_map encode h.records) (drop at source),
          length-drop at source,
        )

    pub stops : (f : Fault) → f.place ≡ at → Stuck s (drop at source) f.reason → Refused bytes f
    stops f p st =
        record {
          records = h.records;
          rest = drop at source;
          sized = sized;
          encoded = h.encoded;
          lawful = h.lawful;
          place = p ∙ ended_at;
          stuck = subst (λ x. Stuck x (drop at source) f.reason) (sym h.says) st;
        }

    -- a record that breaks a rule, or for which memory runs out
    pub turned_down :
        (place at' : ℕ) (s' : Said) (r : Record) → place ≡ at → record_kind r ∷ record_body r ++ drop at' source ≡ drop at source
        → (x : Result SwapFile Refusal) (y z : Refusal) → x ≡ Err y → y ≡ z → Taken s place r s' (Err z) → Reading bytes x
    turned_down place at' s' r p found x y z e g t = subst (λ w. Reading bytes w) (sym (e ∙ ap Err g)) (go z t)
      where
        go : (w : Refusal) → Taken s place r s' (Err w) → Reading bytes (Err w)
        go (refusal.Fault f) k =
            let told : encode k.0 ≡ record_kind r ∷ record_body r = λ i. k.1.0 i ∷ k.1.1.0 i in
            inr (stops f (k.3 ∙ p) (broken k.0 (drop at' source) (sym found ∙ ap (λ t. t ++ drop at' source) (sym told)) k.1.1.1 k.2))
        go refusal.Memory k = tt

    pub accepts : (content : Content) → drop at source ≡ [] → whole s ≡ Some content → Accepted bytes content
    accepts content e w =
        record {
          records = h.records;
          sized = sized;
          encoded = h.encoded ∙ ap (λ t. flat_map encode h.records ++ t) e ∙ append-nil _;
          lawful = h.lawful;
          says = ap whole h.says ∙ w;
        }
