-- No bytes have two answers.
use Rattle.std.proofs.Common.{◌≡◌, ℕ, List, [], ◌∷◌, ◌++◌, length, Ok, Err, Result, sym, refl, ap, ◌∙◌, subst, inl, inr, append_assoc}
use Rattle.filerules.specs.Said.{Said, start, put}
use Rattle.records.specs.Records.{encode}
use Rattle.records.specs.declared.record.Statement.{Statement}
use Rattle.std.proofs.lemmas.List.{append-nil}
use Rattle.std.specs.List.{flat_map}
use Rattle.swap.specs.declared.faults.Fault.{Fault}
use Rattle.swap.specs.declared.faults.Reason.TheVariants.{Missing}
use Rattle.swapfile.proofs.Looks.{Look, done, stop, goes, look, at_end, goes_on, stops_at}
use Rattle.swapfile.specs.Files.{Content, after, Lawful, Accepted, Refused}
use Rattle.swapfile.specs.Theorems.{OneAnswer, ReadsBack}

abbrev Halts : Look → Type 0
Halts (done c) = Unit {0}
Halts (stop x) = Unit {0}
Halts (goes r t) = ⊥

-- two ways through the same bytes, as far as they go, are one
module _ (t t' : List ℕ) (x x' : Look) (h : Halts x) (h' : Halts x') where
  same :
      (s : Said) (rs rs' : List Statement) → flat_map encode rs ++ t ≡ flat_map encode rs' ++ t' → Lawful s rs → Lawful s rs'
      → look (after s rs) t ≡ x → look (after s rs') t' ≡ x' → (rs ≡ rs') × (x ≡ x')
  same s [] [] e l l' p q = (refl, sym p ∙ ap (look s) e ∙ q)
  same s [] (r ∷ rs) e l l' p q =
      let g = goes_on s r (flat_map encode rs ++ t') l'.0 l'.1 in
      absurd (subst Halts (sym p ∙ ap (look s) (e ∙ append_assoc (encode r) (flat_map encode rs) t') ∙ g) h)
  same s (r ∷ rs) [] e l l' p q =
      let g = goes_on s r (flat_map encode rs ++ t) l.0 l.1 in
      absurd (subst Halts (sym q ∙ ap (look s) (sym e ∙ append_assoc (encode r) (flat_map encode rs) t) ∙ g) h')
  same s (r ∷ rs) (r' ∷ rs') e l l' p q =
      let a = append_assoc (encode r) (flat_map encode rs) t in
      let a' = append_assoc (encode r') (flat_map encode rs') t' in
      let g : goes r (flat_map encode rs ++ t) ≡ goes r' (flat_map encode rs' ++ t') =
      sym (goes_on s r _ l.0 l.1) ∙ ap (look s) (sym a ∙ e ∙ a') ∙ goes_on s r' _ l'.0 l'.1 in
      let er : r ≡ r' = cc in
      let et : flat_map encode rs ++ t ≡ flat_map encode rs' ++ t' = cc in
      let i =
      same (put s r) rs rs' et l.2 (subst (λ z. Lawful (put s z) rs') (sym er) l'.2) p
      (ap (λ z. look (after (put s z) rs') t') er ∙ q) in
      (λ j. er j ∷ i.0 j, i.1)

-- what is answered where a way ends
abbrev told : List Statement → Look → Result Content Fault
told rs (done c) = Ok c
told rs (stop x) = Err record { reason = x; place = length (flat_map encode rs) }
told rs (goes r t) = Err record { reason = Missing; place = 0 }

record Ends (bytes : List ℕ) (a : Result Content Fault) : Type 0 where
  records : List Statement
  rest : List ℕ
  look_is : Look
  halts : Halts look_is
  encoded : bytes ≡ flat_map encode records ++ rest
  lawful : Lawful start records
  looks : look (after start records) rest ≡ look_is
  tells : a ≡ told records look_is

accepted_ends : (bytes : List ℕ) (c : Content) → Accepted bytes c → Ends bytes (Ok c)
accepted_ends bytes c h =
    record {
      records = h.records;
      rest = [];
      look_is = done c;
      halts = tt;
      encoded = h.encoded ∙ sym (append-nil _);
      lawful = h.lawful;
      looks = ap at_end h.says;
      tells = refl;
    }

refused_ends : (bytes : List ℕ) (f : Fault) → Refused bytes f → Ends bytes (Err f)
refused_ends bytes f h =
    record {
      records = h.records;
      rest = h.rest;
      look_is = stop f.reason;
      halts = tt;
      encoded = h.encoded;
      lawful = h.lawful;
      looks = stops_at _ h.rest f.reason h.stuck;
      tells = λ i. Err record { reason = f.reason; place = h.place i };
    }

one_end : (bytes : List ℕ) (a b : Result Content Fault) → Ends bytes a → Ends bytes b → a ≡ b
one_end bytes a b h k =
    let s =
    same h.rest k.rest h.look_is k.look_is h.halts k.halts start h.records k.records
    (sym h.encoded ∙ k.encoded) h.lawful k.lawful h.looks k.looks in
    h.tells ∙ (λ i. told (s.0 i) (s.1 i)) ∙ sym k.tells

pub one_answer : OneAnswer
one_answer bytes (Ok c) (Ok d) h k = one_end bytes _ _ (accepted_ends bytes c h) (accepted_ends bytes d k)
one_answer bytes (Ok c) (Err g) h (inl u) = absurd (u.0 h.sized)
one_answer bytes (Ok c) (Err g) h (inr r) = one_end bytes _ _ (accepted_ends bytes c h) (refused_ends bytes g r)
one_answer bytes (Err f) (Ok d) (inl u) k = absurd (u.0 k.sized)
one_answer bytes (Err f) (Ok d) (inr r) k = one_end bytes _ _ (refused_ends bytes f r) (accepted_ends bytes d k)
one_answer bytes (Err f) (Err g) (inl u) (inl v) = ap Err (u.1 ∙ sym v.1)
one_answer bytes (Err f) (Err g) (inl u) (inr r) = absurd (u.0 r.sized)
one_answer bytes (Err f) (Err g) (inr r) (inl u) = absurd (u.0 r.sized)
one_answer bytes (Err f) (Err g) (inr r) (inr q) = one_end bytes _ _ (refused_ends bytes f r) (refused_ends bytes g q)

pub reads_back : ReadsBack
reads_back rs content sized lawful says =
    let a : Accepted (flat_map encode rs) content = record { records = rs; sized = sized; encoded = refl; lawful = lawful; says = says } in
    (a, λ b k. one_answer (flat_map encode rs) b (Ok content) k a)
