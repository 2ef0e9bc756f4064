-- A piece that goes out, front by front.
use Rattle.std.proofs.Common.{◌≡◌, ◌<◌, length, length-append, arith, ℕ, List, [], ◌++◌, take, drop, Option, refl, sym, ap}
use Rattle.std.proofs.Common.{◌∙◌, append_assoc, append-nil, subst}
use Rattle.std.proofs.lemmas.List.{take-append-drop}
use Rattle.tl_base.specs.Outside.{with_back, IsRisen}
use Rattle.rv_machine.proofs.Taken.{with_back-none, with_back-both}
use Rattle.terrac_call.specs.Delivery.{StopsShort}

-- a piece went out up to the rest
pub record Sent (piece rest : List ℕ) (old new : Option (List ℕ)) (faults_old faults_new : ℕ) : Type 0 where
  pub front : List ℕ
  pub parts : piece ≡ front ++ rest
  pub took : new ≡ with_back old front
  pub same : faults_new ≡ faults_old

pub sent_nothing : (piece : List ℕ) (old : Option (List ℕ)) (faults : ℕ) → Sent piece piece old old faults faults
sent_nothing piece old faults = record { front = []; parts = refl; took = with_back-none old; same = refl }

pub sent_more : (piece rest : List ℕ) (old mid new : Option (List ℕ)) (f0 f1 f2 n : ℕ) →
    Sent piece rest old mid f0 f1 → new ≡ with_back mid (take n rest) → f2 ≡ f1 → Sent piece (drop n rest) old new f0 f2
sent_more piece rest old mid new f0 f1 f2 n sent took same = record {
  front = sent.front ++ take n rest;
  parts = sent.parts ∙ ap (λ back. sent.front ++ back) (sym (take-append-drop n rest))
      ∙ sym (append_assoc sent.front (take n rest) (drop n rest));
  took = took ∙ ap (λ before. with_back before (take n rest)) sent.took ∙ with_back-both old sent.front (take n rest);
  same = same ∙ sent.same;
}

pub sent_all : (piece : List ℕ) (old new : Option (List ℕ)) (f0 f1 : ℕ) → Sent piece [] old new f0 f1 → new ≡ with_back old piece
sent_all piece old new f0 f1 sent = sent.took ∙ ap (with_back old) (sym (sent.parts ∙ append-nil sent.front))

pub sent_short : (piece rest : List ℕ) (old mid new : Option (List ℕ)) (f0 f1 f2 : ℕ) →
    Sent piece rest old mid f0 f1 → new ≡ mid → IsRisen f1 f2 → StopsShort piece old new f0 f2
sent_short piece rest old mid new f0 f1 f2 sent kept rose = record {
  front = sent.front;
  is_front = (rest, sent.parts);
  took = kept ∙ sent.took;
  rose = subst (λ (f : ℕ). IsRisen f f2) sent.same rose;
}

-- a piece of which something is left is not empty
pub sent_some : (piece rest : List ℕ) (old new : Option (List ℕ)) (f0 f1 : ℕ) → Sent piece rest old new f0 f1 → 0 < length rest
    → piece ≡ [] → ⊥
sent_some piece rest old new f0 f1 sent some none =
    let long : length piece ≡ 0 = ap length none in omega (arith, long, ap length sent.parts, length-append sent.front rest)
