-- What is known of told bytes and of faults adds up over calls: where a text was put and then
-- another, both were put, one after the other, and a fault of a part is a fault of the whole.
use Rattle.std.proofs.Common.{◌≡◌, ℕ, zero, suc, ◌+◌, ◌≤◌, List, [], ◌∷◌, ◌++◌, length, take, Option, Result, Ok, Err, IsErr, refl, sym, ap, subst, inl, inr, arith}
use Rattle.std.proofs.Math.Seq.{take-append-add}
use Rattle.std.proofs.KnownBytes.{Appends-nil, Appends-trans, Appends-kept}
use Rattle.std.specs.Io.KnownBytes.{Appends, Keeps}
use Rattle.rht_io.specs.Told.{Rose, AppendsPrefix, Puts}

-- ---- a count of faults

-- a count that rose after it was kept
pub Rose-after_kept : (before mid after : ℕ) → before ≤ mid → Rose mid after → Rose before after
Rose-after_kept before mid after kept (inl less) = inl (omega arith)
Rose-after_kept before mid after kept (inr last) = inr last

-- ---- bytes that grow by a prefix

-- a prefix of a text is one of a longer text
pub take_of_longer : (n : ℕ) (xs ys : List ℕ) → (m : ℕ) × (take m (xs ++ ys) ≡ take n xs)
take_of_longer zero xs ys = (0, refl)
take_of_longer (suc n) [] ys = (0, refl)
take_of_longer (suc n) (x ∷ xs) ys =
    let shorter = take_of_longer n xs ys in (suc shorter.0, ap (λ l. x ∷ l) shorter.1)

-- a text was put, and then a prefix of another
pub AppendsPrefix-after : (a b c : Option (List ℕ)) (xs ys : List ℕ)
    → Appends a b xs → AppendsPrefix b c ys → AppendsPrefix a c (xs ++ ys)
AppendsPrefix-after a b c xs ys put more = (
  length xs + more.0,
  subst (Appends a c) (sym (take-append-add xs ys more.0))
      (Appends-trans a b c xs (take more.0 ys) put more.1),
)

pub AppendsPrefix-longer : (a b : Option (List ℕ)) (xs ys : List ℕ) → AppendsPrefix a b xs
    → AppendsPrefix a b (xs ++ ys)
AppendsPrefix-longer a b xs ys put =
    let longer = take_of_longer put.0 xs ys in (longer.0, subst (Appends a b) (sym longer.1) put.1)

-- ---- puts, one after another

module _ {S E : Type 0} (held : S → Option (List ℕ)) (faults : S → ℕ) where
  -- a text was put, and then another or a prefix of it
  pub Puts-after : (a b c : S) (r : Result (Unit {0}) E) (xs ys : List ℕ)
      → Puts {E = E} held faults a b (Ok tt) xs → Puts held faults b c r ys
      → Puts held faults a c r (xs ++ ys)
  Puts-after a b c (Ok done) xs ys put more = record {
    whole = Appends-trans (held a) (held b) (held c) xs ys put.whole more.whole;
    prefix = tt;
    failed = tt;
    kept = omega arith;
  }
  Puts-after a b c (Err e) xs ys put more = record {
    whole = tt;
    prefix = AppendsPrefix-after (held a) (held b) (held c) xs ys put.whole more.prefix;
    failed = Rose-after_kept (faults a) (faults b) (faults c) put.kept more.failed;
    kept = omega arith;
  }

  -- a call that failed put nothing of any text
  pub Puts-of_failed : (a b : S) (e : E) (xs : List ℕ)
      → Keeps (held a) (held b) → Rose (faults a) (faults b) → faults a ≤ faults b
      → Puts held faults a b (Err e) xs
  Puts-of_failed a b e xs same rose kept = record {
    whole = tt;
    prefix = (0, Appends-kept (held a) (held a) (held b) [] (Appends-nil (held a)) same);
    failed = rose;
    kept = kept;
  }

  -- a prefix of a text is one of a longer text
  pub Puts-longer : (a b : S) (e : E) (xs ys : List ℕ) → Puts held faults a b (Err e) xs
      → Puts held faults a b (Err e) (xs ++ ys)
  Puts-longer a b e xs ys put = record {
    whole = tt;
    prefix = AppendsPrefix-longer (held a) (held b) xs ys put.prefix;
    failed = put.failed;
    kept = put.kept;
  }

  -- a call that put a text
  pub Puts-of_put : (a b : S) (xs : List ℕ) → Appends (held a) (held b) xs → faults a ≤ faults b
      → Puts {E = E} held faults a b (Ok tt) xs
  Puts-of_put a b xs put kept = record { whole = put; prefix = tt; failed = tt; kept = kept }

-- a failure that is passed on, as by a `?`, says the same under another error
pub Puts-passed_on : {S E F : Type 0} (held : S → Option (List ℕ)) (faults : S
    → ℕ) (a b : S) (q : Result (Unit {0}) E) (r : Result (Unit {0}) F) (xs : List ℕ)
    → IsErr q → IsErr r → Puts held faults a b q xs → Puts held faults a b r xs
Puts-passed_on held faults a b (Ok done) r xs failed passed put = absurd (cc)
Puts-passed_on held faults a b (Err e) (Ok done) xs failed passed put = absurd (cc)
Puts-passed_on held faults a b (Err e) (Err f) xs failed passed put =
    record { whole = tt; prefix = put.prefix; failed = put.failed; kept = put.kept }

-- a failure that is passed on is one of any longer text
pub Puts-failed : {S E F : Type 0} (held : S → Option (List ℕ)) (faults : S → ℕ) (a b : S) (e : E) (r : Result (Unit {0}) F)
    (xs ys : List ℕ) → Puts held faults a b (Err e) xs → IsErr r → Puts held faults a b r (xs ++ ys)
Puts-failed held faults a b e r xs ys put failed =
    Puts-passed_on held faults a b (Err e) r (xs ++ ys) refl failed (Puts-longer held faults a b e xs ys put)
