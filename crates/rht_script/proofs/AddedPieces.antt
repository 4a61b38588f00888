-- Pieces of a text that were added one after another were added as one text: where a piece was added and
-- then another, both were; where one failed, a prefix of all of them was put.
use Rattle.std.proofs.Common.{◌≡◌, ℕ, List, [], ◌++◌, Option, Result, Ok, Err, IsErr, OnOk, refl, sym, ap, ◌∙◌, subst, append_assoc, append-nil, arith}
use Rattle.std.proofs.KnownBytes.{Appends-trans}
use Rattle.std.specs.Io.KnownBytes.{Appends}
use Rattle.rht_io.specs.Told.{AppendsPrefix, Puts}
use Rattle.rht_io.proofs.ToldLemmas.{Rose-after_kept, AppendsPrefix-after, AppendsPrefix-longer, Puts-passed_on}
use Rattle.rht_script.specs.Writing.{Adds}

-- two fronts, and what waits behind the second
pub fronts : (front behind waited between waits xs ys : List ℕ)
    → front ++ between ≡ waited ++ xs → behind ++ waits ≡ between ++ ys
    → (front ++ behind) ++ waits ≡ waited ++ (xs ++ ys)
fronts front behind waited between waits xs ys first second =
    append_assoc front behind waits ∙ ap (λ l. front ++ l) second ∙ sym (append_assoc front between ys)
    ∙ ap (λ l. l ++ ys) first ∙ append_assoc waited xs ys

-- a front, and all that comes behind it
pub front_and_rest : (front between waited xs ys : List ℕ)
    → front ++ between ≡ waited ++ xs → front ++ (between ++ ys) ≡ waited ++ (xs ++ ys)
front_and_rest front between waited xs ys first =
    sym (append_assoc front between ys) ∙ ap (λ l. l ++ ys) first ∙ append_assoc waited xs ys

module _ {S E : Type 0} (held : S → Option (List ℕ)) (faults : S → ℕ) where
  -- a piece was added, and then another or a prefix of it
  both : (a b c : S) (r : Result (Unit {0}) E) (waited between waits xs ys : List ℕ)
      → Adds {E = E} held faults a b (Ok tt) waited between xs → Adds held faults b c r between waits ys
      → Adds held faults a c r waited waits (xs ++ ys)
  both a b c (Ok done) waited between waits xs ys first second =
      let front = first.added.0 in
      let behind = second.added.0 in
      record {
        added = (
          front ++ behind,
          Appends-trans (held a) (held b) (held c) front behind first.added.1 second.added.1,
          fronts front behind waited between waits xs ys first.added.2 second.added.2,
        );
        prefix = tt;
        failed = tt;
        kept = omega arith;
      }
  both a b c (Err e) waited between waits xs ys first second =
      let front = first.added.0 in
      record {
        added = tt;
        prefix = subst (AppendsPrefix (held a) (held c))
            (front_and_rest front between waited xs ys first.added.2)
            (AppendsPrefix-after (held a) (held b) (held c) front (between ++ ys) first.added.1
            second.prefix);
        failed = Rose-after_kept (faults a) (faults b) (faults c) first.kept second.failed;
        kept = omega arith;
      }

  -- a piece that failed is one of any longer text
  longer : (a b : S) (e : E) (waited waits xs ys : List ℕ)
      → Adds held faults a b (Err e) waited waits xs → Adds held faults a b (Err e) waited waits (xs ++ ys)
  longer a b e waited waits xs ys piece = record {
    added = tt;
    prefix = subst (AppendsPrefix (held a) (held b)) (append_assoc waited xs ys)
        (AppendsPrefix-longer (held a) (held b) (waited ++ xs) ys piece.prefix);
    failed = piece.failed;
    kept = piece.kept;
  }

  -- a failure that is passed on says the same, whatever waits
  passed_on : (a b : S) (e : E) (r : Result (Unit {0}) E) (waited between waits xs : List ℕ)
      → Adds held faults a b (Err e) waited between xs → IsErr r → Adds held faults a b r waited waits xs
  passed_on a b e (Ok done) waited between waits xs piece failed = absurd (cc)
  passed_on a b e (Err f) waited between waits xs piece failed =
      record { added = tt; prefix = piece.prefix; failed = piece.failed; kept = piece.kept }

  -- a text was added where nothing waited, and nothing waits behind it
  all_put : (a b : S) (r : Result (Unit {0}) E) (waits text : List ℕ)
      → Adds held faults a b r [] waits text → OnOk r (waits ≡ []) → Puts held faults a b r text
  all_put a b (Ok done) waits text text_added none =
      let front = text_added.added.0 in
      let whole : front ≡ text = sym (append-nil front) ∙ ap (λ l. front ++ l) (sym none)
      ∙ text_added.added.2 in
      record {
        whole = subst (Appends (held a) (held b)) whole text_added.added.1;
        prefix = tt;
        failed = tt;
        kept = text_added.kept;
      }
  all_put a b (Err e) waits text text_added none =
      record { whole = tt; prefix = text_added.prefix; failed = text_added.failed; kept = text_added.kept }

-- the same with what a premise shows left out
module _ {S E : Type 0} {held : S → Option (List ℕ)} {faults : S → ℕ} {a b : S} where
  -- a piece was added, and then another or a prefix of it
  pub Adds-then : {c : S} {r : Result (Unit {0}) E} {waited between waits xs ys : List ℕ}
      → Adds {E = E} held faults a b (Ok tt) waited between xs → Adds held faults b c r between waits ys
      → Adds held faults a c r waited waits (xs ++ ys)
  Adds-then {c = c} {r = r} {waited = waited} {between = between} {waits = waits} {xs = xs} {ys = ys}
      first second =
      both held faults a b c r waited between waits xs ys first second

  -- a piece that failed is one of any longer text
  pub Adds-longer : {e : E} {waited waits xs : List ℕ} (ys : List ℕ)
      → Adds held faults a b (Err e) waited waits xs → Adds held faults a b (Err e) waited waits (xs ++ ys)
  Adds-longer {e = e} {waited = waited} {waits = waits} {xs = xs} ys piece =
      longer held faults a b e waited waits xs ys piece

  -- a failure that is passed on, as by a `?`
  pub Adds-passed_on : {e : E} {r : Result (Unit {0}) E} {waited between waits xs : List ℕ}
      → Adds held faults a b (Err e) waited between xs → IsErr r → Adds held faults a b r waited waits xs
  Adds-passed_on {e = e} {r = r} {waited = waited} {between = between} {waits = waits} {xs = xs} piece
      failed =
      passed_on held faults a b e r waited between waits xs piece failed

  -- the same text
  pub Adds-same : {r : Result (Unit {0}) E} {waited waits xs ys : List ℕ}
      → Adds held faults a b r waited waits xs → xs ≡ ys → Adds held faults a b r waited waits ys
  Adds-same {r = r} {waited = waited} {waits = waits} piece same =
      subst (Adds held faults a b r waited waits) same piece

  -- a text was added where nothing waited, and nothing waits behind it
  pub Puts-of_adds : {r : Result (Unit {0}) E} {waited waits text : List ℕ}
      → Adds held faults a b r waited waits text → waited ≡ [] → OnOk r (waits ≡ [])
      → Puts held faults a b r text
  Puts-of_adds {r = r} {waited = waited} {waits = waits} {text = text} text_added none_before none_behind =
      all_put held faults a b r waits text (subst (λ w. Adds held faults a b r w waits text) none_before
      text_added) none_behind

  -- a text where nothing waited failed, and that is passed on
  pub Puts-of_failed_adds : {e : E} {r : Result (Unit {0}) E} {waited waits text : List ℕ}
      → Adds held faults a b (Err e) waited waits text → waited ≡ [] → IsErr r → Puts held faults a b r text
  Puts-of_failed_adds {e = e} {r = r} {text = text} text_added none_before failed =
      Puts-passed_on held faults a b (Err e) r text refl failed (Puts-of_adds text_added none_before tt)

  -- a text was added where nothing waited, and then all that waited was put
  pub Puts-of_put : {c : S} {r : Result (Unit {0}) E} {waited between waits text : List ℕ}
      → Adds {E = E} held faults a b (Ok tt) waited between text → Adds held faults b c r between waits []
      → waited ≡ [] → OnOk r (waits ≡ []) → Puts held faults a c r text
  Puts-of_put {c = c} {r = r} {waited = waited} {between = between} {waits = waits} {text = text} added
      put none_before none_behind =
      let both_added : Adds held faults a c r waited waits text =
      subst (Adds held faults a c r waited waits) (append-nil text)
      (both held faults a b c r waited between waits text [] added put) in
      all_put held faults a c r waits text (subst (λ w. Adds held faults a c r w waits text) none_before
      both_added) none_behind

-- a text that was put between two states was put between the same states under other names
pub Puts-between : {S E : Type 0} {held : S → Option (List ℕ)} {faults : S
    → ℕ} {a b c d : S} {r : Result (Unit {0}) E} {text : List ℕ}
    → a ≡ b → c ≡ d → Puts held faults a c r text → Puts held faults b d r text
Puts-between {held = held} {faults = faults} {b = b} {c = c} {r = r} {text = text} before after put =
    subst (λ s. Puts held faults b s r text) after (subst (λ s. Puts held faults s c r text) before put)
