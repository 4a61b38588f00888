-- A port is read back from its text, and the text is a plain word. Digits have no dot, so the first dot of the text is the one
-- behind the net, and where there is no net the text has none.
use Rattle.std.proofs.Common.{◌≡◌, ℕ, ◌^◌, ◌<◌, ◌≤◌, ◌==◌, Bool, true, false, Some, None, Ok, List, [], ◌∷◌, ◌++◌, length, length-append, append_assoc, subst, refl, sym, ap, ◌∙◌, inl, inr, arith}
use Rattle.std.specs.Prelude.{codes, decimal, nat_le, nat_lt, position}
use Rattle.std.specs.Char.{is_ascii_digit}
use Rattle.std.specs.List.{list_all, position_or_len}
use Rattle.std.proofs.lemmas.Bool.{cases_Bool, and_parts, leb-true, lt-ltb, le-ltb, eq-eqb, eqb-true, eqb-false, ne_eqb}
use Rattle.std.proofs.Math.Seq.{take-append_seam, drop-append-add}
use Rattle.std.proofs.lemmas.Fmt.{length-decimal-le}
use Rattle.rht_words.specs.Ports.{port_at, net_of, number_of as number_in}
use Rattle.rht_script.specs.PortWords.{net_and_number, IsPortIn, net_limits, port_number_limits, cut_of, port_in, port_of_word, port_text}
use Rattle.rht_script.proofs.PlainWords.{digits_are, digits_few, number_of-decimal, IsPlainWord, IsPlainWord-decimal, IsPlainWord-dotted}

-- ---- dots

abbrev is_dot : ℕ → Bool
is_dot byte = byte == 46

no_dot : (byte : ℕ) → is_ascii_digit byte ≡ true → is_dot byte ≡ false
no_dot byte digit =
    let above : 48 ≤ byte = leb-true 48 byte (and_parts (nat_le 48 byte) (nat_le byte 57) digit).0 in
    ne_eqb byte 46 (λ same. absurd (omega (arith, above, same)))

-- by induction over the digits
place_none : (digits : List ℕ) → list_all is_ascii_digit digits ≡ true
    → position_or_len is_dot digits ≡ length digits
place_none [] are = refl
place_none (byte ∷ digits) are =
    let parts = and_parts (is_ascii_digit byte) (list_all is_ascii_digit digits) are in
    let behind = place_none digits parts.1 in
    rw (no_dot byte parts.0) (omega (arith, behind))

place_behind : (digits text : List ℕ) → list_all is_ascii_digit digits ≡ true
    → position_or_len is_dot (digits ++ 46 ∷ text) ≡ length digits
place_behind [] text are = refl
place_behind (byte ∷ digits) text are =
    let parts = and_parts (is_ascii_digit byte) (list_all is_ascii_digit digits) are in
    let behind = place_behind digits text parts.1 in
    rw (no_dot byte parts.0) (omega (arith, behind))

-- digits alone have no dot
dot_none : (digits : List ℕ) → list_all is_ascii_digit digits ≡ true → position is_dot digits ≡ None
dot_none digits are =
    let past : nat_lt (length digits) (length digits) ≡ false = le-ltb (length digits) (length digits) (omega arith) in
    rw (place_none digits are, past) refl

-- the first dot stands behind the digits
dot_behind : (digits text : List ℕ) → list_all is_ascii_digit digits ≡ true
    → position is_dot (digits ++ 46 ∷ text) ≡ Some (length digits)
dot_behind digits text are =
    let within : nat_lt (length digits) (length (digits ++ 46 ∷ text)) ≡ true =
    lt-ltb (length digits) (length (digits ++ 46 ∷ text)) (omega (arith, length-append digits (46 ∷ text))) in
    rw (place_behind digits text are, within) refl

-- ---- ports

module _ (form port : ℕ) (is : IsPortIn form port) where
  net_small : net_of port ≤ 65535
  net_small = omega (arith, is.0)

  number_small : number_in port < 2 ^ 32
  number_small = omega arith

  abbrev net_text : List ℕ
  net_text = decimal (net_of port)

  abbrev number_text : List ℕ
  number_text = decimal (number_in port)

  dotted : net_text ++ codes "." ++ number_text ≡ net_text ++ 46 ∷ number_text
  dotted = append_assoc net_text (codes ".") number_text

  number_read : (net : ℕ) → port_at net (number_in port) ≡ port → port_in net number_text ≡ Ok port
  number_read net same =
      rw (number_of-decimal (number_in port) number_small port_number_limits (omega arith, omega (arith, number_small)))
      (ap (λ p. Ok p) same)

  no_cut : cut_of form number_text ≡ None
  no_cut =
      let none = dot_none number_text (digits_are (number_in port) number_small).0 in
      elim (cases_Bool (form == net_and_number)) [
        | inl two ↦ rw two none
        | inr other ↦ rw other refl
      ]

  cut_behind : form ≡ net_and_number → cut_of form (net_text ++ 46 ∷ number_text) ≡ Some (length net_text)
  cut_behind two =
      rw (eq-eqb form net_and_number two)
      (dot_behind net_text number_text (digits_are (net_of port) (omega (arith, net_small))).0)

  both_read : form ≡ net_and_number → port_of_word form (net_text ++ 46 ∷ number_text) ≡ Ok port
  unfolding port_of_word
  both_read two =
      let net_read = number_of-decimal (net_of port) (omega (arith, net_small)) net_limits (omega arith, net_small) in
      rw (cut_behind two, take-append_seam net_text (46 ∷ number_text), drop-append-add net_text (46 ∷ number_text) 1, net_read)
      (number_read (net_of port) (omega arith))

  pub port_of_word-text : port_of_word form (port_text port) ≡ Ok port
  unfolding port_of_word port_text
  port_of_word-text = elim (cases_Bool (net_of port == 0)) [
    | inl none ↦
        let no_net = eqb-true (net_of port) 0 none in
        rw (none, no_cut) (number_read 0 (omega (arith, no_net)))
    | inr some ↦
        rw some (elim is.1 [
          | inl two ↦ ap (port_of_word form) dotted ∙ both_read two
          | inr none ↦ absurd (eqb-false (net_of port) 0 some none)
        ])
  ]

  pub IsPlainWord-port_text : IsPlainWord (port_text port)
  unfolding port_text
  IsPlainWord-port_text =
      let number = IsPlainWord-decimal (number_in port) number_small in
      let net = IsPlainWord-decimal (net_of port) (omega (arith, net_small)) in
      elim (cases_Bool (net_of port == 0)) [
        | inl none ↦ rw none number
        | inr some ↦
            let net_few = length-decimal-le 5 (net_of port) (omega arith) (omega (arith, net_small)) (omega (arith, net_small)) in
            rw some (subst IsPlainWord (sym dotted) (IsPlainWord-dotted net_text number_text net number
            (omega (arith, net_few, digits_few (number_in port) number_small))))
      ]

-- ---- what is printed of a net and a number

module _ (port net number : ℕ) (is : port_at net number ≡ port) (small : number < 2 ^ 32) where
  net_is : net_of port ≡ net
  net_is = omega (arith, is, small)

  number_is : number_in port ≡ number
  number_is = omega (arith, is, small)

  pub port_text-plain : net ≡ 0 → decimal number ≡ port_text port
  unfolding port_text
  port_text-plain none = rw (net_is, number_is, eq-eqb net 0 none) refl

  pub port_text-net : (net ≡ 0 → ⊥) → decimal net ++ codes "." ++ decimal number ≡ port_text port
  unfolding port_text
  port_text-net some = rw (net_is, number_is, ne_eqb net 0 some) refl
