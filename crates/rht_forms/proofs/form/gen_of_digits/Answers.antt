use Rattle.std.proofs.Common.{rules, ◌≡◌, ◌^◌, Bool, true, false, length, Some, None, Ok, Err, refl, sym}
use Rattle.std.specs.Prelude.{◌&&◌, nat_lt, if◌then◌else◌}
use Rattle.std.specs.Char.{is_ascii_digit}
use Rattle.std.specs.List.{list_all}
use Rattle.std.specs.Str.Parse.{digits_value}
use Rattle.std.proofs.lemmas.Bool.{lt-ltb, ltb-true}
use Rattle.std.proofs.lemmas.Str.Parse.{IsNumeralModel, numerals_by_value, parse_digits}
use Rattle.rht_forms.specs.declared.form.Form.{Form}
use Rattle.rht_forms.specs.declared.form.Form.TheVariants.{Gen}
use Rattle.rht_forms.proofs.form.gen_of_digits.Goals as goal

-- what digits are, and what they stand for
own : IsNumeralModel (λ digits. list_all is_ascii_digit digits ≡ true) (digits_value 10)
own = numerals_by_value (λ digits. list_all is_ascii_digit digits ≡ true) (search rules)

-- where one of two tests fails there is no form
without : (first second : Bool) (form : Form) → ((first ≡ true) × (second ≡ true) → ⊥)
    → (if first && second then Some form else None) ≡ None
without true true form fails = absurd (fails (refl, refl))
without true false form fails = refl
without false second form fails = refl

pub returns-in-Ok : goal.returns-in-Ok
returns-in-Ok c =
    let digits = c.args.digits.now in
    let value = digits_value 10 digits in
    let parsed = parse_digits own {E = Unit {0}} 32 digits (Ok c.in-Ok.number) c.in-Ok.ensures.value.0 c.requires in
    rw (parsed.1, lt-ltb 0 (length digits) parsed.0.0, lt-ltb value (2 ^ 32) parsed.0.1) refl

pub returns-in-Err : goal.returns-in-Err
returns-in-Err c =
    let digits = c.args.digits.now in
    let value = digits_value 10 digits in
    let parsed = parse_digits own 32 digits (Err c.in-Err.field-0) c.in-Err.ensures.value.0 c.requires in
    sym (without (nat_lt 0 (length digits)) (nat_lt value (2 ^ 32)) (Gen value)
    (λ both. parsed (ltb-true 0 (length digits) both.0, ltb-true value (2 ^ 32) both.1)))
