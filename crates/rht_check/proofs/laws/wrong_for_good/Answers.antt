use Rattle.std.proofs.Common.{◌∷◌, ◌++◌, ◌∙◌, ap, append_assoc}
use Rattle.rht_check.proofs.laws.wrong_for_good.Goals as goal

pub returns : goal.returns
returns c = λ kind commands claims more number wrong.
    let at = wrong.at in
    record {
      at = record {
        before = at.before;
        told = at.told;
        behind = at.behind ++ more;
        entries = at.entries;
        parts = ap (λ l. l ++ more) at.parts ∙ append_assoc at.before (at.told ∷ at.behind) more;
        counted = at.counted;
        right = at.right;
      };
      call = wrong.call;
      given = wrong.given;
      illegal = wrong.illegal;
    }
