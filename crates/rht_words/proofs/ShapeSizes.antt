-- What a shape is read as is the size of a table, or its double.
use Rattle.std.proofs.Common.{min, max, ◌^◌, refl, arith}
use Rattle.rht_words.specs.Shapes.{size_of}
use Rattle.rht_words.specs.Sizes.{IsSizeUpTo}
use Rattle.rht_words.specs.declared.shape.Shape.{Shape}
use Rattle.rht_words.proofs.Rounding.{powers-rise}

pub IsSizeUpTo-size_of : (shape : Shape) → IsSizeUpTo (2 ^ 18) (size_of shape)
IsSizeUpTo-size_of shape =
    let exponent = max 2 (min shape.exponent 18) in
    record {
      power = (exponent, refl);
      least = powers-rise 2 exponent (omega arith);
      greatest = powers-rise exponent 18 (omega arith);
    }
