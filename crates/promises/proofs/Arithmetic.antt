-- Request d. Assumes nothing.
use Rattle.promises.specs.Arithmetic.{RequestD}
use Rattle.theorems_images.proofs.Nearest as Nearest
use Rattle.theorems_images.proofs.Operators as Operators

pub request-d : RequestD
request-d =
    record {
      words-range = Nearest.words-range;
      nearest-word = Nearest.nearest-word;
      operators-listed = Operators.operators-listed;
      operators-give = Operators.operators-give;
    }
