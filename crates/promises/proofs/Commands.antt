-- Request b, and how commands are decoded. Assumes nothing.
use Rattle.promises.specs.Commands.{RequestB, Commands}
use Rattle.model.proofs.Texts.Written as Written
use Rattle.theorems_texts.proofs.Enums as Enums
use Rattle.theorems_texts.proofs.Widths as Widths

pub request-b : RequestB
request-b = record { widths-listed = Widths.widths-listed }

pub commands : Commands
commands =
    record {
      declaration-written = Written.declaration-written;
      operator-written = Written.operator-written;
      put_written = Written.put_written;
      code-written = Written.code-written;
      declaration-bytes = λ text at c r b. Enums.declaration-stands c r (Enums.stands b);
      operator-bytes = λ text at c r b. Enums.operator-stands c r (Enums.stands b);
      put-bytes = λ text at c r b. Enums.put-stands c r (Enums.stands b);
      code-bytes = λ code at c r b. Enums.code-stands c r (Enums.stands b);
      declaration-cut = Written.declaration-cut;
      declaration-outside = Written.declaration-outside;
      declaration-unknown = Written.declaration-unknown;
      operator-cut = Written.operator-cut;
      operator-outside = Written.operator-outside;
      operator-unknown = Written.operator-unknown;
      put-cut = Written.put-cut;
      put-unknown = Written.put-unknown;
    }
