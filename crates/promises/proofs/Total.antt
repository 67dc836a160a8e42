-- A refused call changes nothing. Assumes nothing.
use Rattle.model.specs.Says.Calls.{Call, call_of}
use Rattle.promises.specs.Total.{Total}
use Rattle.theorems_streams.specs.Lists.{Writer}
use Rattle.theorems_streams.proofs.Refused as Refused

pub total : Total
total =
    record {
      compile-keeps = λ program schedule buffer. Refused.writer-keeps buffer (Writer.compiles program schedule);
      call-keeps = λ lent state.
          elim [
            | Call.reset ↦ λ f. unfold call_of in (Refused.reset-keeps lent state f)
            | Call.cycle samples ↦ λ f. unfold call_of in (Refused.cycle-keeps lent state samples f)
          ];
    }
