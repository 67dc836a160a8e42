-- Everything that is promised is proved. Assumes nothing.
use Rattle.promises.specs.Promises.{Promises}
use Rattle.promises.proofs.Arithmetic.{request-d}
use Rattle.promises.proofs.Boards.{request-h, request-i, board-record}
use Rattle.promises.proofs.Codes.{codes}
use Rattle.promises.proofs.Commands.{request-b, commands}
use Rattle.promises.proofs.Conversion.{request-g}
use Rattle.promises.proofs.Exact.{exact}
use Rattle.promises.proofs.ForEver.{for-ever}
use Rattle.promises.proofs.Joins.{request-k}
use Rattle.promises.proofs.Latency.{request-c}
use Rattle.promises.proofs.Moves.{request-l}
use Rattle.promises.proofs.Readers.{request-m}
use Rattle.promises.proofs.Reports.{request-a}
use Rattle.promises.proofs.Tables.{request-j}
use Rattle.promises.proofs.Tails.{request-f}
use Rattle.promises.proofs.TextForm.{text-form}
use Rattle.promises.proofs.Total.{total}
use Rattle.promises.proofs.Trials.{request-e}

pub promises : Promises
promises =
    record {
      total = total;
      exact = exact;
      for-ever = for-ever;
      commands = commands;
      codes = codes;
      request-a = request-a;
      request-b = request-b;
      request-c = request-c;
      request-d = request-d;
      request-e = request-e;
      request-f = request-f;
      request-g = request-g;
      request-h = request-h;
      request-i = request-i;
      board-record = board-record;
      request-j = request-j;
      request-k = request-k;
      request-l = request-l;
      request-m = request-m;
      text-form = text-form;
    }
