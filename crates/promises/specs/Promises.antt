-- All that Larderlate promises beside the contracts: the three demands, then request by request.
use Rattle.promises.specs.Arithmetic.{RequestD}
use Rattle.promises.specs.Boards.{RequestH, RequestI, BoardRecord}
use Rattle.promises.specs.Codes.{Codes}
use Rattle.promises.specs.Commands.{RequestB, Commands}
use Rattle.promises.specs.Conversion.{RequestG}
use Rattle.promises.specs.Exact.{Exact}
use Rattle.promises.specs.ForEver.{ForEver}
use Rattle.promises.specs.Joins.{RequestK}
use Rattle.promises.specs.Latency.{RequestC}
use Rattle.promises.specs.Moves.{RequestL}
use Rattle.promises.specs.Readers.{RequestM}
use Rattle.promises.specs.Reports.{RequestA}
use Rattle.promises.specs.Tables.{RequestJ}
use Rattle.promises.specs.Tails.{RequestF}
use Rattle.promises.specs.TextForm.{TextForm}
use Rattle.promises.specs.Total.{Total}
use Rattle.promises.specs.Trials.{RequestE}

pub record Promises : Type 0 where
  pub total : Total
  pub exact : Exact
  pub for-ever : ForEver
  pub commands : Commands
  pub codes : Codes
  pub request-a : RequestA
  pub request-b : RequestB
  pub request-c : RequestC
  pub request-d : RequestD
  pub request-e : RequestE
  pub request-f : RequestF
  pub request-g : RequestG
  pub request-h : RequestH
  pub request-i : RequestI
  pub board-record : BoardRecord
  pub request-j : RequestJ
  pub request-k : RequestK
  pub request-l : RequestL
  pub request-m : RequestM
  pub text-form : TextForm
