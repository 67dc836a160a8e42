-- Request c. Assumes nothing.
use Rattle.promises.specs.Latency.{RequestC}
use Rattle.theorems_pairs.proofs.Latency as Latency
use Rattle.theorems_pairs.proofs.Terms as Terms

pub request-c : RequestC
request-c = record { latency-is = Terms.latency-is; no-zero-bound = Latency.no-zero-bound }
